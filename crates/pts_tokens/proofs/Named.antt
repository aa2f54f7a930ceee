-- A name of the text is a name, if it is not too long.
use Rattle.std.proofs.Common.{◌≡◌, ◌≢◌, refl, sym, ◌∙◌, ap, ℕ, zero, suc, ◌+◌, ◌≤◌, List, [], ◌∷◌, ◌++◌, Bool, true, false, cond, not, ◌&&◌, ◌||◌, ◌==◌, Some, None, is_none, map, length, arith, lit<, IsTrue}
use Rattle.std.specs.Prelude.{take_while}
use Rattle.std.specs.List.{AllByRecursion}
use Rattle.std.specs.Char.{len_utf8}
use lib.Utf8.{encodes, scalars}
use Rattle.std.proofs.lemmas.Str.{encode_ascii, encodes-append, chars-encodes}
use Rattle.std.proofs.lemmas.List.Sums.{take_while-cons}
use Rattle.pts_names.specs.Name.{starts_identifier, continues_identifier, identifier_fault, rest_fault, is_identifier, is_keyword, name_fault}
use Rattle.pts_names.specs.Dotted.{dotted}
use Rattle.pts_names.specs.declared.fault.NameFault.TheVariants.{BadPart, BadStart}
use Rattle.pts_names.proofs.Dotted.{names_are_dotted}
use Rattle.pts_tokens.specs.Tokens.{word, begins_identifier, further, name}
use Rattle.pts_tokens.proofs.Cuts.{scalars_parts}
use Rattle.pts_tokens.proofs.Words.{word_cut, name_cut}

run_is_sound : (place : ℕ) (cs : List ℕ) → rest_fault place (take_while continues_identifier cs) ≡ None
run_is_sound place [] = refl
run_is_sound place (c ∷ cs) = by (continues_identifier c) (take_while continues_identifier (c ∷ cs)) refl (take_while-cons continues_identifier c cs) (run_is_sound (place + len_utf8 c) cs)
  where
    by : (b : Bool) (w : List ℕ) → continues_identifier c ≡ b → w ≡ cond b (c ∷ take_while continues_identifier cs) [] → rest_fault (place + len_utf8 c) (take_while continues_identifier cs) ≡ None → rest_fault place w ≡ None
    by true w e f rest = ap (rest_fault place) f ∙ (ap (λ b. cond b (rest_fault (place + len_utf8 c) (take_while continues_identifier cs)) (Some (BadPart place))) e ∙ rest)
    by false w e f rest = ap (rest_fault place) f

-- A word that is no keyword is an identifier.
pub word_is_sound : (cs : List ℕ) → word cs ≢ [] → is_keyword (word cs) ≡ false → begins_identifier cs ≡ true
word_is_sound [] some ordinary = absurd (some refl)
word_is_sound (c ∷ cs) some ordinary = by (starts_identifier c) refl some ordinary
  where
    by : (b : Bool) → starts_identifier c ≡ b → cond b (c ∷ take_while continues_identifier cs) [] ≢ [] → is_keyword (cond b (c ∷ take_while continues_identifier cs) []) ≡ false → is_none (identifier_fault 0 (cond b (c ∷ take_while continues_identifier cs) [])) ≡ true
    by true e some ordinary =
        let w = take_while continues_identifier cs in
        ap (λ a. is_none (cond (a || not (starts_identifier c)) (Some (BadStart 0)) (rest_fault (0 + len_utf8 c) w))) ordinary
        ∙ (ap (λ b. is_none (cond (not b) (Some (BadStart 0)) (rest_fault (0 + len_utf8 c) w))) e
        ∙ ap is_none (run_is_sound (0 + len_utf8 c) cs))
    by false e some ordinary = absurd (some refl)

-- The parts are identifiers.
AreIdentifiers : List (List ℕ) → Type 0
AreIdentifiers ws = AllByRecursion (λ w. IsTrue (is_identifier w)) (map encodes ws)

one_identifier : (w : List ℕ) → scalars w ≡ true → is_none (identifier_fault 0 w) ≡ true → is_identifier (encodes w) ≡ true
unfolding is_identifier
one_identifier w s e = ap (λ v. is_none (identifier_fault 0 v)) (chars-encodes w s) ∙ e

word_scalars : (cs : List ℕ) → scalars cs ≡ true → scalars (word cs) ≡ true
word_scalars cs s = (scalars_parts (word cs) _ (ap scalars (word_cut cs) ∙ s)).0

further_identifiers : (n : ℕ) (cs : List ℕ) → scalars cs ≡ true → AreIdentifiers (further n cs)
unfolding AreIdentifiers
further_identifiers n [] s = tt
further_identifiers (suc n) (c ∷ cs) s = further_identifiers n cs (scalars_parts (c ∷ []) cs s).1
further_identifiers zero (c ∷ cs) s = by (c == 46) (begins_identifier cs) refl (further_identifiers (length (word cs)) cs (scalars_parts (c ∷ []) cs s).1)
  where
    by : (a b : Bool) → begins_identifier cs ≡ b → AreIdentifiers (further (length (word cs)) cs) → AreIdentifiers (cond (a && b) (word cs ∷ further (length (word cs)) cs) [])
    by true true e rest = (one_identifier (word cs) (word_scalars cs (scalars_parts (c ∷ []) cs s).1) e, rest)
    by true false e rest = tt
    by false b e rest = tt

dotted_encodes : (ws : List (List ℕ)) → dotted (map encodes ws) ≡ encodes (dotted ws)
dotted_encodes [] = refl
dotted_encodes (w ∷ []) = refl
dotted_encodes (w ∷ v ∷ ws) =
    ap (λ l. encodes w ++ (46 ∷ l)) (dotted_encodes (v ∷ ws))
    ∙ (ap (λ l. encodes w ++ (l ++ encodes (dotted (v ∷ ws)))) (sym (encode_ascii 46 (lit< tt)))
    ∙ sym (encodes-append w (46 ∷ dotted (v ∷ ws))))

pub name_is_sound : (cs : List ℕ) → scalars cs ≡ true → begins_identifier cs ≡ true → length (encodes (name cs)) ≤ 128 → name_fault (encodes (name cs)) ≡ None
unfolding AreIdentifiers
name_is_sound cs s e fits =
    let ws = word cs ∷ further (length (word cs)) cs in
    let spelled : dotted (map encodes ws) ≡ encodes (name cs) = dotted_encodes ws in
    let good : scalars (name cs) ≡ true = (scalars_parts (name cs) (name_cut cs).0 (ap scalars (name_cut cs).1 ∙ s)).0 in
    (names_are_dotted (encodes (name cs)) (name cs, (good, refl))).1 (map encodes ws, omega arith, (one_identifier (word cs) (word_scalars cs s) e, further_identifiers (length (word cs)) cs s), spelled, fits)
