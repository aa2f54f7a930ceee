-- A text is cut at its first dot.
use Rattle.std.proofs.Common.{◌≡◌, refl, sym, ◌∙◌, ap, subst, ℕ, ◌+◌, List, [], ◌∷◌, ◌++◌, ◌==◌, cond, Option, Some, None, length, take, take-append-drop, arith, lit<}
use Rattle.std.specs.Prelude.{chars, IsUtf8, IsCharBoundary}
use Rattle.std.specs.Option.{option_or}
use Rattle.std.specs.Str.{NonePass, NoCharPasses}
use Rattle.std.specs.Str.Pattern.{SplitsAroundMatch, FindsChar}
use lib.Utf8.{encode, encodes}
use Rattle.std.proofs.lemmas.Str.{encode_ascii, length-encode, encodes-chars, chars-append, chars_from_encodes, chars_past_char, IsUtf8-append, IsUtf8-encode, IsUtf8-take, IsUtf8-drop, IsCharBoundary-before_ascii}
use Rattle.std.proofs.lemmas.Str.Pattern.{drop_at_char}
use Rattle.std.proofs.lemmas.List.{length-append}
use Rattle.pts_names.specs.Name.{identifier_fault, parts, width, with_first, parts_fault}
use Rattle.pts_names.specs.declared.fault.NameFault.{NameFault}

pub width_encodes : (cs : List ℕ) → width cs ≡ length (encodes cs)
width_encodes [] = refl
width_encodes (c ∷ cs) = let e = width_encodes cs in omega (arith, length-encode c, length-append (encode c) (encodes cs))

pub width_chars : (text : List ℕ) → IsUtf8 text → width (chars text) ≡ length text
width_chars text utf8 = width_encodes (chars text) ∙ ap length (encodes-chars text utf8)

abbrev pub NoDot : List ℕ → Type 0
NoDot = NonePass (λ c. c == 46)

pub parts_one : (w : List ℕ) → NoDot w → parts w ≡ w ∷ []
parts_one [] n = refl
parts_one (c ∷ w) n = ap (λ b. cond b ([] ∷ parts w) (with_first c (parts w))) n.0 ∙ ap (with_first c) (parts_one w n.1)

pub parts_cut : (w cs : List ℕ) → NoDot w → parts (w ++ (46 ∷ cs)) ≡ w ∷ parts cs
parts_cut [] cs n = refl
parts_cut (c ∷ w) cs n = ap (λ b. cond b ([] ∷ parts (w ++ (46 ∷ cs))) (with_first c (parts (w ++ (46 ∷ cs))))) n.0 ∙ ap (with_first c) (parts_cut w cs n.1)

pub no_dot : (text : List ℕ) → IsUtf8 text → NoCharPasses (λ c. c == 46) text → NoDot (chars text)
no_dot text utf8 (cs, spelled, none) = subst NoDot (chars_from_encodes cs text utf8 spelled) none

pub cut_text : (text part behind : List ℕ) → SplitsAroundMatch (FindsChar 46) text part behind → text ≡ part ++ (46 ∷ behind)
cut_text text part behind (i, j, found, front, back, _, _, _) =
    sym (take-append-drop i text) ∙ ap (λ l. take i text ++ l) (drop_at_char 46 text i j found.1 (lit< tt)) ∙ λ k. sym front k ++ (46 ∷ sym back k)

pub cut_utf8 : (text part behind : List ℕ) → IsUtf8 text → SplitsAroundMatch (FindsChar 46) text part behind → IsUtf8 part × IsUtf8 behind
cut_utf8 text part behind utf8 (i, j, found, front, back, _, _, long) =
    let dot = found.1.byte (lit< tt) in
    let ends : j ≡ i + 1 = found.1.ends in (
      subst IsUtf8 (sym front) (IsUtf8-take text i utf8 (IsCharBoundary-before_ascii text i (omega arith) (omega arith))),
      subst IsUtf8 (sym back) (IsUtf8-drop text j utf8 (subst (IsCharBoundary text) (sym found.1.ends) found.1.after)),
    )

pub cut_chars : (part behind : List ℕ) → IsUtf8 part → IsUtf8 behind → chars (part ++ (46 ∷ behind)) ≡ chars part ++ (46 ∷ chars behind)
cut_chars part behind u v =
    let dot : encode 46 ≡ 46 ∷ [] = encode_ascii 46 (lit< tt) in
    let w : IsUtf8 (encode 46 ++ behind) = IsUtf8-append (encode 46) behind (IsUtf8-encode 46 refl) v in
    let e : chars (46 ∷ behind) ≡ 46 ∷ chars behind = ap (λ l. chars (l ++ behind)) (sym dot) ∙ chars_past_char (encode 46 ++ behind) behind 46 w refl in
    chars-append part (46 ∷ behind) u ∙ ap (λ l. chars part ++ l) e

-- the parts of a text with no dot, and of one that is cut at its first dot
pub one_part : (text : List ℕ) → IsUtf8 text → NoCharPasses (λ c. c == 46) text → parts (chars text) ≡ chars text ∷ []
one_part text utf8 none = parts_one (chars text) (no_dot text utf8 none)

pub cut_parts : (text part behind : List ℕ) → IsUtf8 text → SplitsAroundMatch (FindsChar 46) text part behind → parts (chars text) ≡ chars part ∷ parts (chars behind)
cut_parts text part behind utf8 split =
    let (u, v) = cut_utf8 text part behind utf8 split in
    let none = no_dot part u (subst (NoCharPasses (λ c. c == 46)) (sym split.3) split.2.0) in
    ap parts (ap chars (cut_text text part behind split) ∙ cut_chars part behind u v) ∙ parts_cut (chars part) (chars behind) none

-- their faults
pub one_part_fault : (place : ℕ) (text : List ℕ) → IsUtf8 text → NoCharPasses (λ c. c == 46) text → parts_fault place (parts (chars text)) ≡ identifier_fault place (chars text)
one_part_fault place text utf8 none = ap (parts_fault place) (one_part text utf8 none) ∙ alone (identifier_fault place (chars text))
  where
    alone : (o : Option NameFault) → option_or o None ≡ o
    alone None = refl
    alone (Some fault) = refl

pub cut_fault : (place : ℕ) (text part behind : List ℕ) → IsUtf8 text → SplitsAroundMatch (FindsChar 46) text part behind → parts_fault place (parts (chars text)) ≡ option_or (identifier_fault place (chars part)) (parts_fault (place + (length part + 1)) (parts (chars behind)))
cut_fault place text part behind utf8 split =
    let wide = width_chars part (cut_utf8 text part behind utf8 split).0 in
    let next : place + width (chars part) + 1 ≡ place + (length part + 1) = omega arith in
    ap (parts_fault place) (cut_parts text part behind utf8 split) ∙ ap (λ p. option_or (identifier_fault place (chars part)) (parts_fault p (parts (chars behind)))) next
