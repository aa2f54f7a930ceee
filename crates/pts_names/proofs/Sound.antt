-- What is known of a name, and that two names joined by a dot are a name.
use Rattle.std.proofs.Common.{◌≡◌, refl, sym, ◌∙◌, ap, ℕ, ◌+◌, ◌<◌, ◌≤◌, List, [], ◌∷◌, ◌++◌, Bool, true, false, nat_lt, not, ◌||◌, ◌==◌, cond, Option, Some, None, length, arith}
use Rattle.std.specs.Prelude.{chars, IsUtf8}
use Rattle.std.specs.Option.{option_or}
use Rattle.std.specs.Char.{len_utf8}
use Rattle.std.proofs.lemmas.Bool.{ltb-false, le-ltb}
use Rattle.std.proofs.lemmas.List.{length-append}
use Rattle.pts_names.specs.Name.{Name, continues_identifier, starts_identifier, is_keyword, rest_fault, identifier_fault, parts, with_first, width, parts_fault, name_fault, joined}
use Rattle.pts_names.specs.declared.fault.NameFault.{NameFault}
use Rattle.pts_names.specs.declared.fault.NameFault.TheVariants.{BadStart, BadPart, TooLong}
use Rattle.pts_names.proofs.Parts.{cut_chars}

-- no fault on either side of a choice
pub sound_else : (b : Bool) (x : Option NameFault) (fault : NameFault) → cond b x (Some fault) ≡ None → (b ≡ true) × (x ≡ None)
sound_else true x fault e = (refl, e)
sound_else false x fault e = absurd (cc e)

pub sound_then : (b : Bool) (x : Option NameFault) (fault : NameFault) → cond b (Some fault) x ≡ None → (b ≡ false) × (x ≡ None)
sound_then true x fault e = absurd (cc e)
sound_then false x fault e = (refl, e)

pub sound_both : (x y : Option NameFault) → option_or x y ≡ None → (x ≡ None) × (y ≡ None)
sound_both None y e = (refl, e)
sound_both (Some fault) y e = absurd (cc e)

-- the place of a sound text does not matter
rest_moves : (p q : ℕ) (cs : List ℕ) → rest_fault p cs ≡ None → rest_fault q cs ≡ None
rest_moves p q [] e = refl
rest_moves p q (c ∷ cs) e =
    let s = sound_else (continues_identifier c) _ _ e in
    ap (λ b. cond b (rest_fault (q + len_utf8 c) cs) (Some (BadPart q))) s.0 ∙ rest_moves (p + len_utf8 c) (q + len_utf8 c) cs s.1

pub identifier_moves : (p q : ℕ) (cs : List ℕ) → identifier_fault p cs ≡ None → identifier_fault q cs ≡ None
identifier_moves p q [] e = absurd (cc e)
identifier_moves p q (c ∷ cs) e =
    let s = sound_then (is_keyword (c ∷ cs) || not (starts_identifier c)) _ _ e in
    ap (λ b. cond b (Some (BadStart q)) (rest_fault (q + len_utf8 c) cs)) s.0 ∙ rest_moves (p + len_utf8 c) (q + len_utf8 c) cs s.1

parts_move : (p q : ℕ) (ws : List (List ℕ)) → parts_fault p ws ≡ None → parts_fault q ws ≡ None
parts_move p q [] e = refl
parts_move p q (w ∷ ws) e =
    let s = sound_both (identifier_fault p w) _ e in
    ap (λ o. option_or o (parts_fault (q + width w + 1) ws)) (identifier_moves p q w s.0) ∙ parts_move (p + width w + 1) (q + width w + 1) ws s.1

parts_join : (p : ℕ) (ws vs : List (List ℕ)) → parts_fault p ws ≡ None → parts_fault 0 vs ≡ None → parts_fault p (ws ++ vs) ≡ None
parts_join p [] vs e f = parts_move 0 p vs f
parts_join p (w ∷ ws) vs e f =
    let s = sound_both (identifier_fault p w) _ e in
    ap (λ o. option_or o (parts_fault (p + width w + 1) (ws ++ vs))) s.0 ∙ parts_join (p + width w + 1) ws vs s.1 f

-- the parts of two texts with a dot between them
pub some_part : (cs : List ℕ) → (w : List ℕ) × (ws : List (List ℕ)) × (parts cs ≡ w ∷ ws)
some_part [] = ([], [], refl)
some_part (c ∷ cs) = by (c == 46)
  where
    by : (b : Bool) → (w : List ℕ) × (ws : List (List ℕ)) × (cond b ([] ∷ parts cs) (with_first c (parts cs)) ≡ w ∷ ws)
    by true = ([], parts cs, refl)
    by false = first (parts cs)
      where
        first : (ps : List (List ℕ)) → (w : List ℕ) × (ws : List (List ℕ)) × (with_first c ps ≡ w ∷ ws)
        first [] = (c ∷ [], [], refl)
        first (p ∷ ps) = (c ∷ p, ps, refl)

with_first_append : (c : ℕ) (ps vs : List (List ℕ)) (w : List ℕ) (ws : List (List ℕ)) → ps ≡ w ∷ ws → with_first c (ps ++ vs) ≡ with_first c ps ++ vs
with_first_append c ps vs w ws e = ap (λ l. with_first c (l ++ vs)) e ∙ sym (ap (λ l. with_first c l ++ vs) e)

pub parts_joined : (cs ds : List ℕ) → parts (cs ++ (46 ∷ ds)) ≡ parts cs ++ parts ds
parts_joined [] ds = refl
parts_joined (c ∷ cs) ds =
    let (w, ws, e) = some_part cs in
    ap (λ ps. cond (c == 46) ([] ∷ ps) (with_first c ps)) (parts_joined cs ds) ∙ by (c == 46) w ws e
  where
    by : (b : Bool) (w : List ℕ) (ws : List (List ℕ)) → parts cs ≡ w ∷ ws → cond b ([] ∷ (parts cs ++ parts ds)) (with_first c (parts cs ++ parts ds)) ≡ cond b ([] ∷ parts cs) (with_first c (parts cs)) ++ parts ds
    by true w ws e = refl
    by false w ws e = with_first_append c (parts cs) (parts ds) w ws e

-- a name has from 1 to 128 bytes, and its parts are sound
pub record IsSound (text : List ℕ) : Type 0 where
  pub some : 0 < length text
  pub fits : length text ≤ 128
  pub parts_sound : parts_fault 0 (parts (chars text)) ≡ None

pub name_is_sound : (text : List ℕ) → name_fault text ≡ None → IsSound text
unfolding name_fault
name_is_sound [] e = absurd (cc e)
name_is_sound (b ∷ bs) e =
    let s = sound_then (nat_lt 128 (length (b ∷ bs))) _ _ e in
    record { some = omega arith; fits = omega (arith, ltb-false 128 (length (b ∷ bs)) s.0); parts_sound = s.1 }

pub sound_is_name : (text : List ℕ) → IsSound text → name_fault text ≡ None
unfolding name_fault
sound_is_name [] s = absurd (omega (arith, s.some))
sound_is_name (b ∷ bs) s =
    ap (λ test. cond test (Some (TooLong (length (b ∷ bs)))) (parts_fault 0 (parts (chars (b ∷ bs))))) (le-ltb 128 (length (b ∷ bs)) s.fits) ∙ s.parts_sound

pub joined_is_name : (label last : Name) → IsUtf8 label → IsUtf8 last → name_fault label ≡ None → name_fault last ≡ None → length (joined label last) ≤ 128 → name_fault (joined label last) ≡ None
joined_is_name label last u v e f fits =
    let s = name_is_sound label e in
    let t = name_is_sound last f in
    let all : parts (chars (joined label last)) ≡ parts (chars label) ++ parts (chars last) = ap parts (cut_chars label last u v) ∙ parts_joined (chars label) (chars last) in
    sound_is_name (joined label last) (record {
      some = omega (arith, s.some, length-append label (46 ∷ last));
      fits = fits;
      parts_sound = ap (parts_fault 0) all ∙ parts_join 0 (parts (chars label)) (parts (chars last)) s.parts_sound t.parts_sound;
    })
