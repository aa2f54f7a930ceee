-- A name has one part exactly where it is an identifier.
use Rattle.std.proofs.Common.{◌≡◌, refl, sym, ◌∙◌, ap, ℕ, suc, ◌+◌, ◌≤◌, ◌<◌, List, [], ◌∷◌, Bool, true, false, eqb-true, not, ◌||◌, ◌==◌, cond, Option, Some, None, is_none, length, arith}
use Rattle.std.specs.Prelude.{chars}
use Rattle.std.specs.Option.{option_or}
use Rattle.std.specs.Char.{len_utf8}
use Rattle.std.proofs.lemmas.Str.{chars-nil}
use Rattle.unicode_ident.proofs.Computing.{unicode_ident}
use Rattle.pts_names.specs.Name.{starts_identifier, continues_identifier, is_keyword, rest_fault, identifier_fault, is_identifier, parts, with_first, parts_fault, part_count, name_fault}
use Rattle.pts_names.specs.declared.fault.NameFault.{NameFault}
use Rattle.pts_names.specs.declared.fault.NameFault.TheVariants.{BadStart}
use Rattle.pts_names.proofs.Parts.{NoDot, parts_one}
use Rattle.pts_names.proofs.Sound.{sound_else, sound_then, sound_both, some_part, name_is_sound, sound_is_name}
use Rattle.pts_names.proofs.Walk.{starts_continues}

dot_stops : continues_identifier 46 ≡ false
unfolding unicode_ident
dot_stops = refl

no_dot_goes_on : (c : ℕ) → continues_identifier c ≡ true → (c == 46) ≡ false
no_dot_goes_on c goes = by (c == 46) refl
  where
    by : (b : Bool) → (c == 46) ≡ b → b ≡ false
    by true e = absurd (let wrong : true ≡ false = sym goes ∙ ap continues_identifier (eqb-true c 46 e) ∙ dot_stops in cc wrong)
    by false e = refl

rest_no_dot : (place : ℕ) (cs : List ℕ) → rest_fault place cs ≡ None → NoDot cs
rest_no_dot place [] e = tt
rest_no_dot place (c ∷ cs) e =
    let s = sound_else (continues_identifier c) _ _ e in
    (no_dot_goes_on c s.0, rest_no_dot (place + len_utf8 c) cs s.1)

-- no dot stands in an identifier
pub identifier_no_dot : (place : ℕ) (cs : List ℕ) → identifier_fault place cs ≡ None → NoDot cs
identifier_no_dot place [] e = absurd (cc e)
identifier_no_dot place (c ∷ cs) e =
    let s = sound_then (is_keyword (c ∷ cs) || not (starts_identifier c)) _ _ e in
    (no_dot_goes_on c (starts_continues c (good (is_keyword (c ∷ cs)) (starts_identifier c) s.0)), rest_no_dot (place + len_utf8 c) cs s.1)
  where
    good : (word starts : Bool) → (word || not starts) ≡ false → starts ≡ true
    good true starts e = absurd (cc e)
    good false true e = refl
    good false false e = absurd (cc e)

-- a text of one part is that part
pub one_part_is_all : (cs w : List ℕ) → parts cs ≡ w ∷ [] → w ≡ cs
one_part_is_all [] w e = sym (ap first e)
  where
    first : List (List ℕ) → List ℕ
    first [] = []
    first (p ∷ ps) = p
one_part_is_all (c ∷ cs) w e =
    let (p, ps, f) = some_part cs in
    by p ps f (λ q g. one_part_is_all cs q g) (c == 46) e
  where
    by : (p : List ℕ) (ps : List (List ℕ)) → parts cs ≡ p ∷ ps → ((q : List ℕ) → parts cs ≡ q ∷ [] → q ≡ cs) → (b : Bool) → cond b ([] ∷ parts cs) (with_first c (parts cs)) ≡ w ∷ [] → w ≡ c ∷ cs
    by p ps f rest true e = absurd (let wrong : p ∷ ps ≡ [] = sym f ∙ cc e in cc wrong)
    by p ps f rest false e =
        let all : (c ∷ p) ∷ ps ≡ w ∷ [] = sym (ap (with_first c) f) ∙ e in
        let none : ps ≡ [] = cc all in
        let first : w ≡ c ∷ p = cc all in
        first ∙ ap (λ l. c ∷ l) (rest p (f ∙ ap (λ l. p ∷ l) none))

none_is : (o : Option NameFault) → is_none o ≡ true → o ≡ None
none_is None e = refl
none_is (Some fault) e = absurd (cc e)

pub identifier_has_no_fault : (text : List ℕ) → is_identifier text ≡ true → identifier_fault 0 (chars text) ≡ None
unfolding is_identifier
identifier_has_no_fault text e = none_is _ e

pub identifier_is_one_part : (text : List ℕ) → is_identifier text ≡ true → parts (chars text) ≡ chars text ∷ []
identifier_is_one_part text e = parts_one (chars text) (identifier_no_dot 0 (chars text) (identifier_has_no_fault text e))

pub identifier_has_one : (text : List ℕ) → is_identifier text ≡ true → part_count text ≡ 1
unfolding part_count
identifier_has_one text e = ap length (identifier_is_one_part text e)

-- a text of at most 128 bytes that is an identifier is a name
pub identifier_is_name : (text : List ℕ) → length text ≤ 128 → is_identifier text ≡ true → name_fault text ≡ None
identifier_is_name text fits e =
    let sound = identifier_has_no_fault text e in
    sound_is_name text (record {
      some = not_empty text sound;
      fits = fits;
      parts_sound = ap (parts_fault 0) (identifier_is_one_part text e) ∙ ap (λ o. option_or o None) sound;
    })
  where
    not_empty : (text : List ℕ) → identifier_fault 0 (chars text) ≡ None → 0 < length text
    not_empty [] e = absurd (let wrong : Some (BadStart 0) ≡ None = ap (identifier_fault 0) (sym chars-nil) ∙ e in cc wrong)
    not_empty (b ∷ bs) e = omega arith

-- a name of one part is an identifier
pub one_part_is_identifier : (text : List ℕ) → name_fault text ≡ None → part_count text ≡ 1 → is_identifier text ≡ true
unfolding part_count is_identifier
one_part_is_identifier text name one =
    let (w, ws, e) = some_part (chars text) in
    let none : ws ≡ [] = alone ws (sym (ap length e) ∙ one) in
    let alone_part : parts (chars text) ≡ w ∷ [] = e ∙ ap (λ l. w ∷ l) none in
    let all = one_part_is_all (chars text) w alone_part in
    let sound = sound_both (identifier_fault 0 w) None (sym (ap (parts_fault 0) alone_part) ∙ (name_is_sound text name).parts_sound) in
    ap is_none (ap (identifier_fault 0) (sym all) ∙ sound.0)
  where
    alone : (ws : List (List ℕ)) → suc (length ws) ≡ 1 → ws ≡ []
    alone [] e = refl
    alone (v ∷ ws) e = absurd (omega arith)
