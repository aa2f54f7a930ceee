-- The names are the texts that are identifiers joined by dots.
use Rattle.std.proofs.Common.{◌≡◌, refl, sym, ◌∙◌, ap, subst, ℕ, ◌+◌, ◌≤◌, ◌<◌, List, [], ◌∷◌, ◌++◌, Bool, true, false, eqb-true, ◌&&◌, ◌==◌, cond, map, None, is_none, length, get_or, append_assoc, arith, lit<, IsTrue}
use Rattle.std.specs.Prelude.{chars, codes, IsUtf8}
use Rattle.std.specs.List.{AllByRecursion}
use lib.Utf8.{encode, encodes, scalar, scalars}
use Rattle.std.proofs.lemmas.Str.{encode_ascii, encodes-chars, scalars-chars, chars-encodes, IsUtf8-take, IsUtf8-drop, IsCharBoundary-before_ascii, IsCharBoundary-after_ascii}
use Rattle.std.proofs.lemmas.List.{length-append}
use Rattle.std.proofs.Math.Seq.{take-append_seam, drop-append-add, get_or-append_seam}
use Rattle.pts_names.specs.Name.{identifier_fault, is_identifier, parts, with_first, width, parts_fault, name_fault}
use Rattle.pts_names.specs.Dotted.{dotted, IsDotted, NamesAreDottedIdentifiers}
use Rattle.pts_names.proofs.Sound.{sound_both, some_part, identifier_moves, name_is_sound, joined_is_name}
use Rattle.pts_names.proofs.OnePart.{identifier_is_name}

-- the parts of a text spell it
dotted_first : (front word : List ℕ) (later : List (List ℕ)) → dotted ((front ++ word) ∷ later) ≡ front ++ dotted (word ∷ later)
dotted_first front word [] = refl
dotted_first front word (next ∷ later) = append_assoc front word (codes "." ++ dotted (next ∷ later))

spelled : (cs : List ℕ) → dotted (map encodes (parts cs)) ≡ encodes cs
spelled [] = refl
spelled (c ∷ cs) =
    let (p, ps, f) = some_part cs in
    by p ps f (sym (ap (λ l. dotted (map encodes l)) f) ∙ spelled cs) (c == 46) refl
  where
    by : (p : List ℕ) (ps : List (List ℕ)) → parts cs ≡ p ∷ ps → dotted (encodes p ∷ map encodes ps) ≡ encodes cs → (b : Bool) → (c == 46) ≡ b → dotted (map encodes (cond b ([] ∷ parts cs) (with_first c (parts cs)))) ≡ encode c ++ encodes cs
    by p ps f rest true e =
        ap (λ l. dotted (map encodes ([] ∷ l))) f
        ∙ ap (λ l. 46 ∷ l) rest
        ∙ ap (λ l. l ++ encodes cs) (sym (encode_ascii 46 (lit< tt)) ∙ ap encode (sym (eqb-true c 46 e)))
    by p ps f rest false e =
        ap (λ l. dotted (map encodes (with_first c l))) f
        ∙ dotted_first (encode c) (encodes p) (map encodes ps)
        ∙ ap (λ l. encode c ++ l) rest

AllScalars : List (List ℕ) → Type 0
AllScalars = AllByRecursion (λ w. scalars w ≡ true)

and_parts : (a b : Bool) → (a && b) ≡ true → (a ≡ true) × (b ≡ true)
and_parts true b e = (refl, e)
and_parts false b e = absurd (cc e)

parts_scalars : (cs : List ℕ) → scalars cs ≡ true → AllScalars (parts cs)
unfolding AllScalars
parts_scalars [] e = (refl, tt)
parts_scalars (c ∷ cs) e =
    let s = and_parts (scalar c) (scalars cs) e in
    by (c == 46) (parts_scalars cs s.1)
  where
    front : (ps : List (List ℕ)) → scalar c ≡ true → AllScalars ps → AllScalars (with_first c ps)
    front [] good all = (ap (λ b. b && true) good, tt)
    front (p ∷ ps) good all = (ap (λ b. b && scalars p) good ∙ all.0, all.1)

    by : (b : Bool) → AllScalars (parts cs) → AllScalars (cond b ([] ∷ parts cs) (with_first c (parts cs)))
    by true all = (refl, all)
    by false all = front (parts cs) (and_parts (scalar c) (scalars cs) e).0 all

all_identifiers : (place : ℕ) (ws : List (List ℕ)) → parts_fault place ws ≡ None → AllScalars ws → AllByRecursion (λ word. IsTrue (is_identifier word)) (map encodes ws)
unfolding is_identifier AllScalars
all_identifiers place [] e all = tt
all_identifiers place (w ∷ ws) e all =
    let s = sound_both (identifier_fault place w) _ e in
    (ap is_none (ap (identifier_fault 0) (chars-encodes w all.0) ∙ identifier_moves place 0 w s.0), all_identifiers (place + width w + 1) ws s.1 all.1)

name_is_dotted : (text : List ℕ) → IsUtf8 text → name_fault text ≡ None → IsDotted text
name_is_dotted text utf8 name =
    let sound = name_is_sound text name in
    let (p, ps, f) = some_part (chars text) in (
      map encodes (parts (chars text)),
      subst (λ l. 0 < length (map encodes l)) (sym f) (omega arith),
      all_identifiers 0 (parts (chars text)) sound.parts_sound (parts_scalars (chars text) (scalars-chars text utf8)),
      spelled (chars text) ∙ encodes-chars text utf8,
      sound.fits,
    )

-- a text with a dot in it is UTF-8 on both sides
both_utf8 : (xs ys : List ℕ) → IsUtf8 (xs ++ (46 ∷ ys)) → IsUtf8 xs × IsUtf8 ys
both_utf8 xs ys utf8 =
    let text = xs ++ (46 ∷ ys) in
    let dot : get_or text (length xs) 0 ≡ 46 = get_or-append_seam xs 46 ys 0 in
    let long = length-append xs (46 ∷ ys) in
    let inside : length xs < length text = omega arith in
    let low : get_or text (length xs) 0 < 128 = omega arith in (
      subst IsUtf8 (take-append_seam xs (46 ∷ ys)) (IsUtf8-take text (length xs) utf8 (IsCharBoundary-before_ascii text (length xs) inside low)),
      subst IsUtf8 (drop-append-add xs (46 ∷ ys) 1) (IsUtf8-drop text (length xs + 1) utf8 (IsCharBoundary-after_ascii text (length xs) utf8 inside low)),
    )

dotted_is_name : (words : List (List ℕ)) → 0 < length words → AllByRecursion (λ word. IsTrue (is_identifier word)) words → IsUtf8 (dotted words) → length (dotted words) ≤ 128 → name_fault (dotted words) ≡ None
dotted_is_name [] some all utf8 fits = absurd (omega arith)
dotted_is_name (word ∷ []) some all utf8 fits = identifier_is_name word fits all.0
dotted_is_name (word ∷ next ∷ later) some all utf8 fits =
    let (u, v) = both_utf8 word (dotted (next ∷ later)) utf8 in
    let long = length-append word (46 ∷ dotted (next ∷ later)) in
    joined_is_name word (dotted (next ∷ later)) u v
    (identifier_is_name word (omega arith) all.0)
    (dotted_is_name (next ∷ later) (omega arith) all.1 v (omega arith))
    fits

pub names_are_dotted : NamesAreDottedIdentifiers
names_are_dotted text utf8 = (
  name_is_dotted text utf8,
  λ d. subst (λ t. name_fault t ≡ None) d.3 (dotted_is_name d.0 d.1 d.2 (subst IsUtf8 (sym d.3) utf8) (subst (λ t. length t ≤ 128) (sym d.3) d.4)),
)
