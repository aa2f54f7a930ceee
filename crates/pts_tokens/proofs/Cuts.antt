-- A text is cut behind characters that it begins with.
use Rattle.std.proofs.Common.{◌≡◌, refl, sym, ◌∙◌, ap, subst, ℕ, ◌+◌, ◌≤◌, List, [], ◌∷◌, ◌++◌, Bool, true, false, ◌&&◌, length, take, drop, arith}
use Rattle.std.specs.Prelude.{chars, IsUtf8, IsCharBoundary}
use lib.Utf8.{encodes, scalar, scalars}
use Rattle.std.proofs.lemmas.Str.{encodes-append, encodes-chars, scalars-chars, chars-encodes, IsCharBoundary-at_seam}
use Rattle.std.proofs.Math.Seq.{take-append_seam}
use Rattle.pts_names.specs.Name.{width}
use Rattle.pts_names.proofs.Parts.{width_encodes}

and_parts : (a b : Bool) → (a && b) ≡ true → (a ≡ true) × (b ≡ true)
and_parts true b e = (refl, e)
and_parts false b e = absurd (cc e)

-- Both parts of a list of characters are characters.
pub scalars_parts : (w v : List ℕ) → scalars (w ++ v) ≡ true → (scalars w ≡ true) × (scalars v ≡ true)
scalars_parts [] v e = (refl, e)
scalars_parts (c ∷ w) v e =
    let s = and_parts (scalar c) (scalars (w ++ v)) e in
    let t = scalars_parts w v s.1 in
    (ap (λ b. b && scalars w) s.0 ∙ t.0, t.1)

pub width_append : (w v : List ℕ) → width (w ++ v) ≡ width w + width v
width_append [] v = omega arith
width_append (c ∷ w) v = omega (arith, width_append w v)

-- A text, cut between the characters w and v.
pub record Cut (text w v : List ℕ) : Type 0 where
  pub whole : text ≡ encodes w ++ encodes v
  pub front : take (width w) text ≡ encodes w
  pub back : drop (width w) text ≡ encodes v
  pub front_chars : chars (take (width w) text) ≡ w
  pub back_chars : chars (drop (width w) text) ≡ v
  pub front_utf8 : IsUtf8 (take (width w) text)
  pub boundary : IsCharBoundary text (width w)
  pub back_utf8 : IsUtf8 (drop (width w) text)
  pub fits : width w ≤ length text

is_utf8 : (cs : List ℕ) → scalars cs ≡ true → IsUtf8 (encodes cs)
is_utf8 cs s = (cs, (s, refl))

pub cut : (text w v : List ℕ) → IsUtf8 text → chars text ≡ w ++ v → Cut text w v
cut text w v utf8 e =
    let s = scalars_parts w v (sym (ap scalars e) ∙ scalars-chars text utf8) in
    let whole : text ≡ encodes w ++ encodes v = sym (encodes-chars text utf8) ∙ (ap encodes e ∙ encodes-append w v) in
    let wide = width_encodes w in
    let front : take (width w) text ≡ encodes w = ap (λ n. take n text) wide ∙ (ap (take (length (encodes w))) whole ∙ take-append_seam (encodes w) (encodes v)) in
    let back : drop (width w) text ≡ encodes v = ap (λ n. drop n text) wide ∙ (ap (drop (length (encodes w))) whole ∙ drop_seam (encodes w) (encodes v)) in
    let boundary : IsCharBoundary text (width w) = subst (IsCharBoundary text) (sym wide) (IsCharBoundary-at_seam text (encodes w) (encodes v) whole (is_utf8 v s.1)) in
    record {
      whole = whole;
      front = front;
      back = back;
      front_chars = ap chars front ∙ chars-encodes w s.0;
      back_chars = ap chars back ∙ chars-encodes v s.1;
      front_utf8 = subst IsUtf8 (sym front) (is_utf8 w s.0);
      boundary = boundary;
      back_utf8 = subst IsUtf8 (sym back) (is_utf8 v s.1);
      fits = boundary.0;
    }
  where
    drop_seam : (xs ys : List ℕ) → drop (length xs) (xs ++ ys) ≡ ys
    drop_seam [] ys = refl
    drop_seam (x ∷ xs) ys = drop_seam xs ys
