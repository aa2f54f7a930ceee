-- Lines that are printed one after another.
use Rattle.std.proofs.Common.{◌≡◌, ℕ, zero, suc, ◌+◌, ◌<◌, ◌≤◌, List, [], ◌∷◌, ◌++◌, length, take, drop, refl, sym, ap, ◌∙◌, arith, Option, append_assoc, append-nil, length-append, get_or}
use Rattle.std.specs.Prelude.{codes}
use Rattle.std.specs.Io.KnownBytes.{append_known}
use Rattle.std.proofs.Math.Seq.{take-append-add}
use Rattle.std.proofs.lemmas.List.{take-append-le}
use Rattle.pts_io.proofs.Known.{append_known-append}
use Rattle.yarrow.specs.Batches.{text_of}

-- one line more
pub text_next : (lines : List (List ℕ)) (i : ℕ) (d : List ℕ) → i < length lines → text_of (take (suc i) lines) ≡ text_of (take i lines) ++ (get_or lines i d ++ codes "\n")
text_next [] i d h = absurd (omega (arith, h))
text_next (x ∷ lines) zero d h = append-nil (x ++ codes "\n")
text_next (x ∷ lines) (suc i) d h = ap (λ t. (x ++ codes "\n") ++ t) (text_next lines i d (omega (arith, h))) ∙ sym (append_assoc (x ++ codes "\n") (text_of (take i lines)) (get_or lines i d ++ codes "\n"))

-- the first lines begin the text
pub text_split : (lines : List (List ℕ)) (i : ℕ) → text_of lines ≡ text_of (take i lines) ++ text_of (drop i lines)
text_split [] zero = refl
text_split [] (suc i) = refl
text_split (x ∷ lines) zero = refl
text_split (x ∷ lines) (suc i) = ap (λ t. (x ++ codes "\n") ++ t) (text_split lines i) ∙ sym (append_assoc (x ++ codes "\n") (text_of (take i lines)) (text_of (drop i lines)))

module _ (lines : List (List ℕ)) (i : ℕ) (d line : List ℕ) (old mid new : Option (List ℕ)) (below : i < length lines) (is : line ≡ get_or lines i d ++ codes "\n") (before : mid ≡ append_known old (text_of (take i lines))) where
  next : text_of (take (i + 1) lines) ≡ text_of (take i lines) ++ line
  next =
      let e : i + 1 ≡ suc i = omega arith in
      ap (λ k. text_of (take k lines)) e ∙ (text_next lines i d below ∙ ap (λ t. text_of (take i lines) ++ t) (sym is))

  -- the line was printed
  pub line_printed : new ≡ append_known mid line → new ≡ append_known old (text_of (take (i + 1) lines))
  line_printed after = after ∙ (ap (λ w. append_known w line) before ∙ (append_known-append old (text_of (take i lines)) line ∙ ap (append_known old) (sym next)))

  whole_text : text_of lines ≡ (text_of (take i lines) ++ line) ++ text_of (drop (i + 1) lines)
  whole_text = text_split lines (i + 1) ∙ ap (λ t. t ++ text_of (drop (i + 1) lines)) next

  -- a front part of the line was printed
  pub line_failed : (n : ℕ) → n ≤ length line → new ≡ append_known mid (take n line) → (k : ℕ) × (k ≤ length (text_of lines)) × (new ≡ append_known old (take k (text_of lines)))
  line_failed n small after =
      let first : List ℕ = text_of (take i lines) in
      let rest : List ℕ = text_of (drop (i + 1) lines) in
      let short : length first + n ≤ length (first ++ line) = omega (arith, small, length-append first line) in
      let long : length first + n ≤ length (text_of lines) = omega (arith, short, ap length whole_text, length-append (first ++ line) rest) in
      let same : take (length first + n) (text_of lines) ≡ first ++ take n line = ap (take (length first + n)) whole_text ∙ (take-append-le (length first + n) (first ++ line) rest short ∙ take-append-add first line n) in
      (length first + n, long, after ∙ (ap (λ w. append_known w (take n line)) before ∙ (append_known-append old first (take n line) ∙ ap (append_known old) (sym same))))
