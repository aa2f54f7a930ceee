-- Texts that are printed one after another.
use Rattle.std.proofs.Common.{◌≡◌, ℕ, zero, suc, ◌+◌, ◌<◌, ◌≤◌, List, [], ◌∷◌, ◌++◌, length, take, drop, map, refl, sym, ap, ◌∙◌, arith, Option, append_assoc, append-nil, length-append, get_or}
use Rattle.std.specs.Io.KnownBytes.{append_known}
use Rattle.std.proofs.Math.Seq.{take-append-add}
use Rattle.std.proofs.lemmas.List.{take-append-le}
use Rattle.pts_io.proofs.Known.{append_known-append}
use Rattle.pts_play.specs.Play.{full_line, text_of}
use Rattle.pts_replay.specs.Replies.{joined}

-- The lines of a text, with their line feeds.
pub lines_joined : (lines : List (List ℕ)) → joined (map full_line lines) ≡ text_of lines
lines_joined [] = refl
lines_joined (line ∷ lines) = ap (λ t. full_line line ++ t) (lines_joined lines)

-- one text more
joined_next : (texts : List (List ℕ)) (i : ℕ) (d : List ℕ) → i < length texts → joined (take (suc i) texts) ≡ joined (take i texts) ++ get_or texts i d
joined_next [] i d h = absurd (omega (arith, h))
joined_next (x ∷ texts) zero d h = append-nil x
joined_next (x ∷ texts) (suc i) d h = ap (λ t. x ++ t) (joined_next texts i d (omega (arith, h))) ∙ sym (append_assoc x (joined (take i texts)) (get_or texts i d))

-- the first texts come first
joined_split : (texts : List (List ℕ)) (i : ℕ) → joined texts ≡ joined (take i texts) ++ joined (drop i texts)
joined_split [] zero = refl
joined_split [] (suc i) = refl
joined_split (x ∷ texts) zero = refl
joined_split (x ∷ texts) (suc i) = ap (λ t. x ++ t) (joined_split texts i) ∙ sym (append_assoc x (joined (take i texts)) (joined (drop i texts)))

module _ (texts : List (List ℕ)) (i : ℕ) (d text : List ℕ) (old mid new : Option (List ℕ)) (below : i < length texts) (is : text ≡ get_or texts i d) (before : mid ≡ append_known old (joined (take i texts))) where
  next : joined (take (i + 1) texts) ≡ joined (take i texts) ++ text
  next =
      let e : i + 1 ≡ suc i = omega arith in
      ap (λ k. joined (take k texts)) e ∙ (joined_next texts i d below ∙ ap (λ t. joined (take i texts) ++ t) (sym is))

  -- the text was printed
  pub text_printed : new ≡ append_known mid text → new ≡ append_known old (joined (take (i + 1) texts))
  text_printed after = after ∙ (ap (λ w. append_known w text) before ∙ (append_known-append old (joined (take i texts)) text ∙ ap (append_known old) (sym next)))

  whole_text : joined texts ≡ (joined (take i texts) ++ text) ++ joined (drop (i + 1) texts)
  whole_text = joined_split texts (i + 1) ∙ ap (λ t. t ++ joined (drop (i + 1) texts)) next

  -- a front part of it was printed
  pub text_failed : (n : ℕ) → n ≤ length text → new ≡ append_known mid (take n text) → (k : ℕ) × (k ≤ length (joined texts)) × (new ≡ append_known old (take k (joined texts)))
  text_failed n small after =
      let first : List ℕ = joined (take i texts) in
      let rest : List ℕ = joined (drop (i + 1) texts) in
      let short : length first + n ≤ length (first ++ text) = omega (arith, small, length-append first text) in
      let long : length first + n ≤ length (joined texts) = omega (arith, short, ap length whole_text, length-append (first ++ text) rest) in
      let same : take (length first + n) (joined texts) ≡ first ++ take n text = ap (take (length first + n)) whole_text ∙ (take-append-le (length first + n) (first ++ text) rest short ∙ take-append-add first text n) in
      (length first + n, long, after ∙ (ap (λ w. append_known w (take n text)) before ∙ (append_known-append old first (take n text) ∙ ap (append_known old) (sym same))))
