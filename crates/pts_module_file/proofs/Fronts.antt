-- The front of a line up to a place that may lie behind its end, and what is behind.
use Rattle.std.proofs.Common.{ℕ, ◌≡◌, ◌∙◌, ap, List, min, take, drop, length, arith}
use Rattle.std.proofs.lemmas.List.{take_min, drop_min}

turned : (n m : ℕ) → min n m ≡ min m n
turned n m = grind arith

pub front_is : (n : ℕ) (line : List ℕ) → take (min (length line) n) line ≡ take n line
front_is n line = ap (λ m. take m line) (turned (length line) n) ∙ take_min n line

pub back_is : (n : ℕ) (line : List ℕ) → drop (min (length line) n) line ≡ drop n line
back_is n line = ap (λ m. drop m line) (turned (length line) n) ∙ drop_min n line
