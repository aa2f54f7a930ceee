-- How far the characters at the beginning of a text pass a test.
use Rattle.std.proofs.Common.{◌≡◌, ◌∙◌, ap, ℕ, ◌+◌, List, [], ◌∷◌, ◌++◌, Bool, true, false, cond, length, arith}
use Rattle.std.specs.Prelude.{chars, IsUtf8, take_while}
use Rattle.std.specs.Char.{len_utf8}
use lib.Utf8.{encode}
use Rattle.std.proofs.lemmas.Str.{chars-nil, chars_past_char}
use Rattle.std.proofs.lemmas.List.Sums.{take_while-cons}
use Rattle.pts_names.specs.Name.{width}

-- The first character of the text fails.
pub run_ends : (p : ℕ → Bool) (c : ℕ) (rest new : List ℕ) → IsUtf8 rest → rest ≡ encode c ++ new → p c ≡ false → width (take_while p (chars rest)) ≡ 0
run_ends p c rest new utf8 step fails =
    ap (λ cs. width (take_while p cs)) (chars_past_char rest new c utf8 step)
    ∙ (ap width (take_while-cons p c (chars new)) ∙ ap (λ b. width (cond b (c ∷ take_while p (chars new)) [])) fails)

-- It passes.
pub run_goes : (p : ℕ → Bool) (c : ℕ) (rest new : List ℕ) → IsUtf8 rest → rest ≡ encode c ++ new → p c ≡ true → width (take_while p (chars rest)) ≡ len_utf8 c + width (take_while p (chars new))
run_goes p c rest new utf8 step passes =
    ap (λ cs. width (take_while p cs)) (chars_past_char rest new c utf8 step)
    ∙ (ap width (take_while-cons p c (chars new)) ∙ ap (λ b. width (cond b (c ∷ take_while p (chars new)) [])) passes)

-- There is none.
pub run_empty : (p : ℕ → Bool) (rest : List ℕ) → length rest ≡ 0 → width (take_while p (chars rest)) ≡ 0
run_empty p [] none = ap (λ cs. width (take_while p cs)) chars-nil
run_empty p (b ∷ rest) none = absurd (omega arith)
