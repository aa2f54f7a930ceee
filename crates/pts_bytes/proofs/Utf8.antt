-- Bytes that are no UTF-8.
use Rattle.std.proofs.Common.{◌≡◌, List, ℕ, Bool, true, false, refl}
use Rattle.std.specs.Str.{IsUtf8, is_utf8}
use Rattle.std.proofs.lemmas.Str.{IsUtf8-from_is_utf8, is_utf8-from_IsUtf8}

refuted : (b : Bool) → ¬ (b ≡ true) → b ≡ false
refuted true none = absurd (none refl)
refuted false none = refl

pub not_utf8 : (bytes : List ℕ) → ¬ (IsUtf8 bytes) → is_utf8 bytes ≡ false
not_utf8 bytes none = refuted (is_utf8 bytes) (λ yes. none (IsUtf8-from_is_utf8 bytes yes))

pub has_utf8 : (bytes : List ℕ) → IsUtf8 bytes → is_utf8 bytes ≡ true
has_utf8 bytes some = is_utf8-from_IsUtf8 bytes some
