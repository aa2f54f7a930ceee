-- A text that does not begin with a quote spells no sort by an identifier.
use Rattle.std.proofs.Common.{◌≡◌, refl, ap, ℕ, List, [], ◌∷◌, Bool, true, false, ◌≢◌, ◌&&◌, ◌==◌, eqb-true}
use Rattle.pts_names.specs.Name.{is_identifier, is_quoted}

pub not_quoted : (text : List ℕ) → ((rest : List ℕ) → text ≢ 39 ∷ rest) → is_quoted text ≡ false
not_quoted [] other = refl
not_quoted (b ∷ bs) other = by (b == 39) refl
  where
    by : (test : Bool) → (b == 39) ≡ test → (test && is_identifier bs) ≡ false
    by true e = absurd (other bs (ap (λ x. x ∷ bs) (eqb-true b 39 e)))
    by false e = refl
