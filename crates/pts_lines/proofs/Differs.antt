-- Words that differ are not the same.
use Rattle.std.proofs.Common.{◌≡◌, ◌≢◌, refl, [], ◌∷◌, Bool, true, false, arith}
use Rattle.pts_names.specs.Name.{Name, same_name}

same_is : (w v : Name) → same_name w v ≡ true → w ≡ v
same_is [] [] e = refl
same_is [] (c ∷ v) e = absurd (cc e)
same_is (b ∷ w) [] e = absurd (cc e)
same_is (b ∷ w) (c ∷ v) e = grind (arith, same_is w v)

pub differs : (w v : Name) → w ≢ v → same_name w v ≡ false
differs w v n = by (same_name w v) refl
  where
    by : (b : Bool) → same_name w v ≡ b → b ≡ false
    by true e = absurd (n (same_is w v e))
    by false e = refl
