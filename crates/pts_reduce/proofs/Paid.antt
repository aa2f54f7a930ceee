-- Units that were paid.
use Rattle.std.proofs.Common.{◌≡◌, suc, ◌≤◌, true, false, nat_le, refl, ◌∙◌, arith}
use Rattle.std.proofs.lemmas.Bool.Decides.{nat_tests}
use Rattle.pts_rules.specs.Meter.{Units, left, charged}
use Rattle.pts_reduce.specs.Given.{Later}

pub one_less : (a b : Units) → nat_le 1 (left a) ≡ true → b ≡ charged a 1 → left a ≡ suc (left b)
one_less a b h e = rw e (grind (arith, nat_tests))

pub none_left : (a b : Units) → nat_le 1 (left a) ≡ false → b ≡ charged a 1 → (left a ≡ 0) × (left b ≡ 0)
none_left a b h e = (grind (arith, nat_tests), rw e (grind (arith, nat_tests)))

pub later_refl : (a : Units) → Later a a
later_refl a = (refl, omega arith)

pub later_trans : (a b c : Units) → Later a b → Later b c → Later a c
later_trans a b c g h = (h.0 ∙ g.0, let x = g.1 in let y = h.1 in omega (arith, x, y))

pub later_paid : (a b : Units) → b ≡ charged a 1 → a.spent ≤ a.limit → Later a b
later_paid a b e h = rw e (refl, grind (arith, nat_tests))

pub ruleset later = (later_refl, later_trans)
