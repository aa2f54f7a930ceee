-- Units that are all paid.
use Rattle.std.proofs.Common.{◌≡◌, ◌-◌, ◌≤◌, refl, arith}
use Rattle.std.proofs.lemmas.Bool.Decides.{nat_tests}
use Rattle.pts_rules.specs.Meter.{Units, left, charged}
use Rattle.pts_reduce.specs.Given.{Later}

pub all_paid : (a b : Units) → a.spent ≤ a.limit → b ≡ charged a (a.limit - a.spent) → left b ≡ 0
all_paid a b h e = rw e (grind (arith, nat_tests, h))

pub paid_later : (a b : Units) → a.spent ≤ a.limit → b ≡ charged a (a.limit - a.spent) → Later a b
paid_later a b h e = rw e (refl, grind (arith, nat_tests, h))

pub ruleset drained = (all_paid, paid_later)
