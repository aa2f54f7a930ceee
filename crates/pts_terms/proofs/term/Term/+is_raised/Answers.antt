use Rattle.std.proofs.Common.{◌+◌}
use Rattle.pts_terms.specs.Tree.{lift}
use Rattle.pts_terms.proofs.Compared.{tests_lam, tests_pi, tests_let, tests_at, lift_lam, lift_pi, lift_let}
use Rattle.pts_terms.proofs.term.Term.+is_raised.Goals as goal

pub returns-then-is_raised-2 : goal.returns-then-is_raised-2
returns-then-is_raised-2 t c =
    tests_lam (lift c.args.from c.args.by) (lift (c.args.from + 1) c.args.by) (lift_lam c.args.from c.args.by) c.args.self.now c.args.other.now c.in-Lam-Lam.t c.in-Lam-Lam.a c.in-Lam-Lam.u c.in-Lam-Lam.b _ _ c.is_raised-then-is_raised-2.result c.in-Lam-Lam.is-0 c.in-Lam-Lam.is-1
    (tests_at (lift c.args.from c.args.by) _ _ _ _ _ c.get-in-Lam-Lam.ensures c.get-in-Lam-Lam-2.ensures c.if-is_raised-2.ensures)
    (tests_at (lift (c.args.from + 1) c.args.by) _ _ _ _ _ c.get-then-is_raised-2-2.ensures c.get-then-is_raised-2-3.ensures c.is_raised-then-is_raised-2.ensures)

pub returns-then-is_raised-3 : goal.returns-then-is_raised-3
returns-then-is_raised-3 t c =
    tests_pi (lift c.args.from c.args.by) (lift (c.args.from + 1) c.args.by) (lift_pi c.args.from c.args.by) c.args.self.now c.args.other.now c.in-Pi-Pi.t c.in-Pi-Pi.a c.in-Pi-Pi.u c.in-Pi-Pi.b _ _ c.is_raised-then-is_raised-3.result c.in-Pi-Pi.is-0 c.in-Pi-Pi.is-1
    (tests_at (lift c.args.from c.args.by) _ _ _ _ _ c.get-in-Pi-Pi.ensures c.get-in-Pi-Pi-2.ensures c.if-is_raised-3.ensures)
    (tests_at (lift (c.args.from + 1) c.args.by) _ _ _ _ _ c.get-then-is_raised-3.ensures c.get-then-is_raised-3-2.ensures c.is_raised-then-is_raised-3.ensures)

pub returns-then-is_raised-4 : goal.returns-then-is_raised-4
returns-then-is_raised-4 t c =
    tests_let (lift c.args.from c.args.by) (lift (c.args.from + 1) c.args.by) (lift_let c.args.from c.args.by) c.args.self.now c.args.other.now c.in-Let-Let.d c.in-Let-Let.t c.in-Let-Let.a c.in-Let-Let.e c.in-Let-Let.u c.in-Let-Let.b _ _ c.is_raised-then-is_raised-4.result c.in-Let-Let.is-0 c.in-Let-Let.is-1
    (tests_at (lift c.args.from c.args.by) _ _ _ _ _ c.get-in-Let-Let.ensures c.get-in-Let-Let-2.ensures c.if-not-is_raised.ensures)
    (tests_at (lift c.args.from c.args.by) _ _ _ _ _ c.get-in-Let-Let-3.ensures c.get-in-Let-Let-4.ensures c.if-is_raised-4.ensures)
    (tests_at (lift (c.args.from + 1) c.args.by) _ _ _ _ _ c.get-then-is_raised-4.ensures c.get-then-is_raised-4-2.ensures c.is_raised-then-is_raised-4.ensures)
