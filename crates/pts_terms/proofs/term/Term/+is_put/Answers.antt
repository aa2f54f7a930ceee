use Rattle.std.proofs.Common.{◌+◌}
use Rattle.pts_terms.specs.Tree.{bare, put}
use Rattle.pts_terms.specs.Seen.{named}
use Rattle.pts_terms.proofs.Compared.{tests_lam, tests_pi, tests_let, tests_at, put_lam, put_pi, put_let}
use Rattle.pts_terms.proofs.term.Term.+is_put.Goals as goal

pub returns-then-is_put-2 : goal.returns-then-is_put-2
returns-then-is_put-2 t c =
    tests_lam (put c.args.index c.args.passed (bare (named c.args.argument.now))) (put (c.args.index + 1) (c.args.passed + 1) (bare (named c.args.argument.now))) (put_lam c.args.index c.args.passed (bare (named c.args.argument.now))) c.args.self.now c.args.body.now c.in-Lam-Lam.t c.in-Lam-Lam.a c.in-Lam-Lam.u c.in-Lam-Lam.b _ _ c.is_put-then-is_put-2.result c.in-Lam-Lam.is-0 c.in-Lam-Lam.is-1
    (tests_at (put c.args.index c.args.passed (bare (named c.args.argument.now))) _ _ _ _ _ c.get-in-Lam-Lam.ensures c.get-in-Lam-Lam-2.ensures c.if-is_put-2.ensures)
    (tests_at (put (c.args.index + 1) (c.args.passed + 1) (bare (named c.args.argument.now))) _ _ _ _ _ c.get-then-is_put-2-2.ensures c.get-then-is_put-2-3.ensures c.is_put-then-is_put-2.ensures)

pub returns-then-is_put-3 : goal.returns-then-is_put-3
returns-then-is_put-3 t c =
    tests_pi (put c.args.index c.args.passed (bare (named c.args.argument.now))) (put (c.args.index + 1) (c.args.passed + 1) (bare (named c.args.argument.now))) (put_pi c.args.index c.args.passed (bare (named c.args.argument.now))) c.args.self.now c.args.body.now c.in-Pi-Pi.t c.in-Pi-Pi.a c.in-Pi-Pi.u c.in-Pi-Pi.b _ _ c.is_put-then-is_put-3.result c.in-Pi-Pi.is-0 c.in-Pi-Pi.is-1
    (tests_at (put c.args.index c.args.passed (bare (named c.args.argument.now))) _ _ _ _ _ c.get-in-Pi-Pi.ensures c.get-in-Pi-Pi-2.ensures c.if-is_put-3.ensures)
    (tests_at (put (c.args.index + 1) (c.args.passed + 1) (bare (named c.args.argument.now))) _ _ _ _ _ c.get-then-is_put-3.ensures c.get-then-is_put-3-2.ensures c.is_put-then-is_put-3.ensures)

pub returns-then-is_put-4 : goal.returns-then-is_put-4
returns-then-is_put-4 t c =
    tests_let (put c.args.index c.args.passed (bare (named c.args.argument.now))) (put (c.args.index + 1) (c.args.passed + 1) (bare (named c.args.argument.now))) (put_let c.args.index c.args.passed (bare (named c.args.argument.now))) c.args.self.now c.args.body.now c.in-Let-Let.d c.in-Let-Let.t c.in-Let-Let.a c.in-Let-Let.e c.in-Let-Let.u c.in-Let-Let.b _ _ c.is_put-then-is_put-4.result c.in-Let-Let.is-0 c.in-Let-Let.is-1
    (tests_at (put c.args.index c.args.passed (bare (named c.args.argument.now))) _ _ _ _ _ c.get-in-Let-Let.ensures c.get-in-Let-Let-2.ensures c.if-not-is_put.ensures)
    (tests_at (put c.args.index c.args.passed (bare (named c.args.argument.now))) _ _ _ _ _ c.get-in-Let-Let-3.ensures c.get-in-Let-Let-4.ensures c.if-is_put-4.ensures)
    (tests_at (put (c.args.index + 1) (c.args.passed + 1) (bare (named c.args.argument.now))) _ _ _ _ _ c.get-then-is_put-4.ensures c.get-then-is_put-4-2.ensures c.is_put-then-is_put-4.ensures)
