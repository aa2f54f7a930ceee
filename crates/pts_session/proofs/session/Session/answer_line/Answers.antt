use Rattle.std.proofs.Common.{ap}
use Rattle.pts_session.proofs.Doing.{infers_as, reduces_as, compares_as, shows_as}
use Rattle.pts_session.proofs.session.Session.answer_line.Goals as goal

pub returns-in-Infer : goal.returns-in-Infer
returns-in-Infer c = infers_as c.args.world.now.system c.self.inside.draft c.self.inside.budget c.args.self.now.state (ap (λ w. w.state) c.self.view_is) c.scope-scope.result.now.entries c.scope-scope.ensures.entries c.args.line.now c.infer.result c.in-Infer.term c.in-Infer.is c.infer.ensures

pub returns-in-Reduce : goal.returns-in-Reduce
returns-in-Reduce c = reduces_as c.args.world.now.system c.self.inside.draft c.self.inside.budget c.args.self.now.state (ap (λ w. w.state) c.self.view_is) c.scope-scope.result.now.entries c.scope-scope.ensures.entries c.args.line.now c.reduce.result c.in-Reduce.term c.in-Reduce.is c.reduce.ensures

pub returns-in-Equal : goal.returns-in-Equal
returns-in-Equal c = compares_as c.args.world.now.system c.self.inside.draft c.self.inside.budget c.args.self.now.state (ap (λ w. w.state) c.self.view_is) c.scope-scope.result.now.entries c.scope-scope.ensures.entries c.args.line.now c.equal.result c.in-Equal.left c.in-Equal.right c.in-Equal.is c.equal.ensures

pub returns-in-Show : goal.returns-in-Show
returns-in-Show c = shows_as c.args.world.now.system c.self.inside.draft c.self.inside.budget c.args.self.now.state (ap (λ w. w.state) c.self.view_is) c.scope-scope.result.now.entries c.scope-scope.ensures.entries c.args.line.now c.show.result c.in-Show.place c.in-Show.name c.in-Show.is c.show.ensures
