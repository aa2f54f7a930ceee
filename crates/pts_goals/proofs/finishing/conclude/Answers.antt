use Rattle.std.proofs.Common.{length, sym, subst}
use Rattle.pts_terms.specs.Seen.{named}
use Rattle.pts_goals.specs.OpenGoals.{ClosedAfter, subjects_of}
use Rattle.pts_goals.proofs.Conclusion.{ready, all_concluded}
use Rattle.pts_goals.proofs.finishing.conclude.Goals as goal

pub fill_out-requires-clause-done : goal.fill_out-requires-clause-done
fill_out-requires-clause-done c = subst (λ js. ClosedAfter c.args.scratch.now c.args.root.now c.args.steps.now (length c.args.steps.now) c.args.scratch.now js (subjects_of c.args.scratch.now js)) (sym c.new.ensures.items) (ready c.args.scratch.now c.args.root.now c.args.steps.now c.requires.sound)

pub returns-clause-concludes : goal.returns-clause-concludes
returns-clause-concludes c = all_concluded c.args.scratch.now c.fill_out.new.proof c.close.new.proof c.trim.new.self c.args.root.now c.in_ok-judged.judged c.in_ok-_node._node (named c.in_ok-body.body) (named c.in_ok-ty.ty) c.in_ok-judged.ensures.keeps c.in_ok-_node.ensures.keeps c.trim.ensures c.requires.sound.is_goal c.requires.sound.empty c.in_ok-judged.ensures.closes c.in_ok-_node.ensures.last c.in_ok-_node.ensures.judges c.in_ok-body.ensures.bare c.in_ok-ty.ensures.bare
