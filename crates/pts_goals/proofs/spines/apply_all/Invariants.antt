use Rattle.std.proofs.Common.{◌≡◌, ◌≤◌, ◌-◌, length, drop}
use Rattle.pts_record.specs.Table.{named_at}
use Rattle.pts_grow.specs.Keeps.{Keeps, StaysValid}
use Rattle.pts_goals.specs.Steps.{IsGoal, links_arity, spine}
use Rattle.pts_goals.specs.OpenGoals.{subjects_of}
use Rattle.pts_goals.specs.Parts.{OnSpine}
use Rattle.pts_goals.proofs.spines.apply_all.Given as goal

abbrev pub invariant-apply : goal.invariant-apply
invariant-apply l = Keeps l.fn.proof l.proof × StaysValid l.fn.proof l.proof × IsGoal l.proof l.goal × (l.at ≤ length l.links) × (l.left ≤ length l.parts) × (l.left ≡ links_arity (drop l.at l.links)) × OnSpine l.proof l.goal l.judged (drop l.at l.links) l.parts (spine l.fn.proof (named_at l.fn.proof.shapes l.fn.function.subject) l.links (subjects_of l.fn.proof l.parts))

abbrev pub decreases-apply : goal.decreases-apply
decreases-apply l = length l.links - l.at
