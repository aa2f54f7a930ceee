use Rattle.std.proofs.Common.{◌≡◌, ◌≤◌, length, drop}
use Rattle.pts_ctx.specs.System.{Specification}
use Rattle.pts_ctx.specs.Front.{bare_front}
use Rattle.pts_rules.specs.Valid.{IsValid}
use Rattle.pts_grow.specs.Keeps.{Keeps, Compares}
use Rattle.pts_reduce.specs.Chain.{first_of}
use Rattle.pts_reduce.proofs.chain.join_right.Given as goal

abbrev pub invariant-join : goal.invariant-join
invariant-join l =
    (l.at ≤ length l.chain.steps.items)
    × (l.joined.right ≡ first_of (drop l.at l.chain.steps.items) l.chain.form)
    × (l.joined.left ≡ l.fn.next.left)
    × Compares l.proof l.ctx l.joined
    × (l.proof.shapes ≡ l.fn.proof.shapes)
    × Keeps l.fn.proof l.proof
    × ((S : Specification) → IsValid S (bare_front l.front.entries) l.fn.proof → IsValid S (bare_front l.front.entries) l.proof)

abbrev pub decreases-join : goal.decreases-join
decreases-join l = l.at
