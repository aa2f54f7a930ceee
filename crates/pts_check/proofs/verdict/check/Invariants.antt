use Rattle.std.proofs.Common.{◌≡◌}
use Rattle.pts_ctx.specs.Front.{bare_front}
use Rattle.pts_rules.specs.Valid.{first_fault}
use Rattle.pts_check.proofs.Faulted.{rest}
use Rattle.pts_check.proofs.verdict.check.Given as goal

abbrev pub invariant-loop-number : goal.invariant-loop-number
invariant-loop-number l = rest l.system (bare_front l.front.entries) l.proof l.number ≡ first_fault l.system (bare_front l.front.entries) l.proof
