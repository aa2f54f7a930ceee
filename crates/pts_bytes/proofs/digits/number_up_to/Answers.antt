use Rattle.std.proofs.Common.{arith}
use Rattle.pts_bytes.proofs.Numbers.{too_great}
use Rattle.pts_bytes.proofs.digits.number_up_to.Goals as goal

pub returns-then-value-limit-clause-number : goal.returns-then-value-limit-clause-number
returns-then-value-limit-clause-number c = too_great c.args.limit c.args.word.now c.loop-digit.digit-index c.loop-digit.value c.loop-digit-test.true c.loop-digit.invariant.same (omega arith)
