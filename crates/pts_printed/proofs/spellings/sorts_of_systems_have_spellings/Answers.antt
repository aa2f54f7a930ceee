use Rattle.std.proofs.Common.{arith, ◌<◌, length, get_or, []}
use Rattle.pts_printed.specs.Laws.{IsSpelling}
use Rattle.pts_printed.proofs.spellings.sorts_of_systems_have_spellings.Goals as goal
use Rattle.pts_printed.proofs.Sorts.{up_to}

pub loop-number-preserved : goal.loop-number-preserved
loop-number-preserved c =
    up_to (λ s. s < length c.args.system.now.sorts → IsSpelling (get_or c.args.system.now.sorts s [])) c.loop-number.number c.loop-number.invariant c.is_spelled.ensures

pub returns : goal.returns
returns c = λ s l. c.loop-number.invariant s (omega (arith, c.loop-number-test.false, c.is_declared.ensures.few)) l
