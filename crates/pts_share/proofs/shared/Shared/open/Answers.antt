use Rattle.std.proofs.Common.{refl}
use Rattle.pts_core.specs.Cores.{front_of}
use Rattle.pts_share.proofs.Resting.{all_at_rest, legal_history}
use Rattle.pts_share.proofs.shared.Shared.open.Goals as goal

pub returns-clause-passes : goal.returns-clause-passes
returns-clause-passes c =
    let core = c.args.core in
    all_at_rest c.in_ok-lock.lock.table.shared.table_id core.system core.history c.in_ok-lock.passes.items (legal_history core.system core.system (front_of core) core.history c.is_legal.ensures refl)
    c.in_ok-lock.ensures.own c.in_ok-lock.ensures.idle c.in_ok-lock.ensures.count
