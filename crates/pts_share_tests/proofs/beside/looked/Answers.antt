use Rattle.std.proofs.Common.{sym, ap}
use Rattle.pts_share.specs.Sharing.{system_of, table_of}
use Rattle.pts_share_tests.proofs.Places.{handed_out}
use Rattle.pts_share_tests.proofs.beside.looked.Goals as goal

pub look_beside-requires-after_bounds : goal.look_beside-requires-after_bounds
look_beside-requires-after_bounds g c κs within =
    let shared = c.in_ok-shared.shared in
    let core = c.args.core in
    handed_out (table_of shared) (system_of shared) core.system core.history c.in_ok-shared.passes.items c.as_mut_slice.result.now c.in_ok-shared.ensures.passes (sym (ap (λ k. k.system) c.in_ok-shared.ensures.opening.1)) c.as_mut_slice.ensures.value
