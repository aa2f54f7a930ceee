-- Threads may share a core behind its lock, and workers may go to other threads.
use denote.RattleType.{RattleType}
use denote.Ref.{NamedLft, ShrRef}
use denote.Param.Send.{IsSend, IsSync, sendable}
use denote.Struct.Field.{shr_ref_field, row_field, bool-field}
use denote.Param.SendFields.{declared_send, as_row_send}
use Rattle.std.proofs.Crossing.{crosses}
use Rattle.pts_lock.proofs.seat.LockSeat.TheSendSync as seat
use Rattle.pts_lock.proofs.turnstile.Turnstile.TheSendSync as lock
use Rattle.pts_share.specs.contracts.shared.Shared as Shared
use Rattle.pts_serve.specs.contracts.worker.SessionWorker as SessionWorker
use Rattle.pts_share.proofs.Sending.{guarded_sent}

pub shared_core : IsSync Shared.the_row
shared_core = search (lock.the_field_sync, guarded_sent, sendable) depth 20 fits 20000

-- A worker, where its world may be shared and its session may be sent.
pub worker_sent : (ℓ : NamedLft) (W C : RattleType) → IsSync W → IsSend C → IsSend (SessionWorker.the_row ℓ W C)
worker_sent ℓ W C w s = declared_send (SessionWorker.the_type ℓ W C) (
  as_row_send (shr_ref_field ℓ Shared.the_row tt) (search (shared_core, sendable)),
  (
    as_row_send (row_field (ShrRef ℓ.mir ℓ.lft W)) (search (w, sendable)),
    (
      search (crosses, sendable),
      (
        search (seat.the_send, guarded_sent, crosses, sendable) depth 30 fits 20000,
        (
          as_row_send (row_field C) (search (s, sendable)),
          (search (crosses, sendable) depth 30 fits 20000, (search (crosses, sendable) depth 30 fits 20000, (as_row_send bool-field (search sendable), tt))),
        ),
      ),
    ),
  ),
)
