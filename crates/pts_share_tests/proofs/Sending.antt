-- Threads may share a core behind a lock.
use denote.Param.Send.{IsSync, sendable}
use Rattle.pts_lock.proofs.turnstile.Turnstile.TheSendSync as lock
use Rattle.pts_share.specs.contracts.shared.Shared as Shared
use Rattle.pts_share.proofs.Sending.{guarded_sent, guarded_part_sent}

pub shared_core : IsSync Shared.the_row
shared_core = search (lock.the_sync, lock.the_field_sync, guarded_sent, guarded_part_sent, sendable) depth 20 fits 20000
