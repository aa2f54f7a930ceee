-- What may go to other threads, and what they may share, as a set for `search`.
use denote.Param.Send.{sendable}
use Rattle.std.proofs.Crossing.{crosses}
use Rattle.atomic_table.proofs.shared.Seat.TheSendSync as table_seat
use Rattle.atomic_table.proofs.shared.Shared.TheSendSync as table_shared
use Rattle.atomic_table.proofs.owned.Table.TheSendSync as table
use Rattle.atomic_table.proofs.send_lease.SendLease.TheSendSync as lease
use Rattle.pts_lock.proofs.seat.LockSeat.TheSendSync as seat
use Rattle.pts_lock.proofs.turnstile.Turnstile.TheSendSync as turnstile
use Rattle.pts_share.proofs.Sending.{core_sent, guarded_sent, guarded_part_sent}

pub ruleset crossing = (core_sent, guarded_sent, guarded_part_sent, seat.the_send, table_seat.the_send, turnstile.the_sync, table.the_sync, table_shared.the_sync, lease.the_sync, crosses, sendable)
