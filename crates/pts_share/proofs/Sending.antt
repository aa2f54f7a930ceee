-- Cores, and locks and passes around them, may go to other threads, and threads may share the locks.
use denote.Param.Send.{IsSend, IsSync, sendable}
use Rattle.std.proofs.Crossing.{crosses}
use Rattle.pts_ctx.proofs.system.System.TheSendSync as system
use Rattle.pts_core.proofs.reply.Reply.TheSendSync as reply
use Rattle.pts_core.specs.contracts.past.Past as Past
use Rattle.pts_core.specs.contracts.keeper.Core as Core
use Rattle.pts_share.specs.contracts.guarded.Guarded as Guarded
use Rattle.pts_share.proofs.SentContexts.{context_sent}

pub past_sent : IsSend Past.the_row
past_sent = search (reply.the_field_send, crosses, sendable) depth 30 fits 20000

pub core_sent : IsSend Core.the_row
core_sent = search (context_sent, past_sent, system.the_send, crosses, sendable) depth 30 fits 20000

pub guarded_sent : IsSend Guarded.the_row
guarded_sent = search (core_sent, sendable) depth 12

-- as a part of another type
pub guarded_part_sent : IsSend Guarded.the_field.row
guarded_part_sent = search (core_sent, sendable) depth 12
