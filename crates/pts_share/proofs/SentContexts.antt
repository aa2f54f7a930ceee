-- Contexts may go to other threads. Chunks are counted, so what they hold may be shared between threads too.
use denote.Param.Send.{IsSend, IsSync, sendable}
use Rattle.std.proofs.Crossing.{crosses}
use Rattle.pts_core.below.indexmap.proofs.map.IndexMap.TheSendSync as map
use Rattle.pts_ctx.proofs.Term.TheLaws.TheKnot as knot
use Rattle.pts_ctx.specs.contracts.entry.Entry as Entry
use Rattle.pts_ctx.specs.contracts.slot.Slot as Slot
use Rattle.pts_ctx.specs.contracts.part.Part as Part
use Rattle.pts_ctx.specs.contracts.chunk.Chunk as Chunk
use Rattle.pts_ctx.specs.contracts.context.Context as Context

-- The terms of an entry hold themselves; `knot.crosses` goes down them. An entry stands in a slot as a part of it.
pub entry_sent : IsSend Entry.the_field.row
entry_sent = search (crosses, knot.crosses, sendable) depth 60 fits 20000

pub entry_shared : IsSync Entry.the_field.row
entry_shared = search (crosses, knot.crosses, sendable) depth 60 fits 20000

pub slot_sent : IsSend Slot.the_row
slot_sent = search (entry_sent, entry_shared, crosses, sendable) depth 30 fits 20000

pub slot_shared : IsSync Slot.the_row
slot_shared = search (entry_sent, entry_shared, crosses, sendable) depth 30 fits 20000

pub part_sent : IsSend Part.the_row
part_sent = search (slot_sent, crosses, sendable) depth 30 fits 20000

pub part_shared : IsSync Part.the_row
part_shared = search (slot_shared, crosses, sendable) depth 30 fits 20000

pub chunk_sent : IsSend Chunk.the_row
chunk_sent = search (part_sent, part_shared, crosses, sendable) depth 30 fits 20000

pub context_sent : IsSend Context.the_row
context_sent = search (chunk_sent, part_sent, map.the_send, crosses, sendable) depth 30 fits 20000
