-- Shared cores, as their contracts see them.
use Rattle.std.specs.Prelude.{ℕ, List}
use Rattle.atomic_table.specs.Seated.{TableId}
use Rattle.pts_ctx.specs.System.{Specification}
use Rattle.pts_core.specs.Cores.{SeenCore}
use Rattle.pts_share.specs.declared.shared.Shared.{Shared}

-- Which table of words and slots the lock has.
abbrev pub table_of : Shared → TableId
table_of s = s.lock.table.shared.table_id

-- The sessions that share the core.
abbrev pub sessions_of : Shared → List ℕ
sessions_of s = s.lock.table.shared.key.owners.items

-- The core as it was when it began to be shared.
abbrev pub core_of : Shared → SeenCore
core_of s = s.lock.table.shared.key.value.value.core

-- The system of the core, which stays.
abbrev pub system_of : Shared → Specification
system_of s = (core_of s).system
