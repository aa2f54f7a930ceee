-- A batch against its definition.
use Rattle.std.specs.Prelude.{◌≡◌, []}
use Rattle.pts_ctx.specs.System.{Specification}
use Rattle.pts_ctx.specs.Front.{bare_front}
use Rattle.pts_rules.specs.Derives.{Legal}
use Rattle.pts_check.specs.Entered.{declared_entries, MayFollow}
use Rattle.pts_batch.specs.declared.world.Batch.{Batch}
use Rattle.pts_batch.specs.Batches.{BatchAnswer}

abbrev pub answer_seen : Batch → BatchAnswer
answer_seen r = record { lines = r.lines; entries = r.context.entries; labels = r.context.labels; refused = r.refused }

-- The entries are those of the declarations; each of these has a record that is valid over the entries before it and
-- concludes it; and the entries are legal.
pub record Evident (S : Specification) (r : Batch) : Type 0 where
  pub entries : r.context.entries ≡ declared_entries r.declarations
  pub evidence : MayFollow S [] r.declarations
  pub legal : Legal S (bare_front r.context.entries)
