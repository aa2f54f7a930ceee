-- What lines under hypotheses work on, before and after.
use Rattle.std.specs.Prelude.{◌≡◌, ◌<◌, length}
use Rattle.pts_ctx.specs.System.{Specification}
use Rattle.pts_ctx.specs.Front.{bare_front}
use Rattle.pts_rules.specs.Valid.{IsValid}
use Rattle.pts_reduce_cost.specs.Costs.{Globals, Entries}
use Rattle.pts_grow.specs.Keeps.{Keeps}
use Rattle.pts_grow.specs.Judges.{IsTypedContext}
use Rattle.pts_reduce.specs.Chain.{entries_of}
use Rattle.pts_queries.specs.declared.hypotheses.Under.{Under}

-- The number is that of a context of the record, all of whose entries are known.
pub record IsContext (u : Under) : Type 0 where
  pub there : u.ctx < length u.proof.now.nodes
  pub typed : IsTypedContext u.proof.now u.ctx

-- The entries of the hypotheses, the innermost first.
abbrev pub entries_in : Under → Entries
entries_in u = entries_of u.proof.now u.ctx

-- The second state comes after the first one: the record has what it had and says what it said, and in the system, over the
-- front, it is valid if it was.
pub record Grown (S : Specification) (G : Globals) (u v : Under) : Type 0 where
  pub ctx : v.ctx ≡ u.ctx
  pub names : v.names ≡ u.names
  pub record_name : v.proof.ghost_name ≡ u.proof.ghost_name
  pub keeps : Keeps u.proof.now v.proof.now
  pub valid : IsValid S (bare_front G) u.proof.now → IsValid S (bare_front G) v.proof.now
