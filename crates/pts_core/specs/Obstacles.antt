-- What is in the way of an examined offer, with numbers for names.
use Rattle.std.specs.Prelude.{◌≡◌, ◌+◌, ◌≤◌, ℕ, List, ◌++◌, length, take, drop, slice_get, Option, Some, None, IfSome}
use Rattle.std.specs.Option.{option_map}
use Rattle.pts_names.specs.Name.{Name}
use Rattle.pts_ctx.specs.Front.{Global}
use Rattle.pts_ctx.specs.Seen.{label_place}
use Rattle.pts_check.specs.Entered.{declared_entries}
use Rattle.pts_core.specs.declared.finding.Finding.{Finding}
use Rattle.pts_core.specs.declared.finding.Finding.TheVariants as finding
use Rattle.pts_core.specs.declared.reply.Reply.{Reply}
use Rattle.pts_core.specs.declared.reply.Reply.TheVariants as reply
use Rattle.pts_core.specs.declared.obstacle.Obstacle.{Obstacle}
use Rattle.pts_core.specs.declared.obstacle.Obstacle.TheVariants.{Faulty, Loaded, Clash, Full}
use Rattle.pts_core.specs.Replies.{LabelledFront, clash_from, first_clash}
use Rattle.pts_core.specs.Cores.{SeenExamined}

-- The reply to entries with perhaps a label that have the obstacle in their way.
abbrev pub obstacle_reply : List (Global Name) → Option Name → Obstacle → Option Reply
obstacle_reply es label (Faulty k node why) = option_map (λ e. reply.Faulty e.name node why) (slice_get es k)
obstacle_reply es label (Loaded place) = option_map (λ l. reply.Loaded l place) label
obstacle_reply es label (Clash k place) = option_map (λ e. reply.Clash e.name place) (slice_get es k)
obstacle_reply es label (Full n) = Some (reply.ContextFull n)

-- No record has a fault, as far as they were looked at.
abbrev pub IsFaultless : Finding → Type 0
IsFaultless finding.Sound = Unit {0}
IsFaultless (finding.Doubled k) = Unit {0}
IsFaultless (finding.Faulty k node why) = ⊥

-- The first clash is not before the number k.
abbrev pub NoClashBefore : ℕ → List (Global Name) → List (Global Name) → Type 0
NoClashBefore k G es = clash_from (G ++ take k es) k (drop k es) ≡ first_clash G es

-- Nothing is in the way: all of it enters.
pub record IsFree (F : LabelledFront) (x : SeenExamined) : Type 0 where
  pub sound : x.finding ≡ finding.Sound
  pub label : IfSome x.offer.label (λ l. label_place l F.labels ≡ None)
  pub clash : first_clash F.entries (declared_entries x.offer.declarations) ≡ None
  pub room : length F.entries + length x.offer.declarations ≤ 200000
