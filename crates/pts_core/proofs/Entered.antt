-- The reply to what enters, and the front after it.
use Rattle.std.proofs.Common.{◌≡◌, ◌+◌, ◌++◌, ℕ, List, length, Some, sym, ap, ◌∙◌}
use Rattle.pts_names.specs.Name.{Name}
use Rattle.pts_ctx.specs.Front.{Global}
use Rattle.pts_check.specs.Entered.{declared_entries}
use Rattle.pts_core.specs.declared.reply.Reply.{Reply}
use Rattle.pts_core.specs.declared.reply.Reply.TheVariants as reply
use Rattle.pts_core.specs.Replies.{LabelledFront, reply_to}
use Rattle.pts_core.specs.Histories.{left_by, marks, after}
use Rattle.pts_core.specs.Cores.{SeenExamined, submitted}
use Rattle.pts_core.specs.Ports.{handed_on}
use Rattle.pts_core.specs.Obstacles.{IsFree}
use Rattle.pts_core.proofs.Numbers.{entries_long}
use Rattle.pts_core.proofs.Refusals.{free_is_committed}

pub committed_is_reply : (F : LabelledFront) (x : SeenExamined) (r : Reply) → IsFree F x → r ≡ reply.Committed (length F.entries) (length F.entries + length x.offer.declarations) → r ≡ reply_to F (declared_entries x.offer.declarations) x.offer.label x.finding
committed_is_reply F x r h e = e ∙ (ap (λ n. reply.Committed (length F.entries) (length F.entries + n)) (sym (entries_long x.offer.declarations)) ∙ sym (free_is_committed F x h))

-- The front after a submission in whose way there is nothing, which is handed on.
abbrev entered : LabelledFront → SeenExamined → LabelledFront
entered F x = record { entries = F.entries ++ declared_entries x.offer.declarations; labels = F.labels ++ marks x.offer.label (length F.entries) }

free_enters : (s : ℕ) (F : LabelledFront) (x : SeenExamined) → IsFree F x → after F (submitted s x F) ≡ entered F x
free_enters s F x h = ap (λ r. left_by F r (declared_entries x.offer.declarations) x.offer.label) (free_is_committed F x h)

pub same_front : (F : LabelledFront) (G : List (Global Name)) (L : List (Name × ℕ)) → G ≡ F.entries → L ≡ F.labels → record { entries = G; labels = L } ≡ F
same_front F G L g l = ap (λ H. with H L) g ∙ ap (with F.entries) l
  where
    with : List (Global Name) → List (Name × ℕ) → LabelledFront
    with H K = record { entries = H; labels = K }

pub free_hands_on : (s : ℕ) (F G : LabelledFront) (x : SeenExamined) → IsFree F x → G.entries ≡ F.entries ++ declared_entries x.offer.declarations → G.labels ≡ F.labels ++ marks x.offer.label (length F.entries) → Some G ≡ handed_on (submitted s x F).reply (after F (submitted s x F))
free_hands_on s F G x h e l =
    let A = after F (submitted s x F) in
    ap Some (same_front (entered F x) G.entries G.labels e l ∙ sym (free_enters s F x h)) ∙ sym (ap (λ r. handed_on r A) (free_is_committed F x h))
