-- What a history leaves stays as it goes on.
use Rattle.std.proofs.Common.{◌≡◌, List, [], ◌∷◌, ◌++◌, Option, refl, sym, ap, ◌∙◌, subst}
use Rattle.std.proofs.lemmas.List.{append-nil, append_assoc, map-append}
use Rattle.pts_names.specs.Name.{Name}
use Rattle.pts_ctx.specs.System.{Specification}
use Rattle.pts_ctx.specs.Front.{Global, bare_front, bare_global}
use Rattle.pts_ctx.specs.Seen.{IsPrefix}
use Rattle.pts_rules.specs.Derives.{Legal}
use Rattle.pts_rules.proofs.Prefix.{prefix_legal}
use Rattle.pts_core.specs.declared.reply.Reply.{Reply}
use Rattle.pts_core.specs.declared.reply.Reply.TheVariants as reply
use Rattle.pts_core.specs.Replies.{LabelledFront}
use Rattle.pts_core.specs.Histories.{Past, left_by, marks, after, replay_from, replay, no_entries}

abbrev Begins : LabelledFront → LabelledFront → Type 0
Begins F G = IsPrefix F.entries G.entries × IsPrefix F.labels G.labels

begins_itself : (F : LabelledFront) → Begins F F
begins_itself F = (([], append-nil F.entries), ([], append-nil F.labels))

begins_on : (F G H : LabelledFront) → Begins F G → Begins G H → Begins F H
begins_on F G H a b = (
  (a.0.0 ++ b.0.0, sym (append_assoc F.entries a.0.0 b.0.0) ∙ (ap (λ K. K ++ b.0.0) a.0.1 ∙ b.0.1)),
  (a.1.0 ++ b.1.0, sym (append_assoc F.labels a.1.0 b.1.0) ∙ (ap (λ K. K ++ b.1.0) a.1.1 ∙ b.1.1)),
)

left_begins : (F : LabelledFront) (r : Reply) (es : List (Global Name)) (l : Option Name) → Begins F (left_by F r es l)
left_begins F (reply.Committed n m) es l = ((es, refl), (marks l _, refl))
left_begins F (reply.Seen n) es l = begins_itself F
left_begins F (reply.Faulty x n w) es l = begins_itself F
left_begins F (reply.Clash x p) es l = begins_itself F
left_begins F (reply.Loaded x p) es l = begins_itself F
left_begins F (reply.ContextFull n) es l = begins_itself F

from_begins : (F : LabelledFront) (k : List Past) → Begins F (replay_from F k)
from_begins F [] = begins_itself F
from_begins F (e ∷ k) = begins_on F (after F e) (replay_from (after F e) k) (left_begins F e.reply e.entries e.label) (from_begins (after F e) k)

from_both : (F : LabelledFront) (h k : List Past) → replay_from F (h ++ k) ≡ replay_from (replay_from F h) k
from_both F [] k = refl
from_both F (e ∷ h) k = from_both (after F e) h k

pub fronts_stay : (h k : List Past) → IsPrefix (replay h).entries (replay (h ++ k)).entries × IsPrefix (replay h).labels (replay (h ++ k)).labels
unfolding replay
fronts_stay h k = subst (Begins (replay_from no_entries h)) (sym (from_both no_entries h k)) (from_begins (replay_from no_entries h) k)

pub earlier_legal : (S : Specification) (h k : List Past) → Legal S (bare_front (replay (h ++ k)).entries) → Legal S (bare_front (replay h).entries)
earlier_legal S h k l =
    let p = (fronts_stay h k).0 in
    prefix_legal S (bare_front (replay h).entries) (bare_front p.0) (subst (Legal S) (ap bare_front (sym p.1) ∙ map-append bare_global (replay h).entries p.0) l)
