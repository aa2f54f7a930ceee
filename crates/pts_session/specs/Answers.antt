-- What an answer of the core comes to in a session that waits for it.
use Rattle.std.specs.Prelude.{◌≡◌, ℕ, List, [], ◌∷◌, Option, Some, None}
use Rattle.std.specs.Option.{option_map, option_or}
use Rattle.pts_names.specs.Name.{Name}
use Rattle.pts_ctx.specs.Front.{Global}
use Rattle.pts_ctx.specs.Seen.{place_of}
use Rattle.pts_core.specs.declared.port.Answer.{Answer}
use Rattle.pts_core.specs.declared.reply.Reply.{Reply}
use Rattle.pts_core.specs.declared.reply.Reply.TheVariants.{Seen, Committed}
use Rattle.pts_core.specs.Replies.{LabelledFront}
use Rattle.pts_core.specs.Cores.{labelled}
use Rattle.pts_core.specs.ReplyText.{reply_text}
use Rattle.pts_session.specs.declared.request.Awaited.{Awaited}
use Rattle.pts_session.specs.declared.request.Awaited.TheVariants as awaited
use Rattle.pts_session.specs.State.{State, Waiting, settled}
use Rattle.pts_session.specs.Replies.{taken_line}

-- The first entry whose name exists in a front, by that name and its place there.
abbrev pub first_taken : (front entries : List (Global Name)) → Option (Name × ℕ)
first_taken G [] = None
first_taken G (e ∷ es) = option_or (option_map (λ place. (e.name, place)) (place_of e.name G)) (first_taken G es)

-- The front that comes with an answer.
abbrev pub front_in : Answer → Option LabelledFront
front_in a = option_map labelled a.front

abbrev pub reply_in : Answer → Reply
reply_in a = a.receipt.reply

-- The replies to an answer, and the state after them. After a look base and draft move to the front that is shown, unless a
-- name of the draft exists there. What is committed has entered the front that is shown, and the draft is then empty.
pub data Resume (w : Waiting) (a : Answer) : (replies : List (List ℕ)) → State → Type 0 where
  moves : {n : ℕ} {F : LabelledFront} → w.awaited ≡ awaited.Look → reply_in a ≡ Seen n → front_in a ≡ Some F → first_taken F.entries w.state.draft ≡ None → Resume w a (reply_text (Seen n) ∷ []) (settled (record w.state { base = F }))
  stays : {n : ℕ} {F : LabelledFront} {x : Name} {p : ℕ} → w.awaited ≡ awaited.Look → reply_in a ≡ Seen n → front_in a ≡ Some F → first_taken F.entries w.state.draft ≡ Some (x, p) → Resume w a (reply_text (Seen n) ∷ taken_line x p ∷ []) (settled w.state)
  has_entered : {n m : ℕ} {F : LabelledFront} → w.awaited ≡ awaited.Submission → reply_in a ≡ Committed n m → front_in a ≡ Some F → Resume w a (reply_text (Committed n m) ∷ []) (settled (record w.state { base = F; draft = [] }))
  has_not_entered : {r : Reply} → w.awaited ≡ awaited.Submission → reply_in a ≡ r → front_in a ≡ None → Resume w a (reply_text r ∷ []) (settled w.state)

-- What was asked may be answered so.
abbrev pub MayBeReply : Awaited → Reply → Type 0
MayBeReply awaited.Look (Seen n) = Unit {0}
MayBeReply awaited.Look r = ⊥
MayBeReply awaited.Submission (Seen n) = ⊥
MayBeReply awaited.Submission r = Unit {0}
