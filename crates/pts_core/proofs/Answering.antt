-- Answers to one event of a core.
use Rattle.std.proofs.Common.{◌≡◌, ◌<◌, ℕ, List, [], ◌∷◌, ◌++◌, length, sym, ap, ◌∙◌, subst}
use Rattle.std.specs.Option.{option_map}
use Rattle.std.proofs.lemmas.List.{append-nil}
use Rattle.pts_ctx.specs.System.{Specification}
use Rattle.pts_core.specs.declared.port.Answer.{Answer}
use Rattle.pts_core.specs.Replies.{LabelledFront}
use Rattle.pts_core.specs.Histories.{Past, replay}
use Rattle.pts_core.specs.Cores.{IsLegalCore, labelled}
use Rattle.pts_core.specs.Ports.{handed_on, IsAnswer, AfterOthers}

-- The event comes to the front F, which the history h leaves.
pub answered : (S : Specification) (event : LabelledFront → Past) (F G : LabelledFront) (h k : List Past) (a : Answer) → IsLegalCore S F h → k ≡ h ++ event F ∷ [] → length h < 4000000 → a.receipt.number ≡ length h → a.receipt.reply ≡ (event F).reply → replay k ≡ G → option_map labelled a.front ≡ handed_on a.receipt.reply G → IsAnswer event h k a
answered S event F G h k a legal later room number same left shown = record {
  room = room;
  later = later ∙ ap (λ K. h ++ event K ∷ []) (sym legal.replayed);
  number = number;
  reply = same ∙ ap (λ K. (event K).reply) (sym legal.replayed);
  front = shown ∙ ap (handed_on a.receipt.reply) (sym left);
}

-- No one else has asked.
pub at_once : (s : ℕ) (may_come : List Past → Type 0) (h : List Past) (holds : List Past → Type 0) → may_come [] → holds h → AfterOthers s may_come h holds
at_once s may_come h holds m p = record { others = []; of_others = tt; allowed = m; met = subst holds (sym (append-nil h)) p }
