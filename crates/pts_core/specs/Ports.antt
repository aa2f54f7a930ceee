-- What a call that asks a core for one event does to the history, and what it answers.
use Rattle.std.specs.Prelude.{◌≡◌, ◌≢◌, ◌<◌, ℕ, List, [], ◌∷◌, ◌++◌, length, Option, Some, None}
use Rattle.std.specs.List.{AllByRecursion}
use Rattle.std.specs.Option.{option_map}
use Rattle.pts_core.specs.declared.port.Answer.{Answer}
use Rattle.pts_core.specs.declared.port.PortFault.{PortFault}
use Rattle.pts_core.specs.declared.port.PortFault.TheVariants.{HistoryFull, Memory}
use Rattle.pts_core.specs.declared.reply.Reply.{Reply}
use Rattle.pts_core.specs.declared.reply.Reply.TheVariants.{Seen, Committed, Faulty, Clash, Loaded, ContextFull}
use Rattle.pts_core.specs.Replies.{LabelledFront}
use Rattle.pts_core.specs.Histories.{Past, replay}
use Rattle.pts_core.specs.Cores.{labelled}

-- The front that is handed on with a reply: all of it where entries may have come, else none.
abbrev pub handed_on : Reply → LabelledFront → Option LabelledFront
handed_on (Seen n) F = Some F
handed_on (Committed n m) F = Some F
handed_on (Faulty x n why) F = None
handed_on (Clash x n) F = None
handed_on (Loaded x n) F = None
handed_on (ContextFull n) F = None

-- The event comes next in the history h, which then is k; the answer has its number and its reply, and hands on the front.
pub record IsAnswer (event : LabelledFront → Past) (h k : List Past) (a : Answer) : Type 0 where
  pub room : length h < 4000000
  pub later : k ≡ h ++ event (replay h) ∷ []
  pub number : a.receipt.number ≡ length h
  pub reply : a.receipt.reply ≡ (event (replay h)).reply
  pub front : option_map labelled a.front ≡ handed_on a.receipt.reply (replay k)

-- There is no answer, and the history is as it was: it is full, or memory ran out.
abbrev pub IsNoAnswer : PortFault → List Past → List Past → Type 0
IsNoAnswer (HistoryFull n) h k = (k ≡ h) × (length h ≡ 4000000) × (n ≡ 4000000)
IsNoAnswer Memory h k = k ≡ h

-- No event is of the session s.
abbrev pub OfOthers : ℕ → List Past → Type 0
OfOthers s h = AllByRecursion (λ e. e.session ≢ s) h

-- The history goes on with events of other sessions than s, of which these may come, and of what it is then this holds.
pub record AfterOthers (s : ℕ) (may_come : List Past → Type 0) (h : List Past) (holds : List Past → Type 0) : Type 0 where
  pub others : List Past
  pub of_others : OfOthers s others
  pub allowed : may_come others
  pub met : holds (h ++ others)
