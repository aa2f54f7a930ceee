-- The events of a core, and what a history of them leaves.
use Rattle.std.specs.Prelude.{◌≡◌, ◌⊎◌, ℕ, List, [], ◌∷◌, ◌++◌, length, Option, Some, None}
use Rattle.pts_names.specs.Name.{Name}
use Rattle.pts_ctx.specs.Front.{Global}
use Rattle.pts_core.specs.declared.finding.Finding.{Finding}
use Rattle.pts_core.specs.declared.finding.Finding.TheVariants.{Sound}
use Rattle.pts_core.specs.declared.reply.Reply.{Reply}
use Rattle.pts_core.specs.declared.reply.Reply.TheVariants.{Seen, Committed, Faulty, Clash, Loaded, ContextFull}
use Rattle.pts_core.specs.Replies.{LabelledFront, reply_to}

-- An event of the past: the session that asked; how many entries the front of its offer had; the entries and the label that
-- it offered; what was found of them; and the reply.
pub record Past : Type 0 where
  pub session : ℕ
  pub front : ℕ
  pub entries : List (Global Name)
  pub label : Option Name
  pub finding : Finding
  pub reply : Reply

-- A look of a session, at this front.
abbrev pub look : ℕ → LabelledFront → Past
look s F = record { session = s; front = length F.entries; entries = []; label = None; finding = Sound; reply = Seen (length F.entries) }

-- A submission of a session, at this front.
abbrev pub submission : ℕ → ℕ → List (Global Name) → Option Name → Finding → LabelledFront → Past
submission s n es label finding F = record { session = s; front = n; entries = es; label = label; finding = finding; reply = reply_to F es label finding }

abbrev pub marks : Option Name → ℕ → List (Name × ℕ)
marks None n = []
marks (Some l) n = (l, n) ∷ []

-- The front after a reply: where it is `Committed` the label is marked, and then the entries enter.
abbrev pub left_by : LabelledFront → Reply → List (Global Name) → Option Name → LabelledFront
left_by F (Committed n m) es label = record { entries = F.entries ++ es; labels = F.labels ++ marks label (length F.entries) }
left_by F (Seen n) es label = F
left_by F (Faulty x n why) es label = F
left_by F (Clash x n) es label = F
left_by F (Loaded x n) es label = F
left_by F (ContextFull n) es label = F

-- The front after an event.
abbrev pub after : LabelledFront → Past → LabelledFront
after F e = left_by F e.reply e.entries e.label

abbrev pub replay_from : LabelledFront → List Past → LabelledFront
replay_from F [] = F
replay_from F (e ∷ h) = replay_from (after F e) h

abbrev pub no_entries : LabelledFront
no_entries = record { entries = []; labels = [] }

-- The front after all events of a history, of which the first came to the empty front.
unfoldable pub replay : List Past → LabelledFront
replay h = replay_from no_entries h

-- The event is a look or a submission, and has the reply that it gets at this front.
abbrev pub Happens : LabelledFront → Past → Type 0
Happens F e = (e ≡ look e.session F) ⊎ (e ≡ submission e.session e.front e.entries e.label e.finding F)

abbrev pub IsHistoryFrom : LabelledFront → List Past → Type 0
IsHistoryFrom F [] = Unit {0}
IsHistoryFrom F (e ∷ h) = Happens F e × IsHistoryFrom (after F e) h

-- Each event has the reply that it gets at the front that the events before it leave.
abbrev pub IsHistory : List Past → Type 0
IsHistory h = IsHistoryFrom no_entries h
