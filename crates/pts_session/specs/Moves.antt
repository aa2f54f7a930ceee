-- A session that takes an answer.
use Rattle.std.specs.Prelude.{ℕ, List, [], ◌∷◌, Bool, true, false, Option, Some, None}
use Rattle.pts_names.specs.Name.{Name}
use Rattle.pts_core.specs.Replies.{LabelledFront}
use Rattle.pts_session.specs.declared.request.Awaited.{Awaited}
use Rattle.pts_session.specs.declared.request.Awaited.TheVariants as awaited
use Rattle.pts_session.specs.State.{State}
use Rattle.pts_session.specs.Replies.{taken_line}
use Rattle.pts_session.specs.Answers.{first_taken}

-- It waits for the answer to a look.
abbrev pub is_look : Option Awaited → Bool
is_look (Some awaited.Look) = true
is_look (Some awaited.Submission) = false
is_look None = false

-- The line that says which name is taken in the front, if one is.
abbrev pub moved_lines : Option (Name × ℕ) → List (List ℕ)
moved_lines None = []
moved_lines (Some t) = taken_line t.0 t.1 ∷ []

-- The session has moved to the front, unless a name is taken there.
abbrev pub moved_state : State → LabelledFront → Option (Name × ℕ) → State
moved_state s F None = record s { base = F }
moved_state s F (Some t) = s

-- The same by the first name of its draft that is taken.
abbrev pub moved_to : State → LabelledFront → State
moved_to s F = moved_state s F (first_taken F.entries s.draft)
