-- A line that was read is tested, and done.
use Rattle.std.specs.Prelude.{◌≡◌, ℕ, List, [], ◌∷◌, Option, Some, None, Bool, true, false}
use Rattle.pts_ctx.specs.System.{Specification}
use Rattle.pts_lines.specs.declared.line.Line.{Line}
use Rattle.pts_lines.specs.declared.line.Line.TheVariants.{Infer, Reduce, Equal, Show, Draft}
use Rattle.pts_play.specs.Machines.{done}
use Rattle.pts_queries.specs.Replies.{refusal}
use Rattle.pts_session.specs.State.{State, Came}
use Rattle.pts_session.specs.Lines.{tests, first_failing, Does}

-- The line is refused where a test fails, and else it does this.
abbrev pub AfterTests : Option (List ℕ) → State → (Came → Type 0) → Came → Type 0
AfterTests (Some why) s does o = o ≡ done (refusal why ∷ []) s
AfterTests None s does o = does o

abbrev pub Tested : Specification → State → Line → Came → Type 0
Tested S s c o = AfterTests (first_failing (tests s c)) s (Does S s c) o

-- The lines that ask about the scope, with one reply.
abbrev pub is_single : Line → Bool
is_single (Infer t) = true
is_single (Reduce t) = true
is_single (Equal t u) = true
is_single (Show p x) = true
is_single c = false

-- The lines that ask about the scope or the draft.
abbrev pub is_query : Line → Bool
is_query Draft = true
is_query c = is_single c
