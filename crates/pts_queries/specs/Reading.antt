-- The terms of lines: names and sorts are looked up before all else.
use Rattle.std.specs.Prelude.{◌≡◌, ℕ, List, reverse, Option, Some, None, is_some, if◌then◌else◌, Result, Ok, Err}
use Rattle.pts_names.specs.Name.{Name}
use Rattle.pts_terms.specs.Tree.{Named}
use Rattle.pts_ctx.specs.Seen.{place_of}
use Rattle.pts_grammar.specs.Syntax.{Syntax}
use Rattle.pts_parser.specs.declared.fault.ReadFault.{ReadFault}
use Rattle.pts_parser.specs.FaultText.{read_text}
use Rattle.pts_parser.specs.Resolution.{resolved}
use Rattle.pts_reduce_cost.specs.Costs.{Globals}
use Rattle.pts_queries.specs.Replies.{refusal}

-- The constant for which a name stands: the entry of the front that has this name.
abbrev pub known_name : Globals → Name → Option Name
known_name G x = if is_some (place_of x G) then Some x else None

-- The term of a text over the front and hypotheses with these names, the outermost first; or the first fault of a name or a
-- sort from the left. A plain name is that of the innermost hypothesis that has it, if one has.
abbrev pub term_over : (sorts : List (List ℕ)) → Globals → (xs : List Name) → Syntax → Result Named ReadFault
term_over sorts G xs T = resolved sorts (known_name G) (reverse xs) T

-- The line is what is said of the term; or the fault is refused.
abbrev pub OnTerm : Result Named ReadFault → (Named → List ℕ → Type 0) → List ℕ → Type 0
OnTerm (Ok t) says line = says t line
OnTerm (Err e) says line = line ≡ refusal (read_text e)
