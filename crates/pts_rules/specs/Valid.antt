-- The first fault of a record, valid records, and what a record concludes.
use Rattle.std.specs.Prelude.{◌≡◌, ℕ, pred, List, [], ◌∷◌, ◌++◌, length, Bool, true, false, ◌&&◌, Option, Some, None, is_some}
use Rattle.pts_terms.specs.Tree.{Bare, same_term}
use Rattle.pts_ctx.specs.System.{Specification}
use Rattle.pts_ctx.specs.Front.{Global, Front, Locals}
use Rattle.pts_record.specs.Table.{Tables}
use Rattle.pts_record.specs.Said.{judgement, look, say, rows_of, told}
use Rattle.pts_rules.specs.declared.why.Why.{Why}
use Rattle.pts_rules.specs.Parts.{sort_in}
use Rattle.pts_rules.specs.Conditions.{Plain, Link, form_fault}

-- The first condition that a line breaks, over what was said before it.
abbrev pub fault : Specification → Front → List Link → Plain → Option Why
fault S G ms l = form_fault S G l.form l (look ms l.ctx) (look ms l.first) (look ms l.second) (look ms l.third)

-- The number of the line with its fault, or else the later one.
abbrev pub or_later : ℕ → Option Why → Option (ℕ × Why) → Option (ℕ × Why)
or_later k None later = later
or_later k (Some w) later = Some (k, w)

-- The least line that is no instance of its form, and its fault, in lines after what was said.
abbrev pub first_fault_behind : Specification → Front → List Link → List Plain → Option (ℕ × Why)
first_fault_behind S G ms [] = None
first_fault_behind S G ms (l ∷ ls) = or_later (length ms) (fault S G ms l) (first_fault_behind S G (ms ++ say ms l ∷ []) ls)

-- The least node of a record that is no instance of its form, and its fault.
unfoldable pub first_fault : Specification → Front → Tables → Option (ℕ × Why)
first_fault S G r = first_fault_behind S G [] (rows_of r)

-- A record is valid over a front if each node is an instance of its form.
abbrev pub IsValid : Specification → Front → Tables → Type 0
IsValid S G r = first_fault S G r ≡ None

-- What the last node says.
abbrev pub last_said : Tables → Link
last_said r = told r (pred (length r.nodes))

abbrev pub is_empty : Locals → Bool
is_empty [] = true
is_empty (e ∷ L) = false

-- A judgement in the empty local context that has the body and the type, or the type and some sort.
abbrev pub concludes_as : Link → Option Bare → Bare → Bool
concludes_as (judgement c s t T) (Some a) A = is_empty s.entries && (same_term t a && same_term T A)
concludes_as (judgement c s t T) None A = is_empty s.entries && (same_term t A && is_some (sort_in T))
concludes_as _ _ _ = false

-- The record's last node concludes the entry.
abbrev pub concludes : Tables → Global (Unit {0}) → Bool
concludes r e = concludes_as (last_said r) e.body e.type
