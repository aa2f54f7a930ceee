-- A record grafted on another: its nodes are put in the place of one node.
use Rattle.std.specs.Prelude.{◌≡◌, ℕ, pred, [], length, true, Some}
use Rattle.pts_names.specs.Name.{Name}
use Rattle.pts_ctx.specs.System.{Specification}
use Rattle.pts_ctx.specs.Front.{Front}
use Rattle.pts_record.specs.Table.{Tables}
use Rattle.pts_record.specs.Said.{Scope, by_empty, nothing, context, judgement, comparison, told}
use Rattle.pts_rules.specs.Conditions.{Link}
use Rattle.pts_rules.specs.Valid.{IsValid, last_said}
use Rattle.pts_image.specs.declared.replacement.Replacement.{Replacement}
use Rattle.pts_image.specs.declared.replacement.Replacement.TheVariants.{Constant}
use Rattle.pts_image.specs.declared.append.Numbering.{Numbering}
use Rattle.pts_image.specs.Appending.{IsLinked, new_number, with_image}
use Rattle.pts_image.specs.Substitution.{is_closed_judgement, last_node}

-- What is said, without the numbers of nodes in it.
abbrev pub plain_scope : Scope (Unit {0}) → Scope (Unit {0})
plain_scope s = record { made = by_empty; entries = s.entries; trail = [] }

abbrev pub without_numbers : Link → Link
without_numbers nothing = nothing
without_numbers (context s) = context (plain_scope s)
without_numbers (judgement c s t T) = judgement 0 (plain_scope s) t T
without_numbers (comparison c s t u) = comparison 0 (plain_scope s) t u

-- No constant is replaced.
abbrev pub same_constant : Name → Replacement
same_constant c = Constant c

-- The outer record after the inner one, whose last node is in the place of the node with this number.
abbrev pub graft_numbering : Tables → ℕ → Numbering
graft_numbering inner node = record { start = length inner.nodes; root = (last_node inner).ctx; graft = Some (record { node = node; place = pred (length inner.nodes) }) }

abbrev pub graft_record : Tables → ℕ → Tables → Tables
graft_record outer node inner = with_image inner same_constant (new_number outer.nodes (graft_numbering inner node)) outer

-- Where the node is a judgement in an empty local context, and the inner record's last node says the same, the graft is
-- valid over each front over which both are valid.
abbrev pub GraftsAreValid : Type 0
GraftsAreValid = (S : Specification) (G : Front) (outer inner : Tables) (node : ℕ) → IsLinked outer → IsLinked inner → IsValid S G outer → IsValid S G inner → is_closed_judgement (told outer node) ≡ true → without_numbers (last_said inner) ≡ without_numbers (told outer node) → IsValid S G (graft_record outer node inner)

-- And its last node says what the outer record's last node says.
abbrev pub GraftsSayTheSame : Type 0
GraftsSayTheSame = (S : Specification) (G : Front) (outer inner : Tables) (node : ℕ) → IsLinked outer → IsLinked inner → IsValid S G outer → IsValid S G inner → is_closed_judgement (told outer node) ≡ true → without_numbers (last_said inner) ≡ without_numbers (told outer node) → without_numbers (last_said (graft_record outer node inner)) ≡ without_numbers (last_said outer)
