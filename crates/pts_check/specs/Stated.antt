-- A judgement's or a comparison's line, with its terms.
use Rattle.std.specs.Prelude.{Bool, ◌||◌, Option, Some, None, ◌∷◌}
use Rattle.pts_terms.specs.Tree.{Bare}
use Rattle.pts_ctx.specs.Front.{Local, defined, Locals}
use Rattle.pts_record.specs.declared.shape.Node.{Node}
use Rattle.pts_record.specs.Table.{Tables, bare_at}
use Rattle.pts_record.specs.Said.{Said, is_judgement, is_comparison}
use Rattle.pts_rules.specs.Conditions.{Plain}

abbrev pub stated : Tables → Node → Plain
stated r n = record { form = n.form; ctx = n.ctx; subject = bare_at r.shapes n.subject; claim = bare_at r.shapes n.claim; first = n.first; second = n.second; third = n.third }

-- The node has terms.
abbrev pub has_statement : Said (Unit {0}) → Bool
has_statement m = is_judgement m || is_comparison m

-- The newest entry, where it is a definition.
abbrev pub newest_definition : Locals → Option (Bare × Bare)
newest_definition (defined a A ∷ L) = Some (a, A)
newest_definition _ = None

-- The definition of an entry.
abbrev pub definition_of : Local (Unit {0}) → Option Bare
definition_of (defined a A) = Some a
definition_of _ = None
