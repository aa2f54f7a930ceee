-- What the reader's values stand for.
use Rattle.std.specs.Prelude.{map}
use Rattle.std.specs.Option.{option_map}
use Rattle.pts_terms.specs.Seen.{named}
use Rattle.pts_ctx.specs.System.{Spelled, written}
use Rattle.pts_record.specs.declared.declaration.Declaration.{Declaration}
use Rattle.pts_certificate.specs.declared.certificate.Certificate.{Certificate}
use Rattle.pts_certificate.specs.declared.lists.Lists.{Lists}
use Rattle.pts_certificate.specs.declared.state.Front.{Front}
use Rattle.pts_certificate.specs.declared.state.Heading.{Heading as TheHeading}
use Rattle.pts_certificate.specs.declared.state.State.{State as TheState}
use Rattle.pts_certificate.specs.Certificate.{Declared, Written, Heading, State, at_start, at_sorts, at_axioms, at_rules, between, inside, at_end}

-- A declaration, with its terms as trees with printed names.
abbrev pub declared_of : Declaration → Declared
declared_of d = record { name = d.name; body = option_map named d.body; type = named d.ty; proof = d.proof }

abbrev pub written_of : Certificate → Written
written_of c = record { system = c.system; declarations = map declared_of c.declarations }

-- The states of the reader.
abbrev pub spelled : Lists → Spelled
spelled l = written l.sorts l.axioms.items l.rules.items

abbrev pub front_of : Front → Written
front_of f = record { system = f.system; declarations = map declared_of f.declarations.items }

abbrev pub heading_of : TheHeading → Heading
heading_of h = record { name = h.name; defines = h.defines }

abbrev pub state_of : TheState → State
state_of TheState.Start = at_start
state_of TheState.Sorts = at_sorts
state_of (TheState.Axioms l) = at_axioms (spelled l)
state_of (TheState.Rules l) = at_rules (spelled l)
state_of (TheState.Between f) = between (front_of f)
state_of (TheState.Inside f h r) = inside (front_of f) (heading_of h) r
state_of (TheState.End f) = at_end (front_of f)
