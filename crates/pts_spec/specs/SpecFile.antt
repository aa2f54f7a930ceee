-- The system that a specification file writes.
use Rattle.std.specs.Prelude.{ℕ, Bool, ◌||◌, if◌then◌else◌, List, codes, Option, Some, None, Result, Ok, Err, option_and_then}
use Rattle.std.specs.Ordering.{nat_cmp, is_lt}
use Rattle.std.specs.Str.{is_utf8}
use Rattle.std.specs.Cmp.Lexicographic.{slice_cmp}
use Rattle.toml.specs.Data.{Data, Members, no_members, member, get_member}
use Rattle.toml.specs.Parse.{parse_document}
use Rattle.pts_names.specs.Name.{same_name}
use Rattle.pts_ctx.specs.System.{Specification, Spelled, written, specification_of, system_fault}
use Rattle.pts_spec.specs.declared.fault.SpecFault.{SpecFault}
use Rattle.pts_spec.specs.declared.fault.SpecFault.TheVariants.{NotToml, Shape, System, Memory}
use Rattle.pts_spec.specs.Shapes.{spelling_of, axiom_of, rule_of, list_of}

-- What follows from an answer, where there is one, and else the fault.
abbrev pub and_then : {A B : Type 0} → Result A SpecFault → (A → Result B SpecFault) → Result B SpecFault
and_then (Ok a) next = next a
and_then (Err e) next = Err e

-- What is read of the value at a key. Where there is none, or it has another shape, the key is at fault.
abbrev pub at_key : {A : Type 0} → List ℕ → (Data → Option A) → Members → Result A SpecFault
at_key key read document = elim (option_and_then read (get_member key document)) [ Some a ↦ Ok a | None ↦ Err (Shape key) ]

-- The keys of a specification.
abbrev pub is_known : List ℕ → Bool
is_known key = same_name key (codes "sorts") || same_name key (codes "axioms") || same_name key (codes "rules")

-- The lesser of a key and a later one, by their bytes.
abbrev pub lesser : List ℕ → Option (List ℕ) → List ℕ
lesser key None = key
lesser key (Some later) = if is_lt (slice_cmp nat_cmp later key) then later else key

-- The least key of a document that is none of these.
abbrev pub least_other : Members → Option (List ℕ)
least_other no_members = None
least_other (member key d rest) = if is_known key then least_other rest else Some (lesser key (least_other rest))

-- The lists that a document writes. The first key at fault is that of the sorts, of the axioms, of the rules, and then
-- the least other one.
unfoldable pub spelled_in : Members → Result Spelled SpecFault
spelled_in document =
    and_then (at_key (codes "sorts") (list_of spelling_of) document) (λ sorts.
    and_then (at_key (codes "axioms") (list_of axiom_of) document) (λ axioms.
    and_then (at_key (codes "rules") (list_of rule_of) document) (λ rules.
    elim (least_other document) [ Some key ↦ Err (Shape key) | None ↦ Ok (written sorts axioms rules) ])))

-- The document that bytes are, by the grammar of TOML.
abbrev pub or_not_toml : Option Members → Result Members SpecFault
or_not_toml (Some document) = Ok document
or_not_toml None = Err NotToml

abbrev pub document_of : List ℕ → Result Members SpecFault
document_of bytes = or_not_toml (if is_utf8 bytes then parse_document bytes else None)

-- The system that lists are, or their first fault.
abbrev pub system_with : Spelled → Result Specification SpecFault
system_with w = elim (system_fault w) [ Some e ↦ Err (System e) | None ↦ Ok (specification_of w) ]

-- The system that bytes write, or why they write none.
unfoldable pub system_of : List ℕ → Result Specification SpecFault
system_of bytes = and_then (document_of bytes) (λ document. and_then (spelled_in document) system_with)

-- What a fault means, unless memory ran out.
abbrev pub UnlessMemory : SpecFault → Type 0 → Type 0
UnlessMemory Memory P = Unit {0}
UnlessMemory NotToml P = P
UnlessMemory (Shape key) P = P
UnlessMemory (System e) P = P
