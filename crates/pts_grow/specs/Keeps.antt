-- How records grow, and what the numbers of a record are.
use Rattle.std.specs.Prelude.{◌≡◌, ◌<◌, ℕ, length, take, false}
use Rattle.pts_names.specs.Name.{Name}
use Rattle.pts_terms.specs.Tree.{Tree, Named}
use Rattle.pts_terms.specs.Limits.{within}
use Rattle.pts_ctx.specs.System.{Specification}
use Rattle.pts_ctx.specs.Front.{Front, unknown}
use Rattle.pts_record.specs.Table.{Tables, named_at}
use Rattle.pts_record.specs.Said.{named_told, Said, context, comparison, scope_of, longer, by_bare}
use Rattle.pts_rules.specs.Valid.{IsValid}
use Rattle.pts_grow.specs.declared.fault.TermFault.{TermFault}
use Rattle.pts_grow.specs.declared.fault.TermFault.TheVariants.{TooLarge, Memory}
use Rattle.pts_grow.specs.declared.compared.Compared.{Compared}

-- The second record has what the first one has, perhaps with further lines after it, and what was said is said.
pub record Keeps (a b : Tables) : Type 0 where
  pub shapes : take (length a.shapes) b.shapes ≡ a.shapes
  pub nodes : take (length a.nodes) b.nodes ≡ a.nodes
  pub says : (k : ℕ) → k < length a.nodes → named_told b k ≡ named_told a k

-- The second record is valid over every front over which the first one is.
abbrev pub StaysValid : Tables → Tables → Type 0
StaysValid a b = (S : Specification) (G : Front) → IsValid S G a → IsValid S G b

-- The number is that of a term of the record, which is this one, with its printed names.
abbrev pub IsTerm : Tables → ℕ → Named → Type 0
IsTerm r n t = (n < length r.shapes) × (named_at r.shapes n ≡ t)

-- The number is that of a node of the record, which says this.
abbrev pub IsNode : Tables → ℕ → Said Name → Type 0
IsNode r n m = (n < length r.nodes) × (named_told r n ≡ m)

-- The two terms stand, and the node compares them in the context with the number c.
abbrev pub Compares : Tables → ℕ → Compared → Type 0
Compares r c p = (p.left < length r.shapes) × (p.right < length r.shapes) × IsNode r p.node (comparison c (scope_of (named_told r c)) (named_at r.shapes p.left) (named_at r.shapes p.right))

-- The node is the context with the number c with one bare entry more.
abbrev pub IsBareOf : Tables → ℕ → ℕ → Type 0
IsBareOf r c n = IsNode r n (context (longer n (by_bare c) unknown (scope_of (named_told r c))))

-- Why a term was not made: it is not within limits, or there was no memory.
abbrev pub WhyNot : {B : Type 0} → TermFault → Tree B → Type 0
WhyNot TooLarge t = within t ≡ false
WhyNot Memory t = Unit {0}
