-- What nodes of a record judge, and the contexts that are made of them.
use Rattle.std.specs.Prelude.{◌≡◌, ◌<◌, ℕ, List, [], ◌∷◌, length, true, Option, Some, None, is_some}
use Rattle.std.specs.List.{slice_get}
use Rattle.std.specs.Option.{option_map}
use Rattle.pts_terms.specs.Tree.{Tree, Bare, const, pi, bare}
use Rattle.pts_ctx.specs.Front.{Global, find, Local, assumed, defined, unknown}
use Rattle.pts_record.specs.declared.shape.Form.TheVariants.{PiAt}
use Rattle.pts_record.specs.Table.{Tables, named_at, bare_at}
use Rattle.pts_record.specs.Said.{named_told, context, judgement, scope_of, longer, by_empty, by_assume, by_define, is_context, all_known}
use Rattle.pts_rules.specs.Parts.{sort_in}
use Rattle.pts_grow.specs.Keeps.{IsNode}
use Rattle.pts_grow.specs.declared.judged.Judged.{Judged}

-- The node is a context without a bare entry.
abbrev pub IsTypedContext : Tables → ℕ → Type 0
IsTypedContext r c = (is_context (named_told r c) ≡ true) × (all_known (scope_of (named_told r c)).entries ≡ true)

-- The two terms stand, and the node judges the first to have the second as its type, in the context with the number c.
abbrev pub Judges : Tables → ℕ → Judged → Type 0
Judges r c j = (j.subject < length r.shapes) × (j.claim < length r.shapes) × IsNode r j.node (judgement c (scope_of (named_told r c)) (named_at r.shapes j.subject) (named_at r.shapes j.claim))

-- The node is an empty context.
abbrev pub IsEmpty : Tables → ℕ → Type 0
IsEmpty r n = IsNode r n (context (record { made = by_empty; entries = []; trail = n ∷ [] }))

-- The node is the context with the number c with one entry more: the subject of a judgement is assumed, or the subject
-- is defined with the claim as its type.
abbrev pub IsAssumeOf : Tables → ℕ → Judged → ℕ → Type 0
IsAssumeOf r c j n = IsNode r n (context (longer n (by_assume j.node c) (assumed (named_at r.shapes j.subject)) (scope_of (named_told r c))))

abbrev pub IsDefineOf : Tables → ℕ → Judged → ℕ → Type 0
IsDefineOf r c j n = IsNode r n (context (longer n (by_define j.node c) (defined (named_at r.shapes j.subject) (named_at r.shapes j.claim)) (scope_of (named_told r c))))

-- The term is a sort.
abbrev pub IsSort : Tables → ℕ → Type 0
IsSort r t = is_some (sort_in (bare_at r.shapes t)) ≡ true

-- The node judges that a term has a sort, in the context with the number c.
abbrev pub JudgesSort : Tables → ℕ → Judged → Type 0
JudgesSort r c j = Judges r c j × IsSort r j.claim

-- The first judgement is of the product of the subjects of the two others; the last of them is in the context with the
-- number i, in which the subject of d is assumed.
pub record IsProduct (r : Tables) (c : ℕ) (p d : Judged) (i : ℕ) (s : Judged) : Type 0 where
  pub product : JudgesSort r c p
  pub domain : JudgesSort r c d
  pub inner : IsAssumeOf r c d i
  pub body : JudgesSort r i s
  pub parts : bare_at r.shapes p.subject ≡ pi (bare_at r.shapes d.subject) (bare_at r.shapes s.subject)

-- The node with the number n has the form of products, with the nodes d and s as its premises.
pub record IsProductNode (r : Tables) (n d s : ℕ) : Type 0 where
  pub form : option_map (λ l. l.form) (slice_get r.nodes n) ≡ Some PiAt
  pub first : option_map (λ l. l.first) (slice_get r.nodes n) ≡ Some d
  pub second : option_map (λ l. l.second) (slice_get r.nodes n) ≡ Some s

-- The type of an entry; a bare one has none.
abbrev pub type_in : {B : Type 0} → Local B → Option (Tree B)
type_in (assumed A) = Some A
type_in (defined a A) = Some A
type_in unknown = None

-- The type, without printed names, of the front's entry that a constant names.
abbrev pub constant_type : {B : Type 0} → List (Global B) → Bare → Option Bare
constant_type G (const x) = option_map (λ e. bare e.type) (find x G)
constant_type G _ = None
