-- What each node of a record says: a local context, a judgement or a comparison.
use Rattle.std.specs.Prelude.{ℕ, List, [], ◌∷◌, length, slice_index_or, map, Bool, true, false, if◌then◌else◌, Option, Some, None}
use Rattle.pts_names.specs.Name.{Name}
use Rattle.pts_terms.specs.Tree.{Tree, sort, bare}
use Rattle.pts_ctx.specs.Front.{Local, assumed, defined, unknown}
use Rattle.pts_record.specs.Table.{Tables, at, bare_trees, named_trees, values_behind, kind_of}
use Rattle.pts_record.specs.declared.shape.Form.{Form}
use Rattle.pts_record.specs.declared.shape.Form.TheVariants.{Assume, Define, Bare as BareForm}
use Rattle.pts_record.specs.declared.shape.FormKind.{FormKind}
use Rattle.pts_record.specs.declared.shape.FormKind.TheVariants.{Context, Judgement, Comparison}
use Rattle.pts_record.specs.declared.shape.Node.{Node}
use Rattle.pts_record.specs.declared.shape.Extent.{Extent}
use Rattle.pts_record.specs.declared.entry.LocalEntry.{LocalEntry}
use Rattle.pts_record.specs.declared.entry.LocalEntry.TheVariants.{Assumed, Defined, Unknown}

-- A context has no terms of its own.
abbrev pub kind_has_terms : FormKind → Bool
kind_has_terms Context = false
kind_has_terms Judgement = true
kind_has_terms Comparison = true

abbrev pub has_terms : Form → Bool
has_terms f = kind_has_terms (kind_of f)

-- A node with the trees of its terms; those of a context say nothing.
pub record Row (B : Type 0) : Type 0 where
  pub form : Form
  pub ctx : ℕ
  pub subject : Tree B
  pub claim : Tree B
  pub first : ℕ
  pub second : ℕ
  pub third : ℕ

abbrev pub row_of_node : {B : Type 0} → List (Tree B) → Node → Row B
row_of_node ts n = record { form = n.form; ctx = n.ctx; subject = (if has_terms n.form then at ts n.subject else sort 0); claim = (if has_terms n.form then at ts n.claim else sort 0); first = n.first; second = n.second; third = n.third }

-- How a context was made: of nothing; from the judgement with a number, which is in the context with the second
-- number; or from the context with a number.
pub data Made : Type 0 where
  by_empty : Made
  by_assume : (premise parent : ℕ) → Made
  by_define : (premise parent : ℕ) → Made
  by_bare : (parent : ℕ) → Made

-- A context: how it was made, its entries, the newest first, and its trail, which has its own number and those of
-- its ancestors, the nearest first. So its entries are as many as its ancestors.
pub record Scope (B : Type 0) : Type 0 where
  pub made : Made
  pub entries : List (Local B)
  pub trail : List ℕ

-- A judgement and a comparison have the number of their context, and that context.
pub data Said (B : Type 0) : Type 0 where
  nothing : Said B
  context : (scope : Scope B) → Said B
  judgement : (ctx : ℕ) (scope : Scope B) (subject claim : Tree B) → Said B
  comparison : (ctx : ℕ) (scope : Scope B) (left right : Tree B) → Said B

-- What number k says; a number that isn't there says nothing.
abbrev pub look : {B : Type 0} → List (Said B) → ℕ → Said B
look ms k = slice_index_or ms k nothing

-- The context that a node is, or that it speaks of. Where nothing is said it is the empty one.
abbrev pub scope_of : {B : Type 0} → Said B → Scope B
scope_of nothing = record { made = by_empty; entries = []; trail = [] }
scope_of (context s) = s
scope_of (judgement c s t T) = s
scope_of (comparison c s t u) = s

-- No entry is bare.
abbrev pub all_known : {B : Type 0} → List (Local B) → Bool
all_known [] = true
all_known (assumed A ∷ L) = all_known L
all_known (defined a A ∷ L) = all_known L
all_known (unknown ∷ L) = false

-- What kind of thing is said.
abbrev pub is_context : {B : Type 0} → Said B → Bool
is_context (context s) = true
is_context _ = false

abbrev pub is_judgement : {B : Type 0} → Said B → Bool
is_judgement (judgement c s t T) = true
is_judgement _ = false

abbrev pub is_comparison : {B : Type 0} → Said B → Bool
is_comparison (comparison c s t u) = true
is_comparison _ = false

-- The number of the context that a judgement or a comparison is in; else 0.
abbrev pub place_of : {B : Type 0} → Said B → ℕ
place_of nothing = 0
place_of (context s) = 0
place_of (judgement c s t T) = c
place_of (comparison c s t u) = c

-- The first and the second term of a judgement or a comparison; else some sort.
abbrev pub subject_of : {B : Type 0} → Said B → Tree B
subject_of nothing = sort 0
subject_of (context s) = sort 0
subject_of (judgement c s t T) = t
subject_of (comparison c s t u) = t

abbrev pub claim_of : {B : Type 0} → Said B → Tree B
claim_of nothing = sort 0
claim_of (context s) = sort 0
claim_of (judgement c s t T) = T
claim_of (comparison c s t u) = u

-- The two terms of a judgement.
abbrev pub statement_of : {B : Type 0} → Said B → Option (Tree B × Tree B)
statement_of (judgement c s t T) = Some (t, T)
statement_of _ = None

-- The entry that is made from a judgement. Of what is no judgement nothing is known.
abbrev pub assumed_by : {B : Type 0} → Said B → Local B
assumed_by (judgement c s t T) = assumed t
assumed_by _ = unknown

abbrev pub defined_by : {B : Type 0} → Said B → Local B
defined_by (judgement c s t T) = defined t T
defined_by _ = unknown

-- The context with number k that has one entry more than another.
abbrev pub longer : {B : Type 0} → ℕ → Made → Local B → Scope B → Scope B
longer k made e s = record { made = made; entries = e ∷ s.entries; trail = k ∷ s.trail }

-- The context that the line with number k makes, where c and p are what its links ctx and first say. Only a line
-- that is a context is asked for it.
abbrev pub made_by : {B : Type 0} → Form → ℕ → Row B → (c p : Said B) → Scope B
made_by Assume k l c p = longer k (by_assume l.first (place_of p)) (assumed_by p) (scope_of p)
made_by Define k l c p = longer k (by_define l.first (place_of p)) (defined_by p) (scope_of p)
made_by BareForm k l c p = longer k (by_bare l.ctx) unknown (scope_of c)
made_by _ k l c p = record { made = by_empty; entries = []; trail = k ∷ [] }

-- What that line says: by its kind, a context, or its two terms in the context of its link ctx.
abbrev pub say_of_kind : {B : Type 0} → FormKind → Form → ℕ → Row B → (c p : Said B) → Said B
say_of_kind Context f k l c p = context (made_by f k l c p)
say_of_kind Judgement f k l c p = judgement l.ctx (scope_of c) l.subject l.claim
say_of_kind Comparison f k l c p = comparison l.ctx (scope_of c) l.subject l.claim

abbrev pub say_as : {B : Type 0} → Form → ℕ → Row B → (c p : Said B) → Said B
say_as f k l c p = say_of_kind (kind_of f) f k l c p

abbrev pub say : {B : Type 0} → List (Said B) → Row B → Said B
say ms l = say_as l.form (length ms) l (look ms l.ctx) (look ms l.first)

-- What was said, and after it what the lines say, in order.
abbrev pub said_behind : {B : Type 0} → List (Said B) → List (Row B) → List (Said B)
said_behind = values_behind say

-- The lines of a record, without printed names.
abbrev pub rows_of : Tables → List (Row (Unit {0}))
rows_of r = map (row_of_node (bare_trees r.shapes)) r.nodes

-- What the node with number k says, without printed names.
unfoldable pub told : Tables → ℕ → Said (Unit {0})
told r k = look (said_behind [] (rows_of r)) k

-- The same with printed names.
abbrev pub named_lines_of : Tables → List (Row Name)
named_lines_of r = map (row_of_node (named_trees r.shapes)) r.nodes

unfoldable pub named_told : Tables → ℕ → Said Name
named_told r k = look (said_behind [] (named_lines_of r)) k

-- An entry, a context and what is said, without printed names.
abbrev pub bare_local : {B : Type 0} → Local B → Local (Unit {0})
bare_local (assumed A) = assumed (bare A)
bare_local (defined a A) = defined (bare a) (bare A)
bare_local unknown = unknown

abbrev pub bare_scope : {B : Type 0} → Scope B → Scope (Unit {0})
bare_scope s = record { made = s.made; entries = map bare_local s.entries; trail = s.trail }

abbrev pub bare_said : {B : Type 0} → Said B → Said (Unit {0})
bare_said nothing = nothing
bare_said (context s) = context (bare_scope s)
bare_said (judgement c s t T) = judgement c (bare_scope s) (bare t) (bare T)
bare_said (comparison c s t u) = comparison c (bare_scope s) (bare t) (bare u)

-- What is kept of the context that a node is or speaks of: how many entries it has, and whether it is typed.
abbrev pub extent : {B : Type 0} → Said B → Extent
extent m = record { length = length (scope_of m).entries; typed = all_known (scope_of m).entries }

-- The entry of a local context whose terms have these numbers, by the trees of the terms.
abbrev pub local_of : {B : Type 0} → List (Tree B) → LocalEntry → Local B
local_of ts (Assumed A) = assumed (at ts A)
local_of ts (Defined a A) = defined (at ts a) (at ts A)
local_of ts Unknown = unknown

-- The numbers of its terms.
abbrev pub entry_terms : LocalEntry → List ℕ
entry_terms (Assumed A) = A ∷ []
entry_terms (Defined a A) = a ∷ A ∷ []
entry_terms Unknown = []
