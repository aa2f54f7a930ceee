-- The two tables of a record, the trees that its terms unfold to, and the order of its links.
use Rattle.std.specs.Prelude.{ℕ, suc, ◌<◌, List, [], ◌∷◌, ◌++◌, length, slice_index_or, Option, Some, None, nat_lt, if◌then◌else◌}
use Rattle.pts_names.specs.Name.{Name}
use Rattle.pts_terms.specs.Tree.{Tree, Named, Bare, sort, const, var, app, named_lam, named_pi, named_let}
use Rattle.pts_terms.specs.Limits.{depth_of, size_of, free_of, within}
use Rattle.pts_record.specs.declared.shape.Shape.{Shape}
use Rattle.pts_record.specs.declared.shape.Shape.TheVariants.{Sort, Const, Var, App, Lam, Pi, Let}
use Rattle.pts_record.specs.declared.measure.Measure.{Measure}
use Rattle.pts_record.specs.declared.shape.Form.{Form}
use Rattle.pts_record.specs.declared.shape.Form.TheVariants.{Empty, Assume, Define, Bare as BareForm, SortAt, ConstAt, VarAt, Thin, PiAt, LamAt, AppAt, LetSort, LetAt, Conv, Same, Left, Right, CongApp, CongLam, CongPi}
use Rattle.pts_record.specs.declared.shape.FormKind.{FormKind}
use Rattle.pts_record.specs.declared.shape.FormKind.TheVariants.{Context, Judgement, Comparison}
use Rattle.pts_record.specs.declared.shape.Node.{Node}
use Rattle.pts_record.specs.declared.shape.RecordFault.{RecordFault}
use Rattle.pts_record.specs.declared.shape.RecordFault.TheVariants.{Link, TooLarge, Memory}

pub record Tables : Type 0 where
  pub shapes : List Shape
  pub nodes : List Node

-- The values of the lines of a table, after those that are there: each by the values before it.
abbrev pub values_behind : {A D : Type 0} → (List D → A → D) → List D → List A → List D
values_behind value ds [] = ds
values_behind value ds (x ∷ xs) = values_behind value (ds ++ value ds x ∷ []) xs

-- The tree of a number. Of a number that isn't there nothing is said: it is some sort.
abbrev pub at : {B : Type 0} → List (Tree B) → ℕ → Tree B
at ts k = slice_index_or ts k (sort 0)

-- What a printed name leaves at its binder: itself, or nothing.
abbrev pub the_name : Name → Name
the_name x = x

abbrev pub no_name : Name → Unit {0}
no_name x = tt

-- The tree of a line over the trees of the earlier lines.
abbrev pub unfold_shape : {B : Type 0} → (Name → B) → List (Tree B) → Shape → Tree B
unfold_shape mark ts (Sort s) = sort s.0
unfold_shape mark ts (Const c) = const c
unfold_shape mark ts (Var i) = var i
unfold_shape mark ts (App f a) = app (at ts f) (at ts a)
unfold_shape mark ts (Lam x A b) = named_lam (mark x) (at ts A) (at ts b)
unfold_shape mark ts (Pi x A b) = named_pi (mark x) (at ts A) (at ts b)
unfold_shape mark ts (Let x a A b) = named_let (mark x) (at ts a) (at ts A) (at ts b)

-- The trees of a table of terms, with and without printed names.
unfoldable pub named_trees : List Shape → List Named
named_trees ss = values_behind (unfold_shape the_name) [] ss

unfoldable pub bare_trees : List Shape → List Bare
bare_trees ss = values_behind (unfold_shape no_name) [] ss

-- The tree of a term's number.
abbrev pub named_at : List Shape → ℕ → Named
named_at ss k = at (named_trees ss) k

abbrev pub bare_at : List Shape → ℕ → Bare
bare_at ss k = at (bare_trees ss) k

abbrev pub measure : {B : Type 0} → Tree B → Measure
measure t = record { depth = depth_of t; size = size_of t; free = free_of t }

-- Each number is below n.
abbrev pub AllBelow : ℕ → List ℕ → Type 0
AllBelow n [] = Unit {0}
AllBelow n (k ∷ ks) = (k < n) × AllBelow n ks

-- The terms that a line of the table of terms is linked to, in the order of its fields.
abbrev pub shape_links : Shape → List ℕ
shape_links (Sort s) = []
shape_links (Const c) = []
shape_links (Var i) = []
shape_links (App f a) = f ∷ a ∷ []
shape_links (Lam x A b) = A ∷ b ∷ []
shape_links (Pi x A b) = A ∷ b ∷ []
shape_links (Let x a A b) = a ∷ A ∷ b ∷ []

-- The links of each term are below its number, the first one's number being n.
abbrev pub ShapesLinked : ℕ → List Shape → Type 0
ShapesLinked n [] = Unit {0}
ShapesLinked n (s ∷ ss) = AllBelow n (shape_links s) × ShapesLinked (suc n) ss

-- What a node of a form says.
abbrev pub kind_of : Form → FormKind
kind_of Empty = Context
kind_of Assume = Context
kind_of Define = Context
kind_of BareForm = Context
kind_of SortAt = Judgement
kind_of ConstAt = Judgement
kind_of VarAt = Judgement
kind_of Thin = Judgement
kind_of PiAt = Judgement
kind_of LamAt = Judgement
kind_of AppAt = Judgement
kind_of LetSort = Judgement
kind_of LetAt = Judgement
kind_of Conv = Judgement
kind_of Same = Comparison
kind_of Left = Comparison
kind_of Right = Comparison
kind_of CongApp = Comparison
kind_of CongLam = Comparison
kind_of CongPi = Comparison

-- The premises of a node of a form.
abbrev pub premises_as : Form → (first second third : ℕ) → List ℕ
premises_as Empty p q r = []
premises_as BareForm p q r = []
premises_as SortAt p q r = []
premises_as ConstAt p q r = []
premises_as VarAt p q r = []
premises_as Same p q r = []
premises_as Assume p q r = p ∷ []
premises_as Define p q r = p ∷ []
premises_as Thin p q r = p ∷ []
premises_as LetSort p q r = p ∷ []
premises_as Left p q r = p ∷ []
premises_as Right p q r = p ∷ []
premises_as PiAt p q r = p ∷ q ∷ []
premises_as LamAt p q r = p ∷ q ∷ []
premises_as AppAt p q r = p ∷ q ∷ []
premises_as LetAt p q r = p ∷ q ∷ []
premises_as CongApp p q r = p ∷ q ∷ []
premises_as CongLam p q r = p ∷ q ∷ []
premises_as CongPi p q r = p ∷ q ∷ []
premises_as Conv p q r = p ∷ q ∷ r ∷ []

-- A node has a context, unless it is `empty`, or one that is made from a judgement.
abbrev pub contexts_as : Form → ℕ → List ℕ
contexts_as Empty c = []
contexts_as Assume c = []
contexts_as Define c = []
contexts_as _ c = c ∷ []

-- The terms that a node names. A context names none.
abbrev pub terms_of_kind : FormKind → (subject claim : ℕ) → List ℕ
terms_of_kind Context t u = []
terms_of_kind Judgement t u = t ∷ u ∷ []
terms_of_kind Comparison t u = t ∷ u ∷ []

abbrev pub terms_as : Form → (subject claim : ℕ) → List ℕ
terms_as f t u = terms_of_kind (kind_of f) t u

abbrev pub node_links : Node → List ℕ
node_links n = contexts_as n.form n.ctx ++ premises_as n.form n.first n.second n.third

abbrev pub term_links : Node → List ℕ
term_links n = terms_as n.form n.subject n.claim

-- Each node is linked to earlier nodes, the first one's number being n, and names terms that stand.
abbrev pub NodesLinked : ℕ → ℕ → List Node → Type 0
NodesLinked terms n [] = Unit {0}
NodesLinked terms n (m ∷ ms) = (AllBelow n (node_links m) × AllBelow terms (term_links m)) × NodesLinked terms (suc n) ms

-- The first field of a line, of those that lead to earlier lines of a table with n lines, that does not. Fields are
-- counted from k on.
abbrev pub first_wrong : ℕ → ℕ → List ℕ → Option RecordFault
first_wrong n k [] = None
first_wrong n k (l ∷ ls) = if nat_lt l n then first_wrong n (suc k) ls else Some (Link k)

abbrev pub or_wrong : Option RecordFault → Option RecordFault → Option RecordFault
or_wrong None later = later
or_wrong (Some w) later = Some w

-- How many fields of a term's line stand before its links: the binder's name does.
abbrev pub fields_before : Shape → ℕ
fields_before (Lam x A b) = 1
fields_before (Pi x A b) = 1
fields_before (Let x a A b) = 1
fields_before _ = 0

-- Why a term is not added: the first field that is no earlier term, or a tree that is not within limits.
unfoldable pub term_fault : List Shape → Shape → Option RecordFault
term_fault ss s =
    or_wrong (first_wrong (length ss) (fields_before s) (shape_links s))
    (if within (unfold_shape no_name (bare_trees ss) s) then None else Some TooLarge)

-- How many fields of a node's line stand before its premises.
abbrev pub premises_from : Form → ℕ
premises_from Assume = 0
premises_from Define = 0
premises_from _ = 3

-- Why a node is not added: the first field, in the order of its line (context, terms, premises), that is no earlier
-- node, or no term.
unfoldable pub node_fault : Tables → Node → Option RecordFault
node_fault r n =
    or_wrong (first_wrong (length r.nodes) 0 (contexts_as n.form n.ctx))
    (or_wrong (first_wrong (length r.shapes) 1 (term_links n))
    (first_wrong (length r.nodes) (premises_from n.form) (premises_as n.form n.first n.second n.third)))

-- A number of a list, or 0 past its end.
abbrev pub number_in : List ℕ → ℕ → ℕ
number_in ks i = slice_index_or ks i 0

-- A node as it is kept: a field that its form does not use is 0.
abbrev pub kept_node : Node → Node
kept_node n =
    let ps = premises_as n.form n.first n.second n.third in
    record {
      form = n.form;
      ctx = number_in (contexts_as n.form n.ctx) 0;
      subject = number_in (term_links n) 0;
      claim = number_in (term_links n) 1;
      first = number_in ps 0;
      second = number_in ps 1;
      third = number_in ps 2;
    }

-- What a refusal means, unless memory ran out.
abbrev pub UnlessMemory : RecordFault → Type 0 → Type 0
UnlessMemory Memory P = Unit {0}
UnlessMemory (Link k) P = P
UnlessMemory TooLarge P = P
