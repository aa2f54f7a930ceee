-- With new names for its constants a record is kept as it was: terms have the same measures, nodes the same extents.
use Rattle.std.proofs.Common.{ℕ, zero, suc, List, [], ◌∷◌, ◌++◌, map, length, Bool, true, false, ◌≡◌, ◌≤◌, ◌<◌, refl, sym, ap, ◌∙◌, subst, arith, All}
use Rattle.std.specs.Prelude.{if◌then◌else◌, max, pred, ◌+◌, nat_le, ◌&&◌}
use Rattle.std.proofs.lemmas.List.{map-append, length-map}
use mathlib.Core.Path.{ap₂}
use Rattle.pts_names.specs.Name.{Name}
use Rattle.pts_terms.specs.Tree.{Tree, Bare, sort, const, var, app, named_lam, named_pi, named_let}
use Rattle.pts_terms.specs.Limits.{depth_of, size_of, free_of, within}
use Rattle.pts_terms.specs.Replaced.{replaced}
use Rattle.pts_terms.proofs.Lifting.{ap₃}
use Rattle.pts_ctx.specs.Front.{Local, assumed, defined, unknown}
use Rattle.pts_record.specs.declared.shape.Form.{Form}
use Rattle.pts_record.specs.declared.shape.Form.TheVariants.{Empty, Assume, Define, Bare as BareForm, SortAt, ConstAt, VarAt, Thin, PiAt, LamAt, AppAt, LetSort, LetAt, Conv, Same, Left, Right, CongApp, CongLam, CongPi}
use Rattle.pts_record.specs.declared.shape.FormKind.{FormKind}
use Rattle.pts_record.specs.declared.shape.FormKind.TheVariants.{Context, Judgement, Comparison}
use Rattle.pts_record.specs.declared.shape.Shape.{Shape}
use Rattle.pts_record.specs.declared.shape.Shape.TheVariants.{Sort, Const, Var, App, Lam, Pi, Let}
use Rattle.pts_record.specs.declared.shape.Node.{Node}
use Rattle.pts_record.specs.declared.shape.Extent.{Extent}
use Rattle.pts_record.specs.declared.measure.Measure.{Measure}
use Rattle.pts_record.specs.Table.{Tables, at, unfold_shape, no_name, bare_trees, values_behind, measure, shape_links, AllBelow, ShapesLinked, NodesLinked, kind_of}
use Rattle.pts_record.specs.Said.{Scope, Row, row_of_node, has_terms, rows_of, Said, nothing, context, judgement, comparison, look, made_by, say_of_kind, say_as, say, said_behind, scope_of, place_of, assumed_by, defined_by, all_known, extent}
use Rattle.pts_record.specs.Kept.{Kept, tables}
use Rattle.pts_record.specs.Renaming.{renamed_shape, renamed_record}

module _ (g : Name → Name) where
  -- a term with the new names
  abbrev anew : Bare → Bare
  anew t = replaced (λ c. const (g c)) t

  depth_same : (t : Bare) → depth_of (anew t) ≡ depth_of t
  depth_same (sort s) = refl
  depth_same (const c) = refl
  depth_same (var i) = refl
  depth_same (app f a) = ap₂ (λ m n. max m n + 1) (depth_same f) (depth_same a)
  depth_same (named_lam x A b) = ap₂ (λ m n. max m n + 1) (depth_same A) (depth_same b)
  depth_same (named_pi x A b) = ap₂ (λ m n. max m n + 1) (depth_same A) (depth_same b)
  depth_same (named_let x a A b) = ap₃ (λ l m n. max (max l m) n + 1) (depth_same a) (depth_same A) (depth_same b)

  size_same : (t : Bare) → size_of (anew t) ≡ size_of t
  size_same (sort s) = refl
  size_same (const c) = refl
  size_same (var i) = refl
  size_same (app f a) = ap₂ (λ m n. m + n + 1) (size_same f) (size_same a)
  size_same (named_lam x A b) = ap₂ (λ m n. m + n + 1) (size_same A) (size_same b)
  size_same (named_pi x A b) = ap₂ (λ m n. m + n + 1) (size_same A) (size_same b)
  size_same (named_let x a A b) = ap₃ (λ l m n. l + m + n + 1) (size_same a) (size_same A) (size_same b)

  free_same : (t : Bare) → free_of (anew t) ≡ free_of t
  free_same (sort s) = refl
  free_same (const c) = refl
  free_same (var i) = refl
  free_same (app f a) = ap₂ max (free_same f) (free_same a)
  free_same (named_lam x A b) = ap₂ (λ m n. max m (pred n)) (free_same A) (free_same b)
  free_same (named_pi x A b) = ap₂ (λ m n. max m (pred n)) (free_same A) (free_same b)
  free_same (named_let x a A b) = ap₃ (λ l m n. max (max l m) (pred n)) (free_same a) (free_same A) (free_same b)

  measure_same : (t : Bare) → measure (anew t) ≡ measure t
  measure_same t = ap₃ (λ l m n. record { depth = l; size = m; free = n }) (depth_same t) (size_same t) (free_same t)

  within_same : (t : Bare) → within (anew t) ≡ within t
  within_same t = ap₂ (λ m n. nat_le m 2000 && nat_le n 1000000) (depth_same t) (size_same t)

  at_anew : (ts : List Bare) (k : ℕ) → at (map anew ts) k ≡ anew (at ts k)
  at_anew [] k = refl
  at_anew (t ∷ ts) zero = refl
  at_anew (t ∷ ts) (suc k) = at_anew ts k

  unfold_anew : (ts : List Bare) (s : Shape) → unfold_shape no_name (map anew ts) (renamed_shape g s) ≡ anew (unfold_shape no_name ts s)
  unfold_anew ts (Sort s) = refl
  unfold_anew ts (Const c) = refl
  unfold_anew ts (Var i) = refl
  unfold_anew ts (App h a) = ap₂ app (at_anew ts h) (at_anew ts a)
  unfold_anew ts (Lam x A b) = ap₂ (named_lam tt) (at_anew ts A) (at_anew ts b)
  unfold_anew ts (Pi x A b) = ap₂ (named_pi tt) (at_anew ts A) (at_anew ts b)
  unfold_anew ts (Let x a A b) = ap₃ (named_let tt) (at_anew ts a) (at_anew ts A) (at_anew ts b)

  trees_after : (ss : List Shape) (ts : List Bare) → values_behind (unfold_shape no_name) (map anew ts) (map (renamed_shape g) ss) ≡ map anew (values_behind (unfold_shape no_name) ts ss)
  trees_after [] ts = refl
  trees_after (s ∷ ss) ts =
      ap (λ t. values_behind (unfold_shape no_name) (map anew ts ++ t ∷ []) (map (renamed_shape g) ss)) (unfold_anew ts s)
      ∙ ap (λ us. values_behind (unfold_shape no_name) us (map (renamed_shape g) ss)) (sym (map-append anew ts (unfold_shape no_name ts s ∷ [])))
      ∙ trees_after ss (ts ++ unfold_shape no_name ts s ∷ [])

  trees_anew : (ss : List Shape) → bare_trees (map (renamed_shape g) ss) ≡ map anew (bare_trees ss)
  unfolding bare_trees
  trees_anew ss = trees_after ss []

  measures_same : (ts : List Bare) → map measure (map anew ts) ≡ map measure ts
  measures_same [] = refl
  measures_same (t ∷ ts) = ap₂ ◌∷◌ (measure_same t) (measures_same ts)

  limits_same : (ts : List Bare) → All (λ t. within t ≡ true) ts → All (λ t. within t ≡ true) (map anew ts)
  limits_same [] a k d h = absurd (omega (arith, h))
  limits_same (t ∷ ts) a zero d h = within_same t ∙ a 0 d (omega arith)
  limits_same (t ∷ ts) a (suc k) d h = limits_same ts (λ i e l. a (suc i) e (omega (arith, l))) k d (omega (arith, h))

  links_same : (s : Shape) → shape_links (renamed_shape g s) ≡ shape_links s
  links_same (Sort s) = refl
  links_same (Const c) = refl
  links_same (Var i) = refl
  links_same (App f a) = refl
  links_same (Lam x A b) = refl
  links_same (Pi x A b) = refl
  links_same (Let x a A b) = refl

  shapes_same : (n : ℕ) (ss : List Shape) → ShapesLinked n ss → ShapesLinked n (map (renamed_shape g) ss)
  shapes_same n [] h = tt
  shapes_same n (s ∷ ss) h = (subst (AllBelow n) (sym (links_same s)) h.0, shapes_same (suc n) ss h.1)

  -- what is said, with the new names
  abbrev local_anew : Local (Unit {0}) → Local (Unit {0})
  local_anew (assumed A) = assumed (anew A)
  local_anew (defined a A) = defined (anew a) (anew A)
  local_anew unknown = unknown

  abbrev scope_anew : Scope (Unit {0}) → Scope (Unit {0})
  scope_anew s = record { made = s.made; entries = map local_anew s.entries; trail = s.trail }

  abbrev said_anew : Said (Unit {0}) → Said (Unit {0})
  said_anew nothing = nothing
  said_anew (context s) = context (scope_anew s)
  said_anew (judgement c s t T) = judgement c (scope_anew s) (anew t) (anew T)
  said_anew (comparison c s t u) = comparison c (scope_anew s) (anew t) (anew u)

  abbrev row_anew : Row (Unit {0}) → Row (Unit {0})
  row_anew l = record { form = l.form; ctx = l.ctx; subject = anew l.subject; claim = anew l.claim; first = l.first; second = l.second; third = l.third }

  chosen : (b : Bool) (ts : List Bare) (k : ℕ) → (if b then at (map anew ts) k else sort 0) ≡ anew (if b then at ts k else sort 0)
  chosen true ts k = at_anew ts k
  chosen false ts k = refl

  row_same : (ts : List Bare) (n : Node) → row_of_node (map anew ts) n ≡ row_anew (row_of_node ts n)
  row_same ts n =
      ap₂ (λ (t u : Bare). record { form = n.form; ctx = n.ctx; subject = t; claim = u; first = n.first; second = n.second; third = n.third }) (chosen (has_terms n.form) ts n.subject) (chosen (has_terms n.form) ts n.claim)

  rows_same : (ts : List Bare) (ns : List Node) → map (row_of_node (map anew ts)) ns ≡ map row_anew (map (row_of_node ts) ns)
  rows_same ts [] = refl
  rows_same ts (n ∷ ns) = ap₂ ◌∷◌ (row_same ts n) (rows_same ts ns)

  look_anew : (ms : List (Said (Unit {0}))) (k : ℕ) → look (map said_anew ms) k ≡ said_anew (look ms k)
  look_anew [] k = refl
  look_anew (m ∷ ms) zero = refl
  look_anew (m ∷ ms) (suc k) = look_anew ms k

  place_same : (m : Said (Unit {0})) → place_of (said_anew m) ≡ place_of m
  place_same nothing = refl
  place_same (context s) = refl
  place_same (judgement c s t T) = refl
  place_same (comparison c s t u) = refl

  scope_same : (m : Said (Unit {0})) → scope_of (said_anew m) ≡ scope_anew (scope_of m)
  scope_same nothing = refl
  scope_same (context s) = refl
  scope_same (judgement c s t T) = refl
  scope_same (comparison c s t u) = refl

  assumed_same : (m : Said (Unit {0})) → assumed_by (said_anew m) ≡ local_anew (assumed_by m)
  assumed_same nothing = refl
  assumed_same (context s) = refl
  assumed_same (judgement c s t T) = refl
  assumed_same (comparison c s t u) = refl

  defined_same : (m : Said (Unit {0})) → defined_by (said_anew m) ≡ local_anew (defined_by m)
  defined_same nothing = refl
  defined_same (context s) = refl
  defined_same (judgement c s t T) = refl
  defined_same (comparison c s t u) = refl

  made_same : (h : Form) (k : ℕ) (l : Row (Unit {0})) (c p : Said (Unit {0})) → made_by h k (row_anew l) (said_anew c) (said_anew p) ≡ scope_anew (made_by h k l c p)
  made_same Assume k l c p = rw (place_same p, assumed_same p, scope_same p) refl
  made_same Define k l c p = rw (place_same p, defined_same p, scope_same p) refl
  made_same BareForm k l c p = rw (scope_same c) refl
  made_same Empty k l c p = refl
  made_same _ k l c p = refl

  say_same : (i : FormKind) (h : Form) (k : ℕ) (l : Row (Unit {0})) (c p : Said (Unit {0})) → say_of_kind i h k (row_anew l) (said_anew c) (said_anew p) ≡ said_anew (say_of_kind i h k l c p)
  say_same Context h k l c p = ap context (made_same h k l c p)
  say_same Judgement h k l c p = ap (λ s. judgement l.ctx s (anew l.subject) (anew l.claim)) (scope_same c)
  say_same Comparison h k l c p = ap (λ s. comparison l.ctx s (anew l.subject) (anew l.claim)) (scope_same c)

  says_same : (ms : List (Said (Unit {0}))) (l : Row (Unit {0})) → say (map said_anew ms) (row_anew l) ≡ said_anew (say ms l)
  says_same ms l =
      ap (λ k. say_as l.form k (row_anew l) (look (map said_anew ms) l.ctx) (look (map said_anew ms) l.first)) (length-map ms said_anew)
      ∙ ap₂ (λ c p. say_as l.form (length ms) (row_anew l) c p) (look_anew ms l.ctx) (look_anew ms l.first)
      ∙ say_same (kind_of l.form) l.form (length ms) l (look ms l.ctx) (look ms l.first)

  said_same : (ms : List (Said (Unit {0}))) (ls : List (Row (Unit {0}))) → said_behind (map said_anew ms) (map row_anew ls) ≡ map said_anew (said_behind ms ls)
  said_same ms [] = refl
  said_same ms (l ∷ ls) =
      ap (λ qs. said_behind qs (map row_anew ls)) (ap (λ m. map said_anew ms ++ m ∷ []) (says_same ms l) ∙ sym (map-append said_anew ms (say ms l ∷ [])))
      ∙ said_same (ms ++ say ms l ∷ []) ls

  known_same : (L : List (Local (Unit {0}))) → all_known (map local_anew L) ≡ all_known L
  known_same [] = refl
  known_same (assumed A ∷ L) = known_same L
  known_same (defined a A ∷ L) = known_same L
  known_same (unknown ∷ L) = refl

  extent_same : (m : Said (Unit {0})) → extent (said_anew m) ≡ extent m
  extent_same m =
      ap (λ (s : Scope (Unit {0})). record { length = length s.entries; typed = all_known s.entries }) (scope_same m)
      ∙ ap₂ (λ k b. record { length = k; typed = b }) (length-map (scope_of m).entries local_anew) (known_same (scope_of m).entries)

  extents_same : (ms : List (Said (Unit {0}))) → map extent (map said_anew ms) ≡ map extent ms
  extents_same [] = refl
  extents_same (m ∷ ms) = ap₂ ◌∷◌ (extent_same m) (extents_same ms)

  all_extents_same : (ss : List Shape) (ns : List Node) → map extent (said_behind [] (rows_of (tables (map (renamed_shape g) ss) ns))) ≡ map extent (said_behind [] (rows_of (tables ss ns)))
  all_extents_same ss ns =
      ap (λ ls. map extent (said_behind [] ls)) (ap (λ ts. map (row_of_node ts) ns) (trees_anew ss) ∙ rows_same (bare_trees ss) ns)
      ∙ ap (map extent) (said_same [] (rows_of (tables ss ns)))
      ∙ extents_same (said_behind [] (rows_of (tables ss ns)))

  pub kept_renamed : (ss qs : List Shape) (ms : List Measure) (ns : List Node) (es : List Extent) → Kept ss ms ns es → qs ≡ map (renamed_shape g) ss → Kept qs ms ns es
  kept_renamed ss qs ms ns es k e =
      let long = length-map ss (renamed_shape g) in
      subst (λ zs. Kept zs ms ns es) (sym e) (record {
        terms_fit = let h = k.terms_fit in omega (arith, h, long);
        nodes_fit = k.nodes_fit;
        shapes = shapes_same 0 ss k.shapes;
        nodes = subst (λ n. NodesLinked n 0 ns) (sym long) k.nodes;
        measures = k.measures ∙ sym (measures_same (bare_trees ss)) ∙ ap (map measure) (sym (trees_anew ss));
        limits = subst (All (λ t. within t ≡ true)) (sym (trees_anew ss)) (limits_same (bare_trees ss) k.limits);
        extents = k.extents ∙ sym (all_extents_same ss ns);
      })
