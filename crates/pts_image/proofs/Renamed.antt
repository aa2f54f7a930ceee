-- Constant records are valid, and conclude.
use Rattle.std.proofs.Common.{ℕ, suc, zero, List, [], ◌∷◌, ◌++◌, map, length, Bool, true, false, ◌≡◌, ◌<◌, refl, sym, ap, ◌∙◌, arith, subst, Option, Some, None}
use Rattle.std.specs.Prelude.{is_some, nat_eq, position, ◌&&◌, if◌then◌else◌, pred}
use Rattle.std.specs.Option.{option_map, option_and_then}
use Rattle.std.proofs.lemmas.List.{map-append, length-map}
use mathlib.Core.Path.{ap₂}
use Rattle.pts_names.specs.Name.{Name, same_name}
use Rattle.pts_names.proofs.Same.{same_name-true, same_name-self}
use Rattle.pts_terms.specs.Tree.{Tree, Bare, sort, const, same_term}
use Rattle.pts_terms.proofs.Same.{both, both_hold, same_term_eq, same_term_self}
use Rattle.pts_ctx.specs.System.{Specification}
use Rattle.pts_ctx.specs.Front.{Global, Front, Fresh, find, Locals, open_body}
use Rattle.pts_ctx.proofs.Find.{some_same}
use Rattle.pts_record.specs.declared.shape.Form.{Form}
use Rattle.pts_record.specs.declared.shape.Form.TheVariants.{Empty, Assume, Define, Bare as BareForm, SortAt, ConstAt, VarAt, Thin, PiAt, LamAt, AppAt, LetSort, LetAt, Conv, Same, Left, Right, CongApp, CongLam, CongPi}
use Rattle.pts_record.specs.declared.shape.FormKind.{FormKind}
use Rattle.pts_record.specs.declared.shape.FormKind.TheVariants.{Context, Judgement, Comparison}
use Rattle.pts_record.specs.declared.shape.Shape.{Shape}
use Rattle.pts_record.specs.declared.shape.Shape.TheVariants.{Sort, Const, Var, App, Lam, Pi, Let}
use Rattle.pts_record.specs.declared.shape.Node.{Node}
use Rattle.pts_record.specs.Table.{Tables, at, unfold_shape, no_name, bare_trees, values_behind, kind_of}
use Rattle.pts_record.specs.Said.{Row, row_of_node, has_terms, rows_of, Said, nothing, context, judgement, comparison, look, made_by, say_of_kind, say_as, say, said_behind, scope_of, place_of, told, assumed_by, defined_by, is_judgement}
use Rattle.pts_rules.specs.Step.{body_of}
use Rattle.pts_rules.specs.Parts.{const_in, is_that, is_typed_context, distance, sort_in}
use Rattle.pts_rules.specs.Conditions.{Plain, Link, first_failing, form_fault, const_conditions}
use Rattle.pts_rules.specs.Valid.{first_fault_behind, first_fault, IsValid, is_empty, concludes_as, concludes, last_said}
use Rattle.pts_rules.proofs.Passing.{all_pass, none_fails, some_is, map_is, then_is, that_is, const_is}
use Rattle.pts_rules.proofs.Sound.{faultless}
use Rattle.pts_terms.specs.Replaced.{replaced}
use Rattle.pts_image.specs.Image.{Closed, local_image, scope_image, said_image, row_image}
use Rattle.pts_record.specs.Renaming.{renamed_shape, renamed_record}
use Rattle.pts_image.specs.Renaming.{renamed_entry, Renames}
use Rattle.pts_image.proofs.Saying.{that_of, sort_fixed, image_same, typed_im}
use Rattle.pts_image.proofs.Heads.{heads}
use Rattle.pts_image.proofs.Rows.{row_faultless}

map_id : (xs : List ℕ) → map (λ (k : ℕ). k) xs ≡ xs
map_id [] = refl
map_id (x ∷ xs) = ap (λ ys. x ∷ ys) (map_id xs)

-- The entry that a constant's line speaks of.
pub entry_named : (F : Front) (T : Bare) (o : Option Name) → is_some o ≡ true → is_some (option_and_then (λ x. find x F) o) ≡ true → is_that T (option_map (λ (e : Global (Unit {0})). e.type) (option_and_then (λ x. find x F) o)) ≡ true → (x : Name) × (i : Global (Unit {0})) × (o ≡ Some x) × (find x F ≡ Some i) × (T ≡ i.type)
entry_named F T None h k c = absurd (cc h)
entry_named F T (Some x) h k c =
    let (i, at) = some_is (find x F) k in
    (x, i, refl, at, some_same (sym (that_is T _ c) ∙ ap (option_map (λ (e : Global (Unit {0})). e.type)) at))

module _ (g : Name → Name) where
  abbrev f : Name → Bare
  f c = const (g c)

  closed_names : Closed f
  closed_names c = tt

  -- Trees of the renamed table.
  at_renamed : (ts : List Bare) (k : ℕ) → at (map (replaced f) ts) k ≡ replaced f (at ts k)
  at_renamed [] k = refl
  at_renamed (t ∷ ts) zero = refl
  at_renamed (t ∷ ts) (suc k) = at_renamed ts k

  unfold_renamed : (ts : List Bare) (s : Shape) → unfold_shape no_name (map (replaced f) ts) (renamed_shape g s) ≡ replaced f (unfold_shape no_name ts s)
  unfold_renamed ts (Sort s) = refl
  unfold_renamed ts (Const c) = refl
  unfold_renamed ts (Var i) = refl
  unfold_renamed ts (App h a) = let p = at_renamed ts h in let q = at_renamed ts a in cc
  unfold_renamed ts (Lam x A b) = let p = at_renamed ts A in let q = at_renamed ts b in cc
  unfold_renamed ts (Pi x A b) = let p = at_renamed ts A in let q = at_renamed ts b in cc
  unfold_renamed ts (Let x a A b) = let p = at_renamed ts a in let q = at_renamed ts A in let o = at_renamed ts b in cc

  trees_after : (ss : List Shape) (ts : List Bare) → values_behind (unfold_shape no_name) (map (replaced f) ts) (map (renamed_shape g) ss) ≡ map (replaced f) (values_behind (unfold_shape no_name) ts ss)
  trees_after [] ts = refl
  trees_after (s ∷ ss) ts =
      ap (λ t. values_behind (unfold_shape no_name) (map (replaced f) ts ++ t ∷ []) (map (renamed_shape g) ss)) (unfold_renamed ts s)
      ∙ ap (λ us. values_behind (unfold_shape no_name) us (map (renamed_shape g) ss)) (sym (map-append (replaced f) ts (unfold_shape no_name ts s ∷ [])))
      ∙ trees_after ss (ts ++ unfold_shape no_name ts s ∷ [])

  pub trees_renamed : (ss : List Shape) → bare_trees (map (renamed_shape g) ss) ≡ map (replaced f) (bare_trees ss)
  unfolding bare_trees
  trees_renamed ss = trees_after ss []

  -- Lines, and what they say.
  abbrev im : Link → Link
  im = said_image f (λ k. k)

  abbrev line : Plain → Plain
  line = row_image f (λ k. k)

  chosen : (b : Bool) (ts : List Bare) (k : ℕ) → (if b then at (map (replaced f) ts) k else sort 0) ≡ replaced f (if b then at ts k else sort 0)
  chosen true ts k = at_renamed ts k
  chosen false ts k = refl

  row_renamed : (ts : List Bare) (n : Node) → row_of_node (map (replaced f) ts) n ≡ line (row_of_node ts n)
  row_renamed ts n =
      ap₂ (λ (t u : Bare). record { form = n.form; ctx = n.ctx; subject = t; claim = u; first = n.first; second = n.second; third = n.third }) (chosen (has_terms n.form) ts n.subject) (chosen (has_terms n.form) ts n.claim)

  rows_renamed : (ts : List Bare) (ns : List Node) → map (row_of_node (map (replaced f) ts)) ns ≡ map line (map (row_of_node ts) ns)
  rows_renamed ts [] = refl
  rows_renamed ts (n ∷ ns) = ap₂ ◌∷◌ (row_renamed ts n) (rows_renamed ts ns)

  pub record_rows : (r : Tables) → rows_of (renamed_record g r) ≡ map line (rows_of r)
  record_rows r = ap (λ ts. map (row_of_node ts) r.nodes) (trees_renamed r.shapes) ∙ rows_renamed (bare_trees r.shapes) r.nodes

  look_im : (ms : List Link) (k : ℕ) → look (map im ms) k ≡ im (look ms k)
  look_im [] k = refl
  look_im (m ∷ ms) zero = refl
  look_im (m ∷ ms) (suc k) = look_im ms k

  place_im : (m : Link) → place_of (im m) ≡ place_of m
  place_im nothing = refl
  place_im (context s) = refl
  place_im (judgement c s t T) = refl
  place_im (comparison c s t u) = refl

  scope_same : (m : Link) → scope_of (im m) ≡ scope_image f (λ k. k) (scope_of m)
  scope_same nothing = refl
  scope_same (context s) = refl
  scope_same (judgement c s t T) = refl
  scope_same (comparison c s t u) = refl

  assumed_same : (m : Link) → assumed_by (im m) ≡ local_image f (assumed_by m)
  assumed_same nothing = refl
  assumed_same (context s) = refl
  assumed_same (judgement c s t T) = refl
  assumed_same (comparison c s t u) = refl

  defined_same : (m : Link) → defined_by (im m) ≡ local_image f (defined_by m)
  defined_same nothing = refl
  defined_same (context s) = refl
  defined_same (judgement c s t T) = refl
  defined_same (comparison c s t u) = refl

  made_same : (h : Form) (k : ℕ) (l : Plain) (c p : Link) → made_by h k (line l) (im c) (im p) ≡ scope_image f (λ k. k) (made_by h k l c p)
  made_same Assume k l c p = rw (place_im p, assumed_same p, scope_same p) refl
  made_same Define k l c p = rw (place_im p, defined_same p, scope_same p) refl
  made_same BareForm k l c p = rw (scope_same c) refl
  made_same Empty k l c p = refl
  made_same _ k l c p = refl

  say_im : (i : FormKind) (h : Form) (k : ℕ) (l : Plain) (c p : Link) → say_of_kind i h k (line l) (im c) (im p) ≡ im (say_of_kind i h k l c p)
  say_im Context h k l c p = ap context (made_same h k l c p)
  say_im Judgement h k l c p = ap (λ s. judgement l.ctx s (replaced f l.subject) (replaced f l.claim)) (scope_same c)
  say_im Comparison h k l c p = ap (λ s. comparison l.ctx s (replaced f l.subject) (replaced f l.claim)) (scope_same c)

  says_im : (ms : List Link) (l : Plain) → say (map im ms) (line l) ≡ im (say ms l)
  says_im ms l =
      ap (λ k. say_as l.form k (line l) (look (map im ms) l.ctx) (look (map im ms) l.first)) (length-map ms im)
      ∙ ap₂ (λ c p. say_as l.form (length ms) (line l) c p) (look_im ms l.ctx) (look_im ms l.first)
      ∙ say_im (kind_of l.form) l.form (length ms) l (look ms l.ctx) (look ms l.first)

  more_said : (ms : List Link) (l : Plain) → map im ms ++ say (map im ms) (line l) ∷ [] ≡ map im (ms ++ say ms l ∷ [])
  more_said ms l = ap (λ m. map im ms ++ m ∷ []) (says_im ms l) ∙ sym (map-append im ms (say ms l ∷ []))

  pub said_renamed : (ms : List Link) (ls : List Plain) → said_behind (map im ms) (map line ls) ≡ map im (said_behind ms ls)
  said_renamed ms [] = refl
  said_renamed ms (l ∷ ls) = ap (λ qs. said_behind qs (map line ls)) (more_said ms l) ∙ said_renamed (ms ++ say ms l ∷ []) ls

  pub told_renamed : (r : Tables) (k : ℕ) → told (renamed_record g r) k ≡ im (told r k)
  unfolding told
  told_renamed r k = ap (λ ls. look (said_behind [] ls) k) (record_rows r) ∙ ap (λ ms. look ms k) (said_renamed [] (rows_of r)) ∙ look_im (said_behind [] (rows_of r)) k

  far_same : (c p : Link) → distance (im c) (im p) ≡ distance c p
  far_same c p = rw (place_im p, scope_same c) (ap (position (nat_eq (place_of p))) (map_id (scope_of c).trail))

  module _ (S : Specification) (F H : Front) (renames : Renames g F H) where
    const_named : (l : Plain) (c : Link) (x : Name) (i : Global (Unit {0})) → replaced f l.subject ≡ const (g x) → find (g x) H ≡ Some (renamed_entry g i) → l.claim ≡ i.type → is_typed_context (im c) ≡ true → first_failing (const_conditions H (line l) (im c)) ≡ None
    const_named l c x i s to claim t =
        none_fails (const_conditions H (line l) (im c)) (t, (rw s refl, (rw (s, to) refl, (rw (s, to, claim) (same_term_self (replaced f i.type)), tt))))

    body_renamed : (x : Name) (u : Bare) (o : Option (Global (Unit {0}))) → find x F ≡ o → body_of o ≡ Some u → body_of (find (g x) H) ≡ Some (replaced f u)
    body_renamed x u None p q = absurd (cc q)
    body_renamed x u (Some e) p q = rw (renames x e p) (ap (option_map (replaced f)) q)

    const_head : (x : Name) (u : Bare) → body_of (find x F) ≡ Some u → (y : Name) × (f x ≡ const y) × (body_of (find y H) ≡ Some (replaced f u))
    const_head x u h = (g x, refl, body_renamed x u (find x F) refl h)

    const_row : (l : Plain) (c p q w : Link) → form_fault S F ConstAt l c p q w ≡ None → form_fault S H ConstAt (line l) (im c) (im p) (im q) (im w) ≡ None
    const_row l c p q w h =
        let a = all_pass (const_conditions F l c) h in
        let (x, i, e, at, claim) = entry_named F l.claim (const_in l.subject) a.1.0 a.1.1.0 a.1.1.1.0 in
        const_named l c x i (ap (replaced f) (const_is l.subject x e)) (renames x i at) claim (typed_im f (λ k. k) c ∙ a.0)

    fault_im : (ms : List Link) (l : Plain) → form_fault S F l.form l (look ms l.ctx) (look ms l.first) (look ms l.second) (look ms l.third) ≡ None → form_fault S H l.form (line l) (look (map im ms) l.ctx) (look (map im ms) l.first) (look (map im ms) l.second) (look (map im ms) l.third) ≡ None
    fault_im ms l h =
        rw (look_im ms l.ctx, look_im ms l.first, look_im ms l.second, look_im ms l.third)
        (row_faultless S F H f closed_names (λ k. k) (heads F H f closed_names const_head) l (look ms l.ctx) (look ms l.first) (look ms l.second) (look ms l.third)
        (λ j d e. far_same (look ms l.ctx) (look ms l.first) ∙ e) l.form (λ is. const_row l (look ms l.ctx) (look ms l.first) (look ms l.second) (look ms l.third)) h)

    after : (ms : List Link) (ls : List Plain) → first_fault_behind S F ms ls ≡ None → first_fault_behind S H (map im ms) (map line ls) ≡ None
    after ms [] h = refl
    after ms (l ∷ ls) h =
        let (p, q) = faultless S F ms l ls h in
        rw (fault_im ms l p) (ap (λ qs. first_fault_behind S H qs (map line ls)) (more_said ms l) ∙ after (ms ++ say ms l ∷ []) ls q)

pub renamed_valid : (S : Specification) (F H : Front) (g : Name → Name) (r : Tables) → Renames g F H → IsValid S F r → IsValid S H (renamed_record g r)
unfolding first_fault
renamed_valid S F H g r n v = ap (first_fault_behind S H []) (record_rows g r) ∙ after g S F H n [] (rows_of r) v

empty_same : (f : Name → Bare) (L : Locals) → is_empty (map (local_image f) L) ≡ is_empty L
empty_same f [] = refl
empty_same f (e ∷ L) = refl

pub concludes_image : (f : Name → Bare) (r : ℕ → ℕ) (m : Link) (o : Option Bare) (T : Bare) → concludes_as m o T ≡ true → concludes_as (said_image f r m) (option_map (replaced f) o) (replaced f T) ≡ true
concludes_image f r (judgement c s t U) (Some a) T h =
    let (e, k) = both (is_empty s.entries) (same_term t a && same_term U T) h in
    let (p, q) = both (same_term t a) (same_term U T) k in
    both_hold _ _ (empty_same f s.entries ∙ e) (both_hold _ _ (image_same f t a p) (image_same f U T q))
concludes_image f r (judgement c s t U) None T h =
    let (e, k) = both (is_empty s.entries) (same_term t T && is_some (sort_in U)) h in
    let (p, q) = both (same_term t T) (is_some (sort_in U)) k in
    both_hold _ _ (empty_same f s.entries ∙ e) (both_hold _ _ (image_same f t T p) (ap (λ t. is_some (sort_in t)) (sort_fixed f U q) ∙ q))
concludes_image f r nothing (Some a) T h = absurd (cc h)
concludes_image f r nothing None T h = absurd (cc h)
concludes_image f r (context s) (Some a) T h = absurd (cc h)
concludes_image f r (context s) None T h = absurd (cc h)
concludes_image f r (comparison c s t u) (Some a) T h = absurd (cc h)
concludes_image f r (comparison c s t u) None T h = absurd (cc h)

pub renamed_concludes : (g : Name → Name) (r : Tables) (e : Global (Unit {0})) → concludes r e ≡ true → concludes (renamed_record g r) (renamed_entry g e) ≡ true
renamed_concludes g r e h =
    ap (λ m. concludes_as m (renamed_entry g e).body (renamed_entry g e).type) (told_renamed g r (pred (length r.nodes)))
    ∙ concludes_image (λ c. const (g c)) (λ k. k) (last_said r) e.body e.type h
