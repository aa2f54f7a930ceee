-- The last node of a record, where it is a judgement in an empty local context.
use Rattle.std.proofs.Common.{ℕ, suc, zero, List, [], ◌∷◌, length, Bool, true, false, ◌≡◌, ◌<◌, refl, sym, ap, ◌∙◌, arith, subst, get_or, Option, Some, None}
use Rattle.std.specs.Prelude.{if◌then◌else◌, pred, ◌&&◌, ◌-◌, ◌≤◌, nat_eq, slice_get}
use mathlib.Core.Path.{ap₂}
use Rattle.pts_names.specs.Name.{Name}
use Rattle.pts_terms.specs.Tree.{Bare, sort, Below, same_term}
use Rattle.pts_terms.proofs.Same.{both, same_term_eq}
use Rattle.pts_ctx.specs.System.{Specification}
use Rattle.pts_ctx.specs.Front.{Front, Locals, definition}
use Rattle.pts_ctx.proofs.Find.{some_same}
use Rattle.pts_record.specs.declared.shape.FormKind.{FormKind}
use Rattle.pts_record.specs.declared.shape.FormKind.TheVariants.{Context, Judgement, Comparison}
use Rattle.pts_record.specs.declared.shape.Node.{Node}
use Rattle.pts_record.specs.Table.{Tables, at, bare_trees, kind_of, AllBelow, terms_of_kind, term_links}
use Rattle.pts_record.specs.Said.{row_of_node, rows_of, look, said_behind, kind_has_terms, Scope, nothing, context, judgement, comparison, say_of_kind, say_as, scope_of, subject_of, claim_of, is_judgement, told}
use Rattle.pts_record.proofs.Linked.{node_linked}
use Rattle.pts_record.proofs.Looked.{look_past, said_length}
use Rattle.pts_record.proofs.Told.{lines_long}
use Rattle.pts_rules.specs.Conditions.{Link}
use Rattle.pts_rules.specs.Derives.{Derives, Legal}
use Rattle.pts_rules.specs.Laws.{Stands}
use Rattle.pts_rules.specs.Valid.{IsValid, is_empty, concludes_as, concludes, last_said}
use Rattle.pts_rules.proofs.Sound.{sound}
use Rattle.pts_rules.proofs.Scoped.{judgement_scoped}
use Rattle.pts_image.specs.Image.{empty_scope}
use Rattle.pts_image.specs.Appending.{IsLinked}
use Rattle.pts_image.specs.Substitution.{is_closed_judgement, last_node}
use Rattle.pts_image.proofs.Appended.{there, below_or}
use Rattle.pts_image.proofs.Numbered.{node_there, some_node, context_of, empty_is_root, some_nodes}

pub no_entries : (L : Locals) → is_empty L ≡ true → L ≡ []
no_entries [] h = refl
no_entries (d ∷ L) h = absurd (cc h)

pub closed_something : (m : Link) → is_closed_judgement m ≡ true → m ≡ nothing → ⊥
closed_something m h p = cc (sym (ap is_closed_judgement p) ∙ h)

-- A line that says a judgement names its terms.
judged_row : (ts : List Bare) (n : Node) (k : ℕ) (c p : Link) (i : FormKind) → kind_of n.form ≡ i → is_closed_judgement (say_of_kind i n.form k (row_of_node ts n) c p) ≡ true → (say_of_kind i n.form k (row_of_node ts n) c p ≡ judgement n.ctx (scope_of c) (at ts n.subject) (at ts n.claim)) × ((scope_of c).entries ≡ []) × (i ≡ Judgement)
judged_row ts n k c p Context e h = absurd (cc h)
judged_row ts n k c p Judgement e h = (
  ap₂ (judgement n.ctx (scope_of c)) (ap (λ i. if kind_has_terms i then at ts n.subject else sort 0) e) (ap (λ i. if kind_has_terms i then at ts n.claim else sort 0) e),
  no_entries (scope_of c).entries h,
  refl,
)
judged_row ts n k c p Comparison e h = absurd (cc h)

pub record ClosedAt (r : Tables) (k : ℕ) (n : Node) : Type 0 where
  pub said : told r k ≡ judgement n.ctx (scope_of (told r n.ctx)) (at (bare_trees r.shapes) n.subject) (at (bare_trees r.shapes) n.claim)
  pub entries : (scope_of (told r n.ctx)).entries ≡ []
  pub subject : n.subject < length r.shapes
  pub low : k < length r.nodes

pub closed_at : (r : Tables) (k : ℕ) → IsLinked r → is_closed_judgement (told r k) ≡ true → ClosedAt r k (get_or r.nodes k some_node)
closed_at r k linked h =
    let low = there r k (told r k) refl (closed_something (told r k) h) (below_or k (length r.nodes)) in
    let n = get_or r.nodes k some_node in
    let is = node_there r k some_node linked low in
    let (said, entries, kind) = judged_row (bare_trees r.shapes) n k (told r n.ctx) (told r n.first) (kind_of n.form) refl (sym (ap is_closed_judgement is) ∙ h) in
    record {
      said = is ∙ said;
      entries = entries;
      subject = (subst (λ i. AllBelow (length r.shapes) (terms_of_kind i n.subject n.claim)) kind (node_linked r.nodes (length r.shapes) 0 k some_node linked.nodes low).1).0;
      low = low;
    }

-- In a valid record its context is the empty one.
module _ (S : Specification) (G : Front) (r : Tables) (k : ℕ) (linked : IsLinked r) (v : IsValid S G r) (h : is_closed_judgement (told r k) ≡ true) where
  abbrev n : Node
  n = get_or r.nodes k some_node

  abbrev e : ℕ
  e = n.ctx

  pub closed_context : told r e ≡ context (empty_scope e)
  closed_context =
      let c = closed_at r k linked h in
      let p = context_of S G r k e (scope_of (told r e)) (at (bare_trees r.shapes) n.subject) (at (bare_trees r.shapes) n.claim) v c.said in
      p ∙ ap context (empty_is_root r e (scope_of (told r e)) linked p c.entries).0

  pub closed_said : told r k ≡ judgement e (empty_scope e) (at (bare_trees r.shapes) n.subject) (at (bare_trees r.shapes) n.claim)
  closed_said = (closed_at r k linked h).said ∙ ap (λ m. judgement e (scope_of m) (at (bare_trees r.shapes) n.subject) (at (bare_trees r.shapes) n.claim)) closed_context

-- What concludes a definition is such a judgement.
pub concluded_parts : (m : Link) (u A : Bare) → concludes_as m (Some u) A ≡ true → (is_closed_judgement m ≡ true) × (subject_of m ≡ u) × (claim_of m ≡ A)
concluded_parts (judgement c s t T) u A h =
    let (n, k) = both (is_empty s.entries) (same_term t u && same_term T A) h in
    let (i, j) = both (same_term t u) (same_term T A) k in
    (n, same_term_eq t u i, same_term_eq T A j)
concluded_parts nothing u A h = absurd (cc h)
concluded_parts (context s) u A h = absurd (cc h)
concluded_parts (comparison c s t v) u A h = absurd (cc h)

module _ (S : Specification) (G : Front) (a : Tables) (x : Name) (u A : Bare) (linked : IsLinked a) (v : IsValid S G a) (concluded : concludes a (definition x u A) ≡ true) where
  abbrev p : ℕ
  p = pred (length a.nodes)

  pub last_closed : is_closed_judgement (last_said a) ≡ true
  last_closed = (concluded_parts (last_said a) u A concluded).0

  pub last_subject : at (bare_trees a.shapes) (last_node a).subject ≡ u
  last_subject = sym (ap subject_of (closed_at a p linked last_closed).said) ∙ (concluded_parts (last_said a) u A concluded).1

  pub last_claim : at (bare_trees a.shapes) (last_node a).claim ≡ A
  last_claim = sym (ap claim_of (closed_at a p linked last_closed).said) ∙ (concluded_parts (last_said a) u A concluded).2

  pub last_root : told a (last_node a).ctx ≡ context (empty_scope (last_node a).ctx)
  last_root = closed_context S G a p linked v last_closed

  pub last_judges : last_said a ≡ judgement (last_node a).ctx (empty_scope (last_node a).ctx) u A
  last_judges = closed_said S G a p linked v last_closed ∙ ap₂ (judgement (last_node a).ctx (empty_scope (last_node a).ctx)) last_subject last_claim

  pub last_low : (last_node a).subject < length a.shapes
  last_low = (closed_at a p linked last_closed).subject

  -- Over a legal front it is derivable, and so its terms are closed.
  pub last_scoped : Legal S G → Below 0 u × Below 0 A
  last_scoped l = judgement_scoped S G [] u A (subst (Stands S G) last_judges (sound S G a l v p)).1

-- What the program reads of such a last node.
pub last_there : (r : Tables) (n : ℕ) → is_closed_judgement (last_said r) ≡ true → n ≡ length r.nodes → (1 ≤ n) × (n - 1 < length r.nodes) × (n - 1 ≡ pred (length r.nodes))
last_there r n h e =
    let low = there r (pred (length r.nodes)) (last_said r) refl (closed_something (last_said r) h) (below_or (pred (length r.nodes)) (length r.nodes)) in
    (omega (arith, low, e), omega (arith, low, e), omega (arith, low, e))

item_is : (ns : List Node) (k : ℕ) (n d : Node) → slice_get ns k ≡ Some n → n ≡ get_or ns k d
item_is [] k n d h = absurd (cc h)
item_is (m ∷ ns) zero n d h = sym (some_same h)
item_is (m ∷ ns) (suc k) n d h = item_is ns k n d h

pub last_is : (r : Tables) (k : ℕ) (n : Node) → k ≡ pred (length r.nodes) → slice_get r.nodes k ≡ Some n → n ≡ last_node r
last_is r k n e h = item_is r.nodes k n some_node h ∙ ap (λ j. get_or r.nodes j some_node) e

module _ (r : Tables) (k : ℕ) (x : Node) (here : k ≡ pred (length r.nodes)) (says : told r k ≡ say_as x.form k (row_of_node (bare_trees r.shapes) x) (told r x.ctx) (told r x.first)) (closed : is_closed_judgement (last_said r) ≡ true) where
  row_closed : is_closed_judgement (say_as x.form k (row_of_node (bare_trees r.shapes) x) (told r x.ctx) (told r x.first)) ≡ true
  row_closed = ap is_closed_judgement (sym says ∙ ap (told r) here) ∙ closed

  pub subject_is : at (bare_trees r.shapes) x.subject ≡ subject_of (last_said r)
  subject_is = sym (ap subject_of (judged_row (bare_trees r.shapes) x k (told r x.ctx) (told r x.first) (kind_of x.form) refl row_closed).0) ∙ ap subject_of (sym says ∙ ap (told r) here)

  pub subject_below : AllBelow (length r.shapes) (term_links x) → x.subject < length r.shapes
  subject_below b = (subst (λ i. AllBelow (length r.shapes) (terms_of_kind i x.subject x.claim)) (judged_row (bare_trees r.shapes) x k (told r x.ctx) (told r x.first) (kind_of x.form) refl row_closed).2 b).0

pub closed_by_parts : (m : Link) (n : ℕ) → n ≡ length (scope_of m).entries → (is_judgement m && nat_eq n 0) ≡ is_closed_judgement m
closed_by_parts nothing n h = refl
closed_by_parts (context s) n h = refl
closed_by_parts (judgement c s t T) n h = ap (λ k. nat_eq k 0) h ∙ none_there s.entries
  where
    none_there : (L : Locals) → nat_eq (length L) 0 ≡ is_empty L
    none_there [] = refl
    none_there (d ∷ L) = grind arith
closed_by_parts (comparison c s t u) n h = refl

pub none_last : (r : Tables) (n : ℕ) → n ≡ length r.nodes → n ≡ 0 → false ≡ is_closed_judgement (last_said r)
unfolding told
none_last r n e z = sym (ap is_closed_judgement (look_past (said_behind [] (rows_of r)) (pred (length r.nodes)) (let x = said_length [] (rows_of r) in let y = lines_long r in omega (arith, e, z, x, y))))
