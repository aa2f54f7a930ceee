-- A record grafted on another one.
use Rattle.std.proofs.Common.{ℕ, suc, List, [], ◌∷◌, ◌⊎◌, inl, inr, map, length, Bool, true, false, ◌≡◌, ◌<◌, ◌+◌, refl, sym, ap, ◌∙◌, arith, subst, get_or, All, Option, Some, None}
use Rattle.std.specs.Prelude.{if◌then◌else◌, pred, nat_eq, ◌-◌, ◌≤◌}
use Rattle.std.specs.Option.{option_map}
use mathlib.Core.Path.{ap₂}
use Rattle.pts_names.specs.Name.{Name, same_name}
use Rattle.pts_names.proofs.Same.{same_name-true}
use Rattle.pts_terms.specs.Tree.{Bare, const}
use Rattle.pts_terms.specs.Replaced.{replaced}
use Rattle.pts_terms.specs.Limits.{within}
use Rattle.pts_terms.proofs.Same.{nat_eq_same, both_hold}
use Rattle.pts_ctx.specs.System.{Specification}
use Rattle.pts_ctx.specs.Front.{Global, Front, find, Local, assumed, defined, unknown, Locals}
use Rattle.pts_ctx.proofs.Find.{some_same}
use Rattle.pts_record.specs.declared.shape.Node.{Node}
use Rattle.pts_record.specs.Table.{Tables, at, bare_trees}
use Rattle.pts_record.specs.Said.{nothing, context, judgement, comparison, scope_of, subject_of, claim_of, is_context, told}
use Rattle.pts_rules.specs.Conditions.{Link}
use Rattle.pts_rules.specs.Valid.{IsValid, last_said}
use Rattle.pts_image.specs.declared.replacement.Replacement.{Replacement}
use Rattle.pts_image.specs.Image.{entry_image, empty_scope, local_image, scope_image, said_image}
use Rattle.pts_image.specs.Appending.{IsLinked, is_empty_node, new_number, with_image, all_within}
use Rattle.pts_image.specs.Interpretation.{Interpretation}
use Rattle.pts_image.specs.Substitution.{is_closed_judgement, last_node}
use Rattle.pts_image.specs.Graft.{without_numbers, same_constant, graft_numbering, graft_record}
use Rattle.pts_image.proofs.Fixed.{replaced_const}
use Rattle.pts_image.proofs.Appended.{there, below_or, image_valid, told_own}
use Rattle.pts_image.proofs.Numbered.{some_node, empty_says, empty_is_root, some_nodes, last_number}
use Rattle.pts_image.proofs.Last.{closed_at, closed_context, closed_said, closed_something, last_there, last_is}

-- No constant is replaced, and so terms and entries stay.
pub option_const : (o : Option Bare) → option_map (replaced const) o ≡ o
option_const None = refl
option_const (Some t) = ap Some (replaced_const t)

name_of_found : (x : Name) (G : Front) (i : Global (Unit {0})) → find x G ≡ Some i → x ≡ i.name
unfolding find
name_of_found x [] i h = absurd (cc h)
name_of_found x (d ∷ G) i h = by_case (same_name x d.name) refl h (λ q. name_of_found x G i q)
  where
    by_case : (b : Bool) → same_name x d.name ≡ b → ◌≡◌ {A = Option (Global (Unit {0}))} (if b then Some d else find x G) (Some i) → (find x G ≡ Some i → x ≡ i.name) → x ≡ i.name
    by_case true q h k = same_name-true x d.name q ∙ ap (λ (e : Global (Unit {0})). e.name) (some_same h)
    by_case false q h k = k h

entry_same : (x : Name) (i : Global (Unit {0})) → x ≡ i.name → entry_image const x i ≡ i
entry_same x i h = λ k. record { name = h k; body = option_const i.body k; type = replaced_const i.type k }

pub same_interpreted : (G : Front) (a : Tables) (e : ℕ) → IsLinked a → told a e ≡ context (empty_scope e) → Interpretation G a e same_constant G
same_interpreted G a e linked top = record {
  linked = linked;
  empty = top;
  terms = λ c. tt;
  closed = λ c. tt;
  entries = λ x i h. h ∙ ap Some (sym (entry_same x i (name_of_found x G i h)));
}

local_same : (d : Local (Unit {0})) → local_image const d ≡ d
local_same (assumed A) = ap assumed (replaced_const A)
local_same (defined a A) = ap₂ defined (replaced_const a) (replaced_const A)
local_same unknown = refl

locals_same : (L : Locals) → map (local_image const) L ≡ L
locals_same [] = refl
locals_same (d ∷ L) = ap₂ ◌∷◌ (local_same d) (locals_same L)

-- The image of what is said is the same but for numbers.
pub image_same_said : (r : ℕ → ℕ) (m : Link) → without_numbers (said_image const r m) ≡ without_numbers m
image_same_said r nothing = refl
image_same_said r (context s) = ap (λ L. without_numbers (context (record { made = s.made; entries = L; trail = s.trail }))) (locals_same s.entries)
image_same_said r (judgement c s t T) =
    ap (λ L. without_numbers (judgement c (record { made = s.made; entries = L; trail = s.trail }) (replaced const t) (replaced const T))) (locals_same s.entries)
    ∙ ap₂ (λ u U. without_numbers (judgement c s u U)) (replaced_const t) (replaced_const T)
image_same_said r (comparison c s t u) =
    ap (λ L. without_numbers (comparison c (record { made = s.made; entries = L; trail = s.trail }) (replaced const t) (replaced const u))) (locals_same s.entries)
    ∙ ap₂ (λ v w. without_numbers (comparison c s v w)) (replaced_const t) (replaced_const u)

closed_plain : (m : Link) → is_closed_judgement (without_numbers m) ≡ is_closed_judgement m
closed_plain nothing = refl
closed_plain (context s) = refl
closed_plain (judgement c s t T) = refl
closed_plain (comparison c s t u) = refl

pub closed_same : (m q : Link) → without_numbers m ≡ without_numbers q → is_closed_judgement q ≡ true → is_closed_judgement m ≡ true
closed_same m q e h = sym (closed_plain m) ∙ ap is_closed_judgement e ∙ closed_plain q ∙ h

not_context : (m : Link) → is_closed_judgement m ≡ true → is_context m ≡ true → ⊥
not_context nothing h k = cc k
not_context (context s) h k = cc h
not_context (judgement c s t T) h k = cc k
not_context (comparison c s t u) h k = cc k

subject_plain : (m : Link) → subject_of (without_numbers m) ≡ subject_of m
subject_plain nothing = refl
subject_plain (context s) = refl
subject_plain (judgement c s t T) = refl
subject_plain (comparison c s t u) = refl

claim_plain : (m : Link) → claim_of (without_numbers m) ≡ claim_of m
claim_plain nothing = refl
claim_plain (context s) = refl
claim_plain (judgement c s t T) = refl
claim_plain (comparison c s t u) = refl

module _ (S : Specification) (G : Front) (outer inner : Tables) (node : ℕ) (lo : IsLinked outer) (li : IsLinked inner) (vo : IsValid S G outer) (vi : IsValid S G inner)
    (closed : is_closed_judgement (told outer node) ≡ true) (same : without_numbers (last_said inner) ≡ without_numbers (told outer node)) where
  abbrev p : ℕ
  p = pred (length inner.nodes)

  abbrev e : ℕ
  e = (last_node inner).ctx

  abbrev x : Node
  x = get_or outer.nodes node some_node

  abbrev ρ : ℕ → ℕ
  ρ = new_number outer.nodes (graft_numbering inner node)

  inner_closed : is_closed_judgement (last_said inner) ≡ true
  inner_closed = closed_same (last_said inner) (told outer node) same closed

  inner_root : told inner e ≡ context (empty_scope e)
  inner_root = closed_context S G inner p li vi inner_closed

  root_below : e < length inner.nodes
  root_below = there inner e (context (empty_scope e)) inner_root (λ h. cc h) (below_or e (length inner.nodes))

  last_below : p < length inner.nodes
  last_below = there inner p (last_said inner) refl (closed_something (last_said inner) inner_closed) (below_or p (length inner.nodes))

  interpreted : Interpretation G inner e same_constant G
  interpreted = same_interpreted G inner e li inner_root

  -- Numbers.
  number_by : (k : ℕ) (b : Bool) → nat_eq k node ≡ b → ρ k ≡ (if b then p else (if is_empty_node outer.nodes k then e else (length inner.nodes + k)))
  number_by k b h = ap (λ b. if b then p else (if is_empty_node outer.nodes k then e else (length inner.nodes + k))) h

  not_grafted : (k : ℕ) → is_empty_node outer.nodes k ≡ true → (b : Bool) → nat_eq k node ≡ b → b ≡ false
  not_grafted k h false q = refl
  not_grafted k h true q = absurd (not_context (told outer node) closed (ap is_context (ap (told outer) (sym (nat_eq_same k node q)) ∙ empty_says outer k h)))

  graft_empties : (k : ℕ) → is_empty_node outer.nodes k ≡ true → ρ k ≡ e
  graft_empties k h =
      let q = not_grafted k h (nat_eq k node) refl in
      number_by k false q ∙ ap (λ b. if b then e else (length inner.nodes + k)) h

  -- The inner record's last node says the image of what the grafted node says.
  outer_said : told outer node ≡ judgement x.ctx (empty_scope x.ctx) (at (bare_trees outer.shapes) x.subject) (at (bare_trees outer.shapes) x.claim)
  outer_said = closed_said S G outer node lo vo closed

  outer_root : ρ x.ctx ≡ e
  outer_root = graft_empties x.ctx (empty_is_root outer x.ctx (empty_scope x.ctx) lo (closed_context S G outer node lo vo closed) refl).1

  same_subject : at (bare_trees inner.shapes) (last_node inner).subject ≡ at (bare_trees outer.shapes) x.subject
  same_subject =
      sym (ap subject_of (closed_at inner p li inner_closed).said) ∙ sym (subject_plain (last_said inner)) ∙ ap subject_of same ∙ subject_plain (told outer node) ∙ ap subject_of outer_said

  same_claim : at (bare_trees inner.shapes) (last_node inner).claim ≡ at (bare_trees outer.shapes) x.claim
  same_claim =
      sym (ap claim_of (closed_at inner p li inner_closed).said) ∙ sym (claim_plain (last_said inner)) ∙ ap claim_of same ∙ claim_plain (told outer node) ∙ ap claim_of outer_said

  grafted_said : told inner p ≡ said_image const ρ (told outer node)
  grafted_said =
      closed_said S G inner p li vi inner_closed
      ∙ ap₂ (judgement e (empty_scope e)) (same_subject ∙ sym (replaced_const (at (bare_trees outer.shapes) x.subject))) (same_claim ∙ sym (replaced_const (at (bare_trees outer.shapes) x.claim)))
      ∙ ap (λ k. judgement k (empty_scope k) (replaced const (at (bare_trees outer.shapes) x.subject)) (replaced const (at (bare_trees outer.shapes) x.claim))) (sym outer_root)
      ∙ ap (said_image const ρ) (sym outer_said)

  abbrev Leads : ℕ → Type 0
  Leads k = (ρ k ≡ length inner.nodes + k) ⊎ ((ρ k < length inner.nodes) × (told inner (ρ k) ≡ said_image const ρ (told outer k)))

  leads_empty : (k : ℕ) → is_empty_node outer.nodes k ≡ true → Leads k
  leads_empty k h =
      let o = graft_empties k h in
      let low = root_below in
      inr (omega (arith, o, low), ap (told inner) o ∙ inner_root ∙ ap (λ n. context (empty_scope n)) (sym o) ∙ ap (said_image const ρ) (sym (empty_says outer k h)))

  leads_by : (k : ℕ) (b : Bool) → nat_eq k node ≡ b → (d : Bool) → is_empty_node outer.nodes k ≡ d → Leads k
  leads_by k true h d q =
      let o = number_by k true h in
      let low = last_below in
      inr (omega (arith, o, low), ap (told inner) o ∙ grafted_said ∙ ap (λ j. said_image const ρ (told outer j)) (sym (nat_eq_same k node h)))
  leads_by k false h true q = leads_empty k q
  leads_by k false h false q = inl (number_by k false h ∙ ap (λ b. if b then e else (length inner.nodes + k)) q)

  graft_leads : (k : ℕ) → k < length outer.nodes → Leads k
  graft_leads k h = leads_by k (nat_eq k node) refl (is_empty_node outer.nodes k) refl

  pub graft_valid : IsValid S G (graft_record outer node inner)
  graft_valid = image_valid S G G inner outer e same_constant ρ interpreted vi graft_leads graft_empties lo vo

  node_below : node < length outer.nodes
  node_below = (closed_at outer node lo closed).low

  pub graft_says : without_numbers (last_said (graft_record outer node inner)) ≡ without_numbers (last_said outer)
  graft_says =
      let low = node_below in
      by_long (length outer.nodes) refl low
    where
      by_long : (n : ℕ) → length outer.nodes ≡ n → node < n → without_numbers (last_said (graft_record outer node inner)) ≡ without_numbers (last_said outer)
      by_long n l low =
          let j : length outer.nodes ≡ suc (pred n) = omega (arith, l, low) in
          let last : pred (length outer.nodes) < length outer.nodes = omega (arith, j) in
          ap (λ k. without_numbers (told (graft_record outer node inner) k)) (last_number inner outer same_constant ρ (pred n) j)
          ∙ (told_own S G G inner outer e same_constant ρ interpreted vi graft_leads graft_empties lo vo (pred (length outer.nodes)) last).0
          ∙ image_same_said ρ (last_said outer)

-- The same with what the program has: a copy of the inner record, and its last node.
pub inner_last : (outer inner : Tables) (node n : ℕ) → is_closed_judgement (told outer node) ≡ true → without_numbers (last_said inner) ≡ without_numbers (told outer node) → n ≡ length inner.nodes → (1 ≤ n) × (n - 1 < length inner.nodes) × (n - 1 ≡ pred (length inner.nodes))
inner_last outer inner node n h same e = last_there inner n (closed_same (last_said inner) (told outer node) same h) e

pub graft_made : (outer inner into : Tables) (node place start : ℕ) (x : Node) → into ≡ inner → start ≡ length inner.nodes → place ≡ pred (length inner.nodes) → x ≡ last_node inner →
    with_image into same_constant (new_number outer.nodes (record { start = start; root = x.ctx; graft = Some (record { node = node; place = place }) })) outer ≡ graft_record outer node inner
graft_made outer inner into node place start x copy s p l = λ i. with_image (copy i) same_constant (new_number outer.nodes (record { start = s i; root = (l i).ctx; graft = Some (record { node = node; place = p i }) })) outer

pub all_within_same : (us : List Bare) → All (λ t. within t ≡ true) us → all_within (map (replaced const) us) ≡ true
all_within_same [] a = refl
all_within_same (t ∷ us) a = both_hold (within (replaced const t)) (all_within (map (replaced const) us)) (ap within (replaced_const t) ∙ a 0 t (omega arith)) (all_within_same us (λ k d h. a (suc k) d (omega (arith, h))))
