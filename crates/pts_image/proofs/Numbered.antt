-- Images whose empty contexts become one: their numbers, and what they conclude.
use Rattle.std.proofs.Common.{ℕ, suc, zero, List, [], ◌∷◌, ◌++◌, ◌⊎◌, inl, inr, map, length, Bool, true, false, ◌≡◌, ◌<◌, ◌≤◌, ◌+◌, refl, sym, ap, ◌∙◌, arith, subst, get_or, Option, Some, None}
use Rattle.std.specs.Prelude.{if◌then◌else◌, pred, slice_get, nat_eq, ◌&&◌}
use Rattle.std.specs.Option.{option_map}
use Rattle.std.proofs.lemmas.List.{length-append, length-map}
use Rattle.std.proofs.lemmas.Option.{slice_get-get_or}
use Rattle.pts_names.specs.Name.{Name}
use Rattle.pts_terms.specs.Tree.{Bare}
use Rattle.pts_terms.specs.Replaced.{replaced}
use Rattle.pts_ctx.specs.System.{Specification}
use Rattle.pts_ctx.specs.Front.{Global, Front}
use Rattle.pts_record.specs.declared.shape.Form.{Form}
use Rattle.pts_record.specs.declared.shape.Form.TheVariants.{Empty, Assume, Define, Bare as BareForm}
use Rattle.pts_record.specs.declared.shape.Node.{Node}
use Rattle.pts_record.specs.Table.{Tables, bare_trees, AllBelow, contexts_as, premises_as, node_links}
use Rattle.pts_record.specs.Said.{row_of_node, rows_of, Scope, nothing, context, judgement, comparison, look, say_as, say, said_behind, scope_of, told, is_context}
use Rattle.pts_record.proofs.Linked.{node_linked}
use Rattle.pts_record.proofs.Looked.{look_before, look_at, look_past, one_longer}
use Rattle.pts_record.proofs.Told.{told_here}
use Rattle.pts_rules.specs.Conditions.{Plain, Link}
use Rattle.pts_rules.specs.Valid.{IsValid, concludes_as, concludes, last_said}
use Rattle.pts_rules.proofs.Linked.{Linked}
use Rattle.pts_rules.proofs.Sound.{links}
use Rattle.pts_image.specs.declared.replacement.Replacement.{Replacement}
use Rattle.pts_image.specs.Image.{entry_image, empty_scope, said_image}
use Rattle.pts_image.specs.Appending.{IsLinked, term_for, is_empty_form, is_empty_node, node_image, new_number, numbering_after, with_image, image_after}
use Rattle.pts_image.specs.Interpretation.{Interpretation}
use Rattle.pts_image.specs.Graft.{without_numbers}
use Rattle.pts_image.proofs.ImageLines.{empty_here}
use Rattle.pts_image.proofs.Renamed.{concludes_image}
use Rattle.pts_image.proofs.Appended.{there, below_or, image_valid, told_own, told_image, told_before, root_stays}

-- A context without entries is an empty one.
say_root : (g : Form) (k : ℕ) (l : Plain) (c p : Link) (s : Scope (Unit {0})) → say_as g k l c p ≡ context s → s.entries ≡ [] → (s ≡ empty_scope k) × (is_empty_form g ≡ true)
say_root Empty k l c p s h n = (sym (ap scope_of h), refl)
say_root Assume k l c p s h n = absurd (cc (ap (λ m. (scope_of m).entries) h ∙ n))
say_root Define k l c p s h n = absurd (cc (ap (λ m. (scope_of m).entries) h ∙ n))
say_root BareForm k l c p s h n = absurd (cc (ap (λ m. (scope_of m).entries) h ∙ n))
say_root _ k l c p s h n = absurd (cc h)

pub node_there : (r : Tables) (k : ℕ) (d : Node) → IsLinked r → k < length r.nodes → told r k ≡ say_as (get_or r.nodes k d).form k (row_of_node (bare_trees r.shapes) (get_or r.nodes k d)) (told r (get_or r.nodes k d).ctx) (told r (get_or r.nodes k d).first)
node_there r k d linked h =
    let z : 0 + k ≡ k = omega arith in
    told_here r k (get_or r.nodes k d) h (slice_get-get_or r.nodes k d h) (subst (λ j. AllBelow j (node_links (get_or r.nodes k d))) z (node_linked r.nodes (length r.shapes) 0 k d linked.nodes h).0)

abbrev pub some_node : Node
some_node = record { form = Empty; ctx = 0; subject = 0; claim = 0; first = 0; second = 0; third = 0 }

pub empty_is_root : (r : Tables) (k : ℕ) (s : Scope (Unit {0})) → IsLinked r → told r k ≡ context s → s.entries ≡ [] → (s ≡ empty_scope k) × (is_empty_node r.nodes k ≡ true)
empty_is_root r k s linked p n =
    let low = there r k (context s) p (λ h. cc h) (below_or k (length r.nodes)) in
    let x = get_or r.nodes k some_node in
    let (e, f) = say_root x.form k (row_of_node (bare_trees r.shapes) x) (told r x.ctx) (told r x.first) s (sym (node_there r k some_node linked low) ∙ p) n in
    (e, sym (empty_here r.nodes k x (slice_get-get_or r.nodes k some_node low)) ∙ f)

-- An empty node says so.
form_empty : (g : Form) → is_empty_form g ≡ true → g ≡ Empty
form_empty Empty h = refl
form_empty _ h = absurd (cc h)

empty_there : (ns : List Node) (k : ℕ) → is_empty_node ns k ≡ true → (n : Node) × (slice_get ns k ≡ Some n) × (n.form ≡ Empty) × (k < length ns)
empty_there [] k h = absurd (cc h)
empty_there (n ∷ ns) zero h = (n, refl, form_empty n.form h, omega arith)
empty_there (n ∷ ns) (suc k) h = let (x, p, q, l) = empty_there ns k h in (x, p, q, omega (arith, l))

empty_said : (r : Tables) (k : ℕ) (n : Node) → slice_get r.nodes k ≡ Some n → n.form ≡ Empty → k < length r.nodes → told r k ≡ context (empty_scope k)
empty_said r k n p q l =
    told_here r k n l p (subst (λ g. AllBelow k (contexts_as g n.ctx ++ premises_as g n.first n.second n.third)) (sym q) tt)
    ∙ ap (λ g. say_as g k (row_of_node (bare_trees r.shapes) n) (told r n.ctx) (told r n.first)) q

pub empty_says : (r : Tables) (k : ℕ) → is_empty_node r.nodes k ≡ true → told r k ≡ context (empty_scope k)
empty_says r k h = let (n, p, q, l) = empty_there r.nodes k h in empty_said r k n p q l

-- A judgement's context has its number.
pub context_of : (S : Specification) (G : Front) (r : Tables) (k c : ℕ) (s : Scope (Unit {0})) (t T : Bare) → IsValid S G r → told r k ≡ judgement c s t T → told r c ≡ context s
unfolding told
context_of S G r k c s t T v p = subst (Linked (said_behind [] (rows_of r))) p (links S G r v k)

-- What says something has a number.
pub some_nodes : (r : Tables) → (last_said r ≡ nothing → ⊥) → (k : ℕ) → length r.nodes ≡ k → (j : ℕ) × (length r.nodes ≡ suc j)
some_nodes r q zero h = let low = there r (pred (length r.nodes)) (last_said r) refl q (below_or (pred (length r.nodes)) (length r.nodes)) in absurd (omega (arith, low, h))
some_nodes r q (suc j) h = (j, h)

-- What is concluded does not depend on numbers.
concludes_plain : (m : Link) (o : Option Bare) (U : Bare) → concludes_as (without_numbers m) o U ≡ concludes_as m o U
concludes_plain nothing (Some t) U = refl
concludes_plain nothing None U = refl
concludes_plain (context s) (Some t) U = refl
concludes_plain (context s) None U = refl
concludes_plain (judgement c s t T) (Some u) U = refl
concludes_plain (judgement c s t T) None U = refl
concludes_plain (comparison c s t u) (Some v) U = refl
concludes_plain (comparison c s t u) None U = refl

concludes_something : (m : Link) (o : Option Bare) (U : Bare) → concludes_as m o U ≡ true → m ≡ nothing → ⊥
concludes_something m (Some t) U h p = cc (sym (ap (λ m. concludes_as m (Some t) U) p) ∙ h)
concludes_something m None U h p = cc (sym (ap (λ m. concludes_as m None U) p) ∙ h)

-- The last number of an image.
pub last_number : (a r : Tables) (w : Name → Replacement) (ρ : ℕ → ℕ) (j : ℕ) → length r.nodes ≡ suc j → pred (length (with_image a w ρ r).nodes) ≡ length a.nodes + pred (length r.nodes)
last_number a r w ρ j l =
    let g = node_image ρ (length a.shapes) w r in
    let x = length-append a.nodes (map g r.nodes) in
    let y = length-map r.nodes g in
    omega (arith, x, y, l)

last_below : (n j : ℕ) → n ≡ suc j → pred n < n
last_below n j l = omega (arith, l)

module _ (S : Specification) (F H : Front) (a r : Tables) (e : ℕ) (w : Name → Replacement) (c : Interpretation H a e w F) (linked : IsLinked r) (va : IsValid S H a) where
  abbrev f : Name → Bare
  f = term_for (bare_trees a.shapes) w

  abbrev pub after : ℕ → ℕ
  after = new_number r.nodes (numbering_after a e)

  number_of : (k : ℕ) (b : Bool) → is_empty_node r.nodes k ≡ b → after k ≡ (if b then e else (length a.nodes + k))
  number_of k b h = ap (λ b. if b then e else (length a.nodes + k)) h

  leads_by : (k : ℕ) (b : Bool) → is_empty_node r.nodes k ≡ b → (after k ≡ length a.nodes + k) ⊎ ((after k < length a.nodes) × (told a (after k) ≡ said_image f after (told r k)))
  leads_by k false h = inl (number_of k false h)
  leads_by k true h =
      let o = number_of k true h in
      let low = there a e (context (empty_scope e)) c.empty (λ h. cc h) (below_or e (length a.nodes)) in
      inr (omega (arith, o, low), ap (told a) o ∙ c.empty ∙ ap (λ n. context (empty_scope n)) (sym o) ∙ ap (said_image f after) (sym (empty_says r k h)))

  pub after_leads : (k : ℕ) → k < length r.nodes → (after k ≡ length a.nodes + k) ⊎ ((after k < length a.nodes) × (told a (after k) ≡ said_image f after (told r k)))
  after_leads k h = leads_by k (is_empty_node r.nodes k) refl

  pub after_empties : (k : ℕ) → is_empty_node r.nodes k ≡ true → after k ≡ e
  after_empties k h = number_of k true h

  module _ (vr : IsValid S F r) where
    pub after_valid : IsValid S H (image_after a w e r)
    after_valid = image_valid S F H a r e w after c va after_leads after_empties linked vr

    pub after_old : (k : ℕ) → k < length a.nodes → told (image_after a w e r) k ≡ told a k
    after_old k h = told_before S F H a r e w after c va after_leads after_empties linked vr k h

    pub after_root : told (image_after a w e r) e ≡ context (empty_scope e)
    after_root = root_stays S F H a r e w after c va after_leads after_empties linked vr

    -- The last node says the image of what the record's last node says, if that is no context.
    pub after_last : (last_said r ≡ nothing → ⊥) → (without_numbers (last_said (image_after a w e r)) ≡ without_numbers (said_image f after (last_said r))) × (is_context (last_said r) ≡ false → last_said (image_after a w e r) ≡ said_image f after (last_said r))
    after_last q =
        let (j, l) = some_nodes r q (length r.nodes) refl in
        let is = ap (told (image_after a w e r)) (last_number a r w after j l) in
        let own = told_own S F H a r e w after c va after_leads after_empties linked vr (pred (length r.nodes)) (last_below (length r.nodes) j l) in
        (ap without_numbers is ∙ own.0, λ n. is ∙ own.1 n)

    pub after_concludes : (i : Global (Unit {0})) (y : Name) → concludes r i ≡ true → concludes (image_after a w e r) (entry_image f y i) ≡ true
    after_concludes i y h =
        let m = after_last (concludes_something (last_said r) i.body i.type h) in
        let o = option_map (replaced f) i.body in
        let U = replaced f i.type in
        sym (concludes_plain (last_said (image_after a w e r)) o U) ∙ ap (λ m. concludes_as m o U) m.0 ∙ concludes_plain (said_image f after (last_said r)) o U
        ∙ concludes_image f after (last_said r) i.body i.type h
