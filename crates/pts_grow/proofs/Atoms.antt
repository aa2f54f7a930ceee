-- Judgements of sorts, constants and variables are instances of their forms.
use Rattle.std.proofs.Common.{◌≡◌, ℕ, zero, suc, ◌+◌, List, [], ◌∷◌, map, refl, sym, ap, ◌∙◌, Option, Some, None, true, arith}
use Rattle.std.specs.Prelude.{is_some}
use Rattle.std.specs.Option.{option_map, option_and_then}
use Rattle.pts_names.specs.Name.{Name}
use Rattle.pts_terms.specs.Tree.{Tree, Bare, bare, sort, const, var, lift}
use Rattle.pts_ctx.specs.System.{Specification, axiom_of}
use Rattle.pts_ctx.specs.Front.{Global, Front, find, bare_global, bare_front, Local, assumed, defined, unknown, entry_at}
use Rattle.pts_ctx.proofs.Find.{some_same}
use Rattle.pts_record.specs.declared.shape.Form.TheVariants.{SortAt, ConstAt, VarAt}
use Rattle.pts_record.specs.Table.{Tables, named_at, bare_at, bare_trees}
use Rattle.pts_record.specs.Said.{named_told, told, scope_of, row_of_node, bare_local}
use Rattle.pts_record.proofs.Trees.{bare_of_named}
use Rattle.pts_rules.specs.Parts.{sort_in, const_in, var_in, is_that, type_of}
use Rattle.pts_rules.specs.Conditions.{form_fault, sort_conditions, const_conditions, var_conditions}
use Rattle.pts_rules.proofs.HeadBare.{find_bare}
use Rattle.pts_rules.proofs.Passing.{none_fails, is_same}
use Rattle.pts_grow.specs.Judges.{IsTypedContext, type_in, constant_type}
use Rattle.pts_grow.proofs.Judgements.{typed_at, scope_told}

-- What the front has for a constant, without printed names.
found : (o : Option (Global Name)) (p : Option (Global (Unit {0}))) (u : Bare) → p ≡ option_map bare_global o → option_map (λ e. bare e.type) o ≡ Some u → (is_some p ≡ true) × (is_that u (option_map (λ e. e.type) p) ≡ true)
found None p u e h = absurd (cc h)
found (Some d) p u e h = (ap is_some e, ap (λ q. is_that u (option_map (λ f. f.type) q)) e ∙ is_same (sym (some_same h)))

abbrev ConstTests : List (Global Name) → (t u : Bare) → Type 0
ConstTests G t u = (is_some (const_in t) ≡ true) × (is_some (option_and_then (λ x. find x (bare_front G)) (const_in t)) ≡ true) × (is_that u (option_map (λ e. e.type) (option_and_then (λ x. find x (bare_front G)) (const_in t))) ≡ true)

const_tests : (G : List (Global Name)) (t u : Bare) → constant_type G t ≡ Some u → ConstTests G t u
const_tests G (const x) u h = let p = found (find x G) (find x (bare_front G)) u (find_bare x G) h in (refl, p.0, p.1)
const_tests G _ u h = absurd (cc h)

-- What a typed context has at an index, without printed names.
typed_entry : {B : Type 0} (L : List (Local B)) (i : ℕ) (A : Tree B) → option_and_then type_in (entry_at L i) ≡ Some A → (is_some (entry_at (map bare_local L) i) ≡ true) × (option_and_then type_of (entry_at (map bare_local L) i) ≡ Some (bare A))
typed_entry [] i A h = absurd (cc h)
typed_entry (assumed T ∷ L) zero A h = (refl, ap (option_map bare) h)
typed_entry (defined t T ∷ L) zero A h = (refl, ap (option_map bare) h)
typed_entry (unknown ∷ L) zero A h = absurd (cc h)
typed_entry (e ∷ L) (suc i) A h = typed_entry L i A h

module _ (r : Tables) (c : ℕ) (k : IsTypedContext r c) (subject claim : ℕ) where
  pub sort_ok : (S : Specification) (G : Front) (s q : ℕ) → bare_at r.shapes subject ≡ sort s → axiom_of S s ≡ Some q → bare_at r.shapes claim ≡ sort q → form_fault S G SortAt (row_of_node (bare_trees r.shapes) (record { form = SortAt; ctx = c; subject = subject; claim = claim; first = 0; second = 0; third = 0 })) (told r c) (told r 0) (told r 0) (told r 0) ≡ None
  sort_ok S G s q t a u =
      let l = row_of_node (bare_trees r.shapes) (record { form = SortAt; ctx = c; subject = subject; claim = claim; first = 0; second = 0; third = 0 }) in
      let e : option_and_then (axiom_of S) (sort_in (bare_at r.shapes subject)) ≡ Some q = ap (λ x. option_and_then (axiom_of S) (sort_in x)) t ∙ a in
      let that = ap (λ o. is_that (bare_at r.shapes claim) (option_map sort o)) e ∙ is_same u in
      none_fails (sort_conditions S l (told r c)) (typed_at r c k, (ap (λ x. is_some (sort_in x)) t, (ap is_some e, (that, tt))))

  pub const_ok : (S : Specification) (G : List (Global Name)) → constant_type G (bare_at r.shapes subject) ≡ Some (bare_at r.shapes claim) → form_fault S (bare_front G) ConstAt (row_of_node (bare_trees r.shapes) (record { form = ConstAt; ctx = c; subject = subject; claim = claim; first = 0; second = 0; third = 0 })) (told r c) (told r 0) (told r 0) (told r 0) ≡ None
  const_ok S G h =
      let l = row_of_node (bare_trees r.shapes) (record { form = ConstAt; ctx = c; subject = subject; claim = claim; first = 0; second = 0; third = 0 }) in
      let p = const_tests G (bare_at r.shapes subject) (bare_at r.shapes claim) h in
      none_fails (const_conditions (bare_front G) l (told r c)) (typed_at r c k, (p.0, (p.1, (p.2, tt))))

  pub var_ok : (S : Specification) (G : Front) (i ty : ℕ) → bare_at r.shapes subject ≡ var i → option_and_then type_in (entry_at (scope_of (named_told r c)).entries i) ≡ Some (named_at r.shapes ty) → bare_at r.shapes claim ≡ lift 0 (i + 1) (bare_at r.shapes ty) → form_fault S G VarAt (row_of_node (bare_trees r.shapes) (record { form = VarAt; ctx = c; subject = subject; claim = claim; first = 0; second = 0; third = 0 })) (told r c) (told r 0) (told r 0) (told r 0) ≡ None
  var_ok S G i ty v e u =
      let l = row_of_node (bare_trees r.shapes) (record { form = VarAt; ctx = c; subject = subject; claim = claim; first = 0; second = 0; third = 0 }) in
      let L = (scope_of (told r c)).entries in
      let w : L ≡ map bare_local (scope_of (named_told r c)).entries = ap (λ s. s.entries) (scope_told r c) in
      let p = typed_entry (scope_of (named_told r c)).entries i (named_at r.shapes ty) e in
      let there = ap (λ x. is_some (option_and_then (entry_at L) (var_in x))) v ∙ ap (λ M. is_some (entry_at M i)) w ∙ p.0 in
      let type : option_and_then type_of (entry_at L i) ≡ Some (bare_at r.shapes ty) = ap (λ M. option_and_then type_of (entry_at M i)) w ∙ p.1 ∙ ap Some (bare_of_named r.shapes ty) in
      let n : i + 1 ≡ suc i = omega arith in
      let that =
      ap (λ x. is_that (bare_at r.shapes claim) (option_and_then (λ j. option_map (lift 0 (suc j)) (option_and_then type_of (entry_at L j))) (var_in x))) v
      ∙ ap (λ o. is_that (bare_at r.shapes claim) (option_map (lift 0 (suc i)) o)) type
      ∙ is_same (u ∙ ap (λ j. lift 0 j (bare_at r.shapes ty)) n) in
      none_fails (var_conditions l (told r c)) (typed_at r c k, (ap (λ x. is_some (var_in x)) v, (there, (that, tt))))
