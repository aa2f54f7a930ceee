-- The facts of a test, carried over the growth of the record.
use Rattle.std.proofs.Common.{◌≡◌, ◌≢◌, ℕ, suc, ◌-◌, ◌<◌, refl, sym, ap, ◌∙◌, subst, arith, List, length, Bool, true, false}
use Rattle.pts_terms.specs.Tree.{Named, Bare, bare, same_term}
use Rattle.pts_record.specs.declared.shape.Shape.{Shape}
use Rattle.pts_record.specs.Table.{Tables, named_at, bare_at}
use Rattle.pts_record.specs.Said.{scope_of}
use Rattle.pts_record.proofs.Trees.{bare_of_named}
use Rattle.pts_reduce_cost.specs.Costs.{Globals, Entries, leaves, pairing}
use Rattle.pts_reduce_cost.specs.Run.{ends}
use Rattle.pts_reduce_cost.specs.Work.{reduced, Tester, agree, compared, forms_tested, tested}
use Rattle.pts_reduce_cost.proofs.Tests.{compared_at_once, tested_equal, tested_by_forms, forms_reached}
use Rattle.pts_grow.specs.Keeps.{Keeps}
use Rattle.pts_grow.proofs.Grow.{bare_stays, tree_stays, told_stays, keeps_trans}
use Rattle.pts_reduce.specs.declared.fault.Fault.{Fault}
use Rattle.pts_reduce.specs.declared.pairs.Parts.{Parts}
use Rattle.pts_reduce.specs.declared.pairs.Both.{Both}
use Rattle.pts_reduce.specs.Given.{PlainFault, TestFault}
use Rattle.pts_reduce.specs.Chain.{first_of, IsChain, entries_of}
use Rattle.pts_reduce.specs.Pairs.{Stand, MadeOf, AreOf}
use Rattle.pts_reduce.proofs.Faults.{right_faults}
use Rattle.pts_reduce.proofs.Walks.{still_chain}

-- What terms are made of, by the comparisons of their parts, in a later record.
pub made_left : (a b : Tables) (make : Bare → Bare → Bare) (left right : ℕ) (p : Parts) (q : Both) → Keeps a b → left < length a.shapes → Stand a.shapes p → MadeOf a.shapes make left right p → AreOf q p → bare_at b.shapes left ≡ make (bare_at b.shapes q.firsts.left) (bare_at b.shapes q.seconds.left)
made_left a b make left right p q g h s m o =
    let x = bare_stays a b p.left_first g s.0 in
    let y = bare_stays a b p.left_second g s.2 in
    let u = ap (bare_at b.shapes) o.0 in
    let v = ap (bare_at b.shapes) o.2 in
    bare_stays a b left g h ∙ m.0 ∙ ap (λ t. make t (bare_at a.shapes p.left_second)) (sym (u ∙ x)) ∙ ap (make (bare_at b.shapes q.firsts.left)) (sym (v ∙ y))

pub made_right : (a b : Tables) (make : Bare → Bare → Bare) (left right : ℕ) (p : Parts) (q : Both) → Keeps a b → right < length a.shapes → Stand a.shapes p → MadeOf a.shapes make left right p → AreOf q p → bare_at b.shapes right ≡ make (bare_at b.shapes q.firsts.right) (bare_at b.shapes q.seconds.right)
made_right a b make left right p q g h s m o =
    let x = bare_stays a b p.right_first g s.1 in
    let y = bare_stays a b p.right_second g s.3 in
    let u = ap (bare_at b.shapes) o.1 in
    let v = ap (bare_at b.shapes) o.3 in
    bare_stays a b right g h ∙ m.1 ∙ ap (λ t. make t (bare_at a.shapes p.right_second)) (sym (u ∙ x)) ∙ ap (make (bare_at b.shapes q.firsts.right)) (sym (v ∙ y))

pub entries_kept : (a b : Tables) (c : ℕ) → Keeps a b → c < length a.nodes → entries_of b c ≡ entries_of a c
entries_kept a b c g h = ap (λ m. (scope_of m).entries) (told_stays a b c g h)

pub tested_stays : (G : Globals) (d : ℕ) (a b : Tables) (c t u k : ℕ) → Keeps a b → c < length a.nodes → t < length a.shapes → u < length a.shapes → tested G d (entries_of b c) (named_at b.shapes t) (named_at b.shapes u) k ≡ tested G d (entries_of a c) (named_at a.shapes t) (named_at a.shapes u) k
tested_stays G d a b c t u k g h l r =
    ap (λ L. tested G d L (named_at b.shapes t) (named_at b.shapes u) k) (entries_kept a b c g h)
    ∙ ap (λ v. tested G d (entries_of a c) v (named_at b.shapes u) k) (tree_stays a b t g l)
    ∙ ap (λ v. tested G d (entries_of a c) (named_at a.shapes t) v k) (tree_stays a b u g r)

pub reduced_stays : (G : Globals) (a b : Tables) (c t k : ℕ) → Keeps a b → c < length a.nodes → t < length a.shapes → reduced G (entries_of b c) k (named_at b.shapes t) ≡ reduced G (entries_of a c) k (named_at a.shapes t)
reduced_stays G a b c t k g h l =
    ap (λ L. reduced G L k (named_at b.shapes t)) (entries_kept a b c g h)
    ∙ ap (reduced G (entries_of a c) k) (tree_stays a b t g l)

pub compared_stays : (test : Tester) (a b : Tables) (c t u : ℕ) (v w : Named) (k : ℕ) → Keeps a b → c < length a.nodes → named_at b.shapes t ≡ v → named_at b.shapes u ≡ w → compared test (entries_of b c) (named_at b.shapes t) (named_at b.shapes u) k ≡ compared test (entries_of a c) v w k
compared_stays test a b c t u v w k g h p q =
    ap (λ L. compared test L (named_at b.shapes t) (named_at b.shapes u) k) (entries_kept a b c g h)
    ∙ ap (λ x. compared test (entries_of a c) x (named_at b.shapes u) k) p
    ∙ ap (λ x. compared test (entries_of a c) v x k) q

-- Forms that are compared at once.
pub leaves_agree : (test : Tester) (L : Entries) (v w : Named) (b : Bool) (k : ℕ) → pairing L v w ≡ leaves b → b ≡ true → compared test L v w k ≡ ends tt k
unfolding agree
leaves_agree test L v w b k e p = compared_at_once test L v w b k e ∙ ap (λ b. agree b v w k) p

pub leaves_differ : (test : Tester) (L : Entries) (v w : Named) (b : Bool) (k : ℕ) → pairing L v w ≡ leaves b → b ≡ false → compared test L v w k ≡ agree false v w k
leaves_differ test L v w b k e p = compared_at_once test L v w b k e ∙ ap (λ b. agree b v w k) p

-- Equality without names, of trees with names.
same_named_as : (ss : List Shape) (l r : ℕ) → same_term (bare (named_at ss l)) (bare (named_at ss r)) ≡ same_term (bare_at ss l) (bare_at ss r)
same_named_as ss l r = ap (λ t. same_term t (bare (named_at ss r))) (bare_of_named ss l) ∙ ap (same_term (bare_at ss l)) (bare_of_named ss r)

pub equal_at_once : (G : Globals) (d : ℕ) (L : Entries) (ss : List Shape) (l r k j : ℕ) (b : Bool) → d ≢ 0 → k ≡ suc j → b ≡ same_term (bare_at ss l) (bare_at ss r) → b ≡ true → tested G d L (named_at ss l) (named_at ss r) k ≡ ends tt j
equal_at_once G d L ss l r k j b z p e h = tested_equal G d L (named_at ss l) (named_at ss r) k j z p (same_named_as ss l r ∙ sym e ∙ h)

pub unequal_by_forms : (G : Globals) (d : ℕ) (L : Entries) (ss : List Shape) (l r k j : ℕ) (b : Bool) → d ≢ 0 → k ≡ suc j → b ≡ same_term (bare_at ss l) (bare_at ss r) → b ≡ false → tested G d L (named_at ss l) (named_at ss r) k ≡ forms_tested (tested G (d - 1)) G L (named_at ss l) (named_at ss r) j
unequal_by_forms G d L ss l r k j b z p e h =
    let n : d ≡ suc (d - 1) = omega (arith, z) in
    tested_by_forms G d (d - 1) L (named_at ss l) (named_at ss r) k j n p (same_named_as ss l r ∙ sym e ∙ h)

-- A chain that was made in an earlier record, as its joining wants it.
pub chain_there : (G : Globals) (a b d : Tables) (c t : ℕ) (ks : List ℕ) (f : ℕ) → Keeps a d → Keeps b d → c < length a.nodes → IsChain G (entries_of a c) b.shapes t ks f → IsChain G (entries_of d c) d.shapes (first_of ks f) ks f
chain_there G a b d c t ks f g i h w =
    let e = still_chain G (entries_of a c) b d t ks f i w in
    let s : entries_of a c ≡ entries_of d c = sym (entries_kept a d c g h) in
    subst (λ L. IsChain G L d.shapes (first_of ks f) ks f) s (record { form = e.form; stand = e.stand; leads = e.leads; first = refl })

-- The exits of the test of terms that are not equal. The record was a; b after the left reduction, d after the right one.
module _ (G : Globals) (test : Tester) (a b d : Tables) (c l r : ℕ) (g : Keeps a b) (h : c < length a.nodes) (z : r < length a.shapes) where
  pub other_fails : (ss : List Shape) (e : Fault) (k j i f : ℕ) → reduced G (entries_of a c) k (named_at a.shapes l) ≡ ends (named_at b.shapes f) j → PlainFault e i (reduced G (entries_of b c) j (named_at b.shapes r)) → TestFault ss e i (forms_tested test G (entries_of a c) (named_at a.shapes l) (named_at a.shapes r) k)
  other_fails ss e k j i f p q =
      right_faults ss e test G (entries_of a c) (named_at a.shapes l) (named_at a.shapes r) (named_at b.shapes f) k j i p
      (subst (PlainFault e i) (reduced_stays G a b c r j g h z) q)

  pub forms_compared : (k j i f m : ℕ) → Keeps b d → f < length b.shapes → reduced G (entries_of a c) k (named_at a.shapes l) ≡ ends (named_at b.shapes f) j → reduced G (entries_of b c) j (named_at b.shapes r) ≡ ends (named_at d.shapes m) i → forms_tested test G (entries_of a c) (named_at a.shapes l) (named_at a.shapes r) k ≡ compared test (entries_of d c) (named_at d.shapes f) (named_at d.shapes m) i
  forms_compared k j i f m w s p q =
      let x = keeps_trans a b d g w in
      forms_reached test G (entries_of a c) (named_at a.shapes l) (named_at a.shapes r) (named_at b.shapes f) (named_at d.shapes m) k j i p (sym (reduced_stays G a b c r j g h z) ∙ q)
      ∙ sym (compared_stays test a d c f m (named_at b.shapes f) (named_at d.shapes m) i x h (tree_stays b d f w s) refl)
