-- A step at its cost, inside an application too, and steps one after another.
use Rattle.std.proofs.Common.{◌≡◌, ◌≢◌, ℕ, zero, suc, ◌≤◌, refl, sym, ap, ◌∙◌, arith, List, Bool, true, false, nat_le, Option, Some, None}
use Rattle.std.specs.Prelude.{◌&&◌}
use Rattle.std.proofs.lemmas.Bool.Decides.{nat_tests}
use Rattle.pts_terms.specs.Tree.{Tree, Named, sort, const, var, app, named_lam, named_pi, named_let}
use Rattle.pts_terms.specs.Limits.{depth_of, size_of, within}
use Rattle.pts_ctx.specs.Front.{Global, Local}
use Rattle.pts_rules.specs.Step.{head_step, apply_to}
use Rattle.pts_reduce_cost.specs.Costs.{Globals, Entries}
use Rattle.pts_reduce_cost.specs.Run.{ends, deep, spent, paid, checked}
use Rattle.pts_reduce_cost.specs.Work.{stepped, after_step, reduced}

-- What a step comes to, by the term that it makes.
pub none_step : (o : Option Named) (k : ℕ) → o ≡ None → stepped o k ≡ ends None k
unfolding stepped
none_step o k e = ap (λ o. stepped o k) e

pub made_step : (o : Option Named) (u : Named) (k j : ℕ) → o ≡ Some u → k ≡ suc j → within u ≡ true → stepped o k ≡ ends (Some u) j
unfolding stepped paid checked
made_step o u k j e p w = rw (e, p) (ap (λ b. checked b (Some u) j) w)

-- The same, where the term that was made is at hand.
pub made_as : (o : Option Named) (u v : Named) (k j : ℕ) → o ≡ Some u → k ≡ suc j → v ≡ u → within u ≡ true → stepped o k ≡ ends (Some v) j
made_as o u v k j e p q w = made_step o u k j e p w ∙ ap (λ x. ends (Some x) j) (sym q)

pub deep_step : (o : Option Named) (u : Named) (k j : ℕ) → o ≡ Some u → k ≡ suc j → within u ≡ false → stepped o k ≡ deep j
unfolding stepped paid checked
deep_step o u k j e p w = rw (e, p) (ap (λ b. checked b (Some u) j) w)

pub spent_step : (o : Option Named) (u : Named) (k : ℕ) → o ≡ Some u → k ≡ 0 → stepped o k ≡ spent
unfolding stepped paid
spent_step o u k e p = rw (e, p) refl

-- What term a step makes, by what it came to.
checked_ends : (b : Bool) (o p : Option Named) (k j : ℕ) → checked {F = ⊥} b o k ≡ ends p j → (b ≡ true) × (o ≡ p) × (k ≡ j)
unfolding checked
checked_ends true o p k j e = (refl, cc, cc)
checked_ends false o p k j e = absurd (cc e)

checked_deep : (b : Bool) (o : Option Named) (k j : ℕ) → checked {F = ⊥} b o k ≡ deep j → (b ≡ false) × (k ≡ j)
unfolding checked
checked_deep true o k j e = absurd (cc e)
checked_deep false o k j e = (refl, cc)

checked_spent : (b : Bool) (o : Option Named) (k : ℕ) → checked {F = ⊥} b o k ≢ spent
unfolding checked
checked_spent true o k e = cc e
checked_spent false o k e = cc e

pub was_none : (o : Option Named) (k j : ℕ) → stepped o k ≡ ends None j → (o ≡ None) × (k ≡ j)
unfolding stepped paid
was_none None k j e = (refl, cc)
was_none (Some t) zero j e = absurd (cc e)
was_none (Some t) (suc k) j e = let h = checked_ends (within t) (Some t) None k j e in let q = h.1 in absurd (cc q)

pub was_made : (o : Option Named) (u : Named) (k j : ℕ) → stepped o k ≡ ends (Some u) j → (o ≡ Some u) × (within u ≡ true) × (k ≡ suc j)
unfolding stepped paid
was_made None u k j e = absurd (cc e)
was_made (Some t) u zero j e = absurd (cc e)
was_made (Some t) u (suc k) j e =
    let (w, p, q) = checked_ends (within t) (Some t) (Some u) k j e in
    let r : u ≡ t = cc p in
    (p, ap within r ∙ w, ap suc q)

pub was_deep : (o : Option Named) (k j : ℕ) → stepped o k ≡ deep j → (u : Named) × (o ≡ Some u) × (within u ≡ false) × (k ≡ suc j)
unfolding stepped paid
was_deep None k j e = absurd (cc e)
was_deep (Some t) zero j e = absurd (cc e)
was_deep (Some t) (suc k) j e = let h = checked_deep (within t) (Some t) k j e in (t, refl, h.0, ap suc h.1)

pub was_spent : (o : Option Named) (k : ℕ) → stepped o k ≡ spent → (u : Named) × (o ≡ Some u) × (k ≡ 0)
unfolding stepped paid
was_spent None k e = absurd (cc e)
was_spent (Some t) zero e = (t, refl, refl)
was_spent (Some t) (suc k) e = absurd (checked_spent (within t) (Some t) k e)

-- The head step of an application whose function is no abstraction is that of its function.
pub app_head : {B : Type 0} (G : List (Global B)) (L : List (Local B)) (f a : Tree B) → ((x : B) (A b : Tree B) → f ≢ named_lam x A b) → head_step G L (app f a) ≡ apply_to a (head_step G L f)
unfolding head_step
app_head G L (sort s) a h = refl
app_head G L (const c) a h = refl
app_head G L (var i) a h = refl
app_head G L (app g b) a h = refl
app_head G L (named_lam x A b) a h = absurd (h x A b refl)
app_head G L (named_pi x A b) a h = refl
app_head G L (named_let x d A b) a h = refl

-- An application whose function is beyond the limits is beyond them.
beyond_both : (d s e t : ℕ) → d ≤ e → s ≤ t → (nat_le d 2000 && nat_le s 1000000) ≡ false → (nat_le e 2000 && nat_le t 1000000) ≡ false
beyond_both d s e t p q h = grind (arith, nat_tests)

pub large_function : (f a : Named) → within f ≡ false → within (app f a) ≡ false
large_function f a h = beyond_both (depth_of f) (size_of f) (depth_of (app f a)) (size_of (app f a)) (omega arith) (omega arith) h

-- The step of an application, by that of its function.
pub in_app_none : (o : Option Named) (a : Named) (k j : ℕ) → stepped o k ≡ ends None j → stepped (apply_to a o) k ≡ ends None j
in_app_none o a k j e = let h = was_none o k j e in none_step _ k (ap (apply_to a) h.0) ∙ ap (ends None) h.1

pub in_app_made : (o : Option Named) (g a : Named) (k j : ℕ) → stepped o k ≡ ends (Some g) j → within (app g a) ≡ true → stepped (apply_to a o) k ≡ ends (Some (app g a)) j
in_app_made o g a k j e w = let h = was_made o g k j e in made_step _ (app g a) k j (ap (apply_to a) h.0) h.2 w

pub in_app_large : (o : Option Named) (g a : Named) (k j : ℕ) → stepped o k ≡ ends (Some g) j → within (app g a) ≡ false → stepped (apply_to a o) k ≡ deep j
in_app_large o g a k j e w = let h = was_made o g k j e in deep_step _ (app g a) k j (ap (apply_to a) h.0) h.2 w

pub in_app_deep : (o : Option Named) (a : Named) (k j : ℕ) → stepped o k ≡ deep j → stepped (apply_to a o) k ≡ deep j
in_app_deep o a k j e = let h = was_deep o k j e in deep_step _ (app h.0 a) k j (ap (apply_to a) h.1) h.3 (large_function h.0 a h.2)

pub in_app_spent : (o : Option Named) (a : Named) (k : ℕ) → stepped o k ≡ spent → stepped (apply_to a o) k ≡ spent
in_app_spent o a k e = let h = was_spent o k e in spent_step _ (app h.0 a) k (ap (apply_to a) h.1) h.2

pub ruleset steps = (none_step, made_step, made_as, deep_step, spent_step, in_app_none, in_app_made, in_app_large, in_app_deep, in_app_spent)

-- What reduction comes to, by its first step.
pub reduced_stops : (G : Globals) (L : Entries) (t : Named) (k j : ℕ) → stepped (head_step G L t) k ≡ ends None j → reduced G L k t ≡ ends t j
unfolding reduced after_step
reduced_stops G L t zero j e = ap (after_step (λ u. spent) t) e
reduced_stops G L t (suc k) j e = ap (after_step (reduced G L k) t) e

pub reduced_goes_on : (G : Globals) (L : Entries) (t u : Named) (k j : ℕ) → stepped (head_step G L t) k ≡ ends (Some u) j → reduced G L k t ≡ reduced G L j u
unfolding reduced after_step
reduced_goes_on G L t u zero j e = let h = was_made _ u zero j e in let q = h.2 in absurd (cc q)
reduced_goes_on G L t u (suc k) j e =
    let h = was_made _ u (suc k) j e in
    let p = h.2 in
    let q : k ≡ j = cc p in
    ap (after_step (reduced G L k) t) e ∙ ap (λ i. reduced G L i u) q

pub reduced_deep : (G : Globals) (L : Entries) (t : Named) (k j : ℕ) → stepped (head_step G L t) k ≡ deep j → reduced G L k t ≡ deep j
unfolding reduced after_step
reduced_deep G L t zero j e = ap (after_step (λ u. spent) t) e
reduced_deep G L t (suc k) j e = ap (after_step (reduced G L k) t) e

pub reduced_spent : (G : Globals) (L : Entries) (t : Named) (k : ℕ) → stepped (head_step G L t) k ≡ spent → reduced G L k t ≡ spent
unfolding reduced after_step
reduced_spent G L t zero e = ap (after_step (λ u. spent) t) e
reduced_spent G L t (suc k) e = ap (after_step (reduced G L k) t) e

pub ruleset reductions = (reduced_stops, reduced_goes_on, reduced_deep, reduced_spent)
