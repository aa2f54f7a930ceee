-- What the exits of a step come to.
use Rattle.std.proofs.Common.{◌≡◌, ℕ, suc, ◌+◌, refl, sym, ap, ◌∙◌, arith, List, true, Option, Some, None, ◌⊎◌, inl, inr}
use Rattle.std.specs.Option.{option_map, option_and_then}
use Rattle.pts_names.specs.Name.{Name}
use Rattle.pts_terms.specs.Tree.{Named, sort, const, var, app, named_lam, named_pi, named_let, lift, subst}
use Rattle.pts_terms.specs.Limits.{within}
use Rattle.pts_ctx.specs.Front.{Local, assumed, defined, unknown}
use Rattle.pts_terms.specs.declared.term.Sort.{Sort}
use Rattle.pts_record.specs.declared.shape.Shape.{Shape}
use Rattle.pts_record.specs.declared.shape.Shape.TheVariants.{Sort as TheSort, Lam, Pi}
use Rattle.pts_record.specs.Table.{named_trees, unfold_shape, the_name}
use Rattle.pts_rules.specs.Step.{head_step, apply_to, definition_at}
use Rattle.pts_reduce_cost.specs.Costs.{Globals, Entries}
use Rattle.pts_reduce_cost.specs.Run.{ends}
use Rattle.pts_reduce_cost.specs.Work.{stepped}
use Rattle.pts_reduce_cost.proofs.Steps.{none_step, made_as, deep_step, spent_step, in_app_none, in_app_made, in_app_large, in_app_deep, in_app_spent}
use Rattle.pts_grow.specs.declared.fault.TermFault.{TermFault}
use Rattle.pts_grow.specs.declared.fault.TermFault.TheVariants as made
use Rattle.pts_grow.specs.Keeps.{WhyNot}
use Rattle.pts_reduce.specs.declared.fault.Fault.{Fault}
use Rattle.pts_reduce.specs.declared.fault.Fault.TheVariants.{Spent, Deep, Memory, Differ}
use Rattle.pts_reduce.specs.Given.{PlainFault, same_fault, definition_of, body_in}

pub not_made : (t : TermFault) (o : Option Named) (u : Named) (k j : ℕ) → o ≡ Some u → k ≡ suc j → WhyNot t u → PlainFault (same_fault t) j (stepped o k)
not_made made.TooLarge o u k j e p w = deep_step o u k j e p w
not_made made.Memory o u k j e p w = tt

pub not_paid : (e : Fault) (o : Option Named) (u : Named) (k j : ℕ) → e ≡ Spent → o ≡ Some u → k ≡ 0 → j ≡ 0 → PlainFault e j (stepped o k)
not_paid e o u k j q h p z = rw q (spent_step o u k h p, z)

pub in_app_fault : (e : Fault) (o : Option Named) (a : Named) (k j : ℕ) → PlainFault e j (stepped o k) → PlainFault e j (stepped (apply_to a o) k)
in_app_fault Spent o a k j h = (in_app_spent o a k h.0, h.1)
in_app_fault Deep o a k j h = in_app_deep o a k j h
in_app_fault Memory o a k j h = tt
in_app_fault (Differ d) o a k j h = h

pub not_made_in : (t : TermFault) (o : Option Named) (g a : Named) (k j : ℕ) → stepped o k ≡ ends (Some g) j → WhyNot t (app g a) → PlainFault (same_fault t) j (stepped (apply_to a o) k)
not_made_in made.TooLarge o g a k j e w = in_app_large o g a k j e w
not_made_in made.Memory o g a k j e w = tt

pub made_in : (o : Option Named) (g a v : Named) (k j : ℕ) → stepped o k ≡ ends (Some g) j → v ≡ app g a → within (app g a) ≡ true → stepped (apply_to a o) k ≡ ends (Some v) j
made_in o g a v k j e q w = in_app_made o g a k j e w ∙ ap (λ x. ends (Some x) j) (sym q)

pub ruleset step_facts = (not_made, not_paid, none_step, made_as)

pub definition_at_is : {B : Type 0} (i : ℕ) (e : Option (Local B)) → definition_at i e ≡ option_map (lift 0 (suc i)) (option_and_then definition_of e)
definition_at_is i None = refl
definition_at_is i (Some (assumed A)) = refl
definition_at_is i (Some (defined a A)) = refl
definition_at_is i (Some unknown) = refl

-- The head step of an application, by whether its function is an abstraction.
pub contracts : (G : Globals) (L : Entries) (f a b : Named) → body_in f ≡ Some b → head_step G L (app f a) ≡ Some (subst 0 a b)
unfolding head_step
contracts G L (named_lam x A c) a b h = let e : c ≡ b = cc h in ap (λ t. Some (subst 0 a t)) e
contracts G L (sort s) a b h = absurd (cc h)
contracts G L (const s) a b h = absurd (cc h)
contracts G L (var s) a b h = absurd (cc h)
contracts G L (app g c) a b h = absurd (cc h)
contracts G L (named_pi x A c) a b h = absurd (cc h)
contracts G L (named_let x d A c) a b h = absurd (cc h)

pub steps_inside : (G : Globals) (L : Entries) (f a : Named) → body_in f ≡ None → head_step G L (app f a) ≡ apply_to a (head_step G L f)
unfolding head_step
steps_inside G L (named_lam x A c) a h = absurd (cc h)
steps_inside G L (sort s) a h = refl
steps_inside G L (const s) a h = refl
steps_inside G L (var s) a h = refl
steps_inside G L (app g c) a h = refl
steps_inside G L (named_pi x A c) a h = refl
steps_inside G L (named_let x d A c) a h = refl

pub ruleset app_facts = (in_app_fault, not_made_in, made_in, in_app_none, contracts, steps_inside)

pub local_made : (i : ℕ) (e : Option (Local Name)) (d : Named) → Some d ≡ option_and_then definition_of e → definition_at i e ≡ Some (lift 0 (i + 1) d)
local_made i e d h =
    let j : suc i ≡ i + 1 = omega arith in
    definition_at_is i e ∙ ap (option_map (lift 0 (suc i))) (sym h) ∙ ap (λ n. Some (lift 0 n d)) j

-- A sort, an abstraction and a product have no head step.
pub has_no_step : (G : Globals) (L : Entries) (ss : List Shape) (s : Shape) (t : Named) → t ≡ unfold_shape the_name (named_trees ss) s → ((x : Sort) × s ≡ TheSort x) ⊎ (((x : Name) × (A : ℕ) × (b : ℕ) × s ≡ Lam x A b) ⊎ ((x : Name) × (A : ℕ) × (b : ℕ) × s ≡ Pi x A b)) → head_step G L t ≡ None
unfolding head_step
has_no_step G L ss s t e (inl h) = rw (e ∙ ap (unfold_shape the_name (named_trees ss)) h.1) refl
has_no_step G L ss s t e (inr (inl h)) = rw (e ∙ ap (unfold_shape the_name (named_trees ss)) h.3) refl
has_no_step G L ss s t e (inr (inr h)) = rw (e ∙ ap (unfold_shape the_name (named_trees ss)) h.3) refl
