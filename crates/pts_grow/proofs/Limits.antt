-- A term with a part beyond the limits is beyond them.
use Rattle.std.proofs.Common.{◌≡◌, ℕ, ◌≤◌, false, arith}
use Rattle.std.specs.Prelude.{◌&&◌, nat_le}
use Rattle.std.proofs.lemmas.Bool.Decides.{nat_tests}
use Rattle.pts_terms.specs.Tree.{Tree, app, named_lam, named_pi, named_let}
use Rattle.pts_terms.specs.Limits.{within, depth_of, size_of}
use Rattle.pts_grow.specs.declared.fault.TermFault.{TermFault}
use Rattle.pts_grow.specs.declared.fault.TermFault.TheVariants.{TooLarge, Memory}
use Rattle.pts_grow.specs.Keeps.{WhyNot}

-- Greater measures are beyond the limits where smaller ones are.
beyond : (d e s z : ℕ) → d ≤ e → s ≤ z → (nat_le d 2000 && nat_le s 1000000) ≡ false → (nat_le e 2000 && nat_le z 1000000) ≡ false
beyond d e s z h g f = grind (arith, nat_tests)

module _ {B : Type 0} where
  large : (t u : Tree B) → depth_of t ≤ depth_of u → size_of t ≤ size_of u → within t ≡ false → within u ≡ false
  large t u h g f = beyond (depth_of t) (depth_of u) (size_of t) (size_of u) h g f

  why : (e : TermFault) (t u : Tree B) → depth_of t ≤ depth_of u → size_of t ≤ size_of u → WhyNot e t → WhyNot e u
  why TooLarge t u h g w = large t u h g w
  why Memory t u h g w = tt

  pub app_0 : (e : TermFault) (f a : Tree B) → WhyNot e f → WhyNot e (app f a)
  app_0 e f a w = why e f (app f a) (omega arith) (omega arith) w

  pub app_1 : (e : TermFault) (f a : Tree B) → WhyNot e a → WhyNot e (app f a)
  app_1 e f a w = why e a (app f a) (omega arith) (omega arith) w

  pub lam_0 : (e : TermFault) (x : B) (A b : Tree B) → WhyNot e A → WhyNot e (named_lam x A b)
  lam_0 e x A b w = why e A (named_lam x A b) (omega arith) (omega arith) w

  pub lam_1 : (e : TermFault) (x : B) (A b : Tree B) → WhyNot e b → WhyNot e (named_lam x A b)
  lam_1 e x A b w = why e b (named_lam x A b) (omega arith) (omega arith) w

  pub pi_0 : (e : TermFault) (x : B) (A b : Tree B) → WhyNot e A → WhyNot e (named_pi x A b)
  pi_0 e x A b w = why e A (named_pi x A b) (omega arith) (omega arith) w

  pub pi_1 : (e : TermFault) (x : B) (A b : Tree B) → WhyNot e b → WhyNot e (named_pi x A b)
  pi_1 e x A b w = why e b (named_pi x A b) (omega arith) (omega arith) w

  pub let_0 : (e : TermFault) (x : B) (a A b : Tree B) → WhyNot e a → WhyNot e (named_let x a A b)
  let_0 e x a A b w = why e a (named_let x a A b) (omega arith) (omega arith) w

  pub let_1 : (e : TermFault) (x : B) (a A b : Tree B) → WhyNot e A → WhyNot e (named_let x a A b)
  let_1 e x a A b w = why e A (named_let x a A b) (omega arith) (omega arith) w

  pub let_2 : (e : TermFault) (x : B) (a A b : Tree B) → WhyNot e b → WhyNot e (named_let x a A b)
  let_2 e x a A b w = why e b (named_let x a A b) (omega arith) (omega arith) w

pub ruleset limits = (app_0, app_1, lam_0, lam_1, pi_0, pi_1, let_0, let_1, let_2)
