-- Head steps, by the shapes of both terms.
use Rattle.std.proofs.Common.{◌≡◌, ℕ, suc, Bool, false, Option, Some, None, refl}
use Rattle.std.specs.Prelude.{◌&&◌}
use Rattle.std.specs.Option.{option_map, option_and_then}
use Rattle.pts_terms.specs.Tree.{Bare, sort, const, var, app, lam, pi, let_in, lift, same_term}
use Rattle.pts_ctx.specs.Front.{Local, assumed, defined, unknown}
use Rattle.pts_rules.specs.Parts.{is_that}
use Rattle.pts_rules.specs.Step.{apply_to, definition_at}
use Rattle.pts_check.specs.Stated.{definition_of}

-- A term is the application of what was stepped to, if there is that.
abbrev pub applied : Bare → Bare → Option Bare → Bool
applied (app g b) a o = is_that g o && same_term b a
applied _ a o = false

pub applied_is : (t a : Bare) (o : Option Bare) → is_that t (apply_to a o) ≡ applied t a o
applied_is (sort s) a None = refl
applied_is (sort s) a (Some f) = refl
applied_is (const c) a None = refl
applied_is (const c) a (Some f) = refl
applied_is (var i) a None = refl
applied_is (var i) a (Some f) = refl
applied_is (app g b) a None = refl
applied_is (app g b) a (Some f) = refl
applied_is (lam A b) a None = refl
applied_is (lam A b) a (Some f) = refl
applied_is (pi A B) a None = refl
applied_is (pi A B) a (Some f) = refl
applied_is (let_in d A b) a None = refl
applied_is (let_in d A b) a (Some f) = refl

pub definition_at_is : (i : ℕ) (e : Option (Local (Unit {0}))) → definition_at i e ≡ option_map (lift 0 (suc i)) (option_and_then definition_of e)
definition_at_is i None = refl
definition_at_is i (Some (assumed A)) = refl
definition_at_is i (Some (defined a A)) = refl
definition_at_is i (Some unknown) = refl
