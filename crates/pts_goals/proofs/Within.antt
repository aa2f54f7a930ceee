-- The terms that close goals.
use Rattle.std.specs.Prelude.{◌&&◌, nat_le}
use Rattle.std.proofs.lemmas.Bool.Decides.{nat_tests}
use Rattle.pts_terms.specs.Limits.{within, depth_of, size_of}
use Rattle.std.proofs.Common.{◌≡◌, ◌≤◌, ℕ, ◌<◌, List, [], ◌∷◌, length, refl, sym, ap, ◌∙◌, Some, None, true, arith}
use mathlib.Core.Path.{ap₂}
use Rattle.pts_names.specs.Name.{Name}
use Rattle.pts_terms.specs.Tree.{Named, Bare, bare, named_lam, lam, app, lift, subst}
use Rattle.pts_terms.proofs.Putting.{put_back}
use Rattle.pts_record.specs.Table.{Tables, named_at, bare_at}
use Rattle.pts_record.proofs.Trees.{bare_of_named}
use Rattle.pts_grow.specs.Keeps.{Keeps}
use Rattle.pts_grow.proofs.Grow.{bare_stays}
use Rattle.pts_grow.proofs.Plain.{plain}

part : (d e s z : ℕ) → d ≤ e → s ≤ z → (nat_le e 2000 && nat_le z 1000000) ≡ true → (nat_le d 2000 && nat_le s 1000000) ≡ true
part d e s z h g f = grind (arith, nat_tests)

-- A term that is no deeper and no larger than one within limits is within them.
pub within_part : (t u : Named) → depth_of t ≤ depth_of u → size_of t ≤ size_of u → within u ≡ true → within t ≡ true
within_part t u h g f = part (depth_of t) (depth_of u) (size_of t) (size_of u) h g f

-- What was lifted under a binder is as it was once something is put in.
pub put_back_at : (a t B u : Bare) → B ≡ lift 0 1 t → u ≡ t → u ≡ subst 0 a B
put_back_at a t B u e h = h ∙ sym (put_back a t) ∙ ap (subst 0 a) (sym e)

-- A part of a term within limits is within them.
pub function_within : (f a : Named) → within (app f a) ≡ true → within f ≡ true
function_within f a h = within_part f (app f a) (omega arith) (omega arith) h

pub ruleset cutting = (function_within)
