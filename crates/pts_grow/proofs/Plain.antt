-- Terms that are made of a record's terms, without printed names.
use Rattle.std.proofs.Common.{◌≡◌, ℕ, ◌<◌, List, length, sym, ap, ◌∙◌, Some}
use Rattle.std.specs.Option.{option_map}
use mathlib.Core.Path.{ap₂}
use Rattle.pts_names.specs.Name.{Name}
use Rattle.pts_terms.specs.Tree.{Named, bare, sort, const, app, named_lam, lam, lift, put}
use Rattle.pts_terms.proofs.Unnamed.{bare_lift, bare_put}
use Rattle.pts_ctx.specs.Front.{Global, find}
use Rattle.pts_record.specs.declared.shape.Shape.{Shape}
use Rattle.pts_record.specs.Table.{Tables, named_at, bare_at}
use Rattle.pts_record.proofs.Trees.{bare_of_named}
use Rattle.pts_grow.specs.Keeps.{Keeps}
use Rattle.pts_grow.proofs.Grow.{bare_stays}
use Rattle.pts_grow.specs.Judges.{constant_type}

pub plain : (ss : List Shape) (n : ℕ) (t : Named) → named_at ss n ≡ t → bare_at ss n ≡ bare t
plain ss n t e = sym (bare_of_named ss n) ∙ ap bare e

pub plain_sort : (ss : List Shape) (n s : ℕ) → named_at ss n ≡ sort s → bare_at ss n ≡ sort s
plain_sort ss n s e = plain ss n (sort s) e

-- A term of the record that grew, which is made of terms that stood.
module _ (a b : Tables) (n : ℕ) (g : Keeps a b) where
  stood : (t : ℕ) → t < length a.shapes → bare (named_at a.shapes t) ≡ bare_at b.shapes t
  stood t h = bare_of_named a.shapes t ∙ sym (bare_stays a b t g h)

  pub plain_app : (f x : ℕ) → f < length a.shapes → x < length a.shapes → named_at b.shapes n ≡ app (named_at a.shapes f) (named_at a.shapes x) → bare_at b.shapes n ≡ app (bare_at b.shapes f) (bare_at b.shapes x)
  plain_app f x h k e = plain b.shapes n (app (named_at a.shapes f) (named_at a.shapes x)) e ∙ ap₂ app (stood f h) (stood x k)

  pub plain_lam : (x : Name) (d u : ℕ) → d < length a.shapes → u < length a.shapes → named_at b.shapes n ≡ named_lam x (named_at a.shapes d) (named_at a.shapes u) → bare_at b.shapes n ≡ lam (bare_at b.shapes d) (bare_at b.shapes u)
  plain_lam x d u h k e = plain b.shapes n (named_lam x (named_at a.shapes d) (named_at a.shapes u)) e ∙ ap₂ lam (stood d h) (stood u k)

  pub plain_lift : (from by t : ℕ) → t < length a.shapes → named_at b.shapes n ≡ lift from by (named_at a.shapes t) → bare_at b.shapes n ≡ lift from by (bare_at b.shapes t)
  plain_lift from by t h e = plain b.shapes n (lift from by (named_at a.shapes t)) e ∙ bare_lift from by (named_at a.shapes t) ∙ ap (lift from by) (stood t h)

  pub plain_put : (index passed x t : ℕ) → x < length a.shapes → t < length a.shapes → named_at b.shapes n ≡ put index passed (named_at a.shapes x) (named_at a.shapes t) → bare_at b.shapes n ≡ put index passed (bare_at b.shapes x) (bare_at b.shapes t)
  plain_put index passed x t h k e =
      plain b.shapes n (put index passed (named_at a.shapes x) (named_at a.shapes t)) e
      ∙ bare_put index passed (named_at a.shapes x) (named_at a.shapes t)
      ∙ ap₂ (put index passed) (stood x h) (stood t k)

-- The type of a constant's entry.
pub constant_found : (G : List (Global Name)) (ss : List Shape) (t n : ℕ) (x : Name) (e : Global Name) → bare_at ss t ≡ const x → find x G ≡ Some e → named_at ss n ≡ e.type → constant_type G (bare_at ss t) ≡ Some (bare_at ss n)
constant_found G ss t n x e c f u =
    ap (constant_type G) c ∙ ap (option_map (λ d. bare d.type)) f ∙ ap Some (sym (plain ss n e.type u))

pub ruleset plainly = (plain_sort, plain_app, plain_lift, plain_put, constant_found, bare_stays)
