-- Work that is told again over a record that has grown.
use Rattle.std.proofs.Common.{◌≡◌, ℕ, ◌<◌, refl, ap, ◌∙◌, sym, subst, List, length, Result}
use Rattle.pts_record.specs.declared.shape.Shape.{Shape}
use Rattle.pts_names.specs.Name.{Name}
use Rattle.pts_terms.specs.Tree.{Bare, bare, let_in, pi, named_pi, named_let}
use Rattle.pts_record.specs.Table.{Tables, named_at, bare_at}
use Rattle.pts_record.specs.Said.{scope_of}
use Rattle.pts_reduce_cost.specs.Run.{Run}
use Rattle.pts_infer_cost.specs.Typing.{Flaw, FitFlaw}
use Rattle.pts_grow.specs.Keeps.{Keeps}
use Rattle.pts_grow.proofs.Grow.{stays, bare_stays, told_stays}
use Rattle.pts_grow.proofs.Judgements.{still_judges}
use Rattle.pts_grow.proofs.Plain.{plain}
use Rattle.pts_reduce.specs.Chain.{entries_of}
use Rattle.pts_infer.specs.declared.fault.Fault.{Fault}
use Rattle.pts_infer.specs.declared.fault.Misfit.{Misfit}
use Rattle.pts_infer.specs.declared.judgements.Function.{Function}
use Rattle.pts_infer.specs.Given.{Gives, GivesFit, IsFunction}

pub entries_stay : (a b : Tables) (c : ℕ) → Keeps a b → c < length a.nodes → entries_of b c ≡ entries_of a c
entries_stay a b c g h = ap (λ m. (scope_of m).entries) (told_stays a b c g h)

-- What a term is made of, over a record that has grown; the parts may be told by equal numbers.
pub parts_there : (a b : Tables) (make : Bare → Bare → Bare) (t f g y z : ℕ) → Keeps a b → t < length a.shapes → f < length a.shapes → g < length a.shapes → y ≡ f → z ≡ g → bare_at a.shapes t ≡ make (bare_at a.shapes f) (bare_at a.shapes g) → bare_at b.shapes t ≡ make (bare_at b.shapes y) (bare_at b.shapes z)
parts_there a b make t f g y z k h i j p q e =
    let u = bare_stays a b t k h in
    let v = ap (bare_at b.shapes) p ∙ bare_stays a b f k i in
    let w = ap (bare_at b.shapes) q ∙ bare_stays a b g k j in
    rw (u, v, w) e

pub let_there : (a b : Tables) (t d f g x y z : ℕ) → Keeps a b → t < length a.shapes → d < length a.shapes → f < length a.shapes → g < length a.shapes → x ≡ d → y ≡ f → z ≡ g → bare_at a.shapes t ≡ let_in (bare_at a.shapes d) (bare_at a.shapes f) (bare_at a.shapes g) → bare_at b.shapes t ≡ let_in (bare_at b.shapes x) (bare_at b.shapes y) (bare_at b.shapes z)
let_there a b t d f g x y z k h l i j o p q e =
    let u = bare_stays a b t k h in
    let s = ap (bare_at b.shapes) o ∙ bare_stays a b d k l in
    let v = ap (bare_at b.shapes) p ∙ bare_stays a b f k i in
    let w = ap (bare_at b.shapes) q ∙ bare_stays a b g k j in
    rw (u, s, v, w) e

-- A product and a local definition that were made.
pub made_pi : (a b : Tables) (n d t : ℕ) (x : Name) → Keeps a b → d < length a.shapes → t < length a.shapes → named_at b.shapes n ≡ named_pi x (named_at a.shapes d) (named_at a.shapes t) → bare_at b.shapes n ≡ pi (bare_at b.shapes d) (bare_at b.shapes t)
made_pi a b n d t x k h i e =
    let p = plain b.shapes n (named_pi x (named_at a.shapes d) (named_at a.shapes t)) e in
    let q : bare (named_at a.shapes d) ≡ bare_at b.shapes d = sym (plain a.shapes d (named_at a.shapes d) refl) ∙ sym (bare_stays a b d k h) in
    let r : bare (named_at a.shapes t) ≡ bare_at b.shapes t = sym (plain a.shapes t (named_at a.shapes t) refl) ∙ sym (bare_stays a b t k i) in
    p ∙ ap (λ A. pi A (bare (named_at a.shapes t))) q ∙ ap (pi (bare_at b.shapes d)) r

pub made_let : (a b : Tables) (n v d t : ℕ) (x : Name) → Keeps a b → v < length a.shapes → d < length a.shapes → t < length a.shapes → named_at b.shapes n ≡ named_let x (named_at a.shapes v) (named_at a.shapes d) (named_at a.shapes t) → bare_at b.shapes n ≡ let_in (bare_at b.shapes v) (bare_at b.shapes d) (bare_at b.shapes t)
made_let a b n v d t x k g h i e =
    let p = plain b.shapes n (named_let x (named_at a.shapes v) (named_at a.shapes d) (named_at a.shapes t)) e in
    let o : bare (named_at a.shapes v) ≡ bare_at b.shapes v = sym (plain a.shapes v (named_at a.shapes v) refl) ∙ sym (bare_stays a b v k g) in
    let q : bare (named_at a.shapes d) ≡ bare_at b.shapes d = sym (plain a.shapes d (named_at a.shapes d) refl) ∙ sym (bare_stays a b d k h) in
    let r : bare (named_at a.shapes t) ≡ bare_at b.shapes t = sym (plain a.shapes t (named_at a.shapes t) refl) ∙ sym (bare_stays a b t k i) in
    p ∙ ap (λ A. let_in A (bare (named_at a.shapes d)) (bare (named_at a.shapes t))) o ∙ ap (λ A. let_in (bare_at b.shapes v) A (bare (named_at a.shapes t))) q ∙ ap (let_in (bare_at b.shapes v) (bare_at b.shapes d)) r

pub still_function : (a b : Tables) (c : ℕ) (f : Function) → Keeps a b → c < length a.nodes → IsFunction a c f → IsFunction b c f
still_function a b c f k l (j, d, e, p) = (still_judges a b c f.judged k l j, stays a b f.domain k d, stays a b f.codomain k e, parts_there a b (λ A B. pi A B) f.judged.claim f.domain f.codomain f.domain f.codomain k j.1 d e refl refl p)
