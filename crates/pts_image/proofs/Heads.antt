-- Head steps of images.
use Rattle.std.proofs.Common.{ℕ, suc, zero, [], ◌∷◌, map, true, ◌≡◌, refl, sym, ap, ◌∙◌, Option, Some, None}
use Rattle.pts_names.specs.Name.{Name}
use Rattle.pts_terms.specs.Tree.{Bare, sort, const, var, app, lam, pi, let_in, lift, subst}
use Rattle.pts_ctx.specs.Front.{Front, find, assumed, defined, unknown, Locals, entry_at}
use Rattle.pts_ctx.proofs.Find.{some_same}
use Rattle.pts_rules.specs.Step.{head_step, body_of, definition_at, apply_to}
use Rattle.pts_terms.specs.Replaced.{replaced}
use Rattle.pts_image.specs.Image.{Closed, local_image}
use Rattle.pts_image.proofs.Replacing.{replaced_lift, replaced_put}

apply_some : (a : Bare) (o : Option Bare) (u : Bare) → apply_to a o ≡ Some u → (g : Bare) × (o ≡ Some g) × (app g a ≡ u)
apply_some a None u h = absurd (cc h)
apply_some a (Some g) u h = (g, refl, some_same h)

module _ (F H : Front) (f : Name → Bare) (closed : Closed f)
    (const_head : (x : Name) (u : Bare) → body_of (find x F) ≡ Some u → (y : Name) × (f x ≡ const y) × (body_of (find y H) ≡ Some (replaced f u))) where
  var_head : (L : Locals) (i j : ℕ) (u : Bare) → definition_at j (entry_at L i) ≡ Some u → definition_at j (entry_at (map (local_image f) L) i) ≡ Some (replaced f u)
  var_head [] i j u h = absurd (cc h)
  var_head (assumed A ∷ L) zero j u h = absurd (cc h)
  var_head (unknown ∷ L) zero j u h = absurd (cc h)
  var_head (defined d A ∷ L) zero j u h = ap Some (sym (replaced_lift f closed 0 (suc j) d) ∙ ap (replaced f) (some_same h))
  var_head (e ∷ L) (suc i) j u h = var_head L i j u h

  under_app : (L : Locals) (g d u k : Bare) → replaced f g ≡ k → (head_step H (map (local_image f) L) (app k (replaced f d)) ≡ apply_to (replaced f d) (head_step H (map (local_image f) L) k)) → ((v : Bare) → head_step F L g ≡ Some v → head_step H (map (local_image f) L) (replaced f g) ≡ Some (replaced f v)) → apply_to d (head_step F L g) ≡ Some u → head_step H (map (local_image f) L) (replaced f (app g d)) ≡ Some (replaced f u)
  under_app L g d u k p e i h =
      let (v, q, is) = apply_some d (head_step F L g) u h in
      ap (λ x. head_step H (map (local_image f) L) (app x (replaced f d))) p ∙ e
      ∙ ap (apply_to (replaced f d)) (ap (head_step H (map (local_image f) L)) (sym p) ∙ i v q)
      ∙ ap (λ x. Some (replaced f x)) is

  pub heads : (L : Locals) (t u : Bare) → head_step F L t ≡ Some u → head_step H (map (local_image f) L) (replaced f t) ≡ Some (replaced f u)
  unfolding head_step
  heads L (sort s) u h = absurd (cc h)
  heads L (const x) u h = let (y, p, q) = const_head x u h in ap (head_step H (map (local_image f) L)) p ∙ q
  heads L (var i) u h = var_head L i i u h
  heads L (app (lam A b) d) u h = ap Some (sym (replaced_put f closed 0 0 d b) ∙ ap (replaced f) (some_same h))
  heads L (app (sort s) d) u h = absurd (cc h)
  heads L (app (pi A B) d) u h = absurd (cc h)
  heads L (app (const x) d) u h =
      let (g, q, is) = apply_some d (body_of (find x F)) u h in
      let (y, p, e) = const_head x g q in
      under_app L (const x) d u (const y) p refl (λ v z. heads L (const x) v z) h
  heads L (app (var i) d) u h = under_app L (var i) d u (var i) refl refl (λ v p. heads L (var i) v p) h
  heads L (app (app g b) d) u h = under_app L (app g b) d u (app (replaced f g) (replaced f b)) refl refl (λ v p. heads L (app g b) v p) h
  heads L (app (let_in e A b) d) u h = under_app L (let_in e A b) d u (let_in (replaced f e) (replaced f A) (replaced f b)) refl refl (λ v p. heads L (let_in e A b) v p) h
  heads L (lam A b) u h = absurd (cc h)
  heads L (pi A b) u h = absurd (cc h)
  heads L (let_in d A b) u h = ap Some (sym (replaced_put f closed 0 0 d b) ∙ ap (replaced f) (some_same h))
