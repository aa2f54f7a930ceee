-- One name renamed throughout a front.
use Rattle.std.proofs.Common.{[], ◌∷◌, map, Bool, true, false, ◌≡◌, refl, sym, ap, ◌∙◌, Option, Some, None}
use Rattle.std.specs.Prelude.{if◌then◌else◌}
use Rattle.pts_names.specs.Name.{Name, same_name}
use Rattle.pts_names.proofs.Same.{same_name-true, same_name-self}
use Rattle.pts_ctx.specs.Front.{Global, Front, Fresh, find}
use Rattle.pts_ctx.proofs.Find.{some_same}
use Rattle.pts_image.specs.Renaming.{new_name, renamed_entry, Renames}

module _ (old new : Name) where
  pub differ : (x y : Name) → same_name x y ≡ false → same_name new y ≡ false → same_name x new ≡ false → same_name (new_name old new x) (new_name old new y) ≡ false
  differ x y d n m = by_case (same_name old x) refl (same_name old y) refl
    where
      by_case : (a : Bool) → same_name old x ≡ a → (b : Bool) → same_name old y ≡ b → same_name (if a then new else x) (if b then new else y) ≡ false
      by_case true p true q = absurd (cc (sym (same_name-self x) ∙ ap (same_name x) (sym (same_name-true old x p) ∙ same_name-true old y q) ∙ d))
      by_case true p false q = n
      by_case false p true q = m
      by_case false p false q = d

  fresh_tail : (e : Global (Unit {0})) (G : Front) → Fresh new (e ∷ G) → (same_name new e.name ≡ false) × Fresh new G
  unfolding find
  fresh_tail e G h = by_case (same_name new e.name) refl h
    where
      by_case : (b : Bool) → same_name new e.name ≡ b → ◌≡◌ {A = Option (Global (Unit {0}))} (if b then Some e else find new G) None → (same_name new e.name ≡ false) × Fresh new G
      by_case true p q = absurd (cc q)
      by_case false p q = (p, q)

  not_new : (x : Name) (G : Front) (e : Global (Unit {0})) → Fresh new G → find x G ≡ Some e → same_name x new ≡ false
  not_new x G e n p = by_case (same_name x new) refl
    where
      by_case : (b : Bool) → same_name x new ≡ b → b ≡ false
      by_case false q = refl
      by_case true q = absurd (cc (sym p ∙ ap (λ d. find d G) (same_name-true x new q) ∙ n))

  pub front_renamed : (G : Front) → Fresh new G → Renames (new_name old new) G (map (renamed_entry (new_name old new)) G)
  unfolding find
  front_renamed [] n x e p = absurd (cc p)
  front_renamed (d ∷ G) n x e p = by_case (same_name x d.name) refl p (λ q. front_renamed G (fresh_tail d G n).1 x e q)
    where
      by_case : (b : Bool) → same_name x d.name ≡ b → ◌≡◌ {A = Option (Global (Unit {0}))} (if b then Some d else find x G) (Some e) → (find x G ≡ Some e → find (new_name old new x) (map (renamed_entry (new_name old new)) G) ≡ Some (renamed_entry (new_name old new) e)) → find (new_name old new x) (map (renamed_entry (new_name old new)) (d ∷ G)) ≡ Some (renamed_entry (new_name old new) e)
      by_case true q h i = rw (ap (same_name (new_name old new x)) (ap (new_name old new) (sym (same_name-true x d.name q))) ∙ same_name-self (new_name old new x), find) (ap (λ e. Some (renamed_entry (new_name old new) e)) (some_same h))
      by_case false q h i = rw (differ x d.name q (fresh_tail d G n).0 (not_new x G e (fresh_tail d G n).1 h), find) (i h)
