-- One entry after another is pushed.
use Rattle.std.proofs.Common.{◌≡◌, ◌≤◌, ◌+◌, ◌&&◌, ℕ, suc, List, [], ◌∷◌, ◌++◌, map, length, Bool, true, false, None, refl, sym, ap, ◌∙◌, arith}
use Rattle.std.proofs.lemmas.List.{append_assoc}
use Rattle.pts_names.specs.Name.{Name}
use Rattle.pts_ctx.specs.Front.{Global, Fresh}
use Rattle.pts_ctx.specs.Seen.{global_within, globals_within}
use Rattle.pts_ctx.proofs.Lookups.{find-none}
use Rattle.pts_core.specs.declared.copies.Copies.{Copies}
use Rattle.pts_core.specs.Replies.{first_clash}
use Rattle.pts_core.proofs.Clashes.{first_new}

both_true : (a b : Bool) → a && b ≡ true → (a ≡ true) × (b ≡ true)
both_true true b h = (refl, h)
both_true false b h = absurd (cc h)

-- The entry e is the first of those that are left, and more are after it.
module _ (G all es more : List (Global Name)) (e : Global Name) (p : es ≡ e ∷ more) where
  pub fresh_first : first_clash G es ≡ None → Fresh e.name G
  fresh_first h = find-none e.name G (first_new G e more (ap (first_clash G) (sym p) ∙ h)).0

  pub free_rest : (H : List (Global Name)) → H ≡ G ++ e ∷ [] → first_clash G es ≡ None → first_clash H more ≡ None
  free_rest H q h = ap (λ K. first_clash K more) q ∙ (first_new G e more (ap (first_clash G) (sym p) ∙ h)).1

  pub entries_rest : (H : List (Global Name)) → H ≡ G ++ e ∷ [] → G ++ es ≡ all → H ++ more ≡ all
  entries_rest H q h = ap (λ K. K ++ more) q ∙ (append_assoc G (e ∷ []) more ∙ (ap (λ xs. G ++ xs) (sym p) ∙ h))

  pub within_first : globals_within es ≡ true → (global_within e ≡ true) × (globals_within more ≡ true)
  within_first h = both_true (global_within e) (globals_within more) (ap globals_within (sym p) ∙ h)

  pub room_rest : (s t : ℕ) → length es ≤ s → s ≤ t + 1 → length more ≤ t
  room_rest s t h k = let q : length es ≡ suc (length more) = ap length p in omega (arith, q, h, k)

rest_same : {A : Type 0} (x y : A) (xs ys : List A) → x ∷ xs ≡ y ∷ ys → xs ≡ ys
rest_same x y xs ys p = cc p

pub names_rest : (names later : List Copies) (c : Copies) (es more : List (Global Name)) (e : Global Name) → names ≡ c ∷ later → es ≡ e ∷ more → map (λ d. d.kept) names ≡ map (λ d. d.name) es → map (λ d. d.kept) later ≡ map (λ d. d.name) more
names_rest names later c es more e p q h = rest_same c.kept e.name (map (λ d. d.kept) later) (map (λ d. d.name) more) (ap (map (λ d. d.kept)) (sym p) ∙ (h ∙ ap (map (λ d. d.name)) q))
