-- A token in a list of tokens, with what stands before it and behind it.
use Rattle.std.proofs.Common.{◌≡◌, refl, sym, ap, subst, List, [], ◌∷◌, ◌++◌, append_assoc}
use Rattle.pts_tokens.specs.Tokens.{Spot}
use Rattle.pts_lines.specs.Refusals.{CanGoOn}

pub nothing_marked : (vs us : List Spot) (x : Spot) → ¬ ([] ≡ vs ++ x ∷ us)
nothing_marked [] us x e = cc e
nothing_marked (v ∷ vs) us x e = cc e

-- Where two lists with a mark in them are one.
pub data Marks (vs ws : List Spot) (x y : Spot) : Type 0 where
  same_mark : vs ≡ ws → x ≡ y → Marks vs ws x y
  sooner : (zs : List Spot) → ws ≡ (vs ++ x ∷ []) ++ zs → Marks vs ws x y
  later : (zs : List Spot) → vs ≡ (ws ++ y ∷ []) ++ zs → Marks vs ws x y

marks_more : (a : Spot) (vs ws : List Spot) (x y : Spot) → Marks vs ws x y → Marks (a ∷ vs) (a ∷ ws) x y
marks_more a vs ws x y (same_mark e f) = same_mark (ap (λ l. a ∷ l) e) f
marks_more a vs ws x y (sooner zs e) = sooner zs (ap (λ l. a ∷ l) e)
marks_more a vs ws x y (later zs e) = later zs (ap (λ l. a ∷ l) e)

pub marks : (vs ws us zs : List Spot) (x y : Spot) → vs ++ x ∷ us ≡ ws ++ y ∷ zs → Marks vs ws x y
marks [] [] us zs x y e = same_mark refl (cc e)
marks [] (b ∷ ws) us zs x y e = let m : x ≡ b = cc e in sooner ws (ap (λ a. a ∷ ws) (sym m))
marks (a ∷ vs) [] us zs x y e = let m : a ≡ y = cc e in later vs (ap (λ b. b ∷ vs) m)
marks (a ∷ vs) (b ∷ ws) us zs x y e =
    let m : a ≡ b = cc e in
    let rest : vs ++ x ∷ us ≡ ws ++ y ∷ zs = cc e in
    subst (λ c. Marks (a ∷ vs) (c ∷ ws) x y) m (marks_more a vs ws x y (marks vs ws us zs x y rest))

-- A mark in two lists, one behind the other, is in the first or in the second.
pub data Side (pre ts vs us : List Spot) (x : Spot) : Type 0 where
  in_front : (zs : List Spot) → pre ≡ (vs ++ x ∷ []) ++ zs → Side pre ts vs us x
  in_rest : (zs : List Spot) → vs ≡ pre ++ zs → ts ≡ zs ++ x ∷ us → Side pre ts vs us x

side_more : (a : Spot) (pre ts vs us : List Spot) (x : Spot) → Side pre ts vs us x → Side (a ∷ pre) ts (a ∷ vs) us x
side_more a pre ts vs us x (in_front zs e) = in_front zs (ap (λ l. a ∷ l) e)
side_more a pre ts vs us x (in_rest zs e f) = in_rest zs (ap (λ l. a ∷ l) e) f

pub side : (pre ts vs us : List Spot) (x : Spot) → pre ++ ts ≡ vs ++ x ∷ us → Side pre ts vs us x
side [] ts vs us x e = in_rest vs refl e
side (a ∷ pre) ts [] us x e = let m : a ≡ x = cc e in in_front pre (ap (λ b. b ∷ pre) m)
side (a ∷ pre) ts (b ∷ vs) us x e =
    let m : a ≡ b = cc e in
    let rest : pre ++ ts ≡ vs ++ x ∷ us = cc e in
    subst (λ c. Side (a ∷ pre) ts (c ∷ vs) us x) m (side_more a pre ts vs us x (side pre ts vs us x rest))

-- A front of tokens that can go on can.
pub front_goes : (Is : List Spot → Type 0) (vs ws : List Spot) → CanGoOn Is (vs ++ ws) → CanGoOn Is vs
front_goes Is vs ws (us, d) = (ws ++ us, subst Is (append_assoc vs ws us) d)
