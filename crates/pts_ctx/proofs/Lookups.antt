-- Look-ups in a front by the places of its names.
use Rattle.std.proofs.Common.{take, drop, ◌+◌, subst, ◌≡◌, ℕ, zero, suc, ◌&&◌, ◌||◌, IfSome, Bool, true, false, if◌then◌else◌, nat_eq, List, [], ◌∷◌, ◌++◌, map, length, position, slice_get, Option, Some, None, refl, sym, ap, ◌∙◌, arith}
use Rattle.std.specs.List.{list_any}
use Rattle.std.specs.Option.{option_map, option_and_then}
use Rattle.std.specs.Cmp.Lexicographic.{pointwise}
use Rattle.pts_names.specs.Name.{Name, same_name}
use Rattle.pts_ctx.specs.Front.{Global, Fresh, find}
use Rattle.pts_ctx.specs.Seen.{place_of, NamesDiffer, global_within, globals_within}
use Rattle.pts_names.proofs.Same.{same_name-pointwise, same_name-true}
use Rattle.std.proofs.lemmas.List.{append_assoc}
use Rattle.pts_ctx.proofs.Parts.{around}
use Rattle.pts_ctx.proofs.Positions.{position-step, position-map, position-alike}

pub same_name-sym : (x y : Name) → same_name x y ≡ same_name y x
same_name-sym [] [] = refl
same_name-sym [] (c ∷ y) = refl
same_name-sym (b ∷ x) [] = refl
same_name-sym (b ∷ x) (c ∷ y) = grind (arith, same_name-sym x y)

-- The index of names finds the place of an entry.
pub place-keys : (x : Name) (G : List (Global Name)) → position (pointwise nat_eq x) (map (λ e. e.name) G) ≡ place_of x G
place-keys x G =
    position-map (pointwise nat_eq x) (λ e. e.name) G
    ∙ position-alike (λ e. pointwise nat_eq x e.name) (λ e. same_name x e.name) (λ e. sym (same_name-pointwise x e.name)) G

-- The entry of a name is the one at its place.
pub find-place : {B : Type 0} (x : Name) (G : List (Global B)) → find x G ≡ option_and_then (slice_get G) (place_of x G)
unfolding find
find-place x [] = refl
find-place x (e ∷ G) =
    ap (λ r. if same_name x e.name then Some e else r) (find-place x G)
    ∙ (by (same_name x e.name) (place_of x G) ∙ ap (option_and_then (slice_get (e ∷ G))) (sym (position-step (λ d. same_name x d.name) e G)))
  where
    by : (b : Bool) (r : Option ℕ) → (if b then Some e else option_and_then (slice_get G) r) ≡ option_and_then (slice_get (e ∷ G)) (if b then Some 0 else option_map suc r)
    by true r = refl
    by false None = refl
    by false (Some p) = refl

pub find-at : {B : Type 0} (x : Name) (G : List (Global B)) (p : ℕ) → place_of x G ≡ Some p → find x G ≡ slice_get G p
find-at x G p at = find-place x G ∙ ap (option_and_then (slice_get G)) at

pub find-none : {B : Type 0} (x : Name) (G : List (Global B)) → place_of x G ≡ None → find x G ≡ None
find-none x G at = find-place x G ∙ ap (option_and_then (slice_get G)) at

pub find-some : {B : Type 0} (x : Name) (G : List (Global B)) (r : Option ℕ) → r ≡ place_of x G → IfSome r (λ k. slice_get G k ≡ find x G)
find-some x G None at = tt
find-some x G (Some k) at = sym (find-at x G k (sym at))

-- A fresh name has no place.
pub place-fresh : {B : Type 0} (x : Name) (G : List (Global B)) → Fresh x G → place_of x G ≡ None
unfolding find
place-fresh x [] fresh = refl
place-fresh x (e ∷ G) fresh = position-step (λ d. same_name x d.name) e G ∙ by (same_name x e.name) fresh (λ h. place-fresh x G h)
  where
    by : (b : Bool) → (if b then Some e else find x G) ≡ None → (Fresh x G → place_of x G ≡ None) → (if b then Some 0 else option_map suc (place_of x G)) ≡ None
    by true h rest = absurd (cc h)
    by false h rest = ap (option_map suc) (rest h)

-- A fresh name is not in the index of names.
pub list_any-fresh : (x : Name) (G : List (Global Name)) → Fresh x G → list_any (pointwise nat_eq x) (map (λ e. e.name) G) ≡ false
unfolding find
list_any-fresh x [] fresh = refl
list_any-fresh x (e ∷ G) fresh = by (same_name x e.name) refl fresh (list_any-fresh x G)
  where
    by : (b : Bool) → same_name x e.name ≡ b → (if b then Some e else find x G) ≡ None
        → (Fresh x G → list_any (pointwise nat_eq x) (map (λ d. d.name) G) ≡ false)
        → (pointwise nat_eq x e.name || list_any (pointwise nat_eq x) (map (λ d. d.name) G)) ≡ false
    by true same h rest = absurd (cc h)
    by false same h rest = ap (λ b. b || list_any (pointwise nat_eq x) (map (λ d. d.name) G)) (sym (same_name-pointwise x e.name) ∙ same) ∙ rest h

-- What is fresh stays so behind an entry of another name.
pub fresh-behind : {B : Type 0} (x : Name) (G : List (Global B)) (e : Global B) → Fresh x G → same_name x e.name ≡ false → Fresh x (G ++ e ∷ [])
unfolding find
fresh-behind x [] e fresh other = ap (λ b. if b then Some e else None) other
fresh-behind x (d ∷ G) e fresh other = by (same_name x d.name) fresh (λ h. fresh-behind x G e h other)
  where
    by : (b : Bool) → (if b then Some d else find x G) ≡ None → (Fresh x G → find x (G ++ e ∷ []) ≡ None) → (if b then Some d else find x (G ++ e ∷ [])) ≡ None
    by true h rest = absurd (cc h)
    by false h rest = rest h

-- A fresh name differs from the first entry's, and is fresh in the others.
pub fresh-front : {B : Type 0} (x : Name) (d : Global B) (G : List (Global B)) → Fresh x (d ∷ G) → (same_name x d.name ≡ false) × Fresh x G
unfolding find
fresh-front x d G fresh = by (same_name x d.name) refl fresh
  where
    by : (b : Bool) → same_name x d.name ≡ b → (if b then Some d else find x G) ≡ None → (same_name x d.name ≡ false) × Fresh x G
    by true same h = absurd (cc h)
    by false same h = (same, h)

pub differ-behind : {B : Type 0} (G : List (Global B)) (e : Global B) → NamesDiffer G → Fresh e.name G → NamesDiffer (G ++ e ∷ [])
unfolding find
differ-behind [] e differ fresh = (refl, tt)
differ-behind (d ∷ G) e differ fresh =
    let f = fresh-front e.name d G fresh in
    (fresh-behind d.name G e differ.0 (same_name-sym d.name e.name ∙ f.0), differ-behind G e differ.1 f.1)

pub within-behind : {B : Type 0} (G : List (Global B)) (e : Global B) → globals_within G ≡ true → global_within e ≡ true → globals_within (G ++ e ∷ []) ≡ true
within-behind [] e all one = ap (λ b. b && true) one
within-behind (d ∷ G) e all one = by (global_within d) all (λ h. within-behind G e h one)
  where
    by : (b : Bool) → (b && globals_within G) ≡ true → (globals_within G ≡ true → globals_within (G ++ e ∷ []) ≡ true) → (b && globals_within (G ++ e ∷ [])) ≡ true
    by true h rest = rest h
    by false h rest = absurd (cc h)

both : (a b : Bool) → (a && b) ≡ true → (a ≡ true) × (b ≡ true)
both true b h = (refl, h)
both false b h = absurd (cc h)

-- Each entry of a front within limits is within limits.
pub within-at : (G : List (Global Name)) (k : ℕ) (e : Global Name) → slice_get G k ≡ Some e → globals_within G ≡ true → global_within e ≡ true
within-at [] k e at all = absurd (cc at)
within-at (d ∷ G) zero e at all =
    let same : d ≡ e = cc at in
    ap global_within (sym same) ∙ (both (global_within d) (globals_within G) all).0
within-at (d ∷ G) (suc k) e at all = within-at G k e at (both (global_within d) (globals_within G) all).1

-- A name that stands behind others, all of which differ, is fresh among those.
fresh-apart : {B : Type 0} (x : Name) (G H : List (Global B)) (e : Global B) → Fresh x (G ++ e ∷ H) → same_name x e.name ≡ false
fresh-apart x [] H e fresh = (fresh-front x e H fresh).0
fresh-apart x (d ∷ G) H e fresh = fresh-apart x G H e (fresh-front x d (G ++ e ∷ H) fresh).1

fresh-between : {B : Type 0} (G H : List (Global B)) (e : Global B) → NamesDiffer (G ++ e ∷ H) → Fresh e.name G
unfolding find
fresh-between [] H e differ = refl
fresh-between (d ∷ G) H e differ =
    ap (λ b. if b then Some d else find e.name G) (same_name-sym e.name d.name ∙ fresh-apart d.name G H e differ.0)
    ∙ fresh-between G H e differ.1

-- An entry's name is fresh among those before it, where others stand before them all.
pub fresh-before : (A G : List (Global Name)) (i : ℕ) (e : Global Name) → slice_get G i ≡ Some e → NamesDiffer (A ++ G) → Fresh e.name (A ++ take i G)
fresh-before A G i e at differ =
    let whole : A ++ G ≡ (A ++ take i G) ++ e ∷ drop (i + 1) G =
    ap (λ es. A ++ es) (sym (around G i e at)) ∙ sym (append_assoc A (take i G) (e ∷ drop (i + 1) G)) in
    fresh-between (A ++ take i G) (drop (i + 1) G) e (subst NamesDiffer whole differ)

fresh-part : {B : Type 0} (x : Name) (G H : List (Global B)) → Fresh x (G ++ H) → Fresh x G
unfolding find
fresh-part x [] H fresh = refl
fresh-part x (d ∷ G) H fresh = by (same_name x d.name) fresh (fresh-part x G H)
  where
    by : (b : Bool) → (if b then Some d else find x (G ++ H)) ≡ None → (Fresh x (G ++ H) → Fresh x G) → (if b then Some d else find x G) ≡ None
    by true h rest = absurd (cc h)
    by false h rest = rest h

pub fresh-right : {B : Type 0} (x : Name) (G H : List (Global B)) → Fresh x (G ++ H) → Fresh x H
fresh-right x [] H fresh = fresh
fresh-right x (d ∷ G) H fresh = fresh-right x G H (fresh-front x d (G ++ H) fresh).1

-- Where the names of a list differ, those of its parts do.
pub differ-left : {B : Type 0} (G H : List (Global B)) → NamesDiffer (G ++ H) → NamesDiffer G
differ-left [] H differ = tt
differ-left (e ∷ G) H differ = (fresh-part e.name G H differ.0, differ-left G H differ.1)

pub differ-right : {B : Type 0} (G H : List (Global B)) → NamesDiffer (G ++ H) → NamesDiffer H
differ-right [] H differ = differ
differ-right (e ∷ G) H differ = differ-right G H differ.1

pub within-left : (G H : List (Global Name)) → globals_within (G ++ H) ≡ true → globals_within G ≡ true
within-left [] H all = refl
within-left (e ∷ G) H all =
    let (here, rest) = both (global_within e) (globals_within (G ++ H)) all in
    λ j. here j && within-left G H rest j

pub within-right : (G H : List (Global Name)) → globals_within (G ++ H) ≡ true → globals_within H ≡ true
within-right [] H all = all
within-right (e ∷ G) H all = within-right G H (both (global_within e) (globals_within (G ++ H)) all).1

pub within-both : (G H : List (Global Name)) → globals_within G ≡ true → globals_within H ≡ true → globals_within (G ++ H) ≡ true
within-both [] H left right = right
within-both (e ∷ G) H left right =
    let (here, rest) = both (global_within e) (globals_within G) left in
    λ j. here j && within-both G H rest right j

zero-plus : (n : ℕ) → n ≡ 0 + n
zero-plus n = omega arith

suc-plus : (m n : ℕ) → suc (m + n) ≡ suc m + n
suc-plus m n = omega arith

-- The place of a name in two lists, one behind the other: its place in the second, where it has one, and else in the first.
pub place-right : {B : Type 0} (x : Name) (G H : List (Global B)) (p : ℕ) → NamesDiffer (G ++ H) → place_of x H ≡ Some p → place_of x (G ++ H) ≡ Some (length G + p)
place-right x [] H p differ at = at ∙ ap Some (zero-plus p)
place-right x (e ∷ G) H p differ at =
    let further : place_of x (G ++ H) ≡ Some (length G + p) = place-right x G H p differ.1 at in
    position-step (λ d. same_name x d.name) e (G ++ H)
    ∙ (ap (λ b. if b then Some 0 else option_map suc (place_of x (G ++ H))) (other (same_name x e.name) refl further) ∙ (ap (option_map suc) further ∙ ap Some (suc-plus (length G) p)))
  where
    other : (b : Bool) → same_name x e.name ≡ b → place_of x (G ++ H) ≡ Some (length G + p) → b ≡ false
    other false same further = refl
    other true same further =
        let name : x ≡ e.name = same_name-true x e.name same in
        absurd (cc (sym further ∙ (ap (λ y. place_of y (G ++ H)) name ∙ place-fresh e.name (G ++ H) differ.0)))

pub place-left : {B : Type 0} (x : Name) (G H : List (Global B)) → place_of x H ≡ None → place_of x (G ++ H) ≡ place_of x G
place-left x [] H none = none
place-left x (e ∷ G) H none =
    position-step (λ d. same_name x d.name) e (G ++ H)
    ∙ (ap (λ r. if same_name x e.name then Some 0 else option_map suc r) (place-left x G H none) ∙ sym (position-step (λ d. same_name x d.name) e G))
