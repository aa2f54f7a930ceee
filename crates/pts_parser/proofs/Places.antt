-- Binders with the innermost first.
use Rattle.std.proofs.Common.{◌≡◌, refl, sym, ◌∙◌, ap, ℕ, suc, ◌+◌, ◌-◌, ◌<◌, ◌≤◌, List, [], ◌∷◌, ◌++◌, true, false, ◌&&◌, cond, Option, Some, None, option_map, length, take, get_or, reverse, arith}
use Rattle.std.proofs.lemmas.List.{reverse-append, take_all}
use Rattle.std.proofs.Math.Seq.{take-suc}
use Rattle.pts_names.specs.Name.{Name, same_name}
use Rattle.pts_parser.specs.Resolution.{place_of}

pub reverse_more : {A : Type 0} (fs : List A) (f : A) → reverse (fs ++ f ∷ []) ≡ f ∷ reverse fs
reverse_more fs f = reverse-append fs (f ∷ [])

-- A place behind n names that were passed.
abbrev pub behind : ℕ → Option ℕ → Option ℕ
behind n None = None
behind n (Some i) = Some (n + i)

pub behind_none : (o : Option ℕ) → behind 0 o ≡ o
behind_none None = refl
behind_none (Some i) = let e : 0 + i ≡ i = omega arith in ap Some e

behind_one : (n : ℕ) (o : Option ℕ) → behind n (option_map suc o) ≡ behind (suc n) o
behind_one n None = refl
behind_one n (Some i) = let e : n + suc i ≡ suc n + i = omega arith in ap Some e

-- The last of the first names is the one, or it is passed.
last_of : (names : List Name) (left : ℕ) (d : Name) → left < length names → reverse (take (suc left) names) ≡ get_or names left d ∷ reverse (take left names)
last_of names left d inside = ap reverse (take-suc names left d inside) ∙ reverse_more (take left names) (get_or names left d)

pub found_last : (names : List Name) (x : Name) (left n : ℕ) (d : Name) → left < length names → same_name x (get_or names left d) ≡ true → behind n (place_of x (reverse (take (suc left) names))) ≡ Some n
found_last names x left n d inside e =
    ap (λ L. behind n (place_of x L)) (last_of names left d inside)
    ∙ (ap (λ b. behind n (cond b (Some 0) (option_map suc (place_of x (reverse (take left names)))))) e
    ∙ (let z : n + 0 ≡ n = omega arith in ap Some z))

pub passed_last : (names : List Name) (x : Name) (left n : ℕ) (d : Name) → left < length names → same_name x (get_or names left d) ≡ false → behind n (place_of x (reverse (take (suc left) names))) ≡ behind (suc n) (place_of x (reverse (take left names)))
passed_last names x left n d inside e =
    ap (λ L. behind n (place_of x L)) (last_of names left d inside)
    ∙ (ap (λ b. behind n (cond b (Some 0) (option_map suc (place_of x (reverse (take left names)))))) e
    ∙ behind_one n (place_of x (reverse (take left names))))

-- The loop from the end: found, passed, begun and ended.
pub loop_finds : (names : List Name) (x : Name) (left : ℕ) (d : Name) → 0 < left → left ≤ length names → d ≡ get_or names (left - 1) d → same_name x d ≡ true → behind (length names - left) (place_of x (reverse (take left names))) ≡ place_of x (reverse names) → Some (length names - 1 - (left - 1)) ≡ place_of x (reverse names)
loop_finds names x left d some inside here e same =
    let whole : suc (left - 1) ≡ left = omega arith in
    let place : length names - 1 - (left - 1) ≡ length names - left = omega arith in
    let strict : left - 1 < length names = omega arith in
    ap Some place
    ∙ (sym (found_last names x (left - 1) (length names - left) d strict (ap (same_name x) (sym here) ∙ e))
    ∙ (ap (λ n. behind (length names - left) (place_of x (reverse (take n names)))) whole ∙ same))

pub loop_passes : (names : List Name) (x : Name) (left : ℕ) (d : Name) → 0 < left → left ≤ length names → d ≡ get_or names (left - 1) d → same_name x d ≡ false → behind (length names - left) (place_of x (reverse (take left names))) ≡ place_of x (reverse names) → behind (length names - (left - 1)) (place_of x (reverse (take (left - 1) names))) ≡ place_of x (reverse names)
loop_passes names x left d some inside here e same =
    let whole : suc (left - 1) ≡ left = omega arith in
    let next : length names - (left - 1) ≡ suc (length names - left) = omega arith in
    let strict : left - 1 < length names = omega arith in
    ap (λ n. behind n (place_of x (reverse (take (left - 1) names)))) next
    ∙ (sym (passed_last names x (left - 1) (length names - left) d strict (ap (same_name x) (sym here) ∙ e))
    ∙ (ap (λ n. behind (length names - left) (place_of x (reverse (take n names)))) whole ∙ same))

pub loop_begins : (names : List Name) (x : Name) → behind (length names - length names) (place_of x (reverse (take (length names) names))) ≡ place_of x (reverse names)
loop_begins names x =
    let none : length names - length names ≡ 0 = omega arith in
    ap (λ n. behind n (place_of x (reverse (take (length names) names)))) none
    ∙ (behind_none _ ∙ ap (λ L. place_of x (reverse L)) (take_all (length names) names (omega arith)))

pub loop_ends : (names : List Name) (x : Name) (left n : ℕ) → left ≤ 0 → behind n (place_of x (reverse (take left names))) ≡ place_of x (reverse names) → None ≡ place_of x (reverse names)
loop_ends names x left n none same =
    let e : left ≡ 0 = omega arith in
    ap (λ m. behind n (place_of x (reverse (take m names)))) (sym e) ∙ same
