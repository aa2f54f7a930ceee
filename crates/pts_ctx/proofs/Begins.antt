-- The test of a prefix, from a place on, and that it decides.
use Rattle.std.proofs.Common.{◌≡◌, ℕ, zero, suc, ◌+◌, ◌<◌, ◌≤◌, ◌&&◌, Bool, true, false, nat_eq, List, [], ◌∷◌, ◌++◌, length, drop, slice_get, Option, Some, None, refl, sym, ap, ◌∙◌, arith}
use Rattle.std.proofs.Math.Seq.{drop-nil}
use Rattle.pts_names.specs.Name.{Name, same_name}
use Rattle.pts_names.proofs.Same.{same_name-true, same_name-self}
use Rattle.pts_terms.specs.Tree.{Named}
use Rattle.pts_terms.specs.Exact.{same_named}
use Rattle.pts_terms.proofs.Exact.{same_named-true, same_named-self}
use Rattle.pts_ctx.specs.Front.{Global}
use Rattle.pts_ctx.specs.Seen.{IsPrefix}
use Rattle.pts_ctx.specs.Prefix.{begins, same_body, same_global, same_label}
use Rattle.pts_ctx.proofs.Parts.{drop-at, drop-past}

module _ {A : Type 0} (same : A → A → Bool) (xs ys : List A) (i : ℕ) where
  pub begins-past : (x : A) → slice_get xs i ≡ Some x → slice_get ys i ≡ None → begins same (drop i xs) (drop i ys) ≡ false
  begins-past x at past = λ j. begins same (drop-at xs i x at j) (drop-past ys i past j)

  pub begins-step : (x y : A) → slice_get xs i ≡ Some x → slice_get ys i ≡ Some y → begins same (drop i xs) (drop i ys) ≡ (same x y && begins same (drop (i + 1) xs) (drop (i + 1) ys))
  begins-step x y at there = λ j. begins same (drop-at xs i x at j) (drop-at ys i y there j)

-- A list that goes on where another has ended is no prefix of it.
pub begins-short : {A : Type 0} (same : A → A → Bool) (xs ys : List A) (i : ℕ) → i < length xs → length ys ≤ i → begins same (drop i xs) (drop i ys) ≡ false
begins-short same [] ys i inside past = absurd (omega arith)
begins-short same (x ∷ xs) [] zero inside past = refl
begins-short same (x ∷ xs) [] (suc i) inside past =
    ap (begins same (drop i xs)) (sym (drop-nil i)) ∙ begins-short same xs [] i (omega arith) (omega arith)
begins-short same (x ∷ xs) (y ∷ ys) zero inside past = absurd (omega arith)
begins-short same (x ∷ xs) (y ∷ ys) (suc i) inside past = begins-short same xs ys i (omega arith) (omega arith)

both : (a b : Bool) → (a && b) ≡ true → (a ≡ true) × (b ≡ true)
both a b h = grind arith

module _ {A : Type 0} (same : A → A → Bool) (equal : (x y : A) → same x y ≡ true → x ≡ y) (itself : (x : A) → same x x ≡ true) where
  pub prefix_from_begins : (xs ys : List A) → begins same xs ys ≡ true → IsPrefix xs ys
  prefix_from_begins [] ys h = (ys, refl)
  prefix_from_begins (x ∷ xs) [] h = absurd (cc h)
  prefix_from_begins (x ∷ xs) (y ∷ ys) h =
      let (p, q) = both (same x y) (begins same xs ys) h in
      let rest = prefix_from_begins xs ys q in
      (rest.0, λ j. equal x y p j ∷ rest.1 j)

  begins-longer : (xs zs : List A) → begins same xs (xs ++ zs) ≡ true
  begins-longer [] zs = refl
  begins-longer (x ∷ xs) zs = λ j. itself x j && begins-longer xs zs j

  pub begins_from_prefix : (xs ys : List A) → IsPrefix xs ys → begins same xs ys ≡ true
  begins_from_prefix xs ys h = ap (begins same xs) (sym h.1) ∙ begins-longer xs h.0

three : (a b c : Bool) → (a && (b && c)) ≡ true → (a ≡ true) × (b ≡ true) × (c ≡ true)
three a b c h = grind arith

same_body-true : (a b : Option Named) → same_body a b ≡ true → a ≡ b
same_body-true None None h = refl
same_body-true (Some a) (Some b) h = ap Some (same_named-true a b h)
same_body-true None (Some b) h = absurd (cc h)
same_body-true (Some a) None h = absurd (cc h)

same_body-self : (a : Option Named) → same_body a a ≡ true
same_body-self None = refl
same_body-self (Some a) = same_named-self a

pub same_global-true : (e f : Global Name) → same_global e f ≡ true → e ≡ f
same_global-true e f h =
    let (p, q, r) = three (same_name e.name f.name) (same_body e.body f.body) (same_named e.type f.type) h in
    λ j. record { name = same_name-true e.name f.name p j; body = same_body-true e.body f.body q j; type = same_named-true e.type f.type r j }

pub same_global-self : (e : Global Name) → same_global e e ≡ true
same_global-self e = λ j. same_name-self e.name j && (same_body-self e.body j && same_named-self e.type j)

pub same_label-true : (l m : Name × ℕ) → same_label l m ≡ true → l ≡ m
same_label-true l m h =
    let (p, q) = both (same_name l.0 m.0) (nat_eq l.1 m.1) h in
    let n : l.1 ≡ m.1 = grind arith in
    λ j. (same_name-true l.0 m.0 p j, n j)

nat_eq-self : (n : ℕ) → nat_eq n n ≡ true
nat_eq-self n = grind arith

pub same_label-self : (l : Name × ℕ) → same_label l l ≡ true
same_label-self l = λ j. same_name-self l.0 j && nat_eq-self l.1 j
