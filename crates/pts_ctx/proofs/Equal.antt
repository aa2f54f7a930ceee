-- When two systems are the same, by their tables.
use Rattle.std.proofs.Common.{◌≡◌, ℕ, suc, ◌+◌, ◌*◌, ◌/◌, ◌%◌, ◌<◌, ◌&&◌, Bool, true, cond, nat_eq, List, [], ◌∷◌, length, Option, Some, None, refl, sym, ap, ◌∙◌, arith, lt-ltb}
use Rattle.std.specs.Option.{option_eq, option_map}
use Rattle.std.specs.Cmp.Lexicographic.{pointwise, same_text}
use Rattle.pts_names.proofs.Same.{same_name-pointwise, same_name-self}
use Rattle.pts_terms.specs.declared.term.Sort.{Sort}
use Rattle.pts_ctx.specs.System.{Specification, axiom_of, rule_of, SameSystem}
use Rattle.pts_ctx.specs.Tables.{table_at, square_at, TableOf, SquareOf}

both : (a b : Bool) → (a && b) ≡ true → (a ≡ true) × (b ≡ true)
both a b h = grind arith

module _ {A : Type 0} (E : A → A → Bool) (equal : (x y : A) → E x y ≡ true → x ≡ y) (itself : (x : A) → E x x ≡ true) where
  lists_equal : (xs ys : List A) → pointwise E xs ys ≡ true → xs ≡ ys
  lists_equal [] [] h = refl
  lists_equal [] (y ∷ ys) h = absurd (cc h)
  lists_equal (x ∷ xs) [] h = absurd (cc h)
  lists_equal (x ∷ xs) (y ∷ ys) h =
      let (p, q) = both (E x y) (pointwise E xs ys) h in
      λ j. equal x y p j ∷ lists_equal xs ys q j

  list_itself : (xs : List A) → pointwise E xs xs ≡ true
  list_itself [] = refl
  list_itself (x ∷ xs) = λ j. itself x j && list_itself xs j

  pub decides : (xs ys : List A) (b : Bool) → b ≡ pointwise E xs ys → (b ≡ true → xs ≡ ys) × (xs ≡ ys → b ≡ true)
  decides xs ys b e = (λ h. lists_equal xs ys (sym e ∙ h), λ h. e ∙ (ap (pointwise E xs) (sym h) ∙ list_itself xs))

pub text_equal : (x y : List ℕ) → pointwise nat_eq x y ≡ true → x ≡ y
text_equal x y h = same_text x y (sym h)

pub text_itself : (x : List ℕ) → pointwise nat_eq x x ≡ true
text_itself x = sym (same_name-pointwise x x) ∙ same_name-self x

abbrev pub same_sort : Sort → Sort → Bool
same_sort s r = nat_eq s.0 r.0

sort_equal : (s r : Sort) → same_sort s r ≡ true → s ≡ r
sort_equal s r h =
    let e : s.0 ≡ r.0 = grind (arith, h) in
    λ j. record { 0 = e j }

pub entry_equal : (a b : Option Sort) → option_eq same_sort a b ≡ true → a ≡ b
entry_equal None None h = refl
entry_equal (Some s) (Some r) h = ap Some (sort_equal s r h)
entry_equal None (Some r) h = absurd (cc h)
entry_equal (Some s) None h = absurd (cc h)

pub entry_itself : (a : Option Sort) → option_eq same_sort a a ≡ true
entry_itself None = refl
entry_itself (Some s) = grind arith

place_equal : (a b : Option Sort) → option_map (λ (s : Sort). s.0) a ≡ option_map (λ (s : Sort). s.0) b → a ≡ b
place_equal None None h = refl
place_equal (Some s) (Some r) h =
    let e : s.0 ≡ r.0 = cc h in
    λ j. Some (record { 0 = e j })
place_equal None (Some r) h = absurd (cc h)
place_equal (Some s) None h = absurd (cc h)

-- Two tables of one length that say the same are one.
tables_equal : (R Q : List (Option Sort)) → length R ≡ length Q → ((k : ℕ) → table_at R k ≡ table_at Q k) → R ≡ Q
tables_equal [] [] size same = refl
tables_equal [] (q ∷ Q) size same = absurd (grind (arith, size))
tables_equal (r ∷ R) [] size same = absurd (grind (arith, size))
tables_equal (r ∷ R) (q ∷ Q) size same =
    let tail : length R ≡ length Q = grind (arith, size) in
    λ j. place_equal r q (same 0) j ∷ tables_equal R Q tail (λ k. same (suc k)) j

square-at : (R : List (Option Sort)) (k : ℕ) → table_at R k ≡ square_at R (k / 64) (k % 64)
square-at R k =
    let small : k % 64 < 64 = omega arith in
    let whole : k ≡ 64 * (k / 64) + k % 64 = omega arith in
    ap (table_at R) whole ∙ sym (ap (λ b. cond b (table_at R (64 * (k / 64) + k % 64)) None) (lt-ltb (k % 64) 64 small))

-- The tables of a system.
pub record Tabled (S : Specification) (R Q : List (Option Sort)) : Type 0 where
  pub axioms : TableOf R S.axioms
  pub rules : SquareOf Q S.rules
  pub size : length R ≡ length S.sorts
  pub area : length Q ≡ 64 * length S.sorts

module _ (S T : Specification) (R Q V W : List (Option Sort)) (one : Tabled S R Q) (other : Tabled T V W) where
  pub same_from_tables : S.sorts ≡ T.sorts → R ≡ V → Q ≡ W → SameSystem S T
  unfolding axiom_of rule_of
  same_from_tables sorts axioms rules = (
    sorts,
    λ s. sym (one.axioms s) ∙ (ap (λ X. table_at X s) axioms ∙ other.axioms s),
    λ s r. sym (one.rules s r) ∙ (ap (λ X. square_at X s r) rules ∙ other.rules s r),
  )

  pub axioms_from_same : SameSystem S T → R ≡ V
  unfolding axiom_of
  axioms_from_same same = tables_equal R V (one.size ∙ (ap length same.0 ∙ sym other.size)) (λ s. one.axioms s ∙ (same.1 s ∙ sym (other.axioms s)))

  pub rules_from_same : SameSystem S T → Q ≡ W
  unfolding rule_of
  rules_from_same same =
      tables_equal Q W (one.area ∙ (ap (λ sorts. 64 * length sorts) same.0 ∙ sym other.area)) (λ k.
      square-at Q k ∙ (one.rules (k / 64) (k % 64) ∙ (same.2 (k / 64) (k % 64) ∙ (sym (other.rules (k / 64) (k % 64)) ∙ sym (square-at W k)))))
