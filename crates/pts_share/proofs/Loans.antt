-- Lists that have one number are the same, and so are loans.
use Rattle.std.proofs.Common.{◌≡◌, ◌<◌, ◌*◌, ◌+◌, ℕ, zero, suc, List, [], ◌∷◌, refl, ap, subst, arith}
use Rattle.atomic_table.specs.Seated.{TableId}
use Rattle.pts_share.specs.Loans.{doubled, number_of, loans}

doubled_odd : (n a : ℕ) → 0 < doubled n (2 * a + 1)
doubled_odd zero a = omega arith
doubled_odd (suc n) a = let h = doubled_odd n a in omega arith

-- An odd number that was doubled is known, and how often.
doubled_same : (n m a b : ℕ) → doubled n (2 * a + 1) ≡ doubled m (2 * b + 1) → (n ≡ m) × (a ≡ b)
doubled_same zero zero a b e = (refl, omega arith)
doubled_same zero (suc m) a b e = absurd (odd_even a (doubled m (2 * b + 1)) e)
  where
    odd_even : (x y : ℕ) → 2 * x + 1 ≡ 2 * y → ⊥
    odd_even x y h = omega arith
doubled_same (suc n) zero a b e = absurd (even_odd (doubled n (2 * a + 1)) b e)
  where
    even_odd : (x y : ℕ) → 2 * x ≡ 2 * y + 1 → ⊥
    even_odd x y h = omega arith
doubled_same (suc n) (suc m) a b e = let r = doubled_same n m a b (halved (doubled n (2 * a + 1)) (doubled m (2 * b + 1)) e) in (ap suc r.0, r.1)
  where
    halved : (x y : ℕ) → 2 * x ≡ 2 * y → x ≡ y
    halved x y h = omega arith

number_same : (ns ms : List ℕ) → number_of ns ≡ number_of ms → ns ≡ ms
number_same [] [] e = refl
number_same [] (m ∷ ms) e = absurd (none (doubled m (2 * number_of ms + 1)) e (doubled_odd m (number_of ms)))
  where
    none : (x : ℕ) → 0 ≡ x → 0 < x → ⊥
    none x h p = omega arith
number_same (n ∷ ns) [] e = absurd (none (doubled n (2 * number_of ns + 1)) e (doubled_odd n (number_of ns)))
  where
    none : (x : ℕ) → x ≡ 0 → 0 < x → ⊥
    none x h p = omega arith
number_same (n ∷ ns) (m ∷ ms) e =
    let r = doubled_same n m (number_of ns) (number_of ms) e in
    let rest = number_same ns ms r.1 in
    subst (λ k. n ∷ ns ≡ k ∷ ms) r.0 (ap (λ l. n ∷ l) rest)

-- What a list of numbers says of loans.
name_in : List ℕ → ℕ
name_in [] = 0
name_in (n ∷ ns) = n

table_in : List ℕ → TableId
table_in (n ∷ w ∷ s ∷ v ∷ a ∷ b ∷ o ∷ ns) = record { words = w; slots = s; views_name = v; atom = a; block = b; offset = o; slot_names = ns }
table_in ns = record { words = 0; slots = 0; views_name = 0; atom = 0; block = 0; offset = 0; slot_names = [] }

pub loans_differ : (n m : ℕ) (t u : TableId) → loans n t ≡ loans m u → (n ≡ m) × (t ≡ u)
unfolding name_in table_in
loans_differ n m t u e =
    let l = number_same (n ∷ t.words ∷ t.slots ∷ t.views_name ∷ t.atom ∷ t.block ∷ t.offset ∷ t.slot_names) (m ∷ u.words ∷ u.slots ∷ u.views_name ∷ u.atom ∷ u.block ∷ u.offset ∷ u.slot_names) e in
    (ap name_in l, ap table_in l)
