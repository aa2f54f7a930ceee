-- The least pair of lines that clash, when one more line comes behind the others.
use Rattle.std.proofs.Common.{◌≡◌, ℕ, suc, ◌+◌, ◌≤◌, ◌&&◌, Bool, true, false, not, if◌then◌else◌, nat_eq, List, [], ◌∷◌, ◌++◌, length, position, Option, Some, None, refl, sym, ap, ◌∙◌, arith, lt-ltb, le-ltb}
use Rattle.std.specs.Option.{option_map, option_or}
use Rattle.pts_ctx.specs.System.{axiom_among, first_pair}
use Rattle.pts_ctx.specs.Firsts.{lines_clash, first_place, earlier}
use Rattle.pts_ctx.proofs.Positions.{position-step, position-behind, position-alike}

-- What is known after a pair, if there is one, that may be earlier.
abbrev pub after : Option (ℕ × ℕ) → Option (ℕ × ℕ) → Option (ℕ × ℕ)
after known None = known
after known (Some pair) = Some (earlier known pair)

-- The pair of places of an item behind place k, if there is one, and of the one at place m.
abbrev pub paired : ℕ → ℕ → Option ℕ → Option (ℕ × ℕ)
paired k m r = option_map (λ d. (k + d, m)) r

-- A pair that doesn't begin before the known one changes nothing.
after-kept : (k m n : ℕ) (r : Option ℕ) → after (Some (k, n)) (paired k m r) ≡ Some (k, n)
after-kept k m n None = refl
after-kept k m n (Some d) = ap (λ b. Some (if b then (k + d, m) else (k, n))) (le-ltb (k + d) k (omega arith))

paired-suc : (k m : ℕ) (r : Option ℕ) → paired (k + 1) m r ≡ paired k m (option_map suc r)
paired-suc k m None = refl
paired-suc k m (Some d) =
    let e : k + 1 + d ≡ k + suc d = omega arith in
    ap (λ p. Some (p, m)) e

earlier-first : (k m : ℕ) (f : Option (ℕ × ℕ)) → ((p : ℕ × ℕ) → f ≡ Some p → k + 1 ≤ p.0) → (k, m) ≡ earlier f (k + 0, m)
earlier-first k m None later =
    let e : k ≡ k + 0 = omega arith in
    ap (λ p. (p, m)) e
earlier-first k m (Some f) later =
    let e : k ≡ k + 0 = omega arith in
    let small : k + 1 ≤ f.0 = later f refl in
    ap (λ p. (p, m)) e ∙ ap (λ b. if b then (k + 0, m) else f) (sym (lt-ltb (k + 0) f.0 (omega arith)))

module _ {A : Type 0} (clash : A → A → Bool) where
  abbrev pub from_here : ℕ → List A → Option ℕ → Option (ℕ × ℕ)
  from_here k xs None = first_pair clash (k + 1) xs
  from_here k xs (Some d) = Some (k, k + 1 + d)

  -- A pair's first place is not before the first item's.
  pub pair-from : (k : ℕ) (xs : List A) (p : ℕ × ℕ) → first_pair clash k xs ≡ Some p → k ≤ p.0
  pair-from k [] p h = absurd (cc h)
  pair-from k (x ∷ xs) p h = by (position (clash x) xs) h (λ g. pair-from (k + 1) xs p g)
    where
      by : (r : Option ℕ) → from_here k xs r ≡ Some p → (first_pair clash (k + 1) xs ≡ Some p → k + 1 ≤ p.0) → k ≤ p.0
      by None g rest = let later = rest g in omega arith
      by (Some d) g rest =
          let e : (k, k + 1 + d) ≡ p = cc g in
          let f : k ≡ p.0 = ap (λ q. q.0) e in
          omega arith

  -- With an item behind the others, at place m.
  pub pair-behind : (k m : ℕ) (xs : List A) (x : A) → m ≡ k + length xs → first_pair clash k (xs ++ x ∷ []) ≡ after (first_pair clash k xs) (paired k m (position (λ y. clash y x) xs))
  pair-behind k m [] x end = refl
  pair-behind k m (y ∷ ys) x end =
      let near : m ≡ k + 1 + length ys = omega arith in
      ap (from_here k (ys ++ x ∷ [])) (position-behind (clash y) ys x)
      ∙ (by (clash y x) (position (clash y) ys) (position (λ z. clash z x) ys) near (pair-behind (k + 1) m ys x near)
      ∙ ap (λ r. after (from_here k ys (position (clash y) ys)) (paired k m r)) (sym (position-step (λ z. clash z x) y ys)))
    where
      by : (b : Bool) (r t : Option ℕ) → m ≡ k + 1 + length ys
          → first_pair clash (k + 1) (ys ++ x ∷ []) ≡ after (first_pair clash (k + 1) ys) (paired (k + 1) m t)
          → from_here k (ys ++ x ∷ []) (option_or r (if b then Some (length ys) else None)) ≡ after (from_here k ys r) (paired k m (if b then Some 0 else option_map suc t))
      by b (Some d) t near rest = sym (after-kept k m (k + 1 + d) (if b then Some 0 else option_map suc t))
      by true None t near rest = ap (λ n. Some (k, n)) (sym near) ∙ ap Some (earlier-first k m (first_pair clash (k + 1) ys) (λ p g. pair-from (k + 1) ys p g))
      by false None t near rest = rest ∙ ap (after (first_pair clash (k + 1) ys)) (paired-suc k m t)

same-number : (a b : ℕ) → nat_eq a b ≡ nat_eq b a
same-number a b = grind arith

pub equal-numbers : (a b : ℕ) → nat_eq a b ≡ true → a ≡ b
equal-numbers a b h = grind arith

number-itself : (a : ℕ) → nat_eq a a ≡ true
number-itself a = grind arith

clash-sym : (l m : ℕ × ℕ) → lines_clash l m ≡ lines_clash m l
clash-sym l m = λ j. same-number l.0 m.0 j && not (same-number l.1 m.1 j)

-- The lines that clash with one whose left side has no line, or whose first line has another right side, or the same.
module _ (s : ℕ) (q : ℕ) where
  pub clash-none : (lines : List (ℕ × ℕ)) → axiom_among lines s ≡ None → position (λ l. lines_clash l (s, q)) lines ≡ None
  clash-none [] none = refl
  clash-none (l ∷ lines) none = position-step (λ m. lines_clash m (s, q)) l lines ∙ by (nat_eq l.0 s) none (λ h. clash-none lines h)
    where
      by : (b : Bool) → (if b then Some l.1 else axiom_among lines s) ≡ None
          → (axiom_among lines s ≡ None → position (λ m. lines_clash m (s, q)) lines ≡ None)
          → (if b && not (nat_eq l.1 q) then Some 0 else option_map suc (position (λ m. lines_clash m (s, q)) lines)) ≡ None
      by true h rest = absurd (cc h)
      by false h rest = ap (option_map suc) (rest h)

  pub clash-other : (lines : List (ℕ × ℕ)) (r : ℕ) → axiom_among lines s ≡ Some r → nat_eq r q ≡ false → position (λ l. lines_clash l (s, q)) lines ≡ first_place lines s
  clash-other [] r found other = absurd (cc found)
  clash-other (l ∷ lines) r found other =
      position-step (λ m. lines_clash m (s, q)) l lines
      ∙ (by (nat_eq l.0 s) found (λ h. clash-other lines r h other) ∙ sym (position-step (λ m. nat_eq m.0 s) l lines))
    where
      by : (b : Bool) → (if b then Some l.1 else axiom_among lines s) ≡ Some r
          → (axiom_among lines s ≡ Some r → position (λ m. lines_clash m (s, q)) lines ≡ first_place lines s)
          → (if b && not (nat_eq l.1 q) then Some 0 else option_map suc (position (λ m. lines_clash m (s, q)) lines)) ≡ (if b then Some 0 else option_map suc (first_place lines s))
      by true h rest =
          let e : l.1 ≡ r = cc h in
          ap (λ c. if not c then Some 0 else option_map suc (position (λ m. lines_clash m (s, q)) lines)) (ap (λ n. nat_eq n q) e ∙ other)
      by false h rest = ap (option_map suc) (rest h)

  pub clash-same : (k m : ℕ) (lines : List (ℕ × ℕ)) → axiom_among lines s ≡ Some q
      → after (first_pair lines_clash k lines) (paired k m (position (λ l. lines_clash l (s, q)) lines)) ≡ first_pair lines_clash k lines
  clash-same k m [] found = absurd (cc found)
  clash-same k m (l ∷ lines) found =
      ap (λ r. after (first_pair lines_clash k (l ∷ lines)) (paired k m r)) (position-step (λ p. lines_clash p (s, q)) l lines)
      ∙ by (nat_eq l.0 s) refl (position (lines_clash l) lines) refl found (λ h. clash-same (k + 1) m lines h)
    where
      clashing : List (ℕ × ℕ) → Option ℕ
      clashing ls = position (λ p. lines_clash p (s, q)) ls

      by : (b : Bool) → nat_eq l.0 s ≡ b → (r : Option ℕ) → position (lines_clash l) lines ≡ r
          → (if b then Some l.1 else axiom_among lines s) ≡ Some q
          → (axiom_among lines s ≡ Some q → after (first_pair lines_clash (k + 1) lines) (paired (k + 1) m (clashing lines)) ≡ first_pair lines_clash (k + 1) lines)
          → after (from_here lines_clash k lines r) (paired k m (if b && not (nat_eq l.1 q) then Some 0 else option_map suc (clashing lines))) ≡ from_here lines_clash k lines r
      by b e (Some d) at h rest = after-kept k m (k + 1 + d) (if b && not (nat_eq l.1 q) then Some 0 else option_map suc (clashing lines))
      by true e None at h rest =
          let a : s ≡ l.0 = sym (equal-numbers l.0 s e) in
          let b : q ≡ l.1 = sym (cc h) in
          let same : nat_eq l.1 q ≡ true = ap (nat_eq l.1) b ∙ number-itself l.1 in
          let none = position-alike (λ p. lines_clash p (s, q)) (lines_clash l) (λ p. (λ j. lines_clash p (a j, b j)) ∙ clash-sym p l) lines ∙ at in
          ap (λ c. after (first_pair lines_clash (k + 1) lines) (paired k m (if not c then Some 0 else option_map suc (clashing lines)))) same
          ∙ ap (λ r. after (first_pair lines_clash (k + 1) lines) (paired k m (option_map suc r))) none
      by false e None at h rest = ap (after (first_pair lines_clash (k + 1) lines)) (sym (paired-suc k m (clashing lines))) ∙ rest h
