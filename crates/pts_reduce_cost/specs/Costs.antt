-- What reduction and the conversion test come to, and what that costs: one unit for each head step and one for each
-- test of two terms. A term that a step makes must be within limits.
use Rattle.std.specs.Prelude.{◌≡◌, ◌≢◌, ℕ, suc, ◌+◌, List, [], ◌∷◌, Bool, true, false, Some, None, nat_eq}
use Rattle.pts_names.specs.Name.{Name, same_name}
use Rattle.pts_terms.specs.Tree.{Named, bare, same_term, sort, const, var, app, named_lam, named_pi}
use Rattle.pts_terms.specs.Limits.{within}
use Rattle.pts_ctx.specs.Front.{Global, Local, unknown}
use Rattle.pts_rules.specs.Step.{head_step}

-- A front and a local context with printed names.
abbrev pub Globals : Type 0
Globals = List (Global Name)

abbrev pub Entries : Type 0
Entries = List (Local Name)

-- Reduction ends in a term without a head step, or in a step to a term that is not within limits.
pub data Reduct : Type 0 where
  form : (t : Named) → Reduct
  too_large : Reduct

-- Reduces G L t o n: head steps from t end in o, and are n.
pub data Reduces (G : Globals) (L : Entries) : Named → Reduct → ℕ → Type 0 where
  no_step : {t : Named} → head_step G L t ≡ None → Reduces G L t (form t) 0
  one_step : {t u : Named} {o : Reduct} {n : ℕ} → head_step G L t ≡ Some u → within u ≡ true → Reduces G L u o n → Reduces G L t o (suc n)
  large_step : {t u : Named} → head_step G L t ≡ Some u → within u ≡ false → Reduces G L t too_large 1

-- The test's answer: yes; no, with the place of the two forms that differ, as the numbers of the parts that lead there,
-- and these forms; or that a term or the nesting of tests is beyond the limits.
pub data TestAnswer : Type 0 where
  yes_ : TestAnswer
  no_ : (place : List ℕ) → (left right : Named) → TestAnswer
  beyond : TestAnswer

-- The answer of a part, seen from the whole.
abbrev pub in_part : ℕ → TestAnswer → TestAnswer
in_part i yes_ = yes_
in_part i (no_ place t u) = no_ (i ∷ place) t u
in_part i beyond = beyond

-- How two forms are compared: at once, or by their first parts, in the same context, and then by their second parts.
pub data Pairing : Type 0 where
  leaves : Bool → Pairing
  parts : (t u : Named) → (inner : Entries) → (v w : Named) → Pairing

-- Forms of two kinds differ. Nothing is known of the variable that a binder binds.
abbrev pub pairing : Entries → Named → Named → Pairing
pairing L (sort s) (sort r) = leaves (nat_eq s r)
pairing L (const c) (const d) = leaves (same_name c d)
pairing L (var i) (var j) = leaves (nat_eq i j)
pairing L (app f a) (app g b) = parts f g L a b
pairing L (named_lam x A b) (named_lam y B c) = parts A B (unknown ∷ L) b c
pairing L (named_pi x A b) (named_pi y B c) = parts A B (unknown ∷ L) b c
pairing L t u = leaves false

-- Tests G d L t u o n: the test of t and u, in which tests may be nested d deep, answers o and costs n. Equal terms are
-- not looked into. Others are reduced, the left one first, and their forms are compared.
-- Compares G d L t u o n: the same of two forms.
mutual
  pub data Tests (G : Globals) : ℕ → Entries → Named → Named → TestAnswer → ℕ → Type 0 where
    nested_too_deep : {L : Entries} {t u : Named} → Tests G 0 L t u beyond 1
    equal_terms : {d : ℕ} {L : Entries} {t u : Named} → same_term (bare t) (bare u) ≡ true → Tests G (suc d) L t u yes_ 1
    left_too_large : {d : ℕ} {L : Entries} {t u : Named} {m : ℕ} → same_term (bare t) (bare u) ≡ false → Reduces G L t too_large m → Tests G (suc d) L t u beyond (suc m)
    right_too_large : {d : ℕ} {L : Entries} {t u v : Named} {m n : ℕ} → same_term (bare t) (bare u) ≡ false → Reduces G L t (form v) m → Reduces G L u too_large n → Tests G (suc d) L t u beyond (suc (m + n))
    by_forms : {d : ℕ} {L : Entries} {t u v w : Named} {o : TestAnswer} {m n k : ℕ} → same_term (bare t) (bare u) ≡ false → Reduces G L t (form v) m → Reduces G L u (form w) n → Compares G d L v w o k → Tests G (suc d) L t u o (suc (m + (n + k)))

  pub data Compares (G : Globals) : ℕ → Entries → Named → Named → TestAnswer → ℕ → Type 0 where
    alike : {d : ℕ} {L : Entries} {v w : Named} → pairing L v w ≡ leaves true → Compares G d L v w yes_ 0
    unlike : {d : ℕ} {L : Entries} {v w : Named} → pairing L v w ≡ leaves false → Compares G d L v w (no_ [] v w) 0
    first_part : {d : ℕ} {L M : Entries} {v w t u a b : Named} {o : TestAnswer} {m : ℕ} → pairing L v w ≡ parts t u M a b → Tests G d L t u o m → o ≢ yes_ → Compares G d L v w (in_part 0 o) m
    second_part : {d : ℕ} {L M : Entries} {v w t u a b : Named} {o : TestAnswer} {m n : ℕ} → pairing L v w ≡ parts t u M a b → Tests G d L t u yes_ m → Tests G d M a b o n → Compares G d L v w (in_part 1 o) (m + n)

-- How deep tests may be nested, the outermost one counted.
abbrev pub nesting : ℕ
nesting = 2000
