-- Derivable judgements and legal fronts: Barendregt's rules (1992), with definitions after Severi and Poll (1994) in
-- this project's form, which keeps global names and local entries apart.
use Rattle.std.specs.Prelude.{ℕ, [], ◌∷◌, ◌++◌, ◌≡◌, Some}
use Rattle.pts_names.specs.Name.{Name}
use Rattle.pts_terms.specs.Tree.{Bare, sort, const, var, app, lam, pi, let_in, lift, subst}
use Rattle.pts_ctx.specs.System.{Specification, axiom_of, rule_of}
use Rattle.pts_ctx.specs.Front.{Front, assumption, definition, Fresh, assumed, defined, Locals}
use Rattle.pts_rules.specs.Step.{Convertible}

-- Derives S G L t T: the term t has the type T in the front G and the local context L.
pub data Derives (S : Specification) : Front → Locals → Bare → Bare → Type 0 where
  axioms : {s r : ℕ} → axiom_of S s ≡ Some r → Derives S [] [] (sort s) (sort r)
  global_start : (x : Name) {G : Front} {A : Bare} {s : ℕ} → Derives S G [] A (sort s) → Fresh x G → Derives S (G ++ assumption x A ∷ []) [] (const x) A
  global_start_defined : (x : Name) {G : Front} {a A : Bare} → Derives S G [] a A → Fresh x G → Derives S (G ++ definition x a A ∷ []) [] (const x) A
  global_weakening : (x : Name) {G : Front} {A b B : Bare} {s : ℕ} → Derives S G [] b B → Derives S G [] A (sort s) → Fresh x G → Derives S (G ++ assumption x A ∷ []) [] b B
  global_weakening_defined : (x : Name) {G : Front} {a A b B : Bare} → Derives S G [] b B → Derives S G [] a A → Fresh x G → Derives S (G ++ definition x a A ∷ []) [] b B
  local_start : {G : Front} {L : Locals} {A : Bare} {s : ℕ} → Derives S G L A (sort s) → Derives S G (assumed A ∷ L) (var 0) (lift 0 1 A)
  local_start_defined : {G : Front} {L : Locals} {a A : Bare} → Derives S G L a A → Derives S G (defined a A ∷ L) (var 0) (lift 0 1 A)
  local_weakening : {G : Front} {L : Locals} {A b B : Bare} {s : ℕ} → Derives S G L b B → Derives S G L A (sort s) → Derives S G (assumed A ∷ L) (lift 0 1 b) (lift 0 1 B)
  local_weakening_defined : {G : Front} {L : Locals} {a A b B : Bare} → Derives S G L b B → Derives S G L a A → Derives S G (defined a A ∷ L) (lift 0 1 b) (lift 0 1 B)
  product : {G : Front} {L : Locals} {A B : Bare} {s r q : ℕ} → Derives S G L A (sort s) → Derives S G (assumed A ∷ L) B (sort r) → rule_of S s r ≡ Some q → Derives S G L (pi A B) (sort q)
  application : {G : Front} {L : Locals} {f a A B : Bare} → Derives S G L f (pi A B) → Derives S G L a A → Derives S G L (app f a) (subst 0 a B)
  abstraction : {G : Front} {L : Locals} {A b B : Bare} {s : ℕ} → Derives S G (assumed A ∷ L) b B → Derives S G L (pi A B) (sort s) → Derives S G L (lam A b) (pi A B)
  formation : {G : Front} {L : Locals} {a A B : Bare} {s : ℕ} → Derives S G (defined a A ∷ L) B (sort s) → Derives S G L (let_in a A B) (sort s)
  introduction : {G : Front} {L : Locals} {a A b B : Bare} {s : ℕ} → Derives S G (defined a A ∷ L) b B → Derives S G L (let_in a A B) (sort s) → Derives S G L (let_in a A b) (let_in a A B)
  conversion : {G : Front} {L : Locals} {b B C : Bare} {s : ℕ} → Derives S G L b B → Derives S G L C (sort s) → Convertible G L B C → Derives S G L b C

-- A front is legal if each entry has a fresh name and is well typed in the front before it.
pub data Legal (S : Specification) : Front → Type 0 where
  legal_empty : Legal S []
  legal_assumption : (x : Name) {G : Front} {A : Bare} {s : ℕ} → Legal S G → Fresh x G → Derives S G [] A (sort s) → Legal S (G ++ assumption x A ∷ [])
  legal_definition : (x : Name) {G : Front} {a A : Bare} → Legal S G → Fresh x G → Derives S G [] a A → Legal S (G ++ definition x a A ∷ [])
