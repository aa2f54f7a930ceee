-- What inference comes to, and what that costs: one unit for each inference and one for each fit, beside the units of
-- reduction and of the conversion test. A type that is made must be within limits.
use Rattle.std.specs.Prelude.{◌≡◌, ℕ, suc, ◌+◌, List, [], ◌∷◌, true, false, Option, Some, None, is_some, if◌then◌else◌}
use Rattle.pts_names.specs.Name.{Name}
use Rattle.pts_terms.specs.Tree.{Named, bare, same_term, sort, const, var, app, named_lam, named_pi, named_let, lift, subst}
use Rattle.pts_terms.specs.Limits.{within}
use Rattle.pts_ctx.specs.System.{Specification, axiom_of, rule_of}
use Rattle.pts_ctx.specs.Front.{Global, find, Local, assumed, defined, unknown, entry_at}
use Rattle.pts_reduce_cost.specs.Costs.{Globals, Entries, form, too_large, Reduces, TestAnswer, yes_, no_, beyond, Tests, nesting}

-- What may be wrong: a type that is no sort, and of no sort that has an axiom; a function's type that is no product; two
-- sorts without a rule; a sort without an axiom; a type that isn't convertible with the wanted one, with the place of
-- the forms that differ.
pub data Kind : Type 0 where
  not_a_sort : Named → Kind
  not_product : Named → Kind
  no_rule : (s r : ℕ) → Kind
  no_axiom : (s : ℕ) → Kind
  not_convertible : (place : List ℕ) → (have want : Named) → Kind

-- A flaw, with its place as the numbers of the parts that lead there, and the names of the binders that are passed on
-- the way. The parts of a term are numbered from 0 on, those of a local definition in this order: its definition, the
-- type of that, its body.
pub record Flaw : Type 0 where
  pub place : List ℕ
  pub names : List Name
  pub kind : Kind

abbrev pub here : Kind → Flaw
here k = record { place = []; names = []; kind = k }

-- The flaw of a part, seen from the whole; and of a part after the binder x.
abbrev pub into : ℕ → Flaw → Flaw
into i f = record { place = i ∷ f.place; names = f.names; kind = f.kind }

abbrev pub under : ℕ → Name → Flaw → Flaw
under i x f = record { place = i ∷ f.place; names = x ∷ f.names; kind = f.kind }

-- What lies after the binder x has a type B, and B has no sort.
abbrev pub unsorted : ℕ → Name → Named → Flaw → Flaw
unsorted i x B f = under i x (here (not_a_sort B))

-- The flaw of a fit is one of the wanted type, or of the judged term.
pub data FitFlaw : Type 0 where
  wanted : Flaw → FitFlaw
  judged : Flaw → FitFlaw

-- The same, seen from an application whose argument was to have the type A, and from a local definition.
abbrev pub of_argument : Named → FitFlaw → Flaw
of_argument A (wanted f) = into 1 (here (not_a_sort A))
of_argument A (judged f) = into 1 f

abbrev pub of_definition : FitFlaw → Flaw
of_definition (wanted f) = into 1 f
of_definition (judged f) = into 0 f

-- A part that comes to a value goes on; one that stops ends the whole. It is stopped by a flaw, or by a term or a
-- nesting beyond the limits.
pub data Stop (F : Type 0) : Type 0 where
  by_flaw : F → Stop F
  by_limits : Stop F

pub data Outcome (F A : Type 0) : Type 0 where
  comes : A → Outcome F A
  stops : Stop F → Outcome F A

abbrev pub moved : {E F : Type 0} → (E → F) → Stop E → Stop F
moved g (by_flaw e) = by_flaw (g e)
moved g by_limits = by_limits

-- Inference comes to a type, and the test of a type to a sort.
abbrev pub Typing : Type 0
Typing = Outcome Flaw Named

abbrev pub refused : {A : Type 0} → Kind → Outcome Flaw A
refused k = stops (by_flaw (here k))

-- The sort, or the domain and the body of the product, that a term is.
abbrev pub as_sort : Named → Option ℕ
as_sort (sort s) = Some s
as_sort t = None

abbrev pub as_product : Named → Option (Named × Named)
as_product (named_pi x A B) = Some (A, B)
as_product t = None

-- The type of an entry, after the entry itself. Of an unknown one there is none.
abbrev pub type_at : ℕ → Option (Local Name) → Option Named
type_at i None = None
type_at i (Some (assumed A)) = Some (lift 0 (suc i) A)
type_at i (Some (defined a A)) = Some (lift 0 (suc i) A)
type_at i (Some unknown) = None

-- A type that is made.
abbrev pub made : Named → Typing
made T = if within T then comes T else stops by_limits

-- What an axiom says of a sort, and what a rule says of two.
abbrev pub by_axiom : ℕ → Option ℕ → Typing
by_axiom s None = refused (no_axiom s)
by_axiom s (Some r) = comes (sort r)

abbrev pub by_rule : (s r : ℕ) → Option ℕ → (ℕ → Typing) → Typing
by_rule s r None next = refused (no_rule s r)
by_rule s r (Some q) next = next q

-- The sort that is the form v of the type T: it must have an axiom.
abbrev pub by_form : Specification → Named → Named → Outcome Flaw ℕ
by_form S T (sort s) = if is_some (axiom_of S s) then comes s else refused (not_a_sort T)
by_form S T v = refused (not_a_sort T)

-- What the test of the type T and the wanted type W says of the fit.
abbrev pub by_verdict : Named → Named → TestAnswer → Outcome FitFlaw (Unit {0})
by_verdict T W yes_ = comes tt
by_verdict T W (no_ place v w) = stops (by_flaw (judged (here (not_convertible place T W))))
by_verdict T W beyond = stops by_limits

-- SortTest S G L T o n: the sort test of the type T comes to o and costs n.
pub data SortTest (S : Specification) (G : Globals) (L : Entries) : Named → Outcome Flaw ℕ → ℕ → Type 0 where
  at_once : {T : Named} {s : ℕ} → as_sort T ≡ Some s → SortTest S G L T (comes s) 0
  form_too_large : {T : Named} {n : ℕ} → as_sort T ≡ None → Reduces G L T too_large n → SortTest S G L T (stops by_limits) n
  form_tested : {T v : Named} {n : ℕ} → as_sort T ≡ None → Reduces G L T (form v) n → SortTest S G L T (by_form S T v) n

-- Infers S G d L t o n: in the system S, the front G and the local context L, the inference of t, in which inferences
-- may be nested d deep, comes to o and costs n.
-- Sorts S G d L t o n: the same of the inference of t with the sort test of its type.
-- Fits S G d L T W o n: the same of the fit of what has the type T to the wanted type W.
-- Products S G d L F o n: the same of the product that the type F of a function is: its domain and its body.
mutual
  pub data Infers (S : Specification) (G : Globals) : ℕ → Entries → Named → Typing → ℕ → Type 0 where
    nested_too_deep : {L : Entries} {t : Named} → Infers S G 0 L t (stops by_limits) 1
    of_sort : {d : ℕ} {L : Entries} {s : ℕ} → Infers S G (suc d) L (sort s) (by_axiom s (axiom_of S s)) 1
    of_constant : {d : ℕ} {L : Entries} {c : Name} {e : Global Name} → find c G ≡ Some e → Infers S G (suc d) L (const c) (comes e.type) 1
    of_variable : {d : ℕ} {L : Entries} {i : ℕ} {A : Named} → type_at i (entry_at L i) ≡ Some A → Infers S G (suc d) L (var i) (comes A) 1
    function_stops : {d : ℕ} {L : Entries} {f a : Named} {e : Stop Flaw} {n : ℕ} → Infers S G d L f (stops e) n → Infers S G (suc d) L (app f a) (stops (moved (into 0) e)) (suc n)
    function_type_stops : {d : ℕ} {L : Entries} {f a F : Named} {e : Stop Flaw} {m n : ℕ} → Infers S G d L f (comes F) m → Products S G d L F (stops e) n → Infers S G (suc d) L (app f a) (stops (moved (into 0) e)) (suc (m + n))
    argument_stops : {d : ℕ} {L : Entries} {f a F : Named} {P : Named × Named} {e : Stop Flaw} {m n k : ℕ} → Infers S G d L f (comes F) m → Products S G d L F (comes P) n → Infers S G d L a (stops e) k → Infers S G (suc d) L (app f a) (stops (moved (into 1) e)) (suc (m + (n + k)))
    argument_fit_stops : {d : ℕ} {L : Entries} {f a F T : Named} {P : Named × Named} {e : Stop FitFlaw} {m n k j : ℕ} → Infers S G d L f (comes F) m → Products S G d L F (comes P) n → Infers S G d L a (comes T) k → Fits S G d L T P.0 (stops e) j → Infers S G (suc d) L (app f a) (stops (moved (of_argument P.0) e)) (suc (m + (n + (k + j))))
    of_application : {d : ℕ} {L : Entries} {f a F T : Named} {P : Named × Named} {m n k j : ℕ} → Infers S G d L f (comes F) m → Products S G d L F (comes P) n → Infers S G d L a (comes T) k → Fits S G d L T P.0 (comes tt) j → Infers S G (suc d) L (app f a) (made (subst 0 a P.1)) (suc (m + (n + (k + j))))
    product_domain_stops : {d : ℕ} {L : Entries} {x : Name} {A B : Named} {e : Stop Flaw} {n : ℕ} → Sorts S G d L A (stops e) n → Infers S G (suc d) L (named_pi x A B) (stops (moved (into 0) e)) (suc n)
    product_body_stops : {d : ℕ} {L : Entries} {x : Name} {A B : Named} {s : ℕ} {e : Stop Flaw} {m n : ℕ} → Sorts S G d L A (comes s) m → Sorts S G d (assumed A ∷ L) B (stops e) n → Infers S G (suc d) L (named_pi x A B) (stops (moved (under 1 x) e)) (suc (m + n))
    of_product : {d : ℕ} {L : Entries} {x : Name} {A B : Named} {s r m n : ℕ} → Sorts S G d L A (comes s) m → Sorts S G d (assumed A ∷ L) B (comes r) n → Infers S G (suc d) L (named_pi x A B) (by_rule s r (rule_of S s r) (λ q. comes (sort q))) (suc (m + n))
    domain_stops : {d : ℕ} {L : Entries} {x : Name} {A b : Named} {e : Stop Flaw} {n : ℕ} → Sorts S G d L A (stops e) n → Infers S G (suc d) L (named_lam x A b) (stops (moved (into 0) e)) (suc n)
    body_stops : {d : ℕ} {L : Entries} {x : Name} {A b : Named} {s : ℕ} {e : Stop Flaw} {m n : ℕ} → Sorts S G d L A (comes s) m → Infers S G d (assumed A ∷ L) b (stops e) n → Infers S G (suc d) L (named_lam x A b) (stops (moved (under 1 x) e)) (suc (m + n))
    body_type_stops : {d : ℕ} {L : Entries} {x : Name} {A b B : Named} {s : ℕ} {e : Stop Flaw} {m n k : ℕ} → Sorts S G d L A (comes s) m → Infers S G d (assumed A ∷ L) b (comes B) n → Sorts S G d (assumed A ∷ L) B (stops e) k → Infers S G (suc d) L (named_lam x A b) (stops (moved (unsorted 1 x B) e)) (suc (m + (n + k)))
    of_abstraction : {d : ℕ} {L : Entries} {x : Name} {A b B : Named} {s r m n k : ℕ} → Sorts S G d L A (comes s) m → Infers S G d (assumed A ∷ L) b (comes B) n → Sorts S G d (assumed A ∷ L) B (comes r) k → Infers S G (suc d) L (named_lam x A b) (by_rule s r (rule_of S s r) (λ q. made (named_pi x A B))) (suc (m + (n + k)))
    definition_stops : {d : ℕ} {L : Entries} {x : Name} {a A b : Named} {e : Stop Flaw} {n : ℕ} → Infers S G d L a (stops e) n → Infers S G (suc d) L (named_let x a A b) (stops (moved (into 0) e)) (suc n)
    definition_fit_stops : {d : ℕ} {L : Entries} {x : Name} {a A b D : Named} {e : Stop FitFlaw} {m n : ℕ} → Infers S G d L a (comes D) m → Fits S G d L D A (stops e) n → Infers S G (suc d) L (named_let x a A b) (stops (moved of_definition e)) (suc (m + n))
    definition_body_stops : {d : ℕ} {L : Entries} {x : Name} {a A b D : Named} {e : Stop Flaw} {m n k : ℕ} → Infers S G d L a (comes D) m → Fits S G d L D A (comes tt) n → Infers S G d (defined a A ∷ L) b (stops e) k → Infers S G (suc d) L (named_let x a A b) (stops (moved (under 2 x) e)) (suc (m + (n + k)))
    of_definition_of_sort : {d : ℕ} {L : Entries} {x : Name} {a A b B D : Named} {s m n k : ℕ} → Infers S G d L a (comes D) m → Fits S G d L D A (comes tt) n → Infers S G d (defined a A ∷ L) b (comes B) k → as_sort B ≡ Some s → Infers S G (suc d) L (named_let x a A b) (comes B) (suc (m + (n + k)))
    definition_body_type_stops : {d : ℕ} {L : Entries} {x : Name} {a A b B D : Named} {e : Stop Flaw} {m n k j : ℕ} → Infers S G d L a (comes D) m → Fits S G d L D A (comes tt) n → Infers S G d (defined a A ∷ L) b (comes B) k → as_sort B ≡ None → Sorts S G d (defined a A ∷ L) B (stops e) j → Infers S G (suc d) L (named_let x a A b) (stops (moved (unsorted 2 x B) e)) (suc (m + (n + (k + j))))
    of_local_definition : {d : ℕ} {L : Entries} {x : Name} {a A b B D : Named} {s m n k j : ℕ} → Infers S G d L a (comes D) m → Fits S G d L D A (comes tt) n → Infers S G d (defined a A ∷ L) b (comes B) k → as_sort B ≡ None → Sorts S G d (defined a A ∷ L) B (comes s) j → Infers S G (suc d) L (named_let x a A b) (made (named_let x a A B)) (suc (m + (n + (k + j))))

  pub data Sorts (S : Specification) (G : Globals) : ℕ → Entries → Named → Outcome Flaw ℕ → ℕ → Type 0 where
    term_stops : {d : ℕ} {L : Entries} {t : Named} {e : Stop Flaw} {n : ℕ} → Infers S G d L t (stops e) n → Sorts S G d L t (stops e) n
    type_tested : {d : ℕ} {L : Entries} {t T : Named} {o : Outcome Flaw ℕ} {m n : ℕ} → Infers S G d L t (comes T) m → SortTest S G L T o n → Sorts S G d L t o (m + n)

  pub data Fits (S : Specification) (G : Globals) : ℕ → Entries → Named → Named → Outcome FitFlaw (Unit {0}) → ℕ → Type 0 where
    equal_types : {d : ℕ} {L : Entries} {T W : Named} → same_term (bare T) (bare W) ≡ true → Fits S G d L T W (comes tt) 1
    wanted_stops : {d : ℕ} {L : Entries} {T W : Named} {e : Stop Flaw} {n : ℕ} → same_term (bare T) (bare W) ≡ false → Sorts S G d L W (stops e) n → Fits S G d L T W (stops (moved wanted e)) (suc n)
    types_tested : {d : ℕ} {L : Entries} {T W : Named} {v : TestAnswer} {s m n : ℕ} → same_term (bare T) (bare W) ≡ false → Sorts S G d L W (comes s) m → Tests G nesting L T W v n → Fits S G d L T W (by_verdict T W v) (suc (m + n))

  pub data Products (S : Specification) (G : Globals) : ℕ → Entries → Named → Outcome Flaw (Named × Named) → ℕ → Type 0 where
    is_product : {d : ℕ} {L : Entries} {F : Named} {P : Named × Named} → as_product F ≡ Some P → Products S G d L F (comes P) 0
    product_too_large : {d : ℕ} {L : Entries} {F : Named} {n : ℕ} → as_product F ≡ None → Reduces G L F too_large n → Products S G d L F (stops by_limits) n
    no_product : {d : ℕ} {L : Entries} {F v : Named} {n : ℕ} → as_product F ≡ None → Reduces G L F (form v) n → as_product v ≡ None → Products S G d L F (refused (not_product F)) n
    product_stops : {d : ℕ} {L : Entries} {F v : Named} {P : Named × Named} {e : Stop Flaw} {m n : ℕ} → as_product F ≡ None → Reduces G L F (form v) m → as_product v ≡ Some P → Sorts S G d L v (stops e) n → Products S G d L F (stops (moved (λ f. here (not_product F)) e)) (m + n)
    product_reached : {d : ℕ} {L : Entries} {F v : Named} {P : Named × Named} {s m n : ℕ} → as_product F ≡ None → Reduces G L F (form v) m → as_product v ≡ Some P → Sorts S G d L v (comes s) n → Products S G d L F (comes P) (m + n)

-- How deep inferences may be nested, the outermost one counted.
abbrev pub inference_nesting : ℕ
inference_nesting = 4000
