-- What the proof commands come to for a goal, and at what cost: they cost what their own inferences, reductions, tests and
-- attempts to match cost.
use Rattle.std.specs.Prelude.{ℕ, zero, suc, ◌+◌, pred, List, [], ◌∷◌, ◌++◌, length, reverse, Option, Some, None, is_some, Bool, true, false, ◌||◌, if◌then◌else◌}
use Rattle.std.specs.Option.{option_map, option_or}
use Rattle.std.specs.List.{position}
use Rattle.pts_names.specs.Name.{Name, same_name}
use Rattle.pts_terms.specs.Tree.{Tree, Named, bare, same_term, sort, const, var, app, named_lam, named_pi, named_let, lift, subst, subst_const}
use Rattle.pts_terms.specs.Limits.{within}
use Rattle.pts_ctx.specs.System.{Specification, rule_of}
use Rattle.pts_ctx.specs.Front.{Global, find, assumed, unknown}
use Rattle.pts_ctx.specs.Seen.{place_of}
use Rattle.pts_reduce_cost.specs.Costs.{Globals, Entries, form, too_large, Reduces, TestAnswer, yes_, no_, beyond, Tests, nesting}
use Rattle.pts_infer_cost.specs.Typing.{Flaw, here, FitFlaw, wanted, judged, not_convertible, by_flaw, by_limits, Outcome, comes, stops, as_product, by_rule, Infers, Sorts, Fits, inference_nesting}
use Rattle.pts_match.specs.Lowering.{is_clear, lower}
use Rattle.pts_match.specs.Matching.{Assignment, match_of}
use Rattle.pts_prove_cost.specs.Combining.{After, Turned, Free, Paid}
use Rattle.pts_prove_cost.specs.Refinement.{Sequent, Argument, given, asked, Refinement, by_abstraction, by_term, by_application, by_lemma, by_statement}

-- Where a flaw is: in the term or in the type that is handed in, or in the goal.
pub data Part : Type 0 where
  of_term : Part
  of_type : Part
  of_goal : Part

-- Why a command does not refine the goal: there is none; the name exists at this place; the form of the goal is no product;
-- the type of the function matches nowhere, after so many products; the argument with this number, counted from 1, is not
-- determined; the constant does not occur in the goal; the name has no body; or a part is flawed.
pub data Refusal : Type 0 where
  no_goal : Refusal
  taken : (x : Name) → (place : ℕ) → Refusal
  not_product : (form : Named) → Refusal
  no_match : (products : ℕ) → Refusal
  undetermined : (argument : ℕ) → Refusal
  not_there : (c : Name) → Refusal
  no_body : (c : Name) → Refusal
  flawed : Part → Flaw → Refusal

-- What a command comes to.
abbrev pub Command : Type 0
Command = Outcome Refusal Refinement

-- The flaw of a fit, in a part.
abbrev pub misfit_in : Part → FitFlaw → Refusal
misfit_in p (wanted f) = flawed p f
misfit_in p (judged f) = flawed p f

-- The flaw of the goal after one hypothesis more.
abbrev pub in_goal_under : Name → Flaw → Refusal
in_goal_under x f = flawed of_goal (record { place = f.place; names = x ∷ f.names; kind = f.kind })

-- What comes to a term that is within limits, and stops at one that is not.
abbrev pub limited : {F : Type 0} → Named → Outcome F Named → ℕ → Type 0
limited t = Free (if within t then comes t else stops by_limits)

-- The weak head normal form.
pub data Forms (G : Globals) (L : Entries) (t : Named) : Outcome Refusal Named → ℕ → Type 0 where
  formed : {v : Named} {n : ℕ} → Reduces G L t (form v) n → Forms G L t (comes v) n
  form_too_large : {n : ℕ} → Reduces G L t too_large n → Forms G L t (stops by_limits) n

-- The test of a new statement against the goal.
abbrev pub by_test : (new goal : Named) → TestAnswer → Command
by_test t g yes_ = comes (by_statement t)
by_test t g (no_ place v w) = stops (by_flaw (flawed of_goal (here (not_convertible place t g))))
by_test t g beyond = stops by_limits

pub data Agrees (G : Globals) (L : Entries) (t g : Named) : Command → ℕ → Type 0 where
  tested : {v : TestAnswer} {n : ℕ} → Tests G nesting L t g v n → Agrees G L t g (by_test t g v) n

-- A product, with its domain and its body.
pub record Opened : Type 0 where
  pub product : Named
  pub domain : Named
  pub body : Named

abbrev pub opened : Named → Named × Named → Opened
opened t P = record { product = t; domain = P.0; body = P.1 }

-- The product that the form t is. What is none is refused so.
abbrev pub form_opens : (why : Named → Refusal) → (t : Named) → Option (Named × Named) → Outcome Refusal Opened → ℕ → Type 0
form_opens why t None = Free (stops (by_flaw (why t)))
form_opens why t (Some P) = Free (comes (opened t P))

-- The product that a term is as it stands, or else by its weak head normal form.
abbrev pub opens_as : Globals → Entries → (why : Named → Refusal) → (t : Named) → Option (Named × Named) → Outcome Refusal Opened → ℕ → Type 0
opens_as G L why t (Some P) = Free (comes (opened t P))
opens_as G L why t None = After (Forms G L t) (λ v. form_opens why v (as_product v))

abbrev pub opens : Globals → Entries → (why : Named → Refusal) → Named → Outcome Refusal Opened → ℕ → Type 0
opens G L why t = opens_as G L why t (as_product t)

-- The place of a name in the scope: the names of the front, and after them those of the hypotheses.
abbrev pub place_in_scope : Globals → List Name → Name → Option ℕ
place_in_scope G xs x = option_or (place_of x G) (option_map (λ i. length G + i) (position (same_name x) xs))

-- The piece, unless the name exists.
abbrev pub unless_taken : Name → Option ℕ → (Command → ℕ → Type 0) → Command → ℕ → Type 0
unless_taken x (Some place) R = Free (stops (by_flaw (taken x place)))
unless_taken x None R = R

-- Whether a constant occurs in a term.
abbrev pub mentions : {B : Type 0} → Name → Tree B → Bool
mentions c (sort s) = false
mentions c (const d) = same_name c d
mentions c (var i) = false
mentions c (app f a) = mentions c f || mentions c a
mentions c (named_lam x A b) = mentions c A || mentions c b
mentions c (named_pi x A B) = mentions c A || mentions c B
mentions c (named_let x a A b) = mentions c a || (mentions c A || mentions c b)

-- An attempt to match the type C under k products with the statement g costs a unit.
abbrev pub tries : (k : ℕ) → (C g : Named) → Outcome Refusal (Option Assignment) → ℕ → Type 0
tries k C g = Paid (Free (comes (match_of k C g)))

-- What the search for a match does after the attempt with the type C under k products: it has matched, or C is a product,
-- and the search goes on with the body.
abbrev pub attempt : Globals → (k : ℕ) → Entries → (C : Named) → (Named → Outcome Refusal Assignment → ℕ → Type 0) → Option Assignment → Outcome Refusal Assignment → ℕ → Type 0
attempt G k L C next (Some s) = Free (comes s)
attempt G k L C next None = After (opens G L (λ v. no_match k) C) (λ p. next p.body)

-- The search for a match with the statement g, where d products more may be taken off. Nothing is known of the variables of
-- the products.
abbrev pub searches : Globals → (g : Named) → (d k : ℕ) → Entries → (C : Named) → Outcome Refusal Assignment → ℕ → Type 0
searches G g zero k L C = After (tries k C g) (attempt G k L C (λ B. Free (stops by_limits)))
searches G g (suc d) k L C = After (tries k C g) (attempt G k L C (searches G g d (suc k) (unknown ∷ L)))

-- How many products may be taken off.
abbrev pub most_arguments : ℕ
most_arguments = 2000

module _ (S : Specification) (G : Globals) (L : Entries) where
  -- The product has a sort.
  abbrev pub sorted_product : Opened → Outcome Refusal Opened → ℕ → Type 0
  sorted_product p = After (Turned (flawed of_goal) (Sorts S G inference_nesting L p.product)) (λ s. Free (comes p))

  -- The product that the type of a function with some arguments is. One that is found by reduction must have a sort.
  abbrev pub function_opens : (T : Named) → Option (Named × Named) → Outcome Refusal Opened → ℕ → Type 0
  function_opens T (Some P) = Free (comes (opened T P))
  function_opens T None = After (opens_as G L not_product T None) sorted_product

  -- A term that was matched is inferred and fitted to the domain D of its product. The value is the argument, and the type
  -- of the application to it, where B is the product's body. That type must be within limits.
  abbrev pub gives_argument : (D B a : Named) → Outcome Refusal (Argument × Named) → ℕ → Type 0
  gives_argument D B a =
      After (Turned (flawed of_goal) (Infers S G inference_nesting L a)) (λ A.
      After (Turned (misfit_in of_goal) (Fits S G inference_nesting L A D)) (λ u.
      After (limited (subst 0 a B)) (λ T.
      Free (comes (given a, T)))))

  -- A variable that is open must not occur in the body of its product. Its domain is then a goal.
  abbrev pub asks_argument : (i : ℕ) → (D B : Named) → Bool → Outcome Refusal (Argument × Named) → ℕ → Type 0
  asks_argument i D B false = Free (stops (by_flaw (undetermined i)))
  asks_argument i D B true = After (Turned (flawed of_goal) (Sorts S G inference_nesting L D)) (λ s. Free (comes (asked D, lower 0 1 B)))

  -- The argument with the number i, which is that of the product p.
  abbrev pub takes_argument : (i : ℕ) → (p : Opened) → Option Named → Outcome Refusal (Argument × Named) → ℕ → Type 0
  takes_argument i p (Some a) = gives_argument p.domain p.body a
  takes_argument i p None = asks_argument i p.domain p.body (is_clear 0 1 p.body)

  -- The same of a function of the type T.
  abbrev pub takes_next : (i : ℕ) → (T : Named) → Option Named → Outcome Refusal (Argument × Named) → ℕ → Type 0
  takes_next i T o = After (function_opens T (as_product T)) (λ p. takes_argument i p o)

  -- The arguments from the number i on, of a function of the type T, after the earlier ones. The type after the last one is
  -- the statement g, apart from printed names.
  abbrev pub takes_arguments : (g : Named) → (i : ℕ) → (T : Named) → List (Option Named) → List Argument → Outcome Refusal (List Argument) → ℕ → Type 0
  takes_arguments g i T [] earlier = Free (if same_term (bare T) (bare g) then comes earlier else stops (by_flaw (no_match (pred i))))
  takes_arguments g i T (o ∷ s) earlier = After (takes_next i T o) (λ a. takes_arguments g (suc i) a.1 s (earlier ++ a.0 ∷ []))

-- The commands, in a system and a front, for a goal.
module _ (S : Specification) (G : Globals) (g : Sequent) where
  -- intro x: the goal is a product, perhaps by its form, and has a sort.
  abbrev pub intros : (x : Name) → Command → ℕ → Type 0
  intros x =
      unless_taken x (place_in_scope G g.names x) (
      After (opens G g.entries not_product g.statement) (λ p.
      After (sorted_product S G g.entries p) (λ p.
      Free (comes (by_abstraction x p.domain p.body)))))

  -- exact t: the term is inferred, and fitted to the goal.
  abbrev pub exacts : (t : Named) → Command → ℕ → Type 0
  exacts t =
      After (limited t) (λ t.
      After (Turned (flawed of_term) (Infers S G inference_nesting g.entries t)) (λ T.
      After (Turned (misfit_in of_term) (Fits S G inference_nesting g.entries T g.statement)) (λ u.
      Free (comes (by_term t)))))

  -- apply t: the type of the term is searched for a match with the goal, under its products; then the arguments of these are
  -- taken in order. A match has the innermost variable first.
  abbrev pub applies : (t : Named) → Command → ℕ → Type 0
  applies t =
      After (limited t) (λ t.
      After (Turned (flawed of_term) (Infers S G inference_nesting g.entries t)) (λ C.
      After (searches G g.statement most_arguments 0 g.entries C) (λ s.
      After (takes_arguments S G g.entries g.statement 1 C (reverse s) []) (λ arguments.
      Free (comes (by_application t arguments))))))

  -- cut x : T: the lemma has a sort, and so has the goal after the hypothesis x : T. There is a rule for the two.
  abbrev pub cuts : (x : Name) → (T : Named) → Command → ℕ → Type 0
  cuts x T =
      unless_taken x (place_in_scope G g.names x) (
      After (limited T) (λ T.
      After (Turned (flawed of_type) (Sorts S G inference_nesting g.entries T)) (λ s.
      After (Turned (in_goal_under x) (Sorts S G inference_nesting (assumed T ∷ g.entries) (lift 0 1 g.statement))) (λ r.
      After (Turned (flawed of_goal) (Free (by_rule s r (rule_of S s r) (λ q. comes (sort q))))) (λ q.
      After (limited (named_pi x T (lift 0 1 g.statement))) (λ p.
      Free (comes (by_lemma x T (lift 0 1 g.statement)))))))))

  -- A new statement has a sort, and is convertible with the goal.
  abbrev pub changes : Part → (t : Named) → Command → ℕ → Type 0
  changes p t = After (Turned (flawed p) (Sorts S G inference_nesting g.entries t)) (λ s. Agrees G g.entries t g.statement)

  -- convert t: the new statement is t.
  abbrev pub converts : (t : Named) → Command → ℕ → Type 0
  converts t = After (limited t) (changes of_type)

  -- unfold c: the new statement has the body of c for each of its occurrences. A hypothesis has no body.
  abbrev pub unfolds_body : (c : Name) → (body : Option Named) → (occurs : Bool) → Outcome Refusal Named → ℕ → Type 0
  unfolds_body c None occurs = Free (stops (by_flaw (no_body c)))
  unfolds_body c (Some a) false = Free (stops (by_flaw (not_there c)))
  unfolds_body c (Some a) true = limited (subst_const c a g.statement)

  abbrev pub unfolds_entry : (c : Name) → (hypothesis : Bool) → Option (Global Name) → Outcome Refusal Named → ℕ → Type 0
  unfolds_entry c true e = Free (stops (by_flaw (no_body c)))
  unfolds_entry c false None = Free (stops (by_flaw (not_there c)))
  unfolds_entry c false (Some e) = unfolds_body c e.body (mentions c g.statement)

  abbrev pub unfolds : (c : Name) → Command → ℕ → Type 0
  unfolds c = After (unfolds_entry c (is_some (position (same_name c) g.names)) (find c G)) (changes of_goal)
