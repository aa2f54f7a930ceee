-- A module is answered in one way at most, at one cost.
use Rattle.std.proofs.Common.{◌≡◌, ◌<◌, ℕ, List, [], ◌∷◌, ◌++◌, refl, sym, ap, ◌∙◌, subst, arith}
use Rattle.pts_names.specs.Name.{Name}
use Rattle.pts_ctx.specs.System.{Specification}
use Rattle.pts_ctx.specs.Front.{Global}
use Rattle.pts_reduce_cost.specs.Costs.{Globals}
use Rattle.pts_reduce_cost.specs.Laws.{WithinBudget, AboveBudget}
use Rattle.pts_infer_cost.specs.Typing.{Stop, comes, stops}
use Rattle.pts_module_file.specs.declared.fault.FileWhy.{FileWhy}
use Rattle.pts_statement.specs.Statements.{Statement}
use Rattle.pts_statement.specs.Declaring.{Reason, StatementOutcome, Declares}
use Rattle.pts_statement.proofs.Once.{declares_once}
use Rattle.pts_batch.specs.Loading.{Loaded, stopped, Loads, no_statement, statement_enters, statement_stops, statement_is_too_dear}
use Rattle.pts_batch.specs.Batches.{BatchAnswer, BatchAnswers, answer_of, BatchOutcome, bad_file, not_built, loaded, Batches, file_is_bad, line_is_not_built, file_is_loaded, statements_of}

within_once : (S : Specification) (M : Name) (G : Globals) (d : Statement) (b j k : ℕ) (o p : StatementOutcome) → WithinBudget (Declares S M G d) b o j → WithinBudget (Declares S M G d) b p k → (o ≡ p) × (j ≡ k)
within_once S M G d b j k o p (m, c, e) (n, q, f) = let r = declares_once S M G d o p m n c q in (r.0, omega (arith, r.1, e, f))

never_both : (S : Specification) (M : Name) (G : Globals) (d : Statement) (b k : ℕ) (o : StatementOutcome) → WithinBudget (Declares S M G d) b o k → AboveBudget (Declares S M G d) b → ⊥
never_both S M G d b k o (n, c, e) a = let h : b < n = a o n c in omega (arith, h, e)

same_entry : (o p : StatementOutcome) (e f : Global Name) → o ≡ comes e → p ≡ comes f → o ≡ p → e ≡ f
same_entry o p e f i j h = cc

same_stop : (o p : StatementOutcome) (e f : Stop Reason) → o ≡ stops e → p ≡ stops f → o ≡ p → e ≡ f
same_stop o p e f i j h = cc

loads_once : (S : Specification) (M : Name) (G : Globals) (ds : List (ℕ × Statement)) (b j k : ℕ) (o p : Loaded) → Loads S M G ds b o j → Loads S M G ds b p k → (o ≡ p) × (j ≡ k)
loads_once S M G [] b j k o p no_statement no_statement = (refl, refl)
loads_once S M G ((n, d) ∷ ds) b j k o p (statement_enters {j = i} e w l) (statement_enters {j = h} f v m) =
    let r = within_once S M G d b i h (comes e) (comes f) w v in
    loads_once S M (G ++ e ∷ []) ds i j k o p l (subst (λ x. Loads S M (G ++ e ∷ []) ds x p k) (sym r.1) (subst (λ x. Loads S M (G ++ x ∷ []) ds h p k) (sym (same_entry (comes e) (comes f) e f refl refl r.0)) m))
loads_once S M G ((n, d) ∷ ds) b j k o p (statement_enters {j = i} e w l) (statement_stops {e = f} v) = let r = within_once S M G d b i k (comes e) (stops f) w v in absurd (cc r.0)
loads_once S M G ((n, d) ∷ ds) b j k o p (statement_enters {j = i} e w l) (statement_is_too_dear a) = absurd (never_both S M G d b i (comes e) w a)
loads_once S M G ((n, d) ∷ ds) b j k o p (statement_stops {e = e} w) (statement_enters {j = h} f v m) = let r = within_once S M G d b j h (stops e) (comes f) w v in absurd (cc r.0)
loads_once S M G ((n, d) ∷ ds) b j k o p (statement_stops {e = e} w) (statement_stops {e = f} v) = let r = within_once S M G d b j k (stops e) (stops f) w v in (ap (stopped n) (same_stop (stops e) (stops f) e f refl refl r.0), r.1)
loads_once S M G ((n, d) ∷ ds) b j k o p (statement_stops {e = e} w) (statement_is_too_dear a) = absurd (never_both S M G d b j (stops e) w a)
loads_once S M G ((n, d) ∷ ds) b j k o p (statement_is_too_dear a) (statement_enters {j = h} f v m) = absurd (never_both S M G d b h (comes f) v a)
loads_once S M G ((n, d) ∷ ds) b j k o p (statement_is_too_dear a) (statement_stops {e = f} v) = absurd (never_both S M G d b k (stops f) v a)
loads_once S M G ((n, d) ∷ ds) b j k o p (statement_is_too_dear a) (statement_is_too_dear c) = (refl, refl)

batches_once : (S : Specification) (M : Name) (bytes : List ℕ) (b j k : ℕ) (o p : BatchOutcome) → Batches S M bytes b o j → Batches S M bytes b p k → (o ≡ p) × (j ≡ k)
batches_once S M bytes b j k o p (file_is_bad {n = n} {w = w} e) (file_is_bad {n = m} {w = v} f) =
    let h : ◌≡◌ {A = ℕ × FileWhy} (n, w) (m, v) = cc in (ap (λ r. bad_file r.0 r.1) h, refl)
batches_once S M bytes b j k o p (file_is_bad e) (line_is_not_built f l) = absurd (cc)
batches_once S M bytes b j k o p (file_is_bad e) (file_is_loaded f l h) = absurd (cc)
batches_once S M bytes b j k o p (line_is_not_built e l) (file_is_bad f) = absurd (cc)
batches_once S M bytes b j k o p (line_is_not_built {f = x} {n = n} e l) (line_is_not_built {f = y} {n = m} f i) =
    let h : x ≡ y = cc in
    let g : n ≡ m = cc in (ap not_built g, refl)
batches_once S M bytes b j k o p (line_is_not_built {f = x} e l) (file_is_loaded {f = y} f i h) = let q : x ≡ y = cc in absurd (cc)
batches_once S M bytes b j k o p (file_is_loaded e l h) (file_is_bad f) = absurd (cc)
batches_once S M bytes b j k o p (file_is_loaded {f = x} e l h) (line_is_not_built {f = y} f i) = let q : x ≡ y = cc in absurd (cc)
batches_once S M bytes b j k o p (file_is_loaded {f = x} {o = u} e l h) (file_is_loaded {f = y} {o = v} f i g) =
    let q : x ≡ y = cc in
    let r = loads_once S M [] (statements_of y.stated) b j k u v (subst (λ z. Loads S M [] (statements_of z.stated) b u j) q h) g in
    (ap loaded r.0, r.1)

pub answers_once : (S : Specification) (M : Name) (bytes : List ℕ) (b : ℕ) (a c : BatchAnswer) (u v : ℕ) → BatchAnswers S M bytes b a u → BatchAnswers S M bytes b c v → (a ≡ c) × (u ≡ v)
answers_once S M bytes b a c u v (o, (j, h, e), q) (p, (k, g, f), r) =
    let s = batches_once S M bytes b j k o p h g in
    (q ∙ ap (answer_of S.sorts M) s.0 ∙ sym r, omega (arith, e, f, s.1))
