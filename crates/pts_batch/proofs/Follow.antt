-- Declarations that enter one after another.
use Rattle.std.proofs.Common.{◌≡◌, ℕ, List, [], ◌∷◌, ◌++◌, sym, subst}
use Rattle.pts_names.specs.Name.{Name}
use Rattle.pts_ctx.specs.System.{Specification}
use Rattle.pts_record.specs.declared.declaration.Declaration.{Declaration}
use Rattle.pts_check.specs.Entered.{declared}
use Rattle.pts_reduce_cost.specs.Costs.{Globals}
use Rattle.pts_reduce_cost.specs.Laws.{WithinBudget}
use Rattle.pts_infer_cost.specs.Typing.{comes}
use Rattle.pts_infer.specs.declared.answer.InferFault.TheVariants as infer
use Rattle.pts_declare.specs.declared.fault.DeclareFault.TheVariants as declare
use Rattle.pts_statement.specs.declared.fault.StatementFault.{StatementFault}
use Rattle.pts_statement.specs.declared.fault.StatementFault.TheVariants.{Read, Taken, Declare, Memory}
use Rattle.pts_statement.specs.Statements.{Statement}
use Rattle.pts_statement.specs.Declaring.{Declares}
use Rattle.pts_statement.specs.Refusals.{RefusesStatement}
use Rattle.pts_batch.specs.Loading.{Loaded, spent, Loads, statement_enters, statement_stops, statement_is_too_dear}
use Rattle.pts_batch.specs.declared.loading.LoadFault.{LoadFault}
use Rattle.pts_batch.specs.declared.loading.LoadFault.TheVariants as load
use Rattle.pts_batch.specs.Calls.{Stops, fault_at}

-- a statement of which nothing but this comes
module _ (S : Specification) (M : Name) (G : Globals) (n : ℕ) (d : Statement) (ds : List (ℕ × Statement)) (b : ℕ) where
  pub goes_on : (H : Globals) (r : Declaration) (j : ℕ) → WithinBudget (Declares S M G d) b (comes (declared r)) j → H ≡ G ++ declared r ∷ [] → (o : Loaded) (k : ℕ) → Loads S M H ds j o k → Loads S M G ((n, d) ∷ ds) b o k
  goes_on H r j w e o k l = statement_enters (declared r) w (subst (λ F. Loads S M F ds j o k) e l)

  pub ends_at : (e : StatementFault) (k : ℕ) → RefusesStatement S M G d e b k → Stops (λ c o j. Loads S M G ((n, d) ∷ ds) c o j) b k (fault_at n e)
  ends_at (Read e) k (m, h) = statement_stops h
  ends_at (Taken x p) k h = statement_stops h
  ends_at (Declare (declare.Infer part (infer.Flaw f))) k h = statement_stops h
  ends_at (Declare (declare.Infer part infer.Spent)) k (a, z, q) = subst (λ j. Loads S M G ((n, d) ∷ ds) b (spent n) j) (sym z) (statement_is_too_dear a)
  ends_at (Declare (declare.Infer part infer.Deep)) k (w, q) = statement_stops w
  ends_at (Declare (declare.Infer part infer.Memory)) k h = absurd h
  ends_at (Declare declare.Memory) k h = absurd h
  ends_at Memory k h = tt

-- what is so of the rest is so of all
pub passed_on : (t : LoadFault) (b c k : ℕ) (one all : ℕ → Loaded → ℕ → Type 0) → ((o : Loaded) (j : ℕ) → one c o j → all b o j) → Stops one c k t → Stops all b k t
passed_on (load.Refused n (Read e)) b c k one all f h = f _ k h
passed_on (load.Refused n (Taken x p)) b c k one all f h = f _ k h
passed_on (load.Refused n (Declare (declare.Infer part (infer.Flaw g)))) b c k one all f h = f _ k h
passed_on (load.Refused n (Declare (declare.Infer part infer.Spent))) b c k one all f h = f _ k h
passed_on (load.Refused n (Declare (declare.Infer part infer.Deep))) b c k one all f h = f _ k h
passed_on (load.Refused n (Declare (declare.Infer part infer.Memory))) b c k one all f h = h
passed_on (load.Refused n (Declare declare.Memory)) b c k one all f h = h
passed_on (load.Refused n Memory) b c k one all f h = h
passed_on load.Memory b c k one all f h = tt
