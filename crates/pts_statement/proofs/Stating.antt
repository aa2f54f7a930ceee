-- What a statement comes to, by what is stated.
use Rattle.std.proofs.Common.{◌≡◌, ℕ, arith, refl, ap, sym, ◌∙◌, subst, None, Ok, Err}
use Rattle.pts_names.specs.Name.{Name, joined}
use Rattle.pts_ctx.specs.System.{Specification}
use Rattle.pts_ctx.specs.Seen.{place_of}
use Rattle.pts_reduce_cost.specs.Costs.{Globals}
use Rattle.pts_reduce_cost.specs.Laws.{WithinBudget, AboveBudget}
use Rattle.pts_infer_cost.specs.Typing.{by_flaw, comes, stops}
use Rattle.pts_infer.specs.declared.answer.InferFault.TheVariants as infer
use Rattle.pts_parser.specs.declared.fault.ReadFault.{ReadFault}
use Rattle.pts_parser.specs.declared.fault.ReadFault.TheVariants as read
use Rattle.pts_parser.specs.Resolution.{UnlessMemory}
use Rattle.pts_record.specs.declared.declaration.Declaration.{Declaration}
use Rattle.pts_check.specs.Entered.{declared}
use Rattle.pts_declare.specs.declared.fault.DeclareFault.{DeclareFault}
use Rattle.pts_declare.specs.declared.fault.DeclareFault.TheVariants as declare
use Rattle.pts_declare.specs.Stated.{Stated}
use Rattle.pts_declare.specs.Checking.{DeclareOutcome, turned, Checks}
use Rattle.pts_declare.specs.Refusals.{NotDeclared}
use Rattle.pts_statement.specs.declared.fault.StatementFault.{StatementFault}
use Rattle.pts_statement.specs.declared.fault.StatementFault.TheVariants.{Read, Taken, Declare, Memory}
use Rattle.pts_statement.specs.Statements.{Statement, name_of, stated, visible}
use Rattle.pts_statement.specs.Declaring.{taken, ill_typed, Declares, unknown_word, taken_name, checked}
use Rattle.pts_statement.specs.Refusals.{RefusesStatement, NotFree, read_fault, declare_fault}

module _ (S : Specification) (M : Name) (G : Globals) (d : Statement) where
  pub checked_within : (s : Stated) (o : DeclareOutcome) (b k : ℕ) → stated S.sorts (visible M G) d ≡ Ok s → place_of (joined M (name_of d)) G ≡ None → WithinBudget (Checks S G (joined M (name_of d)) s) b o k → WithinBudget (Declares S M G d) b (turned ill_typed (λ e. e) o) k
  checked_within s o b k r p (n, c, e) = (n, checked o r p c refl, e)

  above_checked : (s : Stated) (b : ℕ) → stated S.sorts (visible M G) d ≡ Ok s → place_of (joined M (name_of d)) G ≡ None → AboveBudget (Checks S G (joined M (name_of d)) s) b → AboveBudget (Declares S M G d) b
  above_checked s b r p a o n (unknown_word q) = absurd (cc)
  above_checked s b r p a o n (taken_name q f) = absurd (cc)
  above_checked s b r p a o n (checked {s = t} u q f c e) = let h : t ≡ s = cc in a u n (subst (λ v. Checks S G (joined M (name_of d)) v u n) h c)

  pub checked_refused : (s : Stated) (e : DeclareFault) (b k : ℕ) → stated S.sorts (visible M G) d ≡ Ok s → place_of (joined M (name_of d)) G ≡ None → NotDeclared S G (joined M (name_of d)) s e b k → RefusesStatement S M G d (declare_fault e) b k
  checked_refused s (declare.Infer part (infer.Flaw f)) b k r p h = checked_within s _ b k r p h
  checked_refused s (declare.Infer part infer.Spent) b k r p (a, z, q) = (above_checked s b r p a, z, (s, r, q))
  checked_refused s (declare.Infer part infer.Deep) b k r p (w, q) = (checked_within s _ b k r p w, (s, r, q))
  checked_refused s (declare.Infer part infer.Memory) b k r p h = absurd h
  checked_refused s declare.Memory b k r p h = tt

  pub not_free : (s : Stated) (e : StatementFault) (b : ℕ) → stated S.sorts (visible M G) d ≡ Ok s → NotFree (joined M (name_of d)) G e → RefusesStatement S M G d e b b
  not_free s (Taken x q) b r (f, p) = (0, subst (λ y. Declares S M G d (stops (by_flaw (taken y q))) 0) (sym f) (taken_name r p), omega arith)
  not_free s Memory b r h = tt
  not_free s (Read e) b r h = absurd h
  not_free s (Declare e) b r h = absurd h

  unknown_here : (e : ReadFault) (b : ℕ) → ¬ (e ≡ read.Memory) → stated S.sorts (visible M G) d ≡ Err e → RefusesStatement S M G d (Read e) b b
  unknown_here e b m r = (m, (0, unknown_word r, omega arith))

  pub unread_refused : (e : ReadFault) (b : ℕ) → UnlessMemory e (stated S.sorts (visible M G) d ≡ Err e) → RefusesStatement S M G d (read_fault e) b b
  unread_refused (read.BadChar p) b r = unknown_here (read.BadChar p) b (λ q. absurd (cc q)) r
  unread_refused (read.LongName p) b r = unknown_here (read.LongName p) b (λ q. absurd (cc q)) r
  unread_refused (read.Expected p k) b r = unknown_here (read.Expected p k) b (λ q. absurd (cc q)) r
  unread_refused (read.TooDeep p) b r = unknown_here (read.TooDeep p) b (λ q. absurd (cc q)) r
  unread_refused (read.UnknownName p x) b r = unknown_here (read.UnknownName p x) b (λ q. absurd (cc q)) r
  unread_refused (read.UnknownSort p w) b r = unknown_here (read.UnknownSort p w) b (λ q. absurd (cc q)) r
  unread_refused read.Memory b r = tt

-- the same of every statement of a name
module _ (S : Specification) (M : Name) (G : Globals) (x : Name) (s : Stated) (b k : ℕ) where
  here_free : (y : Name) → y ≡ joined M x → place_of y G ≡ None → (d : Statement) → name_of d ≡ x → place_of (joined M (name_of d)) G ≡ None
  here_free y q p d e = ap (λ z. place_of (joined M z) G) e ∙ sym (ap (λ z. place_of z G) q) ∙ p

  here_checked : (y : Name) → y ≡ joined M x → (d : Statement) → name_of d ≡ x → y ≡ joined M (name_of d)
  here_checked y q d e = q ∙ sym (ap (joined M) e)

  pub declared_by : (y : Name) → y ≡ joined M x → place_of y G ≡ None → (t : Declaration) → WithinBudget (Checks S G y s) b (comes (declared t)) k → (d : Statement) → name_of d ≡ x → stated S.sorts (visible M G) d ≡ Ok s → WithinBudget (Declares S M G d) b (comes (declared t)) k
  declared_by y q p t h d e f = checked_within S M G d s (comes (declared t)) b k f (here_free y q p d e) (subst (λ z. WithinBudget (Checks S G z s) b (comes (declared t)) k) (here_checked y q d e) h)

  pub refused_by : (y : Name) → y ≡ joined M x → place_of y G ≡ None → (e : DeclareFault) → NotDeclared S G y s e b k → (d : Statement) → name_of d ≡ x → stated S.sorts (visible M G) d ≡ Ok s → RefusesStatement S M G d (declare_fault e) b k
  refused_by y q p t h d e f = checked_refused S M G d s t b k f (here_free y q p d e) (subst (λ z. NotDeclared S G z s t b k) (here_checked y q d e) h)

module _ (S : Specification) (M : Name) (G : Globals) (x : Name) (s : Stated) (b : ℕ) where
  pub taken_by : (t : StatementFault) → NotFree (joined M x) G t → (d : Statement) → name_of d ≡ x → stated S.sorts (visible M G) d ≡ Ok s → RefusesStatement S M G d t b b
  taken_by t h d e f = not_free S M G d s t b f (subst (λ z. NotFree (joined M z) G t) (sym e) h)
