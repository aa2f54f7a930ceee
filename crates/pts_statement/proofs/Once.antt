-- A statement comes to one outcome at most, at one cost.
use Rattle.std.proofs.Common.{◌≡◌, ℕ, refl, sym, ap, ◌∙◌, subst}
use Rattle.pts_names.specs.Name.{Name, joined}
use Rattle.pts_ctx.specs.System.{Specification}
use Rattle.pts_reduce_cost.specs.Costs.{Globals}
use Rattle.pts_infer_cost.specs.Typing.{by_flaw, stops}
use Rattle.pts_declare.specs.Checking.{turned, Checks}
use Rattle.pts_declare.proofs.Once.{checks_once}
use Rattle.pts_statement.specs.Statements.{Statement, name_of}
use Rattle.pts_statement.specs.Declaring.{unread, taken, ill_typed, StatementOutcome, Declares, unknown_word, taken_name, checked}

pub declares_once : (S : Specification) (M : Name) (G : Globals) (d : Statement) (o p : StatementOutcome) (m n : ℕ) → Declares S M G d o m → Declares S M G d p n → (o ≡ p) × (m ≡ n)
declares_once S M G d o p m n (unknown_word {e = e} q) (unknown_word {e = f} r) = let h : e ≡ f = cc in (ap (λ g. stops (by_flaw (unread g))) h, refl)
declares_once S M G d o p m n (unknown_word q) (taken_name r k) = absurd (cc)
declares_once S M G d o p m n (unknown_word q) (checked u r k c f) = absurd (cc)
declares_once S M G d o p m n (taken_name q k) (unknown_word r) = absurd (cc)
declares_once S M G d o p m n (taken_name {k = i} q k) (taken_name {k = j} r l) = let h : i ≡ j = cc in (ap (λ g. stops (by_flaw (taken (joined M (name_of d)) g))) h, refl)
declares_once S M G d o p m n (taken_name q k) (checked u r l c f) = absurd (cc)
declares_once S M G d o p m n (checked u q k c f) (unknown_word r) = absurd (cc)
declares_once S M G d o p m n (checked u q k c f) (taken_name r l) = absurd (cc)
declares_once S M G d o p m n (checked {s = s} u q k c f) (checked {s = t} v r l e g) =
    let h : s ≡ t = cc in
    let w = checks_once S G (joined M (name_of d)) t u v m n (subst (λ x. Checks S G (joined M (name_of d)) x u m) h c) e in
    (f ∙ ap (turned ill_typed (λ y. y)) w.0 ∙ sym g, w.1)
