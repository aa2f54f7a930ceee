-- A term for the goal.
use Rattle.std.proofs.Common.{◌≡◌, ℕ, sym, ap, ◌∙◌, subst, Result, Ok, Err}
use Rattle.std.specs.Result.{IsErr, IsErrAnd}
use Rattle.pts_terms.specs.Tree.{Named}
use Rattle.pts_record.specs.Table.{bare_at}
use Rattle.pts_grow.specs.declared.judged.Judged.{Judged}
use Rattle.pts_grow.specs.Judges.{Judges}
use Rattle.pts_infer.specs.declared.part.Part.TheVariants.{Whole}
use Rattle.pts_goals.specs.declared.step.Step.{Step}
use Rattle.pts_goals.specs.declared.step.Step.TheVariants.{Exact}
use Rattle.pts_goals.proofs.Kept.{closed_by}
use Rattle.pts_prove_cost.specs.Refinement.{by_term}
use Rattle.pts_prove_cost.specs.Commands.{limited, of_term, exacts}
use Rattle.pts_prove_cost.proofs.OneOutcome.{one_free, one_inferred, one_fitted}
use Rattle.pts_reduce.specs.Chain.{entries_of}
use Rattle.pts_prove.specs.declared.fault.ProveFault.{ProveFault}
use Rattle.pts_prove.specs.declared.work.Work.{Work}
use Rattle.pts_prove.specs.declared.work.Place.{Place}
use Rattle.pts_prove.specs.Refining.{refinement_of}
use Rattle.pts_prove.specs.Works.{Grown, IsAsked, IsNumberOf, IsFitted, FitsAt, Came, term_in, claim_in, sequent_at, inferring, fitting}
use Rattle.pts_prove.proofs.Working.{grown_trans}
use Rattle.pts_prove.proofs.Running.{stops, goes_on, comes_to}
use Rattle.pts_prove.proofs.Since.{term_stays, inferring_since, fitting_since, ended}

pub exact_fits : {w : Work} {p : Place} {t : ℕ} {j : Judged} → IsFitted w p.ctx t p.statement j → FitsAt w p (Exact j)
exact_fits {w} {p} {j = j} h = record {
  fits = λ g c s.
      closed_by w.proof.now g j (subst (λ c. Judges w.proof.now c j) (sym c) h.judged.judges) (ap (bare_at w.proof.now.shapes) (h.claim ∙ sym s));
}

module _ {a b : Work} {p : Place} {n : ℕ} (T : Named) (q : IsAsked a p) (g : Grown a b) (w : Came a b (term_in b) (Ok n) (limited T)) where
  -- the term is not inferred
  pub exact_uninferred : {c : Work} {r : Result Step ProveFault} {e : ProveFault} → IsErr r × IsErrAnd r (λ x. x ≡ e) → Came b c (claim_in c) (Err e) (inferring b p.ctx Whole n) → Came a c (refinement_of c.proof.now) r (exacts a.system.now a.front.now.entries (sequent_at a p) T)
  exact_uninferred i v = goes_on _ (one_free _) w (stops _ i (comes_to (inferring_since Whole n g q.place) v))

  module _ {c : Work} {j : Judged} (h : Grown b c) (v : Came b c (claim_in c) (Ok j) (inferring b p.ctx Whole n)) where
    -- it is not fitted
    pub exact_unfitted : {d : Work} {r : Result Step ProveFault} {e : ProveFault} → IsErr r × IsErrAnd r (λ x. x ≡ e) → Came c d (λ (k : Judged). tt) (Err e) (fitting c p.ctx Whole j.claim p.statement) → Came a d (refinement_of d.proof.now) r (exacts a.system.now a.front.now.entries (sequent_at a p) T)
    exact_unfitted i u =
        goes_on _ (one_free _) w (
        goes_on _ (one_inferred a.system.now a.front.now.entries (entries_of a.proof.now p.ctx) of_term (term_in b n)) (comes_to (inferring_since Whole n g q.place) v) (
        stops _ i (comes_to (fitting_since Whole j.claim (grown_trans g h) q.place q.statement) u)))

    -- it is
    pub exact_comes : {d : Work} {k : Judged} → Grown c d → IsNumberOf b n T → k.subject ≡ n → Came c d (λ (k : Judged). tt) (Ok k) (fitting c p.ctx Whole j.claim p.statement) → Came a d (refinement_of d.proof.now) (Ok (Exact k)) (exacts a.system.now a.front.now.entries (sequent_at a p) T)
    exact_comes {d} {k} l i e u =
        let x = ap by_term (ap (term_in d) e ∙ term_stays (grown_trans h l) i.term) in
        goes_on _ (one_free _) w (
        goes_on _ (one_inferred a.system.now a.front.now.entries (entries_of a.proof.now p.ctx) of_term (term_in b n)) (comes_to (inferring_since Whole n g q.place) v) (
        goes_on _ (one_fitted a.system.now a.front.now.entries (entries_of a.proof.now p.ctx) of_term (claim_in c j) (term_in a p.statement)) (comes_to (fitting_since Whole j.claim (grown_trans g h) q.place q.statement) u) (
        ended _ x)))
