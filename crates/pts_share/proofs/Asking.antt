-- What a session asks for in its turn.
use Rattle.std.proofs.Common.{◌≡◌, ℕ, List, [], ◌∷◌, ◌++◌, sym, ap, ◌∙◌, subst, Result, Ok, Err, IfOk, IfErr}
use Rattle.std.proofs.lemmas.List.{append-nil, append_assoc}
use Rattle.pts_ctx.specs.Seen.{IsPrefix}
use Rattle.pts_ctx.specs.System.{Specification}
use Rattle.pts_core.specs.declared.port.Answer.{Answer}
use Rattle.pts_core.specs.declared.port.PortFault.{PortFault}
use Rattle.pts_core.specs.declared.port.PortFault.TheVariants.{HistoryFull, Memory}
use Rattle.pts_core.specs.Replies.{LabelledFront}
use Rattle.pts_core.specs.Histories.{Past, replay}
use Rattle.pts_core.specs.Cores.{IsLegalCore, IsOver, MaySubmit, SeenCore, SeenExamined, front_of}
use Rattle.pts_core.specs.Ports.{IsAnswer, IsNoAnswer}
use Rattle.pts_core.proofs.Fronts.{fronts_stay}
use Rattle.pts_share.specs.Passes.{GoesOn, GrowsByOwn, Pass}

same_history : (e : PortFault) (k l : List Past) → IsNoAnswer e k l → l ≡ k
same_history (HistoryFull n) k l none = none.0
same_history Memory k l none = none

-- The history has the event then, or is as it was.
pub grows : (event : LabelledFront → Past) (k l : List Past) (has_turn : List Past → Pass → Type 0) (p : Pass) (r : Result Answer PortFault) → has_turn k p → ((F : LabelledFront) → (event F).session ≡ p.owner)
    → IfOk r (λ a. IsAnswer event k l a) → IfErr r (λ e. IsNoAnswer e k l) → GrowsByOwn has_turn p l
grows event k l has_turn p (Ok a) has own ok err = (k, event (replay k) ∷ [], has, sym ok.later, (own (replay k), tt))
grows event k l has_turn p (Err e) has own ok err = (k, [], has, append-nil k ∙ sym (same_history e k l err), tt)

prefix_on : {A : Type 0} (F G H : List A) → IsPrefix F G → IsPrefix G H → IsPrefix F H
prefix_on F G H a b = (a.0 ++ b.0, sym (append_assoc F a.0 b.0) ∙ (ap (λ K. K ++ b.0) a.1 ∙ b.1))

-- A front that the session has seen is a front of the core.
pub may_submit : (S : Specification) (s : ℕ) (h : List Past) (x : SeenExamined) (c : SeenCore) → x.system ≡ S → c.system ≡ S → IsOver x (replay h) → GoesOn s h c.history → IsLegalCore c.system (front_of c) c.history → MaySubmit x c
may_submit S s h x c of at over on legal =
    let stay = fronts_stay h on.0 in
    let left : replay (h ++ on.0) ≡ front_of c = ap replay on.1 ∙ legal.replayed in (
      of ∙ sym at,
      (
        prefix_on x.offer.front.entries (replay h).entries (front_of c).entries over.0 (subst (λ F. IsPrefix (replay h).entries F.entries) left stay.0),
        prefix_on x.offer.front.labels (replay h).labels (front_of c).labels over.1 (subst (λ F. IsPrefix (replay h).labels F.labels) left stay.1),
      ),
    )
