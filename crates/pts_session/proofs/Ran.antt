-- A line that is run through a port.
use Rattle.std.proofs.Common.{◌≡◌, ℕ, List, [], ◌∷◌, Some, None, Result, Ok, Err, IfErr, sym, ◌∙◌, subst}
use Rattle.std.specs.Result.{IsErrAnd}
use Rattle.std.proofs.lemmas.Option.{same_Some}
use Rattle.pts_ctx.specs.System.{Specification}
use Rattle.pts_core.specs.declared.port.Answer.{Answer}
use Rattle.pts_core.specs.declared.port.PortFault.{PortFault}
use Rattle.pts_core.specs.declared.port.PortFault.TheVariants.{Memory}
use Rattle.pts_core.specs.Replies.{LabelledFront}
use Rattle.pts_core.specs.Histories.{Past}
use Rattle.pts_core.specs.Ports.{AfterOthers, IsAnswer}
use Rattle.pts_play.specs.Machines.{done, asks, begins, line_is_done, line_asks, is_answered}
use Rattle.pts_session.specs.declared.request.Request.{Request}
use Rattle.pts_session.specs.State.{awaited_after}
use Rattle.pts_session.specs.Lines.{ComesTo}
use Rattle.pts_session.specs.Answers.{Resume}
use Rattle.pts_session.specs.Seen.{SeenSession}
use Rattle.pts_session.specs.Players.{AnswersAt, MayHear, RunsLine, Hears, IsFree, FitsTo}
use Rattle.pts_session.specs.Ports.{MayAsk, event_of, IsAnswered, IsNotAnswered, no_call, one_call, RanLine, DidNotRun, asked_nothing, was_not_answered, lost_its_replies}
use Rattle.pts_session.specs.Playing as playing

-- A line that is done by itself.
module _ (S : Specification) (s t : SeenSession) (text : List ℕ) (out : List (List ℕ)) (l : ComesTo S s.state text (done out t.state)) (e : t.system ≡ s.system) (w : t.awaited ≡ None) where
  ran : RunsLine S s text (done out t)
  ran = record { line = l; system = e; awaits = w }

  pub done_ran : (n : ℕ) (may_come : List Past → Type 0) (h k : List Past) → k ≡ h → RanLine n may_come S h s.state text k out t.state
  done_ran n may_come h k same = subst (λ g. RanLine n may_come S h s.state text g out t.state) (sym same) (record { calls = []; runs = line_is_done begins l; makes = no_call })

  pub done_free : IsFree S s → IsFree S t
  done_free f = playing.stays_free S s t text out f ran

  pub done_fits : (T : Specification) (F : LabelledFront) → FitsTo S s T F → FitsTo S t T F
  done_fits T F f = playing.done_fits S s t text out T F f ran

-- A line that asks: its request may be put, and the session may hear the answer.
module _ (S : Specification) (s t : SeenSession) (text : List ℕ) (q : Request) (l : ComesTo S s.state text (asks q (record { state = t.state; awaited = awaited_after q }))) (e : t.system ≡ s.system) (w : t.awaited ≡ Some (awaited_after q)) (free : IsFree S s) (T : Specification) (F : LabelledFront) (fits : FitsTo S s T F) where
  asked : RunsLine S s text (asks q t)
  asked = record { line = l; system = e; awaits = w }

  fits_still : FitsTo S t T F
  fits_still = playing.asks_fits S s t text q T F fits asked

  pub may_put : MayAsk T F q
  may_put = playing.may_ask S t q T F fits_still (playing.waits S s t text q free asked)

  module _ (a : Answer) (G : LabelledFront) (at : AnswersAt T F (awaited_after q) a G) where
    pub may_hear : (t.system ≡ S) × MayHear t a
    may_hear = playing.may_answer S t q a T F G fits_still (playing.waits S s t text q free asked) at

    module _ (u : SeenSession) (out : List (List ℕ)) (h : Hears t a out u) where
      pub heard : (U : Specification) → U ≡ T → IsFree S u × FitsTo S u U G
      heard U same = playing.resumed S t u a out T U F G q fits_still at same h

      pub asked_ran : (n : ℕ) (may_come : List Past → Type 0) (h0 k : List Past) → AfterOthers n may_come h0 (λ g. IsAnswer (event_of n q) g k a) → RanLine n may_come S h0 s.state text k out u.state
      asked_ran n may_come h0 k after =
          let same : h.asked ≡ awaited_after q = same_Some h.asked (awaited_after q) (sym h.waits ∙ w) in
          record {
            calls = record { request = q; answer = a } ∷ [];
            runs = is_answered a (line_asks begins l) (subst (λ v. Resume (record { state = t.state; awaited = v }) a out u.state) same h.resumes);
            makes = one_call (record { request = q; answer = a }) after;
          }

-- A fault that is handed on is one of which this holds.
if_err : {T E : Type 0} (r : Result T E) (e : E) (P : E → Type 0) → IsErrAnd r (λ x. x ≡ e) → P e → IfErr r P
if_err (Ok x) e P h p = tt
if_err (Err f) e P h p = subst P (sym h) p

-- A line that did not run to its end.
module _ (S : Specification) (s t : SeenSession) (text : List ℕ) (n : ℕ) (may_come : List Past → Type 0) (h k : List Past) {T : Type 0} (r : Result T PortFault) where
  pub nothing_asked : IsErrAnd r (λ e. e ≡ Memory) → k ≡ h → IfErr r (DidNotRun n may_come S h s.state text k)
  nothing_asked m same = if_err r Memory (DidNotRun n may_come S h s.state text k) m (asked_nothing same)

  module _ (q : Request) (l : ComesTo S s.state text (asks q (record { state = t.state; awaited = awaited_after q }))) where
    pub not_answered : (e : PortFault) → IsErrAnd r (λ x. x ≡ e) → IsNotAnswered n may_come h e k → IfErr r (DidNotRun n may_come S h s.state text k)
    not_answered e m i = if_err r e (DidNotRun n may_come S h s.state text k) m (was_not_answered q (record { state = t.state; awaited = awaited_after q }) l i)

    pub replies_lost : (a : Answer) → IsErrAnd r (λ e. e ≡ Memory) → IsAnswered n may_come h q a k → IfErr r (DidNotRun n may_come S h s.state text k)
    replies_lost a m i = if_err r Memory (DidNotRun n may_come S h s.state text k) m (lost_its_replies q (record { state = t.state; awaited = awaited_after q }) a l i)
