-- The answers of a core, as its sessions see them.
use Rattle.std.proofs.Common.{◌≡◌, ℕ, Bool, true, false, if◌then◌else◌, List, [], ◌∷◌, ◌++◌, length, Option, Some, None, IfSome, Result, Ok, Err, IfOk, IfErr, sym, ◌∙◌, subst}
use Rattle.std.proofs.lemmas.List.{append-nil}
use Rattle.std.specs.Option.{option_map, option_or, unwrap_or}
use Rattle.std.specs.Prelude.{nat_le, ◌+◌}
use Rattle.pts_names.specs.Name.{Name}
use Rattle.pts_ctx.specs.System.{Specification}
use Rattle.pts_ctx.specs.Front.{Global}
use Rattle.pts_ctx.specs.Seen.{IsPrefix, label_place}
use Rattle.pts_core.specs.declared.finding.Finding.{Finding}
use Rattle.pts_core.specs.declared.finding.Finding.TheVariants as finding
use Rattle.pts_core.specs.declared.reply.Reply.{Reply}
use Rattle.pts_core.specs.declared.reply.Reply.TheVariants.{Loaded, ContextFull}
use Rattle.pts_core.specs.declared.port.Answer.{Answer}
use Rattle.pts_core.specs.declared.port.PortFault.{PortFault}
use Rattle.pts_core.specs.declared.port.PortFault.TheVariants.{HistoryFull, Memory}
use Rattle.pts_core.specs.Replies.{LabelledFront, first_clash, faulty_reply, loaded_reply, clash_reply, full_reply, refusal_reply}
use Rattle.pts_core.specs.Histories.{Past, replay}
use Rattle.pts_core.specs.Cores.{SeenCore, IsLegalCore, front_of}
use Rattle.pts_core.specs.Ports.{AfterOthers, IsAnswer, IsNoAnswer}
use Rattle.pts_core.proofs.Fronts.{fronts_stay}
use Rattle.pts_session.specs.declared.request.Awaited.TheVariants as awaited
use Rattle.pts_session.specs.declared.request.Request.{Request}
use Rattle.pts_session.specs.declared.request.Request.TheVariants as request
use Rattle.pts_session.specs.State.{awaited_after}
use Rattle.pts_session.specs.Answers.{MayBeReply}
use Rattle.pts_session.specs.Players.{GoesOn, AnswersAt}
use Rattle.pts_session.specs.Playing.{goes_further}
use Rattle.pts_session.specs.Ports.{CoreSteps, MayAsk, event_of}

-- A submission is not answered as a look is.
abbrev Fits : Option Reply → Type 0
Fits o = IfSome o (MayBeReply awaited.Submission)

or_fits : (a b : Option Reply) → Fits a → Fits b → Fits (option_or a b)
or_fits None b f g = g
or_fits (Some r) b f g = f

unwrap_fits : (o : Option Reply) (r : Reply) → Fits o → MayBeReply awaited.Submission r → MayBeReply awaited.Submission (unwrap_or o r)
unwrap_fits None r f g = g
unwrap_fits (Some s) r f g = f

faulty_fits : (es : List (Global Name)) (f : Finding) → Fits (faulty_reply es f)
faulty_fits es finding.Sound = tt
faulty_fits es (finding.Doubled k) = tt
faulty_fits es (finding.Faulty k node why) = tt

loaded_fits : (labels : List (Name × ℕ)) (l : Option Name) → Fits (loaded_reply labels l)
loaded_fits labels None = tt
loaded_fits labels (Some l) = by (label_place l labels)
  where
    by : (o : Option ℕ) → Fits (option_map (λ place. Loaded l place) o)
    by None = tt
    by (Some p) = tt

clash_fits : (es : List (Global Name)) (c : Option (ℕ × ℕ)) → Fits (clash_reply es c)
clash_fits es None = tt
clash_fits es (Some c) = tt

full_fits : (n k : ℕ) → Fits (full_reply n k)
full_fits n k = by (nat_le (n + k) 200000)
  where
    by : (b : Bool) → Fits (if b then None else Some (ContextFull n))
    by true = tt
    by false = tt

refusal_fits : (F : LabelledFront) (es : List (Global Name)) (l : Option Name) (f : Finding) → Fits (refusal_reply F es l f)
unfolding refusal_reply
refusal_fits F es l f =
    or_fits (faulty_reply es f) _ (faulty_fits es f)
    (or_fits (loaded_reply F.labels l) _ (loaded_fits F.labels l)
    (or_fits (clash_reply es (first_clash F.entries es)) _ (clash_fits es (first_clash F.entries es)) (full_fits (length F.entries) (length es))))

may_be : (n : ℕ) (q : Request) (F : LabelledFront) → MayBeReply (awaited_after q) (event_of n q F).reply
may_be n request.Look F = tt
may_be n (request.Submit x) F = unwrap_fits (refusal_reply F _ x.offer.label x.finding) _ (refusal_fits F _ x.offer.label x.finding) tt

-- Whether there is an answer or not, the history goes on from what it was.
no_answer_goes_on : (e : PortFault) (h k : List Past) → IsNoAnswer e h k → IsPrefix h k
no_answer_goes_on (HistoryFull n) h k i = ([], append-nil h ∙ sym i.0)
no_answer_goes_on Memory h k i = ([], append-nil h ∙ sym i)

pub history_goes_on : (r : Result Answer PortFault) (event : LabelledFront → Past) (h k : List Past) → IfOk r (λ a. IsAnswer event h k a) → IfErr r (λ e. IsNoAnswer e h k) → IsPrefix h k
history_goes_on (Ok a) event h k i j = (event (replay h) ∷ [], sym i.later)
history_goes_on (Err e) event h k i j = no_answer_goes_on e h k j

-- An event that is answered leaves a front that goes on from the one before it.
grows : (h k : List Past) (e : Past) → k ≡ h ++ e ∷ [] → GoesOn (replay h) (replay k)
grows h k e same = subst (λ l. GoesOn (replay h) (replay l)) (sym same) (let f = fronts_stay h (e ∷ []) in record { entries = f.0; labels = f.1 })

pub answers_at : (S : Specification) (n : ℕ) (q : Request) (a : Answer) (h k : List Past) → IsAnswer (event_of n q) h k a → IsLegalCore S (replay k) k → AnswersAt S (replay h) (awaited_after q) a (replay k)
answers_at S n q a h k i l = record {
  reply = subst (MayBeReply (awaited_after q)) (sym i.reply) (may_be n q (replay h));
  handed = i.front;
  goes_on = grows h k (event_of n q (replay h)) i.later;
  legal = l.legal;
}

pub may_put : (C : SeenCore) (q : Request) → MayAsk C.system (replay C.history) q → IsLegalCore C.system (front_of C) C.history → MayAsk C.system (front_of C) q
may_put C q m l = subst (λ F. MayAsk C.system F q) l.replayed m

pub core_steps : (C D : SeenCore) (n : ℕ) (q : Request) (a : Answer) → IsAnswer (event_of n q) C.history D.history a → D.system ≡ C.system → IsLegalCore D.system (front_of D) D.history → CoreSteps C n q a D
core_steps C D n q a i s l = record {
  answered = i;
  system = s;
  answers = answers_at C.system n q a C.history D.history i (subst (λ S. IsLegalCore S (replay D.history) D.history) s (subst (λ F. IsLegalCore D.system F D.history) (sym l.replayed) l));
}

pub port_answers : (S T : Specification) (n : ℕ) (may_come : List Past → Type 0) (q : Request) (a : Answer) (h k : List Past) → T ≡ S → AfterOthers n may_come h (λ g. IsAnswer (event_of n q) g k a) → IsLegalCore T (replay k) k → AnswersAt S (replay h) (awaited_after q) a (replay k)
port_answers S T n may_come q a h k same o l =
    let at = answers_at S n q a (h ++ o.others) k o.met (subst (λ R. IsLegalCore R (replay k) k) same l) in
    let f = fronts_stay h o.others in
    record {
      reply = at.reply;
      handed = at.handed;
      goes_on = goes_further (replay h) (replay (h ++ o.others)) (replay k) (record { entries = f.0; labels = f.1 }) at.goes_on;
      legal = at.legal;
    }
