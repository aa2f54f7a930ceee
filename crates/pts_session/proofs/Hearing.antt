-- What a session makes of an answer.
use Rattle.std.proofs.Common.{◌≡◌, ℕ, Bool, true, false, List, [], ◌∷◌, ◌++◌, Option, Some, None, Result, Ok, Err, IfOk, OnOk, refl, sym, ap, ◌∙◌, subst}
use Rattle.std.proofs.lemmas.Option.{same_Some, none-some}
use Rattle.pts_names.specs.Name.{Name}
use Rattle.pts_ctx.specs.Front.{Global, bare_front}
use Rattle.pts_ctx.specs.Seen.{place_of}
use Rattle.std.specs.Option.{option_map, option_or}
use Rattle.pts_rules.specs.Derives.{Legal}
use Rattle.pts_record.specs.declared.declaration.Declaration.{Declaration}
use Rattle.pts_check.specs.Entered.{declared_entries}
use Rattle.pts_core.specs.declared.port.Answer.{Answer}
use Rattle.pts_core.specs.declared.reply.Reply.{Reply}
use Rattle.pts_core.specs.declared.reply.Reply.TheVariants.{Seen, Committed, Faulty, Clash, Loaded, ContextFull}
use Rattle.pts_core.specs.Replies.{LabelledFront}
use Rattle.pts_core.specs.Ports.{handed_on}
use Rattle.pts_core.specs.ReplyText.{reply_text}
use Rattle.pts_draft.specs.Drafts as drafts
use Rattle.pts_session.specs.declared.request.Awaited.{Awaited}
use Rattle.pts_session.specs.declared.request.Awaited.TheVariants as awaited
use Rattle.pts_session.specs.State.{State}
use Rattle.pts_session.specs.Answers.{first_taken, front_in, reply_in, MayBeReply, Resume, moves, stays, has_entered, has_not_entered}
use Rattle.pts_session.specs.Seen.{SeenSession}
use Rattle.pts_session.specs.Players.{GoesOn, MayHear, Hears}
use Rattle.pts_session.specs.Moves.{is_look, moved_lines, moved_state}

-- The first name of a draft that is taken, by its declarations and by their entries.
pub taken_same : (G : List (Global Name)) (ds : List Declaration) → drafts.first_taken G ds ≡ first_taken G (declared_entries ds)
taken_same G [] = refl
taken_same G (d ∷ ds) = ap (option_or (option_map (λ place. (d.name, place)) (place_of d.name G))) (taken_same G ds)

handed_is : (r : Reply) (F G : LabelledFront) → handed_on r G ≡ Some F → F ≡ G
handed_is (Seen n) F G h = sym (same_Some G F h)
handed_is (Committed n m) F G h = sym (same_Some G F h)
handed_is (Faulty x k w) F G h = absurd (none-some F h)
handed_is (Clash x p) F G h = absurd (none-some F h)
handed_is (Loaded x p) F G h = absurd (none-some F h)
handed_is (ContextFull n) F G h = absurd (none-some F h)

-- The front that comes with an answer goes on from the base, and is legal.
same_front : (s : SeenSession) (a : Answer) (F : LabelledFront) (m : MayHear s a) → front_in a ≡ Some F → F ≡ m.front
same_front s a F m f = handed_is (reply_in a) F m.front (sym m.answered.handed ∙ f)

pub front_goes_on : (s : SeenSession) (a : Answer) (F : LabelledFront) → MayHear s a → front_in a ≡ Some F → GoesOn s.state.base F
front_goes_on s a F m f = subst (GoesOn s.state.base) (sym (same_front s a F m f)) m.answered.goes_on

pub front_legal : (s : SeenSession) (a : Answer) (F : LabelledFront) → MayHear s a → front_in a ≡ Some F → Legal s.system (bare_front F.entries)
front_legal s a F m f = subst (λ G. Legal s.system (bare_front G.entries)) (sym (same_front s a F m f)) m.answered.legal

-- What is asked for is a look, or a submission.
asked_look : (o : Option Awaited) (w : Awaited) → o ≡ Some w → is_look o ≡ true → w ≡ awaited.Look
asked_look o awaited.Look e l = refl
asked_look o awaited.Submission e l = absurd (let wrong : false ≡ true = sym (ap is_look e) ∙ l in cc wrong)

asked_submission : (o : Option Awaited) (w : Awaited) → o ≡ Some w → is_look o ≡ false → w ≡ awaited.Submission
asked_submission o awaited.Submission e l = refl
asked_submission o awaited.Look e l = absurd (let wrong : true ≡ false = sym (ap is_look e) ∙ l in cc wrong)

module _ (s : State) (a : Answer) where
  look_resumes : (F : LabelledFront) (r : Reply) (t : Option (Name × ℕ)) → reply_in a ≡ r → MayBeReply awaited.Look r → front_in a ≡ Some F → first_taken F.entries s.draft ≡ t → Resume (record { state = s; awaited = awaited.Look }) a (reply_text r ∷ moved_lines t) (moved_state s F t)
  look_resumes F (Seen n) None e m f g = moves refl e f g
  look_resumes F (Seen n) (Some t) e m f g = stays refl e f g
  look_resumes F (Committed n k) t e m f g = absurd m
  look_resumes F (Faulty x k w) t e m f g = absurd m
  look_resumes F (Clash x p) t e m f g = absurd m
  look_resumes F (Loaded x p) t e m f g = absurd m
  look_resumes F (ContextFull n) t e m f g = absurd m

  entered_resumes : (F G : LabelledFront) (r : Reply) → reply_in a ≡ r → MayBeReply awaited.Submission r → front_in a ≡ Some F → front_in a ≡ handed_on r G → Resume (record { state = s; awaited = awaited.Submission }) a (reply_text r ∷ []) (record s { base = F; draft = [] })
  entered_resumes F G (Committed n k) e m f h = has_entered refl e f
  entered_resumes F G (Seen n) e m f h = absurd m
  entered_resumes F G (Faulty x k w) e m f h = absurd (none-some F (sym h ∙ f))
  entered_resumes F G (Clash x p) e m f h = absurd (none-some F (sym h ∙ f))
  entered_resumes F G (Loaded x p) e m f h = absurd (none-some F (sym h ∙ f))
  entered_resumes F G (ContextFull n) e m f h = absurd (none-some F (sym h ∙ f))

  refused_resumes : (G : LabelledFront) (w : Awaited) (r : Reply) → reply_in a ≡ r → MayBeReply w r → front_in a ≡ None → front_in a ≡ handed_on r G → Resume (record { state = s; awaited = w }) a (reply_text r ∷ []) s
  refused_resumes G awaited.Submission r e m f h = has_not_entered refl e f
  refused_resumes G awaited.Look (Seen n) e m f h = absurd (none-some G (sym f ∙ h))
  refused_resumes G awaited.Look (Committed n k) e m f h = absurd m
  refused_resumes G awaited.Look (Faulty x k w) e m f h = absurd m
  refused_resumes G awaited.Look (Clash x p) e m f h = absurd m
  refused_resumes G awaited.Look (Loaded x p) e m f h = absurd m
  refused_resumes G awaited.Look (ContextFull n) e m f h = absurd m

module _ (s t : SeenSession) (a : Answer) (m : MayHear s a) (system : t.system ≡ s.system) (free : t.awaited ≡ None) where
  hears : (out given : List (List ℕ)) (u : State) → Resume (record { state = s.state; awaited = m.asked }) a given u → out ≡ given → t.state ≡ u → Hears s a out t
  hears out given u r e f = record {
    asked = m.asked;
    waits = m.waits;
    resumes = subst (λ l. Resume (record { state = s.state; awaited = m.asked }) a l t.state) (sym e) (subst (λ v. Resume (record { state = s.state; awaited = m.asked }) a given v) (sym f) r);
    system = system;
    free = free;
  }

  pub hears_look : (F : LabelledFront) (out : List (List ℕ)) → is_look s.awaited ≡ true → front_in a ≡ Some F → out ≡ (reply_text (reply_in a) ∷ []) ++ moved_lines (first_taken F.entries s.state.draft) → t.state ≡ moved_state s.state F (first_taken F.entries s.state.draft) → Hears s a out t
  hears_look F out l f e g =
      let w = asked_look s.awaited m.asked m.waits l in
      hears out _ _ (subst (λ v. Resume (record { state = s.state; awaited = v }) a (reply_text (reply_in a) ∷ moved_lines (first_taken F.entries s.state.draft)) (moved_state s.state F (first_taken F.entries s.state.draft))) (sym w)
      (look_resumes s.state a F (reply_in a) (first_taken F.entries s.state.draft) refl (subst (λ v. MayBeReply v (reply_in a)) w m.answered.reply) f refl)) e g

  pub hears_entered : (F : LabelledFront) (out : List (List ℕ)) → is_look s.awaited ≡ false → front_in a ≡ Some F → out ≡ reply_text (reply_in a) ∷ [] → t.state ≡ record s.state { base = F; draft = [] } → Hears s a out t
  hears_entered F out l f e g =
      let w = asked_submission s.awaited m.asked m.waits l in
      hears out _ _ (subst (λ v. Resume (record { state = s.state; awaited = v }) a (reply_text (reply_in a) ∷ []) (record s.state { base = F; draft = [] })) (sym w)
      (entered_resumes s.state a F m.front (reply_in a) refl (subst (λ v. MayBeReply v (reply_in a)) w m.answered.reply) f m.answered.handed)) e g

  pub hears_refused : (out : List (List ℕ)) → front_in a ≡ None → out ≡ reply_text (reply_in a) ∷ [] → t.state ≡ s.state → Hears s a out t
  hears_refused out f e g = hears out _ _ (refused_resumes s.state a m.front m.asked (reply_in a) refl m.answered.reply f m.answered.handed) e g

-- What a session makes of an answer with a front.
module _ {X E : Type 0} (items : X → List (List ℕ)) (s t : SeenSession) (a : Answer) (m : MayHear s a) (system : t.system ≡ s.system) (free : t.awaited ≡ None) (u : State) (same : u ≡ s.state) (F : LabelledFront) (given : front_in a ≡ Some F) (lines : List (List ℕ)) (reply : lines ≡ reply_text (reply_in a) ∷ []) where
  pub hears_front : (r : Result X E) (looked : Bool) → looked ≡ is_look s.awaited → (looked ≡ true → IfOk r (λ v. items v ≡ lines ++ moved_lines (first_taken F.entries u.draft))) → (looked ≡ true → OnOk r (t.state ≡ moved_state u F (first_taken F.entries u.draft))) → (looked ≡ false → IfOk r (λ v. items v ≡ lines)) → (looked ≡ false → OnOk r (t.state ≡ record u { base = F; draft = [] })) → IfOk r (λ v. Hears s a (items v) t)
  hears_front (Err e) looked l moved base begun empty = tt
  hears_front (Ok v) true l moved base begun empty =
      hears_look s t a m system free F (items v) (sym l) given
      (subst (λ w. items v ≡ (reply_text (reply_in a) ∷ []) ++ moved_lines (first_taken F.entries w.draft)) same (moved refl ∙ ap (λ k. k ++ moved_lines (first_taken F.entries u.draft)) reply))
      (subst (λ w. t.state ≡ moved_state w F (first_taken F.entries w.draft)) same (base refl))
  hears_front (Ok v) false l moved base begun empty =
      hears_entered s t a m system free F (items v) (sym l) given (begun refl ∙ reply)
      (subst (λ w. t.state ≡ record w { base = F; draft = [] }) same (empty refl))
