-- A history with one more event.
use Rattle.std.proofs.Common.{◌≡◌, ◌≤◌, ◌<◌, ℕ, List, [], ◌∷◌, ◌++◌, ◌⊎◌, length, Some, refl, sym, ap, ◌∙◌, subst, arith}
use mathlib.Core.Logic.{inl, inr}
use Rattle.std.proofs.lemmas.List.{length-append}
use Rattle.pts_names.specs.Name.{Name}
use Rattle.pts_ctx.specs.System.{Specification}
use Rattle.pts_ctx.specs.Front.{Global, bare_front}
use Rattle.pts_rules.specs.Derives.{Legal, legal_empty}
use Rattle.pts_check.specs.Entered.{declared_entries}
use Rattle.pts_core.specs.declared.event.Event.{Event}
use Rattle.pts_core.specs.declared.event.Event.TheVariants.{Look, Submit}
use Rattle.pts_core.specs.declared.reply.Reply.{Reply}
use Rattle.pts_core.specs.declared.reply.Reply.TheVariants as reply
use Rattle.pts_core.specs.InnerNames.{NoneInner}
use Rattle.pts_core.specs.Findings.{finding_of}
use Rattle.pts_core.specs.Replies.{LabelledFront, refusal_reply, reply_to}
use Rattle.pts_core.specs.Histories.{Past, look, left_by, after, replay_from, replay, no_entries, Happens, IsHistoryFrom, IsHistory}
use Rattle.pts_core.specs.Cores.{SeenExamined, IsLegalCore, IsOver, submitted}
use Rattle.pts_core.specs.Events.{kept_event}
use Rattle.pts_core.specs.Obstacles.{IsFree}
use Rattle.pts_core.proofs.Numbers.{entries_long}
use Rattle.pts_core.proofs.Legality.{sound_enters}
use Rattle.pts_core.proofs.Refusals.{free_is_committed, refusal_stays}

replay_more : (F : LabelledFront) (h : List Past) (e : Past) → replay_from F (h ++ e ∷ []) ≡ after (replay_from F h) e
replay_more F [] e = refl
replay_more F (d ∷ h) e = replay_more (after F d) h e

history_more : (F : LabelledFront) (h : List Past) (e : Past) → IsHistoryFrom F h → Happens (replay_from F h) e → IsHistoryFrom F (h ++ e ∷ [])
history_more F [] e l p = (p, tt)
history_more F (d ∷ h) e l p = (l.0, history_more (after F d) h e l.1 p)

pub histories_grow : (h : List Past) (e : Past) → (replay (h ++ e ∷ []) ≡ after (replay h) e) × (IsHistory h → Happens (replay h) e → IsHistory (h ++ e ∷ []))
unfolding replay
histories_grow h e = (replay_more no_entries h e, λ l p. history_more no_entries h e l p)

pub none_inner_both : (G H : List (Global Name)) → NoneInner G → NoneInner H → NoneInner (G ++ H)
none_inner_both [] H g h = h
none_inner_both (e ∷ G) H g h = (g.0, none_inner_both G H g.1 h)

-- One more event that leaves a legal front without inner names.
legal_more : (S : Specification) (F G : LabelledFront) (h : List Past) (e : Past) → IsLegalCore S F h → Happens F e → G ≡ after F e → Legal S (bare_front G.entries) → NoneInner G.entries → length G.entries ≤ 200000 → length h < 4000000 → IsLegalCore S G (h ++ e ∷ [])
legal_more S F G h e s p q l n f m =
    let g = histories_grow h e in
    record {
      history = g.1 s.history (subst (λ K. Happens K e) (sym s.replayed) p);
      replayed = g.0 ∙ (ap (λ K. after K e) s.replayed ∙ sym q);
      legal = l;
      names = n;
      few = f;
      events = let b = length-append h (e ∷ []) in omega (arith, b, m);
    }

-- One more event that leaves the front as it is.
pub legal_still : (S : Specification) (F : LabelledFront) (h : List Past) (e : Past) → IsLegalCore S F h → Happens F e → F ≡ after F e → length h < 4000000 → IsLegalCore S F (h ++ e ∷ [])
legal_still S F h e s p q m = legal_more S F F h e s p q s.legal s.names s.few m

pub legal_new : (S : Specification) (G : List (Global Name)) (L : List (Name × ℕ)) (h : List Past) → G ≡ [] → L ≡ [] → h ≡ [] → IsLegalCore S (record { entries = G; labels = L }) h
unfolding replay
legal_new S G L h g l e = rw (g, l, e) (record {
  history = tt;
  replayed = refl;
  legal = legal_empty;
  names = tt;
  few = omega arith;
  events = omega arith;
})

-- A submission, with the reply r to it and the front G after it.
module _ (S : Specification) (F G : LabelledFront) (h : List Past) (s : ℕ) (x : SeenExamined) (r : Reply) (room : length h < 4000000) (legal : IsLegalCore S F h) (q : r ≡ reply_to F (declared_entries x.offer.declarations) x.offer.label x.finding) (g : G ≡ left_by F r (declared_entries x.offer.declarations) x.offer.label) where
  refused_legal : refusal_reply F (declared_entries x.offer.declarations) x.offer.label x.finding ≡ Some r → IsLegalCore S G (h ++ submitted s x F ∷ [])
  refused_legal n =
      let es = declared_entries x.offer.declarations in
      let e = refusal_stays F es x.offer.label x.finding r n in
      subst (λ K. IsLegalCore S K (h ++ submitted s x F ∷ [])) (sym (g ∙ e))
      (legal_still S F h (submitted s x F) legal (inr refl) (sym (ap (λ p. left_by F p es x.offer.label) (sym q) ∙ e)) room)

  entered_front : IsFree F x → G.entries ≡ F.entries ++ declared_entries x.offer.declarations
  entered_front m = ap (λ K. K.entries) (g ∙ ap (λ p. left_by F p (declared_entries x.offer.declarations) x.offer.label) (q ∙ free_is_committed F x m))

  entered_legal : x.system ≡ S → IsOver x F → x.finding ≡ finding_of x.system x.offer.front.entries x.offer.declarations → NoneInner (declared_entries x.offer.declarations) → IsFree F x → IsLegalCore S G (h ++ submitted s x F ∷ [])
  entered_legal t over found names m =
      let es = declared_entries x.offer.declarations in
      let e = entered_front m in
      let l = sound_enters S x.offer.front.entries F.entries x.offer.declarations over.0 legal.legal (ap (λ T. finding_of T x.offer.front.entries x.offer.declarations) (sym t) ∙ (sym found ∙ m.sound)) m.clash in
      legal_more S F G h (submitted s x F) legal (inr refl) (g ∙ ap (λ p. left_by F p es x.offer.label) q)
      (subst (λ K. Legal S (bare_front K)) (sym e) l)
      (subst NoneInner (sym e) (none_inner_both F.entries es legal.names names))
      (let b = ap length e ∙ length-append F.entries es in let w = entries_long x.offer.declarations in omega (arith, b, w, m.room)) room

  pub submitted_legal : x.system ≡ S → IsOver x F → x.finding ≡ finding_of x.system x.offer.front.entries x.offer.declarations → NoneInner (declared_entries x.offer.declarations) → (refusal_reply F (declared_entries x.offer.declarations) x.offer.label x.finding ≡ Some r) ⊎ IsFree F x → IsLegalCore S G (h ++ submitted s x F ∷ [])
  submitted_legal t over found names (inl n) = refused_legal n
  submitted_legal t over found names (inr m) = entered_legal t over found names m

-- What is kept of an event is what happened.
pub look_kept : (s n : ℕ) (a : Event) (F : LabelledFront) → a ≡ Look s → n ≡ length F.entries → kept_event s n a (reply.Seen n) ≡ look s F
look_kept s n a F e l = ap (λ b. kept_event s n b (reply.Seen n)) e ∙ ap (λ m. kept_event s m (Look s) (reply.Seen m)) l

pub submission_kept : (s n : ℕ) (a : Event) (r : Reply) (x : SeenExamined) (F : LabelledFront) → a ≡ Submit s x → n ≡ length x.offer.front.entries → r ≡ reply_to F (declared_entries x.offer.declarations) x.offer.label x.finding → kept_event s n a r ≡ submitted s x F
submission_kept s n a r x F e l q = ap (λ b. kept_event s n b r) e ∙ (ap (λ m. kept_event s m (Submit s x) r) l ∙ ap (kept_event s (length x.offer.front.entries) (Submit s x)) q)
