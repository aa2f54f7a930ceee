-- Why sessions are players: what a round needs of them holds by the definitions.
use Rattle.std.proofs.Common.{◌≡◌, ℕ, List, [], ◌++◌, Some, refl, sym, ap, ◌∙◌, subst}
use Rattle.std.proofs.lemmas.List.{append_assoc, append-nil}
use Rattle.std.proofs.lemmas.Option.{same_Some, none-some}
use Rattle.pts_ctx.specs.System.{Specification}
use Rattle.pts_ctx.specs.Seen.{IsPrefix}
use Rattle.pts_ctx.specs.Front.{bare_front}
use Rattle.pts_rules.specs.Derives.{Legal}
use Rattle.pts_core.specs.declared.port.Answer.{Answer}
use Rattle.pts_core.specs.declared.reply.Reply.{Reply}
use Rattle.pts_core.specs.declared.reply.Reply.TheVariants.{Seen, Committed, Faulty, Clash, Loaded, ContextFull}
use Rattle.pts_core.specs.Replies.{LabelledFront}
use Rattle.pts_core.specs.Ports.{handed_on}
use Rattle.pts_lines.specs.declared.line.Line.{Line}
use Rattle.pts_names.specs.Name.{Name}
use Rattle.pts_play.specs.Machines.{done, asks}
use Rattle.pts_statement.specs.Statements.{Statement}
use Rattle.pts_session.specs.declared.request.Request.{Request}
use Rattle.pts_session.specs.declared.request.Request.TheVariants as request
use Rattle.pts_session.specs.State.{State, Waiting, awaited_after, IsRequestOf}
use Rattle.pts_session.specs.Declaring.{Declares, unknown_word, name_is_taken, is_stopped, is_spent, enters}
use Rattle.pts_session.specs.Renaming.{RenamesEntry, is_not_there, new_name_is_taken, gets_new_name}
use Rattle.pts_session.specs.Lines.{Does, looks, commits, assumes_type, defines_name, sets_budget, infers, reduces, compares, renames, discards, shows, lists_draft, ComesTo, is_no_line, is_refused, is_done}
use Rattle.pts_session.specs.Answers.{reply_in, Resume, moves, stays, has_entered, has_not_entered}
use Rattle.pts_session.specs.Laws.{HasBase, old_base, new_base}
use Rattle.pts_session.specs.Seen.{SeenSession}
use Rattle.pts_session.specs.Players.{GoesOn, AnswersAt, MayHear, RunsLine, Hears, IsFree, Awaits, FitsTo}
use Rattle.pts_session.specs.Ports.{MayAsk}

-- A line keeps the base.
declares_keep : (S : Specification) (s t : State) (d : Statement) (replies : List (List ℕ)) → Declares S s d replies t → t.base ≡ s.base
declares_keep S s t d replies (unknown_word e) = refl
declares_keep S s t d replies (name_is_taken e f) = refl
declares_keep S s t d replies (is_stopped n e f w) = refl
declares_keep S s t d replies (is_spent e f w) = refl
declares_keep S s t d replies (enters n e f w) = refl

renames_keep : (s t : State) (x y : Name) (replies : List (List ℕ)) → RenamesEntry s x y replies t → t.base ≡ s.base
renames_keep s t x y replies (is_not_there e) = refl
renames_keep s t x y replies (new_name_is_taken e f) = refl
renames_keep s t x y replies (gets_new_name e f) = refl

does_keep : (S : Specification) (s t : State) (c : Line) (replies : List (List ℕ)) → Does S s c (done replies t) → t.base ≡ s.base
does_keep S s t c replies (assumes_type d) = declares_keep S s t _ replies d
does_keep S s t c replies (defines_name d) = declares_keep S s t _ replies d
does_keep S s t c replies sets_budget = refl
does_keep S s t c replies (infers a) = refl
does_keep S s t c replies (reduces a) = refl
does_keep S s t c replies (compares a) = refl
does_keep S s t c replies (renames d) = renames_keep s t _ _ replies d
does_keep S s t c replies discards = refl
does_keep S s t c replies (shows a) = refl
does_keep S s t c replies lists_draft = refl

pub lines_keep : (S : Specification) (s t : State) (text : List ℕ) (replies : List (List ℕ)) → ComesTo S s text (done replies t) → t.base ≡ s.base
lines_keep S s t text replies (is_no_line m r) = refl
lines_keep S s t text replies (is_refused l f) = refl
lines_keep S s t text replies (is_done {c = c} l f d) = does_keep S s t c replies d

-- A line that asks keeps the state, and the request is one of that state.
does_ask : (S : Specification) (s : State) (c : Line) (q : Request) (w : Waiting) → Does S s c (asks q w) → (w ≡ record { state = s; awaited = awaited_after q }) × IsRequestOf S s q
does_ask S s c q w looks = (refl, tt)
does_ask S s c q w (commits o) = (refl, o)

pub lines_ask : (S : Specification) (s : State) (text : List ℕ) (q : Request) (w : Waiting) → ComesTo S s text (asks q w) → (w ≡ record { state = s; awaited = awaited_after q }) × IsRequestOf S s q
lines_ask S s text q w (is_done {c = c} l f d) = does_ask S s c q w d

-- An answer leaves the base, or moves it to the front that came with it.
pub answers_move : (w : Waiting) (a : Answer) (replies : List (List ℕ)) (t : State) → Resume w a replies t → HasBase w.state a t.base
answers_move w a replies t (moves l r f n) = new_base f
answers_move w a replies t (stays l r f n) = old_base refl
answers_move w a replies t (has_entered l r f) = new_base f
answers_move w a replies t (has_not_entered l r f) = old_base refl

-- A list begins with itself, and with what a list begins with that it begins with.
pub prefix_of_itself : {A : Type 0} (xs : List A) → IsPrefix xs xs
prefix_of_itself xs = ([], append-nil xs)

pub prefix_on : {A : Type 0} (xs ys zs : List A) → IsPrefix xs ys → IsPrefix ys zs → IsPrefix xs zs
prefix_on xs ys zs (a, p) (b, q) = (a ++ b, sym (append_assoc xs a b) ∙ (ap (λ l. l ++ b) p ∙ q))

-- One front that goes on from another goes on from that from which the other does.
pub goes_further : (F G H : LabelledFront) → GoesOn F G → GoesOn G H → GoesOn F H
goes_further F G H a b = record { entries = prefix_on F.entries G.entries H.entries a.entries b.entries; labels = prefix_on F.labels G.labels H.labels a.labels b.labels }

-- What is handed on is the front.
handed_is : (r : Reply) (F G : LabelledFront) → handed_on r G ≡ Some F → F ≡ G
handed_is (Seen n) F G h = sym (same_Some G F h)
handed_is (Committed n m) F G h = sym (same_Some G F h)
handed_is (Faulty x k w) F G h = absurd (none-some F h)
handed_is (Clash x p) F G h = absurd (none-some F h)
handed_is (Loaded x p) F G h = absurd (none-some F h)
handed_is (ContextFull n) F G h = absurd (none-some F h)

module _ (S : Specification) where
  pub stays_free : (s t : SeenSession) (text : List ℕ) (replies : List (List ℕ)) → IsFree S s → RunsLine S s text (done replies t) → IsFree S t
  stays_free s t text replies f r = record { system = r.system ∙ f.system; free = r.awaits }

  same_state : (s t : SeenSession) (text : List ℕ) (q : Request) → RunsLine S s text (asks q t) → t.state ≡ s.state
  same_state s t text q r = ap (λ w. w.state) (lines_ask S s.state text q (record { state = t.state; awaited = awaited_after q }) r.line).0

  pub waits : (s t : SeenSession) (text : List ℕ) (q : Request) → IsFree S s → RunsLine S s text (asks q t) → Awaits S t q
  waits s t text q f r = record {
    system = r.system ∙ f.system;
    awaits = r.awaits;
    request = subst (λ u. IsRequestOf S u q) (sym (same_state s t text q r)) (lines_ask S s.state text q (record { state = t.state; awaited = awaited_after q }) r.line).1;
  }

  pub done_fits : (s t : SeenSession) (text : List ℕ) (replies : List (List ℕ)) (T : Specification) (F : LabelledFront) → FitsTo S s T F → RunsLine S s text (done replies t) → FitsTo S t T F
  done_fits s t text replies T F f r = record {
    system = r.system ∙ f.system;
    core = f.core;
    base = subst (λ b. GoesOn b F) (sym (lines_keep S s.state t.state text replies r.line)) f.base;
  }

  pub asks_fits : (s t : SeenSession) (text : List ℕ) (q : Request) (T : Specification) (F : LabelledFront) → FitsTo S s T F → RunsLine S s text (asks q t) → FitsTo S t T F
  asks_fits s t text q T F f r = record {
    system = r.system ∙ f.system;
    core = f.core;
    base = subst (λ u. GoesOn u.base F) (sym (same_state s t text q r)) f.base;
  }

  pub may_ask : (s : SeenSession) (q : Request) (T : Specification) (F : LabelledFront) → FitsTo S s T F → Awaits S s q → MayAsk T F q
  may_ask s request.Look T F f a = tt
  may_ask s (request.Submit x) T F f a =
      let g = subst (λ b. GoesOn b F) (sym a.request.front) f.base in
      (a.request.system ∙ sym f.core, (g.entries, g.labels))

  pub may_answer : (s : SeenSession) (q : Request) (a : Answer) (T : Specification) (F G : LabelledFront) → FitsTo S s T F → Awaits S s q → AnswersAt T F (awaited_after q) a G → (s.system ≡ S) × MayHear s a
  may_answer s q a T F G f w h = (
    f.system,
    record {
      asked = awaited_after q;
      waits = w.awaits;
      front = G;
      answered = record {
        reply = h.reply;
        handed = h.handed;
        goes_on = goes_further s.state.base F G f.base h.goes_on;
        legal = subst (λ R. Legal R (bare_front G.entries)) (f.core ∙ sym f.system) h.legal;
      };
    },
  )

  pub resumed : (s t : SeenSession) (a : Answer) (replies : List (List ℕ)) (T U : Specification) (F G : LabelledFront) (q : Request) → FitsTo S s T F → AnswersAt T F (awaited_after q) a G → U ≡ T → Hears s a replies t → IsFree S t × FitsTo S t U G
  resumed s t a replies T U F G q f h e r = (
    record { system = r.system ∙ f.system; free = r.free },
    record { system = r.system ∙ f.system; core = e ∙ f.core; base = by t.state.base (answers_move (record { state = s.state; awaited = r.asked }) a replies t.state r.resumes) },
  )
    where
      by : (B : LabelledFront) → HasBase s.state a B → GoesOn B G
      by B (old_base same) = subst (λ b. GoesOn b G) (sym same) (goes_further s.state.base F G f.base h.goes_on)
      by B (new_base came) = subst (λ b. GoesOn b G) (sym (handed_is (reply_in a) B G (sym h.handed ∙ came))) (record { entries = prefix_of_itself G.entries; labels = prefix_of_itself G.labels })

  pub others : (s : SeenSession) (a : Answer) (T U : Specification) (F G : LabelledFront) (q : Request) → FitsTo S s T F → AnswersAt T F (awaited_after q) a G → U ≡ T → FitsTo S s U G
  others s a T U F G q f h e = record { system = f.system; core = e ∙ f.core; base = goes_further s.state.base F G f.base h.goes_on }
