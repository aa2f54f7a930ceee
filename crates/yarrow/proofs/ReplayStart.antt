-- The start of a play.
use Rattle.std.proofs.Common.{◌≡◌, ℕ, zero, suc, List, [], ◌∷◌, length, map, refl, sym, ap, ◌∙◌, subst, All, None}
use Rattle.std.specs.List.{AllByRecursion}
use Rattle.std.proofs.Math.ListN.{replicate}
use Rattle.std.proofs.lemmas.List.{length-map, length-replicate}
use Rattle.std.proofs.lemmas.List.Elements.{All-nil}
use Rattle.pts_ctx.specs.System.{Specification}
use Rattle.pts_core.specs.Replies.{LabelledFront}
use Rattle.pts_core.specs.Histories.{Past, no_entries, replay}
use Rattle.pts_play.specs.Inputs.{IsSession}
use Rattle.pts_play.specs.Play.{Playing}
use Rattle.pts_play.specs.Turns.{AllClear, NoLines, players}
use Rattle.pts_replay.specs.declared.replay.Replay.{Replay}
use Rattle.pts_replay.specs.Games.{state_of}
use Rattle.pts_session.specs.declared.request.Awaited.{Awaited}
use Rattle.pts_session.specs.declared.request.Request.{Request}
use Rattle.pts_session.specs.declared.table.CoreTable.{CoreTable}
use Rattle.pts_session.specs.State.{State, new_session}
use Rattle.pts_session.specs.Seen.{SeenSession}
use Rattle.pts_session.specs.Players.{IsFree, FitsTo, GoesOn}
use Rattle.yarrow.specs.Replays.{start}
use Rattle.yarrow.specs.Plays.{state_in, seen_play, all_new, IsStart}

-- A new session in the system S.
abbrev new_in : Specification → SeenSession
new_in S = record { system = S; state = new_session; awaited = None }

pub is_new : (S : Specification) (s : SeenSession) → s.system ≡ S → s.state ≡ new_session → s.awaited ≡ None → s ≡ new_in S
is_new S s e f g =
    let a : s ≡ record { system = S; state = s.state; awaited = s.awaited } = ap (λ x. record { system = x; state = s.state; awaited = s.awaited }) e in
    let b : record { system = S; state = s.state; awaited = s.awaited } ≡ record { system = S; state = new_session; awaited = s.awaited } = ap (λ x. record { system = S; state = x; awaited = s.awaited }) f in
    a ∙ (b ∙ ap (λ x. record { system = S; state = new_session; awaited = x }) g)

all_of : (P : SeenSession → Type 0) (x : SeenSession) → P x → (n : ℕ) → AllByRecursion P (replicate n x)
all_of P x p zero = tt
all_of P x p (suc n) = (p, all_of P x p n)

states_of : (S : Specification) (n : ℕ) → map state_in (replicate n (new_in S)) ≡ replicate n new_session
states_of S zero = refl
states_of S (suc n) = ap (λ ss. new_session ∷ ss) (states_of S n)

goes_on : (F : LabelledFront) → GoesOn no_entries F
goes_on F = record { entries = (F.entries, refl); labels = (F.labels, refl) }

fits : (S T : Specification) (F : LabelledFront) → T ≡ S → FitsTo S (new_in S) T F
fits S T F e = record { system = refl; core = e; base = goes_on F }

same_play : (p : Playing (List Past) State) → p.core ≡ [] → p.sessions ≡ replicate 64 new_session → p.lines ≡ [] → p.orders ≡ [] → p ≡ start
same_play p c s l o =
    let q : Playing (List Past) State = record { core = []; sessions = p.sessions; lines = p.lines; orders = p.orders } in
    let a : p ≡ q = ap (λ x. record { core = x; sessions = p.sessions; lines = p.lines; orders = p.orders }) c in
    a
    ∙ (ap (λ x. record { core = []; sessions = x; lines = p.lines; orders = p.orders }) s
    ∙ (ap (λ x. record { core = []; sessions = replicate 64 new_session; lines = x; orders = p.orders }) l
    ∙ ap (λ x. record { core = []; sessions = replicate 64 new_session; lines = []; orders = x }) o))

pub started : (S : Specification) (g : Replay SeenSession Request CoreTable) → g.core.core.system ≡ S → g.core.core.history ≡ [] → players g.seats.items ≡ all_new S → g.lines.items ≡ [] → g.orders.items ≡ [] → AllClear g.seats.items → NoLines g.seats.items → IsStart S g
started S g system history sessions lines orders clear bare = record {
  system = system;
  start = same_play (seen_play (state_of g)) history (ap (map state_in) sessions ∙ states_of S 64) lines orders;
  ready = record {
    sessions = sym (length-map g.seats.items (λ s. s.player)) ∙ (ap length sessions ∙ length-replicate 64 (new_in S));
    numbers = subst (All (λ l. IsSession l.0)) (sym lines) (All-nil (λ l. IsSession l.0));
    clear = clear;
    bare = bare;
    free = subst (AllByRecursion (λ s. IsFree S s)) (sym sessions) (all_of (λ s. IsFree S s) (new_in S) (record { system = refl; free = refl }) 64);
    fits = subst (AllByRecursion (λ s. FitsTo S s g.core.core.system (replay g.core.core.history) × Unit {0})) (sym sessions)
        (all_of (λ s. FitsTo S s g.core.core.system (replay g.core.core.history) × Unit {0}) (new_in S) (fits S g.core.core.system (replay g.core.core.history) system, tt) 64);
  };
}
