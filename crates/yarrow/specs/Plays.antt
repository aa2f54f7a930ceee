-- The play of a source, as the code of `replay` goes through it.
use Rattle.std.specs.Prelude.{◌≡◌, ℕ, ◌≤◌, List, map, length, codes, None, true, IfSome}
use Rattle.std.proofs.Math.ListN.{replicate}
use Rattle.pts_ctx.specs.System.{Specification}
use Rattle.pts_io.specs.Counts.{raised}
use Rattle.pts_io.specs.Ends.{IsCount}
use Rattle.pts_io.specs.States.{SourceState, SinkState}
use Rattle.pts_io.specs.declared.ended.Ended.{Ended}
use Rattle.pts_io.specs.declared.ended.Ended.TheVariants.{Whole, ReadFailed, TooMuch, WriteFailed, NoMemory}
use Rattle.pts_core.specs.Histories.{Past, replay}
use Rattle.pts_play.specs.Play.{Playing}
use Rattle.pts_replay.specs.declared.replay.Replay.{Replay}
use Rattle.pts_replay.specs.Endings.{Shows, EndPlays}
use Rattle.pts_replay.specs.Games.{state_of, MayGoOn}
use Rattle.pts_session.specs.declared.request.Request.{Request}
use Rattle.pts_session.specs.declared.table.CoreTable.{CoreTable}
use Rattle.pts_session.specs.State.{State, new_session}
use Rattle.pts_session.specs.Seen.{SeenSession}
use Rattle.pts_session.specs.Players.{IsFree, FitsTo}
use Rattle.yarrow.specs.Runs.{PrintsLine}
use Rattle.yarrow.specs.Replays.{Round, start}

-- The core as its history, and a session as its state.
abbrev pub history_of : CoreTable → List Past
history_of t = t.core.history

abbrev pub state_in : SeenSession → State
state_in s = s.state

abbrev pub seen_play : Playing CoreTable SeenSession → Playing (List Past) State
seen_play p = record { core = history_of p.core; sessions = map state_in p.sessions; lines = p.lines; orders = p.orders }

-- New sessions in the system S.
abbrev pub all_new : Specification → List SeenSession
all_new S = replicate 64 (record { system = S; state = new_session; awaited = None })

-- The program's play is at the start, in the system S, and may go on.
pub record IsStart (S : Specification) (g : Replay SeenSession Request CoreTable) : Type 0 where
  pub system : g.core.core.system ≡ S
  pub start : seen_play (state_of g) ≡ start
  pub ready : MayGoOn (λ s. IsFree S s) (λ s t. FitsTo S s t.core.system (replay t.core.history) × Unit {0}) g

-- The play is left with the orders and the history of q. Where memory ran out the history may have gone on.
abbrev pub IsLeft : Ended → Playing (List Past) State → (orders : List (List ℕ)) → (history : List Past) → Type 0
IsLeft Whole q orders h = (orders ≡ q.orders) × (h ≡ q.core)
IsLeft ReadFailed q orders h = (orders ≡ q.orders) × (h ≡ q.core)
IsLeft TooMuch q orders h = (orders ≡ q.orders) × (h ≡ q.core)
IsLeft WriteFailed q orders h = (orders ≡ q.orders) × (h ≡ q.core)
IsLeft NoMemory q orders h = orders ≡ q.orders

-- The play from the start in the system S came to this end, with these orders and this history, where the sink was `old` and
-- is then `mid`.
abbrev pub PlayEnded : Specification → (s t : SourceState) → (old mid : SinkState) → Ended → (orders : List (List ℕ)) → (history : List Past) → Type 0
PlayEnded S s t old mid e orders h =
    (n : ℕ) × (t.given ≡ raised s.given n) × IsCount 16777216 e n × ((bytes : List ℕ) × (out : List ℕ) × (q : Playing (List Past) State)
    × IfSome s.left (λ all. bytes ≡ all) × (n ≤ length bytes) × Shows e old.written mid.written out
    × EndPlays (Round S) true 16777216 e n bytes start out q × IsLeft e q orders h)

-- What is printed last, and the status.
abbrev pub EndPrints : Ended → (old new : SinkState) → (status : ℕ) → Type 0
EndPrints Whole old new status = (status ≡ 0) × (new ≡ old)
EndPrints ReadFailed old new status = PrintsLine 4 (codes "read failed\n") old new status
EndPrints TooMuch old new status = PrintsLine 8 (codes "input too long\n") old new status
EndPrints WriteFailed old new status = (status ≡ 5) × (new ≡ old)
EndPrints NoMemory old new status = (status ≡ 7) × (new ≡ old)
