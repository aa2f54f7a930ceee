-- What a run of `replay` does.
use Rattle.std.specs.Prelude.{◌≡◌, ℕ, ◌<◌, ◌≤◌, List, [], ◌++◌, length, take, codes, true, IfSome}
use Rattle.std.proofs.Math.ListN.{replicate}
use Rattle.pts_ctx.specs.System.{Specification}
use Rattle.pts_ctx.specs.Front.{bare_front}
use Rattle.pts_rules.specs.Derives.{Legal}
use Rattle.pts_io.specs.Counts.{raised, Rose}
use Rattle.pts_io.specs.States.{SourceState, SinkState, LibraryState}
use Rattle.pts_core.specs.declared.port.Answer.{Answer}
use Rattle.pts_core.specs.Replies.{LabelledFront}
use Rattle.pts_core.specs.Histories.{Past, no_entries, replay}
use Rattle.pts_core.specs.Ports.{IsAnswer}
use Rattle.pts_play.specs.Rounds.{OrderFrom}
use Rattle.pts_play.specs.Play.{Playing, PlaysRound}
use Rattle.pts_replay.specs.Endings.{PlaysWhole, PlaysFirst, PlaysSome}
use Rattle.pts_session.specs.declared.request.Request.{Request}
use Rattle.pts_session.specs.State.{State, new_session}
use Rattle.pts_session.specs.Lines.{ComesTo}
use Rattle.pts_session.specs.Answers.{Resume}
use Rattle.pts_session.specs.Ports.{event_of}
use Rattle.yarrow.specs.declared.system.Unready.{Unready}
use Rattle.yarrow.specs.Runs.{Takes, TakesNothing, Writes}
use Rattle.yarrow.specs.Systems.{IsReady, IsUnready, UnreadyPrints}

-- The core by its history: the event that the session asks for comes next, and has this answer.
abbrev pub Answers : List Past → (session : ℕ) → Request → Answer → List Past → Type 0
Answers h n q a k = IsAnswer (event_of n q) h k a

-- A round of the sessions in the system S, in an order that is made from the numbers after `go`.
abbrev pub Round : Specification → Playing (List Past) State → (numbers : List ℕ) → (out : List (List ℕ)) → Playing (List Past) State → Type 0
Round S = PlaysRound Answers (ComesTo S) Resume OrderFrom

-- The start: nothing was asked of the core, and there are 64 new sessions.
abbrev pub start : Playing (List Past) State
start = record { core = []; sessions = replicate 64 new_session; lines = []; orders = [] }

-- The text that is printed for the input, where the sink does not fail, and the status that a run then ends with; the orders
-- of the rounds, and the front of the core. The bytes are all that the source has: those that it shows, and where it shows
-- none, some.
pub data InputPrints (S : Specification) (old new : SourceState) : (status : ℕ) → (text : List ℕ) → (orders : List (List ℕ)) → LabelledFront → Type 0 where
  -- 0: the input was played to its end, or to a line that ends the run
  played : (n : ℕ) (bytes out : List ℕ) (q : Playing (List Past) State) → n ≤ 16777216 → n ≤ length bytes → Takes old new n
      → IfSome old.left (λ all. bytes ≡ all)
      → PlaysWhole (Round S) true n bytes start out q
      → InputPrints S old new 0 out q.orders (replay q.core)
  -- 4: the source failed, as its count shows, when each line that it had given whole was played
  read_failed : (n : ℕ) (bytes out : List ℕ) (q : Playing (List Past) State) → n ≤ 16777216 → n ≤ length bytes → new.given ≡ raised old.given n → Rose old.faults new.faults
      → IfSome old.left (λ all. bytes ≡ all)
      → PlaysFirst (Round S) true (take n bytes) start out q
      → InputPrints S old new 4 (out ++ codes "read failed\n") q.orders (replay q.core)
  -- 8: byte 16,777,217 was taken, when each line that ends before it was played
  too_long : (bytes out : List ℕ) (q : Playing (List Past) State) → 16777216 < length bytes → Takes old new 16777217
      → IfSome old.left (λ all. bytes ≡ all)
      → PlaysFirst (Round S) true (take 16777216 bytes) start out q
      → InputPrints S old new 8 (out ++ codes "input too long\n") q.orders (replay q.core)
  -- 7: there was no memory for more, when some of the first lines were played, all from what was taken. The front may be
  -- one within a round, of which nothing was printed; so it is not said which
  no_memory : (n : ℕ) (bytes out : List ℕ) (q : Playing (List Past) State) (F : LabelledFront) → n ≤ 16777216 → n ≤ length bytes → Takes old new n
      → IfSome old.left (λ all. bytes ≡ all)
      → PlaysSome (Round S) true n bytes start out q
      → InputPrints S old new 7 out q.orders F

-- The same of a run, given the name of the specification. Where there is no system the status is 3, 6, 7 or 8, nothing is
-- taken from the source, and nothing is played. The front is legal in the system.
pub data ReplayPrints (name : List ℕ) (library library_after : LibraryState) (source source_after : SourceState) : (status : ℕ) → (text : List ℕ) → (orders : List (List ℕ)) → LabelledFront → Type 0 where
  no_system : {status : ℕ} {text : List ℕ} (why : Unready) → IsUnready library library_after name why → TakesNothing source source_after
      → UnreadyPrints name why status text
      → ReplayPrints name library library_after source source_after status text [] no_entries
  plays : {status : ℕ} {text : List ℕ} {orders : List (List ℕ)} {F : LabelledFront} (S : Specification) → IsReady library library_after name S
      → Legal S (bare_front F.entries)
      → InputPrints S source source_after status text orders F
      → ReplayPrints name library library_after source source_after status text orders F

-- A run of `replay` with a status, the orders of its rounds, and the front of the context that it hands back.
abbrev pub IsReplayRun : (name : List ℕ) → (library library_after : LibraryState) → (source source_after : SourceState) → (sink sink_after : SinkState) → (status : ℕ) → (orders : List (List ℕ)) → LabelledFront → Type 0
IsReplayRun name library library_after source source_after sink sink_after status orders F =
    Writes (λ st out. ReplayPrints name library library_after source source_after st out orders F) sink sink_after status
