-- The ways in which a run of `replay` ends.
use Rattle.std.proofs.Common.{◌≡◌, ℕ, ◌≤◌, ◌⊎◌, inl, inr, List, [], ◌++◌, length, take, refl, sym, ap, ◌∙◌, subst, arith, true, Option, Some, None, unwrap_or}
use Rattle.std.specs.Prelude.{IfSome, codes}
use Rattle.std.specs.Io.KnownBytes.{append_known}
use Rattle.pts_ctx.specs.System.{Specification}
use Rattle.pts_names.specs.Name.{Name}
use Rattle.pts_ctx.specs.Front.{Global, bare_front}
use Rattle.pts_ctx.specs.Seen.{SeenContext}
use Rattle.pts_rules.specs.Derives.{Legal}
use Rattle.pts_io.specs.Counts.{raised, Rose}
use Rattle.pts_io.specs.Ends.{IsCount}
use Rattle.pts_io.specs.States.{SourceState, SinkState, LibraryState}
use Rattle.pts_io.specs.declared.ended.Ended.{Ended}
use Rattle.pts_io.specs.declared.ended.Ended.TheVariants.{Whole, ReadFailed, TooMuch, WriteFailed, NoMemory}
use Rattle.pts_core.specs.declared.port.Answer.{Answer}
use Rattle.pts_core.specs.Replies.{LabelledFront}
use Rattle.pts_core.specs.Histories.{Past, no_entries, replay}
use Rattle.pts_core.specs.Cores.{labelled}
use Rattle.pts_play.specs.Machines.{Outcome, done, asks}
use Rattle.pts_play.specs.Rounds.{OrderFrom}
use Rattle.pts_play.specs.Play.{Playing, PlaysRound, none_yet}
use Rattle.pts_play.proofs.Mapped.{outcome_of}
use Rattle.pts_replay.specs.Endings.{Shows, EndPlays, LeftAt, PlaysSome, first_lines}
use Rattle.pts_replay.proofs.Mapped.{seen, round, end_seen}
use Rattle.pts_session.specs.declared.request.Awaited.TheVariants as awaited
use Rattle.pts_session.specs.declared.request.Request.{Request}
use Rattle.pts_session.specs.declared.table.CoreTable.{CoreTable}
use Rattle.pts_session.specs.State.{State, Waiting}
use Rattle.pts_session.specs.Lines.{ComesTo}
use Rattle.pts_session.specs.Answers.{Resume}
use Rattle.pts_session.specs.Seen.{SeenSession}
use Rattle.pts_session.specs.Players.{RunsLine, Hears}
use Rattle.pts_session.specs.Ports.{CoreSteps}
use Rattle.yarrow.specs.declared.system.Unready.{Unready}
use Rattle.yarrow.specs.Runs.{Takes, TakesNothing, Prints, PrintsLine, Writes}
use Rattle.yarrow.specs.Systems.{IsReady, IsUnready, UnreadyPrints}
use Rattle.yarrow.specs.Replays.{Answers, Round, start, InputPrints, played, read_failed, too_long, no_memory, ReplayPrints, no_system, plays, IsReplayRun}
use Rattle.yarrow.specs.Plays.{history_of, state_in, seen_play, IsLeft, PlayEnded, EndPrints}
use Rattle.yarrow.proofs.FormatEnds.{writes_after, writes_nothing}
use Rattle.yarrow.proofs.BatchEnds.{writes_map}

-- A session of the program does what its state does.
waiting_of : SeenSession → Waiting
waiting_of s = record { state = s.state; awaited = unwrap_or s.awaited awaited.Look }

line_said : (S : Specification) (s : SeenSession) (text : List ℕ) (o : Outcome SeenSession SeenSession Request) → RunsLine S s text o → ComesTo S s.state text (outcome_of state_in waiting_of o)
unfolding waiting_of
line_said S s text (done replies t) r = r.line
line_said S s text (asks q t) r = subst (λ a. ComesTo S s.state text (asks q (record { state = t.state; awaited = unwrap_or a awaited.Look }))) (sym r.awaits) r.line

heard : (s t : SeenSession) (a : Answer) (replies : List (List ℕ)) → Hears s a replies t → Resume (waiting_of s) a replies t.state
unfolding waiting_of
heard s t a replies h = subst (λ w. Resume (record { state = s.state; awaited = unwrap_or w awaited.Look }) a replies t.state) (sym h.waits) h.resumes

rounds : (S : Specification) (p q : Playing CoreTable SeenSession) (numbers : List ℕ) (out : List (List ℕ)) → PlaysRound (λ c n q a d. CoreSteps c.core n q a d.core) (λ s text o. RunsLine S s text o) (λ s a replies t. Hears s a replies t) OrderFrom p numbers out q → Round S (seen_play p) numbers out (seen_play q)
rounds S p q numbers out r = round history_of state_in waiting_of (λ c n q a d. CoreSteps c.core n q a d.core) (λ s text o. RunsLine S s text o) (λ s a replies t. Hears s a replies t) Answers (ComesTo S) Resume (λ c d n q a s. s.answered) (line_said S) heard OrderFrom p q numbers out r

left_so : (e : Ended) (q now : Playing CoreTable SeenSession) → LeftAt e q now → IsLeft e (seen_play q) now.orders (history_of now.core)
left_so Whole q now is = (ap (λ p. p.orders) is, ap (λ p. history_of p.core) is)
left_so ReadFailed q now is = (ap (λ p. p.orders) is, ap (λ p. history_of p.core) is)
left_so TooMuch q now is = (ap (λ p. p.orders) is, ap (λ p. history_of p.core) is)
left_so WriteFailed q now is = (ap (λ p. p.orders) is, ap (λ p. history_of p.core) is)
left_so NoMemory q now is = is

-- The play of the program as it is seen.
pub play_ended : (S : Specification) (s t : SourceState) (old mid : SinkState) (e : Ended) (p now : Playing CoreTable SeenSession) → seen_play p ≡ start
    → ((n : ℕ) × (t.given ≡ raised s.given n) × IsCount 16777216 e n × ((bytes : List ℕ) × (out : List ℕ) × (q : Playing CoreTable SeenSession) × IfSome s.left (λ all. bytes ≡ all) × (n ≤ length bytes) × Shows e old.written mid.written out
    × EndPlays (PlaysRound (λ c n q a d. CoreSteps c.core n q a d.core) (λ s text o. RunsLine S s text o) (λ s a replies t. Hears s a replies t) OrderFrom) true 16777216 e n bytes p out q × LeftAt e q now))
    → PlayEnded S s t old mid e now.orders (history_of now.core)
play_ended S s t old mid e p now first r =
    let (n, given, count, rest) = r in
    let (bytes, out, q, all, few, shown, ends, left) = rest in
    let seen_ends = end_seen history_of state_in (PlaysRound (λ c n q a d. CoreSteps c.core n q a d.core) (λ s text o. RunsLine S s text o) (λ s a replies t. Hears s a replies t) OrderFrom) (Round S) (rounds S) true 16777216 e n bytes out p q ends in
    (n, given, count, (bytes, out, seen_play q, all, few, shown, subst (λ b. EndPlays (Round S) true 16777216 e n bytes b out (seen_play q)) first seen_ends, left_so e q now left))

-- The ends of the input.
module _ (S : Specification) (s t : SourceState) (old mid new : SinkState) (st : ℕ) (orders : List (List ℕ)) (h : List Past) (F : LabelledFront) (front : F ≡ replay h) where
  -- with the orders and the front of the play
  at : (q : Playing (List Past) State) (status : ℕ) (text : List ℕ) → (orders ≡ q.orders) × (h ≡ q.core) → InputPrints S s t status text q.orders (replay q.core) → InputPrints S s t status text orders F
  at q status text is p = subst (λ G. InputPrints S s t status text orders G) (sym (front ∙ ap replay is.1)) (subst (λ o. InputPrints S s t status text o (replay q.core)) (sym is.0) p)

  pub input_end : (e : Ended) → (e ≡ ReadFailed → Rose s.faults t.faults) → (¬ (e ≡ ReadFailed) → t.faults ≡ s.faults) → (e ≡ WriteFailed → Rose old.faults mid.faults) → (¬ (e ≡ WriteFailed) → mid.faults ≡ old.faults) → PlayEnded S s t old mid e orders h → EndPrints e mid new st → Writes (λ z out. InputPrints S s t z out orders F) old new st
  input_end Whole rf reads wf writes r w =
      let (n, given, few, rest) = r in
      let (bytes, out, q, all, inside, shown, says, left) = rest in
      let p = at q 0 out left (played n bytes out q few inside (given, reads (λ h. cc h)) all says) in
      inl (out, subst (λ z. InputPrints S s t z out orders F) (sym w.0) p, subst (λ k. Prints old k out) (sym w.1) (shown, writes (λ h. cc h)))
  input_end ReadFailed rf reads wf writes r w =
      let (n, given, few, rest) = r in
      let (bytes, out, q, all, inside, shown, says, left) = rest in
      writes_after (λ z o. InputPrints S s t z o orders F) old mid new st 4 out (codes "read failed\n") (shown, writes (λ h. cc h)) (at q 4 (out ++ codes "read failed\n") left (read_failed n bytes out q few inside given (rf refl) all says)) w
  input_end TooMuch rf reads wf writes r w =
      let (n, given, count, rest) = r in
      let (bytes, out, q, all, inside, shown, says, left) = rest in
      writes_after (λ z o. InputPrints S s t z o orders F) old mid new st 8 out (codes "input too long\n") (shown, writes (λ h. cc h)) (at q 8 (out ++ codes "input too long\n") left (too_long bytes out q (omega (arith, count, inside)) (given ∙ ap (raised s.given) count, reads (λ h. cc h)) all says)) w
  input_end WriteFailed rf reads wf writes r w =
      let (n, given, few, rest) = r in
      let (bytes, out, q, all, inside, shown, says, left) = rest in
      let p = subst (λ o. InputPrints S s t 7 out o F) (sym left.0) (no_memory n bytes out q F few inside (given, reads (λ h. cc h)) all says) in
      inr (w.0, (7, out, p, subst (λ k. Rose old.faults k.faults × ((m : ℕ) × (m ≤ length out) × (k.written ≡ append_known old.written (take m out)))) (sym w.1) (wf refl, shown)))
  input_end NoMemory rf reads wf writes r w =
      let (n, given, few, rest) = r in
      let (bytes, out, q, all, inside, shown, says, left) = rest in
      let p = subst (λ o. InputPrints S s t 7 out o F) (sym left) (no_memory n bytes out q F few inside (given, reads (λ h. cc h)) all says) in
      inl (out, subst (λ z. InputPrints S s t z out orders F) (sym w.0) p, subst (λ k. Prints old k out) (sym w.1) (shown, writes (λ h. cc h)))

-- There was no memory for a play.
some_bytes : (left : Option (List ℕ)) → (bytes : List ℕ) × IfSome left (λ all. bytes ≡ all)
some_bytes None = ([], tt)
some_bytes (Some all) = (all, refl)

pub no_play : (S : Specification) (s : SourceState) (old : SinkState) (st : ℕ) (orders : List (List ℕ)) (F : LabelledFront) → st ≡ 7 → orders ≡ [] → Writes (λ z out. InputPrints S s s z out orders F) old old st
no_play S s old st orders F e none =
    let (bytes, all) = some_bytes s.left in
    let p : InputPrints S s s 7 [] [] F = no_memory 0 bytes [] start F (omega arith) (omega arith) (omega arith, refl) all (first_lines 0 bytes none_yet (omega arith)) in
    writes_nothing (λ z out. InputPrints S s s z out orders F) old st 7 e (subst (λ o. InputPrints S s s 7 [] o F) (sym none) p)

-- A context with these entries and labels.
abbrev front_with : List (Global Name) → List (Name × ℕ) → LabelledFront
front_with G L = record { entries = G; labels = L }

pub same_front : (G H : List (Global Name)) (L M : List (Name × ℕ)) (F : LabelledFront) → G ≡ H → L ≡ M → F ≡ front_with H M → front_with G L ≡ F
same_front G H L M F g l f = ap (λ K. front_with K L) g ∙ (ap (λ K. front_with H K) l ∙ sym f)

-- A context with the front of the core, after its room may have changed.
pub left_front : (c d : SeenContext) (h : List Past) → c.entries ≡ d.entries → c.labels ≡ d.labels → labelled d ≡ replay h → labelled c ≡ replay h
left_front c d h g l f = same_front c.entries d.entries c.labels d.labels (replay h) g l (sym f)

-- The orders of the play are those that are handed back.
pub same_orders : (S : Specification) (s t : SourceState) (old mid : SinkState) (e : Ended) (os ps : List (List ℕ)) (h : List Past) → ps ≡ os → PlayEnded S s t old mid e os h → PlayEnded S s t old mid e ps h
same_orders S s t old mid e os ps h same p = subst (λ o. PlayEnded S s t old mid e o h) (sym same) p

-- The ends of a run.
module _ (name : List ℕ) (h i : LibraryState) (s t : SourceState) (old new : SinkState) (st : ℕ) (orders : List (List ℕ)) (F : LabelledFront) where
  -- where there is a system
  pub ready_run : (S : Specification) → IsReady h i name S → Legal S (bare_front F.entries) → Writes (λ z out. InputPrints S s t z out orders F) old new st → IsReplayRun name h i s t old new st orders F
  ready_run S ready l w = writes_map (λ z o. InputPrints S s t z o orders F) (λ z o. ReplayPrints name h i s t z o orders F) old new st (λ z o p. plays S ready l p) w

  -- where there is none
  pub unready_run : (why : Unready) → IsUnready h i name why → TakesNothing s t → orders ≡ [] → F.entries ≡ [] → F.labels ≡ [] → Writes (UnreadyPrints name why) old new st → IsReplayRun name h i s t old new st orders F
  unready_run why is taken none g l w =
      let empty : F ≡ no_entries = same_front F.entries [] F.labels [] no_entries g l refl in
      subst (λ G. Writes (λ z o. ReplayPrints name h i s t z o orders G) old new st) (sym empty)
      (subst (λ os. Writes (λ z o. ReplayPrints name h i s t z o os no_entries) old new st) (sym none)
      (writes_map (UnreadyPrints name why) (λ z o. ReplayPrints name h i s t z o [] no_entries) old new st (λ z o p. no_system why is taken p) w))
