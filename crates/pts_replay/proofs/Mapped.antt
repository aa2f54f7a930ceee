-- A play of the program's sessions and core is a play of the states that these are seen as.
use Rattle.std.proofs.Common.{ℕ, ◌≤◌, Bool, List, [], map, take, All, sym, subst}
use Rattle.std.proofs.lemmas.List.{length-map}
use Rattle.pts_play.specs.Machines.{Outcome, Event, Happens, nothing, one_more as one_event}
use Rattle.pts_play.specs.Rounds.{order_of}
use Rattle.pts_play.specs.Play.{Playing, PlaysRound, PlaysLine, is_added, runs_round, is_refused, Played, none_yet, one_more, PlaysRest, IsEnd, no_byte, end_line, no_rest, last_round, PlaysAll}
use Rattle.pts_play.proofs.Mapped.{outcome_of, each_runs}
use Rattle.pts_io.specs.Lines.{IsText}
use Rattle.pts_io.specs.declared.ended.Ended.{Ended}
use Rattle.pts_io.specs.declared.ended.Ended.TheVariants.{Whole, ReadFailed, TooMuch, WriteFailed, NoMemory}
use Rattle.pts_replay.specs.Endings.{PlaysWhole, PlaysSome, first_lines, all_lines, PlaysFirst, EndPlays}

module _ {C D P State : Type 0} (core : C → D) (state : P → State) where
  -- The play, as it is seen.
  abbrev pub seen : Playing C P → Playing D State
  seen p = record { core = core p.core; sessions = map state p.sessions; lines = p.lines; orders = p.orders }

  module _ {Waiting Q A : Type 0} (waiting : P → Waiting) (Step : C → ℕ → Q → A → C → Type 0) (Line : P → List ℕ → Outcome P P Q → Type 0) (Hears : P → A → List (List ℕ) → P → Type 0) (Next : D → ℕ → Q → A → D → Type 0) (Local : State → List ℕ → Outcome State Waiting Q → Type 0) (Resume : Waiting → A → List (List ℕ) → State → Type 0) (steps : (c d : C) (n : ℕ) (q : Q) (a : A) → Step c n q a d → Next (core c) n q a (core d)) (does : (p : P) (text : List ℕ) (o : Outcome P P Q) → Line p text o → Local (state p) text (outcome_of state waiting o)) (hears : (p q : P) (a : A) (out : List (List ℕ)) → Hears p a out q → Resume (waiting p) a out (state q)) (chosen : (numbers order : List ℕ) → Type 0) where
    happens : {c e : C} {events : List (Event Q A)} → Happens Step c events e → Happens Next (core c) events (core e)
    happens nothing = nothing
    happens (one_event {D = d} {E = e} n call h s) = one_event n call (happens h) (steps d e n call.request call.answer s)

    pub round : (p q : Playing C P) (numbers : List ℕ) (out : List (List ℕ)) → PlaysRound Step Line Hears chosen p numbers out q → PlaysRound Next Local Resume chosen (seen p) numbers out (seen q)
    round p q numbers out r = record {
      events = r.events;
      replies = r.replies;
      known = subst (λ count. All (λ n. (1 ≤ n) × (n ≤ count)) (order_of r.events)) (sym (length-map p.sessions state)) r.known;
      order = r.order;
      steps = happens r.steps;
      runs = each_runs state waiting Line Hears Local Resume does hears r.runs;
      printed = r.printed;
      emptied = r.emptied;
      recorded = r.recorded;
    }

  module _ (Round : Playing C P → (numbers : List ℕ) → (out : List (List ℕ)) → Playing C P → Type 0) (Seen : Playing D State → (numbers : List ℕ) → (out : List (List ℕ)) → Playing D State → Type 0) (rounds : (p q : Playing C P) (numbers : List ℕ) (out : List (List ℕ)) → Round p numbers out q → Seen (seen p) numbers out (seen q)) (numbered : Bool) where
    line : {k : ℕ} {text : List ℕ} {out : List (List ℕ)} {p q : Playing C P} → PlaysLine Round IsText numbered k text p out q → PlaysLine Seen IsText numbered k text (seen p) out (seen q)
    line {p = p} (is_added {n} few says) = is_added (subst (λ count. n ≤ count) (sym (length-map p.sessions state)) few) says
    line {p = p} (runs_round {numbers} {out} {q} says r) = runs_round says (rounds p q numbers out r)
    line (is_refused says) = is_refused says

    played : {bytes : List ℕ} {p : Playing C P} {k : ℕ} {left printed : List ℕ} {q : Playing C P} → Played Round IsText numbered bytes p k left printed q → Played Seen IsText numbered bytes (seen p) k left printed (seen q)
    played none_yet = none_yet
    played (one_more h some l) = one_more (played h) some (line l)

    rest : {out : List (List ℕ)} {p q : Playing C P} → PlaysRest Round IsText numbered p out q → PlaysRest Seen IsText numbered (seen p) out (seen q)
    rest (no_rest e) = no_rest e
    rest {p = p} (last_round {out} {q} some r) = last_round some (rounds p q [] out r)

    ends : {left : List ℕ} → IsEnd Round IsText numbered left → IsEnd Seen IsText numbered left
    ends (no_byte e) = no_byte e
    ends (end_line some says) = end_line some says

    all : {bytes printed : List ℕ} {p q : Playing C P} → PlaysAll Round IsText numbered bytes p printed q → PlaysAll Seen IsText numbered bytes (seen p) printed (seen q)
    all a = record { count = a.count; left = a.left; before = a.before; last = seen a.last; out = a.out; played = played a.played; ends = ends a.ends; rest = rest a.rest; whole = a.whole }

    whole : (n : ℕ) (bytes printed : List ℕ) (p q : Playing C P) → PlaysWhole Round numbered n bytes p printed q → PlaysWhole Seen numbered n bytes (seen p) printed (seen q)
    unfolding all
    whole n bytes printed p q (plays, few) = (all plays, few)

    some : {n : ℕ} {bytes : List ℕ} {p : Playing C P} {printed : List ℕ} {q : Playing C P} → PlaysSome Round numbered n bytes p printed q → PlaysSome Seen numbered n bytes (seen p) printed (seen q)
    some (first_lines k left h few) = first_lines k left (played h) few
    some {n} {bytes} {p} (all_lines {printed} {q} w) = all_lines (whole n bytes printed p q w)

    first : (bytes printed : List ℕ) (p q : Playing C P) → PlaysFirst Round numbered bytes p printed q → PlaysFirst Seen numbered bytes (seen p) printed (seen q)
    first bytes printed p q (front, left, is, fed, none, (k, h)) = (front, left, is, fed, none, (k, played h))

    pub end_seen : (limit : ℕ) (e : Ended) (n : ℕ) (bytes printed : List ℕ) (p q : Playing C P) → EndPlays Round numbered limit e n bytes p printed q → EndPlays Seen numbered limit e n bytes (seen p) printed (seen q)
    end_seen limit Whole n bytes printed p q h = whole n bytes printed p q h
    end_seen limit ReadFailed n bytes printed p q h = first (take n bytes) printed p q h
    end_seen limit TooMuch n bytes printed p q h = first (take limit bytes) printed p q h
    end_seen limit WriteFailed n bytes printed p q h = some h
    end_seen limit NoMemory n bytes printed p q h = some h
