-- The history of a core, as rounds see it.
use Rattle.std.specs.Prelude.{ℕ, List, map}
use Rattle.pts_core.specs.Histories.{Past}
use Rattle.pts_play.specs.Ports.{History}

-- Each event is an entry of its session.
abbrev pub owned : List Past → History Past
owned h = map (λ e. (e.session, e)) h

-- The core is the events of a history, in order.
abbrev pub events : History Past → List Past
events h = map (λ e. e.1) h

-- The sessions of events, in order.
abbrev pub sessions_of : List Past → List ℕ
sessions_of h = map (λ e. e.session) h
