-- The program's values as the definitions see them.
use Rattle.std.specs.Prelude.{List}
use Rattle.pts_play.specs.Machines.{Outcome, done, asks}
use Rattle.pts_play.specs.declared.machines.Local.{Local}
use Rattle.pts_play.specs.declared.machines.Local.TheVariants.{Done, Ask}

-- What a line came to, with the session after it.
abbrev pub outcome_of : {S Q : Type 0} → Local Q → S → Outcome S S Q
outcome_of (Done lines) s = done lines.items s
outcome_of (Ask q) s = asks q s
