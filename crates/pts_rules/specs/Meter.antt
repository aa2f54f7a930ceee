-- Budgets in units.
use Rattle.std.specs.Prelude.{ℕ, ◌+◌, ◌-◌, nat_le, if◌then◌else◌}

-- How many units may be spent, and how many were.
pub record Units : Type 0 where
  pub limit : ℕ
  pub spent : ℕ

-- How many units are left.
abbrev pub left : Units → ℕ
left m = m.limit - m.spent

-- A meter that units were asked of: it has spent them where they were left, and else stands at its limit.
abbrev pub charged : Units → ℕ → Units
charged m units = record { limit = m.limit; spent = (if nat_le units (left m) then m.spent + units else m.limit) }
