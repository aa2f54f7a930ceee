-- The answer of the check.
use Rattle.std.specs.Prelude.{ℕ, Option, Some, None}
use Rattle.pts_rules.specs.declared.why.Why.{Why}
use Rattle.pts_check.specs.declared.verdict.Verdict.{Verdict}
use Rattle.pts_check.specs.declared.verdict.Verdict.TheVariants.{Valid, Faulty}

-- A record is valid, or faulty at its least node that is no instance of its form.
abbrev pub verdict_of : Option (ℕ × Why) → Verdict
verdict_of None = Valid
verdict_of (Some f) = Faulty f.0 f.1
