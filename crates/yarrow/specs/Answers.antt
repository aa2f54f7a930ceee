-- What `check` answers to a text.
use Rattle.std.specs.Prelude.{ℕ, List, [], length, Option, Some, None, Result, Ok, Err}
use Rattle.pts_names.specs.Name.{Name}
use Rattle.pts_ctx.specs.Front.{Global, bare_front}
use Rattle.pts_rules.specs.Derives.{Legal}
use Rattle.pts_certificate.specs.declared.fault.CertificateFault.{CertificateFault}
use Rattle.pts_certificate.specs.Certificate.{Written, certificate_of}
use Rattle.yarrow.specs.Enter.{Entered, enter_all}
use Rattle.yarrow.specs.Words.{valid_line, unreadable_line, refusal_line}
use Rattle.yarrow.specs.declared.enter.Refusal.{Refusal}

-- The status, the line that is printed, and the entries that were entered.
pub record Answered : Type 0 where
  pub status : ℕ
  pub line : List ℕ
  pub entries : List (Global Name)

abbrev pub answer_by : Option Refusal → List (Global Name) → Answered
answer_by None G = record { status = 0; line = valid_line (length G); entries = G }
answer_by (Some w) G = record { status = 1; line = refusal_line w; entries = G }

abbrev pub answer_entered : Entered → Answered
answer_entered e = answer_by e.refusal e.entries

abbrev pub answer_read : Result Written CertificateFault → Answered
answer_read (Ok w) = answer_entered (enter_all w.system [] w.declarations)
answer_read (Err e) = record { status = 1; line = unreadable_line e; entries = [] }

-- `valid N` for N declarations that all entered; `clash`, `full` or `faulty` for the first that did not; `unreadable`
-- for a text that is no certificate.
unfoldable pub answer_to : List ℕ → Answered
answer_to text = answer_read (certificate_of text)

-- The entries are legal by the system of the certificate.
abbrev pub IsLegalBy : Result Written CertificateFault → List (Global Name) → Type 0
IsLegalBy (Ok w) G = Legal w.system (bare_front G)
IsLegalBy (Err e) G = Legal (record { sorts = []; axioms = []; rules = [] }) (bare_front G)
