-- The lines of a text in order.
use Rattle.std.proofs.Common.{◌≡◌, ℕ, ◌+◌, List, ◌∷◌, sym, ◌∙◌, ap, ◌<◌, true}
use Rattle.std.specs.Prelude.{Result, Ok, Err}
use Rattle.pts_certificate.specs.declared.fault.CertificateFault.{CertificateFault}
use Rattle.pts_certificate.specs.declared.fault.LineFault.{LineFault}
use Rattle.pts_certificate.specs.declared.fault.LineFault.TheVariants.{BadLine, BadNumber, TooLarge, System, Memory}
use Rattle.pts_record.specs.declared.shape.Form.{Form}
use Rattle.pts_record.specs.declared.shape.Form.TheVariants.{Empty, Assume, Define, Bare}
use Rattle.pts_record.specs.Table.{AllBelow, terms_as}
use Rattle.pts_certificate.specs.Calls.{AnswersAs}
use Rattle.pts_certificate.specs.Certificate.{State, Written, step, read_lines, at_line, judges, UnlessMemory}

stops : (S : State) (n : ℕ) (line : List ℕ) (rest : List (List ℕ)) (w : LineFault) → step S line ≡ Err w → read_lines S n (line ∷ rest) ≡ Err (at_line n w)
stops S n line rest w refused = ap (λ r. elim r [ Ok T ↦ read_lines T (n + 1) rest | Err v ↦ Err (at_line n v) ]) refused

pub refused_at : {A : Type 0} (seen : A → State) (w : LineFault) (S : State) (n : ℕ) (line : List ℕ) (rest : List (List ℕ)) (whole : Result Written CertificateFault) →
    read_lines S n (line ∷ rest) ≡ whole → AnswersAs seen (Err w) (step S line) → UnlessMemory (at_line n w) (whole ≡ Err (at_line n w))
refused_at seen BadLine S n line rest whole same refused = sym same ∙ stops S n line rest BadLine refused
refused_at seen BadNumber S n line rest whole same refused = sym same ∙ stops S n line rest BadNumber refused
refused_at seen TooLarge S n line rest whole same refused = sym same ∙ stops S n line rest TooLarge refused
refused_at seen (System e) S n line rest whole same refused = sym same ∙ stops S n line rest (System e) refused
refused_at seen Memory S n line rest whole same refused = tt

-- The terms of a judgement stand.
pub judged_terms : (form : Form) (subject claim count : ℕ) → judges form ≡ true → AllBelow count (terms_as form subject claim) → (subject < count) × (claim < count)
judged_terms Empty subject claim count is below = absurd (cc is)
judged_terms Assume subject claim count is below = absurd (cc is)
judged_terms Define subject claim count is below = absurd (cc is)
judged_terms Bare subject claim count is below = absurd (cc is)
judged_terms _ subject claim count is below = (below.0, below.1.0)
