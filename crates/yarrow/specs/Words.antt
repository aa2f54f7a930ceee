-- The lines that `check` prints.
use Rattle.std.specs.Prelude.{ℕ, List, ◌++◌, codes}
use Rattle.std.specs.Fmt.{decimal}
use Rattle.pts_rules.specs.FaultText.{why_text}
use Rattle.pts_certificate.specs.FaultText.{certificate_text}
use Rattle.pts_certificate.specs.declared.fault.CertificateFault.{CertificateFault}
use Rattle.yarrow.specs.declared.enter.Refusal.{Refusal}
use Rattle.yarrow.specs.declared.enter.Refusal.TheVariants.{Clash, Full, Faulty}

abbrev pub valid_line : ℕ → List ℕ
valid_line n = codes "valid " ++ (decimal n ++ codes "\n")

abbrev pub unreadable_line : CertificateFault → List ℕ
unreadable_line e = codes "unreadable " ++ (certificate_text e ++ codes "\n")

abbrev pub refusal_line : Refusal → List ℕ
refusal_line (Clash x k) = codes "clash " ++ (x ++ (codes " " ++ (decimal k ++ codes "\n")))
refusal_line Full = codes "full 200000\n"
refusal_line (Faulty x k w) = codes "faulty " ++ (x ++ (codes " " ++ (decimal k ++ (codes " " ++ (why_text w ++ codes "\n")))))
