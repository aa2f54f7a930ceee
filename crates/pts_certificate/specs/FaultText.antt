-- How the refusal of a certificate is printed: its name and its value, with a blank before it.
use Rattle.std.specs.Prelude.{ℕ, List, ◌++◌, codes}
use Rattle.std.specs.Fmt.{decimal}
use Rattle.pts_ctx.specs.FaultText.{system_text}
use Rattle.pts_certificate.specs.declared.fault.CertificateFault.{CertificateFault}
use Rattle.pts_certificate.specs.declared.fault.CertificateFault.TheVariants.{BadLine, BadNumber, TooLarge, Truncated, System, Memory}

-- Running out of memory is no refusal.
abbrev pub certificate_text : CertificateFault → List ℕ
certificate_text (BadLine n) = codes "BadLine " ++ decimal n
certificate_text (BadNumber n) = codes "BadNumber " ++ decimal n
certificate_text (TooLarge n) = codes "TooLarge " ++ decimal n
certificate_text Truncated = codes "Truncated"
certificate_text (System e) = system_text e
certificate_text Memory = codes "Memory"
