-- How the refusal of a specification is printed.
use Rattle.std.specs.Prelude.{ℕ, List, ◌++◌, codes}
use Rattle.pts_ctx.specs.FaultText.{system_text}
use Rattle.pts_spec.specs.declared.fault.SpecFault.{SpecFault}
use Rattle.pts_spec.specs.declared.fault.SpecFault.TheVariants.{NotToml, Shape, System, Memory}

-- Running out of memory is no refusal.
abbrev pub specification_text : SpecFault → List ℕ
specification_text NotToml = codes "NotToml"
specification_text (Shape key) = codes "Shape " ++ key
specification_text (System e) = system_text e
specification_text Memory = codes "Memory"
