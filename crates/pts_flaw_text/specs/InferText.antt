-- How what stops an inference is printed: a flaw with the part that has it, and all else by its name alone.
use Rattle.std.specs.Prelude.{ℕ, List, codes}
use Rattle.pts_infer.specs.Answered.{flaw_seen}
use Rattle.pts_infer.specs.FaultText.{part_text}
use Rattle.pts_infer.specs.declared.answer.InferFault.{InferFault}
use Rattle.pts_infer.specs.declared.answer.InferFault.TheVariants as infer
use Rattle.pts_infer.specs.declared.part.Part.{Part}
use Rattle.pts_flaw_text.specs.FlawText.{flaw_text}

abbrev pub spent_text : List ℕ
spent_text = codes "Spent"

abbrev pub deep_text : List ℕ
deep_text = codes "Deep"

-- Running out of memory is never printed.
abbrev pub infer_text : (sorts : List (List ℕ)) → Part → InferFault → List ℕ
infer_text sorts part (infer.Flaw f) = flaw_text sorts (part_text part) (flaw_seen f)
infer_text sorts part infer.Spent = spent_text
infer_text sorts part infer.Deep = deep_text
infer_text sorts part infer.Memory = codes "Memory"
