-- How the part that has a flaw is printed.
use Rattle.std.specs.Prelude.{ℕ, List, codes}
use Rattle.pts_infer.specs.declared.part.Part.{Part}
use Rattle.pts_infer.specs.declared.part.Part.TheVariants.{Whole, Ty, Goal}

abbrev pub part_text : Part → List ℕ
part_text Whole = codes "term"
part_text Ty = codes "type"
part_text Goal = codes "goal"
