-- The theorem of an open proof.
use Rattle.std.specs.Prelude.{List, map, reverse}
use Rattle.pts_record.specs.Table.{Tables, named_at}
use Rattle.pts_goals.specs.declared.step.FilledGoal.{FilledGoal}
use Rattle.pts_goals.specs.OpenProofs.{OpenProof}
use Rattle.pts_prove_cost.specs.Refinement.{Refinement}
use Rattle.pts_prove.specs.Refining.{refinement_of}
use Rattle.pts_theorem.specs.Theorems.{Theorem}

-- The refinements that steps are, the last one first.
abbrev pub refinements_of : Tables → List FilledGoal → List Refinement
refinements_of r ss = reverse (map (λ f. refinement_of r f.step) ss)

-- What an open proof proves, and how far it is.
abbrev pub theorem_of : OpenProof → Theorem
theorem_of p = record { name = p.name; statement = named_at p.scratch.shapes p.root.statement; refinements = refinements_of p.scratch p.steps }
