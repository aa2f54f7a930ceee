-- Lists of judgements that close lists of goals.
use Rattle.std.proofs.Common.{◌≡◌, ℕ, zero, suc, ◌<◌, ◌+◌, List, [], ◌∷◌, ◌++◌, length, refl, sym, ap, ◌∙◌, Some, None, true, arith}
use Rattle.std.specs.Prelude.{slice_get, slice_index_or}
use Rattle.pts_terms.specs.Tree.{Named}
use Rattle.pts_record.specs.Table.{Tables, named_at, at}
use Rattle.pts_grow.specs.declared.judged.Judged.{Judged}
use Rattle.pts_goals.specs.declared.step.Goal.{Goal}
use Rattle.pts_goals.specs.Steps.{Closes}
use Rattle.pts_goals.specs.OpenGoals.{AllClose, subjects_of}

pub all_length : (r : Tables) (gs : List Goal) (js : List Judged) → AllClose r gs js → length js ≡ length gs
all_length r [] [] h = refl
all_length r (g ∷ gs) (j ∷ js) h = ap suc (all_length r gs js h.1)
all_length r [] (j ∷ js) h = absurd h
all_length r (g ∷ gs) [] h = absurd h

pub ruleset parts = (all_length)
