use Rattle.std.proofs.Common.{◌≡◌, drop}
use Rattle.pts_draft.specs.Renaming.{declares}
use Rattle.pts_draft.proofs.renaming.declares.Given as goal

abbrev pub invariant-loop-declaration : goal.invariant-loop-declaration
invariant-loop-declaration l = declares (drop l.declaration-index l.declarations) l.name ≡ declares l.declarations l.name
