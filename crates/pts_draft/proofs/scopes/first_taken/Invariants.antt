use Rattle.std.proofs.Common.{◌≡◌, drop}
use Rattle.pts_draft.specs.Drafts.{first_taken}
use Rattle.pts_draft.proofs.scopes.first_taken.Given as goal

abbrev pub invariant-loop-declaration : goal.invariant-loop-declaration
invariant-loop-declaration l = first_taken l.front.entries (drop l.declaration-index l.declarations) ≡ first_taken l.front.entries l.declarations
