use Rattle.pts_draft.proofs.NewNames.{next_fresh}
use Rattle.pts_draft.proofs.renaming.extend_renamed.Goals as goal

pub add_renamed-requires-clause-fresh : goal.add_renamed-requires-clause-fresh
add_renamed-requires-clause-fresh g c =
    next_fresh (g.N.Names.new_name c.args.names.now) c.args.scope.now.entries c.loop-declaration.scope.entries c.args.declarations.now c.loop-declaration.declaration-index c.declaration-item.result
    c.loop-declaration-test.true c.declaration-item.is c.loop-declaration.invariant.entries c.requires.differ
