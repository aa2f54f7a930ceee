use Rattle.pts_record.proofs.Lines.{shape_links_are, shape_tree_is, shape_named_is}
use Rattle.pts_record.proofs.Trees.{bare_of_named}
use Rattle.pts_record.proofs.record.Record.shape.Goals as goal

pub returns-clause-tree : goal.returns-clause-tree
returns-clause-tree c = shape_tree_is _ _ _ _ c.args.self.now c.self.invariant c.self.view_is c.args.term c.index.result.now c.requires c.index.ensures

pub returns-clause-links : goal.returns-clause-links
returns-clause-links c = shape_links_are _ _ _ _ c.args.self.now c.self.invariant c.self.view_is c.args.term c.index.result.now c.requires c.index.ensures

pub returns-clause-named : goal.returns-clause-named
returns-clause-named c = shape_named_is _ _ _ _ c.args.self.now c.self.invariant c.self.view_is c.args.term c.index.result.now c.requires c.index.ensures

pub returns-clause-unnamed : goal.returns-clause-unnamed
returns-clause-unnamed c = bare_of_named c.args.self.now.shapes c.args.term
