use Rattle.std.proofs.Common.{◌≡◌, ℕ, List, get_or, sym, subst}
use Rattle.pts_record.specs.declared.shape.Node.{Node}
use Rattle.pts_record.proofs.Lines.{node_links_are, node_terms_are, node_says, node_says_named}
use Rattle.pts_record.proofs.record.Record.node.Goals as goal

-- the node that is handed out is the one that was found
here : (ns : List Node) (k : ℕ) (m n : Node) → m ≡ get_or ns k m → n ≡ m → n ≡ get_or ns k n
here ns k m n e p = subst (λ x. x ≡ get_or ns k x) (sym p) e

pub returns-clause-says : goal.returns-clause-says
returns-clause-says c = node_says _ _ _ _ c.args.self.now c.self.invariant c.self.view_is c.args.number c.node.result c.requires (here c.self.inside.nodes.items c.args.number c.index.result.now c.node.result c.index.ensures c.node.ensures)

pub returns-clause-links : goal.returns-clause-links
returns-clause-links c = node_links_are _ _ _ _ c.args.self.now c.self.invariant c.self.view_is c.args.number c.node.result c.requires (here c.self.inside.nodes.items c.args.number c.index.result.now c.node.result c.index.ensures c.node.ensures)

pub returns-clause-terms : goal.returns-clause-terms
returns-clause-terms c = node_terms_are _ _ _ _ c.args.self.now c.self.invariant c.self.view_is c.args.number c.node.result c.requires (here c.self.inside.nodes.items c.args.number c.index.result.now c.node.result c.index.ensures c.node.ensures)

pub returns-clause-named : goal.returns-clause-named
returns-clause-named c = node_says_named _ _ _ _ c.args.self.now c.self.invariant c.self.view_is c.args.number c.node.result c.requires (here c.self.inside.nodes.items c.args.number c.index.result.now c.node.result c.index.ensures c.node.ensures)
