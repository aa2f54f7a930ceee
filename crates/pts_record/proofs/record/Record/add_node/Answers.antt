use Rattle.std.proofs.Common.{◌∷◌, [], ◌++◌, ◌<◌, arith, ◌∙◌, ap, sym, subst, length}
use Rattle.pts_record.specs.Table.{AllBelow, node_links, term_links}
use Rattle.pts_record.proofs.Faults.{node_fits}
use Rattle.pts_record.proofs.Grow.{node_added}
use Rattle.pts_record.proofs.record.Record.add_node.Goals as goal

pub extent_of-extent-requires-clause-links : goal.extent_of-extent-requires-clause-links
extent_of-extent-requires-clause-links c =
    subst (λ n. AllBelow (length c.args.self.now.nodes) (node_links n)) (sym c.kept-node.ensures) (node_fits c.args.self.now c.args.node (sym c.link_fault.ensures ∙ c.in_default.is)).0

pub invariant_of-self-2 : goal.invariant_of-self-2
invariant_of-self-2 c =
    let fits = node_fits c.args.self.now c.args.node (sym c.link_fault.ensures ∙ c.in_default.is) in
    let links = subst (λ n. AllBelow (length c.args.self.now.nodes) (node_links n)) (sym c.kept-node.ensures) fits.0 in
    let few : length c.self.inside.nodes.items < 4294967296 = omega (arith, c.self.inside.nodes.ok, c.len-number.ensures, c.if-number-ge-LINES.false) in
    let terms = subst (λ n. AllBelow (length c.args.self.now.shapes) (term_links n)) (sym c.kept-node.ensures) fits.1 in
    node_added _ _ _ _ c.args.self.now c.kept-node.result c.extent_of-extent.result _ _ c.self.invariant c.self.view_is few links terms c.extent_of-extent.ensures (c.in_ok-push-2.ensures.items ∙ ap (λ x. c.reserve.new.self.items ++ x ∷ []) c.in-Some-of.ensures ∙ ap (λ l. l ++ c.kept-node.result ∷ []) c.in_ok-reserve.ensures.items) c.in_ok-push.ensures.items
