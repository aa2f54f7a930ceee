use Rattle.std.proofs.Common.{refl}
use Rattle.pts_record.specs.Table.{bare_at, named_trees}
use Rattle.pts_record.specs.Said.{named_told, row_of_node}
use Rattle.pts_grow.proofs.Grow.{node_keeps, node_says, node_valid, same_keeps}
use Rattle.pts_grow.proofs.Judgements.{new_judges}
use Rattle.pts_grow.proofs.Converted.{thin_ok, itself_told, unlifted}
use Rattle.pts_grow.proofs.Last.{last_node, same_shapes, thin_of}
use Rattle.pts_grow.proofs.closing.repeat.Goals as goal

pub returns-in-Ok-clause-last : goal.returns-in-Ok-clause-last
returns-in-Ok-clause-last c = last_node c.args.proof.now c.add_node.new.self (thin_of c.args.ctx c.args.judged) c.in-Ok.number c.in-Ok.ensures.added c.in-Ok.ensures.number

pub returns-in-Ok-clause-judges : goal.returns-in-Ok-clause-judges
returns-in-Ok-clause-judges c =
    let g = node_keeps c.args.proof.now c.add_node.new.self (thin_of c.args.ctx c.args.judged) c.in-Ok.ensures.added in
    let s = node_says c.args.proof.now c.add_node.new.self (thin_of c.args.ctx c.args.judged) c.in-Ok.number c.in-Ok.ensures.number c.in-Ok.ensures.added in
    new_judges c.args.proof.now c.add_node.new.self c.args.ctx c.args.judged.subject c.args.judged.claim c.in-Ok.number g (same_shapes c.args.proof.now c.add_node.new.self (thin_of c.args.ctx c.args.judged) c.in-Ok.ensures.added) c.requires.ctx c.requires.judged.0 c.requires.judged.1 s

pub returns-in-Ok-clause-keeps : goal.returns-in-Ok-clause-keeps
returns-in-Ok-clause-keeps c = node_keeps c.args.proof.now c.add_node.new.self (thin_of c.args.ctx c.args.judged) c.in-Ok.ensures.added

pub returns-in-Ok-clause-valid : goal.returns-in-Ok-clause-valid
returns-in-Ok-clause-valid c = λ S G v.
    let r = c.args.proof.now in
    let j = c.args.judged in
    let n = c.node.result in
    let d = itself_told (named_told r c.args.ctx) n.form c.args.ctx (row_of_node (named_trees r.shapes) n) (named_told r n.ctx) (named_told r n.first) c.node.ensures.named c.requires.typed.0 in
    node_valid r c.add_node.new.self (thin_of c.args.ctx j) S G c.in-Ok.ensures.added (thin_ok r c.args.ctx c.requires.typed S G j.subject j.claim c.args.ctx j 0 c.requires.judged d (unlifted (bare_at r.shapes j.subject) (bare_at r.shapes j.subject) refl) (unlifted (bare_at r.shapes j.claim) (bare_at r.shapes j.claim) refl)) v

pub returns-in-Err-clause-keeps : goal.returns-in-Err-clause-keeps
returns-in-Err-clause-keeps c = same_keeps c.args.proof.now c.add_node.new.self c.in-Err.ensures.unchanged
