use Rattle.std.proofs.Common.{refl}
use Rattle.pts_terms.specs.Seen.{named}
use Rattle.pts_grow.proofs.Grow.{tree_stays}
use Rattle.pts_prove.proofs.BodyPut.{put_taken, put_untaken}
use Rattle.pts_prove.proofs.work.Work.put_body.Goals as goal

pub returns-in-Ok-clause-came : goal.returns-in-Ok-clause-came
returns-in-Ok-clause-came c =
    let t = c.in_ok-body.ensures in
    let m = c.take_body.new.proof in
    let s = tree_stays c.args.self.now.proof.now m c.args.goal.statement t.keeps c.requires.goal.statement.there in
    put_taken m c.args.name.now c.in_ok-body.body c.args.goal.statement (named c.args.body.now) refl t.term.1 s c.in-Ok.ensures.term c.in-Ok.ensures.within

pub returns-in-Err-clause-came : goal.returns-in-Err-clause-came
returns-in-Err-clause-came c =
    let t = c.in_ok-body.ensures in
    let m = c.take_body.new.proof in
    let s = tree_stays c.args.self.now.proof.now m c.args.goal.statement t.keeps c.requires.goal.statement.there in
    put_untaken m c.args.name.now c.in_ok-body.body c.args.goal.statement (named c.args.body.now) _ refl c.of_making.ensures t.term.1 s c.in-Err.ensures.refused
