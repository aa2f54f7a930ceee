use Rattle.std.proofs.Common.{refl, sym, ap, ◌∙◌}
use Rattle.pts_terms.specs.Tree.{lift}
use Rattle.pts_record.specs.Table.{bare_at}
use Rattle.pts_grow.proofs.Grow.{bare_stays}
use Rattle.pts_goals.proofs.Within.{put_back_at}
use Rattle.pts_goals.proofs.closing.applied.Goals as goal

pub add_app-requires-clause-ty : goal.add_app-requires-clause-ty
add_app-requires-clause-ty c =
    let a = c.args.proof.now in
    let b = c.apply.new.proof in
    let k = c.in-Ok.ensures.keeps in
    let t = bare_at b.shapes c.args.goal.now.statement in
    let e = bare_stays a b c.args.codomain k c.requires.codomain ∙ c.requires.lifted ∙ ap (lift 0 1) (sym (bare_stays a b c.args.goal.now.statement k c.requires.goal.statement)) in
    put_back_at (bare_at b.shapes c.args.argument.subject) t (bare_at b.shapes c.args.codomain) t e refl
