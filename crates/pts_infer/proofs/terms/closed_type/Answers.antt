use Rattle.std.proofs.Common.{◌≡◌, ◌∙◌, subst, true, None}
use Rattle.pts_terms.specs.Tree.{bare}
use Rattle.pts_rules.specs.Valid.{last_said, concludes_as}
use Rattle.pts_grow.proofs.Grow.{tree_stays}
use Rattle.pts_infer.proofs.Runs.{entries_stay}
use Rattle.pts_infer.proofs.Conclusions.{sorted_by}
use Rattle.pts_infer.proofs.terms.closed_type.Goals as goal

pub returns-clause-concludes : goal.returns-clause-concludes
returns-clause-concludes c =
    let a = c.args.proof in
    let b = c.close.new.proof in
    let j = c.args.sorted.judged in
    let g = c.in_ok-_node.ensures.keeps in
    subst (λ t. concludes_as (last_said b) None (bare t) ≡ true) (tree_stays a b j.subject g c.requires.judged.0) (sorted_by b c.args.ctx c.in_ok-_node._node c.args.sorted.sort.0 j (entries_stay a b c.args.ctx g c.requires.ctx ∙ c.requires.empty) c.in_ok-_node.ensures.last c.in_ok-_node.ensures.judges (tree_stays a b j.claim g c.requires.judged.1 ∙ c.requires.sort))
