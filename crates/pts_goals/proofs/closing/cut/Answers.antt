use Rattle.std.proofs.Common.{◌≡◌, ap, sym, ◌∙◌, subst, IfOk}
use mathlib.Core.Path.{ap₂}
use Rattle.pts_terms.specs.Tree.{app, lift}
use Rattle.pts_record.specs.Table.{named_at, bare_at}
use Rattle.pts_grow.proofs.Grow.{keeps_trans, bare_stays, tree_stays}
use Rattle.pts_grow.proofs.Judgements.{still_judges}
use Rattle.pts_goals.proofs.Kept.{still_same, still_product}
use Rattle.pts_goals.proofs.closing.cut.Goals as goal

pub applied-requires-clause-argument : goal.applied-requires-clause-argument
applied-requires-clause-argument c = still_judges c.args.proof.now c.abstraction.new.proof c.args.goal.now.ctx c.args.argument c.in_ok-function.ensures.keeps c.requires.goal.ctx c.requires.argument

pub applied-requires-clause-product : goal.applied-requires-clause-product
applied-requires-clause-product c =
    ap (bare_at c.abstraction.new.proof.shapes) c.in_ok-function.ensures.claim
    ∙ (still_product c.args.proof.now c.abstraction.new.proof c.in_ok-function.ensures.keeps c.args.goal.now.ctx c.args.product c.args.lemma c.args.inner c.args.sorted c.requires.goal.ctx c.requires.product).parts

pub applied-requires-clause-claim : goal.applied-requires-clause-claim
applied-requires-clause-claim c = still_same c.args.proof.now c.abstraction.new.proof c.in_ok-function.ensures.keeps c.args.argument.claim c.args.lemma.subject c.requires.argument.1 c.requires.product.domain.0.0 c.requires.argument_claim

pub applied-requires-clause-lifted : goal.applied-requires-clause-lifted
applied-requires-clause-lifted c =
    let a = c.args.proof.now in
    let b = c.abstraction.new.proof in
    let k = c.in_ok-function.ensures.keeps in
    bare_stays a b c.args.sorted.subject k c.requires.product.body.0.0 ∙ c.requires.lifted ∙ ap (lift 0 1) (sym (bare_stays a b c.args.goal.now.statement k c.requires.goal.statement))

pub returns-clause-term : goal.returns-clause-term
returns-clause-term c =
    let e = ap₂ app c.in_ok-function.ensures.term (tree_stays c.args.proof.now c.abstraction.new.proof c.args.argument.subject c.in_ok-function.ensures.keeps c.requires.argument.0) in
    subst (λ u. IfOk c.applied.result (λ j. named_at c.applied.new.proof.shapes j.subject ≡ u)) e c.applied.ensures.term

pub returns-clause-keeps : goal.returns-clause-keeps
returns-clause-keeps c = keeps_trans c.args.proof.now c.abstraction.new.proof c.applied.new.proof c.in_ok-function.ensures.keeps c.applied.ensures.keeps
