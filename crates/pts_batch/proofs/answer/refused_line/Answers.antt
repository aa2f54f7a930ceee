use Rattle.std.proofs.Common.{◌≡◌, ◌++◌, IfOk, ap, ◌∙◌, subst}
use Rattle.std.specs.Prelude.{codes}
use Rattle.std.specs.Fmt.{decimal}
use Rattle.pts_batch.specs.Batches.{refusal}
use Rattle.pts_batch.specs.Shown.{answer_seen}
use Rattle.pts_batch.proofs.answer.refused_line.Goals as goal

pub returns-clause-answer : goal.returns-clause-answer
returns-clause-answer c =
    subst (λ t. IfOk c.refusal.result (λ r. answer_seen r ≡ refusal c.args.name.now t))
    (c.as_str.ensures.value ∙ c.in_ok-text.ensures.ok ∙ ap (λ w. codes "Declaration " ++ (decimal c.args.line ++ (codes " " ++ w))) c.in_ok-why.ensures.text)
    c.refusal.ensures.answer
