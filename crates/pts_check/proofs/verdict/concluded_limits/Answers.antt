use Rattle.std.proofs.Common.{◌≡◌, ◌≤◌, ◌-◌, length, pred, ap, ◌∙◌, subst, arith}
use Rattle.std.specs.Option.{option_map}
use Rattle.pts_terms.specs.Limits.{depth_of, size_of}
use Rattle.pts_terms.specs.Seen.{named}
use Rattle.pts_record.specs.Said.{told, subject_of, claim_of}
use Rattle.pts_rules.specs.Valid.{last_said}
use Rattle.pts_check.specs.Entered.{bare_declared}
use Rattle.pts_check.proofs.Concluded.{has_node, terms_within}
use Rattle.pts_check.proofs.verdict.concluded_limits.Goals as goal

pub overflow_sub-last : goal.overflow_sub-last
overflow_sub-last c = omega (arith, c.nodes-last.ensures.number, has_node c.args.declaration.now.proof (bare_declared c.args.declaration.now) c.requires)

pub terms_of-terms-requires-clause-number : goal.terms_of-terms-requires-clause-number
terms_of-terms-requires-clause-number c = omega (arith, c.nodes-last.ensures.number, has_node c.args.declaration.now.proof (bare_declared c.args.declaration.now) c.requires)

pub returns : goal.returns
returns c =
    let d = c.args.declaration.now in
    let r = d.proof in
    let last : c.nodes-last.result - 1 ≡ pred (length r.nodes) = omega (arith, c.nodes-last.ensures.number) in
    let subject = subst (λ t. (depth_of t ≤ 2000) × (size_of t ≤ 1000000)) (c.terms_of-terms.ensures.subject ∙ ap (λ i. subject_of (told r i)) last) c.limits.ensures in
    let claim = subst (λ t. (depth_of t ≤ 2000) × (size_of t ≤ 1000000)) (c.terms_of-terms.ensures.claim ∙ ap (λ i. claim_of (told r i)) last) c.limits-2.ensures in
    terms_within (last_said r) (option_map named d.body) (named d.ty) c.requires subject claim
