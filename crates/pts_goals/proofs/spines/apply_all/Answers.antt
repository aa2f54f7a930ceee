use Rattle.std.proofs.Common.{◌≡◌, ◌≤◌, ℕ, ◌-◌, ◌+◌, arith, length, drop, refl}
use Rattle.pts_record.specs.Table.{named_at}
use Rattle.pts_grow.proofs.Grow.{keeps_trans, valid_trans, keeps_refl, valid_refl}
use Rattle.pts_goals.specs.Steps.{spine}
use Rattle.pts_goals.specs.OpenGoals.{subjects_of}
use Rattle.pts_goals.proofs.Kept.{still_goal}
use Rattle.pts_goals.proofs.Application.{starts, ends, no_more, left_enough, left_after, left_room, turn_link, turn_argument, turn_claim, turn_put, turn_within, turn_chain}
use Rattle.pts_goals.proofs.spines.apply_all.Goals as goal

pub apply-init : goal.apply-init
apply-init c =
    let s = starts c.args.proof.now c.args.goal.now c.args.function c.args.links.now c.args.parts.now c.requires.function c.requires.links c.requires.parts in
    (keeps_refl c.args.proof.now, valid_refl c.args.proof.now, c.requires.goal, omega arith, omega arith, s.1, s.0)

pub overflow_sub-left : goal.overflow_sub-left
overflow_sub-left c =
    let i = c.apply.invariant in
    let e = left_enough c.apply.proof c.args.goal.now i.2 c.apply.judged (drop c.apply.at c.args.links.now) c.link_at-link.result (drop (c.apply.at + 1) c.args.links.now) c.args.parts.now (spine c.args.proof.now (named_at c.args.proof.now.shapes c.args.function.subject) c.args.links.now (subjects_of c.args.proof.now c.args.parts.now)) c.requires.within c.link_at-link.ensures c.apply.left c.goal_count-left.result i.5 i.4 c.goal_count-left.ensures.number i.6 in e

pub returns-in_err-judged-clause-keeps : goal.returns-in_err-judged-clause-keeps
returns-in_err-judged-clause-keeps c =
    let i = c.apply.invariant in
    keeps_trans c.args.proof.now c.apply.proof c.apply_link.new.proof i.0 c.apply_link.ensures.keeps

pub apply_link-requires-clause-link : goal.apply_link-requires-clause-link
apply_link-requires-clause-link c =
    let i = c.apply.invariant in
    turn_link c.apply.proof c.args.goal.now i.2 c.apply.judged (drop c.apply.at c.args.links.now) c.link_at-link.result (drop (c.apply.at + 1) c.args.links.now) c.args.parts.now (spine c.args.proof.now (named_at c.args.proof.now.shapes c.args.function.subject) c.args.links.now (subjects_of c.args.proof.now c.args.parts.now)) c.requires.within c.link_at-link.ensures c.apply.left c.goal_count-left.result i.5 i.4 c.goal_count-left.ensures.number i.6

pub apply_link-requires-clause-argument : goal.apply_link-requires-clause-argument
apply_link-requires-clause-argument c =
    let i = c.apply.invariant in
    turn_argument c.apply.proof c.args.goal.now i.2 c.apply.judged (drop c.apply.at c.args.links.now) c.link_at-link.result (drop (c.apply.at + 1) c.args.links.now) c.args.parts.now (spine c.args.proof.now (named_at c.args.proof.now.shapes c.args.function.subject) c.args.links.now (subjects_of c.args.proof.now c.args.parts.now)) c.requires.within c.link_at-link.ensures c.apply.left c.goal_count-left.result i.5 i.4 c.goal_count-left.ensures.number i.6 c.argument_judged-argument.result c.argument_judged-argument.ensures

pub apply_link-requires-clause-claim : goal.apply_link-requires-clause-claim
apply_link-requires-clause-claim c =
    let i = c.apply.invariant in
    turn_claim c.apply.proof c.args.goal.now i.2 c.apply.judged (drop c.apply.at c.args.links.now) c.link_at-link.result (drop (c.apply.at + 1) c.args.links.now) c.args.parts.now (spine c.args.proof.now (named_at c.args.proof.now.shapes c.args.function.subject) c.args.links.now (subjects_of c.args.proof.now c.args.parts.now)) c.requires.within c.link_at-link.ensures c.apply.left c.goal_count-left.result i.5 i.4 c.goal_count-left.ensures.number i.6 c.argument_judged-argument.result c.argument_judged-argument.ensures

pub apply_link-requires-clause-put : goal.apply_link-requires-clause-put
apply_link-requires-clause-put c =
    let i = c.apply.invariant in
    turn_put c.apply.proof c.args.goal.now i.2 c.apply.judged (drop c.apply.at c.args.links.now) c.link_at-link.result (drop (c.apply.at + 1) c.args.links.now) c.args.parts.now (spine c.args.proof.now (named_at c.args.proof.now.shapes c.args.function.subject) c.args.links.now (subjects_of c.args.proof.now c.args.parts.now)) c.requires.within c.link_at-link.ensures c.apply.left c.goal_count-left.result i.5 i.4 c.goal_count-left.ensures.number i.6 c.argument_judged-argument.result c.argument_judged-argument.ensures

pub apply_link-requires-clause-within : goal.apply_link-requires-clause-within
apply_link-requires-clause-within c =
    let i = c.apply.invariant in
    turn_within c.apply.proof c.args.goal.now i.2 c.apply.judged (drop c.apply.at c.args.links.now) c.link_at-link.result (drop (c.apply.at + 1) c.args.links.now) c.args.parts.now (spine c.args.proof.now (named_at c.args.proof.now.shapes c.args.function.subject) c.args.links.now (subjects_of c.args.proof.now c.args.parts.now)) c.requires.within c.link_at-link.ensures c.apply.left c.goal_count-left.result i.5 i.4 c.goal_count-left.ensures.number i.6 c.argument_judged-argument.result c.argument_judged-argument.ensures

pub apply-preserved : goal.apply-preserved
apply-preserved c =
    let i = c.apply.invariant in
    let o = c.in_ok-judged.ensures in
    let q = c.apply_link.new.proof in
    let l : c.apply.at + 1 ≤ length c.args.links.now = let t = c.apply-test.true in omega (arith, t) in
    let m : c.apply.left - c.goal_count-left.result ≤ length c.args.parts.now = let k = i.4 in omega (arith, k) in
    (keeps_trans c.args.proof.now c.apply.proof q i.0 o.keeps, valid_trans c.args.proof.now c.apply.proof q i.1 o.valid, still_goal c.apply.proof q o.keeps c.args.goal.now i.2, l, m, left_after c.apply.proof c.args.goal.now i.2 c.apply.judged (drop c.apply.at c.args.links.now) c.link_at-link.result (drop (c.apply.at + 1) c.args.links.now) c.args.parts.now (spine c.args.proof.now (named_at c.args.proof.now.shapes c.args.function.subject) c.args.links.now (subjects_of c.args.proof.now c.args.parts.now)) c.requires.within c.link_at-link.ensures c.apply.left c.goal_count-left.result i.5 i.4 c.goal_count-left.ensures.number i.6, turn_chain c.apply.proof c.args.goal.now i.2 c.apply.judged (drop c.apply.at c.args.links.now) c.link_at-link.result (drop (c.apply.at + 1) c.args.links.now) c.args.parts.now (spine c.args.proof.now (named_at c.args.proof.now.shapes c.args.function.subject) c.args.links.now (subjects_of c.args.proof.now c.args.parts.now)) c.requires.within c.link_at-link.ensures c.apply.left c.goal_count-left.result i.5 i.4 c.goal_count-left.ensures.number i.6 c.argument_judged-argument.result c.argument_judged-argument.ensures q c.in_ok-judged.judged o.keeps o.judges o.claim o.term)

pub returns-clause-closes : goal.returns-clause-closes
returns-clause-closes c =
    let i = c.apply.invariant in
    let t = c.apply-test.false in (ends c.apply.proof c.args.goal.now c.apply.judged (drop c.apply.at c.args.links.now) c.args.parts.now (spine c.args.proof.now (named_at c.args.proof.now.shapes c.args.function.subject) c.args.links.now (subjects_of c.args.proof.now c.args.parts.now)) i.6 (no_more c.apply.at c.args.links.now (omega (arith, t)))).0

pub returns-clause-term : goal.returns-clause-term
returns-clause-term c =
    let i = c.apply.invariant in
    let t = c.apply-test.false in (ends c.apply.proof c.args.goal.now c.apply.judged (drop c.apply.at c.args.links.now) c.args.parts.now (spine c.args.proof.now (named_at c.args.proof.now.shapes c.args.function.subject) c.args.links.now (subjects_of c.args.proof.now c.args.parts.now)) i.6 (no_more c.apply.at c.args.links.now (omega (arith, t)))).1
