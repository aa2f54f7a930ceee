use Rattle.std.proofs.Common.{◌≡◌, sym, ◌∙◌, Some}
use Rattle.pts_ctx.specs.System.{Spelled, written, UnlessMemory, system_fault}
use Rattle.pts_ctx.proofs.Faults.{fault-many, fault-twice, fault-axiom, fault-rule, fault-clash, unless-map, err-from}
use Rattle.pts_ctx.proofs.places.by_sorts.Goals as goal

pub returns-then-sorts-gt64-clause-refused : goal.returns-then-sorts-gt64-clause-refused
returns-then-sorts-gt64-clause-refused c = fault-many (written c.args.sorts.now c.args.axioms.now c.args.rules.now) c.if-sorts-gt64.true

pub returns-in-Some-clause-refused : goal.returns-in-Some-clause-refused
returns-in-Some-clause-refused c =
    fault-twice (written c.args.sorts.now c.args.axioms.now c.args.rules.now) c.if-sorts-gt64.false (c.in-Some.first, c.in-Some.second) (sym c.first_twice.ensures ∙ c.in-Some.is)

pub returns-in_err-sorted_axioms-clause-refused : goal.returns-in_err-sorted_axioms-clause-refused
returns-in_err-sorted_axioms-clause-refused c =
    let w : Spelled = written c.args.sorts.now c.args.axioms.now c.args.rules.now in
    let e = c.in_err-sorted_axioms.field-0.0 in
    let once = sym c.first_twice.ensures ∙ c.in_default.is in
    err-from c.from_residual.result e (λ f. UnlessMemory f (system_fault w ≡ Some f)) c.from_residual.ensures.1
    (unless-map e (fault-axiom w c.if-sorts-gt64.false once e) c.in_err-sorted_axioms.ensures.refused)

pub returns-in_err-sorted_rules-clause-refused : goal.returns-in_err-sorted_rules-clause-refused
returns-in_err-sorted_rules-clause-refused c =
    let w : Spelled = written c.args.sorts.now c.args.axioms.now c.args.rules.now in
    let e = c.in_err-sorted_rules.field-0.0 in
    let once = sym c.first_twice.ensures ∙ c.in_default.is in
    err-from c.from_residual-in_err-sorted_rules.result e (λ f. UnlessMemory f (system_fault w ≡ Some f)) c.from_residual-in_err-sorted_rules.ensures.1
    (unless-map e (fault-rule w c.if-sorts-gt64.false once c.in_ok-sorted_axioms.ensures.declared e) c.in_err-sorted_rules.ensures.refused)

pub returns-clause-later : goal.returns-clause-later
returns-clause-later c =
    let w : Spelled = written c.args.sorts.now c.args.axioms.now c.args.rules.now in
    let once = sym c.first_twice.ensures ∙ c.in_default.is in
    fault-clash w c.if-sorts-gt64.false once c.in_ok-sorted_axioms.ensures.declared c.in_ok-sorted_rules.ensures.declared
