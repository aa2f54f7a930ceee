use Rattle.std.proofs.Common.{◌≡◌, ◌+◌, suc, refl, sym, ap, ◌∙◌, arith}
use Rattle.pts_terms.specs.Tree.{var, lift}
use Rattle.pts_record.specs.Table.{named_at}
use Rattle.pts_rules.specs.Meter.{left}
use Rattle.pts_grow.proofs.Grow.{stays, node_stays, tree_stays, keeps_trans}
use Rattle.pts_grow.proofs.Judgements.{still_typed}
use Rattle.pts_grow.proofs.Plain.{plain}
use Rattle.pts_reduce.proofs.Paid.{later_refl}
use Rattle.pts_reduce.specs.Chain.{entries_of}
use Rattle.pts_infer.proofs.Atoms.{variable_missing, variable_there}
use Rattle.pts_infer.proofs.Working.{judged_kept}
use Rattle.pts_infer.proofs.work.Work.infer_variable.Goals as goal

pub entry_type-requires : goal.entry_type-requires
entry_type-requires c = c.requires.at.there

pub returns-in_default-clause-runs : goal.returns-in_default-clause-runs
returns-in_default-clause-runs c = record { gives = (variable_missing (entries_of c.args.self.now.proof.now c.args.at.ctx) c.args.index (left c.args.self.now.meter.now) c.in_default.ensures.ty, c.drain.ensures.spent) }

pub add_var-requires-clause-ctx : goal.add_var-requires-clause-ctx
add_var-requires-clause-ctx c =
    let k = c.in-Ok.ensures.keeps in
    node_stays c.args.self.now.proof.now c.lift.new.proof _ k c.requires.at.there

pub add_var-requires-clause-typed : goal.add_var-requires-clause-typed
add_var-requires-clause-typed c =
    let k = c.in-Ok.ensures.keeps in
    still_typed c.args.self.now.proof.now c.lift.new.proof _ k c.requires.at.there c.requires.at.typed

pub add_var-requires-clause-subject : goal.add_var-requires-clause-subject
add_var-requires-clause-subject c =
    let k = c.in-Ok.ensures.keeps in
    stays c.args.self.now.proof.now c.lift.new.proof _ k c.requires.term.term.there

pub add_var-requires-clause-claim : goal.add_var-requires-clause-claim
add_var-requires-clause-claim c = c.in-Ok.ensures.term.0

pub add_var-requires-clause-variable : goal.add_var-requires-clause-variable
add_var-requires-clause-variable c = plain c.lift.new.proof.shapes c.args.term (var c.args.index) (tree_stays c.args.self.now.proof.now c.lift.new.proof c.args.term c.in-Ok.ensures.keeps c.requires.term.term.there ∙ c.requires.term.is)

pub returns-in_ok-add_var-in-Ok-clause-runs : goal.returns-in_ok-add_var-in-Ok-clause-runs
returns-in_ok-add_var-in-Ok-clause-runs c =
    let p = c.in_ok-add_var-in-Ok.ensures.pair.1 in
    let s = c.in_ok-add_var-in-Ok.ensures.shapes in
    let i : c.from.result ≡ c.args.index = c.from.ensures in
    let n : c.from.result + 1 ≡ suc c.args.index = omega (arith, i) in
    let e : named_at c.add_var.new.proof.shapes c.in_ok-add_var-in-Ok.field-0.claim ≡ lift 0 (suc c.args.index) (named_at c.args.self.now.proof.now.shapes c.in-Some.ty) = ap (named_at c.add_var.new.proof.shapes) p ∙ ap (λ ss. named_at ss c.in-Ok.claim) s ∙ c.in-Ok.ensures.term.1 ∙ ap (λ m. lift 0 m (named_at c.args.self.now.proof.now.shapes c.in-Some.ty)) n in
    record { gives = variable_there (entries_of c.args.self.now.proof.now c.args.at.ctx) c.args.index (left c.args.self.now.meter.now) (named_at c.args.self.now.proof.now.shapes c.in-Some.ty) (named_at c.add_var.new.proof.shapes c.in_ok-add_var-in-Ok.field-0.claim) c.in-Some.ensures.ty e }

pub returns-in_ok-add_var-in-Ok-clause-judged : goal.returns-in_ok-add_var-in-Ok-clause-judged
returns-in_ok-add_var-in-Ok-clause-judged c =
    let a = c.in_ok-add_var-in-Ok.ensures in
    judged_kept (keeps_trans c.args.self.now.proof.now c.lift.new.proof c.add_var.new.proof c.in-Ok.ensures.keeps a.keeps) c.requires.at a.pair.0 a.judges
