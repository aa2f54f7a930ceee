use Rattle.std.proofs.Common.{◌≡◌, refl, sym, ap, ◌∙◌}
use Rattle.pts_terms.specs.Tree.{const}
use Rattle.pts_ctx.specs.Entries.{global_of}
use Rattle.pts_record.specs.Table.{named_at}
use Rattle.pts_rules.specs.Meter.{left}
use Rattle.pts_grow.proofs.Grow.{stays, node_stays, tree_stays, keeps_trans}
use Rattle.pts_grow.proofs.Judgements.{still_typed}
use Rattle.pts_grow.proofs.Plain.{plain, constant_found}
use Rattle.pts_reduce.proofs.Paid.{later_refl}
use Rattle.pts_infer.specs.Given.{type_of}
use Rattle.pts_infer.proofs.Atoms.{constant_missing, constant_there}
use Rattle.pts_infer.proofs.Working.{judged_kept}
use Rattle.pts_infer.proofs.work.Work.infer_constant.Goals as goal

pub returns-in_default-clause-runs : goal.returns-in_default-clause-runs
returns-in_default-clause-runs c = record { gives = (constant_missing _ _ _ c.in_default.ensures.entry, c.drain.ensures.spent) }

pub add_const-requires-clause-ctx : goal.add_const-requires-clause-ctx
add_const-requires-clause-ctx c =
    let k = c.in-Ok.ensures.keeps in
    node_stays c.args.self.now.proof.now c.take_in.new.proof _ k c.requires.at.there

pub add_const-requires-clause-typed : goal.add_const-requires-clause-typed
add_const-requires-clause-typed c =
    let k = c.in-Ok.ensures.keeps in
    still_typed c.args.self.now.proof.now c.take_in.new.proof _ k c.requires.at.there c.requires.at.typed

pub add_const-requires-clause-subject : goal.add_const-requires-clause-subject
add_const-requires-clause-subject c =
    let k = c.in-Ok.ensures.keeps in
    stays c.args.self.now.proof.now c.take_in.new.proof _ k c.requires.term.term.there

pub add_const-requires-clause-claim : goal.add_const-requires-clause-claim
add_const-requires-clause-claim c = c.in-Ok.ensures.term.0

pub add_const-requires-clause-entry : goal.add_const-requires-clause-entry
add_const-requires-clause-entry c = constant_found c.args.self.now.front.now.entries c.take_in.new.proof.shapes c.args.term c.in-Ok.claim c.args.name.now (global_of c.in-Some.entry.now) (plain c.take_in.new.proof.shapes c.args.term (const c.args.name.now) (tree_stays c.args.self.now.proof.now c.take_in.new.proof c.args.term c.in-Ok.ensures.keeps c.requires.term.term.there ∙ c.requires.term.is)) (sym c.in-Some.ensures.entry) c.in-Ok.ensures.term.1

pub returns-in_ok-add_const-in-Ok-clause-runs : goal.returns-in_ok-add_const-in-Ok-clause-runs
returns-in_ok-add_const-in-Ok-clause-runs c =
    let p = c.in_ok-add_const-in-Ok.ensures.pair.1 in
    let s = c.in_ok-add_const-in-Ok.ensures.shapes in
    let e : type_of c.add_const.new.proof.shapes c.in_ok-add_const-in-Ok.field-0 ≡ (global_of c.in-Some.entry.now).type = ap (named_at c.add_const.new.proof.shapes) p ∙ ap (λ ss. named_at ss c.in-Ok.claim) s ∙ c.in-Ok.ensures.term.1 in
    record { gives = constant_there c.args.self.now.front.now.entries c.args.name.now (global_of c.in-Some.entry.now) (type_of c.add_const.new.proof.shapes c.in_ok-add_const-in-Ok.field-0) (left c.args.self.now.meter.now) c.in-Some.ensures.entry e }

pub returns-in_ok-add_const-in-Ok-clause-judged : goal.returns-in_ok-add_const-in-Ok-clause-judged
returns-in_ok-add_const-in-Ok-clause-judged c =
    let a = c.in_ok-add_const-in-Ok.ensures in
    judged_kept (keeps_trans c.args.self.now.proof.now c.take_in.new.proof c.add_const.new.proof c.in-Ok.ensures.keeps a.keeps) c.requires.at a.pair.0 a.judges

pub returns-in_ok-add_const-in-Ok-clause-grown : goal.returns-in_ok-add_const-in-Ok-clause-grown
returns-in_ok-add_const-in-Ok-clause-grown c =
    let a = c.in_ok-add_const-in-Ok.ensures in
    record { system = refl; front = refl; record_name = refl; meter_name = refl; keeps = keeps_trans c.args.self.now.proof.now c.take_in.new.proof c.add_const.new.proof c.in-Ok.ensures.keeps a.keeps; valid = λ v. a.valid _ (c.in-Ok.ensures.valid _ _ v); later = later_refl _ }

pub returns-in_err-add_const-in-Ok-clause-grown : goal.returns-in_err-add_const-in-Ok-clause-grown
returns-in_err-add_const-in-Ok-clause-grown c =
    let a = c.in_err-add_const-in-Ok.ensures in
    record { system = refl; front = refl; record_name = refl; meter_name = refl; keeps = keeps_trans c.args.self.now.proof.now c.take_in.new.proof c.add_const.new.proof c.in-Ok.ensures.keeps a.keeps; valid = λ v. a.valid _ (c.in-Ok.ensures.valid _ _ v); later = later_refl _ }
