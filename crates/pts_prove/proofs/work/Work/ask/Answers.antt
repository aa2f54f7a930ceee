use Rattle.std.proofs.Common.{refl, sym, ◌∙◌}
use Rattle.pts_prove.proofs.Running.{no_memory}
use Rattle.pts_prove.proofs.Working.{sorted_later}
use Rattle.pts_prove.proofs.OneArgument.{ask_undetermined, ask_unsorted, ask_comes, is_asked}
use Rattle.pts_prove.proofs.work.Work.ask.Goals as goal

pub returns-then-not-is_left_out-clause-came : goal.returns-then-not-is_left_out-clause-came
returns-then-not-is_left_out-clause-came c = ask_undetermined c.args.product c.args.ctx c.args.number _ (sym c.is_left_out.ensures ∙ c.if-not-is_left_out.true) refl

pub returns-in_err-sorted-clause-came : goal.returns-in_err-sorted-clause-came
returns-in_err-sorted-clause-came c = ask_unsorted c.args.product c.args.ctx c.args.number _ (sym c.is_left_out.ensures ∙ c.if-not-is_left_out.false) c.from_residual.ensures c.in_err-sorted.ensures.came

pub returns-in_err-after-clause-came : goal.returns-in_err-after-clause-came
returns-in_err-after-clause-came c = no_memory c.from_residual-in_err-after.ensures

pub returns-clause-came : goal.returns-clause-came
returns-clause-came c =
    let s = c.in_ok-sorted.ensures in
    let t = c.in_ok-after.ensures in
    ask_comes c.args.product c.args.ctx c.args.number _ (sym c.is_left_out.ensures ∙ c.if-not-is_left_out.false) s.grown t.grown t.meter c.requires.product s.sorted.judged.subject t.term s.came

pub returns-clause-applied : goal.returns-clause-applied
returns-clause-applied c =
    let s = c.in_ok-sorted.ensures in
    let t = c.in_ok-after.ensures in
    is_asked s.grown t.grown c.requires.product (sorted_later t.grown s.sorted) (sym c.is_left_out.ensures ∙ c.if-not-is_left_out.false) t.term
