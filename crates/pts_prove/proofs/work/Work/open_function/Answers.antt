use Rattle.std.proofs.Common.{refl, sym}
use Rattle.pts_prove.proofs.OneArgument.{function_stands, function_by_form, is_function}
use Rattle.pts_prove.proofs.work.Work.open_function.Goals as goal

pub returns-in-Some-clause-came : goal.returns-in-Some-clause-came
returns-in-Some-clause-came c = function_stands c.args.ctx c.args.ty (sym c.in-Some.ensures.parts) refl

pub returns-in-None-clause-came : goal.returns-in-None-clause-came
returns-in-None-clause-came c = function_by_form c.args.ctx c.args.ty (sym c.in-None.ensures.parts) c.open_function_form.ensures.came

pub returns-in-Some-clause-function : goal.returns-in-Some-clause-function
returns-in-Some-clause-function c =
    let s = c.in-Some.ensures.stand in
    is_function c.requires.place (record { term = c.requires.ty; domain = record { there = s.0 }; body = record { there = s.1 }; parts = sym c.in-Some.ensures.parts })
