use Rattle.pts_prove.proofs.OneArgument.{function_unreduced, function_no_product, function_unsorted, function_comes, is_reduced_function}
use Rattle.pts_prove.proofs.work.Work.open_function_form.Goals as goal

pub returns-in_err-compared-clause-came : goal.returns-in_err-compared-clause-came
returns-in_err-compared-clause-came c = function_unreduced c.args.ctx c.args.ty c.requires.place c.from_residual.ensures c.in_err-compared.ensures.came

pub returns-in_err-product-clause-came : goal.returns-in_err-product-clause-came
returns-in_err-product-clause-came c =
    let o = c.in_ok-compared.ensures in
    function_no_product c.args.ctx c.args.ty c.requires.place o.grown o.came c.from_residual-in_err-product.ensures c.in_err-product.ensures.came

pub returns-in_err-sorted-clause-came : goal.returns-in_err-sorted-clause-came
returns-in_err-sorted-clause-came c =
    let o = c.in_ok-compared.ensures in
    function_unsorted c.args.ctx c.args.ty c.requires.place o.grown o.came c.in_ok-product.ensures.came c.from_residual-in_err-sorted.ensures c.in_err-sorted.ensures.came

pub returns-clause-came : goal.returns-clause-came
returns-clause-came c =
    let o = c.in_ok-compared.ensures in
    let p = c.in_ok-product.ensures in
    let s = c.in_ok-sorted.ensures in
    function_comes c.args.ctx c.args.ty c.requires.place o.grown o.came p.came s.grown p.parts s.came

pub returns-clause-function : goal.returns-clause-function
returns-clause-function c =
    let o = c.in_ok-compared.ensures in
    let p = c.in_ok-product.ensures in
    let s = c.in_ok-sorted.ensures in
    is_reduced_function o.grown s.grown c.requires.place c.requires.ty o.reduced p.product p.parts s.sorted
