use Rattle.std.proofs.Common.{◌<◌, arith}
use Rattle.pts_prove.proofs.Running.{no_memory}
use Rattle.pts_prove.proofs.Working.{grown_trans}
use Rattle.pts_prove.proofs.Searches.{search_untried, search_found, search_closed, search_last, search_next}
use Rattle.pts_prove.proofs.work.Work.+search.Goals as goal

pub returns-in_err-found-clause-came : goal.returns-in_err-found-clause-came
returns-in_err-found-clause-came t c = search_untried c.args.statement c.requires.at c.from_residual.ensures c.in_err-found.ensures.came

pub returns-in-Some-clause-came : goal.returns-in-Some-clause-came
returns-in-Some-clause-came t c = search_found c.args.statement c.requires.at c.in-Some.is c.in_ok-found.ensures.came

pub returns-in_err-product-in-None-clause-came : goal.returns-in_err-product-in-None-clause-came
returns-in_err-product-in-None-clause-came t c =
    let a = c.in_ok-found.ensures in
    search_closed c.args.statement c.requires.at a.grown c.in-None.is a.came c.from_residual-in_err-product-in-None.ensures c.in_err-product-in-None.ensures.came

pub returns-then-at-eq2000-clause-came : goal.returns-then-at-eq2000-clause-came
returns-then-at-eq2000-clause-came t c =
    let a = c.in_ok-found.ensures in
    search_last c.args.statement c.requires.at a.grown c.in-None.is a.came c.in_ok-product-in-None.ensures.came c.if-at-eq2000.true

pub returns-in_err-under-in-None-clause-came : goal.returns-in_err-under-in-None-clause-came
returns-in_err-under-in-None-clause-came t c = no_memory c.from_residual-in_err-under-in-None.ensures

pub returns-in_err-under-in-None-clause-grown : goal.returns-in_err-under-in-None-clause-grown
returns-in_err-under-in-None-clause-grown t c =
    grown_trans (grown_trans c.in_ok-found.ensures.grown c.in_ok-product-in-None.ensures.grown) c.in_err-under-in-None.ensures.grown

pub returns-in_ok-under-in-None-clause-came : goal.returns-in_ok-under-in-None-clause-came
returns-in_ok-under-in-None-clause-came t c =
    let a = c.in_ok-found.ensures in
    let p = c.in_ok-product-in-None.ensures in
    let u = c.in_ok-under-in-None.ensures in
    let few = c.requires.at.few in
    let more = c.if-at-eq2000.false in
    let l : c.args.at.taken < 2000 = omega (arith, few, more) in
    search_next c.args.statement c.requires.at a.grown c.in-None.is a.came p.came p.grown u.grown u.meter c.requires.statement p.product.body l u.under c.search.ensures.came

pub returns-in_ok-under-in-None-clause-grown : goal.returns-in_ok-under-in-None-clause-grown
returns-in_ok-under-in-None-clause-grown t c =
    grown_trans (grown_trans (grown_trans c.in_ok-found.ensures.grown c.in_ok-product-in-None.ensures.grown) c.in_ok-under-in-None.ensures.grown) c.search.ensures.grown
