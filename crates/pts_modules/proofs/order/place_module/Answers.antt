use Rattle.std.proofs.Common.{◌<◌, ◌∷◌, sym, ap, ◌∙◌, subst}
use Rattle.std.specs.Prelude.{Err}
use Rattle.pts_modules.specs.Stacks.{Ends, open_of, opened_one, work}
use Rattle.pts_modules.proofs.Stack.{open_last}
use Rattle.pts_modules.proofs.Walk.{moved}
use Rattle.pts_modules.proofs.order.place_module.Goals as goal

pub loop-newest-smaller : goal.loop-newest-smaller
loop-newest-smaller c =
    let F = c.args.shelf.now.modules in
    let e = ap open_of c.in-Some.ensures.items ∙ open_last c.pop.new.self.items c.in-Some.newest in
    subst (λ s. work F (open_of c.go_on.new.opened.items) c.go_on.new.done.items < work F s c.loop-newest.done.items) (sym e) c.in-Ok-go_on.ensures.less

pub loop-newest-preserved : goal.loop-newest-preserved
loop-newest-preserved c o k =
    let F = c.args.shelf.now.modules in
    let e = ap open_of c.in-Some.ensures.items ∙ open_last c.pop.new.self.items c.in-Some.newest in
    c.loop-newest.invariant o (subst (λ s. Ends F s c.loop-newest.done.items o) (sym e) (c.in-Ok-go_on.ensures.goes o k))

pub returns-in-Err-go_on-clause-refused : goal.returns-in-Err-go_on-clause-refused
returns-in-Err-go_on-clause-refused c =
    let F = c.args.shelf.now.modules in
    let e = ap open_of c.in-Some.ensures.items ∙ open_last c.pop.new.self.items c.in-Some.newest in
    moved c.in-Err-go_on.fault (λ f h. c.loop-newest.invariant (Err f) (subst (λ s. Ends F s c.loop-newest.done.items (Err f)) (sym e) h)) c.in-Err-go_on.ensures.stops
