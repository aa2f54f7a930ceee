use Rattle.std.proofs.Common.{◌+◌, ◌∷◌, [], length, drop, refl, sym, ◌∙◌, subst, arith}
use Rattle.std.specs.Prelude.{Ok, Err}
use Rattle.std.proofs.lemmas.Option.{slice_get_read}
use Rattle.pts_modules.specs.Orders.{Orders, none_left}
use Rattle.pts_modules.proofs.Walk.{moved, next_one, nothing_left, words_go, words_stop}
use Rattle.pts_modules.proofs.order.order_modules.Goals as goal

pub returns-in-Err-clause-refused : goal.returns-in-Err-clause-refused
returns-in-Err-clause-refused c =
    let F = c.args.shelf.now.modules in
    let ns = c.args.names.now in
    let i = c.loop-name.name-index in
    let x = c.name-item.result in
    let e = next_one ns i x (slice_get_read ns (length ns) i x refl c.loop-name-test.true c.name-item.is) in
    moved c.in-Err.fault (λ f h. c.loop-name.invariant (Err f) (subst (λ ms. Orders F [] c.loop-name.done.items ms (Err f)) (sym e) (words_stop F h refl))) c.in-Err.ensures.refused

pub loop-name-preserved : goal.loop-name-preserved
loop-name-preserved c o k =
    let F = c.args.shelf.now.modules in
    let ns = c.args.names.now in
    let i = c.loop-name.name-index in
    let x = c.name-item.result in
    let e = next_one ns i x (slice_get_read ns (length ns) i x refl c.loop-name-test.true c.name-item.is) in
    c.loop-name.invariant o (subst (λ ms. Orders F [] c.loop-name.done.items ms o) (sym e) (words_go F c.in-Ok.ensures.ordered refl k))

pub returns-clause-ordered : goal.returns-clause-ordered
returns-clause-ordered c =
    let F = c.args.shelf.now.modules in
    let ns = c.args.names.now in
    c.loop-name.invariant (Ok c.loop-name.done.items) (subst (λ ms. Orders F [] c.loop-name.done.items ms (Ok c.loop-name.done.items)) (sym (nothing_left ns c.loop-name.name-index (omega (arith, c.loop-name-test.false)))) none_left)
