use Rattle.std.proofs.Common.{◌≡◌, ◌<◌, ◌≤◌, ◌+◌, ◌∷◌, drop, refl, sym, ap, ◌∙◌, subst, arith}
use Rattle.std.proofs.lemmas.Option.{slice_get_read}
use Rattle.std.specs.Prelude.{Err}
use Rattle.pts_modules.specs.Stacks.{Ends, EndsWith, open_of, opened_one, work}
use Rattle.pts_modules.proofs.Steps.{placing_less, using_less}
use Rattle.pts_modules.proofs.Walk.{finish, moved, next_one, nothing_left, opened_new}
use Rattle.pts_modules.proofs.order.go_on.Goals as goal

pub returns-then-next-len-clause-goes : goal.returns-then-next-len-clause-goes
returns-then-next-len-clause-goes c o k =
    let F = c.args.shelf.now.modules in
    let s = open_of c.args.opened.now.items in
    let D = c.args.done.now.items in
    let n = c.args.newest in
    let l = nothing_left n.uses.items n.next (omega (arith, c.if-next-len.true, c.len.ensures, n.uses.ok.0)) in
    subst (λ us. Ends F ((n.name, us) ∷ s) D o) (sym l) (finish F s D n.name o (subst (λ d. Ends F s d o) c.in_ok-push.ensures.items k))

pub returns-then-next-len-clause-less : goal.returns-then-next-len-clause-less
returns-then-next-len-clause-less c =
    let F = c.args.shelf.now.modules in
    let s = open_of c.args.opened.now.items in
    let D = c.args.done.now.items in
    let n = c.args.newest in
    subst (λ d. work F s d < work F (opened_one n ∷ s) D) (sym c.in_ok-push.ensures.items) (placing_less F s D n.name (drop n.next n.uses.items))

pub returns-in-Ok-clause-goes : goal.returns-in-Ok-clause-goes
returns-in-Ok-clause-goes c o k =
    let F = c.args.shelf.now.modules in
    let s = open_of c.args.opened.now.items in
    let D = c.args.done.now.items in
    let n = c.args.newest in
    let x = c.in_ok-used.used in
    let g = next_one n.uses.items n.next c.index.result.now (slice_get_read n.uses.items _ n.next c.index.result.now n.uses.ok.0 (omega (arith, c.if-next-len.false, c.len.ensures)) c.index.ensures) in
    let l = g ∙ ap (λ u. u ∷ drop (n.next + 1) n.uses.items) (sym c.in_ok-used.ensures) in
    let e = opened_new c.args.opened.now.items c.push-2.new.self.items _ n.name (drop (n.next + 1) n.uses.items) c.in_ok-push-2.ensures.items refl refl in
    let j = c.in-Ok.ensures.goes o (subst (λ d. Ends F (open_of c.visit.new.opened.items) d o) (sym c.deref.ensures.value) k) in
    subst (λ us. Ends F ((n.name, us) ∷ s) D o) (sym l)
    (subst (λ t. EndsWith F t D x o) e (subst (λ d. EndsWith F (open_of c.push-2.new.self.items) d x o) c.deref.ensures.value j))

pub returns-in-Ok-clause-less : goal.returns-in-Ok-clause-less
returns-in-Ok-clause-less c =
    let F = c.args.shelf.now.modules in
    let s = open_of c.args.opened.now.items in
    let D = c.args.done.now.items in
    let n = c.args.newest in
    let x = c.index.result.now in
    let g = next_one n.uses.items n.next x (slice_get_read n.uses.items _ n.next x n.uses.ok.0 (omega (arith, c.if-next-len.false, c.len.ensures)) c.index.ensures) in
    let e = opened_new c.args.opened.now.items c.push-2.new.self.items _ n.name (drop (n.next + 1) n.uses.items) c.in_ok-push-2.ensures.items refl refl in
    let j = subst (λ d. work F (open_of c.visit.new.opened.items) d ≤ work F (open_of c.push-2.new.self.items) d) c.deref.ensures.value c.in-Ok.ensures.less in
    let i = subst (λ t. work F (open_of c.visit.new.opened.items) D ≤ work F t D) e j in
    let u = subst (λ us. work F ((n.name, drop (n.next + 1) n.uses.items) ∷ s) D < work F ((n.name, us) ∷ s) D) (sym g) (using_less F s D n.name x (drop (n.next + 1) n.uses.items)) in
    omega (arith, i, u)

pub returns-clause-stops : goal.returns-clause-stops
returns-clause-stops c =
    let F = c.args.shelf.now.modules in
    let s = open_of c.args.opened.now.items in
    let D = c.args.done.now.items in
    let n = c.args.newest in
    let x = c.in_ok-used.used in
    let g = next_one n.uses.items n.next c.index.result.now (slice_get_read n.uses.items _ n.next c.index.result.now n.uses.ok.0 (omega (arith, c.if-next-len.false, c.len.ensures)) c.index.ensures) in
    let l = g ∙ ap (λ u. u ∷ drop (n.next + 1) n.uses.items) (sym c.in_ok-used.ensures) in
    let e = opened_new c.args.opened.now.items c.push-2.new.self.items _ n.name (drop (n.next + 1) n.uses.items) c.in_ok-push-2.ensures.items refl refl in
    moved c.in-Err.fault
    (λ f h. subst (λ us. Ends F ((n.name, us) ∷ s) D (Err f)) (sym l) (subst (λ t. EndsWith F t D x (Err f)) e (subst (λ d. EndsWith F (open_of c.push-2.new.self.items) d x (Err f)) c.deref.ensures.value h)))
    c.in-Err.ensures.stops
