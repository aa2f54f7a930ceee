use Rattle.std.proofs.Common.{◌≡◌, ◌≤◌, refl, sym, ◌∙◌, subst}
use Rattle.pts_modules.specs.Orders.{passed, stopped, opens, turn_of, used_by}
use Rattle.pts_modules.specs.Stacks.{Ends, Goes, names_open, open_of, work}
use Rattle.pts_modules.proofs.Steps.{opening_less}
use Rattle.pts_modules.proofs.Walk.{begin, moved, opened_new, pass, stop}
use Rattle.pts_modules.proofs.order.visit.Goals as goal

pub returns-in-Ok-None-clause-goes : goal.returns-in-Ok-None-clause-goes
returns-in-Ok-None-clause-goes c o k =
    let F = c.args.shelf.now.modules in
    let D = c.args.done.now in
    let x = c.args.name.now in
    let t = subst (λ ms. turn_of F (names_open ms) D x ≡ passed) c.deref.ensures.value (subst (Goes _) c.in-Ok-None.field-0-is c.in-Ok-None.ensures.goes) in
    pass F (open_of c.args.opened.now.items) D x o t k

pub returns-in_ok-push-in-Ok-Some-clause-goes : goal.returns-in_ok-push-in-Ok-Some-clause-goes
returns-in_ok-push-in-Ok-Some-clause-goes c o k =
    let F = c.args.shelf.now.modules in
    let D = c.args.done.now in
    let x = c.args.name.now in
    let g = subst (Goes _) c.in-Ok-Some.field-0-is c.in-Ok-Some.ensures.goes in
    let t = subst (λ ms. turn_of F (names_open ms) D x ≡ opens g.0) c.deref.ensures.value g.1 in
    let e = opened_new c.args.opened.now.items c.push.new.self.items _ x (used_by g.0) c.in_ok-push-in-Ok-Some.ensures.items c.in_ok-name-in-Ok-Some.ensures g.2 in
    begin F (open_of c.args.opened.now.items) D x g.0 o t (subst (λ s. Ends F s D o) e k)

pub returns-in_ok-push-in-Ok-Some-clause-less : goal.returns-in_ok-push-in-Ok-Some-clause-less
returns-in_ok-push-in-Ok-Some-clause-less c =
    let F = c.args.shelf.now.modules in
    let D = c.args.done.now in
    let x = c.args.name.now in
    let g = subst (Goes _) c.in-Ok-Some.field-0-is c.in-Ok-Some.ensures.goes in
    let t = subst (λ ms. turn_of F (names_open ms) D x ≡ opens g.0) c.deref.ensures.value g.1 in
    let e = opened_new c.args.opened.now.items c.push.new.self.items _ x (used_by g.0) c.in_ok-push-in-Ok-Some.ensures.items c.in_ok-name-in-Ok-Some.ensures g.2 in
    subst (λ s. work F s D ≤ work F (open_of c.args.opened.now.items) D) (sym e) (opening_less F (open_of c.args.opened.now.items) D x g.0 t)

pub returns-in-Err-clause-stops : goal.returns-in-Err-clause-stops
returns-in-Err-clause-stops c =
    let F = c.args.shelf.now.modules in
    let D = c.args.done.now in
    let x = c.args.name.now in
    moved c.in-Err.fault (λ e h. stop F (open_of c.args.opened.now.items) D x e (subst (λ ms. turn_of F (names_open ms) D x ≡ stopped e) c.deref.ensures.value h)) c.in-Err.ensures.stops
