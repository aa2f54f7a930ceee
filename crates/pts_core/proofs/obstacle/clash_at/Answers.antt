use Rattle.std.proofs.Common.{Some, ◌+◌, ◌-◌, sym, ap, ◌∙◌, arith}
use Rattle.pts_ctx.specs.Entries.{global_of}
use Rattle.pts_check.specs.Entered.{declared_entries}
use Rattle.pts_core.proofs.Clashes.{clash_in_front, no_clash_here}
use Rattle.pts_core.proofs.Scanning.{entry_at_number, number_fits, moved_place}
use Rattle.pts_core.proofs.obstacle.clash_at.Goals as goal

pub returns-in-Some-clause-place : goal.returns-in-Some-clause-place
returns-in-Some-clause-place c =
    let v = c.examined.inside in
    let x = c.args.examined.now in
    let n = c.args.number in
    let e = c.index-entry.result.now in
    let at = entry_at_number v.entries.items v.offer.value x.offer n e c.examined.invariant.same_entries (ap (λ w. w.offer) c.examined.view_is) c.requires.number c.index-entry.ensures in
    clash_in_front x.offer.front.entries c.args.context.now.entries (declared_entries x.offer.declarations) n (global_of e) at c.in-Some.place c.requires.in_context (sym c.place_of.ensures.place ∙ c.in-Some.is)

pub overflow_sub-result : goal.overflow_sub-result
overflow_sub-result c =
    let v = c.examined.inside in
    let x = c.args.examined.now in
    let n = c.args.number in
    let e = c.index-entry.result.now in
    let o = ap (λ w. w.offer) c.examined.view_is in
    let at = entry_at_number v.entries.items v.offer.value x.offer n e c.examined.invariant.same_entries o c.requires.number c.index-entry.ensures in
    let fits = number_fits v.entries.items v.offer.value x.offer n c.examined.invariant.same_entries o c.requires.number (omega (arith, v.entries.ok.0, v.entries.ok.1, v.entries.small)) in
    (moved_place x.offer.front.entries c.args.context.now.entries (declared_entries x.offer.declarations) n (global_of e) c.in-Some-doubled_at.place c.front_len.result at c.front_len.ensures c.requires.few fits c.requires.front c.requires.in_offer c.requires.in_context c.in-Some-doubled_at.ensures.place (sym c.place_of.ensures.place ∙ c.in_default.is)).0

pub overflow_add-result : goal.overflow_add-result
overflow_add-result c =
    let v = c.examined.inside in
    let x = c.args.examined.now in
    let n = c.args.number in
    let e = c.index-entry.result.now in
    let o = ap (λ w. w.offer) c.examined.view_is in
    let at = entry_at_number v.entries.items v.offer.value x.offer n e c.examined.invariant.same_entries o c.requires.number c.index-entry.ensures in
    let fits = number_fits v.entries.items v.offer.value x.offer n c.examined.invariant.same_entries o c.requires.number (omega (arith, v.entries.ok.0, v.entries.ok.1, v.entries.small)) in
    let r = moved_place x.offer.front.entries c.args.context.now.entries (declared_entries x.offer.declarations) n (global_of e) c.in-Some-doubled_at.place c.front_len.result at c.front_len.ensures c.requires.few fits c.requires.front c.requires.in_offer c.requires.in_context c.in-Some-doubled_at.ensures.place (sym c.place_of.ensures.place ∙ c.in_default.is) in
    let l = r.1 in
    omega (arith, l, c.len.ensures)

pub returns-in-Some-doubled_at-clause-place : goal.returns-in-Some-doubled_at-clause-place
returns-in-Some-doubled_at-clause-place c =
    let v = c.examined.inside in
    let x = c.args.examined.now in
    let n = c.args.number in
    let e = c.index-entry.result.now in
    let o = ap (λ w. w.offer) c.examined.view_is in
    let p = c.in-Some-doubled_at.place in
    let front = c.front_len.result in
    let at = entry_at_number v.entries.items v.offer.value x.offer n e c.examined.invariant.same_entries o c.requires.number c.index-entry.ensures in
    let fits = number_fits v.entries.items v.offer.value x.offer n c.examined.invariant.same_entries o c.requires.number (omega (arith, v.entries.ok.0, v.entries.ok.1, v.entries.small)) in
    let r = moved_place x.offer.front.entries c.args.context.now.entries (declared_entries x.offer.declarations) n (global_of e) p front at c.front_len.ensures c.requires.few fits c.requires.front c.requires.in_offer c.requires.in_context c.in-Some-doubled_at.ensures.place (sym c.place_of.ensures.place ∙ c.in_default.is) in
    r.2 ∙ ap (λ m. Some (n, m + (p - front))) (sym c.len.ensures)

pub returns-in-None-clause-in_offer : goal.returns-in-None-clause-in_offer
returns-in-None-clause-in_offer c = λ z.
    let v = c.examined.inside in
    let x = c.args.examined.now in
    let n = c.args.number in
    let e = c.index-entry.result.now in
    let at = entry_at_number v.entries.items v.offer.value x.offer n e c.examined.invariant.same_entries (ap (λ w. w.offer) c.examined.view_is) c.requires.number c.index-entry.ensures in
    (no_clash_here x.offer.front.entries c.args.context.now.entries (declared_entries x.offer.declarations) n (global_of e) at c.requires.in_offer c.requires.in_context (c.doubled_at.ensures.once c.in-None.is c.requires.faultless) (sym c.place_of.ensures.place ∙ c.in_default.is)).0

pub returns-in-None-clause-in_context : goal.returns-in-None-clause-in_context
returns-in-None-clause-in_context c = λ z.
    let v = c.examined.inside in
    let x = c.args.examined.now in
    let n = c.args.number in
    let e = c.index-entry.result.now in
    let at = entry_at_number v.entries.items v.offer.value x.offer n e c.examined.invariant.same_entries (ap (λ w. w.offer) c.examined.view_is) c.requires.number c.index-entry.ensures in
    (no_clash_here x.offer.front.entries c.args.context.now.entries (declared_entries x.offer.declarations) n (global_of e) at c.requires.in_offer c.requires.in_context (c.doubled_at.ensures.once c.in-None.is c.requires.faultless) (sym c.place_of.ensures.place ∙ c.in_default.is)).1
