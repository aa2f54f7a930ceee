use Rattle.std.proofs.Common.{rules, ◌≡◌, ◌∙◌, ◌≤◌, ap, sym, subst, arith, length, map, vec_capacity, true}
use Rattle.std.specs.List.{AllByRecursion}
use Rattle.std.proofs.lemmas.List.{length-map}
use Rattle.pts_names.specs.Lists.{In, AllDiffer}
use Rattle.pts_rounds.specs.Workers.{EachRan}
use Rattle.pts_serve.specs.Workers.{IsReady, HasRun, finish_with, turned}
use Rattle.pts_serve.proofs.Turned.{turned_length}
use Rattle.pts_serve.proofs.Rounds.{ready, back_passes, back_all, back_some, served, fit, same_numbers, ran_long, written_back, first_passes, passes_long}
use denote.Exit as exit
use denote.Param.{param}
use denote.Param.Send.{sendable, param_send, arg_send}
use Rattle.pts_serve.proofs.Crossing.{worker_sent}
use Rattle.pts_serve.proofs.round.serve_round.Goals as goal

pub open-requires-clause-some : goal.open-requires-clause-some
open-requires-clause-some g c =
    let names = c.as_slice-2.ensures.value ∙ (c.in_ok-numbers.ensures ∙ ap (map (λ s. s.number)) c.as_slice.ensures.value) in
    let long = ap length names ∙ length-map c.args.staff.items (λ s. s.number) in
    let some = c.requires.some in
    omega (arith, long, some)

pub open-requires-clause-differ : goal.open-requires-clause-differ
open-requires-clause-differ g c =
    subst AllDiffer (sym (c.as_slice-2.ensures.value ∙ (c.in_ok-numbers.ensures ∙ ap (map (λ s. s.number)) c.as_slice.ensures.value))) c.requires.differ

pub open-requires-clause-few : goal.open-requires-clause-few
open-requires-clause-few g c =
    let names = c.as_slice-2.ensures.value ∙ (c.in_ok-numbers.ensures ∙ ap (map (λ s. s.number)) c.as_slice.ensures.value) in
    let long = ap length names ∙ length-map c.args.staff.items (λ s. s.number) in
    let few = c.requires.few in
    omega (arith, long, few)

pub close-core-requires-clause-some : goal.close-core-requires-clause-some
close-core-requires-clause-some g c =
    let shared = c.in_ok-shared.shared in
    let o = c.in_ok-shared.ensures in
    let names = c.as_slice-2.ensures.value ∙ (c.in_ok-numbers.ensures ∙ ap (map (λ s. s.number)) c.as_slice.ensures.value) in
    let many = passes_long c.in_ok-shared.passes.items c.as_slice-2.result.now c.args.staff.items o.sessions names in
    let some = c.requires.some in
    omega (arith, many, some)

pub close-core-requires-clause-passes : goal.close-core-requires-clause-passes
close-core-requires-clause-passes g c =
    let shared = c.in_ok-shared.shared in
    let o = c.in_ok-shared.ensures in
    let names = c.as_slice-2.ensures.value ∙ (c.in_ok-numbers.ensures ∙ ap (map (λ s. s.number)) c.as_slice.ensures.value) in
    first_passes shared c.args.core c.in_ok-shared.passes.items o.opening.1 o.passes

pub close-core-requires-clause-all : goal.close-core-requires-clause-all
close-core-requires-clause-all g c n i =
    let o = c.in_ok-shared.ensures in
    subst (In n) (o.opening.0 ∙ sym o.sessions) i

pub hire-requires-clause-owners : goal.hire-requires-clause-owners
hire-requires-clause-owners g c =
    let shared = c.in_ok-shared.shared in
    let o = c.in_ok-shared.ensures in
    let names = c.as_slice-2.ensures.value ∙ (c.in_ok-numbers.ensures ∙ ap (map (λ s. s.number)) c.as_slice.ensures.value) in
    o.sessions ∙ names

pub run_round-requires-after_bounds : goal.run_round-requires-after_bounds
run_round-requires-after_bounds g c κs within =
    let shared = c.in_ok-shared.shared in
    let o = c.in_ok-shared.ensures in
    let names = c.as_slice-2.ensures.value ∙ (c.in_ok-numbers.ensures ∙ ap (map (λ s. s.number)) c.as_slice.ensures.value) in
    let h = c.hire.ensures in
    let ws = c.hire.new.workers.items in
    subst (AllByRecursion (IsReady g.C.Client.fits)) (sym c.as_mut_slice.ensures.value) (ready g.C.Client.local g.C.Client.resumes g.C.Client.steps g.C.Client.fits shared c.args.world.now c.args.core c.as_slice-2.result.now c.args.staff.items c.in_ok-shared.passes.items ws o.opening o.sessions o.passes names h.jobs h.passes h.shared h.world c.requires.fits)

pub dismiss-ended-requires-clause-room : goal.dismiss-ended-requires-clause-room
dismiss-ended-requires-clause-room g c =
    let shared = c.in_ok-shared.shared in
    let o = c.in_ok-shared.ensures in
    let names = c.as_slice-2.ensures.value ∙ (c.in_ok-numbers.ensures ∙ ap (map (λ s. s.number)) c.as_slice.ensures.value) in
    let h = c.hire.ensures in
    let ws = c.hire.new.workers.items in
    let after = c.run_round.new.workers in
    let ran = subst (λ z. EachRan (HasRun g.C.Client.local g.C.Client.resumes g.C.Client.steps g.C.Client.fits) z after) c.as_mut_slice.ensures.value c.run_round.ensures in
    let back = written_back ws after c.hire.new.workers.len (ran_long _ ws after ran) (search rules) in
    let long = ap length back in
    let same = ran_long _ ws after ran in
    let count = turned_length (map (λ w. w.pass) ws) in
    let all = ap length h.passes in
    let each = length-map ws (λ w. w.pass) in
    let many = passes_long c.in_ok-shared.passes.items c.as_slice-2.result.now c.args.staff.items o.sessions names in
    let kept = h.capacity in
    let within : length c.in_ok-shared.passes.items ≤ vec_capacity c.in_ok-shared.passes = search rules in
    let room : length c.args.staff.items ≤ vec_capacity c.in_ok-after.after = search rules in
    (omega (arith, long, same, count, all, each, many, kept, within), omega (arith, long, same, count, all, each, many, room))

pub close-core-requires-2-clause-some : goal.close-core-requires-2-clause-some
close-core-requires-2-clause-some g c =
    let shared = c.in_ok-shared.shared in
    let o = c.in_ok-shared.ensures in
    let names = c.as_slice-2.ensures.value ∙ (c.in_ok-numbers.ensures ∙ ap (map (λ s. s.number)) c.as_slice.ensures.value) in
    let h = c.hire.ensures in
    let ws = c.hire.new.workers.items in
    let after = c.run_round.new.workers in
    let ran = subst (λ z. EachRan (HasRun g.C.Client.local g.C.Client.resumes g.C.Client.steps g.C.Client.fits) z after) c.as_mut_slice.ensures.value c.run_round.ensures in
    let back = written_back ws after c.hire.new.workers.len (ran_long _ ws after ran) (search rules) in
    let given = c.dismiss-ended.ensures.passes ∙ ap (λ z. turned (map (λ w. w.pass) z)) back in
    back_some g.C.Client.local g.C.Client.resumes g.C.Client.steps g.C.Client.fits shared c.args.world.now c.args.core c.as_slice-2.result.now c.args.staff.items c.in_ok-shared.passes.items ws o.opening o.sessions o.passes names h.jobs h.passes h.shared h.world after ran c.dismiss-ended.new.passes.items given c.requires.some

pub close-core-requires-2-clause-passes : goal.close-core-requires-2-clause-passes
close-core-requires-2-clause-passes g c =
    let shared = c.in_ok-shared.shared in
    let o = c.in_ok-shared.ensures in
    let names = c.as_slice-2.ensures.value ∙ (c.in_ok-numbers.ensures ∙ ap (map (λ s. s.number)) c.as_slice.ensures.value) in
    let h = c.hire.ensures in
    let ws = c.hire.new.workers.items in
    let after = c.run_round.new.workers in
    let ran = subst (λ z. EachRan (HasRun g.C.Client.local g.C.Client.resumes g.C.Client.steps g.C.Client.fits) z after) c.as_mut_slice.ensures.value c.run_round.ensures in
    let back = written_back ws after c.hire.new.workers.len (ran_long _ ws after ran) (search rules) in
    let given = c.dismiss-ended.ensures.passes ∙ ap (λ z. turned (map (λ w. w.pass) z)) back in
    back_passes g.C.Client.local g.C.Client.resumes g.C.Client.steps g.C.Client.fits shared c.args.world.now c.args.core c.as_slice-2.result.now c.args.staff.items c.in_ok-shared.passes.items ws o.opening o.sessions o.passes names h.jobs h.passes h.shared h.world after ran c.dismiss-ended.new.passes.items given

pub close-core-requires-2-clause-all : goal.close-core-requires-2-clause-all
close-core-requires-2-clause-all g c n i =
    let shared = c.in_ok-shared.shared in
    let o = c.in_ok-shared.ensures in
    let names = c.as_slice-2.ensures.value ∙ (c.in_ok-numbers.ensures ∙ ap (map (λ s. s.number)) c.as_slice.ensures.value) in
    let h = c.hire.ensures in
    let ws = c.hire.new.workers.items in
    let after = c.run_round.new.workers in
    let ran = subst (λ z. EachRan (HasRun g.C.Client.local g.C.Client.resumes g.C.Client.steps g.C.Client.fits) z after) c.as_mut_slice.ensures.value c.run_round.ensures in
    let back = written_back ws after c.hire.new.workers.len (ran_long _ ws after ran) (search rules) in
    let given = c.dismiss-ended.ensures.passes ∙ ap (λ z. turned (map (λ w. w.pass) z)) back in
    back_all g.C.Client.local g.C.Client.resumes g.C.Client.steps g.C.Client.fits shared c.args.world.now c.args.core c.as_slice-2.result.now c.args.staff.items c.in_ok-shared.passes.items ws o.opening o.sessions o.passes names h.jobs h.passes h.shared h.world after ran c.dismiss-ended.new.passes.items given n i

pub returns-clause-served : goal.returns-clause-served
returns-clause-served g c =
    let shared = c.in_ok-shared.shared in
    let o = c.in_ok-shared.ensures in
    let names = c.as_slice-2.ensures.value ∙ (c.in_ok-numbers.ensures ∙ ap (map (λ s. s.number)) c.as_slice.ensures.value) in
    let h = c.hire.ensures in
    let ws = c.hire.new.workers.items in
    let after = c.run_round.new.workers in
    let ran = subst (λ z. EachRan (HasRun g.C.Client.local g.C.Client.resumes g.C.Client.steps g.C.Client.fits) z after) c.as_mut_slice.ensures.value c.run_round.ensures in
    let back = written_back ws after c.hire.new.workers.len (ran_long _ ws after ran) (search rules) in
    let given = c.dismiss-ended.ensures.passes ∙ ap (λ z. turned (map (λ w. w.pass) z)) back in
    let ended = subst (AllByRecursion (λ w. w.ended ≡ true)) back (c.dismiss-ended.ensures.ended c.if-not-ended.false) in
    let finishes = c.dismiss-ended.ensures.finishes ∙ ap (λ z. turned (map finish_with z)) back in
    served g.C.Client.local g.C.Client.resumes g.C.Client.steps g.C.Client.fits shared c.args.world.now c.args.core c.as_slice-2.result.now c.args.staff.items c.in_ok-shared.passes.items ws o.opening o.sessions o.passes names h.jobs h.passes h.shared h.world after ran c.dismiss-ended.new.passes.items given c.close-core-2.result.history c.close-core-2.ensures.seen ended c.dismiss-ended.new.staff.items finishes c.close-core-2.ensures.added

pub returns-clause-fits : goal.returns-clause-fits
returns-clause-fits g c =
    let shared = c.in_ok-shared.shared in
    let o = c.in_ok-shared.ensures in
    let names = c.as_slice-2.ensures.value ∙ (c.in_ok-numbers.ensures ∙ ap (map (λ s. s.number)) c.as_slice.ensures.value) in
    let h = c.hire.ensures in
    let ws = c.hire.new.workers.items in
    let after = c.run_round.new.workers in
    let ran = subst (λ z. EachRan (HasRun g.C.Client.local g.C.Client.resumes g.C.Client.steps g.C.Client.fits) z after) c.as_mut_slice.ensures.value c.run_round.ensures in
    let back = written_back ws after c.hire.new.workers.len (ran_long _ ws after ran) (search rules) in
    let given = c.dismiss-ended.ensures.passes ∙ ap (λ z. turned (map (λ w. w.pass) z)) back in
    let ended = subst (AllByRecursion (λ w. w.ended ≡ true)) back (c.dismiss-ended.ensures.ended c.if-not-ended.false) in
    let finishes = c.dismiss-ended.ensures.finishes ∙ ap (λ z. turned (map finish_with z)) back in
    fit g.C.Client.local g.C.Client.resumes g.C.Client.steps g.C.Client.fits shared c.args.world.now c.args.core c.as_slice-2.result.now c.args.staff.items c.in_ok-shared.passes.items ws o.opening o.sessions o.passes names h.jobs h.passes h.shared h.world after ran c.dismiss-ended.new.passes.items given c.close-core-2.result.history c.close-core-2.ensures.seen ended c.dismiss-ended.new.staff.items finishes ((g.met.C.Client g.world.𝓛 g.world.𝓜 g.world.𝓡 ((λ s x. x), (λ x. x), (λ x. x), λ x. x)).fits_on c.args.world.now)

pub returns-clause-numbers : goal.returns-clause-numbers
returns-clause-numbers g c =
    let shared = c.in_ok-shared.shared in
    let o = c.in_ok-shared.ensures in
    let names = c.as_slice-2.ensures.value ∙ (c.in_ok-numbers.ensures ∙ ap (map (λ s. s.number)) c.as_slice.ensures.value) in
    let h = c.hire.ensures in
    let ws = c.hire.new.workers.items in
    let after = c.run_round.new.workers in
    let ran = subst (λ z. EachRan (HasRun g.C.Client.local g.C.Client.resumes g.C.Client.steps g.C.Client.fits) z after) c.as_mut_slice.ensures.value c.run_round.ensures in
    let back = written_back ws after c.hire.new.workers.len (ran_long _ ws after ran) (search rules) in
    let given = c.dismiss-ended.ensures.passes ∙ ap (λ z. turned (map (λ w. w.pass) z)) back in
    same_numbers g.C.Client.local g.C.Client.resumes g.C.Client.steps g.C.Client.fits shared c.args.world.now c.args.core c.as_slice-2.result.now c.args.staff.items c.in_ok-shared.passes.items ws o.opening o.sessions o.passes names h.jobs h.passes h.shared h.world after ran c.dismiss-ended.new.passes.items given c.dismiss-ended.new.staff.items (c.dismiss-ended.ensures.numbers ∙ ap (λ z. turned (map (λ w. w.pass.owner) z)) back)

pub returns-clause-system : goal.returns-clause-system
returns-clause-system g c = c.close-core-2.ensures.system ∙ ap (λ k. k.system) c.in_ok-shared.ensures.opening.1

pub returns-then-not-ended-clause-system : goal.returns-then-not-ended-clause-system
returns-then-not-ended-clause-system g c = c.close-core-2.ensures.system ∙ ap (λ k. k.system) c.in_ok-shared.ensures.opening.1

pub returns-in_default-clause-system : goal.returns-in_default-clause-system
returns-in_default-clause-system g c = c.close-core.ensures.system ∙ ap (λ k. k.system) c.in_ok-shared.ensures.opening.1

pub run_round-requires-send-W : goal.run_round-requires-send-W
run_round-requires-send-W g c κs within = param_send 1 _ (arg_send _ exit.no _ (worker_sent _ (param 2 g.row.W) (param 3 g.row.C) (search (c.type_bounds.sync-W, sendable)) (search (c.type_bounds.send-C, sendable))))
