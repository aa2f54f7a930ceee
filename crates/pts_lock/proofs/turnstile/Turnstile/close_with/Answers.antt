use Rattle.pts_lock.specs.Histories.{AddedBy}
use Rattle.pts_lock.specs.Views.{EachSawItsOwn}
use Rattle.pts_lock.proofs.Ends.{closes_with, value_is}
use Rattle.pts_lock.proofs.turnstile.Turnstile.close_with.Goals as goal

pub unreachable-requires : goal.unreachable-requires
unreachable-requires g c =
    let r = closes_with g.T.Staged.history _ _ _ _ _ _ c.requires.idle c.requires.all c.close_with-closed.ensures.values.2 c.take-slot.result c.take-slot.ensures.value in
    c.in_default.not-Some r.0 r.1

pub returns-clause-seen : goal.returns-clause-seen
returns-clause-seen g c =
    let hist = g.T.Staged.history in
    let r = closes_with hist _ _ _ _ _ _ c.requires.idle c.requires.all c.close_with-closed.ensures.values.2 c.take-slot.result c.take-slot.ensures.value in
    value_is hist c.args.self.table.shared.key.owners.items (hist c.args.self.table.shared.key.value.value) (λ x. EachSawItsOwn c.args.seat.me.0.pairs (hist x)) r.0 c.in-Some.value c.take-slot.result r.1 c.in-Some.is r.2

pub returns-clause-added : goal.returns-clause-added
returns-clause-added g c =
    let hist = g.T.Staged.history in
    let key = c.args.self.table.shared.key in
    let r = closes_with hist _ _ _ _ _ _ c.requires.idle c.requires.all c.close_with-closed.ensures.values.2 c.take-slot.result c.take-slot.ensures.value in
    value_is hist key.owners.items (hist key.value.value) (λ x. AddedBy key.owners.items (hist key.value.value) (hist x)) r.0 c.in-Some.value c.take-slot.result r.1 c.in-Some.is r.3
