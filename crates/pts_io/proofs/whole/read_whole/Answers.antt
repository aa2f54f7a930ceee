use Rattle.std.proofs.Common.{◌+◌, take, arith, length-append}
use Rattle.std.proofs.lemmas.List.{length-take}
use Rattle.pts_io.proofs.Known.{prepend_known-append, prepend_known-drop, given_on}
use Rattle.pts_io.proofs.whole.read_whole.Goals as goal

pub returns-then-count-eq0-clause-moved : goal.returns-then-count-eq0-clause-moved
returns-then-count-eq0-clause-moved g c _ =
    let taken = c.in-Ok.ensures in
    let (within, _, given, left) = c.turns.invariant in
    given_on _ _ _ _ _ _ _ _ _ c.in-Ok.count c.args.limit c.turns.bytes.ok.0 given left taken.given taken.moved (omega (arith, length-take c.in-Ok.count c.take.new.buffer, taken.bound, c.take.auto.buffer)) (omega (arith, c.if-count-eq0.true))

pub returns-then-count-room-clause-too_much_taken : goal.returns-then-count-room-clause-too_much_taken
returns-then-count-room-clause-too_much_taken g c _ =
    let taken = c.in-Ok.ensures in
    let bytes = c.turns.bytes.items in
    let piece = take c.in-Ok.count c.take.new.buffer in
    let (within, _, given, left) = c.turns.invariant in
    prepend_known-drop _ _ _ _ (prepend_known-append _ _ _ bytes piece left taken.moved) (omega (arith, length-append bytes piece, length-take c.in-Ok.count c.take.new.buffer, taken.bound, c.take.auto.buffer, length-take (c.min-wanted.result + 1) c.turns.buffer, c.turns.bytes.ok.0))

pub returns-in_default-extend_from_slice-clause-moved : goal.returns-in_default-extend_from_slice-clause-moved
returns-in_default-extend_from_slice-clause-moved g c _ =
    let taken = c.in-Ok.ensures in
    let (within, _, given, left) = c.turns.invariant in
    given_on _ _ _ _ _ _ _ _ _ c.in-Ok.count c.args.limit c.turns.bytes.ok.0 given left taken.given taken.moved (omega (arith, length-take c.in-Ok.count c.take.new.buffer, taken.bound, c.take.auto.buffer)) (omega (arith, c.if-count-room.false))
