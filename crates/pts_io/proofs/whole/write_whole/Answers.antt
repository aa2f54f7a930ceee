use Rattle.std.proofs.Common.{◌≡◌, ◌-◌, length, take, drop, rules, arith, length-drop}
use Rattle.std.proofs.lemmas.List.{take_all}
use Rattle.pts_io.proofs.Known.{append_known-take}
use Rattle.pts_io.proofs.whole.write_whole.Goals as goal

pub loop-done-preserved : goal.loop-done-preserved
loop-done-preserved g c =
    let done = c.loop-done.done in
    let bytes = c.args.bytes.now in
    let put = c.in_ok-count.ensures in
    let rest : take (length bytes - done) (drop done bytes) ≡ drop done bytes = take_all _ (drop done bytes) (omega (arith, length-drop done bytes)) in
    let moved = rw rest at put.moved in (
      omega (arith, put.bound, length-drop done bytes),
      search rules,
      append_known-take _ _ _ done c.in_ok-count.count bytes c.loop-done.invariant.2 moved,
    )
