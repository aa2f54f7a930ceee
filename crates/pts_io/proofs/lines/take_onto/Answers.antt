use Rattle.std.proofs.Common.{◌≡◌, ◌-◌, length, take, drop, vec_len, ◌∙◌, arith, length-drop}
use Rattle.std.proofs.lemmas.List.{length-take}
use Rattle.pts_io.proofs.Known.{take-longer, take-written, take-kept, prepend_known-held}
use Rattle.pts_io.proofs.Took.{gets_nothing}
use Rattle.pts_io.proofs.lines.take_onto.Goals as goal

pub returns-in-Ok-take-clause-ahead : goal.returns-in-Ok-take-clause-ahead
returns-in-Ok-take-clause-ahead g c =
    let taken = c.in-Ok-take.ensures in
    let old = c.args.bytes.now in
    let held = c.len-held.result in
    let count = c.in-Ok-take.count in
    let all = c.deref_mut.result.now in
    let len : length old.items ≡ held = omega (arith, old.ok.0, c.len-held.ensures) in
    let front : take held all ≡ old.items =
    take-longer old.items all c.resize.new.self.items _ held c.args.most c.deref_mut.ensures.value c.in-Ok.ensures.items len in
    let items =
    c.truncate.ensures.items ∙ take-written old.items all c.take.new.buffer _ _ held count (vec_len c.resize.new.self) front len (omega (arith, taken.bound, c.take.auto.buffer)) (omega (arith, taken.bound, length-take (length all - held) (drop held all), length-drop held all, c.deref_mut.ensures.len, c.in-Ok.ensures.len)) in
    prepend_known-held old.items _ _ _ _ items taken.moved

pub returns-in-Ok-take-clause-gets : goal.returns-in-Ok-take-clause-gets
returns-in-Ok-take-clause-gets g c =
    let taken = c.in-Ok-take.ensures in
    let old = c.args.bytes.now in
    let held = c.len-held.result in
    let count = c.in-Ok-take.count in
    let all = c.deref_mut.result.now in
    let len : length old.items ≡ held = omega (arith, old.ok.0, c.len-held.ensures) in
    let front : take held all ≡ old.items =
    take-longer old.items all c.resize.new.self.items _ held c.args.most c.deref_mut.ensures.value c.in-Ok.ensures.items len in
    let items =
    c.truncate.ensures.items ∙ take-written old.items all c.take.new.buffer _ _ held count (vec_len c.resize.new.self) front len (omega (arith, taken.bound, c.take.auto.buffer)) (omega (arith, taken.bound, length-take (length all - held) (drop held all), length-drop held all, c.deref_mut.ensures.len, c.in-Ok.ensures.len)) in
    (take count c.take.new.buffer, items, taken.moved)

pub returns-in-Err-Failed-clause-gets : goal.returns-in-Err-Failed-clause-gets
returns-in-Err-Failed-clause-gets g c =
    let old = c.args.bytes.now in
    let held = c.len-held.result in
    let all = c.deref_mut.result.now in
    let len : length old.items ≡ held = omega (arith, old.ok.0, c.len-held.ensures) in
    let front : take held all ≡ old.items =
    take-longer old.items all c.resize.new.self.items _ held c.args.most c.deref_mut.ensures.value c.in-Ok.ensures.items len in
    let items =
    c.truncate-in-Err-Failed.ensures.items ∙ take-kept old.items all c.take.new.buffer _ _ held (vec_len c.resize.new.self) front len (omega (arith, c.in-Ok.ensures.len)) in
    gets_nothing _ _ _ _ items c.in-Err-Failed.ensures.not_moved
