use Rattle.std.proofs.Common.{map, length, ap, ◌++◌, ◌∙◌, arith}
use Rattle.std.specs.Vec.Iter.{into_iter_items}
use Rattle.pts_ctx.specs.Entries.{global_of}
use Rattle.pts_core.proofs.Pushing.{fresh_first, free_rest, entries_rest, within_first, room_rest, names_rest}
use Rattle.pts_core.proofs.entering.push_all.Goals as goal

pub push-requires-clause-fresh : goal.push-requires-clause-fresh
push-requires-clause-fresh c =
    let es = map global_of (into_iter_items c.loop-entry.entries) in
    let more = map global_of (into_iter_items c.next.new.self) in
    fresh_first c.loop-entry.context.entries es es more (global_of c.in-Some.entry) (ap (map global_of) c.in-Some.ensures.items) c.loop-entry.invariant.free

pub loop-entry-preserved : goal.loop-entry-preserved
loop-entry-preserved c =
    let v = c.loop-entry.invariant in
    let G = c.loop-entry.context.entries in
    let H = c.push.new.self.entries in
    let e = global_of c.in-Some.entry in
    let all = c.args.context.now.entries ++ map global_of c.args.entries.items in
    let es = map global_of (into_iter_items c.loop-entry.entries) in
    let more = map global_of (into_iter_items c.next.new.self) in
    let p = ap (map global_of) c.in-Some.ensures.items in
    record {
      entries = entries_rest G all es more e p H c.push.ensures.entries v.entries;
      labels = c.push.ensures.labels ∙ v.labels;
      names = names_rest (into_iter_items c.loop-entry.names) (into_iter_items c.next-in-Some.new.self) c.in-Some-next.name es more e c.in-Some-next.ensures.items p v.names;
      free = free_rest G all es more e p H c.push.ensures.entries v.free;
      within = (within_first G all es more e p v.within).1;
      room = room_rest G all es more e p c.loop-entry.context.spare_entries c.push.new.self.spare_entries v.room c.push.ensures.spare_entries;
      long = omega (arith, v.long, c.in-Some.ensures.len, ap length c.in-Some.ensures.items);
      names_long = omega (arith, v.names_long, c.in-Some-next.ensures.len, ap length c.in-Some-next.ensures.items);
    }
