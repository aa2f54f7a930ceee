use Rattle.std.proofs.Common.{[], map, length, ap, ◌∙◌, subst, arith}
use Rattle.std.specs.Vec.Iter.{into_iter_items, into_iter_len}
use Rattle.pts_rules.specs.Meter.{left}
use Rattle.pts_batch.specs.Loading.{Loads}
use Rattle.pts_batch.specs.Evidence.{numbered, AllDeclarable}
use Rattle.pts_batch.proofs.Steps.{step_kept, step_stops, end_kept, none_left, entries_kept, evidence_kept, room_kept}
use Rattle.pts_batch.proofs.loading.load.Goals as goal

pub returns-in-Err : goal.returns-in-Err
returns-in-Err c =
    let v = c.loop-line.invariant in
    let all = Loads c.args.system.now c.args.label.now [] (map numbered c.args.lines.items) in
    record {
      loaded = tt;
      labels = tt;
      entries = tt;
      evidence = tt;
      refused = step_stops c.args.system.now c.args.label.now all (left c.args.meter.now) c.loop-line.loading.context.entries (left c.loop-line.meter) (into_iter_items c.loop-line.rest) v.behind c.in-Some.line (into_iter_items c.next.new.self) c.in-Some.ensures.items c.in-Err.fault c.fault_at.result (left c.add.new.meter) c.fault_at.ensures c.in-Err.ensures.refused;
      later = (c.add.ensures.later.0 ∙ v.later.0, omega (arith, v.later.1, c.add.ensures.later.1));
    }

pub loop-line-preserved : goal.loop-line-preserved
loop-line-preserved c =
    let v = c.loop-line.invariant in
    let all = Loads c.args.system.now c.args.label.now [] (map numbered c.args.lines.items) in
    let ls = into_iter_items c.loop-line.rest in
    let more = into_iter_items c.next.new.self in
    let p = c.in-Some.ensures.items in
    let (d, w, m, e, q) = c.in-Ok.ensures.entered in
    record {
      behind = step_kept c.args.system.now c.args.label.now all (left c.args.meter.now) c.loop-line.loading.context.entries (left c.loop-line.meter) ls v.behind c.in-Some.line more p c.add.new.self.context.entries d (left c.add.new.meter) w e;
      names = (subst AllDeclarable p v.names).1;
      labels = c.add.ensures.labels ∙ v.labels;
      entries = entries_kept c.loop-line.loading.declarations.items c.add.new.self.declarations.items d c.loop-line.loading.context.entries c.add.new.self.context.entries v.entries e q;
      evidence = evidence_kept c.args.system.now c.loop-line.loading.declarations.items c.add.new.self.declarations.items d c.loop-line.loading.context.entries v.entries q v.evidence m;
      long = omega (arith, v.long, c.in-Some.ensures.len, ap length p);
      room = room_kept ls c.in-Some.line more c.loop-line.loading.context.spare_entries c.add.new.self.context.spare_entries p v.room c.add.ensures.spare;
      later = (c.add.ensures.later.0 ∙ v.later.0, omega (arith, v.later.1, c.add.ensures.later.1));
    }

pub returns-clause-loaded : goal.returns-clause-loaded
returns-clause-loaded c =
    let v = c.loop-line.invariant in
    let all = Loads c.args.system.now c.args.label.now [] (map numbered c.args.lines.items) in
    end_kept c.args.system.now c.args.label.now all (left c.args.meter.now) c.loop-line.loading.context.entries (left c.loop-line.meter) (into_iter_items c.loop-line.rest) v.behind (none_left (into_iter_items c.loop-line.rest) (into_iter_len c.loop-line.rest) v.long c.in_default.ensures.cases.0)
