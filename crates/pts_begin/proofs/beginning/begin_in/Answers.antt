use Rattle.pts_record.specs.Table.{named_at}
use Rattle.pts_rules.specs.Meter.{left}
use Rattle.pts_begin.proofs.Starting.{is_judged, in_context, in_empty, has_sort, sorted_within, unsorted}
use Rattle.pts_begin.proofs.beginning.begin_in.Goals as goal

pub start-requires : goal.start-requires
start-requires c =
    let a = c.args.opened.proof in
    let b = c.infer_sorted.new.proof in
    let j = c.in-Ok.ensures.judged in
    let t = named_at c.args.opened.proof.shapes c.args.opened.term in record {
      node = j.2.0;
      judgement = is_judged a b c.args.opened.ctx c.in-Ok.sorted j.0 t c.infer_sorted.ensures.keeps c.requires.opened j.2;
      context = in_context a b c.args.opened.ctx c.in-Ok.sorted j.0 t c.infer_sorted.ensures.keeps c.requires.opened j.2;
      empty = in_empty a b c.args.opened.ctx c.in-Ok.sorted j.0 t c.infer_sorted.ensures.keeps c.requires.opened j.2;
      sort = has_sort a b c.args.opened.ctx c.in-Ok.sorted j.0 t c.infer_sorted.ensures.keeps c.requires.opened j.2;
    }

pub returns-in_ok-start-in-Ok-clause-sorted : goal.returns-in_ok-start-in-Ok-clause-sorted
returns-in_ok-start-in-Ok-clause-sorted c =
    let j = c.in-Ok.ensures.judged in
    let t = named_at c.args.opened.proof.shapes c.args.opened.term in (
      j.0,
      sorted_within c.args.system.now c.args.front.now.entries t c.requires.within (left c.args.meter.now) (left c.infer_sorted.new.meter) j.0 c.args.opened.proof c.args.opened.ctx c.requires.opened.2 j.1,
    )

pub returns-in-Err-clause-refused : goal.returns-in-Err-clause-refused
returns-in-Err-clause-refused c =
    unsorted c.args.system.now c.args.front.now.entries (named_at c.args.opened.proof.shapes c.args.opened.term) c.requires.within (left c.args.meter.now) (left c.infer_sorted.new.meter) c.in-Err.fault c.args.opened.proof c.args.opened.ctx c.requires.opened.2 c.in-Err.ensures.refused
