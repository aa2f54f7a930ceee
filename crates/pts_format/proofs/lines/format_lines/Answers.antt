use Rattle.std.proofs.Common.{rules, ◌≡◌, refl, sym, ◌∙◌, ap, arith, [], ◌+◌, ◌++◌, string_bytes}
use Rattle.std.specs.Io.KnownBytes.{append_known}
use Rattle.pts_io.proofs.Known.{append_known-nil}
use Rattle.pts_io.proofs.Turns.{raised_on, line_written}
use Rattle.pts_format.proofs.Progress.{begins}
use Rattle.pts_format.proofs.Endings.{nothing_report, memory_report, write_report, is_open, line_stood, no_memory_report, failed_report, ended_report, whole_at_end}
use Rattle.pts_format.proofs.lines.format_lines.Goals as goal

pub returns-in_default-clause-lines : goal.returns-in_default-clause-lines
returns-in_default-clause-lines g c = nothing_report _ _ _ _ _

pub loop-before-init : goal.loop-before-init
loop-before-init g c =
    let n = c.in-Ok.ensures in
    let limit : c.in-Ok.reader.limit ≡ c.args.limit = n.limit ∙ c.from.ensures in
    record {
      limit = limit;
      inside = omega (arith, n.taken);
      ended = λ e. absurd (cc (n.ended, e));
      empty = λ e. n.held;
      reads = refl;
      writes = refl;
      given = omega (arith, n.taken);
      lines = ([], sym (append_known-nil _), begins _ _ _ _ _ n.taken n.held);
    }

pub returns-in-Err-Failed-clause-lines : goal.returns-in-Err-Failed-clause-lines
returns-in-Err-Failed-clause-lines g c =
    let i = c.loop-before.invariant in
    let (out, printed, stands) = i.lines in
    let n = c.in-Err-Failed.ensures in
    let (more, moved, took) = n.took in
    failed_report _ _ _ _ _ c.loop-before.reader c.next.new.self _ out more moved stands _ _ _ _ (raised_on _ _ _ _ _ i.given n.given n.grows) printed c.in-Err-Failed.field-0 took
    (is_open c.loop-before.reader.ended (λ e. n.done e (omega (arith, i.inside, i.limit))) (λ h. cc h)) (search rules) (search rules)

pub returns-in-Err-Memory-clause-lines : goal.returns-in-Err-Memory-clause-lines
returns-in-Err-Memory-clause-lines g c =
    let i = c.loop-before.invariant in
    let (out, printed, stands) = i.lines in
    let n = c.in-Err-Memory.ensures in
    let (more, moved, took) = n.took in
    no_memory_report _ _ _ _ _ c.loop-before.reader c.next.new.self _ out more moved stands _ _ _ _ (raised_on _ _ _ _ _ i.given n.given n.grows) printed took.count
    (is_open c.loop-before.reader.ended (λ e. n.done e (omega (arith, i.inside, i.limit))) (λ h. cc h)) (search rules)

pub returns-in-Err-clause-lines : goal.returns-in-Err-clause-lines
returns-in-Err-clause-lines g c =
    let i = c.loop-before.invariant in
    let (out, printed, stands) = i.lines in
    let n = c.in-Ok-next.ensures in
    let (more, moved, took) = n.took in
    ended_report _ _ _ _ _ c.loop-before.reader c.next.new.self _ out more moved stands _ _ _ _ (raised_on _ _ _ _ _ i.given n.given n.grows) printed c.in-Ok-next.input c.in-Err.ended c.in-Err.ensures.ended took i.inside i.limit (n.limit ∙ i.limit) n.too_much
    (omega (arith, n.most, n.limit, i.limit)) (λ e. n.done e (omega (arith, i.inside, i.limit))) (λ e. n.ended i.ended (n.closes e))

pub returns-in-Err-clause-end : goal.returns-in-Err-clause-end
returns-in-Err-clause-end g c whole =
    let i = c.loop-before.invariant in
    let n = c.in-Ok-next.ensures in
    n.ended i.ended (n.closes (whole_at_end c.in-Ok-next.input c.in-Err.ended c.in-Err.ensures.ended whole))

pub returns-in_default-write_whole-clause-lines : goal.returns-in_default-write_whole-clause-lines
returns-in_default-write_whole-clause-lines g c =
    let i = c.loop-before.invariant in
    let (out, printed, stands) = i.lines in
    let n = c.in-Ok-next.ensures in
    let (more, moved, took) = n.took in
    let line = line_stood _ c.args.limit _ _ _ c.loop-before.reader c.next.new.self _ out more moved stands (c.loop-before.before + 1) _ c.in-Ok-next.input (omega arith) c.in-Ok-answer_input.ensures.line took (omega (arith, i.inside, i.limit)) (λ e. n.done e (omega (arith, i.inside, i.limit))) in
    write_report _ _ _ _ _ _ _ _ _ _ _ _ out (string_bytes c.in-Ok-answer_input.line) c.as_bytes.result.now c.next.new.self.ended c.as_bytes.ensures.value (raised_on _ _ _ _ _ i.given n.given n.grows) (search rules) printed c.in_default-write_whole.ensures.part line (λ e. (n.ended i.ended e, took.empty e))

pub loop-before-preserved : goal.loop-before-preserved
loop-before-preserved g c =
    let i = c.loop-before.invariant in
    let (out, printed, stands) = i.lines in
    let n = c.in-Ok-next.ensures in
    let (more, moved, took) = n.took in
    record {
      limit = n.limit ∙ i.limit;
      inside = search rules;
      ended = n.ended i.ended;
      empty = took.empty;
      reads = search rules;
      writes = search rules;
      given = raised_on _ _ _ _ _ i.given n.given n.grows;
      lines = (
        out ++ string_bytes c.in-Ok-answer_input.line,
        line_written _ _ _ out _ printed (c.in-Ok-write_whole.ensures.written ∙ ap (append_known _) c.as_bytes.ensures.value),
        line_stood _ c.args.limit _ _ _ c.loop-before.reader c.next.new.self _ out more moved stands (c.loop-before.before + 1) _ c.in-Ok-next.input (omega arith) c.in-Ok-answer_input.ensures.line took (omega (arith, i.inside, i.limit)) (λ e. n.done e (omega (arith, i.inside, i.limit))),
      );
    }

pub returns-clause-lines : goal.returns-clause-lines
returns-clause-lines g c =
    let i = c.loop-before.invariant in
    let (out, printed, stands) = i.lines in
    memory_report _ _ _ _ _ _ _ _ c.loop-before.reader.taken _ _ out c.loop-before.reader.ended i.given i.inside printed stands (λ e. (i.ended e, i.empty e))
