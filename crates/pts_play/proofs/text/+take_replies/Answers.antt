use Rattle.std.proofs.Common.{arith, ◌∙◌, ap, map, ◌++◌, ◌+◌}
use Rattle.pts_play.specs.Rounds.{reply_line}
use Rattle.pts_play.specs.Play.{full_line}
use Rattle.pts_play.proofs.Printing.{replies_added}
use Rattle.pts_play.proofs.text.+take_replies.Goals as goal

pub returns-in_ok-take_replies-clause-lines : goal.returns-in_ok-take_replies-clause-lines
returns-in_ok-take_replies-clause-lines g t c =
    let own = c.in_ok-print_replies.ensures ∙ ap (λ xs. c.args.lines.now.items ++ map full_line (map (reply_line c.args.number) xs)) c.as_slice.ensures.value in
    replies_added c.args.number (c.args.number + 1) c.args.seats.now c.in-Some.seat.now c.in-Some.rest.now c.args.lines.now.items c.print_replies.new.lines.items c.take_replies.new.lines.items c.in-Some.ensures.cases.0 (omega arith) own c.in_ok-take_replies.ensures.lines
