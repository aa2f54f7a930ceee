use Rattle.std.proofs.Common.{◌≡◌, ◌++◌, map, drop}
use Rattle.pts_play.specs.Rounds.{reply_line}
use Rattle.pts_play.specs.Play.{full_line}
use Rattle.pts_play.proofs.text.print_replies.Given as goal

abbrev pub invariant-loop-reply : goal.invariant-loop-reply
invariant-loop-reply l = l.lines.items ++ map full_line (map (reply_line l.number) (drop l.reply-index l.replies)) ≡ l.fn.lines.items ++ map full_line (map (reply_line l.number) l.replies)
