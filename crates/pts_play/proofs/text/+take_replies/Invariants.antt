use Rattle.std.proofs.Common.{length}
use Rattle.pts_play.proofs.text.+take_replies.Given as goal

abbrev pub decreases-take_replies : goal.decreases-take_replies
decreases-take_replies g l = length l.seats.now
