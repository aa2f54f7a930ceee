use Rattle.std.proofs.Common.{◌+◌, ◌*◌}
use Rattle.pts_record.proofs.record.Record.+tree.Given as goal

abbrev pub decreases-tree : goal.decreases-tree
decreases-tree l = 2 * l.term

abbrev pub decreases-part : goal.decreases-part
decreases-part l = 2 * l.term + 1
