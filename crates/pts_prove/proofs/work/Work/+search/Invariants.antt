use Rattle.std.proofs.Common.{◌-◌}
use Rattle.pts_prove.proofs.work.Work.+search.Given as goal

abbrev pub decreases-search : goal.decreases-search
decreases-search l = 2000 - l.at.taken
