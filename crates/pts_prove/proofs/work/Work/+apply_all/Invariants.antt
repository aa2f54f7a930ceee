use Rattle.std.proofs.Common.{◌-◌, length}
use Rattle.pts_prove.proofs.work.Work.+apply_all.Given as goal

abbrev pub decreases-apply_all : goal.decreases-apply_all
decreases-apply_all l = length l.parts.now - l.at
