use Rattle.std.proofs.Common.{sym, ◌∙◌}
use Rattle.pts_names.proofs.Same.{same_name-pointwise}
use Rattle.pts_names.proofs.sort_name.SortName.same.Goals as goal

pub returns : goal.returns
returns c = c.eq.ensures ∙ sym (same_name-pointwise c.args.self.now c.args.other.now)
