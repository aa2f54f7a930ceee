use Rattle.pts_format.proofs.Closed.{lines_read_back}
use Rattle.pts_format.proofs.laws.printed_lines_are_read_back.Goals as goal

pub returns : goal.returns
returns c = lines_read_back c.printed_terms_are_read_back.ensures
