use Rattle.std.specs.Prelude.{length}
use Rattle.pts_record.specs.Table.{named_at}
use Rattle.pts_match.proofs.Started.{match_from_none}
use Rattle.pts_match.proofs.finding.match_whole.Goals as goal

pub returns-clause-outcome : goal.returns-clause-outcome
returns-clause-outcome c = match_from_none c.args.proof.now.shapes c.args.found.now (length c.args.found.now) _ (named_at c.args.proof.now.shapes c.args.pattern) (named_at c.args.proof.now.shapes c.args.term) c.requires.found c.match_under.ensures.outcome
