use Rattle.pts_record.proofs.Parts.{put_number, put_refused}
use Rattle.pts_record.proofs.record.Record.put_line.Goals as goal

pub returns-clause-number : goal.returns-clause-number
returns-clause-number c = put_number c.args.self.now c.add_term.new.self c.args.shape c.add_term.result c.add_term.ensures.number c.add_term.ensures.added

pub returns-clause-refused : goal.returns-clause-refused
returns-clause-refused c = put_refused c.args.self.now c.args.shape c.add_term.result c.requires.links c.requires.within c.add_term.ensures.refused
