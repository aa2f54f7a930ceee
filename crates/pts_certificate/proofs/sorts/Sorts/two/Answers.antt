use Rattle.pts_certificate.proofs.TwoSorts.{two_words}
use Rattle.pts_certificate.proofs.sorts.Sorts.two.Goals as goal

pub returns : goal.returns
returns c = two_words c.in_ok-end.field-0 c.args.self.now c.args.fields c.field.new.self c.field-2.new.self c.in_ok-first.first.now c.in_ok-second.second.now c.in_ok-one.field-0 c.in_ok-one-2.field-0 c.in_ok-first.ensures c.in_ok-second.ensures c.in_ok-end.ensures c.in_ok-one.ensures c.in_ok-one-2.ensures
