use Rattle.pts_certificate.proofs.Reading.{judged_terms}
use Rattle.std.proofs.Common.{sym, ◌∙◌}
use Rattle.pts_certificate.proofs.declaration.concluded.Goals as goal

pub declared-requires-clause-subject : goal.declared-requires-clause-subject
declared-requires-clause-subject c = (judged_terms c.in-Some.last.form c.in-Some.last.subject c.in-Some.last.claim _ (sym c.judges.ensures ∙ c.if-not-judges.false) c.in-Some.ensures.stands).0

pub declared-requires-clause-claim : goal.declared-requires-clause-claim
declared-requires-clause-claim c = (judged_terms c.in-Some.last.form c.in-Some.last.subject c.in-Some.last.claim _ (sym c.judges.ensures ∙ c.if-not-judges.false) c.in-Some.ensures.stands).1
