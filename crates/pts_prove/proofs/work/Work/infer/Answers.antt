use Rattle.std.proofs.Common.{refl}
use Rattle.pts_grow.proofs.Grow.{stays}
use Rattle.pts_prove.proofs.Stages.{says_subject, says_claim, place_kept, judged_in, inferred_value, inferred_fault}
use Rattle.pts_prove.proofs.work.Work.infer.Goals as goal

pub judgement_of-requires-clause-term : goal.judgement_of-requires-clause-term
judgement_of-requires-clause-term c = stays c.args.self.now.proof.now c.infer.new.proof c.args.term c.in-Ok.ensures.keeps c.requires.term.there

pub judgement_of-requires-clause-subject : goal.judgement_of-requires-clause-subject
judgement_of-requires-clause-subject c =
    let j = c.in-Ok.ensures.judged in
    says_subject c.args.self.now.proof.now c.infer.new.proof c.in-Ok.node c.args.ctx c.args.term _ _ c.in-Ok.ensures.keeps c.requires.term.there j.2.1

pub returns-in-Ok-clause-came : goal.returns-in-Ok-clause-came
returns-in-Ok-clause-came c =
    let j = c.in-Ok.ensures.judged in
    inferred_value c.args.ctx c.args.part c.args.term j.0 j.1 (says_claim c.infer.new.proof c.in-Ok.node c.args.ctx c.judgement_of.result.claim _ _ _ j.2.1 c.judgement_of.ensures.claim)

pub returns-in-Ok-clause-judged : goal.returns-in-Ok-clause-judged
returns-in-Ok-clause-judged c =
    let j = c.in-Ok.ensures.judged in
    judged_in c.in-Ok.node _ _ _ (place_kept c.in-Ok.ensures.keeps c.requires.place) j.2.1 c.judgement_of.ensures.judges c.judgement_of.ensures.subject

pub returns-in-Err-clause-came : goal.returns-in-Err-clause-came
returns-in-Err-clause-came c = inferred_fault c.args.ctx c.args.part c.args.term _ refl c.put_in.ensures c.in-Err.ensures.refused
