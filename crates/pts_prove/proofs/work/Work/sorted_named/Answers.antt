use Rattle.std.proofs.Common.{refl, ap, sym, ◌∙◌}
use Rattle.pts_terms.specs.Tree.{sort}
use Rattle.pts_record.specs.Table.{named_at}
use Rattle.pts_grow.proofs.Grow.{stays}
use Rattle.pts_prove.proofs.Stages.{says_subject, says_claim, place_kept, judged_in, sort_read}
use Rattle.pts_prove.proofs.LemmaFirst.{under_value, under_fault}
use Rattle.pts_prove.proofs.work.Work.sorted_named.Goals as goal

pub judgement_of-judged-requires-clause-term : goal.judgement_of-judged-requires-clause-term
judgement_of-judged-requires-clause-term c = stays c.args.self.now.proof.now c.infer_sorted.new.proof c.args.under.statement c.in-Ok.ensures.keeps c.requires.under.statement.there

pub judgement_of-judged-requires-clause-subject : goal.judgement_of-judged-requires-clause-subject
judgement_of-judged-requires-clause-subject c =
    let j = c.in-Ok.ensures.judged in
    says_subject c.args.self.now.proof.now c.infer_sorted.new.proof c.in-Ok.node c.args.under.ctx c.args.under.statement _ _ c.in-Ok.ensures.keeps c.requires.under.statement.there j.2.1

pub returns-in-Ok-clause-came : goal.returns-in-Ok-clause-came
returns-in-Ok-clause-came c =
    let j = c.in-Ok.ensures.judged in
    let x = says_claim c.infer_sorted.new.proof c.in-Ok.node c.args.under.ctx c.judgement_of-judged.result.claim _ _ _ j.2.1 c.judgement_of-judged.ensures.claim in
    under_value c.args.name.now c.args.under j.0 j.1 (sort_read (named_at c.infer_sorted.new.proof.shapes c.judgement_of-judged.result.claim) j.0 c.sort_at-sort.result.0 x c.sort_at-sort.ensures)

pub returns-in-Ok-clause-sorted : goal.returns-in-Ok-clause-sorted
returns-in-Ok-clause-sorted c =
    let j = c.in-Ok.ensures.judged in
    let x = says_claim c.infer_sorted.new.proof c.in-Ok.node c.args.under.ctx c.judgement_of-judged.result.claim _ _ _ j.2.1 c.judgement_of-judged.ensures.claim in
    let y = sort_read (named_at c.infer_sorted.new.proof.shapes c.judgement_of-judged.result.claim) j.0 c.sort_at-sort.result.0 x c.sort_at-sort.ensures in
    record {
      judged = judged_in c.in-Ok.node _ _ _ (place_kept c.in-Ok.ensures.keeps c.requires.under.place) j.2.1 c.judgement_of-judged.ensures.judges c.judgement_of-judged.ensures.subject;
      sort = x ∙ ap sort (sym y);
    }

pub returns-in-Err-clause-came : goal.returns-in-Err-clause-came
returns-in-Err-clause-came c = under_fault c.args.name.now c.args.under c.args.names.now _ c.requires.names refl c.put_in.ensures c.in-Err.ensures.refused
