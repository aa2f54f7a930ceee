use Rattle.std.proofs.Common.{refl, sym}
use Rattle.pts_record.specs.Table.{named_at}
use Rattle.pts_prove_cost.specs.Commands.{no_match}
use Rattle.pts_prove.proofs.Searches.{product_found, no_product}
use Rattle.pts_prove.proofs.work.Work.form_matches.Goals as goal

pub returns-in-Some-clause-came : goal.returns-in-Some-clause-came
returns-in-Some-clause-came c = product_found (λ v. no_match c.args.at.taken) (sym c.in-Some.ensures.parts)

pub returns-in-None-clause-came : goal.returns-in-None-clause-came
returns-in-None-clause-came c = no_product (λ v. no_match c.args.at.taken) (named_at c.args.self.now.proof.now.shapes c.args.form) (sym c.in-None.ensures.parts) refl
