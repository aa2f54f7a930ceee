use Rattle.std.proofs.Common.{map, take}
use Rattle.pts_record.specs.Table.{bare_trees}
use Rattle.pts_image.specs.Appending as appending
use Rattle.pts_image.proofs.Steps.{next_shape, still_fits, fits_no_more, starts, starts_fitting, first_lines, too_large}
use Rattle.pts_image.proofs.append.append_terms.Goals as goal

pub loop-number-init : goal.loop-number-init
loop-number-init g c = (starts c.args.into.now, starts_fitting (appending.term_for (bare_trees c.args.into.now.shapes) (g.R.Replacements.replacement c.args.replacements.now)))

pub returns-in-Err-TooLarge-clause-deep : goal.returns-in-Err-TooLarge-clause-deep
returns-in-Err-TooLarge-clause-deep g c =
    let w = g.R.Replacements.replacement c.args.replacements.now in
    let i = c.loop-number.invariant in
    let e = first_lines c.args.into.now c.loop-number.into (map (appending.shape_image c.args.into.now.shapes w) (take c.loop-number.number c.args.proof.now.shapes)) _ w c.shape.result.now c.in_ok-shape.shape i.0 c.terms-terms.ensures.number c.in_ok-shape.ensures in
    λ _. fits_no_more c.args.into.now w c.requires.linked c.requires.terms c.args.proof.now.shapes c.loop-number.number c.shape.result.now c.in_ok-shape.shape c.loop-number.into i.0 c.shape.ensures.item e (too_large _ _ c.in-Err-TooLarge.field-0-is c.in-Err-TooLarge.ensures.refused)

pub loop-number-preserved : goal.loop-number-preserved
loop-number-preserved g c =
    let w = g.R.Replacements.replacement c.args.replacements.now in
    let i = c.loop-number.invariant in
    let e = first_lines c.args.into.now c.loop-number.into (map (appending.shape_image c.args.into.now.shapes w) (take c.loop-number.number c.args.proof.now.shapes)) _ w c.shape.result.now c.in_ok-shape.shape i.0 c.terms-terms.ensures.number c.in_ok-shape.ensures in (
      next_shape c.args.into.now c.loop-number.into c.add_term.new.self (appending.shape_image c.args.into.now.shapes w) c.args.proof.now.shapes c.loop-number.number c.shape.result.now c.in_ok-shape.shape i.0 c.shape.ensures.item e c.in-Ok.ensures.added,
      still_fits c.args.into.now w c.requires.linked c.requires.terms c.args.proof.now.shapes c.loop-number.number c.shape.result.now c.in_ok-shape.shape c.loop-number.into i.0 c.shape.ensures.item e c.in-Ok.ensures.fits i.1,
    )
