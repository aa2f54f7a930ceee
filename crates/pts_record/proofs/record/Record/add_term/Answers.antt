use Rattle.std.proofs.Common.{◌≡◌, ◌∷◌, [], ◌++◌, ◌<◌, arith, ◌∙◌, ap, sym, length, None}
use Rattle.pts_record.specs.Table.{first_wrong, fields_before, shape_links}
use Rattle.pts_record.proofs.Faults.{unless_memory, part_wrong, too_large, term_fits, measured_within, measured_deep, measured_wide, parts_below}
use Rattle.pts_record.proofs.Grow.{term_added}
use Rattle.pts_record.proofs.record.Record.add_term.Goals as goal
use Rattle.pts_record.proofs.record.Record.add_term.Goals.{then-measure-gt2000-via-then-measure-gt2000, then-measure-gt2000-via-else-measure-gt2000+then-measure-gt1000000}

pub returns-in-Some-clause-refused : goal.returns-in-Some-clause-refused
returns-in-Some-clause-refused c = unless_memory c.in-Some.fault _ (part_wrong c.args.self.now.shapes c.args.shape c.in-Some.fault (ap (λ n. first_wrong n (fields_before c.args.shape) (shape_links c.args.shape)) (sym c.terms.ensures.number) ∙ sym c.part_fault.ensures ∙ c.in-Some.is))

pub returns-then-measure-gt2000-clause-refused : goal.returns-then-measure-gt2000-clause-refused
returns-then-measure-gt2000-clause-refused c =
    too_large c.args.self.now.shapes c.args.shape (ap (λ n. first_wrong n (fields_before c.args.shape) (shape_links c.args.shape)) (sym c.terms.ensures.number) ∙ sym c.part_fault.ensures ∙ c.in_default.is)
    (elim c.then-measure-gt2000.branch [
      | then-measure-gt2000-via-then-measure-gt2000 w ↦ measured_deep _ c.measure_of-measure.result.depth (ap (λ m. m.depth) c.measure_of-measure.ensures) w.if-measure-gt2000.true
      | then-measure-gt2000-via-else-measure-gt2000+then-measure-gt1000000 w ↦ measured_wide _ c.measure_of-measure.result.size (ap (λ m. m.size) c.measure_of-measure.ensures) w.if-measure-gt1000000.true
    ])

pub invariant_of-self-2 : goal.invariant_of-self-2
invariant_of-self-2 c =
    let none : first_wrong (length c.args.self.now.shapes) (fields_before c.args.shape) (shape_links c.args.shape) ≡ None = (ap (λ n. first_wrong n (fields_before c.args.shape) (shape_links c.args.shape)) (sym c.terms.ensures.number) ∙ sym c.part_fault.ensures ∙ c.in_default.is) in
    let few : length c.self.inside.shapes.items < 4294967296 = omega (arith, c.self.inside.shapes.ok, c.len-number.ensures, c.if-number-ge-LINES.false) in
    let fits = measured_within _ c.measure_of-measure.result.depth c.measure_of-measure.result.size (ap (λ m. m.depth) c.measure_of-measure.ensures) (ap (λ m. m.size) c.measure_of-measure.ensures) c.if-measure-gt2000.false c.if-measure-gt1000000.false in
    term_added _ _ _ _ c.args.self.now c.args.shape c.measure_of-measure.result _ _ c.self.invariant c.self.view_is few (parts_below c.args.self.now.shapes c.args.shape none) c.measure_of-measure.ensures fits (c.in_ok-push-2.ensures.items ∙ ap (λ l. l ++ c.args.shape ∷ []) c.in_ok-reserve.ensures.items) c.in_ok-push.ensures.items

pub returns-clause-fits : goal.returns-clause-fits
returns-clause-fits c =
    term_fits c.args.self.now.shapes c.args.shape (ap (λ n. first_wrong n (fields_before c.args.shape) (shape_links c.args.shape)) (sym c.terms.ensures.number) ∙ sym c.part_fault.ensures ∙ c.in_default.is) (measured_within _ c.measure_of-measure.result.depth c.measure_of-measure.result.size (ap (λ m. m.depth) c.measure_of-measure.ensures) (ap (λ m. m.size) c.measure_of-measure.ensures) c.if-measure-gt2000.false c.if-measure-gt1000000.false)
