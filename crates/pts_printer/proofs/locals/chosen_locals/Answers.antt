use Rattle.std.proofs.Common.{◌∙◌, ap, ◌++◌, ◌-◌, ◌&&◌, length}
use Rattle.pts_names.specs.Name.{same_name, underscore}
use Rattle.pts_terms.specs.Seen.{named}
use Rattle.pts_printed.specs.Choice.{choice, constants, occurs}
use Rattle.pts_printer.proofs.InOrder.{local_named}
use Rattle.pts_printer.proofs.locals.chosen_locals.Goals as goal

pub loop-place-preserved : goal.loop-place-preserved
loop-place-preserved c =
    let t = named c.args.term.now in
    let x = c.index-locals-place.result in
    let W = c.loop-place.taken.variables in
    let used = same_name x underscore && occurs (length c.args.locals.now - 1 - c.loop-place.place) t in
    record {
      variables =
          local_named (constants t) W _ c.add_variable.new.self.variables c.in_ok-name.name c.args.locals.now t c.loop-place.place x c.loop-place-test.true c.index-locals-place.is
          (c.in_ok-name.ensures ∙ (ap (λ u. choice x u (W ++ c.loop-place.taken.constants)) c.is_needed_underscore-used.ensures ∙ ap (λ cs. choice x used (W ++ cs)) c.loop-place.invariant.constants))
          c.in_ok-add_variable.ensures.variables c.loop-place.invariant.variables;
      constants = c.in_ok-add_variable.ensures.constants ∙ c.loop-place.invariant.constants;
    }
