use Rattle.std.proofs.Common.{◌≡◌, ◌∙◌, ap, ◌++◌, ◌+◌, ◌-◌, ◌&&◌, drop, map, take, length, arith}
use Rattle.std.proofs.lemmas.List.{take_all, length-drop}
use Rattle.pts_names.specs.Name.{same_name, underscore}
use Rattle.pts_terms.specs.Seen.{named}
use Rattle.pts_printed.specs.Choice.{choice}
use Rattle.pts_printed.specs.Locals.{goal_constants, occurs_behind}
use Rattle.pts_printer.proofs.InOrder.{hypothesis_named, one_longer}
use Rattle.pts_printer.proofs.locals.goal_names.Goals as goal

pub loop-place-preserved : goal.loop-place-preserved
loop-place-preserved c =
    let types = c.args.types.now in
    let t = named c.args.statement.now in
    let i = c.loop-place.place in
    let x = c.index-names-place.result in
    let W = c.loop-place.taken.variables in
    let rest : take (length types - (i + 1)) (drop (i + 1) types) ≡ drop (i + 1) types =
    take_all (length types - (i + 1)) (drop (i + 1) types) (let k = length-drop (i + 1) types in omega arith) in
    let used = same_name x underscore && occurs_behind 0 (map named (drop (i + 1) types)) t in
    record {
      variables =
          hypothesis_named (goal_constants (map named types) t) W _ c.add_variable.new.self.variables c.in_ok-chosen.chosen c.args.names.now types t i x c.loop-place-test.true c.requires c.index-names-place.is
          (c.in_ok-chosen.ensures
          ∙ (ap (λ u. choice x u (W ++ c.loop-place.taken.constants)) (c.is_used_behind-used.ensures ∙ ap (λ As. same_name x underscore && occurs_behind 0 (map named As) t) rest)
          ∙ ap (λ cs. choice x used (W ++ cs)) c.loop-place.invariant.constants))
          c.in_ok-add_variable.ensures.variables c.loop-place.invariant.variables;
      count = one_longer W c.add_variable.new.self.variables c.in_ok-chosen.chosen i c.in_ok-add_variable.ensures.variables c.loop-place.invariant.count;
      constants = c.in_ok-add_variable.ensures.constants ∙ c.loop-place.invariant.constants;
    }
