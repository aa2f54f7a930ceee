use Rattle.std.proofs.Common.{◌≡◌, ◌≤◌, ◌+◌, ◌-◌, ◌∷◌, ℕ, ap, ◌∙◌, refl, arith, drop, length, sym}
use Rattle.std.specs.Prelude.{max}
use Rattle.pts_goals.proofs.LinkLoops.{first_stands, full_on, size_on}
use Rattle.pts_goals.proofs.measures.links_measures.Goals as goal

pub argument_measures-own-requires : goal.argument_measures-own-requires
argument_measures-own-requires c =
    let i = c.links.invariant in
    let f = i.5 in
    record { stands = (first_stands c.args.scratch.now c.args.goal.now f.0 (drop c.links.at c.args.links.now) c.link_at-link.result (drop (c.links.at + 1) c.args.links.now) c.link_at-link.ensures f.1).0 }
