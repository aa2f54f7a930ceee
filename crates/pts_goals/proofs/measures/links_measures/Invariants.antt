use Rattle.std.proofs.Common.{◌≡◌, ◌≤◌, ◌-◌, ◌+◌, ◌*◌, ℕ, length, drop}
use Rattle.pts_terms.specs.Limits.{depth_of, size_of}
use Rattle.pts_record.specs.Table.{named_at}
use Rattle.pts_goals.specs.Steps.{LinksFit}
use Rattle.pts_goals.specs.Parts.{spine_depth, spine_size}
use Rattle.pts_goals.proofs.measures.links_measures.Given as goal

abbrev pub invariant-links : goal.invariant-links
invariant-links l =
    (spine_depth l.scratch l.depth (drop l.at l.links) ≡ spine_depth l.scratch (depth_of (named_at l.scratch.shapes l.fn.function.subject)) l.links)
    × (spine_size l.scratch l.size (drop l.at l.links) ≡ spine_size l.scratch (size_of (named_at l.scratch.shapes l.fn.function.subject)) l.links)
    × (l.at ≤ length l.links)
    × (l.depth ≤ 2000 + l.at)
    × (l.size ≤ 1000000 + l.at * 1000001)
    × ((t : ℕ) × LinksFit l.scratch l.fn.goal t (drop l.at l.links))

abbrev pub decreases-links : goal.decreases-links
decreases-links l = length l.links - l.at
