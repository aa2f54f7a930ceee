use Rattle.std.proofs.Common.{◌≡◌, ◌≤◌, map, drop, take}
use Rattle.pts_queries.specs.Replies.{shown_line}
use Rattle.pts_session.proofs.session.shown_lines.Given as goal

abbrev pub invariant-loop-place : goal.invariant-loop-place
invariant-loop-place l = (l.from ≤ l.place) × (l.lines.items ≡ map (shown_line l.system.sorts) (drop l.from (take l.place l.scope.entries)))
