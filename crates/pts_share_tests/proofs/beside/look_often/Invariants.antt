use Rattle.std.proofs.Common.{◌≡◌}
use Rattle.pts_share.specs.Passes.{IsPassOf}
use Rattle.pts_share.specs.Sharing.{system_of, table_of}
use Rattle.pts_share_tests.proofs.beside.look_often.Given as goal

abbrev pub invariant-loop : goal.invariant-loop
invariant-loop g l = IsPassOf (table_of l.shared) (system_of l.shared) l.pass × (l.pass.owner ≡ l.fn.pass.owner)
