use Rattle.std.proofs.Common.{◌≡◌, ◌<◌, length}
use Rattle.pts_ctx.specs.Front.{entry_at}
use Rattle.pts_record.specs.Said.{told, named_told, scope_of}
use Rattle.pts_record.proofs.record.Record.entry.Given as goal

abbrev pub invariant-walk : goal.invariant-walk
invariant-walk l = record {
  stands : l.at < length l.self.nodes;
  entry : entry_at (scope_of (told l.self l.at)).entries l.left ≡ entry_at (scope_of (told l.self l.ctx)).entries l.index;
  named : entry_at (scope_of (named_told l.self l.at)).entries l.left ≡ entry_at (scope_of (named_told l.self l.ctx)).entries l.index;
}

abbrev pub decreases-walk : goal.decreases-walk
decreases-walk l = l.at
