use Rattle.std.proofs.Common.{◌≡◌, ◌≤◌, ◌+◌, take, drop, length, true}
use Rattle.pts_ctx.specs.Seen.{globals_within}
use Rattle.pts_check.specs.Entered.{declared_entries}
use Rattle.pts_core.specs.Findings.{finding_from, finding_of}
use Rattle.pts_core.specs.Replies.{clash_from, first_clash}
use Rattle.pts_core.proofs.examining.look_through.Given as goal

abbrev pub invariant-loop-number : goal.invariant-loop-number
invariant-loop-number l =
    record {
      finding : finding_from l.system l.scope.entries l.number (drop l.number l.declarations) ≡ finding_of l.system l.fn.front.entries l.declarations;
      clash : clash_from l.scope.entries l.number (declared_entries (drop l.number l.declarations)) ≡ first_clash l.fn.front.entries (declared_entries l.declarations);
      within : globals_within (declared_entries (take l.number l.declarations)) ≡ true;
      room : length l.declarations ≤ l.scope.spare_entries + l.number;
    }
