use Rattle.std.proofs.Common.{◌≡◌, ◌≤◌, ◌++◌, map, length, true, None}
use Rattle.std.specs.Vec.Iter.{into_iter_items, into_iter_len}
use Rattle.pts_ctx.specs.Entries.{global_of}
use Rattle.pts_ctx.specs.Seen.{globals_within}
use Rattle.pts_core.specs.Replies.{first_clash}
use Rattle.pts_core.proofs.entering.push_all.Given as goal

abbrev pub invariant-loop-entry : goal.invariant-loop-entry
invariant-loop-entry l =
    let es = map global_of (into_iter_items l.entries) in
    record {
      entries : l.context.entries ++ es ≡ l.fn.context.entries ++ map global_of l.fn.entries.items;
      labels : l.context.labels ≡ l.fn.context.labels;
      names : map (λ c. c.kept) (into_iter_items l.names) ≡ map (λ e. e.name) es;
      free : first_clash l.context.entries es ≡ None;
      within : globals_within es ≡ true;
      room : length es ≤ l.context.spare_entries;
      long : into_iter_len l.entries ≡ length (into_iter_items l.entries);
      names_long : into_iter_len l.names ≡ length (into_iter_items l.names);
    }

abbrev pub decreases-loop-entry : goal.decreases-loop-entry
decreases-loop-entry l = into_iter_len l.entries
