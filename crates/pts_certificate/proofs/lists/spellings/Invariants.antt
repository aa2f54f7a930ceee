use Rattle.std.proofs.Common.{◌≡◌, ◌++◌, length}
use Rattle.std.specs.List.{list_all}
use Rattle.pts_certificate.specs.Rows.{is_spelling}
use Rattle.pts_certificate.proofs.lists.spellings.Given as goal

abbrev pub invariant-loop-word : goal.invariant-loop-word
invariant-loop-word l = record {
  same : l.sorts ++ l.words ≡ l.fn.words;
  good : list_all is_spelling l.words ≡ list_all is_spelling l.fn.words;
}

abbrev pub decreases-loop-word : goal.decreases-loop-word
decreases-loop-word l = length l.words
