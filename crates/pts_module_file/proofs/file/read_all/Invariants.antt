use Rattle.std.proofs.Common.{◌≡◌, ◌≤◌, ◌+◌, length, []}
use Rattle.pts_module_file.specs.declared.stage.Stage.TheVariants.{Format}
use Rattle.pts_module_file.specs.Text.{lines_of}
use Rattle.pts_module_file.specs.File.{read_lines, module_file_of}
use Rattle.pts_module_file.proofs.file.read_all.Given as goal

abbrev pub invariant-loop-line : goal.invariant-loop-line
invariant-loop-line l = record {
  same : read_lines l.fn.name l.stage l.number (module_file_of l.module) (lines_of l.rest) ≡ read_lines l.fn.name Format 1 (record { used = []; assumed = []; stated = [] }) (lines_of l.fn.bytes);
  few : l.number + length l.rest ≤ length l.fn.bytes + 1;
}

abbrev pub decreases-loop-line : goal.decreases-loop-line
decreases-loop-line l = length l.rest
