use Rattle.std.proofs.Common.{◌≡◌, drop}
use Rattle.pts_modules.specs.Shelves.{file_among, files_of}
use Rattle.pts_modules.proofs.shelf.file_in.Given as goal

abbrev pub invariant-loop-file : goal.invariant-loop-file
invariant-loop-file l = file_among (files_of (drop l.file-index l.files)) l.name ≡ file_among (files_of l.files) l.name
