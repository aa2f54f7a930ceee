use Rattle.std.proofs.Common.{◌≡◌, map, drop, string_bytes}
use Rattle.pts_io.specs.Files.{file_of}
use Rattle.pts_io.proofs.memory_library.find_file.Given as goal

abbrev pub invariant-loop-file : goal.invariant-loop-file
invariant-loop-file l =
    file_of (map (λ f. (string_bytes f.0, f.1.items)) (drop l.file-index l.files)) l.name ≡ file_of (map (λ f. (string_bytes f.0, f.1.items)) l.files) l.name
