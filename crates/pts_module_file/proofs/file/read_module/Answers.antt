use Rattle.std.proofs.Common.{◌≡◌, true, Ok}
use Rattle.std.proofs.lemmas.Result.{IfOk-weaker}
use Rattle.pts_names.specs.Name.{is_short}
use Rattle.pts_module_file.specs.File.{AllShort, module_file_of, module_of}
use Rattle.pts_module_file.proofs.Names.{all_short}
use Rattle.pts_module_file.proofs.file.read_module.Goals as goal

pub returns-clause-short : goal.returns-clause-short
returns-clause-short c =
    let x = c.args.name.now in
    let bytes = c.args.bytes.now in
    IfOk-weaker c.read_all.result (λ m. module_of x bytes ≡ Ok (module_file_of m)) (λ m. is_short x ≡ true) (λ m h. (all_short x bytes (module_file_of m) h).0) c.read_all.ensures.module

pub returns-clause-names : goal.returns-clause-names
returns-clause-names c =
    let x = c.args.name.now in
    let bytes = c.args.bytes.now in
    IfOk-weaker c.read_all.result (λ m. module_of x bytes ≡ Ok (module_file_of m)) (λ m. AllShort (module_file_of m).stated) (λ m h. (all_short x bytes (module_file_of m) h).1) c.read_all.ensures.module
