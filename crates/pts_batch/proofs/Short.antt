-- What lines of the program say.
use Rattle.std.proofs.Common.{◌≡◌, ◌≤◌, ℕ, List, [], ◌∷◌, map, length, refl, ap, arith, true}
use Rattle.pts_names.specs.Name.{Name, is_short}
use Rattle.pts_lines.specs.declared.command.Declaring.{Declaring}
use Rattle.pts_lines.specs.Lines.{Line}
use Rattle.pts_lines.specs.Seen.{declaration_of}
use Rattle.pts_module_file.specs.declared.file.ModuleLine.{ModuleLine}
use Rattle.pts_module_file.specs.File.{AllShort, stated_of}
use Rattle.pts_batch.specs.Batches.{statements_of}
use Rattle.pts_batch.specs.Evidence.{AllDeclarable, statement_of, numbered}

abbrev pub seen : ℕ × ModuleLine → ℕ × (Declaring × Line)
seen = λ r. (r.0, declaration_of (stated_of r.1))

pub statements_seen : (ms : List (ℕ × ModuleLine)) → statements_of (map seen ms) ≡ map numbered ms
statements_seen [] = refl
statements_seen ((n, ModuleLine.Assume x t) ∷ ms) = ap (λ ds. (n, statement_of (ModuleLine.Assume x t)) ∷ ds) (statements_seen ms)
statements_seen ((n, ModuleLine.Define x a t) ∷ ms) = ap (λ ds. (n, statement_of (ModuleLine.Define x a t)) ∷ ds) (statements_seen ms)

pub label_short : (x : Name) → is_short x ≡ true → length x ≤ 63
label_short x h = grind (arith, h)

pub all_declarable : (ms : List (ℕ × ModuleLine)) → AllShort (map seen ms) → AllDeclarable ms
all_declarable [] a = tt
all_declarable ((n, ModuleLine.Assume x t) ∷ ms) a = (a.0, all_declarable ms a.1)
all_declarable ((n, ModuleLine.Define x d t) ∷ ms) a = (a.0, all_declarable ms a.1)
