-- The files of a library.
use Rattle.std.specs.Prelude.{Vec, ℕ, List, [], ◌∷◌, ◌++◌, map, Option, Some, None, if◌then◌else◌}
use Rattle.pts_names.specs.Name.{Name, same_name}

-- Files by their names: those of modules, and those of certificates.
pub record Files : Type 0 where
  pub modules : List (Name × List ℕ)
  pub certificates : List (Name × List ℕ)

-- The first file with a name.
abbrev pub file_among : List (Name × List ℕ) → Name → Option (List ℕ)
file_among [] x = None
file_among (f ∷ fs) x = if same_name f.0 x then Some f.1 else file_among fs x

abbrev pub with_module : Files → Name → List ℕ → Files
with_module s x bytes = record { modules = s.modules ++ (x, bytes) ∷ []; certificates = s.certificates }

abbrev pub with_certificate : Files → Name → List ℕ → Files
with_certificate s x bytes = record { modules = s.modules; certificates = s.certificates ++ (x, bytes) ∷ [] }

-- What the program's files stand for.
abbrev pub files_of : {H : Type 0} → List (Name × Vec ℕ H) → List (Name × List ℕ)
files_of fs = map (λ f. (f.0, f.1.items)) fs
