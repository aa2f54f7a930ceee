-- The forms of words.
use Rattle.std.specs.Prelude.{ℕ, List, [], ◌∷◌, ◌&&◌, Bool, length, nat_le, if◌then◌else◌, codes, Option, Some, None}
use Rattle.pts_names.specs.Name.{same_name, is_plain}
use Rattle.yarrow.specs.declared.command.Command.{Command as Asked}
use Rattle.yarrow.specs.declared.command.Command.TheVariants as asked

-- A command, with what comes after its word.
pub data Command : Type 0 where
  check : Command
  format : (specification : List ℕ) → Command
  batch : (specification name : List ℕ) → Command
  replay : (specification : List ℕ) → Command

-- `check` is alone.
abbrev pub check_with : List (List ℕ) → Option Command
check_with [] = Some check
check_with _ = None

-- After `format` comes one word that isn't empty.
abbrev pub format_with : List (List ℕ) → Option Command
format_with ((b ∷ bs) ∷ []) = Some (format (b ∷ bs))
format_with _ = None

-- A word that names a module: a plain name, which has at most 128 bytes.
abbrev pub is_module : List ℕ → Bool
is_module word = is_plain word && nat_le (length word) 128

-- After `batch` come one word that isn't empty and one that names a module.
abbrev pub batch_with : List (List ℕ) → Option Command
batch_with ((b ∷ bs) ∷ (name ∷ [])) = if is_module name then Some (batch (b ∷ bs) name) else None
batch_with _ = None

-- After `replay` comes one word that isn't empty.
abbrev pub replay_with : List (List ℕ) → Option Command
replay_with ((b ∷ bs) ∷ []) = Some (replay (b ∷ bs))
replay_with _ = None

-- The command that words are, if they have a form.
unfoldable pub command_of : List (List ℕ) → Option Command
command_of [] = None
command_of (w ∷ ws) =
    if same_name w (codes "check") then check_with ws
    else (if same_name w (codes "format") then format_with ws
    else (if same_name w (codes "batch") then batch_with ws
    else (if same_name w (codes "replay") then replay_with ws else None)))

-- The command that the program understood.
abbrev pub command_seen : Asked → Command
command_seen asked.Check = check
command_seen (asked.Format word) = format word.now
command_seen (asked.Batch word name) = batch word.now name.now
command_seen (asked.Replay word) = replay word.now
