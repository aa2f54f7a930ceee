-- What a run of the program does, by its words.
use Rattle.std.specs.Prelude.{◌≡◌, ℕ, List, [], Bool, true, false, Option, Some, None}
use Rattle.pts_names.specs.Name.{Name}
use Rattle.pts_ctx.specs.Front.{Global}
use Rattle.pts_io.specs.States.{SourceState, SinkState, LibraryState}
use Rattle.yarrow.specs.Commands.{Command, check, format, batch, replay}
use Rattle.yarrow.specs.Runs.{TakesNothing, IsCheckRun, IsUsageRun}
use Rattle.yarrow.specs.Formats.{IsFormatRun}
use Rattle.yarrow.specs.Batches.{IsBatchRun}
use Rattle.yarrow.specs.Replays.{IsReplayRun}

-- A run with a command, or with words of no form, that ends with a status, the orders of its rounds, and a context with these
-- entries and labels: by what its library (l), source (s) and sink (k) show before it and after it.
abbrev pub IsRun : Option Command → (l l_after : LibraryState) → (s s_after : SourceState) → (k k_after : SinkState) → (status : ℕ) → (orders : List (List ℕ)) → (entries : List (Global Name)) → (labels : List (Name × ℕ)) → Type 0
IsRun None l l_after s s_after k k_after status orders entries labels =
    IsUsageRun s s_after k k_after status entries labels × (orders ≡ [])
IsRun (Some check) l l_after s s_after k k_after status orders entries labels =
    IsCheckRun s s_after k k_after status entries labels × (orders ≡ [])
IsRun (Some (format name)) l l_after s s_after k k_after status orders entries labels =
    IsFormatRun name l l_after s s_after k k_after status × (orders ≡ []) × (entries ≡ []) × (labels ≡ [])
IsRun (Some (batch name M)) l l_after s s_after k k_after status orders entries labels =
    IsBatchRun name M l l_after k k_after status entries labels × TakesNothing s s_after × (orders ≡ [])
IsRun (Some (replay name)) l l_after s s_after k k_after status orders entries labels =
    IsReplayRun name l l_after s s_after k k_after status orders (record { entries = entries; labels = labels })

-- Whether a command reads files.
abbrev pub reads_files : Option Command → Bool
reads_files None = false
reads_files (Some check) = false
reads_files (Some (format name)) = true
reads_files (Some (batch name M)) = true
reads_files (Some (replay name)) = true
