-- What a core replies to entries that are submitted, by its front and by what was found of them.
use Rattle.std.specs.Prelude.{ℕ, suc, ◌+◌, List, [], ◌∷◌, ◌++◌, length, slice_get, nat_le, Option, Some, None, if◌then◌else◌}
use Rattle.std.specs.Option.{option_map, option_or, unwrap_or}
use Rattle.pts_names.specs.Name.{Name}
use Rattle.pts_ctx.specs.Front.{Global}
use Rattle.pts_ctx.specs.Seen.{place_of, label_place}
use Rattle.pts_core.specs.declared.finding.Finding.{Finding}
use Rattle.pts_core.specs.declared.finding.Finding.TheVariants as finding
use Rattle.pts_core.specs.declared.reply.Reply.{Reply}
use Rattle.pts_core.specs.declared.reply.Reply.TheVariants.{Committed, Faulty, Clash, Loaded, ContextFull}

-- A front, and its labels with the number of entries that each was marked at.
pub record LabelledFront : Type 0 where
  pub entries : List (Global Name)
  pub labels : List (Name × ℕ)

abbrev pub or_taken : ℕ → Option ℕ → Option (ℕ × ℕ) → Option (ℕ × ℕ)
or_taken k None later = later
or_taken k (Some place) later = Some (k, place)

-- The first entry whose name exists already, in the front or among the entries before it: its number, where the first entry
-- has the number k, and the place of that name. Among the entries places are counted on from the end of the front.
abbrev pub clash_from : List (Global Name) → ℕ → List (Global Name) → Option (ℕ × ℕ)
clash_from G k [] = None
clash_from G k (e ∷ es) = or_taken k (place_of e.name G) (clash_from (G ++ e ∷ []) (suc k) es)

unfoldable pub first_clash : List (Global Name) → List (Global Name) → Option (ℕ × ℕ)
first_clash G es = clash_from G 0 es

-- The name of the entry with the number, which is empty where there is none.
abbrev pub name_at : List (Global Name) → ℕ → Name
name_at es k = unwrap_or (option_map (λ e. e.name) (slice_get es k)) []

-- The refusals, each where there is cause for it.
abbrev pub faulty_reply : List (Global Name) → Finding → Option Reply
faulty_reply es finding.Sound = None
faulty_reply es (finding.Doubled k) = None
faulty_reply es (finding.Faulty k node why) = Some (Faulty (name_at es k) node why)

abbrev pub loaded_reply : List (Name × ℕ) → Option Name → Option Reply
loaded_reply labels None = None
loaded_reply labels (Some l) = option_map (λ place. Loaded l place) (label_place l labels)

abbrev pub clash_reply : List (Global Name) → Option (ℕ × ℕ) → Option Reply
clash_reply es None = None
clash_reply es (Some clash) = Some (Clash (name_at es clash.0) clash.1)

-- A core has at most 200,000 entries.
abbrev pub full_reply : ℕ → ℕ → Option Reply
full_reply n k = if nat_le (n + k) 200000 then None else Some (ContextFull n)

-- The first refusal of entries, with perhaps a label, of which that was found: a record has a fault, the label exists, a name
-- exists, or there is no room.
unfoldable pub refusal_reply : LabelledFront → List (Global Name) → Option Name → Finding → Option Reply
refusal_reply F es label finding =
    option_or (faulty_reply es finding)
    (option_or (loaded_reply F.labels label)
    (option_or (clash_reply es (first_clash F.entries es))
    (full_reply (length F.entries) (length es))))

-- The reply: the refusal; else all of them enter, after the entries that there are.
abbrev pub reply_to : LabelledFront → List (Global Name) → Option Name → Finding → Reply
reply_to F es label finding =
    unwrap_or (refusal_reply F es label finding) (Committed (length F.entries) (length F.entries + length es))
