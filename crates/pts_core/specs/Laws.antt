-- The laws of histories and of offers.
use Rattle.std.specs.Prelude.{◌≡◌, List, [], ◌∷◌, ◌++◌, None}
use Rattle.pts_names.specs.Name.{Name}
use Rattle.pts_ctx.specs.System.{Specification}
use Rattle.pts_ctx.specs.Front.{Global, bare_front}
use Rattle.pts_ctx.specs.Seen.{IsPrefix}
use Rattle.pts_record.specs.declared.declaration.Declaration.{Declaration}
use Rattle.pts_rules.specs.Derives.{Legal}
use Rattle.pts_check.specs.Entered.{declared_entries}
use Rattle.pts_core.specs.declared.finding.Finding.TheVariants.{Sound}
use Rattle.pts_core.specs.Findings.{finding_of}
use Rattle.pts_core.specs.Replies.{first_clash}
use Rattle.pts_core.specs.Histories.{Past, after, replay, Happens, IsHistory}

-- A history grows by an event that has its reply at the front that the history leaves, and then leaves the front after it.
abbrev pub HistoriesGrow : Type 0
HistoriesGrow = (h : List Past) (e : Past) → (replay (h ++ e ∷ []) ≡ after (replay h) e) × (IsHistory h → Happens (replay h) e → IsHistory (h ++ e ∷ []))

-- What a history leaves stays, at the same places, whatever comes after it.
abbrev pub FrontsStay : Type 0
FrontsStay = (h k : List Past) → IsPrefix (replay h).entries (replay (h ++ k)).entries × IsPrefix (replay h).labels (replay (h ++ k)).labels

-- Where a history leaves a legal front, so does each history with which it begins.
abbrev pub EarlierFrontsAreLegal : Type 0
EarlierFrontsAreLegal = (S : Specification) (h k : List Past) → Legal S (bare_front (replay (h ++ k)).entries) → Legal S (bare_front (replay h).entries)

-- Declarations that were found sound over a front enter each legal front that begins with it and has none of their names.
abbrev pub SoundOffersEnter : Type 0
SoundOffersEnter = (S : Specification) (F G : List (Global Name)) (ds : List Declaration) → IsPrefix F G → Legal S (bare_front G) → finding_of S F ds ≡ Sound → first_clash G (declared_entries ds) ≡ None → Legal S (bare_front (G ++ declared_entries ds))
