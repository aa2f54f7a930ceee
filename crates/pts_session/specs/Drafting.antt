-- Lines that declare and rename, over the draft of a session.
use Rattle.std.specs.Prelude.{◌≡◌, ℕ, List, [], ◌∷◌, ◌++◌, Ok}
use Rattle.pts_names.specs.Name.{Name}
use Rattle.pts_ctx.specs.System.{Specification}
use Rattle.pts_ctx.specs.Front.{Global}
use Rattle.pts_declare.specs.Stated.{Stated}
use Rattle.pts_statement.specs.Statements.{Statement, name_of}
use Rattle.pts_draft.specs.Drafts.{SeenDraft}
use Rattle.pts_queries.specs.Replies.{declared_line}
use Rattle.pts_session.specs.Declaring.{Declares, stated_over, word_of}
use Rattle.pts_session.specs.Renaming.{RenamesEntry}
use Rattle.pts_session.specs.Seen.{state_of}

-- On that budget the session with the draft d declares c with these replies, and has the draft e then.
abbrev pub DeclaresIn : Specification → (budget : ℕ) → (d : SeenDraft) → Statement → (replies : List (List ℕ)) → (e : SeenDraft) → Type 0
DeclaresIn S b d c replies e = Declares S (state_of d b) c replies (state_of e b)

-- It does so with each line that has this first word and this name, and states t.
abbrev pub DeclaresStated : Specification → (budget : ℕ) → (d : SeenDraft) → (word : List ℕ) → Name → (t : Stated) → (replies : List (List ℕ)) → (e : SeenDraft) → Type 0
DeclaresStated S b d word x t replies e = (c : Statement) → name_of c ≡ x → word_of c ≡ word → stated_over S (state_of d b) c ≡ Ok t → DeclaresIn S b d c replies e

-- The one reply is that for the last of the list, by the entry of each, if there is one.
abbrev pub ShowsLast : {A : Type 0} → Specification → (word : List ℕ) → (entry : A → Global Name) → List A → (replies : List (List ℕ)) → Type 0
ShowsLast {A} S word entry all replies = (before : List A) (last : A) → all ≡ before ++ last ∷ [] → replies ≡ declared_line S.sorts word (entry last) ∷ []

-- On each budget the session with the draft d renames x to y with these replies, and has the draft e then.
abbrev pub RenamesIn : (d : SeenDraft) → (x y : Name) → (replies : List (List ℕ)) → (e : SeenDraft) → Type 0
RenamesIn d x y replies e = (b : ℕ) → RenamesEntry (state_of d b) x y replies (state_of e b)
