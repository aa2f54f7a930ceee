-- The line that renames: `rename X Y`.
use Rattle.std.specs.Prelude.{◌≡◌, ℕ, List, [], ◌∷◌, map, codes, Some, None}
use Rattle.pts_names.specs.Name.{Name}
use Rattle.pts_ctx.specs.Seen.{place_of}
use Rattle.pts_image.specs.Renaming.{new_name, renamed_entry}
use Rattle.pts_queries.specs.Replies.{refusal}
use Rattle.pts_session.specs.State.{State, scope, changed}
use Rattle.pts_session.specs.Replies.{name_text, place_text}

module _ (s : State) (x y : Name) where
  -- The draft with y in the place of x, as the name of an entry and as a constant of the others. The printed names of binders stay.
  abbrev pub with_new_name : State
  with_new_name = record s { draft = map (renamed_entry (new_name x y)) s.draft }

  -- The reply, and the state after it: an entry of the draft must have the old name, and none of the scope the new one. It costs
  -- nothing.
  pub data RenamesEntry : (replies : List (List ℕ)) → State → Type 0 where
    is_not_there : place_of x s.draft ≡ None → RenamesEntry (refusal (name_text (codes "NotThere") x) ∷ []) s
    new_name_is_taken : {k p : ℕ} → place_of x s.draft ≡ Some k → place_of y (scope s) ≡ Some p → RenamesEntry (refusal (place_text (codes "Taken") y p) ∷ []) s
    gets_new_name : {k : ℕ} → place_of x s.draft ≡ Some k → place_of y (scope s) ≡ None → RenamesEntry (name_text (codes "renamed") y ∷ []) (changed s with_new_name)
