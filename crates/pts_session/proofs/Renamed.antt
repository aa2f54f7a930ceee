-- What a draft answers where it is to rename, as the reply of a line; and a draft that is renamed so has no inner name.
use Rattle.std.proofs.Common.{◌≡◌, ◌≢◌, ℕ, zero, suc, List, [], ◌∷◌, map, Bool, true, false, Option, Some, None, Result, Ok, Err, IfOk, OnOk, refl, sym, ap, ◌∙◌, subst}
use Rattle.std.specs.Prelude.{◌||◌, codes, if◌then◌else◌}
use Rattle.std.specs.Option.{option_map}
use Rattle.pts_names.specs.Name.{Name, same_name}
use Rattle.pts_ctx.specs.Front.{Global}
use Rattle.pts_ctx.specs.Seen.{place_of}
use Rattle.pts_ctx.proofs.Lookups.{place-fresh}
use Rattle.pts_ctx.proofs.Positions.{position-step}
use Rattle.pts_record.specs.declared.declaration.Declaration.{Declaration}
use Rattle.pts_check.specs.Entered.{declared, declared_entries}
use Rattle.pts_image.specs.Renaming.{new_name, renamed_entry}
use Rattle.pts_core.specs.InnerNames.{is_inner, NoneInner}
use Rattle.pts_draft.specs.Drafts.{SeenDraft, scope}
use Rattle.pts_draft.specs.Renaming.{declares, IsRenamed, RefusesRenaming}
use Rattle.pts_draft.specs.declared.fault.RenameFault.{RenameFault}
use Rattle.pts_draft.specs.declared.fault.RenameFault.TheVariants as fault
use Rattle.pts_session.specs.State.{State}
use Rattle.pts_session.specs.Seen.{state_of}
use Rattle.pts_session.specs.Replies.{name_text}
use Rattle.pts_session.specs.Faults.{rename_line}
use Rattle.pts_session.specs.Renaming.{with_new_name, RenamesEntry, is_not_there, new_name_is_taken, gets_new_name}
use Rattle.pts_session.specs.Drafting.{RenamesIn}

-- A name that is declared has a place among the entries, and another one has none.
place_there : (x : Name) (ds : List Declaration) → declares ds x ≡ true → (k : ℕ) × (place_of x (declared_entries ds) ≡ Some k)
place_there x [] h = absurd (cc h)
place_there x (d ∷ ds) h = by (same_name x d.name) refl h (place_there x ds)
  where
    by : (b : Bool) → same_name x d.name ≡ b → (b || declares ds x) ≡ true → (declares ds x ≡ true → (k : ℕ) × (place_of x (declared_entries ds) ≡ Some k)) → (k : ℕ) × (place_of x (declared_entries (d ∷ ds)) ≡ Some k)
    by true q h rest = (0, position-step (λ e. same_name x e.name) (declared d) (declared_entries ds) ∙ ap (λ b. if b then Some 0 else option_map suc (place_of x (declared_entries ds))) q)
    by false q h rest =
        let (k, at) = rest h in
        (suc k, position-step (λ e. same_name x e.name) (declared d) (declared_entries ds) ∙ (ap (λ b. if b then Some 0 else option_map suc (place_of x (declared_entries ds))) q ∙ ap (option_map suc) at))

place_none : (x : Name) (ds : List Declaration) → declares ds x ≡ false → place_of x (declared_entries ds) ≡ None
place_none x [] h = refl
place_none x (d ∷ ds) h = position-step (λ e. same_name x e.name) (declared d) (declared_entries ds) ∙ by (same_name x d.name) h (place_none x ds)
  where
    by : (b : Bool) → (b || declares ds x) ≡ false → (declares ds x ≡ false → place_of x (declared_entries ds) ≡ None) → (if b then Some 0 else option_map suc (place_of x (declared_entries ds))) ≡ None
    by true h rest = absurd (cc h)
    by false h rest = ap (option_map suc) (rest h)

module _ (old new : SeenDraft) (x y : Name) (lines : List (List ℕ)) where
  pub renamed_is : IsRenamed old x y new.declarations → new.entries ≡ old.entries → new.labels ≡ old.labels → lines ≡ name_text (codes "renamed") y ∷ [] → RenamesIn old x y lines new
  renamed_is r e l is b =
      let (k, at) = place_there x old.declarations r.there in
      let state : state_of new b ≡ with_new_name (state_of old b) x y = λ i. record { base = record { entries = e i; labels = l i }; draft = r.renamed.entries i; budget = b } in
      subst (λ t. RenamesEntry (state_of old b) x y lines t) (sym state)
      (subst (λ ls. RenamesEntry (state_of old b) x y ls (with_new_name (state_of old b) x y)) (sym is) (gets_new_name at (place-fresh y (scope old) r.free)))

  refused_as : (e : RenameFault) → RefusesRenaming old x y e → e ≢ fault.Memory → (b : ℕ) → RenamesEntry (state_of old b) x y (rename_line e ∷ []) (state_of old b)
  refused_as (fault.NotThere z) r m b =
      subst (λ w. RenamesEntry (state_of old b) x y (rename_line (fault.NotThere w) ∷ []) (state_of old b)) (sym r.0) (is_not_there (place_none x old.declarations r.1))
  refused_as (fault.Taken z p) r m b =
      let (k, at) = place_there x old.declarations r.1 in
      subst (λ w. RenamesEntry (state_of old b) x y (rename_line (fault.Taken w p) ∷ []) (state_of old b)) (sym r.0) (new_name_is_taken at r.2)
  refused_as fault.Memory r m b = absurd (m refl)

  pub refused_is : (e : RenameFault) → RefusesRenaming old x y e → e ≢ fault.Memory → new ≡ old → lines ≡ rename_line e ∷ [] → RenamesIn old x y lines new
  refused_is e r m kept is b =
      subst (λ d. RenamesEntry (state_of old b) x y lines (state_of d b)) (sym kept)
      (subst (λ ls. RenamesEntry (state_of old b) x y ls (state_of old b)) (sym is) (refused_as e r m b))

-- The same of what a call answers.
pub refused_all : {X E : Type 0} (items : X → List (List ℕ)) (old new : SeenDraft) (x y : Name) (r : Result X E) (e : RenameFault) → RefusesRenaming old x y e → new ≡ old → OnOk r (e ≢ fault.Memory) → IfOk r (λ v. items v ≡ rename_line e ∷ []) → IfOk r (λ v. RenamesIn old x y (items v) new)
refused_all items old new x y (Err f) e refuses kept m is = tt
refused_all items old new x y (Ok v) e refuses kept m is = refused_is old new x y (items v) e refuses m kept is

-- Names that are not inner, one of them for another.
either_name : (x y z : Name) → is_inner y ≡ false → is_inner z ≡ false → is_inner (new_name x y z) ≡ false
either_name x y z new old = by (same_name x z)
  where
    by : (b : Bool) → is_inner (if b then y else z) ≡ false
    by true = new
    by false = old

all_renamed : (x y : Name) (G : List (Global Name)) → is_inner y ≡ false → NoneInner G → NoneInner (map (renamed_entry (new_name x y)) G)
all_renamed x y [] p all = tt
all_renamed x y (e ∷ G) p all = (either_name x y e.name p all.0, all_renamed x y G p all.1)

pub renames_none_inner : (s t : State) (x y : Name) (replies : List (List ℕ)) → RenamesEntry s x y replies t → is_inner y ≡ false → NoneInner s.draft → NoneInner t.draft
renames_none_inner s t x y replies (is_not_there e) p all = all
renames_none_inner s t x y replies (new_name_is_taken e f) p all = all
renames_none_inner s t x y replies (gets_new_name e f) p all = all_renamed x y s.draft p all
