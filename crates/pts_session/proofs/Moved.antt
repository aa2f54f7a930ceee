-- A draft that moves to a front, or stays.
use Rattle.std.proofs.Common.{◌≡◌, ℕ, List, [], ◌∷◌, ◌++◌, Some, None, sym, ap, ◌∙◌}
use Rattle.std.proofs.lemmas.List.{map-append, append_assoc}
use Rattle.std.specs.Option.{option_map}
use Rattle.pts_names.specs.Name.{Name}
use Rattle.pts_ctx.specs.Front.{Global}
use Rattle.pts_record.specs.declared.declaration.Declaration.{Declaration}
use Rattle.pts_check.specs.Entered.{declared, declared_entries}
use Rattle.pts_core.specs.Replies.{LabelledFront}
use Rattle.pts_draft.specs.Drafts.{SeenDraft}
use Rattle.pts_draft.specs.Drafts as drafts
use Rattle.pts_session.specs.Replies.{taken_line}
use Rattle.pts_session.specs.Answers.{first_taken}
use Rattle.pts_session.specs.Seen.{state_of}
use Rattle.pts_session.specs.Moves.{moved_state}
use Rattle.pts_session.proofs.Hearing.{taken_same}

-- The scope of a draft whose last declaration is d ends with its entry.
pub scope_with : (G : List (Global Name)) (scope : List (Global Name)) (all ds : List Declaration) (d : Declaration) → scope ≡ G ++ declared_entries all → all ≡ ds ++ d ∷ [] → scope ≡ (G ++ declared_entries ds) ++ declared d ∷ []
scope_with G scope all ds d e f = e ∙ (ap (λ l. G ++ declared_entries l) f ∙ (ap (λ l. G ++ l) (map-append declared ds (d ∷ [])) ∙ sym (append_assoc G (declared_entries ds) (declared d ∷ []))))

module _ (old new : SeenDraft) (F : LabelledFront) where
  pub line_none : drafts.first_taken F.entries old.declarations ≡ None → option_map (λ t. taken_line t.0 t.1) (first_taken F.entries (declared_entries old.declarations)) ≡ None
  line_none h = ap (option_map (λ t. taken_line t.0 t.1)) (sym (taken_same F.entries old.declarations) ∙ h)

  pub line_some : (x : Name) (p : ℕ) → drafts.first_taken F.entries old.declarations ≡ Some (x, p) → option_map (λ t. taken_line t.0 t.1) (first_taken F.entries (declared_entries old.declarations)) ≡ Some (taken_line x p)
  line_some x p h = ap (option_map (λ t. taken_line t.0 t.1)) (sym (taken_same F.entries old.declarations) ∙ h)

  pub state_moved : drafts.first_taken F.entries old.declarations ≡ None → new.entries ≡ F.entries → new.labels ≡ F.labels → new.declarations ≡ old.declarations → (b : ℕ) → state_of new b ≡ moved_state (state_of old b) F (first_taken F.entries (declared_entries old.declarations))
  state_moved h e l d b =
      (λ i. record { base = record { entries = e i; labels = l i }; draft = declared_entries (d i); budget = b })
      ∙ sym (ap (moved_state (state_of old b) F) (sym (taken_same F.entries old.declarations) ∙ h))

  pub state_stays : (x : Name) (p : ℕ) → drafts.first_taken F.entries old.declarations ≡ Some (x, p) → new ≡ old → (b : ℕ) → state_of new b ≡ moved_state (state_of old b) F (first_taken F.entries (declared_entries old.declarations))
  state_stays x p h same b = ap (λ d. state_of d b) same ∙ sym (ap (moved_state (state_of old b) F) (sym (taken_same F.entries old.declarations) ∙ h))
