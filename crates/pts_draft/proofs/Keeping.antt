-- What is sure of a draft stays so, whatever is done to it.
use Rattle.std.proofs.Common.{◌≡◌, ℕ, ◌-◌, ◌≤◌, List, [], ◌∷◌, ◌++◌, length, take, drop, true, None, sym, ap, ◌∙◌, subst, arith}
use Rattle.std.proofs.lemmas.List.{append-nil, append_assoc, map-append, length-append}
use Rattle.std.proofs.Math.Seq.{drop-append_seam}
use Rattle.pts_names.specs.Name.{Name}
use Rattle.pts_ctx.specs.System.{Specification}
use Rattle.pts_ctx.specs.Front.{Global, bare_front}
use Rattle.pts_ctx.specs.Seen.{IsPrefix, LabelsInside, NamesDiffer, globals_within}
use Rattle.pts_ctx.proofs.Lookups.{within-right}
use Rattle.pts_record.specs.declared.declaration.Declaration.{Declaration}
use Rattle.pts_rules.specs.Derives.{Legal}
use Rattle.pts_check.specs.Entered.{declared, declared_entries, MayEnter, MayFollow}
use Rattle.pts_check.proofs.Entering.{follow_more}
use Rattle.pts_core.specs.Replies.{LabelledFront}
use Rattle.pts_draft.specs.Drafts.{KeepsDraft, first_taken}
use Rattle.pts_draft.proofs.Following.{follow_take, follow_thin}
use Rattle.pts_draft.proofs.Freeness.{follow_differ, count_inside, fewer_entries, labels_stay}

-- A draft without declarations.
pub kept_new : (S : Specification) (F G : LabelledFront) (ds : List Declaration) → Legal S (bare_front F.entries) → ds ≡ [] → G.entries ≡ F.entries → G.labels ≡ F.labels → KeepsDraft S F G ds
kept_new S F G ds l d g k = record {
  sure = record { legal = l; follow = subst (MayFollow S F.entries) (sym d) tt };
  scope_entries = g ∙ (sym (append-nil F.entries) ∙ ap (λ es. F.entries ++ declared_entries es) (sym d));
  scope_labels = k;
}

-- The draft with the front F and the declarations ds, and its scope G.
module _ (S : Specification) (F G : LabelledFront) (ds : List Declaration) (k : KeepsDraft S F G ds) where
  -- The same draft.
  pub kept_same : (es : List Declaration) (H : LabelledFront) → es ≡ ds → H.entries ≡ G.entries → H.labels ≡ G.labels → KeepsDraft S F H es
  kept_same es H e h l = record {
    sure = record { legal = k.sure.legal; follow = subst (MayFollow S F.entries) (sym e) k.sure.follow };
    scope_entries = h ∙ (k.scope_entries ∙ ap (λ xs. F.entries ++ declared_entries xs) (sym e));
    scope_labels = l ∙ k.scope_labels;
  }

  -- One more declaration.
  pub kept_more : (d : Declaration) (es : List Declaration) (H : LabelledFront) → MayEnter S (F.entries ++ declared_entries ds) d → es ≡ ds ++ d ∷ [] → H.entries ≡ G.entries ++ declared d ∷ [] → H.labels ≡ G.labels → KeepsDraft S F H es
  kept_more d es H m e h l = record {
    sure = record { legal = k.sure.legal; follow = subst (MayFollow S F.entries) (sym e) (follow_more S ds F.entries d k.sure.follow m) };
    scope_entries =
        h ∙ (ap (λ E. E ++ declared d ∷ []) k.scope_entries
        ∙ (append_assoc F.entries (declared_entries ds) (declared d ∷ []) ∙ ap (λ E. F.entries ++ E) (sym (map-append declared ds (d ∷ [])) ∙ ap declared_entries (sym e))));
    scope_labels = l ∙ k.scope_labels;
  }

  -- The entries of the declarations are within limits, as those of the scope.
  pub kept_within : globals_within G.entries ≡ true → globals_within (declared_entries ds) ≡ true
  kept_within w = within-right F.entries (declared_entries ds) (ap globals_within (sym k.scope_entries) ∙ w)

  -- The last declarations taken back, this many of them.
  pub kept_inside : (count : ℕ) → count ≤ length ds → count ≤ length G.entries
  kept_inside count few = subst (λ E. count ≤ length E) (sym k.scope_entries) (count_inside F.entries ds count few)

  pub kept_marked : (count : ℕ) → count ≤ length ds → LabelsInside (length F.entries) F.labels → LabelsInside (length G.entries - count) G.labels
  kept_marked count few inside =
      subst (λ (E : List (Global Name)). LabelsInside (length E - count) G.labels) (sym k.scope_entries)
      (subst (LabelsInside (length (F.entries ++ declared_entries ds) - count)) (sym k.scope_labels) (labels_stay F.entries ds count few F.labels inside))

  pub kept_fewer : (count : ℕ) (es : List Declaration) (H : LabelledFront) → count ≤ length ds → es ≡ take (length ds - count) ds → H.entries ≡ take (length G.entries - count) G.entries → H.labels ≡ G.labels → KeepsDraft S F H es
  kept_fewer count es H few e h l = record {
    sure = record { legal = k.sure.legal; follow = subst (MayFollow S F.entries) (sym e) (follow_take S (length ds - count) F.entries ds k.sure.follow) };
    scope_entries =
        h ∙ (ap (λ E. take (length E - count) E) k.scope_entries ∙ (fewer_entries F.entries ds count few ∙ ap (λ xs. F.entries ++ declared_entries xs) (sym e)));
    scope_labels = l ∙ k.scope_labels;
  }

  -- The entries of the declarations are those of the scope after the front.
  pub kept_rest : drop (length F.entries) G.entries ≡ declared_entries ds
  kept_rest = ap (drop (length F.entries)) k.scope_entries ∙ drop-append_seam F.entries (declared_entries ds)

  pub kept_front_inside : length F.entries ≤ length G.entries
  kept_front_inside =
      let l = ap length k.scope_entries ∙ length-append F.entries (declared_entries ds) in
      omega (arith, l)

  -- The same declarations over a longer front E, in which their names are free.
  module _ (E : LabelledFront) (longer : IsPrefix F.entries E.entries) (free : first_taken E.entries ds ≡ None) where
    pub moved_follow : MayFollow S E.entries ds
    moved_follow = follow_thin S F.entries E.entries ds longer free k.sure.follow

    pub moved_differ : NamesDiffer E.entries → NamesDiffer (E.entries ++ declared_entries ds)
    moved_differ n = follow_differ S E.entries ds n moved_follow

    pub kept_moved : (H : LabelledFront) → Legal S (bare_front E.entries) → H.entries ≡ E.entries ++ declared_entries ds → H.labels ≡ E.labels → KeepsDraft S E H ds
    kept_moved H l h n = record { sure = record { legal = l; follow = moved_follow }; scope_entries = h; scope_labels = n }
