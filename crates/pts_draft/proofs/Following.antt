-- Declarations that may follow a front: they are found sound, the first of them may follow it alone, and all of them may follow a
-- longer front in which their names are free.
use Rattle.std.proofs.Common.{◌≡◌, ℕ, zero, suc, List, [], ◌∷◌, ◌++◌, ◌⊎◌, take, true, Option, Some, None, refl, sym, ap, ◌∙◌, subst}
use mathlib.Core.Logic.{inl, inr}
use Rattle.std.specs.Option.{option_map, option_or}
use Rattle.std.proofs.lemmas.List.{append-nil, append_assoc, map-append}
use Rattle.pts_names.specs.Name.{Name}
use Rattle.pts_ctx.specs.System.{Specification}
use Rattle.pts_ctx.specs.Front.{Global, Front, Fresh, HasEntries, bare_front, bare_global}
use Rattle.pts_ctx.specs.Seen.{place_of, global_within, IsPrefix}
use Rattle.pts_ctx.proofs.Find.{find_before, find_last, find_split}
use Rattle.pts_ctx.proofs.Lookups.{find-none, place-fresh}
use Rattle.pts_record.specs.declared.declaration.Declaration.{Declaration}
use Rattle.pts_rules.specs.Valid.{IsValid, concludes}
use Rattle.pts_rules.proofs.ThinRecord.{thin_record}
use Rattle.pts_rules.proofs.Thinning.{longer_has_entries}
use Rattle.pts_check.specs.Entered.{declared, bare_declared, unless_concluded, or_conclusion, declaration_fault, MayEnter, MayFollow}
use Rattle.pts_check.proofs.Entering.{fresh_bare}
use Rattle.pts_core.specs.declared.finding.Finding.TheVariants.{Sound}
use Rattle.pts_core.specs.Findings.{or_doubled, or_faulty, finding_from, finding_of}
use Rattle.pts_core.proofs.Places.{in_neither, not_in_parts}
use Rattle.pts_draft.specs.Drafts.{first_taken}

-- A declaration that may be added has no fault.
no_fault : (S : Specification) (G : List (Global Name)) (d : Declaration) → MayEnter S G d → declaration_fault S G d.proof (declared d) ≡ None
unfolding declaration_fault
no_fault S G d m = ap (or_conclusion d.proof (declared d)) m.valid ∙ ap (unless_concluded d.proof) m.concluded

found_from : (S : Specification) (G : List (Global Name)) (k : ℕ) (ds : List Declaration) → MayFollow S G ds → finding_from S G k ds ≡ Sound
found_from S G k [] m = refl
found_from S G k (d ∷ ds) m =
    let H = G ++ declared d ∷ [] in
    ap (λ o. or_doubled k o (or_faulty k (declaration_fault S G d.proof (declared d)) (finding_from S H (suc k) ds))) (place-fresh d.name G m.0.fresh)
    ∙ (ap (λ o. or_faulty k o (finding_from S H (suc k) ds)) (no_fault S G d m.0) ∙ found_from S H (suc k) ds m.1)

pub follow_sound : (S : Specification) (G : List (Global Name)) (ds : List Declaration) → MayFollow S G ds → finding_of S G ds ≡ Sound
unfolding finding_of
follow_sound S G ds m = found_from S G 0 ds m

-- The first of them, some number of them.
pub follow_take : (S : Specification) (n : ℕ) (G : List (Global Name)) (ds : List Declaration) → MayFollow S G ds → MayFollow S G (take n ds)
follow_take S zero G ds m = tt
follow_take S (suc n) G [] m = tt
follow_take S (suc n) G (d ∷ ds) m = (m.0, follow_take S n (G ++ declared d ∷ []) ds m.1)

pub may_enter : (S : Specification) (G : List (Global Name)) (d : Declaration) → place_of d.name G ≡ None → global_within (declared d) ≡ true → concludes d.proof (bare_declared d) ≡ true → IsValid S (bare_front G) d.proof → MayEnter S G d
may_enter S G d p w q v = record { fresh = find-none d.name G p; within = w; valid = v; concluded = q }

either : {A B C : Type 0} → (A → C) → (B → C) → A ⊎ B → C
either f g (inl a) = f a
either f g (inr b) = g b

-- One front has the entries of another also with one more entry after both.
has_more : (F G : Front) (e : Global (Unit {0})) → HasEntries F G → Fresh e.name G → HasEntries (F ++ e ∷ []) (G ++ e ∷ [])
has_more F G e h fresh x f q =
    either (λ a. find_before x G (e ∷ []) f (h x f a))
    (λ b. find_last x G e (subst (λ y. Fresh y G) (sym b.0) fresh) b.0 ∙ ap Some (sym b.1))
    (find_split x F e f q)

bare_more : (G D : List (Global Name)) (d : Declaration) → bare_front (G ++ (D ++ declared d ∷ [])) ≡ bare_front (G ++ D) ++ bare_declared d ∷ []
bare_more G D d = ap bare_front (sym (append_assoc G D (declared d ∷ []))) ∙ map-append bare_global (G ++ D) (declared d ∷ [])

prefix_has : (F G : List (Global Name)) → IsPrefix F G → HasEntries (bare_front F) (bare_front G)
prefix_has F G p = subst (HasEntries (bare_front F)) (sym (map-append bare_global F p.0) ∙ ap bare_front p.1) (longer_has_entries (bare_front F) (bare_front p.0))

no_place : (x : Name) (o : Option ℕ) (later : Option (Name × ℕ)) → option_or (option_map (λ place. (x, place)) o) later ≡ None → (o ≡ None) × (later ≡ None)
no_place x None later h = (refl, h)
no_place x (Some p) later h = absurd (cc h)

-- What may be added to the front F may be added to the front G, which has its entries, if the name is free there.
enter_thin : (S : Specification) (F G : List (Global Name)) (d : Declaration) → HasEntries (bare_front F) (bare_front G) → place_of d.name G ≡ None → MayEnter S F d → MayEnter S G d
enter_thin S F G d h p m = may_enter S G d p m.within m.concluded (thin_record S (bare_front F) (bare_front G) d.proof h m.valid)

-- D are the entries of the declarations that are done.
thin_from : (S : Specification) (F G D : List (Global Name)) (ds : List Declaration) → HasEntries (bare_front (F ++ D)) (bare_front (G ++ D)) → first_taken G ds ≡ None → MayFollow S (F ++ D) ds → MayFollow S (G ++ D) ds
thin_from S F G D [] h q m = tt
thin_from S F G D (d ∷ ds) h q m =
    let s = no_place d.name (place_of d.name G) (first_taken G ds) q in
    let p = in_neither d.name G D s.0 (not_in_parts d.name F D (place-fresh d.name (F ++ D) m.0.fresh)).1 in
    let more = has_more (bare_front (F ++ D)) (bare_front (G ++ D)) (bare_declared d) h (fresh_bare d.name (G ++ D) (find-none d.name (G ++ D) p)) in
    let E = D ++ declared d ∷ [] in (
      enter_thin S (F ++ D) (G ++ D) d h p m.0,
      subst (λ H. MayFollow S H ds) (sym (append_assoc G D (declared d ∷ [])))
          (thin_from S F G E ds
          (subst (λ H. HasEntries H (bare_front (G ++ E))) (sym (bare_more F D d)) (subst (HasEntries (bare_front (F ++ D) ++ bare_declared d ∷ [])) (sym (bare_more G D d)) more))
          s.1 (subst (λ H. MayFollow S H ds) (append_assoc F D (declared d ∷ [])) m.1)),
    )

-- What may follow a front may follow a longer one in which its names are free, with the same records.
pub follow_thin : (S : Specification) (F G : List (Global Name)) (ds : List Declaration) → IsPrefix F G → first_taken G ds ≡ None → MayFollow S F ds → MayFollow S G ds
follow_thin S F G ds p q m =
    let nothing = λ (H : List (Global Name)). sym (append-nil H) in
    subst (λ H. MayFollow S H ds) (append-nil G)
    (thin_from S F G [] ds
    (subst (λ H. HasEntries H (bare_front (G ++ []))) (ap bare_front (nothing F)) (subst (HasEntries (bare_front F)) (ap bare_front (nothing G)) (prefix_has F G p)))
    q (subst (λ H. MayFollow S H ds) (nothing F) m))
