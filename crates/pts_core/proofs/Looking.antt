-- The declarations of an offer are looked at, one after another.
use Rattle.std.proofs.Common.{◌≡◌, ℕ, suc, ◌+◌, List, [], ◌∷◌, ◌++◌, take, drop, slice_get, true, Option, Some, None, sym, ap, ◌∙◌, subst, arith}
use Rattle.std.proofs.lemmas.List.{map-append}
use Rattle.pts_names.specs.Name.{Name}
use Rattle.pts_ctx.specs.System.{Specification}
use Rattle.pts_ctx.specs.Front.{Global}
use Rattle.pts_ctx.specs.Seen.{place_of, global_within, globals_within}
use Rattle.pts_ctx.proofs.Lookups.{within-behind}
use Rattle.pts_ctx.proofs.Parts.{take-next, drop-at}
use Rattle.pts_record.specs.declared.declaration.Declaration.{Declaration}
use Rattle.pts_check.specs.Entered.{declared, declared_entries, declaration_fault}
use Rattle.pts_core.specs.declared.finding.Finding.{Finding}
use Rattle.pts_core.specs.Findings.{or_doubled, or_faulty, finding_from}
use Rattle.pts_core.specs.Replies.{or_taken, clash_from}

next : (i : ℕ) → suc i ≡ i + 1
next i = omega arith

-- The declaration d has the number i, and its name is new over F, which is the front with the entries before it.
module _ (S : Specification) (F : List (Global Name)) (ds : List Declaration) (i : ℕ) (d : Declaration) (at : slice_get ds i ≡ Some d) where
  pub finding_on : (all : Finding) → place_of d.name F ≡ None → declaration_fault S F d.proof (declared d) ≡ None → finding_from S F i (drop i ds) ≡ all → (G : List (Global Name)) → G ≡ F ++ declared d ∷ [] → finding_from S G (i + 1) (drop (i + 1) ds) ≡ all
  finding_on all new faultless h G e =
      subst (λ H. finding_from S H (i + 1) (drop (i + 1) ds) ≡ all) (sym e)
      (ap (λ k. finding_from S (F ++ declared d ∷ []) k (drop (i + 1) ds)) (sym (next i))
      ∙ (sym (ap (λ o. or_doubled i o (or_faulty i (declaration_fault S F d.proof (declared d)) (finding_from S (F ++ declared d ∷ []) (suc i) (drop (i + 1) ds)))) new
      ∙ ap (λ o. or_faulty i o (finding_from S (F ++ declared d ∷ []) (suc i) (drop (i + 1) ds))) faultless)
      ∙ (ap (finding_from S F i) (sym (drop-at ds i d at)) ∙ h)))

  pub clash_on : (all : Option (ℕ × ℕ)) → place_of d.name F ≡ None → clash_from F i (declared_entries (drop i ds)) ≡ all → (G : List (Global Name)) → G ≡ F ++ declared d ∷ [] → clash_from G (i + 1) (declared_entries (drop (i + 1) ds)) ≡ all
  clash_on all new h G e =
      subst (λ H. clash_from H (i + 1) (declared_entries (drop (i + 1) ds)) ≡ all) (sym e)
      (ap (λ k. clash_from (F ++ declared d ∷ []) k (declared_entries (drop (i + 1) ds))) (sym (next i))
      ∙ (sym (ap (λ o. or_taken i o (clash_from (F ++ declared d ∷ []) (suc i) (declared_entries (drop (i + 1) ds)))) new)
      ∙ (ap (λ xs. clash_from F i (declared_entries xs)) (sym (drop-at ds i d at)) ∙ h)))

  pub within_on : global_within (declared d) ≡ true → globals_within (declared_entries (take i ds)) ≡ true → globals_within (declared_entries (take (i + 1) ds)) ≡ true
  within_on w h =
      ap (λ xs. globals_within (declared_entries xs)) (take-next ds i d at)
      ∙ (ap globals_within (map-append declared (take i ds) (d ∷ [])) ∙ within-behind (declared_entries (take i ds)) (declared d) h w)
