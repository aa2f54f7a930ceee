-- Declarations by their numbers, and copies of their names.
use Rattle.std.proofs.Common.{◌≡◌, ◌<◌, ℕ, suc, ◌+◌, List, [], ◌∷◌, ◌++◌, map, length, slice_get, Option, Some, None, sym, ap, ◌∙◌, arith}
use Rattle.std.specs.Option.{option_map}
use Rattle.std.proofs.lemmas.List.{length-map}
use Rattle.std.proofs.lemmas.Option.{slice_get-map, same_Some}
use Rattle.pts_names.specs.Name.{Name}
use Rattle.pts_ctx.specs.System.{Specification}
use Rattle.pts_ctx.specs.Front.{Global}
use Rattle.pts_ctx.specs.Seen.{place_of}
use Rattle.pts_record.specs.declared.declaration.Declaration.{Declaration}
use Rattle.pts_rules.specs.declared.why.Why.{Why}
use Rattle.pts_check.specs.Entered.{declared, declared_entries, declaration_fault}
use Rattle.pts_core.specs.declared.copies.Copies.{Copies}
use Rattle.pts_core.specs.declared.finding.Finding.{Finding}
use Rattle.pts_core.specs.declared.finding.Finding.TheVariants.{Sound, Faulty, Doubled}
use Rattle.pts_core.specs.Findings.{or_doubled, or_faulty, finding_from, finding_of}
use Rattle.pts_core.specs.Replies.{or_taken, clash_from, first_clash}
use Rattle.pts_core.proofs.Clashes.{same_pair}

pub entries_long : (ds : List Declaration) → length (declared_entries ds) ≡ length ds
entries_long ds = length-map ds declared

-- The copies with a number are of the name of the entry with that number.
pub name_kept : (names : List Copies) (es : List (Global Name)) (n : ℕ) (c : Copies) → map (λ d. d.kept) names ≡ map (λ e. e.name) es → slice_get names n ≡ Some c → option_map (λ e. e.name) (slice_get es n) ≡ Some c.kept
name_kept names es n c same at = sym (slice_get-map (λ e. e.name) es n) ∙ (ap (λ xs. slice_get xs n) (sym same) ∙ (slice_get-map (λ d. d.kept) names n ∙ ap (option_map (λ d. d.kept)) at))

pub name_shown : (names : List Copies) (xs : List Name) (n : ℕ) (c : Copies) → map (λ d. d.kept) names ≡ xs → map (λ d. d.shown) names ≡ xs → slice_get names n ≡ Some c → c.shown ≡ c.kept
name_shown names xs n c kept shown at =
    same_Some c.shown c.kept
    (sym (slice_get-map (λ d. d.shown) names n ∙ ap (option_map (λ d. d.shown)) at) ∙ (ap (λ ys. slice_get ys n) (shown ∙ sym kept) ∙ (slice_get-map (λ d. d.kept) names n ∙ ap (option_map (λ d. d.kept)) at)))

-- There are copies for each declaration.
pub names_long : (names : List Copies) (es : List (Global Name)) (ds : List Declaration) → map (λ d. d.kept) names ≡ map (λ e. e.name) es → es ≡ declared_entries ds → length names ≡ length ds
names_long names es ds kept same = sym (length-map names (λ d. d.kept)) ∙ (ap length kept ∙ (length-map es (λ e. e.name) ∙ (ap length same ∙ entries_long ds)))

-- A finding tells of a declaration that is there.
abbrev number_in : Finding → ℕ
number_in Sound = 0
number_in (Faulty k n w) = k
number_in (Doubled k) = k

faulty_from : (S : Specification) (G : List (Global Name)) (k : ℕ) (ds : List Declaration) (j n : ℕ) (w : Why) → finding_from S G k ds ≡ Faulty j n w → j < k + length ds
faulty_from S G k [] j n w h = absurd (cc h)
faulty_from S G k (d ∷ ds) j n w h = by (place_of d.name G) (declaration_fault S G d.proof (declared d)) (λ q. faulty_from S (G ++ declared d ∷ []) (suc k) ds j n w q) h
  where
    by : (o : Option ℕ) (f : Option (ℕ × Why)) → (finding_from S (G ++ declared d ∷ []) (suc k) ds ≡ Faulty j n w → j < suc k + length ds) → or_doubled k o (or_faulty k f (finding_from S (G ++ declared d ∷ []) (suc k) ds)) ≡ Faulty j n w → j < k + suc (length ds)
    by (Some p) f rest q = absurd (cc q)
    by None None rest q = let l = rest q in omega (arith, l)
    by None (Some f) rest q = let e : k ≡ j = ap number_in q in omega (arith, e)

pub faulty_inside : (S : Specification) (G : List (Global Name)) (ds : List Declaration) (j n : ℕ) (w : Why) (f : Finding) → f ≡ finding_of S G ds → f ≡ Faulty j n w → j < length ds
unfolding finding_of
faulty_inside S G ds j n w f e h = let l = faulty_from S G 0 ds j n w (sym e ∙ h) in omega (arith, l)

-- So does a clash.
clash_inside_from : (G : List (Global Name)) (k : ℕ) (es : List (Global Name)) (j p : ℕ) → clash_from G k es ≡ Some (j, p) → j < k + length es
clash_inside_from G k [] j p h = absurd (cc h)
clash_inside_from G k (e ∷ es) j p h = by (place_of e.name G) (λ q. clash_inside_from (G ++ e ∷ []) (suc k) es j p q) h
  where
    by : (o : Option ℕ) → (clash_from (G ++ e ∷ []) (suc k) es ≡ Some (j, p) → j < suc k + length es) → or_taken k o (clash_from (G ++ e ∷ []) (suc k) es) ≡ Some (j, p) → j < k + suc (length es)
    by None rest q = let l = rest q in omega (arith, l)
    by (Some i) rest q = let e : k ≡ j = (same_pair q).0 in omega (arith, e)

pub clash_inside : (G : List (Global Name)) (es : List (Global Name)) (j p : ℕ) → first_clash G es ≡ Some (j, p) → j < length es
unfolding first_clash
clash_inside G es j p h = let l = clash_inside_from G 0 es j p h in omega (arith, l)
