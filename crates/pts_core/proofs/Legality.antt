-- Declarations that were found sound over a front may enter a longer one in which their names are new.
use Rattle.std.proofs.Common.{◌≡◌, ℕ, suc, List, [], ◌∷◌, ◌++◌, ◌⊎◌, Option, Some, None, refl, sym, ap, ◌∙◌, subst}
use mathlib.Core.Logic.{inl, inr}
use Rattle.std.proofs.lemmas.List.{append-nil, append_assoc, map-append}
use Rattle.pts_names.specs.Name.{Name}
use Rattle.pts_ctx.specs.System.{Specification}
use Rattle.pts_ctx.specs.Front.{Global, Front, Fresh, HasEntries, bare_front, bare_global}
use Rattle.pts_ctx.specs.Seen.{place_of, IsPrefix}
use Rattle.pts_ctx.proofs.Find.{find_before, find_last, find_split}
use Rattle.pts_ctx.proofs.Lookups.{find-none}
use Rattle.pts_record.specs.declared.declaration.Declaration.{Declaration}
use Rattle.pts_rules.specs.declared.why.Why.{Why}
use Rattle.pts_rules.specs.Derives.{Legal}
use Rattle.pts_rules.proofs.Sound.{conclusion_legal}
use Rattle.pts_rules.proofs.ThinRecord.{thin_record}
use Rattle.pts_rules.proofs.Thinning.{longer_has_entries}
use Rattle.pts_check.specs.Entered.{declared, bare_declared, declared_entries, declaration_fault}
use Rattle.pts_check.proofs.Entering.{without_fault, fresh_bare}
use Rattle.pts_core.specs.declared.finding.Finding.{Finding}
use Rattle.pts_core.specs.declared.finding.Finding.TheVariants.{Sound}
use Rattle.pts_core.specs.Findings.{or_doubled, or_faulty, finding_from, finding_of}
use Rattle.pts_core.specs.Replies.{or_taken, clash_from, first_clash}
use Rattle.pts_core.proofs.Clashes.{not_taken}

either : {A B C : Type 0} → (A → C) → (B → C) → A ⊎ B → C
either f g (inl a) = f a
either f g (inr b) = g b

-- What is found sound has passed each test.
not_doubled : (k : ℕ) (o : Option ℕ) (later : Finding) → or_doubled k o later ≡ Sound → (o ≡ None) × (later ≡ Sound)
not_doubled k None later h = (refl, h)
not_doubled k (Some p) later h = absurd (cc h)

not_faulty : (k : ℕ) (o : Option (ℕ × Why)) (later : Finding) → or_faulty k o later ≡ Sound → (o ≡ None) × (later ≡ Sound)
not_faulty k None later h = (refl, h)
not_faulty k (Some f) later h = absurd (cc h)

-- One front has the entries of another also with one more entry after both.
has_more : (F G : Front) (e : Global (Unit {0})) → HasEntries F G → Fresh e.name G → HasEntries (F ++ e ∷ []) (G ++ e ∷ [])
has_more F G e h fresh x f q =
    either (λ a. find_before x G (e ∷ []) f (h x f a))
    (λ b. find_last x G e (subst (λ y. Fresh y G) (sym b.0) fresh) b.0 ∙ ap Some (sym b.1))
    (find_split x F e f q)

bare_more : (G : List (Global Name)) (d : Declaration) → bare_front (G ++ declared d ∷ []) ≡ bare_front G ++ bare_declared d ∷ []
bare_more G d = map-append bare_global G (declared d ∷ [])

legal_on : (S : Specification) (k : ℕ) (ds : List Declaration) (F G : List (Global Name)) → HasEntries (bare_front F) (bare_front G) → Legal S (bare_front G) → finding_from S F k ds ≡ Sound → clash_from G k (declared_entries ds) ≡ None → Legal S (bare_front (G ++ declared_entries ds))
legal_on S k [] F G h l sound free = subst (λ H. Legal S (bare_front H)) (sym (append-nil G)) l
legal_on S k (d ∷ ds) F G h l sound free =
    let a = not_doubled k (place_of d.name F) _ sound in
    let b = not_faulty k (declaration_fault S F d.proof (declared d)) _ a.1 in
    let c = without_fault S F d.proof (declared d) b.0 in
    let f = not_taken k (place_of d.name G) _ free in
    let fresh = fresh_bare d.name G (find-none d.name G f.0) in
    let valid = thin_record S (bare_front F) (bare_front G) d.proof h c.0 in
    let legal = conclusion_legal S (bare_front G) d.proof (bare_declared d) l valid fresh c.1 in
    let more = has_more (bare_front F) (bare_front G) (bare_declared d) h fresh in
    subst (λ H. Legal S (bare_front H)) (append_assoc G (declared d ∷ []) (declared_entries ds))
    (legal_on S (suc k) ds (F ++ declared d ∷ []) (G ++ declared d ∷ [])
    (subst (λ H. HasEntries H (bare_front (G ++ declared d ∷ []))) (sym (bare_more F d)) (subst (HasEntries (bare_front F ++ bare_declared d ∷ [])) (sym (bare_more G d)) more))
    (subst (Legal S) (sym (bare_more G d)) legal) b.1 f.1)

prefix_has : (F G : List (Global Name)) → IsPrefix F G → HasEntries (bare_front F) (bare_front G)
prefix_has F G p = subst (HasEntries (bare_front F)) (sym (map-append bare_global F p.0) ∙ ap bare_front p.1) (longer_has_entries (bare_front F) (bare_front p.0))

pub sound_enters : (S : Specification) (F G : List (Global Name)) (ds : List Declaration) → IsPrefix F G → Legal S (bare_front G) → finding_of S F ds ≡ Sound → first_clash G (declared_entries ds) ≡ None → Legal S (bare_front (G ++ declared_entries ds))
unfolding finding_of first_clash
sound_enters S F G ds p l sound free = legal_on S 0 ds F G (prefix_has F G p) l sound free

once_from : (S : Specification) (k : ℕ) (ds : List Declaration) (F : List (Global Name)) → finding_from S F k ds ≡ Sound → clash_from F k (declared_entries ds) ≡ None
once_from S k [] F sound = refl
once_from S k (d ∷ ds) F sound =
    let a = not_doubled k (place_of d.name F) _ sound in
    let b = not_faulty k (declaration_fault S F d.proof (declared d)) _ a.1 in
    ap (λ o. or_taken k o (clash_from (F ++ declared d ∷ []) (suc k) (declared_entries ds))) a.0 ∙ once_from S (suc k) ds (F ++ declared d ∷ []) b.1

-- Where all is found sound, no name is there twice.
pub sound_once : (S : Specification) (F : List (Global Name)) (ds : List Declaration) → finding_of S F ds ≡ Sound → first_clash F (declared_entries ds) ≡ None
unfolding finding_of first_clash
sound_once S F ds sound = once_from S 0 ds F sound
