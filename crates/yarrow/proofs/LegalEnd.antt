-- What entered is legal.
use Rattle.std.proofs.Common.{◌≡◌, ℕ, List, [], ◌∷◌, ◌++◌, length, refl, sym, ◌∙◌, subst, arith, Bool, true, false, nat_le, Option, Some, None, Ok, Err, Result}
use Rattle.std.specs.Prelude.{if◌then◌else◌}
use Rattle.std.specs.Option.{option_map}
use Rattle.std.proofs.lemmas.List.{map-append}
use Rattle.pts_names.specs.Name.{Name}
use Rattle.pts_ctx.specs.System.{Specification}
use Rattle.pts_ctx.specs.Front.{Global, find, bare_global, bare_front}
use Rattle.pts_ctx.specs.Seen.{place_of}
use Rattle.pts_rules.specs.declared.why.Why.{Why}
use Rattle.pts_rules.specs.Derives.{Legal, legal_empty}
use Rattle.pts_rules.proofs.Sound.{conclusion_legal}
use Rattle.pts_check.proofs.Entering.{without_fault, fresh_bare}
use Rattle.pts_certificate.specs.declared.fault.CertificateFault.{CertificateFault}
use Rattle.pts_certificate.specs.Certificate.{Declared, Written, certificate_of}
use Rattle.yarrow.specs.declared.enter.Refusal.{Refusal}
use Rattle.yarrow.specs.declared.enter.Refusal.TheVariants.{Full, Faulty}
use Rattle.yarrow.specs.Enter.{Entered, entry_of, or_full, or_clash, refusal_of, or_on, enter_all}
use Rattle.yarrow.specs.Answers.{answer_by, answer_read, answer_to, IsLegalBy}

no_place : (x : Name) (G : List (Global Name)) → place_of x G ≡ None → find x G ≡ None
unfolding find
no_place x [] h = refl
no_place x (e ∷ G) h = grind (arith, no_place x G)

-- what a declaration is that is not refused
clash_none : (x : Name) (o : Option ℕ) (w : Option Refusal) → or_clash x o w ≡ None → (o ≡ None) × (w ≡ None)
clash_none x None w h = (refl, h)
clash_none x (Some k) w h = cc

full_none : (G : List (Global Name)) (w : Option Refusal) → or_full G w ≡ None → w ≡ None
full_none G w h = by_room (nat_le 200000 (length G)) h
  where
    by_room : (b : Bool) → (if b then Some Full else w) ≡ None → w ≡ None
    by_room true p = cc
    by_room false p = p

map_none : (x : Name) (o : Option (ℕ × Why)) → option_map (λ f. Faulty x f.0 f.1) o ≡ None → o ≡ None
map_none x None h = refl
map_none x (Some f) h = cc

entered_legal : (S : Specification) (G : List (Global Name)) (d : Declared) → refusal_of S G d ≡ None → Legal S (bare_front G) → Legal S (bare_front (G ++ entry_of d ∷ []))
unfolding refusal_of
entered_legal S G d h l =
    let a = clash_none d.name (place_of d.name G) _ h in
    let b = map_none d.name _ (full_none G _ a.1) in
    let c = without_fault S G d.proof (entry_of d) b in
    subst (Legal S) (sym (map-append bare_global G (entry_of d ∷ []))) (conclusion_legal S (bare_front G) d.proof (bare_global (entry_of d)) l c.0 (fresh_bare d.name G (no_place d.name G a.0)) c.1)

by_refusal : (S : Specification) (G : List (Global Name)) (d : Declared) (later : Entered) → Legal S (bare_front G) → (o : Option Refusal) → refusal_of S G d ≡ o → (Legal S (bare_front (G ++ entry_of d ∷ [])) → Legal S (bare_front later.entries)) → Legal S (bare_front (or_on G o later).entries)
by_refusal S G d later l None e next = next (entered_legal S G d e l)
by_refusal S G d later l (Some w) e next = l

all_legal : (S : Specification) (ds : List Declared) (G : List (Global Name)) → Legal S (bare_front G) → Legal S (bare_front (enter_all S G ds).entries)
all_legal S [] G l = l
all_legal S (d ∷ ds) G l = by_refusal S G d (enter_all S (G ++ entry_of d ∷ []) ds) l (refusal_of S G d) refl (λ m. all_legal S ds (G ++ entry_of d ∷ []) m)

answer_entries : (o : Option Refusal) (G : List (Global Name)) → (answer_by o G).entries ≡ G
answer_entries None G = refl
answer_entries (Some w) G = refl

read_legal : (r : Result Written CertificateFault) → IsLegalBy r (answer_read r).entries
read_legal (Ok w) = subst (λ G. Legal w.system (bare_front G)) (sym (answer_entries (enter_all w.system [] w.declarations).refusal (enter_all w.system [] w.declarations).entries)) (all_legal w.system w.declarations [] legal_empty)
read_legal (Err e) = legal_empty

pub answer_legal : (text : List ℕ) → IsLegalBy (certificate_of text) (answer_to text).entries
unfolding answer_to
answer_legal text = read_legal (certificate_of text)

some_by : (r : Result Written CertificateFault) (G : List (Global Name)) → IsLegalBy r G → (S : Specification) × Legal S (bare_front G)
some_by (Ok w) G l = (w.system, l)
some_by (Err e) G l = (_, l)

pub some_legal : (text : List ℕ) → (S : Specification) × Legal S (bare_front (answer_to text).entries)
some_legal text = some_by (certificate_of text) (answer_to text).entries (answer_legal text)

pub none_legal : (G : List (Global Name)) → G ≡ [] → (S : Specification) × Legal S (bare_front G)
none_legal G e = (record { sorts = []; axioms = []; rules = [] }, subst (λ H. Legal (record { sorts = []; axioms = []; rules = [] }) (bare_front H)) (sym e) legal_empty)

none_by : (r : Result Written CertificateFault) → IsLegalBy r []
none_by (Ok w) = legal_empty
none_by (Err e) = legal_empty

pub none_chosen : (text : List ℕ) (G : List (Global Name)) → G ≡ [] → IsLegalBy (certificate_of text) G
none_chosen text G e = subst (IsLegalBy (certificate_of text)) (sym e) (none_by (certificate_of text))
