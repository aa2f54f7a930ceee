-- Thinning: steps, conversions and derivations over a front hold over every legal front that has its entries.
use Rattle.std.proofs.Common.{ℕ, [], ◌∷◌, ◌++◌, ◌⊎◌, ◌≡◌, refl, Some}
use mathlib.Core.Logic.{inl, inr}
use Rattle.pts_names.specs.Name.{Name}
use Rattle.pts_terms.specs.Tree.{Bare, sort, const}
use Rattle.pts_ctx.specs.System.{Specification, axiom_of}
use Rattle.pts_ctx.specs.Front.{Global, Front, HasEntries, find, assumption, definition, Locals}
use Rattle.pts_ctx.proofs.Find.{find_before, find_last, find_split}
use Rattle.pts_rules.specs.Step.{Step, beta, zeta, delta, delta_local, in_function, in_argument, in_lam_domain, in_lam_body, in_pi_domain, in_pi_body, in_definition, in_definition_type, in_definition_body, Convertible, equal, forwards, backwards}
use Rattle.pts_rules.specs.Derives.{Derives, axioms, global_start, global_start_defined, global_weakening, global_weakening_defined, local_start, local_start_defined, local_weakening, local_weakening_defined, product, application, abstraction, formation, introduction, conversion, Legal, legal_empty, legal_assumption, legal_definition}

pub thin_step : {G H : Front} {L : Locals} {t u : Bare} → HasEntries G H → Step G L t u → Step H L t u
thin_step h beta = beta
thin_step h zeta = zeta
thin_step h (delta {x = x} {e = e} p q) = delta (h x e p) q
thin_step h (delta_local p) = delta_local p
thin_step h (in_function s) = in_function (thin_step h s)
thin_step h (in_argument s) = in_argument (thin_step h s)
thin_step h (in_lam_domain s) = in_lam_domain (thin_step h s)
thin_step h (in_lam_body s) = in_lam_body (thin_step h s)
thin_step h (in_pi_domain s) = in_pi_domain (thin_step h s)
thin_step h (in_pi_body s) = in_pi_body (thin_step h s)
thin_step h (in_definition s) = in_definition (thin_step h s)
thin_step h (in_definition_type s) = in_definition_type (thin_step h s)
thin_step h (in_definition_body s) = in_definition_body (thin_step h s)

pub thin_convertible : {G H : Front} {L : Locals} {t u : Bare} → HasEntries G H → Convertible G L t u → Convertible H L t u
thin_convertible h equal = equal
thin_convertible h (forwards s c) = forwards (thin_step h s) (thin_convertible h c)
thin_convertible h (backwards s c) = backwards (thin_step h s) (thin_convertible h c)

-- Over a legal front each axiom holds.
pub legal_sort : {S : Specification} {G : Front} {s r : ℕ} → Legal S G → axiom_of S s ≡ Some r → Derives S G [] (sort s) (sort r)
legal_sort legal_empty p = axioms p
legal_sort (legal_assumption x l f d) p = global_weakening x (legal_sort l p) d f
legal_sort (legal_definition x l f d) p = global_weakening_defined x (legal_sort l p) d f

-- A constant of a longer front is one of the shorter front, or the last.
const_in_longer : {S : Specification} (G : Front) (y : Name) (e d : Global (Unit {0})) → Derives S (G ++ d ∷ []) [] (const d.name) d.type → (find y G ≡ Some e → Derives S (G ++ d ∷ []) [] (const y) e.type) → (find y G ≡ Some e) ⊎ ((y ≡ d.name) × (e ≡ d)) → Derives S (G ++ d ∷ []) [] (const y) e.type
const_in_longer G y e d last before (inl p) = before p
const_in_longer G y e d last before (inr p) = rw (p.0, p.1) last

-- Over a legal front each constant has its entry's type.
pub legal_const : {S : Specification} {G : Front} (y : Name) (e : Global (Unit {0})) → Legal S G → find y G ≡ Some e → Derives S G [] (const y) e.type
unfolding find
legal_const y e legal_empty p = absurd (cc p)
legal_const y e (legal_assumption x {G = G} {A = A} l f d) p =
    const_in_longer G y e (assumption x A) (global_start x d f) (λ q. global_weakening x (legal_const y e l q) d f) (find_split y G (assumption x A) e p)
legal_const y e (legal_definition x {G = G} {a = a} {A = A} l f d) p =
    const_in_longer G y e (definition x a A) (global_start_defined x d f) (λ q. global_weakening_defined x (legal_const y e l q) d f) (find_split y G (definition x a A) e p)

pub longer_has_entries : (G M : Front) → HasEntries G (G ++ M)
longer_has_entries G M x e p = find_before x G M e p

-- What has the entries of a front has those of its beginning.
pub has_beginning : (G M H : Front) → HasEntries (G ++ M) H → HasEntries G H
has_beginning G M H h x e p = h x e (longer_has_entries G M x e p)

-- What is derivable over a front is derivable over every legal front that has its entries.
pub thin_derives : {S : Specification} {G H : Front} {L : Locals} {t T : Bare} → Legal S H → HasEntries G H → Derives S G L t T → Derives S H L t T
thin_derives l h (axioms p) = legal_sort l p
thin_derives l h (global_start x {G = G} {A = A} d f) = legal_const x (assumption x A) l (h x (assumption x A) (find_last x G (assumption x A) f refl))
thin_derives l h (global_start_defined x {G = G} {a = a} {A = A} d f) = legal_const x (definition x a A) l (h x (definition x a A) (find_last x G (definition x a A) f refl))
thin_derives l h (global_weakening x {G = G} {A = A} b d f) = thin_derives l (has_beginning G (assumption x A ∷ []) _ h) b
thin_derives l h (global_weakening_defined x {G = G} {a = a} {A = A} b d f) = thin_derives l (has_beginning G (definition x a A ∷ []) _ h) b
thin_derives l h (local_start d) = local_start (thin_derives l h d)
thin_derives l h (local_start_defined d) = local_start_defined (thin_derives l h d)
thin_derives l h (local_weakening b d) = local_weakening (thin_derives l h b) (thin_derives l h d)
thin_derives l h (local_weakening_defined b d) = local_weakening_defined (thin_derives l h b) (thin_derives l h d)
thin_derives l h (product a b r) = product (thin_derives l h a) (thin_derives l h b) r
thin_derives l h (application f a) = application (thin_derives l h f) (thin_derives l h a)
thin_derives l h (abstraction b p) = abstraction (thin_derives l h b) (thin_derives l h p)
thin_derives l h (formation b) = formation (thin_derives l h b)
thin_derives l h (introduction b p) = introduction (thin_derives l h b) (thin_derives l h p)
thin_derives l h (conversion b c v) = conversion (thin_derives l h b) (thin_derives l h c) (thin_convertible h v)
