-- Weakening by local entries, and the judgements of sorts, constants and variables in a well-formed local context.
use Rattle.std.proofs.Common.{ℕ, suc, zero, [], ◌∷◌, ◌++◌, length, ◌≡◌, ◌<◌, refl, ap, arith, ◌∙◌, Some, append-nil}
use Rattle.pts_names.specs.Name.{Name}
use Rattle.pts_terms.specs.Tree.{Bare, sort, const, var, lift}
use Rattle.pts_terms.proofs.Lifting.{lift_zero, lift_once_more, lift_index_above}
use Rattle.pts_terms.proofs.Free.{lift_past}
use Rattle.pts_ctx.specs.System.{Specification, axiom_of}
use Rattle.pts_ctx.specs.Front.{Global, Front, find, Local, assumed, defined, unknown, Locals, entry_at}
use Rattle.pts_rules.specs.Derives.{Derives, local_start, local_start_defined, local_weakening, local_weakening_defined, Legal}
use Rattle.pts_ctx.proofs.Find.{some_same}
use Rattle.pts_rules.specs.Parts.{type_of}
use Rattle.pts_rules.specs.WellFormed.{WellFormed, no_entries, and_assumed, and_defined}
use Rattle.pts_rules.proofs.Moved.{moved, moved_in}
use Rattle.pts_rules.proofs.Thinning.{legal_sort, legal_const}
use Rattle.pts_rules.proofs.Scoped.{derives_scoped}

pub weaken_one : {S : Specification} {G : Front} (e : Local (Unit {0})) {L : Locals} {t T : Bare} → WellFormed S G (e ∷ L) → Derives S G L t T → Derives S G (e ∷ L) (lift 0 1 t) (lift 0 1 T)
weaken_one (assumed A) (and_assumed w d) j = local_weakening j d
weaken_one (defined a A) (and_defined w d) j = local_weakening_defined j d
weaken_one unknown w j = elim w [ ]

-- The rest of a well-formed local context is well formed.
pub rest_formed : {S : Specification} {G : Front} (e : Local (Unit {0})) {L : Locals} → WellFormed S G (e ∷ L) → WellFormed S G L
rest_formed (assumed A) (and_assumed w d) = w
rest_formed (defined a A) (and_defined w d) = w
rest_formed unknown w = elim w [ ]

pub weaken_by : {S : Specification} {G : Front} (M L : Locals) {t T : Bare} → WellFormed S G (M ++ L) → Derives S G L t T → Derives S G (M ++ L) (lift 0 (length M) t) (lift 0 (length M) T)
weaken_by [] L {t} {T} w d = rw (lift_zero 0 t, lift_zero 0 T) d
weaken_by (e ∷ M) L {t} {T} w d =
    moved (lift_once_more (length M) t) (lift_once_more (length M) T) (weaken_one e w (weaken_by M L (rest_formed e w) d))

-- What is derivable in the empty local context is derivable in every well-formed one.
pub weaken_closed : {S : Specification} {G : Front} {L : Locals} {t T : Bare} → WellFormed S G L → Derives S G [] t T → Derives S G L t T
weaken_closed {S} {G} {L} {t} {T} w d =
    let (p, q, r) = derives_scoped d in
    moved_in (append-nil L) (lift_past 0 0 (length L) t (omega arith) p) (lift_past 0 0 (length L) T (omega arith) q) (weaken_by L [] (rw (append-nil L) w) d)

pub sort_derives : {S : Specification} {G : Front} {L : Locals} {s r : ℕ} → Legal S G → WellFormed S G L → axiom_of S s ≡ Some r → Derives S G L (sort s) (sort r)
sort_derives l w p = weaken_closed w (legal_sort l p)

pub const_derives : {S : Specification} {G : Front} {L : Locals} (x : Name) (e : Global (Unit {0})) → Legal S G → WellFormed S G L → find x G ≡ Some e → Derives S G L (const x) e.type
const_derives x e l w p = weaken_closed w (legal_const x e l p)

pub var_up : (i : ℕ) → lift {B = Unit {0}} 0 1 (var i) ≡ var (suc i)
var_up i = ap var (lift_index_above 0 1 i (omega arith) ∙ omega arith)

pub assumed_derives : {S : Specification} {G : Front} {L : Locals} (i : ℕ) (A : Bare) → WellFormed S G L → entry_at L i ≡ Some (assumed A) → Derives S G L (var i) (lift 0 (suc i) A)
assumed_derives i B no_entries p = absurd (cc p)
assumed_derives zero B (and_assumed w d) p = moved refl (ap (lift 0 1) (cc p)) (local_start d)
assumed_derives zero B (and_defined w d) p = absurd (cc p)
assumed_derives (suc i) B (and_assumed w d) p = moved (var_up i) (lift_once_more (suc i) B) (local_weakening (assumed_derives i B w p) d)
assumed_derives (suc i) B (and_defined w d) p = moved (var_up i) (lift_once_more (suc i) B) (local_weakening_defined (assumed_derives i B w p) d)

pub defined_derives : {S : Specification} {G : Front} {L : Locals} (i : ℕ) (a A : Bare) → WellFormed S G L → entry_at L i ≡ Some (defined a A) → Derives S G L (var i) (lift 0 (suc i) A)
defined_derives i b B no_entries p = absurd (cc p)
defined_derives zero b B (and_assumed w d) p = absurd (cc p)
defined_derives zero b B (and_defined w d) p = moved refl (ap (lift 0 1) (cc p)) (local_start_defined d)
defined_derives (suc i) b B (and_assumed w d) p = moved (var_up i) (lift_once_more (suc i) B) (local_weakening (defined_derives i b B w p) d)
defined_derives (suc i) b B (and_defined w d) p = moved (var_up i) (lift_once_more (suc i) B) (local_weakening_defined (defined_derives i b B w p) d)

pub typed_derives : {S : Specification} {G : Front} {L : Locals} (i : ℕ) (e : Local (Unit {0})) (A : Bare) → WellFormed S G L → entry_at L i ≡ Some e → type_of e ≡ Some A → Derives S G L (var i) (lift 0 (suc i) A)
typed_derives i (assumed B) A w p q = assumed_derives i A w (p ∙ ap (λ C. Some (assumed C)) (some_same q))
typed_derives i (defined b B) A w p q = defined_derives i b A w (p ∙ ap (λ C. Some (defined b C)) (some_same q))
typed_derives i unknown A w p q = absurd (cc q)

pub no_unknown : {S : Specification} {G : Front} {L : Locals} (i : ℕ) → WellFormed S G L → entry_at L i ≡ Some unknown → ⊥
no_unknown i no_entries p = cc p
no_unknown zero (and_assumed w d) p = cc p
no_unknown zero (and_defined w d) p = cc p
no_unknown (suc i) (and_assumed w d) p = no_unknown i w p
no_unknown (suc i) (and_defined w d) p = no_unknown i w p

pub entry_within : (L : Locals) (i : ℕ) → i < length L → (e : Local (Unit {0})) × (entry_at L i ≡ Some e)
entry_within [] i h = absurd (omega arith)
entry_within (e ∷ L) zero h = (e, refl)
entry_within (e ∷ L) (suc i) h = entry_within L i (omega arith)
