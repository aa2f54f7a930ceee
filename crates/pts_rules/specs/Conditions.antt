-- The table of forms: the conditions of each, in order, with their faults.
use Rattle.std.specs.Prelude.{ℕ, suc, List, [], ◌∷◌, Bool, ◌&&◌, Option, Some, None, is_some, if◌then◌else◌}
use Rattle.std.specs.Option.{option_map, option_and_then}
use Rattle.pts_terms.specs.Tree.{sort, app, lam, pi, lift, subst, same_term}
use Rattle.pts_ctx.specs.System.{Specification, axiom_of, rule_of}
use Rattle.pts_ctx.specs.Front.{Front, find, entry_at}
use Rattle.pts_record.specs.declared.shape.Form.{Form}
use Rattle.pts_record.specs.declared.shape.Form.TheVariants.{Empty, Assume, Define, Bare as BareForm, SortAt, ConstAt, VarAt, Thin, PiAt, LamAt, AppAt, LetSort, LetAt, Conv, Same, Left, Right, CongApp, CongLam, CongPi}
use Rattle.pts_record.specs.Said.{Row, Said, scope_of, subject_of, claim_of}
use Rattle.pts_rules.specs.declared.why.Why.{Why}
use Rattle.pts_rules.specs.declared.why.Why.TheVariants.{Kind, Place, Subject, Claim, Premise, SortOf, NoAxiom, NoRule, NoEntry, NoStep}
use Rattle.pts_rules.specs.Step.{head_step}
use Rattle.pts_rules.specs.Parts.{sort_in, const_in, var_in, domain_in, codomain_in, is_that, is_typed_context, is_in, is_assume_of, is_bare_of, is_assume_in, is_define_in, over_assumption, over_definition, type_of, distance}
use Rattle.pts_record.specs.Said.{is_context, is_judgement, is_comparison}

-- A line without printed names, and what its links say.
abbrev pub Plain : Type 0
Plain = Row (Unit {0})

abbrev pub Link : Type 0
Link = Said (Unit {0})

-- The fault of the first test that fails.
abbrev pub first_failing : List (Bool × Why) → Option Why
first_failing [] = None
first_failing (t ∷ ts) = if t.0 then first_failing ts else Some t.1

-- The first fault, or else the second.
abbrev pub or_fault : Option Why → Option Why → Option Why
or_fault None w = w
or_fault (Some v) w = Some v

-- The kinds of a line's links, in order. c is what the link ctx says; p, q and r are what the premises say.
abbrev pub judgement_kinds : (c p q : Link) → List (Bool × Why)
judgement_kinds c p q = (is_typed_context c, Kind 0) ∷ (is_judgement p, Kind 1) ∷ (is_judgement q, Kind 2) ∷ []

abbrev pub comparison_kinds : (c p q : Link) → List (Bool × Why)
comparison_kinds c p q = (is_context c, Kind 0) ∷ (is_comparison p, Kind 1) ∷ (is_comparison q, Kind 2) ∷ []

-- `assume P`, `define P` and `bare C`
abbrev pub assume_conditions : (p : Link) → List (Bool × Why)
assume_conditions p = (is_judgement p, Kind 0) ∷ (is_some (sort_in (claim_of p)), SortOf 0) ∷ []

abbrev pub define_conditions : (p : Link) → List (Bool × Why)
define_conditions p = (is_judgement p, Kind 0) ∷ []

abbrev pub bare_conditions : (c : Link) → List (Bool × Why)
bare_conditions c = (is_context c, Kind 0) ∷ []

-- `sort C T U`
abbrev pub sort_conditions : Specification → Plain → (c : Link) → List (Bool × Why)
sort_conditions S l c =
    (is_typed_context c, Kind 0)
    ∷ (is_some (sort_in l.subject), Subject)
    ∷ (is_some (option_and_then (axiom_of S) (sort_in l.subject)), NoAxiom)
    ∷ (is_that l.claim (option_map sort (option_and_then (axiom_of S) (sort_in l.subject))), Claim)
    ∷ []

-- `const C T U`
abbrev pub const_conditions : Front → Plain → (c : Link) → List (Bool × Why)
const_conditions G l c =
    (is_typed_context c, Kind 0)
    ∷ (is_some (const_in l.subject), Subject)
    ∷ (is_some (option_and_then (λ x. find x G) (const_in l.subject)), NoEntry)
    ∷ (is_that l.claim (option_map (λ e. e.type) (option_and_then (λ x. find x G) (const_in l.subject))), Claim)
    ∷ []

-- `var C T U`: U is the entry's type, after the entry itself and those after it
abbrev pub var_conditions : Plain → (c : Link) → List (Bool × Why)
var_conditions l c =
    (is_typed_context c, Kind 0)
    ∷ (is_some (var_in l.subject), Subject)
    ∷ (is_some (option_and_then (entry_at (scope_of c).entries) (var_in l.subject)), NoEntry)
    ∷ (is_that l.claim (option_and_then (λ i. option_map (lift 0 (suc i)) (option_and_then type_of (entry_at (scope_of c).entries i))) (var_in l.subject)), Claim)
    ∷ []

-- `thin C T U P`
abbrev pub thin_conditions : Plain → (c p : Link) → List (Bool × Why)
thin_conditions l c p =
    (is_typed_context c, Kind 0)
    ∷ (is_judgement p, Kind 1)
    ∷ (is_some (distance c p), Place 1)
    ∷ (is_that l.subject (option_map (λ n. lift 0 n (subject_of p)) (distance c p)), Subject)
    ∷ (is_that l.claim (option_map (λ n. lift 0 n (claim_of p)) (distance c p)), Claim)
    ∷ []

-- `pi C T U P Q`
abbrev pub pi_places : Plain → (p q : Link) → List (Bool × Why)
pi_places l p q = (is_in l.ctx p, Place 1) ∷ (is_assume_of l.first (scope_of q).made, Place 2) ∷ []

abbrev pub product_sort : Specification → (p q : Link) → Option ℕ
product_sort S p q = option_and_then (λ s. option_and_then (rule_of S s) (sort_in (claim_of q))) (sort_in (claim_of p))

abbrev pub pi_terms : Specification → Plain → (p q : Link) → List (Bool × Why)
pi_terms S l p q =
    (same_term l.subject (pi (subject_of p) (subject_of q)), Subject)
    ∷ (is_some (sort_in (claim_of p)), SortOf 1)
    ∷ (is_some (sort_in (claim_of q)), SortOf 2)
    ∷ (is_some (product_sort S p q), NoRule)
    ∷ (is_that l.claim (option_map sort (product_sort S p q)), Claim)
    ∷ []

-- `lam C T U P Q`
abbrev pub lam_places : Plain → (p q : Link) → List (Bool × Why)
lam_places l p q = (is_assume_in l.ctx (scope_of p).made, Place 1) ∷ (is_in l.ctx q, Place 2) ∷ []

abbrev pub lam_terms : Plain → (p q : Link) → List (Bool × Why)
lam_terms l p q =
    (is_that l.subject (over_assumption (λ A t. lam A t) p (subject_of p)), Subject)
    ∷ (is_that l.claim (over_assumption (λ A t. pi A t) p (claim_of p)), Claim)
    ∷ (same_term (subject_of q) l.claim, Premise 2)
    ∷ (is_some (sort_in (claim_of q)), SortOf 2)
    ∷ []

-- `app C T U P Q`
abbrev pub both_places : Plain → (p q : Link) → List (Bool × Why)
both_places l p q = (is_in l.ctx p, Place 1) ∷ (is_in l.ctx q, Place 2) ∷ []

abbrev pub app_terms : Plain → (p q : Link) → List (Bool × Why)
app_terms l p q =
    (is_some (domain_in (claim_of p)), Premise 1)
    ∷ (is_that (claim_of q) (domain_in (claim_of p)), Premise 2)
    ∷ (same_term l.subject (app (subject_of p) (subject_of q)), Subject)
    ∷ (is_that l.claim (option_map (subst 0 (subject_of q)) (codomain_in (claim_of p))), Claim)
    ∷ []

-- `letsort C T U P`
abbrev pub let_kinds : (c p : Link) → List (Bool × Why)
let_kinds c p = (is_typed_context c, Kind 0) ∷ (is_judgement p, Kind 1) ∷ []

abbrev pub letsort_terms : Plain → (p : Link) → List (Bool × Why)
letsort_terms l p =
    (is_define_in l.ctx (scope_of p).made, Place 1)
    ∷ (is_that l.subject (over_definition p (subject_of p)), Subject)
    ∷ (is_some (sort_in (claim_of p)), SortOf 1)
    ∷ (same_term l.claim (claim_of p), Claim)
    ∷ []

-- `let C T U P Q`
abbrev pub let_places : Plain → (p q : Link) → List (Bool × Why)
let_places l p q = (is_define_in l.ctx (scope_of p).made, Place 1) ∷ (is_in l.ctx q, Place 2) ∷ []

abbrev pub let_terms : Plain → (p q : Link) → List (Bool × Why)
let_terms l p q =
    (is_that l.subject (over_definition p (subject_of p)), Subject)
    ∷ (is_that l.claim (over_definition p (claim_of p)), Claim)
    ∷ (same_term (subject_of q) l.claim, Premise 2)
    ∷ (is_some (sort_in (claim_of q)), SortOf 2)
    ∷ []

-- `conv C T U P Q R`
abbrev pub conv_places : Plain → (p q r : Link) → List (Bool × Why)
conv_places l p q r = (is_comparison r, Kind 3) ∷ (is_in l.ctx p, Place 1) ∷ (is_in l.ctx q, Place 2) ∷ (is_in l.ctx r, Place 3) ∷ []

abbrev pub conv_terms : Plain → (p q r : Link) → List (Bool × Why)
conv_terms l p q r =
    (same_term l.subject (subject_of p), Subject)
    ∷ (same_term l.claim (subject_of q), Claim)
    ∷ (is_some (sort_in (claim_of q)), SortOf 2)
    ∷ (same_term (subject_of r) (claim_of p) && same_term (claim_of r) l.claim, Premise 3)
    ∷ []

-- `same C T U`, `left C T U P` and `right C T U P`
abbrev pub same_conditions : Plain → (c : Link) → List (Bool × Why)
same_conditions l c = (is_context c, Kind 0) ∷ (same_term l.subject l.claim, Claim) ∷ []

abbrev pub left_conditions : Front → Plain → (c p : Link) → List (Bool × Why)
left_conditions G l c p =
    (is_context c, Kind 0)
    ∷ (is_comparison p, Kind 1)
    ∷ (is_in l.ctx p, Place 1)
    ∷ (same_term (claim_of p) l.claim, Claim)
    ∷ (is_that (subject_of p) (head_step G (scope_of c).entries l.subject), NoStep)
    ∷ []

abbrev pub right_conditions : Front → Plain → (c p : Link) → List (Bool × Why)
right_conditions G l c p =
    (is_context c, Kind 0)
    ∷ (is_comparison p, Kind 1)
    ∷ (is_in l.ctx p, Place 1)
    ∷ (same_term (subject_of p) l.subject, Subject)
    ∷ (is_that (claim_of p) (head_step G (scope_of c).entries l.claim), NoStep)
    ∷ []

-- `capp C T U P Q`
abbrev pub capp_terms : Plain → (p q : Link) → List (Bool × Why)
capp_terms l p q =
    (same_term l.subject (app (subject_of p) (subject_of q)), Subject)
    ∷ (same_term l.claim (app (claim_of p) (claim_of q)), Claim)
    ∷ []

-- `clam C T U P Q` and `cpi C T U P Q`
abbrev pub binder_places : Plain → (p q : Link) → List (Bool × Why)
binder_places l p q = (is_in l.ctx p, Place 1) ∷ (is_bare_of l.ctx (scope_of q).made, Place 2) ∷ []

abbrev pub clam_terms : Plain → (p q : Link) → List (Bool × Why)
clam_terms l p q =
    (same_term l.subject (lam (subject_of p) (subject_of q)), Subject)
    ∷ (same_term l.claim (lam (claim_of p) (claim_of q)), Claim)
    ∷ []

abbrev pub cpi_terms : Plain → (p q : Link) → List (Bool × Why)
cpi_terms l p q =
    (same_term l.subject (pi (subject_of p) (subject_of q)), Subject)
    ∷ (same_term l.claim (pi (claim_of p) (claim_of q)), Claim)
    ∷ []

abbrev pub in_order : (kinds places terms : List (Bool × Why)) → Option Why
in_order kinds places terms = or_fault (first_failing kinds) (or_fault (first_failing places) (first_failing terms))

-- The first condition of a line's form that the line breaks.
abbrev pub form_fault : Specification → Front → Form → Plain → (c p q r : Link) → Option Why
form_fault S G Empty l c p q r = None
form_fault S G Assume l c p q r = first_failing (assume_conditions p)
form_fault S G Define l c p q r = first_failing (define_conditions p)
form_fault S G BareForm l c p q r = first_failing (bare_conditions c)
form_fault S G SortAt l c p q r = first_failing (sort_conditions S l c)
form_fault S G ConstAt l c p q r = first_failing (const_conditions G l c)
form_fault S G VarAt l c p q r = first_failing (var_conditions l c)
form_fault S G Thin l c p q r = first_failing (thin_conditions l c p)
form_fault S G PiAt l c p q r = in_order (judgement_kinds c p q) (pi_places l p q) (pi_terms S l p q)
form_fault S G LamAt l c p q r = in_order (judgement_kinds c p q) (lam_places l p q) (lam_terms l p q)
form_fault S G AppAt l c p q r = in_order (judgement_kinds c p q) (both_places l p q) (app_terms l p q)
form_fault S G LetSort l c p q r = or_fault (first_failing (let_kinds c p)) (first_failing (letsort_terms l p))
form_fault S G LetAt l c p q r = in_order (judgement_kinds c p q) (let_places l p q) (let_terms l p q)
form_fault S G Conv l c p q r = in_order (judgement_kinds c p q) (conv_places l p q r) (conv_terms l p q r)
form_fault S G Same l c p q r = first_failing (same_conditions l c)
form_fault S G Left l c p q r = first_failing (left_conditions G l c p)
form_fault S G Right l c p q r = first_failing (right_conditions G l c p)
form_fault S G CongApp l c p q r = in_order (comparison_kinds c p q) (both_places l p q) (capp_terms l p q)
form_fault S G CongLam l c p q r = in_order (comparison_kinds c p q) (binder_places l p q) (clam_terms l p q)
form_fault S G CongPi l c p q r = in_order (comparison_kinds c p q) (binder_places l p q) (cpi_terms l p q)
