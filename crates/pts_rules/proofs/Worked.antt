-- Records that are computed: one that has each form and no fault, and some with their first fault.
use Rattle.std.proofs.Common.{ℕ, List, [], ◌∷◌, ◌≡◌, refl, true, Some, None}
use Rattle.pts_names.specs.Name.{Name}
use Rattle.pts_terms.specs.Tree.{Bare, sort, const, var, app, lam, pi, let_in}
use Rattle.pts_ctx.specs.System.{Specification, axiom_of, rule_of}
use Rattle.pts_ctx.specs.Front.{Front, find, assumption}
use Rattle.pts_record.specs.declared.shape.Form.{Form}
use Rattle.pts_record.specs.declared.shape.Form.TheVariants.{Empty, Assume, Define, Bare as BareForm, SortAt, ConstAt, VarAt, Thin, PiAt, LamAt, AppAt, LetSort, LetAt, Conv, Same, Left, Right, CongApp, CongLam, CongPi}
use Rattle.pts_record.specs.Said.{look, said_behind}
use Rattle.pts_rules.specs.declared.why.Why.TheVariants.{Kind, Place, Claim, NoRule}
use Rattle.pts_rules.specs.Step.{head_step}
use Rattle.pts_rules.specs.Conditions.{Plain}
use Rattle.pts_rules.specs.Valid.{first_fault_behind, concludes_as}

-- One axiom, * : #, and one rule, (*, *, *).
abbrev simple : Specification
simple = record { sorts = (42 ∷ []) ∷ (35 ∷ []) ∷ []; axioms = (0, 1) ∷ []; rules = (0, 0, 0) ∷ [] }

abbrev without_rules : Specification
without_rules = record { sorts = (42 ∷ []) ∷ (35 ∷ []) ∷ []; axioms = (0, 1) ∷ []; rules = [] }

abbrev name : Name
name = 65 ∷ []

abbrev front : Front
front = assumption name (sort 0) ∷ []

abbrev A : Bare
A = const name

abbrev star : Bare
star = sort 0

-- A local definition of the type A as a term, and as a type.
abbrev short : Bare
short = let_in A star (var 0)

abbrev short_type : Bare
short_type = let_in A star star

abbrev line : Form → ℕ → Bare → Bare → (first second third : ℕ) → Plain
line f c t u p q r = record { form = f; ctx = c; subject = t; claim = u; first = p; second = q; third = r }

abbrev lines : List Plain
lines =
    line Empty 0 star star 0 0 0
    ∷ line ConstAt 0 A star 0 0 0
    ∷ line Assume 0 star star 1 0 0
    ∷ line VarAt 2 (var 0) A 0 0 0
    ∷ line ConstAt 2 A star 0 0 0
    ∷ line PiAt 0 (pi A A) star 1 4 0
    ∷ line LamAt 0 (lam A (var 0)) (pi A A) 3 5 0
    ∷ line SortAt 0 star (sort 1) 0 0 0
    ∷ line Thin 2 (lam A (var 0)) (pi A A) 6 0 0
    ∷ line AppAt 2 (app (lam A (var 0)) (var 0)) A 8 3 0
    ∷ line Define 0 star star 1 0 0
    ∷ line VarAt 10 (var 0) star 0 0 0
    ∷ line LetSort 0 short star 11 0 0
    ∷ line SortAt 10 star (sort 1) 0 0 0
    ∷ line LetSort 0 short_type (sort 1) 13 0 0
    ∷ line LetAt 0 short short_type 11 14 0
    ∷ line Same 0 star star 0 0 0
    ∷ line Left 0 short_type star 16 0 0
    ∷ line Right 0 star short_type 16 0 0
    ∷ line BareForm 0 star star 0 0 0
    ∷ line Same 19 (var 0) (var 0) 0 0 0
    ∷ line CongApp 0 (app short_type star) (app star short_type) 17 18 0
    ∷ line CongLam 0 (lam short_type (var 0)) (lam star (var 0)) 17 20 0
    ∷ line CongPi 0 (pi short_type (var 0)) (pi star (var 0)) 17 20 0
    ∷ line Conv 0 short star 15 7 17
    ∷ []

faultless_lines : first_fault_behind simple front [] lines ≡ None
unfolding axiom_of rule_of find head_step
faultless_lines = refl

concluding_lines : concludes_as (look (said_behind [] lines) 24) (Some short) star ≡ true
concluding_lines = refl

no_rule : first_fault_behind without_rules front [] lines ≡ Some (5, NoRule)
unfolding axiom_of rule_of find head_step
no_rule = refl

-- A judgement stands in no context with a bare entry.
in_bare_context : first_fault_behind simple front [] (line Empty 0 star star 0 0 0 ∷ line BareForm 0 star star 0 0 0 ∷ line SortAt 1 star (sort 1) 0 0 0 ∷ []) ≡ Some (2, Kind 0)
in_bare_context = refl

-- A judgement is thinned to longer contexts alone, and by their difference.
to_shorter_context : first_fault_behind simple front [] (line Empty 0 star star 0 0 0 ∷ line ConstAt 0 A star 0 0 0 ∷ line Assume 0 star star 1 0 0 ∷ line VarAt 2 (var 0) A 0 0 0 ∷ line Thin 0 (var 0) A 3 0 0 ∷ []) ≡ Some (4, Place 1)
unfolding axiom_of find
to_shorter_context = refl

-- A context may be made again: it is another one.
in_equal_context : first_fault_behind simple front [] (line Empty 0 star star 0 0 0 ∷ line SortAt 0 star (sort 1) 0 0 0 ∷ line Empty 0 star star 0 0 0 ∷ line Thin 2 star (sort 1) 1 0 0 ∷ []) ≡ Some (3, Place 1)
unfolding axiom_of
in_equal_context = refl

wrong_type : first_fault_behind simple front [] (line Empty 0 star star 0 0 0 ∷ line SortAt 0 star star 0 0 0 ∷ []) ≡ Some (1, Claim)
unfolding axiom_of
wrong_type = refl
