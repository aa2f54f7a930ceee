use Rattle.std.proofs.Common.{refl, sym, ap, ◌∙◌, subst, arith, IfOk}
use Rattle.pts_terms.specs.Tree.{sort, named_pi}
use Rattle.pts_ctx.specs.System.{rule_of}
use Rattle.pts_record.specs.Table.{named_at, named_trees, unfold_shape, the_name}
use Rattle.pts_rules.specs.Meter.{left}
use Rattle.pts_infer_cost.specs.Typing.{here, no_rule, of_argument, unsorted, not_product}
use Rattle.pts_infer_cost.proofs.ByParts.{product_is, application_is, abstraction_is, local_definition_is, turned_ends, sorted_is}
use Rattle.pts_infer_cost.proofs.Ends.{product_unruled, abstraction_ruled, abstraction_unruled}
use Rattle.pts_infer_cost.proofs.Steps.{inferred_unpaid, inferred_too_deep, inferred_by_form, typed_sort, typed_constant, typed_variable, typed_application, typed_product, typed_abstraction, typed_definition, sort_for_definition}
use Rattle.pts_infer_cost.proofs.Tests.{product_at_once, fitted_unpaid, fitted_equal}
use Rattle.pts_grow.proofs.Grow.{tree_stays}
use Rattle.pts_infer.specs.Given.{ToldAs, ToldOf}
use Rattle.pts_infer.specs.Works.{IsJudged, IsSorted}
use Rattle.pts_infer.proofs.Working.{grown_trans, compared_itself, sorted_by, fitted_want, no_step, place_later, term_later, made_later, let_later, judged_later, sorted_later, function_later, fitted_later, compared_later, assumption_later, definition_later, going_on, judged_itself, sorted_itself, function_itself, fitted_itself, fitted_judged, fitted_by, assumption_itself, definition_itself, made_by, let_by, judged_at, formed_by}
use Rattle.pts_infer.proofs.Running.{shown_turned, fit_turned, wanted_turned, stops, goes_on, refuses, comes_to, claims, fit_stops, fit_hands, fit_ends}
use Rattle.pts_infer.proofs.ByRule.{product_at_body, product_at_rule, product_gives, application_at_function, application_at_argument, application_at_fit, application_at_end, abstraction_at_body, abstraction_at_type, abstraction_at_rule, definition_at_fit, definition_at_body, definition_at_type, closing_at_sort, closing_at_end}
use Rattle.pts_infer.proofs.Testing.{is_sort, product_there, sorting_at_test, type_unformed, type_no_product, type_at_form, product_kept, function_new, found_equal, types_same, fit_at_once, fit_at_wanted, fit_at_test}
use Rattle.pts_infer.proofs.work.Work.+inferring.Goals as goal

pub infer_product-returns-in_err-domain-clause-runs : goal.infer_product-returns-in_err-domain-clause-runs
infer_product-returns-in_err-domain-clause-runs t c =
    stops _ c.from_residual.ensures (product_is _ _ _ _ _ _ _ _) c.in_err-domain.ensures.runs

pub infer_product-returns-in_err-body-clause-runs : goal.infer_product-returns-in_err-body-clause-runs
infer_product-returns-in_err-body-clause-runs t c =
    let d = c.in_ok-domain.ensures in
    let i = c.in_ok-over.ensures in
    let e = product_at_body c.args.term.now.name d.grown i.grown i.meter c.requires.at c.requires.term d.sorted i.over d.runs in
    stops _ c.from_residual-in_err-body.ensures e c.in_err-body.ensures.runs

pub infer_product-returns-in_err-body-clause-grown : goal.infer_product-returns-in_err-body-clause-grown
infer_product-returns-in_err-body-clause-grown t c = search going_on

pub infer_product-returns-in_err-sort-clause-runs : goal.infer_product-returns-in_err-sort-clause-runs
infer_product-returns-in_err-sort-clause-runs t c =
    let d = c.in_ok-domain.ensures in
    let i = c.in_ok-over.ensures in
    let b = c.in_ok-body.ensures in
    let p = c.in_err-sort.ensures in
    let g = grown_trans (grown_trans d.grown i.grown) b.grown in
    let e = product_at_rule d.sorted g b.runs (product_at_body c.args.term.now.name d.grown i.grown i.meter c.requires.at c.requires.term d.sorted i.over d.runs) in
    refuses _ _ c.from_residual-in_err-sort.ensures (e ∙ product_unruled _ _ _ _ p.unruled) (p.flaw _)

pub infer_product-returns-in_err-sort-clause-grown : goal.infer_product-returns-in_err-sort-clause-grown
infer_product-returns-in_err-sort-clause-grown t c = search going_on

pub infer_product-judge_product-requires-clause-term : goal.infer_product-judge_product-requires-clause-term
infer_product-judge_product-requires-clause-term t c =
    let d = c.in_ok-domain.ensures in
    let i = c.in_ok-over.ensures in
    let b = c.in_ok-body.ensures in
    made_by (ap (λ s. s.judged.subject) i.over.domain ∙ d.sorted.judged.subject) b.sorted.judged.subject (made_later b.grown (made_later i.grown (made_later d.grown c.requires.term)))

pub infer_product-judge_product-requires-clause-over : goal.infer_product-judge_product-requires-clause-over
infer_product-judge_product-requires-clause-over t c =
    assumption_itself (assumption_later c.in_ok-body.ensures.grown c.in_ok-over.ensures.over)

pub infer_product-judge_product-requires-clause-rule : goal.infer_product-judge_product-requires-clause-rule
infer_product-judge_product-requires-clause-rule t c =
    let e = c.in_ok-over.ensures.over.domain in
    rw e c.in_ok-sort.ensures.ruled

pub infer_product-returns-in_err-product-clause-grown : goal.infer_product-returns-in_err-product-clause-grown
infer_product-returns-in_err-product-clause-grown t c = search going_on

pub infer_product-returns-clause-grown : goal.infer_product-returns-clause-grown
infer_product-returns-clause-grown t c = search going_on

pub infer_product-returns-clause-formed : goal.infer_product-returns-clause-formed
infer_product-returns-clause-formed t c =
    let d = c.in_ok-domain.ensures in
    let i = c.in_ok-over.ensures in
    let b = c.in_ok-body.ensures in
    let j = c.in_ok-product.ensures in
    let m = made_later j.grown (made_later b.grown (made_later i.grown (made_later d.grown c.requires.term))) in
    formed_by d.sorted.judged.subject b.sorted.judged.subject (assumption_later j.grown (assumption_later b.grown i.over)) j.sorted (sorted_itself (sorted_later j.grown b.sorted)) m j.node

pub infer_product-returns-clause-runs : goal.infer_product-returns-clause-runs
infer_product-returns-clause-runs t c =
    let d = c.in_ok-domain.ensures in
    let i = c.in_ok-over.ensures in
    let b = c.in_ok-body.ensures in
    let j = c.in_ok-product.ensures in
    let g = grown_trans (grown_trans d.grown i.grown) b.grown in
    let e = product_at_rule d.sorted g b.runs (product_at_body c.args.term.now.name d.grown i.grown i.meter c.requires.at c.requires.term d.sorted i.over d.runs) in
    product_gives _ _ _ j.grown e c.in_ok-sort.ensures.ruled j.meter (j.sorted.sort ∙ ap (λ r. sort r.0) j.sort)

pub infer_application-returns-in_err-judged-clause-runs : goal.infer_application-returns-in_err-judged-clause-runs
infer_application-returns-in_err-judged-clause-runs t c =
    stops _ c.from_residual.ensures (application_is _ _ _ _ _ _ _) c.in_err-judged.ensures.runs

pub infer_application-returns-in_err-function-clause-runs : goal.infer_application-returns-in_err-function-clause-runs
infer_application-returns-in_err-function-clause-runs t c =
    let j = c.in_ok-judged.ensures in
    let e = application_at_function j.grown c.requires.at c.requires.term j.runs in
    stops _ c.from_residual-in_err-function.ensures e c.in_err-function.ensures.runs

pub infer_application-returns-in_err-own-clause-runs : goal.infer_application-returns-in_err-own-clause-runs
infer_application-returns-in_err-own-clause-runs t c =
    let j = c.in_ok-judged.ensures in
    let f = c.in_ok-function.ensures in
    let e = application_at_argument f.grown (place_later j.grown c.requires.at) (made_later j.grown c.requires.term) f.runs (application_at_function j.grown c.requires.at c.requires.term j.runs) in
    stops _ c.from_residual-in_err-own.ensures e c.in_err-own.ensures.runs

pub infer_application-returns-in_err-argument-clause-runs : goal.infer_application-returns-in_err-argument-clause-runs
infer_application-returns-in_err-argument-clause-runs t c =
    let j = c.in_ok-judged.ensures in
    let f = c.in_ok-function.ensures in
    let o = c.in_ok-own.ensures in
    let e = application_at_argument f.grown (place_later j.grown c.requires.at) (made_later j.grown c.requires.term) f.runs (application_at_function j.grown c.requires.at c.requires.term j.runs) in
    let s = place_later f.grown (place_later j.grown c.requires.at) in
    let m = made_later f.grown (made_later j.grown c.requires.term) in
    stops _ c.from_residual-in_err-argument.ensures (application_at_fit o.grown s m f.function o.runs e) c.in_err-argument.ensures.runs

pub infer_application-returns-in_err-argument-clause-grown : goal.infer_application-returns-in_err-argument-clause-grown
infer_application-returns-in_err-argument-clause-grown t c = search going_on

pub infer_application-judge_application-requires-clause-term : goal.infer_application-judge_application-requires-clause-term
infer_application-judge_application-requires-clause-term t c =
    let j = c.in_ok-judged.ensures in
    let f = c.in_ok-function.ensures in
    let o = c.in_ok-own.ensures in
    let a = c.in_ok-argument.ensures in
    made_by (f.function.judged.subject ∙ j.judged.subject) (a.fitted.judged.subject ∙ o.judged.subject) (made_later a.grown (made_later o.grown (made_later f.grown (made_later j.grown c.requires.term))))

pub infer_application-judge_application-requires-clause-function : goal.infer_application-judge_application-requires-clause-function
infer_application-judge_application-requires-clause-function t c =
    function_itself (function_later c.in_ok-argument.ensures.grown (function_later c.in_ok-own.ensures.grown c.in_ok-function.ensures.function))

pub infer_application-returns-clause-runs : goal.infer_application-returns-clause-runs
infer_application-returns-clause-runs t c =
    let j = c.in_ok-judged.ensures in
    let f = c.in_ok-function.ensures in
    let o = c.in_ok-own.ensures in
    let a = c.in_ok-argument.ensures in
    let e = application_at_argument f.grown (place_later j.grown c.requires.at) (made_later j.grown c.requires.term) f.runs (application_at_function j.grown c.requires.at c.requires.term j.runs) in
    let s = place_later f.grown (place_later j.grown c.requires.at) in
    let m = made_later f.grown (made_later j.grown c.requires.term) in
    let x = application_at_fit o.grown s m f.function o.runs e in
    comes_to (application_at_end a.grown (made_later o.grown m) (function_later o.grown f.function) (a.fitted.judged.subject ∙ o.judged.subject) a.runs x) c.judge_application.ensures.runs

pub infer_application-returns-clause-grown : goal.infer_application-returns-clause-grown
infer_application-returns-clause-grown t c = search going_on

pub infer_abstraction-returns-in_err-domain-clause-runs : goal.infer_abstraction-returns-in_err-domain-clause-runs
infer_abstraction-returns-in_err-domain-clause-runs t c =
    stops _ c.from_residual.ensures (abstraction_is _ _ _ _ _ _ _ _) c.in_err-domain.ensures.runs

pub infer_abstraction-returns-in_err-body-clause-runs : goal.infer_abstraction-returns-in_err-body-clause-runs
infer_abstraction-returns-in_err-body-clause-runs t c =
    let d = c.in_ok-domain.ensures in
    let i = c.in_ok-over.ensures in
    let e = abstraction_at_body c.args.term.now.name d.grown i.grown i.meter c.requires.at c.requires.term d.sorted i.over d.runs in
    stops _ c.from_residual-in_err-body.ensures e c.in_err-body.ensures.runs

pub infer_abstraction-returns-in_err-body-clause-grown : goal.infer_abstraction-returns-in_err-body-clause-grown
infer_abstraction-returns-in_err-body-clause-grown t c = search going_on

pub infer_abstraction-returns-in_err-sorted-clause-runs : goal.infer_abstraction-returns-in_err-sorted-clause-runs
infer_abstraction-returns-in_err-sorted-clause-runs t c =
    let d = c.in_ok-domain.ensures in
    let i = c.in_ok-over.ensures in
    let b = c.in_ok-body.ensures in
    let g = grown_trans (grown_trans d.grown i.grown) b.grown in
    let e = abstraction_at_body c.args.term.now.name d.grown i.grown i.meter c.requires.at c.requires.term d.sorted i.over d.runs in
    let f = abstraction_at_type c.args.term.now.name g c.requires.at c.requires.term d.sorted.judged.subject (assumption_later b.grown i.over) b.runs e in
    stops _ c.from_residual-in_err-sorted.ensures f c.in_err-sorted.ensures.runs

pub infer_abstraction-returns-in_err-sorted-clause-grown : goal.infer_abstraction-returns-in_err-sorted-clause-grown
infer_abstraction-returns-in_err-sorted-clause-grown t c = search going_on

pub infer_abstraction-returns-in_err-product-clause-runs : goal.infer_abstraction-returns-in_err-product-clause-runs
infer_abstraction-returns-in_err-product-clause-runs t c =
    let d = c.in_ok-domain.ensures in
    let i = c.in_ok-over.ensures in
    let b = c.in_ok-body.ensures in
    let s = c.in_ok-sorted.ensures in
    let p = c.in_err-product.ensures in
    let g = grown_trans (grown_trans d.grown i.grown) b.grown in
    let o = assumption_later b.grown i.over in
    let e = abstraction_at_body c.args.term.now.name d.grown i.grown i.meter c.requires.at c.requires.term d.sorted i.over d.runs in
    let f = abstraction_at_type c.args.term.now.name g c.requires.at c.requires.term d.sorted.judged.subject o b.runs e in
    let r = abstraction_at_rule c.args.term.now.name g s.grown c.requires.term d.sorted.judged.subject o b.judged s.runs f in
    refuses _ _ c.from_residual-in_err-product.ensures (r ∙ abstraction_unruled _ _ _ (named_pi c.args.term.now.name (named_at c.sorted_type.new.self.proof.now.shapes c.in_ok-over.over.domain.judged.subject) (named_at c.sorted_type.new.self.proof.now.shapes c.in_ok-body.body.claim)) _ p.unruled) (p.flaw _)

pub infer_abstraction-returns-in_err-product-clause-grown : goal.infer_abstraction-returns-in_err-product-clause-grown
infer_abstraction-returns-in_err-product-clause-grown t c = search going_on

pub infer_abstraction-judge_abstraction-requires-clause-term : goal.infer_abstraction-judge_abstraction-requires-clause-term
infer_abstraction-judge_abstraction-requires-clause-term t c =
    let d = c.in_ok-domain.ensures in
    let i = c.in_ok-over.ensures in
    let b = c.in_ok-body.ensures in
    let s = c.in_ok-sorted.ensures in
    made_by (ap (λ s. s.judged.subject) i.over.domain ∙ d.sorted.judged.subject) b.judged.subject (made_later s.grown (made_later b.grown (made_later i.grown (made_later d.grown c.requires.term))))

pub infer_abstraction-judge_abstraction-requires-clause-over : goal.infer_abstraction-judge_abstraction-requires-clause-over
infer_abstraction-judge_abstraction-requires-clause-over t c =
    assumption_itself (assumption_later c.in_ok-sorted.ensures.grown (assumption_later c.in_ok-body.ensures.grown c.in_ok-over.ensures.over))

pub infer_abstraction-judge_abstraction-requires-clause-body : goal.infer_abstraction-judge_abstraction-requires-clause-body
infer_abstraction-judge_abstraction-requires-clause-body t c =
    judged_itself (judged_later c.in_ok-sorted.ensures.grown c.in_ok-body.ensures.judged)

pub infer_abstraction-judge_abstraction-requires-clause-rule : goal.infer_abstraction-judge_abstraction-requires-clause-rule
infer_abstraction-judge_abstraction-requires-clause-rule t c =
    let e = c.in_ok-over.ensures.over.domain in
    rw e c.in_ok-product.ensures.ruled

pub infer_abstraction-returns-clause-runs : goal.infer_abstraction-returns-clause-runs
infer_abstraction-returns-clause-runs t c =
    let d = c.in_ok-domain.ensures in
    let i = c.in_ok-over.ensures in
    let b = c.in_ok-body.ensures in
    let s = c.in_ok-sorted.ensures in
    let g = grown_trans (grown_trans d.grown i.grown) b.grown in
    let o = assumption_later b.grown i.over in
    let e = abstraction_at_body c.args.term.now.name d.grown i.grown i.meter c.requires.at c.requires.term d.sorted i.over d.runs in
    let f = abstraction_at_type c.args.term.now.name g c.requires.at c.requires.term d.sorted.judged.subject o b.runs e in
    let r = abstraction_at_rule c.args.term.now.name g s.grown c.requires.term d.sorted.judged.subject o b.judged s.runs f in
    comes_to (r ∙ abstraction_ruled _ _ _ (left c.sorted_type.new.self.meter.now) (named_pi c.args.term.now.name (named_at c.sorted_type.new.self.proof.now.shapes c.in_ok-over.over.domain.judged.subject) (named_at c.sorted_type.new.self.proof.now.shapes c.in_ok-body.body.claim)) _ c.in_ok-product.ensures.ruled) c.judge_abstraction.ensures.runs

pub infer_abstraction-returns-clause-grown : goal.infer_abstraction-returns-clause-grown
infer_abstraction-returns-clause-grown t c = search going_on

pub infer_definition-returns-in_err-own-clause-runs : goal.infer_definition-returns-in_err-own-clause-runs
infer_definition-returns-in_err-own-clause-runs t c =
    stops _ c.from_residual.ensures (local_definition_is _ _ _ _ _ _ _ _ _) c.in_err-own.ensures.runs

pub infer_definition-returns-in_err-value-clause-runs : goal.infer_definition-returns-in_err-value-clause-runs
infer_definition-returns-in_err-value-clause-runs t c =
    let o = c.in_ok-own.ensures in
    stops _ c.from_residual-in_err-value.ensures (definition_at_fit c.args.term.now.name o.grown c.requires.at c.requires.term o.runs) c.in_err-value.ensures.runs

pub infer_definition-returns-in_err-body-clause-runs : goal.infer_definition-returns-in_err-body-clause-runs
infer_definition-returns-in_err-body-clause-runs t c =
    let o = c.in_ok-own.ensures in
    let v = c.in_ok-value.ensures in
    let i = c.in_ok-over.ensures in
    let e = definition_at_fit c.args.term.now.name o.grown c.requires.at c.requires.term o.runs in
    let f = definition_at_body c.args.term.now.name v.grown i.grown i.meter (place_later o.grown c.requires.at) (let_later o.grown c.requires.term) (fitted_by o.judged.subject v.fitted) i.over v.runs e in
    stops _ c.from_residual-in_err-body.ensures f c.in_err-body.ensures.runs

pub infer_definition-returns-in_err-body-clause-grown : goal.infer_definition-returns-in_err-body-clause-grown
infer_definition-returns-in_err-body-clause-grown t c = search going_on

pub infer_definition-infer_let_type-requires : goal.infer_definition-infer_let_type-requires
infer_definition-infer_let_type-requires t c =
    let o = c.in_ok-own.ensures in
    let v = c.in_ok-value.ensures in
    let i = c.in_ok-over.ensures in
    let b = c.in_ok-body.ensures in
    let m = let_later b.grown (let_later i.grown (let_later v.grown (let_later o.grown c.requires.term))) in
    let p = ap (λ j. j.subject) i.over.value ∙ v.fitted.judged.subject ∙ o.judged.subject in
    let q = ap (λ j. j.claim) i.over.value ∙ v.fitted.claim in
    let z = i.over.allowed in
    (omega (arith, z), (let_by p q b.judged.subject m, (definition_itself (definition_later b.grown i.over), judged_itself b.judged)))

pub infer_definition-returns-clause-runs : goal.infer_definition-returns-clause-runs
infer_definition-returns-clause-runs t c =
    let o = c.in_ok-own.ensures in
    let v = c.in_ok-value.ensures in
    let i = c.in_ok-over.ensures in
    let b = c.in_ok-body.ensures in
    let e = definition_at_fit c.args.term.now.name o.grown c.requires.at c.requires.term o.runs in
    let f = definition_at_body c.args.term.now.name v.grown i.grown i.meter (place_later o.grown c.requires.at) (let_later o.grown c.requires.term) (fitted_by o.judged.subject v.fitted) i.over v.runs e in
    comes_to (definition_at_type c.args.term.now.name b.grown i.over b.runs f) c.infer_let_type.ensures.runs

pub infer_definition-returns-clause-grown : goal.infer_definition-returns-clause-grown
infer_definition-returns-clause-grown t c = search going_on

pub infer_let_type-returns-in_ok-judge_formation-in-Some-clause-runs : goal.infer_let_type-returns-in_ok-judge_formation-in-Some-clause-runs
infer_let_type-returns-in_ok-judge_formation-in-Some-clause-runs t c =
    let j = c.in_ok-judge_formation-in-Some.ensures in
    claims j.grown c.requires.body.claim j.same.1 j.meter (record { gives = sort_for_definition _ _ _ _ _ _ _ _ _ _ (sym c.in-Some.ensures) })

pub infer_let_type-returns-in_err-sorted-in-None-clause-runs : goal.infer_let_type-returns-in_err-sorted-in-None-clause-runs
infer_let_type-returns-in_err-sorted-in-None-clause-runs t c =
    stops _ c.from_residual-in_err-sorted-in-None.ensures (closing_at_sort c.args.term.now.name _ c.requires.over c.in-None.ensures) c.in_err-sorted-in-None.ensures.runs

pub infer_let_type-returns-in_ok-sorted-in-None-clause-runs : goal.infer_let_type-returns-in_ok-sorted-in-None-clause-runs
infer_let_type-returns-in_ok-sorted-in-None-clause-runs t c =
    let s = c.in_ok-sorted-in-None.ensures in
    comes_to (closing_at_end c.args.term.now.name s.grown c.requires.over c.requires.body s.runs (closing_at_sort c.args.term.now.name _ c.requires.over c.in-None.ensures)) c.judge_introduction.ensures.runs

pub inferred_part-returns-in-Err-clause-runs : goal.inferred_part-returns-in-Err-clause-runs
inferred_part-returns-in-Err-clause-runs t c = record { gives = shown_turned _ _ _ _ _ _ (c.out_of.ensures _) c.in-Err.ensures.runs.gives }

pub sorted_part-returns-in-Err-clause-runs : goal.sorted_part-returns-in-Err-clause-runs
sorted_part-returns-in-Err-clause-runs t c = record { gives = shown_turned _ _ _ _ _ _ (c.out_of.ensures _) c.in-Err.ensures.runs.gives }

pub sorted_wanted-returns-in-Err-clause-runs : goal.sorted_wanted-returns-in-Err-clause-runs
sorted_wanted-returns-in-Err-clause-runs t c = record { gives = wanted_turned _ _ _ _ _ (c.for_wanted.ensures _) c.in-Err.ensures.runs.gives }

pub function_part-returns-in-Err-clause-runs : goal.function_part-returns-in-Err-clause-runs
function_part-returns-in-Err-clause-runs t c = record { gives = shown_turned _ _ _ _ _ _ (c.into_part.ensures _) c.in-Err.ensures.runs.gives }

pub fitted_value-returns-in-Err-clause-runs : goal.fitted_value-returns-in-Err-clause-runs
fitted_value-returns-in-Err-clause-runs t c = record { gives = fit_turned _ _ _ _ _ _ (c.for_definition.ensures _) c.in-Err.ensures.runs.gives }

pub fitted_argument-returns-in-Err-clause-runs : goal.fitted_argument-returns-in-Err-clause-runs
fitted_argument-returns-in-Err-clause-runs t c =
    let g = c.in-Err.ensures.grown in
    let told = subst (λ A. ToldOf (of_argument A) c.fit.new.self.proof.now.shapes c.in-Err.misfit c.for_argument.result) (tree_stays _ _ c.args.domain g.keeps c.requires.domain.there) (c.for_argument.ensures _ (term_later g c.requires.domain).there) in
    record { gives = fit_turned _ _ _ _ _ _ told c.in-Err.ensures.runs.gives }

pub sorted_type-returns-in-Err-clause-runs : goal.sorted_type-returns-in-Err-clause-runs
sorted_type-returns-in-Err-clause-runs t c =
    let g = c.in-Err.ensures.grown in
    let told = subst (λ A. ToldAs (unsorted c.args.part c.args.x.now A) c.sorted.new.self.proof.now.shapes c.in-Err.fault c.unsorted_body.result) (tree_stays _ _ c.args.ty g.keeps c.requires.ty.there) (c.unsorted_body.ensures _ (term_later g c.requires.ty).there) in
    record { gives = shown_turned _ _ _ _ _ _ told c.in-Err.ensures.runs.gives }

pub sorted_form-returns-in-Err-clause-runs : goal.sorted_form-returns-in-Err-clause-runs
sorted_form-returns-in-Err-clause-runs t c =
    let g = c.in-Err.ensures.grown in
    let told = subst (λ A. ToldAs (λ f. here (not_product A)) c.sorted.new.self.proof.now.shapes c.in-Err.fault c.no_product.result) (tree_stays _ _ c.args.form.left g.keeps c.requires.ty.there) (c.no_product.ensures _ (term_later g c.requires.ty).there) in
    record { gives = shown_turned _ _ _ _ _ _ told c.in-Err.ensures.runs.gives }

pub sorted-returns-in_err-judged-clause-runs : goal.sorted-returns-in_err-judged-clause-runs
sorted-returns-in_err-judged-clause-runs t c =
    stops _ c.from_residual.ensures (sorted_is _ _ _ _ _ _) c.in_err-judged.ensures.runs

pub sorted-returns-clause-runs : goal.sorted-returns-clause-runs
sorted-returns-clause-runs t c =
    let j = c.in_ok-judged.ensures in
    comes_to (sorting_at_test j.grown c.requires.at c.requires.term j.runs) c.sort_test.ensures.runs

pub product_of-returns-in-Some-clause-runs : goal.product_of-returns-in-Some-clause-runs
product_of-returns-in-Some-clause-runs t c =
    record { gives = product_at_once _ _ _ _ _ _ _ (sym c.in-Some.ensures.parts) }

pub product_of-product_parts-requires : goal.product_of-product_parts-requires
product_of-product_parts-requires t c = c.requires.judged.claim.there

pub product_of-returns-in-Some-clause-function : goal.product_of-returns-in-Some-clause-function
product_of-returns-in-Some-clause-function t c =
    function_new _ no_step c.requires.judged.claim (record { there = c.in-Some.ensures.there.0 }) (record { there = c.in-Some.ensures.there.1 }) c.in-Some.ensures.parts (record { judged = c.requires.judged; claim = refl })

pub product_of-form-requires-clause-at : goal.product_of-form-requires-clause-at
product_of-form-requires-clause-at t c = c.requires.judged.place

pub product_of-form-requires-clause-term : goal.product_of-form-requires-clause-term
product_of-form-requires-clause-term t c = c.requires.judged.claim

pub product_of-returns-in_err-form-clause-runs : goal.product_of-returns-in_err-form-clause-runs
product_of-returns-in_err-form-clause-runs t c =
    type_unformed c.args.self.now c.form.new.self c.args.at c.args.judged.claim c.in_default.ensures.parts _ c.from_residual.ensures c.in_err-form.ensures.stopped

pub product_of-product_parts-requires-2 : goal.product_of-product_parts-requires-2
product_of-product_parts-requires-2 t c = c.in_ok-form.ensures.compared.right.there

pub product_of-returns-in_default-product_parts-clause-runs : goal.product_of-returns-in_default-product_parts-clause-runs
product_of-returns-in_default-product_parts-clause-runs t c =
    let f = c.in_ok-form.ensures in
    type_no_product c.args.self.now c.form.new.self c.args.at c.args.judged.claim c.in_default.ensures.parts _ f.grown c.requires.judged.claim f.form c.in_default-product_parts.ensures.parts (c.flaw_here.ensures _ (term_later f.grown c.requires.judged.claim).there)

pub product_of-sorted_form-requires : goal.product_of-sorted_form-requires
product_of-sorted_form-requires t c =
    let f = c.in_ok-form.ensures.compared in
    (omega arith, (compared_itself f, record { there = f.compares.0 }))

pub product_of-returns-in_err-sorted-clause-runs : goal.product_of-returns-in_err-sorted-clause-runs
product_of-returns-in_err-sorted-clause-runs t c =
    let f = c.in_ok-form.ensures in
    stops _ c.from_residual-in_err-sorted.ensures (type_at_form c.args.self.now c.form.new.self c.args.at c.args.judged.claim c.in_default.ensures.parts _ _ _ f.grown c.requires.judged.place c.requires.judged.claim f.compared.left f.form c.in-Some-product_parts.ensures.parts) c.in_err-sorted.ensures.runs

pub product_of-returns-in_err-sorted-clause-grown : goal.product_of-returns-in_err-sorted-clause-grown
product_of-returns-in_err-sorted-clause-grown t c = search going_on

pub product_of-judge_conversion-requires-clause-judged : goal.product_of-judge_conversion-requires-clause-judged
product_of-judge_conversion-requires-clause-judged t c =
    judged_later c.in_ok-sorted.ensures.grown (judged_later c.in_ok-form.ensures.grown c.requires.judged)

pub product_of-judge_conversion-requires-clause-wanted : goal.product_of-judge_conversion-requires-clause-wanted
product_of-judge_conversion-requires-clause-wanted t c = c.in_ok-sorted.ensures.sorted

pub product_of-judge_conversion-requires-clause-compared : goal.product_of-judge_conversion-requires-clause-compared
product_of-judge_conversion-requires-clause-compared t c =
    compared_later c.in_ok-sorted.ensures.grown c.in_ok-form.ensures.compared

pub product_of-returns-in_err-judged-clause-grown : goal.product_of-returns-in_err-judged-clause-grown
product_of-returns-in_err-judged-clause-grown t c = search going_on

pub product_of-returns-clause-grown : goal.product_of-returns-clause-grown
product_of-returns-clause-grown t c = search going_on

pub product_of-returns-clause-runs : goal.product_of-returns-clause-runs
product_of-returns-clause-runs t c =
    let f = c.in_ok-form.ensures in
    let s = c.in_ok-sorted.ensures in
    let j = c.in_ok-judged.ensures in
    let e = type_at_form c.args.self.now c.form.new.self c.args.at c.args.judged.claim c.in_default.ensures.parts _ _ _ f.grown c.requires.judged.place c.requires.judged.claim f.compared.left f.form c.in-Some-product_parts.ensures.parts in
    product_kept _ _ _ (grown_trans s.grown j.grown) (record { there = c.in-Some-product_parts.ensures.there.0 }) (record { there = c.in-Some-product_parts.ensures.there.1 }) refl refl (ap left j.meter) (goes_on _ e s.runs)

pub product_of-returns-clause-function : goal.product_of-returns-clause-function
product_of-returns-clause-function t c =
    let f = c.in_ok-form.ensures in
    let s = c.in_ok-sorted.ensures in
    let j = c.in_ok-judged.ensures in
    function_new _ (grown_trans s.grown j.grown) f.compared.right (record { there = c.in-Some-product_parts.ensures.there.0 }) (record { there = c.in-Some-product_parts.ensures.there.1 }) c.in-Some-product_parts.ensures.parts j.fitted

pub sorted-sort_test-requires : goal.sorted-sort_test-requires
sorted-sort_test-requires t c = record { judged = judged_itself c.in_ok-judged.ensures.judged }

pub sorted-returns-clause-sorted : goal.sorted-returns-clause-sorted
sorted-returns-clause-sorted t c =
    subst (λ x. IfOk c.sort_test.result (λ s. IsSorted c.sort_test.new.self c.args.at x s)) c.in_ok-judged.ensures.judged.subject c.sort_test.ensures.sorted

pub sorted-returns-clause-grown : goal.sorted-returns-clause-grown
sorted-returns-clause-grown t c = search going_on

pub inferred_part-returns-in-Ok-clause-runs : goal.inferred_part-returns-in-Ok-clause-runs
inferred_part-returns-in-Ok-clause-runs t c = record { gives = turned_ends _ _ _ _ c.in-Ok.ensures.runs.gives }

pub sorted_part-returns-in-Ok-clause-runs : goal.sorted_part-returns-in-Ok-clause-runs
sorted_part-returns-in-Ok-clause-runs t c = record { gives = turned_ends _ _ _ _ c.in-Ok.ensures.runs.gives }

pub sorted_type-returns-in-Ok-clause-runs : goal.sorted_type-returns-in-Ok-clause-runs
sorted_type-returns-in-Ok-clause-runs t c = record { gives = turned_ends _ _ _ _ c.in-Ok.ensures.runs.gives }

pub sorted_form-returns-in-Ok-clause-runs : goal.sorted_form-returns-in-Ok-clause-runs
sorted_form-returns-in-Ok-clause-runs t c = record { gives = turned_ends _ _ _ _ c.in-Ok.ensures.runs.gives }

pub sorted_wanted-returns-in-Ok-clause-runs : goal.sorted_wanted-returns-in-Ok-clause-runs
sorted_wanted-returns-in-Ok-clause-runs t c = record { gives = turned_ends _ _ _ _ c.in-Ok.ensures.runs.gives }

pub function_part-returns-in-Ok-clause-runs : goal.function_part-returns-in-Ok-clause-runs
function_part-returns-in-Ok-clause-runs t c = record { gives = turned_ends _ _ _ _ c.in-Ok.ensures.runs.gives }

pub fitted_argument-returns-in-Ok-clause-runs : goal.fitted_argument-returns-in-Ok-clause-runs
fitted_argument-returns-in-Ok-clause-runs t c = record { gives = turned_ends _ _ _ _ c.in-Ok.ensures.runs.gives }

pub fitted_value-returns-in-Ok-clause-runs : goal.fitted_value-returns-in-Ok-clause-runs
fitted_value-returns-in-Ok-clause-runs t c = record { gives = turned_ends _ _ _ _ c.in-Ok.ensures.runs.gives }

pub fit-returns-then-not-pay-clause-runs : goal.fit-returns-then-not-pay-clause-runs
fit-returns-then-not-pay-clause-runs t c =
    let p = c.pay.ensures.unpaid c.if-not-pay.true in
    record { gives = (fitted_unpaid _ _ _ _ _ _ _ p.0, p.1) }

pub fit-equal-requires-clause-left : goal.fit-equal-requires-clause-left
fit-equal-requires-clause-left t c = (term_later c.pay.ensures.grown c.requires.judged.claim).there

pub fit-equal-requires-clause-right : goal.fit-equal-requires-clause-right
fit-equal-requires-clause-right t c = (term_later c.pay.ensures.grown c.requires.want).there

pub fit-judge_again-requires-clause-judged : goal.fit-judge_again-requires-clause-judged
fit-judge_again-requires-clause-judged t c = judged_later c.pay.ensures.grown c.requires.judged

pub fit-judge_again-requires-clause-want : goal.fit-judge_again-requires-clause-want
fit-judge_again-requires-clause-want t c = term_later c.pay.ensures.grown c.requires.want

pub fit-judge_again-requires-clause-same : goal.fit-judge_again-requires-clause-same
fit-judge_again-requires-clause-same t c = found_equal _ _ _ _ c.equal.ensures c.if-equal.true

pub fit-returns-then-equal-clause-runs : goal.fit-returns-then-equal-clause-runs
fit-returns-then-equal-clause-runs t c =
    let p = c.pay.ensures in
    fit_at_once c.args.at c.args.judged.claim c.args.want p.grown p.record (p.paid c.if-not-pay.false) (types_same _ _ _ _ _ c.equal.ensures c.if-equal.true) c.in_ok-judge_again.ensures.meter

pub fit-returns-then-equal-clause-grown : goal.fit-returns-then-equal-clause-grown
fit-returns-then-equal-clause-grown t c = search going_on

pub fit-sorted_wanted-requires : goal.fit-sorted_wanted-requires
fit-sorted_wanted-requires t c =
    let p = c.pay.ensures in
    (omega arith, (place_later p.grown c.requires.judged.place, term_later p.grown c.requires.want))

pub fit-returns-in_err-wanted-clause-runs : goal.fit-returns-in_err-wanted-clause-runs
fit-returns-in_err-wanted-clause-runs t c =
    let p = c.pay.ensures in
    let e = fit_at_wanted c.args.at c.args.judged.claim c.args.want p.grown p.record (p.paid c.if-not-pay.false) (types_same _ _ _ _ _ c.equal.ensures c.if-equal.false) in
    fit_stops _ c.from_residual-in_err-wanted.ensures e c.in_err-wanted.ensures.runs

pub fit-returns-in_err-wanted-clause-grown : goal.fit-returns-in_err-wanted-clause-grown
fit-returns-in_err-wanted-clause-grown t c = search going_on

pub fit-compare-requires-clause-at : goal.fit-compare-requires-clause-at
fit-compare-requires-clause-at t c = place_later c.in_ok-wanted.ensures.grown (place_later c.pay.ensures.grown c.requires.judged.place)

pub fit-compare-requires-clause-have : goal.fit-compare-requires-clause-have
fit-compare-requires-clause-have t c = term_later c.in_ok-wanted.ensures.grown (term_later c.pay.ensures.grown c.requires.judged.claim)

pub fit-compare-requires-clause-want : goal.fit-compare-requires-clause-want
fit-compare-requires-clause-want t c = term_later c.in_ok-wanted.ensures.grown (term_later c.pay.ensures.grown c.requires.want)

pub fit-returns-in_err-compared-clause-runs : goal.fit-returns-in_err-compared-clause-runs
fit-returns-in_err-compared-clause-runs t c =
    let p = c.pay.ensures in
    let s = c.in_ok-wanted.ensures in
    let e = fit_at_wanted c.args.at c.args.judged.claim c.args.want p.grown p.record (p.paid c.if-not-pay.false) (types_same _ _ _ _ _ c.equal.ensures c.if-equal.false) in
    let f = fit_at_test s.grown (place_later p.grown c.requires.judged.place) (term_later p.grown c.requires.judged.claim) (term_later p.grown c.requires.want) s.runs e in
    fit_hands c.from_residual-in_err-compared.ensures f (c.in_err-compared.ensures.runs _)

pub fit-returns-in_err-compared-clause-grown : goal.fit-returns-in_err-compared-clause-grown
fit-returns-in_err-compared-clause-grown t c = search going_on

pub fit-judge_conversion-requires-clause-judged : goal.fit-judge_conversion-requires-clause-judged
fit-judge_conversion-requires-clause-judged t c =
    judged_later c.in_ok-compared.ensures.grown (judged_later c.in_ok-wanted.ensures.grown (judged_later c.pay.ensures.grown c.requires.judged))

pub fit-judge_conversion-requires-clause-wanted : goal.fit-judge_conversion-requires-clause-wanted
fit-judge_conversion-requires-clause-wanted t c =
    sorted_by (sym c.in_ok-compared.ensures.right) (sorted_later c.in_ok-compared.ensures.grown c.in_ok-wanted.ensures.sorted)

pub fit-judge_conversion-requires-clause-compared : goal.fit-judge_conversion-requires-clause-compared
fit-judge_conversion-requires-clause-compared t c = c.in_ok-compared.ensures.compared

pub fit-returns-in_err-judge_conversion-clause-grown : goal.fit-returns-in_err-judge_conversion-clause-grown
fit-returns-in_err-judge_conversion-clause-grown t c = search going_on

pub fit-returns-clause-grown : goal.fit-returns-clause-grown
fit-returns-clause-grown t c = search going_on

pub fit-returns-clause-runs : goal.fit-returns-clause-runs
fit-returns-clause-runs t c =
    let p = c.pay.ensures in
    let s = c.in_ok-wanted.ensures in
    let e = fit_at_wanted c.args.at c.args.judged.claim c.args.want p.grown p.record (p.paid c.if-not-pay.false) (types_same _ _ _ _ _ c.equal.ensures c.if-equal.false) in
    let f = fit_at_test s.grown (place_later p.grown c.requires.judged.place) (term_later p.grown c.requires.judged.claim) (term_later p.grown c.requires.want) s.runs e in
    let j = c.in_ok-judge_conversion.ensures in
    fit_ends j.grown f j.meter (c.in_ok-compared.ensures.runs _)

pub fit-returns-clause-fitted : goal.fit-returns-clause-fitted
fit-returns-clause-fitted t c =
    fitted_want c.in_ok-compared.ensures.right c.in_ok-judge_conversion.ensures.fitted

pub infer-returns-then-not-pay-clause-runs : goal.infer-returns-then-not-pay-clause-runs
infer-returns-then-not-pay-clause-runs t c =
    let p = c.pay.ensures.unpaid c.if-not-pay.true in
    record { gives = (inferred_unpaid _ _ _ _ _ _ p.0, p.1) }

pub infer-returns-then-at-eq0-clause-runs : goal.infer-returns-then-at-eq0-clause-runs
infer-returns-then-at-eq0-clause-runs t c =
    record { gives = inferred_too_deep _ _ _ _ _ _ _ c.if-at-eq0.true (c.pay.ensures.paid c.if-not-pay.false) }

pub infer_let_type-judge_formation-requires-clause-body : goal.infer_let_type-judge_formation-requires-clause-body
infer_let_type-judge_formation-requires-clause-body t c =
    record { judged = c.requires.body; sort = is_sort _ _ c.in-Some.ensures }

pub infer_let_type-returns-in_ok-judge_formation-in-Some-clause-judged : goal.infer_let_type-returns-in_ok-judge_formation-in-Some-clause-judged
infer_let_type-returns-in_ok-judge_formation-in-Some-clause-judged t c = c.in_ok-judge_formation-in-Some.ensures.sorted.judged

pub infer_let_type-judge_introduction-requires-clause-term : goal.infer_let_type-judge_introduction-requires-clause-term
infer_let_type-judge_introduction-requires-clause-term t c = let_later c.in_ok-sorted-in-None.ensures.grown c.requires.term

pub infer_let_type-judge_introduction-requires-clause-over : goal.infer_let_type-judge_introduction-requires-clause-over
infer_let_type-judge_introduction-requires-clause-over t c = definition_later c.in_ok-sorted-in-None.ensures.grown c.requires.over

pub infer_let_type-judge_introduction-requires-clause-body : goal.infer_let_type-judge_introduction-requires-clause-body
infer_let_type-judge_introduction-requires-clause-body t c = judged_later c.in_ok-sorted-in-None.ensures.grown c.requires.body

pub infer_let_type-judge_introduction-requires-clause-sorted : goal.infer_let_type-judge_introduction-requires-clause-sorted
infer_let_type-judge_introduction-requires-clause-sorted t c = c.in_ok-sorted-in-None.ensures.sorted

pub infer_product-assume-requires : goal.infer_product-assume-requires
infer_product-assume-requires t c = record { domain = sorted_itself c.in_ok-domain.ensures.sorted }

pub infer_abstraction-assume-requires : goal.infer_abstraction-assume-requires
infer_abstraction-assume-requires t c = record { domain = sorted_itself c.in_ok-domain.ensures.sorted }

pub infer_definition-define-requires : goal.infer_definition-define-requires
infer_definition-define-requires t c = record { value = fitted_judged c.in_ok-value.ensures.fitted }

pub infer_product-judge_product-requires-clause-body : goal.infer_product-judge_product-requires-clause-body
infer_product-judge_product-requires-clause-body t c = sorted_itself c.in_ok-body.ensures.sorted

pub infer_application-judge_application-requires-clause-argument : goal.infer_application-judge_application-requires-clause-argument
infer_application-judge_application-requires-clause-argument t c = fitted_itself c.in_ok-argument.ensures.fitted

pub infer_abstraction-judge_abstraction-requires-clause-sorted : goal.infer_abstraction-judge_abstraction-requires-clause-sorted
infer_abstraction-judge_abstraction-requires-clause-sorted t c = c.in_ok-sorted.ensures.sorted

pub infer_application-function_part-requires : goal.infer_application-function_part-requires
infer_application-function_part-requires t c =
    (omega arith, judged_itself c.in_ok-judged.ensures.judged)

pub infer_application-inferred_part-requires-2 : goal.infer_application-inferred_part-requires-2
infer_application-inferred_part-requires-2 t c =
    let j = c.in_ok-judged.ensures in
    let f = c.in_ok-function.ensures in
    (omega arith, (place_later f.grown (place_later j.grown c.requires.at), (made_later f.grown (made_later j.grown c.requires.term)).second))

pub infer_application-fitted_argument-requires : goal.infer_application-fitted_argument-requires
infer_application-fitted_argument-requires t c =
    let f = c.in_ok-function.ensures in
    let o = c.in_ok-own.ensures in
    (omega arith, (judged_itself o.judged, (function_later o.grown f.function).domain))

pub infer_product-sorted_part-requires-2 : goal.infer_product-sorted_part-requires-2
infer_product-sorted_part-requires-2 t c =
    let d = c.in_ok-domain.ensures in
    let i = c.in_ok-over.ensures in
    let z = i.over.allowed in
    (omega (arith, z), (i.over.inside, (made_later i.grown (made_later d.grown c.requires.term)).second))

pub infer_abstraction-inferred_part-requires : goal.infer_abstraction-inferred_part-requires
infer_abstraction-inferred_part-requires t c =
    let d = c.in_ok-domain.ensures in
    let i = c.in_ok-over.ensures in
    let z = i.over.allowed in
    (omega (arith, z), (i.over.inside, (made_later i.grown (made_later d.grown c.requires.term)).second))

pub infer_abstraction-sorted_type-requires : goal.infer_abstraction-sorted_type-requires
infer_abstraction-sorted_type-requires t c =
    let i = c.in_ok-over.ensures in
    let b = c.in_ok-body.ensures in
    let z = i.over.allowed in
    (omega (arith, z), (place_later b.grown i.over.inside, b.judged.claim))

pub infer_definition-fitted_value-requires : goal.infer_definition-fitted_value-requires
infer_definition-fitted_value-requires t c =
    let o = c.in_ok-own.ensures in
    (omega arith, (judged_itself o.judged, (let_later o.grown c.requires.term).type))

pub infer_definition-inferred_part-requires-2 : goal.infer_definition-inferred_part-requires-2
infer_definition-inferred_part-requires-2 t c =
    let o = c.in_ok-own.ensures in
    let v = c.in_ok-value.ensures in
    let i = c.in_ok-over.ensures in
    let z = i.over.allowed in
    (omega (arith, z), (i.over.inside, (let_later i.grown (let_later v.grown (let_later o.grown c.requires.term))).body))

pub infer_abstraction-returns-clause-judged : goal.infer_abstraction-returns-clause-judged
infer_abstraction-returns-clause-judged t c =
    subst (λ x. IfOk c.judge_abstraction.result (λ j. IsJudged c.judge_abstraction.new.self x c.args.term.now.term j)) c.in_ok-over.ensures.over.outer c.judge_abstraction.ensures.judged

pub infer_definition-returns-clause-judged : goal.infer_definition-returns-clause-judged
infer_definition-returns-clause-judged t c =
    subst (λ x. IfOk c.infer_let_type.result (λ j. IsJudged c.infer_let_type.new.self x c.args.term.now.term j)) c.in_ok-over.ensures.over.outer c.infer_let_type.ensures.judged

pub infer_application-returns-in_err-function-clause-grown : goal.infer_application-returns-in_err-function-clause-grown
infer_application-returns-in_err-function-clause-grown t c = search going_on

pub infer_application-returns-in_err-own-clause-grown : goal.infer_application-returns-in_err-own-clause-grown
infer_application-returns-in_err-own-clause-grown t c = search going_on

pub infer_definition-returns-in_err-value-clause-grown : goal.infer_definition-returns-in_err-value-clause-grown
infer_definition-returns-in_err-value-clause-grown t c = search going_on

pub infer_definition-returns-in_err-over-clause-grown : goal.infer_definition-returns-in_err-over-clause-grown
infer_definition-returns-in_err-over-clause-grown t c = search going_on

pub infer_form-returns-in-Sort-clause-runs : goal.infer_form-returns-in-Sort-clause-runs
infer_form-returns-in-Sort-clause-runs t c =
    comes_to (typed_sort _ _ _ _ _ _ _ (c.shape.ensures.named ∙ ap (unfold_shape the_name (named_trees c.args.self.now.proof.now.shapes)) c.in-Sort.is)) c.infer_sort.ensures.runs

pub infer_form-returns-in-Var-clause-runs : goal.infer_form-returns-in-Var-clause-runs
infer_form-returns-in-Var-clause-runs t c =
    comes_to (typed_variable _ _ _ _ _ _ _ (c.shape.ensures.named ∙ ap (unfold_shape the_name (named_trees c.args.self.now.proof.now.shapes)) c.in-Var.is)) c.infer_variable.ensures.runs

pub infer_form-returns-in-App-clause-runs : goal.infer_form-returns-in-App-clause-runs
infer_form-returns-in-App-clause-runs t c =
    comes_to (typed_application _ _ _ _ _ _ _ _ (c.shape.ensures.named ∙ ap (unfold_shape the_name (named_trees c.args.self.now.proof.now.shapes)) c.in-App.is)) c.infer_application.ensures.runs

pub infer_let_type-sorted_type-requires : goal.infer_let_type-sorted_type-requires
infer_let_type-sorted_type-requires t c = (omega arith, (c.requires.over.inside, c.requires.body.claim))
