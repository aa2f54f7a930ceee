-- What stays while a function is applied.
use Rattle.std.proofs.Common.{◌≡◌, ℕ, ap, ◌∙◌, List, [], ◌∷◌, Option, Some, None, refl}
use Rattle.std.specs.Prelude.{IfSome}
use Rattle.std.proofs.lemmas.List.Elements.{All-nil, All-cons, All-head, All-tail}
use Rattle.pts_record.specs.Table.{Tables}
use Rattle.pts_record.specs.Said.{is_context}
use Rattle.pts_grow.specs.declared.compared.Compared.{Compared}
use Rattle.pts_grow.specs.Keeps.{Keeps}
use Rattle.pts_grow.proofs.Grow.{stays, node_stays, tree_stays, told_stays}
use Rattle.pts_match.specs.declared.subterm.Subterm.{Subterm}
use Rattle.pts_match.specs.Lowering.{is_clear, lower}
use Rattle.pts_match.specs.Matching.{IsClear, AreClear, value_of, values_of}
use Rattle.pts_prove.specs.declared.work.Work.{Work}
use Rattle.pts_prove.specs.declared.work.Pattern.{Pattern}
use Rattle.pts_prove.specs.declared.work.Product.{Product}
use Rattle.pts_prove.specs.Works.{Grown, IsPlace, HasTerm}
use Rattle.pts_prove.specs.Applications.{IsContext, IsPattern, AreFound, IsFound, HasProduct, IsReduced}
use Rattle.pts_prove.proofs.Working.{since, no_step, place_later, term_later, number_later, asked_later, judged_later, sorted_later, fitted_later, asked_place, asked_statement, number_term, judged_itself, sorted_itself}

pub place_context : {w : Work} {c : ℕ} → IsPlace w c → IsContext w c
place_context h = record { there = h.there; context = h.typed.0 }

pub context_later : {a b : Work} {c : ℕ} → Grown a b → IsContext a c → IsContext b c
context_later {a} {b} {c} g h = record {
  there = node_stays a.proof.now b.proof.now c g.keeps h.there;
  context = ap is_context (told_stays a.proof.now b.proof.now c g.keeps h.there) ∙ h.context;
}

pub pattern_later : {a b : Work} {p : Pattern} → Grown a b → IsPattern a p → IsPattern b p
pattern_later g h = record { ctx = context_later g h.ctx; ty = term_later g h.ty; few = h.few }

pub pattern_context : {w : Work} {p : Pattern} → IsPattern w p → IsContext w p.ctx
pattern_context h = h.ctx

pub pattern_type : {w : Work} {p : Pattern} → IsPattern w p → HasTerm w p.ty
pattern_type h = h.ty

pub reduced_form : {w : Work} {c t : ℕ} {o : Compared} → IsReduced w c t o → HasTerm w o.right
reduced_form h = h.right

pub product_later : {a b : Work} {p : Product} → Grown a b → HasProduct a p → HasProduct b p
product_later {a} {b} {p} g h =
    let x = tree_stays a.proof.now b.proof.now p.term g.keeps h.term.there in
    let y = tree_stays a.proof.now b.proof.now p.domain g.keeps h.domain.there in
    let z = tree_stays a.proof.now b.proof.now p.body g.keeps h.body.there in
    record {
      term = term_later g h.term;
      domain = term_later g h.domain;
      body = term_later g h.body;
      parts = rw (x, y, z) h.parts;
    }

pub product_domain : {w : Work} {p : Product} → HasProduct w p → HasTerm w p.domain
product_domain h = h.domain

pub product_body : {w : Work} {p : Product} → HasProduct w p → HasTerm w p.body
product_body h = h.body

pub product_term : {w : Work} {p : Product} → HasProduct w p → HasTerm w p.term
product_term h = h.term

-- Parts that were found.
clear_stays : (a b : Tables) (p : Subterm) → Keeps a b → IsClear a.shapes p → IsClear b.shapes p
clear_stays a b p k h = (stays a b p.term k h.0, h.1, ap (is_clear 0 p.binders) (tree_stays a b p.term k h.0) ∙ h.2)

clear_stay : (a b : Tables) (ps : List (Option Subterm)) → Keeps a b → AreClear a.shapes ps → AreClear b.shapes ps
clear_stay a b [] k h = All-nil (λ o. IfSome o (IsClear b.shapes))
clear_stay a b (None ∷ ps) k h = All-cons (λ o. IfSome o (IsClear b.shapes)) None ps tt (clear_stay a b ps k (All-tail (λ o. IfSome o (IsClear a.shapes)) None ps h))
clear_stay a b (Some p ∷ ps) k h = All-cons (λ o. IfSome o (IsClear b.shapes)) (Some p) ps (clear_stays a b p k (All-head (λ o. IfSome o (IsClear a.shapes)) (Some p) ps h)) (clear_stay a b ps k (All-tail (λ o. IfSome o (IsClear a.shapes)) (Some p) ps h))

pub value_stays : (a b : Tables) (p : Subterm) → Keeps a b → IsClear a.shapes p → value_of b.shapes p ≡ value_of a.shapes p
value_stays a b p k h = ap (lower 0 p.binders) (tree_stays a b p.term k h.0)

pub values_stay : (a b : Tables) (ps : List (Option Subterm)) → Keeps a b → AreClear a.shapes ps → values_of b.shapes ps ≡ values_of a.shapes ps
values_stay a b [] k h = refl
values_stay a b (None ∷ ps) k h = ap (λ s. None ∷ s) (values_stay a b ps k (All-tail (λ o. IfSome o (IsClear a.shapes)) _ ps h))
values_stay a b (Some p ∷ ps) k h = ap (λ t. Some t ∷ values_of b.shapes ps) (value_stays a b p k (All-head (λ o. IfSome o (IsClear a.shapes)) (Some p) ps h)) ∙ ap (λ s. Some (value_of a.shapes p) ∷ s) (values_stay a b ps k (All-tail (λ o. IfSome o (IsClear a.shapes)) _ ps h))

pub found_later : {a b : Work} {k : ℕ} {ps : List (Option Subterm)} → Grown a b → AreFound a k ps → AreFound b k ps
found_later {a} {b} {k} {ps} g h = record { clear = clear_stay a.proof.now b.proof.now ps g.keeps h.clear; length = h.length }

part_clear : (a b : Tables) (o : Option Subterm) → Keeps a b → IfSome o (IsClear a.shapes) → IfSome o (IsClear b.shapes)
part_clear a b None k h = h
part_clear a b (Some p) k h = clear_stays a b p k h

pub part_later : {a b : Work} {o : Option Subterm} → Grown a b → IsFound a o → IsFound b o
part_later {a} {b} {o} g h = record { clear = part_clear a.proof.now b.proof.now o g.keeps h.clear }

pub ruleset applying = (since, no_step, place_later, term_later, number_later, asked_later, judged_later, sorted_later, fitted_later, asked_place, asked_statement, number_term, judged_itself, sorted_itself, place_context, context_later, pattern_later, pattern_context, pattern_type, reduced_form, product_later, product_domain, product_body, product_term, found_later, part_later)
