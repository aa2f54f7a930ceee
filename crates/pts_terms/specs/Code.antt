-- A code for terms as plain data, so that the value of a model may hold them.
use Rattle.std.specs.Prelude.{◌≡◌}
use Rattle.std.specs.Coded.{Coded, code_by}
use Rattle.std.proofs.Common.{◌∙◌, sym, ap}
use Rattle.pts_terms.specs.contracts.term.Term as term
use Rattle.pts_terms.specs.declared.term.Term.{Term}
use Rattle.pts_terms.specs.declared.term.Term.TheVariants.{Sort, Const, Var, App, Lam, Pi, Let, rolls-Sort, rolls-Const, rolls-Var, rolls-App, rolls-Lam, rolls-Pi, rolls-Let}
use Rattle.pts_terms.specs.declared.term.Term.TheOpen.{Term-F}
use Rattle.pts_terms.specs.declared.term.Term.TheFolds.{fold-roll-Term}
use Rattle.pts_terms.specs.Tree.{Named, sort, const, var, app, named_lam, named_pi, named_let}
use Rattle.pts_terms.specs.Seen.{named, named_step}

-- The term of the program that stands for it.
abbrev pub to_term : Named → Term
to_term (sort s) = Sort (record { 0 = s })
to_term (const c) = Const c
to_term (var i) = Var i
to_term (app f a) = App (to_term f) (to_term a)
to_term (named_lam x A b) = Lam x (to_term A) (to_term b)
to_term (named_pi x A B) = Pi x (to_term A) (to_term B)
to_term (named_let x a A b) = Let x (to_term a) (to_term A) (to_term b)

-- The fold gives it back.
abbrev pub named_back : (t : Named) → named (to_term t) ≡ t
named_back (sort s) = ap named (sym (rolls-Sort (record { 0 = s }))) ∙ fold-roll-Term Named named_step (Term-F.Sort (record { 0 = s }))
named_back (const c) = ap named (sym (rolls-Const c)) ∙ fold-roll-Term Named named_step (Term-F.Const c)
named_back (var i) = ap named (sym (rolls-Var i)) ∙ fold-roll-Term Named named_step (Term-F.Var i)
named_back (app f a) =
    ap named (sym (rolls-App (to_term f) (to_term a)))
    ∙ (fold-roll-Term Named named_step (Term-F.App (to_term f) (to_term a))
    ∙ (ap (λ g. app g (named (to_term a))) (named_back f) ∙ ap (app f) (named_back a)))
named_back (named_lam x A b) =
    ap named (sym (rolls-Lam x (to_term A) (to_term b)))
    ∙ (fold-roll-Term Named named_step (Term-F.Lam x (to_term A) (to_term b))
    ∙ (ap (λ B. named_lam x B (named (to_term b))) (named_back A) ∙ ap (named_lam x A) (named_back b)))
named_back (named_pi x A B) =
    ap named (sym (rolls-Pi x (to_term A) (to_term B)))
    ∙ (fold-roll-Term Named named_step (Term-F.Pi x (to_term A) (to_term B))
    ∙ (ap (λ C. named_pi x C (named (to_term B))) (named_back A) ∙ ap (named_pi x A) (named_back B)))
named_back (named_let x a A b) =
    ap named (sym (rolls-Let x (to_term a) (to_term A) (to_term b)))
    ∙ (fold-roll-Term Named named_step (Term-F.Let x (to_term a) (to_term A) (to_term b))
    ∙ (ap (λ c. named_let x c (named (to_term A)) (named (to_term b))) (named_back a)
    ∙ (ap (λ B. named_let x a B (named (to_term b))) (named_back A) ∙ ap (named_let x a A) (named_back b))))

abbrev pub coded_tree : Coded Named
coded_tree = code_by Term term.the_row.coded to_term named named_back
