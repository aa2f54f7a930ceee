-- A draft to which lines add plain names has no inner name.
use Rattle.std.proofs.Common.{◌≡◌, ℕ, List, [], ◌∷◌, ◌++◌, false, Some, None, refl, sym, ap, ◌∙◌, subst}
use Rattle.std.specs.List.{AllByRecursion}
use Rattle.pts_names.specs.Name.{Name}
use Rattle.pts_ctx.specs.System.{Specification}
use Rattle.pts_ctx.specs.Front.{Global}
use Rattle.pts_reduce_cost.specs.Costs.{Globals}
use Rattle.pts_infer_cost.specs.Typing.{comes, stops}
use Rattle.pts_declare.specs.Stated.{Stated}
use Rattle.pts_declare.specs.Checking.{Checks, of_assumption, of_definition, of_typed_definition, DeclareOutcome, entry}
use Rattle.pts_statement.specs.Statements.{Statement, name_of}
use Rattle.pts_core.specs.InnerNames.{is_inner, NoneInner}
use Rattle.pts_session.specs.State.{State}
use Rattle.pts_session.specs.Declaring.{Declares, unknown_word, name_is_taken, is_stopped, is_spent, enters}

came_same : (e f : Global Name) (p : DeclareOutcome) → p ≡ comes e → p ≡ comes f → e ≡ f
came_same e f p a b = let h : comes e ≡ comes f = sym a ∙ b in cc h

-- What is stated as x comes to an entry of that name.
pub checks_name : (S : Specification) (G : Globals) (x : Name) (s : Stated) (e : Global Name) (n : ℕ) → Checks S G x s (comes e) n → e.name ≡ x
checks_name S G x s e n (of_assumption {A = A} (comes k) h p) = ap (λ g. g.name) (came_same e (entry x None A) (comes e) refl p)
checks_name S G x s e n (of_assumption (stops f) h p) = absurd (cc p)
checks_name S G x s e n (of_definition {t = t} (comes A) h p) = ap (λ g. g.name) (came_same e (entry x (Some t) A) (comes e) refl p)
checks_name S G x s e n (of_definition (stops f) h p) = absurd (cc p)
checks_name S G x s e n (of_typed_definition {A = A} {t = t} (comes u) h p) = ap (λ g. g.name) (came_same e (entry x (Some t) A) (comes e) refl p)
checks_name S G x s e n (of_typed_definition (stops f) h p) = absurd (cc p)

all_more : {X : Type 0} (P : X → Type 0) (xs : List X) (x : X) → AllByRecursion P xs → P x → AllByRecursion P (xs ++ x ∷ [])
all_more P [] x all own = (own, tt)
all_more P (y ∷ xs) x all own = (all.0, all_more P xs x all.1 own)

pub declares_none_inner : (S : Specification) (s t : State) (d : Statement) (replies : List (List ℕ)) → Declares S s d replies t → is_inner (name_of d) ≡ false → NoneInner s.draft → NoneInner t.draft
declares_none_inner S s t d replies (unknown_word e) p all = all
declares_none_inner S s t d replies (name_is_taken e f) p all = all
declares_none_inner S s t d replies (is_stopped k e f w) p all = all
declares_none_inner S s t d replies (is_spent e f w) p all = all
declares_none_inner S s t d replies (enters {t = u} {e = g} k e f w) p all =
    all_more (λ h. is_inner h.name ≡ false) s.draft g all (subst (λ y. is_inner y ≡ false) (sym (checks_name S (s.base.entries ++ s.draft) (name_of d) u g w.0 w.1)) p)
