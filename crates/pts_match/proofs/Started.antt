-- Matches that begin with nothing known.
use Rattle.std.proofs.Common.{◌≡◌, ℕ, zero, suc, ◌<◌, List, length, Option, Some, None, refl, sym, ap, ◌∙◌, subst}
use Rattle.std.specs.Prelude.{map, replicate, ◌∷◌, IfSome}
use Rattle.std.specs.Option.{option_map}
use Rattle.std.proofs.lemmas.List.Elements.{All-replicate}
use Rattle.pts_terms.specs.Tree.{Named}
use Rattle.pts_record.specs.declared.shape.Shape.{Shape}
use Rattle.pts_match.specs.declared.subterm.Subterm.{Subterm}
use Rattle.pts_match.specs.Matching.{Assignment, AreClear, IsClear, match_of, match_under, value_of, values_of}

none_values : (ss : List Shape) (k : ℕ) → values_of ss (replicate k None) ≡ replicate k None
none_values ss zero = refl
none_values ss (suc k) = ap (λ s. None ∷ s) (none_values ss k)

pub none_clear : (ss : List Shape) (ps : List (Option Subterm)) (k : ℕ) → ps ≡ replicate k None → AreClear ss ps
none_clear ss ps k e = subst (AreClear ss) (sym e) (All-replicate (λ o. IfSome o (IsClear ss)) k None tt)

pub match_from_none : (ss : List Shape) (ps : List (Option Subterm)) (k : ℕ) (r : Option Assignment) (C g : Named) → ps ≡ replicate k None → r ≡ match_under 0 C g (values_of ss ps) → r ≡ match_of k C g
match_from_none ss ps k r C g e q = q ∙ ap (λ x. match_under 0 C g (values_of ss x)) e ∙ ap (match_under 0 C g) (none_values ss k)

pub ruleset finding = (none_clear, match_from_none)
