-- Texts that are written one behind the other.
use Rattle.std.proofs.Common.{◌≡◌, refl, ◌∙◌, ap, arith, ℕ, suc, List, [], ◌∷◌, ◌++◌, None, get_or, append_assoc, length, map}
use Rattle.std.specs.Prelude.{codes, slice_get}
use Rattle.std.specs.Option.{unwrap_or}
use Rattle.std.proofs.lemmas.Option.{unwrap_or-slice_get}
use Rattle.pts_names.specs.Name.{Name}
use Rattle.pts_terms.specs.Tree.{Named}
use Rattle.pts_printed.specs.Locals.{comma_joined, goal_line, hypotheses}
use Rattle.pts_printer.specs.Commas.{commas, turnstile}

pub let_joined : (p x d A b : List ℕ) → ((p ++ (codes "let " ++ (x ++ (codes " := " ++ d)))) ++ (codes " : " ++ (A ++ codes " in "))) ++ b ≡ p ++ (codes "let " ++ (x ++ (codes " := " ++ (d ++ (codes " : " ++ (A ++ (codes " in " ++ b)))))))
let_joined p x d A b = simp append_assoc refl

pub none_there : (xs : List (List ℕ)) (i : ℕ) → None ≡ slice_get xs i → [] ≡ get_or xs i []
none_there xs i h = ap (λ o. unwrap_or o []) h ∙ unwrap_or-slice_get xs i []

append_none : (h : List ℕ) → h ++ [] ≡ h
append_none [] = refl
append_none (b ∷ h) = ap (λ t. b ∷ t) (append_none h)

commas_behind : (n : ℕ) (h : List ℕ) (hs : List (List ℕ)) → h ++ commas (suc n) hs ≡ comma_joined (h ∷ hs)
commas_behind n h [] = append_none h
commas_behind n h (k ∷ hs) = ap (λ t. h ++ (codes ", " ++ t)) (commas_behind (suc n) k hs)

pub commas_first : (hs : List (List ℕ)) → commas 0 hs ≡ comma_joined hs
commas_first [] = refl
commas_first (h ∷ hs) = commas_behind 0 h hs

pub goal_joined : {A : Type 0} (f : A → Named) (sorts : List (List ℕ)) (names : List Name) (types : List A) (statement : List ℕ) → length names ≡ length types → (comma_joined (hypotheses sorts [] names (map f types)) ++ turnstile types) ++ statement ≡ goal_line (hypotheses sorts [] names (map f types)) statement
goal_joined f sorts [] [] statement e = refl
goal_joined f sorts (x ∷ names) (A ∷ types) statement e = append_assoc (comma_joined (hypotheses sorts [] (x ∷ names) (map f (A ∷ types)))) (codes " |- ") statement
goal_joined f sorts [] (A ∷ types) statement e = absurd (omega arith)
goal_joined f sorts (x ∷ names) [] statement e = absurd (omega arith)
