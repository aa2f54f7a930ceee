-- The two sorts of an axiom.
use Rattle.std.proofs.Common.{◌≡◌, ◌∷◌, [], ◌∙◌, List, ℕ, Bool, true, false, Ok, Err, ap}
use Rattle.std.specs.Prelude.{if◌then◌else◌, ◌&&◌}
use Rattle.pts_certificate.specs.declared.fault.LineFault.TheVariants.{BadLine}
use Rattle.pts_certificate.specs.Rows.{alone, word_where, is_declared, two_sorts}

abbrev pair : List ℕ → List ℕ → List ℕ × List ℕ
pair x y = (x, y)

both : (p q : Bool) (x s y t : List ℕ) → (if p then Ok x else Err BadLine) ≡ Ok s → (if q then Ok y else Err BadLine) ≡ Ok t → (if p && q then Ok (pair x y) else Err BadLine) ≡ Ok (pair s t)
both true true x s y t f g =
    let p : x ≡ s = cc f in
    let q : y ≡ t = cc g in
    ap (λ z. Ok (pair z y)) p ∙ ap (λ z. Ok (pair s z)) q
both true false x s y t f g = absurd (cc g)
both false q x s y t f g = absurd (cc f)

both_alone : {U : Type 0} (u : U) (sorts rest : List (List ℕ)) (x y s t : List ℕ) → Ok u ≡ alone rest u → word_where (is_declared sorts) x ≡ Ok s → word_where (is_declared sorts) y ≡ Ok t → two_sorts sorts (x ∷ y ∷ rest) ≡ Ok (s, t)
both_alone u sorts [] x y s t e f g = both (is_declared sorts x) (is_declared sorts y) x s y t f g
both_alone u sorts (z ∷ rest) x y s t e f g = absurd (cc e)

pub two_words : {U : Type 0} (u : U) (sorts fields more rest : List (List ℕ)) (x y s t : List ℕ) → fields ≡ x ∷ more → more ≡ y ∷ rest → Ok u ≡ alone rest u → word_where (is_declared sorts) x ≡ Ok s → word_where (is_declared sorts) y ≡ Ok t → two_sorts sorts fields ≡ Ok (s, t)
two_words u sorts fields more rest x y s t p q e f g = ap (two_sorts sorts) (p ∙ ap (λ l. x ∷ l) q) ∙ both_alone u sorts rest x y s t e f g
