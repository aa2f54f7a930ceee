-- Where the first of some bytes cuts a text.
use Rattle.std.proofs.Common.{◌≡◌, ℕ, zero, suc, ◌<◌, ◌≤◌, ◌+◌, ◌-◌, ◌≢◌, List, [], ◌∷◌, length, get_or, take, drop, refl, sym, ◌∙◌, ap, add-one, arith, length-drop, ◌==◌, if◌then◌else◌}
use Rattle.std.proofs.lemmas.List.{take_all}
use Rattle.pts_bytes.specs.Pieces.{pieces}

pub pieces-none : (b : ℕ) (text : List ℕ) → ((k : ℕ) → k < length text → get_or text k 0 ≢ b) → pieces b text ≡ text ∷ []
pieces-none b [] none = refl
pieces-none b (c ∷ cs) none =
    let here : c ≢ b = none 0 (omega arith) in
    let later : pieces b cs ≡ cs ∷ [] = pieces-none b cs (λ k below. none (suc k) (omega arith)) in
    grind (arith, here, later)

pieces-cut : (b : ℕ) (text : List ℕ) (i : ℕ) → i < length text → ((k : ℕ) → k < i → get_or text k 0 ≢ b) → get_or text i 0 ≡ b → pieces b text ≡ take i text ∷ pieces b (drop (suc i) text)
pieces-cut b [] i below none found = absurd (omega arith)
pieces-cut b (c ∷ cs) zero below none found = grind (arith, found)
pieces-cut b (c ∷ cs) (suc i) below none found =
    let here : c ≢ b = none 0 (omega arith) in
    let later : pieces b cs ≡ take i cs ∷ pieces b (drop (suc i) cs) = pieces-cut b cs i (omega arith) (λ k before. none (suc k) (omega arith)) found in
    grind (arith, here, later)

-- What comes after a place, as the code cuts it.
after_place : (text : List ℕ) (i : ℕ) → take (length text - (i + 1)) (drop (i + 1) text) ≡ drop (suc i) text
after_place text i = let all : length (drop (i + 1) text) ≤ length text - (i + 1) = omega (arith, length-drop (i + 1) text) in take_all _ _ all ∙ ap (λ n. drop n text) (add-one i)

pub pieces-first : (b : ℕ) (text : List ℕ) (i : ℕ) → i < length text → ((k : ℕ) → k < i → get_or text k 0 ≢ b) → get_or text i 0 ≡ b → pieces b text ≡ take i text ∷ pieces b (take (length text - (i + 1)) (drop (i + 1) text))
pieces-first b text i below none found = pieces-cut b text i below none found ∙ ap (λ rest. take i text ∷ pieces b rest) (sym (after_place text i))
