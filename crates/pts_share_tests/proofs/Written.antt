-- What an owner writes into a log, if there is memory for it.
use Rattle.std.proofs.Common.{◌≡◌, ◌∙◌, refl, sym, ap, ℕ, Bool, true, false, if◌then◌else◌, List, [], ◌∷◌, ◌++◌, map}
use Rattle.std.proofs.lemmas.List.{append-nil, map-append}
use Rattle.std.specs.List.{AllByRecursion}

abbrev pub entries : List ℕ → List (ℕ × ℕ)
entries = map (λ n. (n, n))

pub wrote : (owner : ℕ) (old new : List ℕ) (done : Bool) → new ≡ (if done then old ++ owner ∷ [] else old) → (mine : List (ℕ × ℕ)) × (entries old ++ mine ≡ entries new) × AllByRecursion (λ e. e.0 ≡ owner) mine
wrote owner old new true e = ((owner, owner) ∷ [], sym (ap entries e ∙ map-append (λ n. (n, n)) old (owner ∷ [])), (refl, tt))
wrote owner old new false e = ([], append-nil (entries old) ∙ sym (ap entries e), tt)
