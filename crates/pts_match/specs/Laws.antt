-- The laws of matching: a match makes the pattern the term, each way to do so is one of it, and no other match does.
use Rattle.std.specs.Prelude.{◌≡◌, ◌↔◌, ℕ, suc, ◌+◌, ◌-◌, List, [], ◌∷◌, length, map, slice_index_or, Option, Some, None, nat_lt, if◌then◌else◌}
use Rattle.std.specs.Option.{option_map}
use Rattle.pts_terms.specs.Tree.{Named, bare, lift, sort, const, var, app, named_lam, named_pi, named_let}
use Rattle.pts_match.specs.Matching.{Assignment, match_of}

-- Puts the terms of a list for the indices from n on, under n binders, and lowers each greater index by their number.
abbrev pub put_all_index : ℕ → List Named → ℕ → Named
put_all_index n r i = if nat_lt i n then var i else (if nat_lt i (n + length r) then lift 0 n (slice_index_or r (i - n) (sort 0)) else var (i - length r))

abbrev pub put_all : ℕ → List Named → Named → Named
put_all n r (sort s) = sort s
put_all n r (const c) = const c
put_all n r (var i) = put_all_index n r i
put_all n r (app f a) = app (put_all n r f) (put_all n r a)
put_all n r (named_lam x A b) = named_lam x (put_all n r A) (put_all (suc n) r b)
put_all n r (named_pi x A b) = named_pi x (put_all n r A) (put_all (suc n) r b)
put_all n r (named_let x a A b) = named_let x (put_all n r a) (put_all n r A) (put_all (suc n) r b)

-- The terms are as many as the variables, and equal to the assignment's where it has one.
abbrev pub Allows : Assignment → List Named → Type 0
Allows [] [] = Unit {0}
Allows (None ∷ s) (t ∷ r) = Allows s r
Allows (Some a ∷ s) (t ∷ r) = (bare a ≡ bare t) × Allows s r
Allows [] (t ∷ r) = ⊥
Allows (o ∷ s) [] = ⊥

-- The terms, put for the k variables of the pattern, make it the term, apart from printed names.
abbrev pub Solves : ℕ → Named → Named → List Named → Type 0
Solves k C g r = (length r ≡ k) × (bare (put_all 0 r C) ≡ bare g)

-- The assignment allows the solutions and nothing else.
abbrev pub IsMatch : ℕ → Named → Named → Assignment → Type 0
IsMatch k C g s = (r : List Named) → Allows s r ↔ Solves k C g r

-- What is found is a match.
abbrev pub MatchesAreSound : Type 0
MatchesAreSound = (k : ℕ) (C g : Named) (s : Assignment) → match_of k C g ≡ Some s → IsMatch k C g s

-- Where nothing is found there is no solution.
abbrev pub MatchesAreComplete : Type 0
MatchesAreComplete = (k : ℕ) (C g : Named) (r : List Named) → match_of k C g ≡ None → Solves k C g r → ⊥

-- Two matches are one, apart from printed names.
abbrev pub MatchesAreUnique : Type 0
MatchesAreUnique = (k : ℕ) (C g : Named) (s q : Assignment) → IsMatch k C g s → IsMatch k C g q → map (option_map bare) s ≡ map (option_map bare) q
