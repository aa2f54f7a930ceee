-- Passes of which each is known by its place.
use Rattle.std.proofs.Common.{◌≡◌, ◌∙◌, refl, sym, ap, subst, ℕ, suc, ◌<◌, List, [], ◌∷◌, ◌++◌, length, map, take, drop, take_at, arith}
use Rattle.std.specs.List.{AllByRecursion}
use Rattle.atomic_table.specs.Seated.{TableId}
use Rattle.pts_ctx.specs.System.{Specification}
use Rattle.pts_core.specs.Histories.{Past}
use Rattle.pts_share.specs.Passes.{IsPassOf, Pass, history_of}
use Rattle.pts_share_tests.specs.Beside.{EachStays}

module _ (table : TableId) (S : Specification) where
  -- Past the first pass.
  rest_stays : (p q : Pass) (ps qs : List Pass) → EachStays (IsPassOf table S) (p ∷ ps) (q ∷ qs) → EachStays (IsPassOf table S) ps qs
  rest_stays p q ps qs h = let long = h.0 in (omega arith, λ k d l. let next : suc k < length (p ∷ ps) = omega arith in h.1 (suc k) d next)

  pub all_stay : (ps qs : List Pass) → EachStays (IsPassOf table S) ps qs → AllByRecursion (IsPassOf table S) qs
  all_stay ps [] h = tt
  all_stay [] (q ∷ qs) h = let long = h.0 in absurd (omega arith)
  all_stay (p ∷ ps) (q ∷ qs) h = let first : 0 < length (p ∷ ps) = omega arith in ((h.1 0 p first).0, all_stay ps qs (rest_stays p q ps qs h))

  pub sessions_stay : (ps qs : List Pass) → EachStays (IsPassOf table S) ps qs → map (λ p. p.owner) qs ≡ map (λ p. p.owner) ps
  sessions_stay [] [] h = refl
  sessions_stay (p ∷ ps) [] h = let long = h.0 in absurd (omega arith)
  sessions_stay [] (q ∷ qs) h = let long = h.0 in absurd (omega arith)
  sessions_stay (p ∷ ps) (q ∷ qs) h =
      let first : 0 < length (p ∷ ps) = omega arith in
      ap (λ n. n ∷ map (λ p. p.owner) qs) (h.1 0 p first).1 ∙ ap (λ ns. p.owner ∷ ns) (sessions_stay ps qs (rest_stays p q ps qs h))

-- What a slice of all of a vector leaves there.
pub written_back : {A : Type 0} (old new : List A) (n : ℕ) → length new ≡ length old → n ≡ length old → take n (new ++ drop (length new) old) ≡ new
written_back old new n same all = take_at new (drop (length new) old) n (same ∙ sym all)

each_passes : (table : TableId) (S : Specification) (h : List Past) (ps : List Pass) → AllByRecursion (λ p. IsPassOf table S p × (history_of p ≡ h)) ps → AllByRecursion (IsPassOf table S) ps
each_passes table S h [] a = tt
each_passes table S h (p ∷ ps) a = (a.0.0, each_passes table S h ps a.1)

-- What is handed out at the opening.
pub handed_out : (table : TableId) (S T : Specification) (h : List Past) (ps qs : List Pass) → AllByRecursion (λ p. IsPassOf table T p × (history_of p ≡ h)) ps → T ≡ S → qs ≡ ps → AllByRecursion (IsPassOf table S) qs
handed_out table S T h ps qs a same all = subst (AllByRecursion (IsPassOf table S)) (sym all) (subst (λ U. AllByRecursion (IsPassOf table U) ps) same (each_passes table T h ps a))
