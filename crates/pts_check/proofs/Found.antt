-- Look-ups in fronts and contexts.
use Rattle.std.proofs.Common.{◌≡◌, ℕ, zero, suc, [], ◌∷◌, length, nat_lt, refl, arith}
use Rattle.std.specs.Prelude.{is_some}
use Rattle.std.specs.Option.{option_map}
use Rattle.std.proofs.lemmas.Bool.Decides.{nat_tests}
use Rattle.pts_terms.specs.Tree.{Bare, let_in}
use Rattle.pts_ctx.specs.Front.{assumed, defined, unknown, Locals, entry_at}
use Rattle.pts_rules.specs.Parts.{let_with}
use Rattle.pts_check.specs.Stated.{newest_definition}

pub entry_there : (L : Locals) (i : ℕ) → is_some (entry_at L i) ≡ nat_lt i (length L)
entry_there [] i = grind (arith, nat_tests)
entry_there (e ∷ L) zero = grind (arith, nat_tests)
entry_there (e ∷ L) (suc i) = grind (arith, nat_tests, entry_there L i)

pub let_with_is : (L : Locals) (t : Bare) → let_with L t ≡ option_map (λ d. let_in d.0 d.1 t) (newest_definition L)
let_with_is [] t = refl
let_with_is (assumed A ∷ L) t = refl
let_with_is (defined a A ∷ L) t = refl
let_with_is (unknown ∷ L) t = refl
