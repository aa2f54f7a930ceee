-- Judgements and comparisons at equal terms.
use Rattle.std.proofs.Common.{◌≡◌}
use mathlib.Core.Path.{subst₂, subst₃}
use Rattle.pts_terms.specs.Tree.{Bare}
use Rattle.pts_ctx.specs.System.{Specification}
use Rattle.pts_ctx.specs.Front.{Front, Locals}
use Rattle.pts_rules.specs.Step.{Convertible}
use Rattle.pts_rules.specs.Derives.{Derives}

pub moved : {S : Specification} {G : Front} {L : Locals} {t u T U : Bare} → t ≡ u → T ≡ U → Derives S G L t T → Derives S G L u U
moved {S} {G} {L} p q d = subst₂ (λ v V. Derives S G L v V) p q d

pub moved_in : {S : Specification} {G : Front} {L M : Locals} {t u T U : Bare} → L ≡ M → t ≡ u → T ≡ U → Derives S G L t T → Derives S G M u U
moved_in {S} {G} o p q d = subst₃ (λ N v V. Derives S G N v V) o p q d

pub compared : {G : Front} {L : Locals} {t u v w : Bare} → t ≡ v → u ≡ w → Convertible G L t u → Convertible G L v w
compared {G} {L} p q c = subst₂ (λ x y. Convertible G L x y) p q c

pub compared_in : {G : Front} {L M : Locals} {t u v w : Bare} → L ≡ M → t ≡ v → u ≡ w → Convertible G L t u → Convertible G M v w
compared_in {G} o p q c = subst₃ (λ N x y. Convertible G N x y) o p q c
