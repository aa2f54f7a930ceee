-- The free indices of a derivable judgement point into its local context.
use Rattle.std.proofs.Common.{ℕ, suc, [], ◌∷◌, length, arith}
use Rattle.pts_terms.specs.Tree.{Bare, lift, Below}
use Rattle.pts_terms.proofs.Free.{Below_lift, Below_put}
use Rattle.pts_ctx.specs.System.{Specification}
use Rattle.pts_ctx.specs.Front.{Front, assumed, defined, unknown, Locals}
use Rattle.pts_rules.specs.Derives.{Derives, axioms, global_start, global_start_defined, global_weakening, global_weakening_defined, local_start, local_start_defined, local_weakening, local_weakening_defined, product, application, abstraction, formation, introduction, conversion}

-- The free indices of each entry point into the entries before it.
abbrev pub Scoped : Locals → Type 0
Scoped [] = Unit {0}
Scoped (assumed A ∷ L) = Below (length L) A × Scoped L
Scoped (defined a A ∷ L) = Below (length L) a × Below (length L) A × Scoped L
Scoped (unknown ∷ L) = Scoped L

one_longer : (n : ℕ) (t : Bare) → Below n t → Below (suc n) (lift 0 1 t)
one_longer n t h = Below_lift 0 1 n (suc n) t (omega arith) h

pub derives_scoped : {S : Specification} {G : Front} {L : Locals} {t T : Bare} → Derives S G L t T → Below (length L) t × Below (length L) T × Scoped L
derives_scoped (axioms p) = (tt, tt, tt)
derives_scoped (global_start x d f) = (tt, (derives_scoped d).0, tt)
derives_scoped (global_start_defined x d f) = (tt, (derives_scoped d).1, tt)
derives_scoped (global_weakening x b d f) = derives_scoped b
derives_scoped (global_weakening_defined x b d f) = derives_scoped b
derives_scoped (local_start {L = L} {A = A} d) = (omega arith, one_longer (length L) A (derives_scoped d).0, ((derives_scoped d).0, (derives_scoped d).2))
derives_scoped (local_start_defined {L = L} {A = A} d) = (omega arith, one_longer (length L) A (derives_scoped d).1, ((derives_scoped d).0, (derives_scoped d).1, (derives_scoped d).2))
derives_scoped (local_weakening {L = L} {b = b} {B = B} j d) = (one_longer (length L) b (derives_scoped j).0, one_longer (length L) B (derives_scoped j).1, ((derives_scoped d).0, (derives_scoped d).2))
derives_scoped (local_weakening_defined {L = L} {b = b} {B = B} j d) = (one_longer (length L) b (derives_scoped j).0, one_longer (length L) B (derives_scoped j).1, ((derives_scoped d).0, (derives_scoped d).1, (derives_scoped d).2))
derives_scoped (product a b r) = (((derives_scoped a).0, (derives_scoped b).0), tt, (derives_scoped a).2)
derives_scoped (application {L = L} {a = a} {B = B} f j) = (((derives_scoped f).0, (derives_scoped j).0), Below_put 0 0 (length L) (length L) a B (omega arith) (omega arith) (derives_scoped j).0 (derives_scoped f).1.1, (derives_scoped f).2)
derives_scoped (abstraction b p) = (((derives_scoped p).0.0, (derives_scoped b).0), (derives_scoped p).0, (derives_scoped p).2)
derives_scoped (formation b) = (((derives_scoped b).2.0, (derives_scoped b).2.1, (derives_scoped b).0), tt, (derives_scoped b).2.2)
derives_scoped (introduction b p) = (((derives_scoped p).0.0, (derives_scoped p).0.1, (derives_scoped b).0), (derives_scoped p).0, (derives_scoped p).2)
derives_scoped (conversion b c v) = ((derives_scoped b).0, (derives_scoped c).0, (derives_scoped b).2)

pub judgement_scoped : (S : Specification) (G : Front) (L : Locals) (t T : Bare) → Derives S G L t T → Below (length L) t × Below (length L) T
judgement_scoped S G L t T d = let (p, q, _) = derives_scoped d in (p, q)
