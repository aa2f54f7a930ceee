-- Contractions, steps at any place, convertibility, and the head step.
use Rattle.std.specs.Prelude.{ℕ, suc, List, ◌∷◌, ◌≡◌, Option, Some, None}
use Rattle.pts_names.specs.Name.{Name}
use Rattle.pts_terms.specs.Tree.{Tree, Bare, sort, const, var, app, named_lam, named_pi, named_let, lam, pi, let_in, lift, subst}
use Rattle.pts_ctx.specs.Front.{Global, open_body, Front, find, Local, assumed, defined, unknown, Locals, entry_at}

-- One contraction at any one place of a term, in a front and a local context.
pub data Step (G : Front) : Locals → Bare → Bare → Type 0 where
  beta : {L : Locals} {A b a : Bare} → Step G L (app (lam A b) a) (subst 0 a b)
  zeta : {L : Locals} {a A b : Bare} → Step G L (let_in a A b) (subst 0 a b)
  delta : {L : Locals} {x : Name} {e : Global (Unit {0})} {a : Bare} → find x G ≡ Some e → open_body e ≡ Some a → Step G L (const x) a
  delta_local : {L : Locals} {i : ℕ} {a A : Bare} → entry_at L i ≡ Some (defined a A) → Step G L (var i) (lift 0 (suc i) a)
  in_function : {L : Locals} {f g a : Bare} → Step G L f g → Step G L (app f a) (app g a)
  in_argument : {L : Locals} {f a b : Bare} → Step G L a b → Step G L (app f a) (app f b)
  in_lam_domain : {L : Locals} {A B b : Bare} → Step G L A B → Step G L (lam A b) (lam B b)
  in_lam_body : {L : Locals} {A b c : Bare} → Step G (unknown ∷ L) b c → Step G L (lam A b) (lam A c)
  in_pi_domain : {L : Locals} {A B b : Bare} → Step G L A B → Step G L (pi A b) (pi B b)
  in_pi_body : {L : Locals} {A b c : Bare} → Step G (unknown ∷ L) b c → Step G L (pi A b) (pi A c)
  in_definition : {L : Locals} {a c A b : Bare} → Step G L a c → Step G L (let_in a A b) (let_in c A b)
  in_definition_type : {L : Locals} {a A B b : Bare} → Step G L A B → Step G L (let_in a A b) (let_in a B b)
  in_definition_body : {L : Locals} {a A b c : Bare} → Step G (defined a A ∷ L) b c → Step G L (let_in a A b) (let_in a A c)

-- A finite chain of steps joins the two terms, each forwards or backwards.
pub data Convertible (G : Front) (L : Locals) : Bare → Bare → Type 0 where
  equal : {t : Bare} → Convertible G L t t
  forwards : {t u v : Bare} → Step G L t u → Convertible G L u v → Convertible G L t v
  backwards : {t u v : Bare} → Step G L u t → Convertible G L u v → Convertible G L t v

-- The body of the entry that was found.
abbrev pub body_of : {B : Type 0} → Option (Global B) → Option (Tree B)
body_of None = None
body_of (Some e) = open_body e

-- The definition that index i stands for, after the entry itself.
abbrev pub definition_at : {B : Type 0} → ℕ → Option (Local B) → Option (Tree B)
definition_at i None = None
definition_at i (Some (assumed A)) = None
definition_at i (Some (defined a A)) = Some (lift 0 (suc i) a)
definition_at i (Some unknown) = None

abbrev pub apply_to : {B : Type 0} → Tree B → Option (Tree B) → Option (Tree B)
apply_to a None = None
apply_to a (Some f) = Some (app f a)

-- The head step: that of the function, unless the application or the term itself contracts.
unfoldable pub head_step : {B : Type 0} → List (Global B) → List (Local B) → Tree B → Option (Tree B)
head_step G L (sort s) = None
head_step G L (const x) = body_of (find x G)
head_step G L (var i) = definition_at i (entry_at L i)
head_step G L (app (named_lam x A b) a) = Some (subst 0 a b)
head_step G L (app f a) = apply_to a (head_step G L f)
head_step G L (named_lam x A b) = None
head_step G L (named_pi x A B) = None
head_step G L (named_let x a A b) = Some (subst 0 a b)
