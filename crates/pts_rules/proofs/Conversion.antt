-- Convertibility is an equivalence and a congruence.
use Rattle.std.proofs.Common.{◌∷◌}
use Rattle.pts_terms.specs.Tree.{Bare, app, lam, pi, let_in}
use Rattle.pts_ctx.specs.Front.{Front, defined, unknown, Locals}
use Rattle.pts_rules.specs.Step.{Step, in_function, in_argument, in_lam_domain, in_lam_body, in_pi_domain, in_pi_body, in_definition, in_definition_type, in_definition_body, Convertible, equal, forwards, backwards}

pub joined : {G : Front} {L : Locals} {t u v : Bare} → Convertible G L t u → Convertible G L u v → Convertible G L t v
joined equal d = d
joined (forwards s c) d = forwards s (joined c d)
joined (backwards s c) d = backwards s (joined c d)

pub turned : {G : Front} {L : Locals} {t u : Bare} → Convertible G L t u → Convertible G L u t
turned equal = equal
turned (forwards s c) = joined (turned c) (backwards s equal)
turned (backwards s c) = joined (turned c) (forwards s equal)

-- A place at which steps can be taken carries conversions too.
pub carried : {G : Front} (L M : Locals) (f : Bare → Bare) → ((t u : Bare) → Step G L t u → Step G M (f t) (f u)) → {t u : Bare} → Convertible G L t u → Convertible G M (f t) (f u)
carried L M f k equal = equal
carried L M f k (forwards s c) = forwards (k _ _ s) (carried L M f k c)
carried L M f k (backwards s c) = backwards (k _ _ s) (carried L M f k c)

pub convertible_app : {G : Front} {L : Locals} {f g a b : Bare} → Convertible G L f g → Convertible G L a b → Convertible G L (app f a) (app g b)
convertible_app {L = L} {g = g} {a = a} c d = joined (carried L L (λ t. app t a) (λ t u s. in_function s) c) (carried L L (λ t. app g t) (λ t u s. in_argument s) d)

pub convertible_lam : {G : Front} {L : Locals} {A B b c : Bare} → Convertible G L A B → Convertible G (unknown ∷ L) b c → Convertible G L (lam A b) (lam B c)
convertible_lam {L = L} {B = B} {b = b} c d = joined (carried L L (λ t. lam t b) (λ t u s. in_lam_domain s) c) (carried (unknown ∷ L) L (λ t. lam B t) (λ t u s. in_lam_body s) d)

pub convertible_pi : {G : Front} {L : Locals} {A B b c : Bare} → Convertible G L A B → Convertible G (unknown ∷ L) b c → Convertible G L (pi A b) (pi B c)
convertible_pi {L = L} {B = B} {b = b} c d = joined (carried L L (λ t. pi t b) (λ t u s. in_pi_domain s) c) (carried (unknown ∷ L) L (λ t. pi B t) (λ t u s. in_pi_body s) d)

-- The body of a local definition is compared under the new definition.
pub convertible_let : {G : Front} {L : Locals} {a c A C b d : Bare} → Convertible G L a c → Convertible G L A C → Convertible G (defined c C ∷ L) b d → Convertible G L (let_in a A b) (let_in c C d)
convertible_let {L = L} {c = c} {A = A} {C = C} {b = b} p q r =
    joined (carried L L (λ t. let_in t A b) (λ t u s. in_definition s) p) (joined (carried L L (λ t. let_in c t b) (λ t u s. in_definition_type s) q) (carried (defined c C ∷ L) L (λ t. let_in c C t) (λ t u s. in_definition_body s) r))
