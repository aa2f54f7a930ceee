-- A head step is a step.
use Rattle.std.proofs.Common.{ℕ, ◌≡◌, refl, Option, Some, None}
use Rattle.pts_names.specs.Name.{Name}
use Rattle.pts_terms.specs.Tree.{Bare, sort, const, var, app, lam, pi, let_in}
use Rattle.pts_ctx.specs.Front.{Global, Front, find, Local, assumed, defined, unknown, Locals, entry_at}
use Rattle.pts_ctx.proofs.Find.{some_same}
use Rattle.pts_rules.specs.Step.{Step, beta, zeta, delta, delta_local, in_function, head_step, body_of, definition_at, apply_to}

const_steps : {G : Front} {L : Locals} (x : Name) (u : Bare) (o : Option (Global (Unit {0}))) → find x G ≡ o → body_of o ≡ Some u → Step G L (const x) u
const_steps x u None p q = absurd (cc q)
const_steps x u (Some e) p q = delta p q

var_steps : {G : Front} {L : Locals} (i : ℕ) (u : Bare) (o : Option (Local (Unit {0}))) → entry_at L i ≡ o → definition_at i o ≡ Some u → Step G L (var i) u
var_steps i u None p q = absurd (cc q)
var_steps i u (Some (assumed A)) p q = absurd (cc q)
var_steps i u (Some (defined a A)) p q = rw (← (some_same q)) (delta_local p)
var_steps i u (Some unknown) p q = absurd (cc q)

app_steps : {G : Front} {L : Locals} (f a u : Bare) (o : Option Bare) → ((g : Bare) → o ≡ Some g → Step G L f g) → apply_to a o ≡ Some u → Step G L (app f a) u
app_steps f a u None k q = absurd (cc q)
app_steps f a u (Some g) k q = rw (← (some_same q)) (in_function (k g refl))

pub head_is_step : (G : Front) (L : Locals) (t u : Bare) → head_step G L t ≡ Some u → Step G L t u
unfolding head_step
head_is_step G L (sort s) u h = absurd (cc h)
head_is_step G L (const x) u h = const_steps x u (find x G) refl h
head_is_step G L (var i) u h = var_steps i u (entry_at L i) refl h
head_is_step G L (app (lam A b) a) u h = rw (← (some_same h)) beta
head_is_step G L (app f a) u h = app_steps f a u (head_step G L f) (λ g p. head_is_step G L f g p) h
head_is_step G L (lam A b) u h = absurd (cc h)
head_is_step G L (pi A b) u h = absurd (cc h)
head_is_step G L (let_in a A b) u h = rw (← (some_same h)) zeta
