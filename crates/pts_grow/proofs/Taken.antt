-- Terms of the program whose parts were taken in.
use Rattle.std.proofs.Common.{◌≡◌, ℕ, Result, ap, ◌∙◌, subst, true}
use Rattle.std.specs.Prelude.{OnOk, IfErr}
use Rattle.pts_names.specs.Name.{Name}
use Rattle.pts_terms.specs.declared.term.Term.{Term}
use Rattle.pts_terms.specs.declared.term.Term.TheVariants.{App, Lam, Pi, Let}
use Rattle.pts_terms.specs.Tree.{Named, app, named_lam, named_pi, named_let}
use Rattle.pts_terms.specs.Limits.{within}
use Rattle.pts_terms.specs.Seen.{named}
use Rattle.pts_record.specs.Table.{Tables, named_at}
use Rattle.pts_record.proofs.Parts.{app_is, lam_is, pi_is, let_is}
use Rattle.pts_grow.specs.declared.fault.TermFault.{TermFault}
use Rattle.pts_grow.specs.Keeps.{Keeps, IsTerm, WhyNot}

pub app_taken : (a b : Tables) (i j : ℕ) (t f u f' u' : Term) → t ≡ App f u → IsTerm a i (named f') → f' ≡ f → Keeps a b → IsTerm b j (named u') → u' ≡ u → app (named_at b.shapes i) (named_at b.shapes j) ≡ named t
app_taken a b i j t f u f' u' e h p k l q = app_is a.shapes b.shapes i j t f u e h.0 (h.1 ∙ ap named p) k.shapes (l.1 ∙ ap named q)

pub lam_taken : (a b : Tables) (i j : ℕ) (x y : Name) (t A u A' u' : Term) → t ≡ Lam x A u → y ≡ x → IsTerm a i (named A') → A' ≡ A → Keeps a b → IsTerm b j (named u') → u' ≡ u → named_lam y (named_at b.shapes i) (named_at b.shapes j) ≡ named t
lam_taken a b i j x y t A u A' u' e o h p k l q = lam_is a.shapes b.shapes i j x y t A u e o h.0 (h.1 ∙ ap named p) k.shapes (l.1 ∙ ap named q)

pub pi_taken : (a b : Tables) (i j : ℕ) (x y : Name) (t A u A' u' : Term) → t ≡ Pi x A u → y ≡ x → IsTerm a i (named A') → A' ≡ A → Keeps a b → IsTerm b j (named u') → u' ≡ u → named_pi y (named_at b.shapes i) (named_at b.shapes j) ≡ named t
pi_taken a b i j x y t A u A' u' e o h p k l q = pi_is a.shapes b.shapes i j x y t A u e o h.0 (h.1 ∙ ap named p) k.shapes (l.1 ∙ ap named q)

pub let_taken : (a b c : Tables) (i j n : ℕ) (x y : Name) (t d A u d' A' u' : Term) → t ≡ Let x d A u → y ≡ x → IsTerm a i (named d') → d' ≡ d → Keeps a b → IsTerm b j (named A') → A' ≡ A → Keeps b c → IsTerm c n (named u') → u' ≡ u → named_let y (named_at c.shapes i) (named_at c.shapes j) (named_at c.shapes n) ≡ named t
let_taken a b c i j n x y t d A u d' A' u' e o h p k l q g m r = let_is a.shapes b.shapes c.shapes i j n x y t d A u e o h.0 (h.1 ∙ ap named p) k.shapes l.0 (l.1 ∙ ap named q) g.shapes (m.1 ∙ ap named r)

pub if_within : (r : Result ℕ TermFault) (t u : Named) → t ≡ u → OnOk r (within t ≡ true) → OnOk r (within u ≡ true)
if_within r t u e h = subst (λ x. OnOk r (within x ≡ true)) e h

pub if_refused : (r : Result ℕ TermFault) (t u : Named) → t ≡ u → IfErr r (λ w. WhyNot w t) → IfErr r (λ w. WhyNot w u)
if_refused r t u e h = subst (λ x. IfErr r (λ w. WhyNot w x)) e h
