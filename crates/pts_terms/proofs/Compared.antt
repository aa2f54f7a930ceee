-- Terms of the program, compared part by part with the result of an operation.
use Rattle.std.proofs.Common.{ℕ, suc, ◌+◌, Bool, true, ◌≡◌, sym, ap, arith, ◌∙◌}
use Rattle.std.specs.Prelude.{◌&&◌}
use mathlib.Core.Path.{ap₂}
use Rattle.pts_names.specs.Name.{Name}
use Rattle.pts_terms.specs.declared.term.Term.{Term}
use Rattle.pts_terms.specs.declared.term.Term.TheVariants.{Lam, Pi, Let, rolls-Lam, rolls-Pi, rolls-Let}
use Rattle.pts_terms.specs.declared.term.Term.TheOpen.{Term-F}
use Rattle.pts_terms.specs.declared.term.Term.TheFolds.{fold-roll-Term}
use Rattle.pts_terms.specs.Seen.{named, named_step}
use Rattle.pts_terms.specs.Tree.{Bare, Named, named_lam, named_pi, named_let, lam, pi, let_in, bare, lift, put, same_term}

pub named_of_lam : (t T A : Term) (x : Name) → t ≡ Lam x T A → named t ≡ named_lam x (named T) (named A)
named_of_lam t T A x e = ap named (e ∙ sym (rolls-Lam x T A)) ∙ fold-roll-Term Named named_step (Term-F.Lam x T A)

pub named_of_pi : (t T A : Term) (x : Name) → t ≡ Pi x T A → named t ≡ named_pi x (named T) (named A)
named_of_pi t T A x e = ap named (e ∙ sym (rolls-Pi x T A)) ∙ fold-roll-Term Named named_step (Term-F.Pi x T A)

pub named_of_let : (t D T A : Term) (x : Name) → t ≡ Let x D T A → named t ≡ named_let x (named D) (named T) (named A)
named_of_let t D T A x e = ap named (e ∙ sym (rolls-Let x D T A)) ∙ fold-roll-Term Named named_step (Term-F.Let x D T A)

one_more : (a b r : Bool) → true ≡ a → r ≡ b → r ≡ (a && b)
one_more a b r p q = grind arith

-- The test for an operation F, which is G behind one more binder.
abbrev pub Tests : (Bare → Bare) → Bool → Term → Term → Type 0
Tests F r t u = r ≡ same_term (bare (named t)) (F (bare (named u)))

pub tests_lam : (F G : Bare → Bare) → ((U V : Bare) → F (lam U V) ≡ lam (F U) (G V)) → (t u T A U B : Term) (x y : Name) (r : Bool) → t ≡ Lam x T A → u ≡ Lam y U B → Tests F true T U → Tests G r A B → Tests F r t u
tests_lam F G law t u T A U B x y r p q h e =
    one_more (same_term (bare (named T)) (F (bare (named U)))) (same_term (bare (named A)) (G (bare (named B)))) r h e
    ∙ sym (ap₂ same_term (ap bare (named_of_lam t T A x p)) (ap (λ v. F (bare v)) (named_of_lam u U B y q) ∙ law (bare (named U)) (bare (named B))))

pub tests_pi : (F G : Bare → Bare) → ((U V : Bare) → F (pi U V) ≡ pi (F U) (G V)) → (t u T A U B : Term) (x y : Name) (r : Bool) → t ≡ Pi x T A → u ≡ Pi y U B → Tests F true T U → Tests G r A B → Tests F r t u
tests_pi F G law t u T A U B x y r p q h e =
    one_more (same_term (bare (named T)) (F (bare (named U)))) (same_term (bare (named A)) (G (bare (named B)))) r h e
    ∙ sym (ap₂ same_term (ap bare (named_of_pi t T A x p)) (ap (λ v. F (bare v)) (named_of_pi u U B y q) ∙ law (bare (named U)) (bare (named B))))

pub tests_let : (F G : Bare → Bare) → ((E U V : Bare) → F (let_in E U V) ≡ let_in (F E) (F U) (G V)) → (t u D T A E U B : Term) (x y : Name) (r : Bool) → t ≡ Let x D T A → u ≡ Let y E U B → Tests F true D E → Tests F true T U → Tests G r A B → Tests F r t u
tests_let F G law t u D T A E U B x y r p q g h e =
    one_more (same_term (bare (named D)) (F (bare (named E)))) _ r g (one_more (same_term (bare (named T)) (F (bare (named U)))) (same_term (bare (named A)) (G (bare (named B)))) r h e)
    ∙ sym (ap₂ same_term (ap bare (named_of_let t D T A x p)) (ap (λ v. F (bare v)) (named_of_let u E U B y q) ∙ law (bare (named E)) (bare (named U)) (bare (named B))))

-- The parts as the program reads them.
pub tests_at : (F : Bare → Bare) (r : Bool) (t u T U : Term) → t ≡ T → u ≡ U → Tests F r t u → Tests F r T U
tests_at F r t u T U p q h = h ∙ ap₂ (λ a b. same_term (bare (named a)) (F (bare (named b)))) p q

up : (k : ℕ) → suc k ≡ k + 1
up k = omega arith

pub lift_lam : (k n : ℕ) (U V : Bare) → lift k n (lam U V) ≡ lam (lift k n U) (lift (k + 1) n V)
lift_lam k n U V = ap (λ l. lam (lift k n U) (lift l n V)) (up k)

pub lift_pi : (k n : ℕ) (U V : Bare) → lift k n (pi U V) ≡ pi (lift k n U) (lift (k + 1) n V)
lift_pi k n U V = ap (λ l. pi (lift k n U) (lift l n V)) (up k)

pub lift_let : (k n : ℕ) (E U V : Bare) → lift k n (let_in E U V) ≡ let_in (lift k n E) (lift k n U) (lift (k + 1) n V)
lift_let k n E U V = ap (λ l. let_in (lift k n E) (lift k n U) (lift l n V)) (up k)

pub put_lam : (k n : ℕ) (a U V : Bare) → put k n a (lam U V) ≡ lam (put k n a U) (put (k + 1) (n + 1) a V)
put_lam k n a U V = ap₂ (λ l m. lam (put k n a U) (put l m a V)) (up k) (up n)

pub put_pi : (k n : ℕ) (a U V : Bare) → put k n a (pi U V) ≡ pi (put k n a U) (put (k + 1) (n + 1) a V)
put_pi k n a U V = ap₂ (λ l m. pi (put k n a U) (put l m a V)) (up k) (up n)

pub put_let : (k n : ℕ) (a E U V : Bare) → put k n a (let_in E U V) ≡ let_in (put k n a E) (put k n a U) (put (k + 1) (n + 1) a V)
put_let k n a E U V = ap₂ (λ l m. let_in (put k n a E) (put k n a U) (put l m a V)) (up k) (up n)
