-- A form is convertible with its term, and so are terms of which the test says yes.
use Rattle.std.proofs.Common.{◌≡◌, ℕ, refl, ap, ◌∙◌, subst, map, true}
use Rattle.std.specs.Option.{option_map}
use Rattle.pts_names.proofs.Same.{same_name-true}
use Rattle.pts_terms.specs.Tree.{Named, bare, sort, const, var, app, named_lam, named_pi}
use Rattle.pts_terms.proofs.Same.{same_term_eq, nat_eq_same}
use Rattle.pts_ctx.specs.Front.{bare_front}
use Rattle.pts_record.specs.Said.{bare_local}
use Rattle.pts_rules.specs.Step.{Convertible, equal, forwards}
use Rattle.pts_rules.proofs.HeadBare.{head_step_bare}
use Rattle.pts_rules.proofs.HeadStep.{head_is_step}
use Rattle.pts_rules.proofs.Conversion.{joined, turned, convertible_app, convertible_lam, convertible_pi}
use Rattle.pts_reduce_cost.specs.Costs.{Globals, Entries, form, Reduct, Reduces, no_step, one_step, large_step, TestAnswer, yes_, no_, beyond, in_part, Pairing, leaves, parts, pairing, Tests, nested_too_deep, equal_terms, left_too_large, right_too_large, by_forms, Compares, alike, unlike, first_part, second_part}

-- Two terms are convertible, apart from printed names.
abbrev pub Joined : Globals → Entries → Named → Named → Type 0
Joined G L t u = Convertible (bare_front G) (map bare_local L) (bare t) (bare u)

same_joined : (G : Globals) (L : Entries) (t u : Named) → bare t ≡ bare u → Joined G L t u
same_joined G L t u e = subst (λ x. Convertible (bare_front G) (map bare_local L) (bare t) x) e equal

reduct_joined : {G : Globals} {L : Entries} {t : Named} {o : Reduct} {n : ℕ} → Reduces G L t o n → (v : Named) → o ≡ form v → Joined G L t v
reduct_joined {G} {L} (no_step {t} h) v e = let q : t ≡ v = cc e in same_joined G L t v (ap bare q)
reduct_joined {G} {L} (one_step {t} {u} h w d) v e = forwards (head_is_step (bare_front G) (map bare_local L) (bare t) (bare u) (head_step_bare G L t ∙ ap (option_map bare) h)) (reduct_joined d v e)
reduct_joined (large_step h w) v e = absurd (cc e)

pub form_joined : (G : Globals) (L : Entries) (t v : Named) (n : ℕ) → Reduces G L t (form v) n → Convertible (bare_front G) (map bare_local L) (bare t) (bare v)
form_joined G L t v n d = reduct_joined d v refl

-- What makes two forms convertible, by how they are compared.
abbrev Joins : Globals → Entries → Named → Named → Pairing → Type 0
Joins G L v w (leaves same) = same ≡ true → bare v ≡ bare w
Joins G L v w (parts t u M a b) = Joined G L t u → Joined G M a b → Joined G L v w

pairing_joins : (G : Globals) (L : Entries) (v w : Named) → Joins G L v w (pairing L v w)
pairing_joins G L (sort s) (sort r) = λ h. ap sort (nat_eq_same s r h)
pairing_joins G L (const c) (const d) = λ h. ap const (same_name-true c d h)
pairing_joins G L (var i) (var j) = λ h. ap var (nat_eq_same i j h)
pairing_joins G L (app f a) (app g b) = λ c d. convertible_app c d
pairing_joins G L (named_lam x A b) (named_lam y B c) = λ d e. convertible_lam d e
pairing_joins G L (named_pi x A b) (named_pi y B c) = λ d e. convertible_pi d e
pairing_joins G L _ _ = λ h. absurd (cc h)

part_yes : (i : ℕ) (o : TestAnswer) → in_part i o ≡ yes_ → o ≡ yes_
part_yes i yes_ e = refl
part_yes i (no_ place v w) e = absurd (cc e)
part_yes i beyond e = absurd (cc e)

mutual
  test_joined : {G : Globals} {d : ℕ} {L : Entries} {t u : Named} {o : TestAnswer} {n : ℕ} → Tests G d L t u o n → o ≡ yes_ → Joined G L t u
  test_joined nested_too_deep e = absurd (cc e)
  test_joined {G} (equal_terms {d} {L} {t} {u} h) e = same_joined G L t u (same_term_eq (bare t) (bare u) h)
  test_joined (left_too_large h r) e = absurd (cc e)
  test_joined (right_too_large h r s) e = absurd (cc e)
  test_joined (by_forms {v = v} {w = w} h r s c) e = joined (reduct_joined r v refl) (joined (forms_joined c e) (turned (reduct_joined s w refl)))

  forms_joined : {G : Globals} {d : ℕ} {L : Entries} {v w : Named} {o : TestAnswer} {n : ℕ} → Compares G d L v w o n → o ≡ yes_ → Joined G L v w
  forms_joined {G} (alike {d} {L} {v} {w} p) e = same_joined G L v w (subst (Joins G L v w) p (pairing_joins G L v w) refl)
  forms_joined (unlike p) e = absurd (cc e)
  forms_joined (first_part {o = o} p c h) e = absurd (h (part_yes 0 o e))
  forms_joined {G} (second_part {d} {L} {M} {v} {w} {o = o} p c f) e = subst (Joins G L v w) p (pairing_joins G L v w) (test_joined c refl) (test_joined f (part_yes 1 o e))

pub yes_joined : (G : Globals) (d : ℕ) (L : Entries) (t u : Named) (n : ℕ) → Tests G d L t u yes_ n → Convertible (bare_front G) (map bare_local L) (bare t) (bare u)
yes_joined G d L t u n c = test_joined c refl
