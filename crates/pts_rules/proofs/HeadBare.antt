-- The head step of a term without printed names is that of the term, without them.
use Rattle.std.proofs.Common.{◌≡◌, ℕ, zero, suc, List, [], ◌∷◌, map, refl, sym, ap, ◌∙◌, Option, Some, None, arith}
use Rattle.std.specs.Option.{option_map}
use Rattle.pts_names.specs.Name.{Name}
use Rattle.pts_terms.specs.Tree.{Tree, bare, sort, const, var, app, named_lam, named_pi, named_let}
use Rattle.pts_terms.proofs.Unnamed.{bare_lift, bare_put}
use Rattle.pts_ctx.specs.Front.{Global, find, bare_global, bare_front, Local, assumed, defined, unknown, entry_at}
use Rattle.pts_record.specs.Said.{bare_local}
use Rattle.pts_rules.specs.Step.{head_step, body_of, definition_at, apply_to}

pub find_bare : {B : Type 0} (x : Name) (G : List (Global B)) → find x (bare_front G) ≡ option_map bare_global (find x G)
unfolding find
find_bare x [] = refl
find_bare x (e ∷ G) = grind (arith, find_bare x G)

entry_bare : {B : Type 0} (L : List (Local B)) (i : ℕ) → entry_at (map bare_local L) i ≡ option_map bare_local (entry_at L i)
entry_bare [] i = refl
entry_bare (e ∷ L) zero = refl
entry_bare (e ∷ L) (suc i) = entry_bare L i

body_bare : {B : Type 0} (o : Option (Global B)) → body_of (option_map bare_global o) ≡ option_map bare (body_of o)
body_bare None = refl
body_bare (Some e) = refl

definition_bare : {B : Type 0} (i : ℕ) (o : Option (Local B)) → definition_at i (option_map bare_local o) ≡ option_map bare (definition_at i o)
definition_bare i None = refl
definition_bare i (Some (assumed A)) = refl
definition_bare i (Some (defined a A)) = ap Some (sym (bare_lift 0 (suc i) a))
definition_bare i (Some unknown) = refl

apply_bare : {B : Type 0} (a : Tree B) (o : Option (Tree B)) → apply_to (bare a) (option_map bare o) ≡ option_map bare (apply_to a o)
apply_bare a None = refl
apply_bare a (Some f) = refl

pub head_step_bare : {B : Type 0} (G : List (Global B)) (L : List (Local B)) (t : Tree B) → head_step (bare_front G) (map bare_local L) (bare t) ≡ option_map bare (head_step G L t)
unfolding head_step
head_step_bare G L (sort s) = refl
head_step_bare G L (const x) = ap body_of (find_bare x G) ∙ body_bare (find x G)
head_step_bare G L (var i) = ap (definition_at i) (entry_bare L i) ∙ definition_bare i (entry_at L i)
head_step_bare G L (app (named_lam x A b) a) = ap Some (sym (bare_put 0 0 a b))
head_step_bare G L (app f a) = ap (apply_to (bare a)) (head_step_bare G L f) ∙ apply_bare a (head_step G L f)
head_step_bare G L (named_lam x A b) = refl
head_step_bare G L (named_pi x A b) = refl
head_step_bare G L (named_let x a A b) = ap Some (sym (bare_put 0 0 a b))
