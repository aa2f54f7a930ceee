-- A constant with the type of its entry, and a constant under a local definition.
use Rattle.std.proofs.Common.{◌≡◌, List, sym, ap, ◌∙◌, true, Some}
use Rattle.std.specs.Option.{option_map}
use Rattle.pts_names.specs.Name.{Name}
use Rattle.pts_terms.specs.Tree.{Named, Bare, bare, const, named_let, subst, same_term}
use Rattle.pts_terms.proofs.Same.{same_term_eq}
use Rattle.pts_ctx.specs.Front.{Global, find, Local}
use Rattle.pts_rules.specs.Step.{head_step}
use Rattle.pts_grow.specs.Judges.{constant_type}

pub entry_found : (G : List (Global Name)) (t u : Bare) (x : Name) (e : Global Name) → t ≡ const x → find x G ≡ Some e → same_term u (bare e.type) ≡ true → constant_type G t ≡ Some u
entry_found G t u x e c f q = ap (constant_type G) c ∙ ap (option_map (λ d. bare d.type)) f ∙ ap Some (sym (same_term_eq u (bare e.type) q))

pub constant_left : (G : List (Global Name)) (L : List (Local Name)) (t a A b : Named) (y x : Name) → t ≡ named_let y a A b → b ≡ const x → head_step G L t ≡ Some b
unfolding head_step
constant_left G L t a A b y x e f = ap (head_step G L) e ∙ ap (λ u. Some (subst 0 a u)) f ∙ ap Some (sym f)
