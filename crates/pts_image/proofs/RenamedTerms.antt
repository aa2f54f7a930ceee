-- Terms with new names are as large as they were, and the printed names of binders don't matter to them.
use Rattle.std.proofs.Common.{ℕ, ◌≡◌, ◌+◌, refl, ap, ◌∙◌, Option, Some, None}
use Rattle.std.specs.Prelude.{◌&&◌, nat_le, max}
use Rattle.std.specs.Option.{option_map}
use mathlib.Core.Path.{ap₂}
use Rattle.pts_names.specs.Name.{Name}
use Rattle.pts_terms.specs.Tree.{Tree, Bare, sort, const, var, app, lam, pi, let_in, named_lam, named_pi, named_let, bare}
use Rattle.pts_terms.specs.Limits.{depth_of, size_of, within}
use Rattle.pts_terms.proofs.Lifting.{ap₃}
use Rattle.pts_ctx.specs.Front.{Global, bare_global}
use Rattle.pts_ctx.specs.Seen.{body_within, global_within}
use Rattle.pts_image.specs.Renaming.{renamed_term, renamed_entry}

module _ (g : Name → Name) where
  bare_renamed : (t : Tree Name) → bare (renamed_term g t) ≡ renamed_term g (bare t)
  bare_renamed (sort s) = refl
  bare_renamed (const c) = refl
  bare_renamed (var i) = refl
  bare_renamed (app f a) = ap₂ app (bare_renamed f) (bare_renamed a)
  bare_renamed (named_lam x A b) = ap₂ lam (bare_renamed A) (bare_renamed b)
  bare_renamed (named_pi x A b) = ap₂ pi (bare_renamed A) (bare_renamed b)
  bare_renamed (named_let x a A b) = ap₃ let_in (bare_renamed a) (bare_renamed A) (bare_renamed b)

  bare_body : (o : Option (Tree Name)) → option_map bare (option_map (renamed_term g) o) ≡ option_map (renamed_term g) (option_map bare o)
  bare_body None = refl
  bare_body (Some a) = ap Some (bare_renamed a)

  pub bare_renamed_entry : (e : Global Name) → bare_global (renamed_entry g e) ≡ renamed_entry g (bare_global e)
  bare_renamed_entry e = ap₂ (λ b t. record { name = g e.name; body = b; type = t }) (bare_body e.body) (bare_renamed e.type)

  same_depth : {B : Type 0} (t : Tree B) → depth_of (renamed_term g t) ≡ depth_of t
  same_depth (sort s) = refl
  same_depth (const c) = refl
  same_depth (var i) = refl
  same_depth (app f a) = ap₂ (λ m n. max m n + 1) (same_depth f) (same_depth a)
  same_depth (named_lam x A b) = ap₂ (λ m n. max m n + 1) (same_depth A) (same_depth b)
  same_depth (named_pi x A b) = ap₂ (λ m n. max m n + 1) (same_depth A) (same_depth b)
  same_depth (named_let x a A b) = ap₃ (λ l m n. max (max l m) n + 1) (same_depth a) (same_depth A) (same_depth b)

  same_size : {B : Type 0} (t : Tree B) → size_of (renamed_term g t) ≡ size_of t
  same_size (sort s) = refl
  same_size (const c) = refl
  same_size (var i) = refl
  same_size (app f a) = ap₂ (λ m n. m + n + 1) (same_size f) (same_size a)
  same_size (named_lam x A b) = ap₂ (λ m n. m + n + 1) (same_size A) (same_size b)
  same_size (named_pi x A b) = ap₂ (λ m n. m + n + 1) (same_size A) (same_size b)
  same_size (named_let x a A b) = ap₃ (λ l m n. l + m + n + 1) (same_size a) (same_size A) (same_size b)

  within_renamed : {B : Type 0} (t : Tree B) → within (renamed_term g t) ≡ within t
  within_renamed t = ap₂ (λ m n. nat_le m 2000 && nat_le n 1000000) (same_depth t) (same_size t)

  body_within_renamed : {B : Type 0} (o : Option (Tree B)) → body_within (option_map (renamed_term g) o) ≡ body_within o
  body_within_renamed None = refl
  body_within_renamed (Some a) = within_renamed a

  pub entry_within_renamed : {B : Type 0} (e : Global B) → global_within (renamed_entry g e) ≡ global_within e
  entry_within_renamed e = ap₂ ◌&&◌ (body_within_renamed e.body) (within_renamed e.type)
