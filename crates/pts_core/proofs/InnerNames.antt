-- Declarations of which none has an inner name.
use Rattle.std.proofs.Common.{◌≡◌, ℕ, suc, Bool, true, false, if◌then◌else◌, List, [], ◌∷◌, position, Option, Some, None, refl, sym, ◌∙◌}
use Rattle.std.specs.Option.{option_map}
use Rattle.pts_ctx.proofs.Positions.{position-step}
use Rattle.pts_record.specs.declared.declaration.Declaration.{Declaration}
use Rattle.pts_check.specs.Entered.{declared_entries}
use Rattle.pts_core.specs.InnerNames.{is_inner, NoneInner}

map_none : (o : Option ℕ) → option_map suc o ≡ None → o ≡ None
map_none None h = refl
map_none (Some k) h = absurd (cc h)

not_first : (b : Bool) (o : Option ℕ) → (if b then Some 0 else option_map suc o) ≡ None → (b ≡ false) × (o ≡ None)
not_first true o h = absurd (cc h)
not_first false o h = (refl, map_none o h)

pub none_is_inner : (ds : List Declaration) → position (λ d. is_inner d.name) ds ≡ None → NoneInner (declared_entries ds)
none_is_inner [] h = tt
none_is_inner (d ∷ ds) h =
    let s = not_first (is_inner d.name) (position (λ e. is_inner e.name) ds) (sym (position-step (λ e. is_inner e.name) d ds) ∙ h) in
    (s.0, none_is_inner ds s.1)
