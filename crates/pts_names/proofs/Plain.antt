-- A name of one part that is not `_` is plain.
use Rattle.std.proofs.Common.{◌≡◌, ◌∙◌, sym, ap, Bool, true, not}
use Rattle.std.specs.Prelude.{◌&&◌}
use Rattle.pts_names.specs.Name.{Name, same_name, is_identifier, is_plain, underscore}

pub plain_is : (x : Name) → is_identifier x ≡ true → (b : Bool) → b ≡ not (same_name x underscore) → b ≡ is_plain x
plain_is x e b h = h ∙ ap (λ a. a && not (same_name x underscore)) (sym e)
