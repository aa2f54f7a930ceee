-- What the worked cases need: no name is in an empty front, and what a record of two nodes says last.
use Rattle.std.proofs.Common.{ℕ, List, [], length, ◌≡◌, sym, ap, ◌∙◌}
use Rattle.std.specs.Prelude.{pred}
use Rattle.pts_names.specs.Name.{Name}
use Rattle.pts_ctx.specs.Front.{Global, Fresh, find}
use Rattle.pts_record.specs.Table.{Tables}
use Rattle.pts_record.specs.Said.{told}
use Rattle.pts_rules.specs.Valid.{last_said}
use Rattle.pts_image.specs.Graft.{without_numbers}

pub fresh_in_none : {B : Type 0} (x : Name) (G : List (Global B)) → G ≡ [] → Fresh x G
unfolding find
fresh_in_none x G e = ap (find x) e

pub last_of_two : (r : Tables) (n : ℕ) → n ≡ length r.nodes → n ≡ 2 → without_numbers (last_said r) ≡ without_numbers (told r 1)
last_of_two r n e h = ap (λ k. without_numbers (told r (pred k))) (sym e ∙ h)
