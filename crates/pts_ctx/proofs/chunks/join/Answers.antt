use Rattle.std.proofs.Common.{◌≡◌, ◌∙◌, [], ◌++◌, sym, ap, subst, List}
use Rattle.pts_names.specs.Name.{Name}
use Rattle.pts_ctx.specs.Front.{Global}
use Rattle.pts_ctx.specs.Chunks.{flat}
use Rattle.pts_ctx.specs.Seen.{NamesDiffer}
use Rattle.pts_ctx.proofs.Lookups.{differ-left}
use Rattle.pts_ctx.proofs.chunks.join.Goals as goal

pub add_from-requires : goal.add_from-requires
add_from-requires c =
    let all = flat c.args.chunks.now in
    let none : c.reserve.new.self.entries ≡ [] = c.reserve.ensures.entries ∙ c.new-part.ensures in
    record {
      differ = subst (λ (ys : List (Global Name)). NamesDiffer (ys ++ all)) (sym none) (differ-left all c.args.slots.now c.requires.differ);
    }

pub add-requires-clause-differ : goal.add-requires-clause-differ
add-requires-clause-differ c =
    let all = flat c.args.chunks.now in
    let none : c.reserve.new.self.entries ≡ [] = c.reserve.ensures.entries ∙ c.new-part.ensures in
    let added : c.add_from.new.part.entries ≡ all = c.in_ok-add_from.ensures.added ∙ ap (λ ys. ys ++ all) none in
    subst (λ (ys : List (Global Name)). NamesDiffer (ys ++ c.args.slots.now)) (sym added) c.requires.differ

pub returns : goal.returns
returns c =
    let all = flat c.args.chunks.now in
    let none : c.reserve.new.self.entries ≡ [] = c.reserve.ensures.entries ∙ c.new-part.ensures in
    let added : c.add_from.new.part.entries ≡ all = c.in_ok-add_from.ensures.added ∙ ap (λ ys. ys ++ all) none in
    c.in_ok-add.ensures.added ∙ ap (λ ys. ys ++ c.args.slots.now) added
