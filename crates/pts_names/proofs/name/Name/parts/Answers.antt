use Rattle.std.proofs.Common.{◌≡◌, ◌∙◌, sym, ap, subst, None}
use Rattle.pts_names.specs.Name.{name_fault, part_count}
use Rattle.pts_names.proofs.OnePart.{identifier_has_one, one_part_is_identifier}
use Rattle.pts_names.proofs.name.Name.parts.Goals as goal

pub returns-clause-one : goal.returns-clause-one
returns-clause-one c =
    let name = subst (λ text. name_fault text ≡ None) c.self.view_is c.self.invariant in
    let count : c.part_count.result ≡ part_count c.args.self.now = c.part_count.ensures ∙ ap part_count (c.as_str.ensures.value ∙ c.self.view_is) in (
      λ one. one_part_is_identifier c.args.self.now name (sym count ∙ one),
      λ identifier. count ∙ identifier_has_one c.args.self.now identifier,
    )
