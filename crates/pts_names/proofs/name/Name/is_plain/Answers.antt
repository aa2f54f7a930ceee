use Rattle.std.proofs.Common.{sym, ◌∙◌, ap, not, nat_eq}
use Rattle.std.specs.Cmp.Lexicographic.{pointwise}
use Rattle.pts_names.specs.Name.{underscore}
use Rattle.pts_names.proofs.Same.{same_name-pointwise}
use Rattle.pts_names.proofs.Plain.{plain_is}
use Rattle.pts_names.proofs.name.Name.is_plain.Goals as goal

pub returns-then-parts-eq1 : goal.returns-then-parts-eq1
returns-then-parts-eq1 c =
    plain_is c.args.self.now (c.parts.ensures.one.0 c.if-parts-eq1.true) c.ne.result
    (c.ne.ensures ∙ ap not (ap (λ t. pointwise nat_eq t underscore) c.text.ensures.text ∙ sym (same_name-pointwise c.args.self.now underscore)))
