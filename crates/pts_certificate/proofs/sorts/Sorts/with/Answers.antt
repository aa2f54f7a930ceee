use Rattle.std.proofs.Common.{◌∙◌, ap, sym, nat_eq}
use Rattle.std.specs.List.{list_any}
use Rattle.std.specs.Cmp.Lexicographic.{pointwise}
use Rattle.indexmap.specs.IndexSet.{insert_key}
use Rattle.pts_names.specs.Name.{same_name}
use Rattle.pts_certificate.proofs.Known.{known_more}
use Rattle.pts_certificate.proofs.sorts.Sorts.with.Goals as goal

pub invariant_of-result : goal.invariant_of-result
invariant_of-result c x =
    let keys = c.in_ok-insert.ensures.keys ∙ ap (insert_key (pointwise nat_eq) c.self.inside.known.keys) c.in_ok-copy.ensures in
    ap (list_any (pointwise nat_eq x)) keys ∙ (known_more c.self.inside.known.keys c.self.inside.list.items c.args.spelling c.self.invariant x ∙ ap (list_any (same_name x)) (sym c.in_ok-push.ensures.items))
