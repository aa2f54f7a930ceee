use Rattle.std.proofs.Common.{◌∙◌, sym, ap, subst, nat_eq, drop, take, ◌+◌, List, ℕ}
use Rattle.std.specs.Option.{option_map}
use Rattle.std.specs.List.{IsDistinct}
use Rattle.std.specs.Map.{keys_of}
use Rattle.std.specs.Map.Iter.{deref_pair}
use Rattle.std.specs.Cmp.Lexicographic.{pointwise, nat_list_eq_equiv}
use Rattle.indexmap.specs.IndexMap.{insert_entry}
use Rattle.indexmap.proofs.MapLemmas.{absent_before, absent_from_lookup, insert_entry-absent}
use Rattle.pts_names.specs.Name.{Name}
use Rattle.pts_ctx.proofs.Parts.{around, take-next}
use Rattle.pts_ctx.proofs.context.copy_labels.Goals as goal

pub loop-index-preserved : goal.loop-index-preserved
loop-index-preserved c =
    let all = c.args.labels.now.entries in
    let i = c.loop-index.index in
    let label : Name × ℕ = (c.in-Some.label.now, c.in-Some.entries.now) in
    let at = sym c.get_index.ensures.entry ∙ ap (option_map deref_pair) c.in-Some.is in
    let whole = sym (around all i label at) in
    let absent = absent_before nat_list_eq_equiv (take i all) (drop (i + 1) all) label (subst (λ (es : List (Name × ℕ)). IsDistinct (pointwise nat_eq) (keys_of es)) whole c.len-index-end.ensures.unique) in
    c.in_ok-insert.ensures.entries
    ∙ (ap (λ es. insert_entry (pointwise nat_eq) es c.in_ok-key.key label.1) c.loop-index.invariant
    ∙ (ap (λ x. insert_entry (pointwise nat_eq) (take i all) x label.1) c.in_ok-key.ensures
    ∙ (insert_entry-absent (pointwise nat_eq) label.0 label.1 (take i all) (absent_from_lookup (pointwise nat_eq label.0) (take i all) absent)
    ∙ sym (take-next all i label at))))
