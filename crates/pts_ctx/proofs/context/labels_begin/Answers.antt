use Rattle.std.proofs.Common.{◌∙◌, sym, ap, drop, ◌+◌, ◌&&◌}
use Rattle.std.specs.Option.{option_map}
use Rattle.std.specs.Map.Iter.{deref_pair}
use Rattle.pts_ctx.specs.Prefix.{begins, same_label}
use Rattle.pts_ctx.proofs.Begins.{begins-past, begins-step}
use Rattle.pts_ctx.proofs.context.labels_begin.Goals as goal

pub returns-in_default-get_index : goal.returns-in_default-get_index
returns-in_default-get_index c =
    let xs = c.args.one.now.entries in
    let ys = c.args.other.now.entries in
    let at = sym c.get_index.ensures.entry ∙ ap (option_map deref_pair) c.in-Some.is in
    let past = sym c.get_index-in-loop-index.ensures.entry ∙ ap (option_map deref_pair) c.in_default-get_index.is in
    sym (begins-past same_label xs ys c.loop-index.index (c.in-Some.label.now, c.in-Some.entries.now) at past) ∙ c.loop-index.invariant

pub returns-then-not-is_one_label : goal.returns-then-not-is_one_label
returns-then-not-is_one_label c =
    let xs = c.args.one.now.entries in
    let ys = c.args.other.now.entries in
    let i = c.loop-index.index in
    let at = sym c.get_index.ensures.entry ∙ ap (option_map deref_pair) c.in-Some.is in
    let there = sym c.get_index-in-loop-index.ensures.entry ∙ ap (option_map deref_pair) c.in-Some-get_index.is in
    let step = begins-step same_label xs ys i (c.in-Some.label.now, c.in-Some.entries.now) (c.in-Some-get_index.other_label.now, c.in-Some-get_index.other_entries.now) at there in
    sym (step ∙ ap (λ b. b && begins same_label (drop (i + 1) xs) (drop (i + 1) ys)) (sym c.is_one_label.ensures ∙ c.if-not-is_one_label.true)) ∙ c.loop-index.invariant

pub loop-index-preserved : goal.loop-index-preserved
loop-index-preserved c =
    let xs = c.args.one.now.entries in
    let ys = c.args.other.now.entries in
    let i = c.loop-index.index in
    let at = sym c.get_index.ensures.entry ∙ ap (option_map deref_pair) c.in-Some.is in
    let there = sym c.get_index-in-loop-index.ensures.entry ∙ ap (option_map deref_pair) c.in-Some-get_index.is in
    let step = begins-step same_label xs ys i (c.in-Some.label.now, c.in-Some.entries.now) (c.in-Some-get_index.other_label.now, c.in-Some-get_index.other_entries.now) at there in
    sym (step ∙ ap (λ b. b && begins same_label (drop (i + 1) xs) (drop (i + 1) ys)) (sym c.is_one_label.ensures ∙ c.if-not-is_one_label.false)) ∙ c.loop-index.invariant
