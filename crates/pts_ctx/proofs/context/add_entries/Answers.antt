use Rattle.std.proofs.Common.{◌≡◌, ◌∙◌, ◌-◌, ◌≤◌, ◌++◌, sym, ap, subst, length, drop, List, OnOk, arith}
use Rattle.std.proofs.lemmas.List.{append_assoc, drop-map, length-append, length-map}
use Rattle.pts_names.specs.Name.{Name}
use Rattle.pts_ctx.specs.Front.{Global}
use Rattle.pts_ctx.specs.Chunks.{flat}
use Rattle.pts_ctx.specs.Index.{hash_of, hashes_of}
use Rattle.pts_ctx.specs.Seen.{SeenContext, NamesDiffer}
use Rattle.pts_ctx.proofs.Kept.{kept-on, drop-both, differ-added}
use Rattle.pts_ctx.proofs.context.add_entries.Goals as goal

pub add_from-requires : goal.add_from-requires
add_from-requires c =
    let F = flat c.other.inside.chunks.items in
    let L = c.other.inside.last.entries in
    let P = c.args.part.now.entries in
    let from = c.args.from in
    let all = P ++ drop from c.args.other.now.entries in
    let whole : P ++ (drop from F ++ drop (from - length F) L) ≡ all =
    ap (λ ys. P ++ ys) (sym (drop-both from F L) ∙ ap (λ s. drop from s.entries) c.other.view_is) in
    let differ = differ-added P (drop from F) (drop (from - length F) L) all whole c.requires.differ in
    record {
      differ = subst (λ (H : List (List (Global Name))). NamesDiffer (P ++ drop from (flat H))) (sym c.deref.ensures.value) differ;
    }

pub split_at-requires : goal.split_at-requires
split_at-requires c =
    let F = flat c.other.inside.chunks.items in
    let L = c.other.inside.last.entries in
    let inside : c.args.from ≤ length (F ++ L) = subst (λ (s : SeenContext). c.args.from ≤ length s.entries) (sym c.other.view_is) c.requires.inside in
    omega (arith, inside, length-append F L, c.saturating_sub-first.ensures, c.other.invariant.0, ap length c.slots.ensures)

pub split_at-requires-2 : goal.split_at-requires-2
split_at-requires-2 c =
    let F = flat c.other.inside.chunks.items in
    let L = c.other.inside.last.entries in
    let inside : c.args.from ≤ length (F ++ L) = subst (λ (s : SeenContext). c.args.from ≤ length s.entries) (sym c.other.view_is) c.requires.inside in
    let count = ap length c.hashes.ensures ∙ length-map L (λ e. hash_of e.name) in
    omega (arith, inside, length-append F L, c.saturating_sub-first.ensures, c.other.invariant.0, count)

pub add-requires-clause-differ : goal.add-requires-clause-differ
add-requires-clause-differ c =
    let F = flat c.other.inside.chunks.items in
    let L = c.other.inside.last.entries in
    let P = c.args.part.now.entries in
    let from = c.args.from in
    let all = P ++ drop from c.args.other.now.entries in
    let whole : P ++ (drop from F ++ drop (from - length F) L) ≡ all =
    ap (λ ys. P ++ ys) (sym (drop-both from F L) ∙ ap (λ s. drop from s.entries) c.other.view_is) in
    let Q = c.add_from.new.part.entries in
    let older : Q ≡ P ++ drop from F = c.in_ok-add_from.ensures.added ∙ ap (λ H. P ++ drop from (flat H)) c.deref.ensures.value in
    let first : c.saturating_sub-first.result ≡ from - length F = c.saturating_sub-first.ensures ∙ ap (λ n. from - n) c.other.invariant.0 in
    let slots : c.split_at.result.1.now ≡ drop (from - length F) L =
    c.split_at.ensures.back ∙ ((λ j. drop (first j) (c.slots.ensures j))) in
    let sum : Q ++ c.split_at.result.1.now ≡ all =
    (λ j. older j ++ slots j) ∙ (append_assoc P (drop from F) (drop (from - length F) L) ∙ whole) in
    subst NamesDiffer (sym sum) c.requires.differ

pub add-requires-clause-hashes : goal.add-requires-clause-hashes
add-requires-clause-hashes c =
    let L = c.other.inside.last.entries in
    let n = c.saturating_sub-first.result in
    let slots : c.split_at.result.1.now ≡ drop n L = c.split_at.ensures.back ∙ ap (drop n) c.slots.ensures in
    c.split_at-2.ensures.back ∙ (ap (drop n) c.hashes.ensures ∙ (drop-map (λ e. hash_of e.name) n L ∙ ap hashes_of (sym slots)))

pub returns-clause-added : goal.returns-clause-added
returns-clause-added c =
    let F = flat c.other.inside.chunks.items in
    let L = c.other.inside.last.entries in
    let P = c.args.part.now.entries in
    let from = c.args.from in
    let all = P ++ drop from c.args.other.now.entries in
    let whole : P ++ (drop from F ++ drop (from - length F) L) ≡ all =
    ap (λ ys. P ++ ys) (sym (drop-both from F L) ∙ ap (λ s. drop from s.entries) c.other.view_is) in
    let Q = c.add_from.new.part.entries in
    let older : Q ≡ P ++ drop from F = c.in_ok-add_from.ensures.added ∙ ap (λ H. P ++ drop from (flat H)) c.deref.ensures.value in
    let first : c.saturating_sub-first.result ≡ from - length F = c.saturating_sub-first.ensures ∙ ap (λ n. from - n) c.other.invariant.0 in
    let slots : c.split_at.result.1.now ≡ drop (from - length F) L =
    c.split_at.ensures.back ∙ ((λ j. drop (first j) (c.slots.ensures j))) in
    let sum : Q ++ c.split_at.result.1.now ≡ all =
    (λ j. older j ++ slots j) ∙ (append_assoc P (drop from F) (drop (from - length F) L) ∙ whole) in
    subst (λ (ys : List (Global Name)). OnOk c.add.result (c.add.new.self.entries ≡ ys)) sum c.add.ensures.added

pub returns-clause-kept : goal.returns-clause-kept
returns-clause-kept c = kept-on c.args.part.now.entries c.add_from.new.part.entries c.add.new.self.entries c.add_from.ensures.kept c.add.ensures.kept
