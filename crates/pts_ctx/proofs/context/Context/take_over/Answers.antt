use Rattle.std.proofs.Common.{◌≡◌, ◌∙◌, ◌<◌, ◌^◌, ◌++◌, sym, ap, subst, length, take, drop, List, arith}
use Rattle.std.proofs.lemmas.List.{append_assoc, length-append, length-drop}
use Rattle.pts_names.specs.Name.{Name}
use Rattle.pts_ctx.specs.Front.{Global}
use Rattle.pts_ctx.specs.Chunks.{flat, IsOrderly}
use Rattle.pts_ctx.specs.Seen.{SeenContext, NamesDiffer}
use Rattle.pts_ctx.proofs.Lookups.{differ-right}
use Rattle.pts_ctx.proofs.Orderly.{orderly-join}
use Rattle.pts_ctx.proofs.context.Context.take_over.Goals as goal

pub add_entries-requires-clause-differ : goal.add_entries-requires-clause-differ
add_entries-requires-clause-differ c =
    let F = flat c.self.inside.chunks.items in
    let L = c.self.inside.last.entries in
    let ls = c.self.inside.labels.entries in
    let T = c.args.other.now.entries in
    let X = drop c.args.from T in
    let differ = subst (λ (s : SeenContext). NamesDiffer (s.entries ++ X)) (sym c.self.view_is) c.requires.differ in
    differ-right F (L ++ X) (subst NamesDiffer (append_assoc F L X) differ)

pub invariant_of-self : goal.invariant_of-self
invariant_of-self c =
    let F = flat c.self.inside.chunks.items in
    let L = c.self.inside.last.entries in
    let ls = c.self.inside.labels.entries in
    let T = c.args.other.now.entries in
    let X = drop c.args.from T in
    let differ = subst (λ (s : SeenContext). NamesDiffer (s.entries ++ X)) (sym c.self.view_is) c.requires.differ in
    let spare = ap (λ s. s.spare_entries) c.self.view_is in
    let room : length ((F ++ L) ++ X) < 2 ^ 64 = omega (arith, length-append (F ++ L) X, length-drop c.args.from T, spare, c.requires.room, c.self.invariant.1.fits) in
    let longer : F ++ c.add_entries.new.part.entries ≡ (F ++ L) ++ X = ap (λ ys. F ++ ys) c.in-Ok.ensures.added ∙ sym (append_assoc F L X) in (
      c.self.invariant.0,
      subst (λ (G : List (Global Name)). IsOrderly G ls) (sym longer) (orderly-join (F ++ L) ls c.self.invariant.1 T c.args.from room differ c.is_orderly.ensures.within),
    )

pub invariant_of-self-in-Err : goal.invariant_of-self-in-Err
invariant_of-self-in-Err c =
    let F = flat c.self.inside.chunks.items in
    let L = c.self.inside.last.entries in
    let ls = c.self.inside.labels.entries in
    let T = c.args.other.now.entries in
    let X = drop c.args.from T in
    let kept : c.truncate.new.self.entries ≡ L =
    c.truncate.ensures.entries ∙ (ap (λ n. take n c.add_entries.new.part.entries) c.len-own.ensures ∙ c.add_entries.ensures.kept) in
    (c.self.invariant.0, subst (λ (G : List (Global Name)). IsOrderly (F ++ G) ls) (sym kept) c.self.invariant.1)

pub returns-in-Ok-clause-entries : goal.returns-in-Ok-clause-entries
returns-in-Ok-clause-entries c =
    let F = flat c.self.inside.chunks.items in
    let L = c.self.inside.last.entries in
    let ls = c.self.inside.labels.entries in
    let T = c.args.other.now.entries in
    let X = drop c.args.from T in
    ap (λ ys. F ++ ys) c.in-Ok.ensures.added ∙ (sym (append_assoc F L X) ∙ ap (λ s. s.entries ++ X) c.self.view_is)

pub returns-in-Err-clause-refused : goal.returns-in-Err-clause-refused
returns-in-Err-clause-refused c =
    let F = flat c.self.inside.chunks.items in
    let L = c.self.inside.last.entries in
    let ls = c.self.inside.labels.entries in
    let T = c.args.other.now.entries in
    let X = drop c.args.from T in
    let kept : c.truncate.new.self.entries ≡ L =
    c.truncate.ensures.entries ∙ (ap (λ n. take n c.add_entries.new.part.entries) c.len-own.ensures ∙ c.add_entries.ensures.kept) in
    ap (λ ys. F ++ ys) kept ∙ ap (λ s. s.entries) c.self.view_is
