use Rattle.std.proofs.Common.{◌≡◌, ◌∙◌, ◌+◌, ◌<◌, ◌^◌, sym, ap, subst, List, [], ◌∷◌, ◌++◌, length, arith}
use Rattle.std.proofs.lemmas.List.{append_assoc}
use Rattle.pts_names.specs.Name.{Name}
use Rattle.pts_ctx.specs.Front.{Global, Fresh}
use Rattle.pts_ctx.specs.Seen.{SeenContext}
use Rattle.pts_ctx.specs.Entries.{global_of}
use Rattle.pts_ctx.specs.Index.{hash_of}
use Rattle.pts_ctx.specs.Chunks.{flat, IsOrderly}
use Rattle.pts_ctx.proofs.Lookups.{fresh-right}
use Rattle.pts_ctx.proofs.Orderly.{orderly-push}
use Rattle.pts_ctx.proofs.context.Context.push.Goals as goal

pub push-requires-clause-fresh : goal.push-requires-clause-fresh
push-requires-clause-fresh c =
    let F = flat c.self.inside.chunks.items in
    let L = c.self.inside.last.entries in
    let fresh = subst (λ (s : SeenContext). Fresh c.args.entry.name s.entries) (sym c.self.view_is) c.requires.fresh in
    subst (λ (x : Name). Fresh x L) (sym (ap (λ e. e.name) c.new.ensures)) (fresh-right c.args.entry.name F L fresh)

pub push-requires-clause-hash : goal.push-requires-clause-hash
push-requires-clause-hash c =
    c.hash_of.ensures ∙ ap hash_of (c.requires.key ∙ ap (λ e. e.name) (sym c.new.ensures))

pub invariant_of-self : goal.invariant_of-self
invariant_of-self c =
    let e = global_of c.args.entry in
    let F = flat c.self.inside.chunks.items in
    let L = c.self.inside.last.entries in
    let ls = c.self.inside.labels.entries in
    let fresh = subst (λ (s : SeenContext). Fresh e.name s.entries) (sym c.self.view_is) c.requires.fresh in
    let spare = ap (λ s. s.spare_entries) c.self.view_is in
    let room : length (F ++ L) + 1 < 2 ^ 64 = omega (arith, spare, c.requires.room) in
    let longer : F ++ c.push.new.self.entries ≡ (F ++ L) ++ e ∷ [] =
    ap (λ ys. F ++ ys) (c.push.ensures.entries ∙ ap (λ d. L ++ d ∷ []) c.new.ensures) ∙ sym (append_assoc F L (e ∷ [])) in (
      c.self.invariant.0,
      subst (λ (G : List (Global Name)). IsOrderly G ls) (sym longer) (orderly-push (F ++ L) ls c.self.invariant.1 e room fresh c.requires.within),
    )
