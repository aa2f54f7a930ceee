use Rattle.std.proofs.Common.{◌≡◌, ◌∙◌, ◌+◌, ◌-◌, ◌<◌, ◌++◌, sym, ap, length, slice_get, arith}
use Rattle.pts_ctx.specs.Entries.{global_of}
use Rattle.pts_ctx.specs.Chunks.{flat}
use Rattle.pts_ctx.proofs.Flat.{get-left, get-right}
use Rattle.pts_ctx.proofs.Lookups.{within-at}
use Rattle.pts_ctx.proofs.context.Context.entry.Goals as goal

pub returns-then-place-self-clause-within : goal.returns-then-place-self-clause-within
returns-then-place-self-clause-within c =
    let F = flat c.self.inside.chunks.items in
    let L = c.self.inside.last.entries in
    let place = c.args.place in
    let inside : place < length F = omega (arith, c.self.invariant.0, c.if-place-self.true) in
    let at = get-left F L place inside ∙ (ap (λ H. slice_get (flat H) place) (sym c.deref.ensures.value) ∙ c.entry_at.ensures) in
    within-at (F ++ L) place (global_of c.entry_at.result.now) at c.self.invariant.1.within

pub returns-else-place-self-clause-entry : goal.returns-else-place-self-clause-entry
returns-else-place-self-clause-entry c =
    let F = flat c.self.inside.chunks.items in
    let L = c.self.inside.last.entries in
    let place = c.args.place in
    let rest = place - c.self.inside.older in
    let sum : place ≡ length F + rest = omega (arith, c.self.invariant.0, c.if-place-self.false) in
    ap (λ s. slice_get s.entries place) (sym c.self.view_is)
    ∙ (ap (slice_get (F ++ L)) sum ∙ (get-right F L rest ∙ c.entry.ensures))

pub returns-else-place-self-clause-within : goal.returns-else-place-self-clause-within
returns-else-place-self-clause-within c =
    let F = flat c.self.inside.chunks.items in
    let L = c.self.inside.last.entries in
    let place = c.args.place in
    let rest = place - c.self.inside.older in
    let sum : place ≡ length F + rest = omega (arith, c.self.invariant.0, c.if-place-self.false) in
    let at = ap (slice_get (F ++ L)) sum ∙ (get-right F L rest ∙ c.entry.ensures) in
    within-at (F ++ L) place (global_of c.entry.result.now) at c.self.invariant.1.within
