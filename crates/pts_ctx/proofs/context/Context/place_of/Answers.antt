use Rattle.std.proofs.Common.{◌∙◌, ◌+◌, sym, ap, subst, List, Some}
use Rattle.pts_names.specs.Name.{Name}
use Rattle.pts_ctx.specs.Front.{Global}
use Rattle.pts_ctx.specs.Seen.{place_of, NamesDiffer}
use Rattle.pts_ctx.specs.Chunks.{flat}
use Rattle.pts_ctx.proofs.Lookups.{differ-left, place-left, place-right, find-none, find-some, place-fresh}
use Rattle.pts_ctx.proofs.context.Context.place_of.Goals as goal

pub newest_place-requires-clause-differ : goal.newest_place-requires-clause-differ
newest_place-requires-clause-differ c =
    let F = flat c.self.inside.chunks.items in
    subst (λ (H : List (List (Global Name))). NamesDiffer (flat H)) (sym c.deref.ensures.value) (differ-left F c.self.inside.last.entries c.self.invariant.1.names)

pub returns-in-Some-clause-place : goal.returns-in-Some-clause-place
returns-in-Some-clause-place c =
    let x = c.args.name.now in
    let F = flat c.self.inside.chunks.items in
    let L = c.self.inside.last.entries in
    let p = c.in-Some.place in
    let right = place-right x F L p c.self.invariant.1.names (sym c.place_of.ensures ∙ c.in-Some.is) in
    ap (λ n. Some (n + p)) c.self.invariant.0 ∙ (sym right ∙ ap (λ s. place_of x s.entries) c.self.view_is)

pub returns-in-Some-clause-entry : goal.returns-in-Some-clause-entry
returns-in-Some-clause-entry c =
    let x = c.args.name.now in
    let F = flat c.self.inside.chunks.items in
    let L = c.self.inside.last.entries in
    let p = c.in-Some.place in
    let right = place-right x F L p c.self.invariant.1.names (sym c.place_of.ensures ∙ c.in-Some.is) in
    let at = ap (λ n. Some (n + p)) c.self.invariant.0 ∙ (sym right ∙ ap (λ s. place_of x s.entries) c.self.view_is) in
    find-some x c.args.self.now.entries (Some (c.self.inside.older + p)) at

pub returns-in-Some-clause-fresh : goal.returns-in-Some-clause-fresh
returns-in-Some-clause-fresh c =
    let x = c.args.name.now in
    let F = flat c.self.inside.chunks.items in
    let L = c.self.inside.last.entries in
    let p = c.in-Some.place in
    let right = place-right x F L p c.self.invariant.1.names (sym c.place_of.ensures ∙ c.in-Some.is) in
    let at = ap (λ n. Some (n + p)) c.self.invariant.0 ∙ (sym right ∙ ap (λ s. place_of x s.entries) c.self.view_is) in
    (λ none. find-none x c.args.self.now.entries (sym at ∙ none), λ fresh. at ∙ place-fresh x c.args.self.now.entries fresh)

pub returns-in-None-clause-place : goal.returns-in-None-clause-place
returns-in-None-clause-place c =
    let x = c.args.name.now in
    let F = flat c.self.inside.chunks.items in
    let L = c.self.inside.last.entries in
    let left = place-left x F L (sym c.place_of.ensures ∙ c.in-None.is) in
    c.newest_place.ensures
    ∙ (ap (λ H. place_of x (flat H)) c.deref.ensures.value ∙ (sym left ∙ ap (λ s. place_of x s.entries) c.self.view_is))

pub returns-in-None-clause-entry : goal.returns-in-None-clause-entry
returns-in-None-clause-entry c =
    let x = c.args.name.now in
    let F = flat c.self.inside.chunks.items in
    let L = c.self.inside.last.entries in
    let left = place-left x F L (sym c.place_of.ensures ∙ c.in-None.is) in
    let at =
    c.newest_place.ensures
    ∙ (ap (λ H. place_of x (flat H)) c.deref.ensures.value ∙ (sym left ∙ ap (λ s. place_of x s.entries) c.self.view_is)) in
    find-some x c.args.self.now.entries c.newest_place.result at

pub returns-in-None-clause-fresh : goal.returns-in-None-clause-fresh
returns-in-None-clause-fresh c =
    let x = c.args.name.now in
    let F = flat c.self.inside.chunks.items in
    let L = c.self.inside.last.entries in
    let left = place-left x F L (sym c.place_of.ensures ∙ c.in-None.is) in
    let at =
    c.newest_place.ensures
    ∙ (ap (λ H. place_of x (flat H)) c.deref.ensures.value ∙ (sym left ∙ ap (λ s. place_of x s.entries) c.self.view_is)) in
    (λ none. find-none x c.args.self.now.entries (sym at ∙ none), λ fresh. at ∙ place-fresh x c.args.self.now.entries fresh)
