use Rattle.std.proofs.Common.{◌≡◌, ◌∙◌, suc, ◌-◌, ◌<◌, nat_eq, length, get_or, slice_get, Some, sym, ap, refl, subst, arith}
use Rattle.std.proofs.lemmas.List.{length-map}
use Rattle.std.proofs.lemmas.Option.{slice_get_read}
use Rattle.pts_names.specs.Name.{same_name}
use Rattle.pts_ctx.specs.Index.{hash_of}
use Rattle.pts_ctx.specs.Chunks.{SeenPart, IsPart}
use Rattle.pts_ctx.proofs.Chains.{last-inside}
use Rattle.pts_ctx.proofs.Hashed.{search-start, search-on, search-end, found}
use Rattle.pts_ctx.proofs.part.Part.place_of.Goals as goal

pub loop-after-init : goal.loop-after-init
loop-after-init c =
    let x = c.args.name.now in
    let E = c.args.self.now.entries in
    let G = c.self.inside.slots.items in
    let hashes = c.self.inside.index.hashes in
    let sure = subst (λ (s : SeenPart). IsPart s.entries hashes) c.self.view_is c.self.invariant in
    search-start x E hashes sure c.args.hash c.last-after.result c.requires c.last-after.ensures

pub last_before-after-requires : goal.last_before-after-requires
last_before-after-requires c =
    let x = c.args.name.now in
    let E = c.args.self.now.entries in
    let G = c.self.inside.slots.items in
    let hashes = c.self.inside.index.hashes in
    let sure = subst (λ (s : SeenPart). IsPart s.entries hashes) c.self.view_is c.self.invariant in
    let k = c.loop-after.after - 1 in
    let here : c.loop-after.after ≡ suc k = omega (arith, c.loop-after-test.true) in
    let same : length G ≡ length E = ap (λ s. length s.entries) c.self.view_is in
    let inside : k < length G = omega (arith, here, same, c.loop-after.invariant.inside) in
    let count : length hashes ≡ length G = ap length c.self.invariant.hashed ∙ length-map G (λ d. hash_of d.name) in
    omega (arith, count, inside)

pub loop-after-smaller : goal.loop-after-smaller
loop-after-smaller c =
    let hashes = c.self.inside.index.hashes in
    let k = c.loop-after.after - 1 in
    let here : c.loop-after.after ≡ suc k = omega (arith, c.loop-after-test.true) in
    let small = last-inside (nat_eq (get_or hashes k 0)) hashes k in
    omega (arith, c.last_before-after.ensures, small, here)

pub loop-after-preserved : goal.loop-after-preserved
loop-after-preserved c =
    let x = c.args.name.now in
    let E = c.args.self.now.entries in
    let G = c.self.inside.slots.items in
    let hashes = c.self.inside.index.hashes in
    let sure = subst (λ (s : SeenPart). IsPart s.entries hashes) c.self.view_is c.self.invariant in
    let k = c.loop-after.after - 1 in
    let here : c.loop-after.after ≡ suc k = omega (arith, c.loop-after-test.true) in
    let same : length G ≡ length E = ap (λ s. length s.entries) c.self.view_is in
    let inside : k < length G = omega (arith, here, same, c.loop-after.invariant.inside) in
    let e = c.index.result.now in
    let at : slice_get E k ≡ Some e = ap (λ s. slice_get s.entries k) (sym c.self.view_is) ∙ slice_get_read G (length G) k e refl inside c.index.ensures in
    let name : c.same.result ≡ same_name x e.name = c.same.ensures ∙ ap (λ d. same_name x d.name) c.entry.ensures in
    search-on x E hashes sure c.loop-after.after k c.last_before-after.result e c.loop-after.invariant here at (sym name ∙ c.if-same.false) c.last_before-after.ensures

pub returns-then-same : goal.returns-then-same
returns-then-same c =
    let x = c.args.name.now in
    let E = c.args.self.now.entries in
    let G = c.self.inside.slots.items in
    let hashes = c.self.inside.index.hashes in
    let sure = subst (λ (s : SeenPart). IsPart s.entries hashes) c.self.view_is c.self.invariant in
    let k = c.loop-after.after - 1 in
    let here : c.loop-after.after ≡ suc k = omega (arith, c.loop-after-test.true) in
    let same : length G ≡ length E = ap (λ s. length s.entries) c.self.view_is in
    let inside : k < length G = omega (arith, here, same, c.loop-after.invariant.inside) in
    let e = c.index.result.now in
    let at : slice_get E k ≡ Some e = ap (λ s. slice_get s.entries k) (sym c.self.view_is) ∙ slice_get_read G (length G) k e refl inside c.index.ensures in
    let name : c.same.result ≡ same_name x e.name = c.same.ensures ∙ ap (λ d. same_name x d.name) c.entry.ensures in
    sym (found x E k e sure.names at (sym name ∙ c.if-same.true))

pub returns : goal.returns
returns c = search-end c.args.name.now c.args.self.now.entries c.loop-after.after c.loop-after.invariant (omega (arith, c.loop-after-test.false))
