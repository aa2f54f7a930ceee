use Rattle.std.proofs.Common.{◌≡◌, ◌∙◌, ◌≤◌, sym, ap, None, Some, arith}
use Rattle.std.specs.Arc.{arc_value}
use Rattle.pts_names.specs.Name.{same_name}
use Rattle.pts_ctx.specs.Seen.{place_of}
use Rattle.pts_ctx.proofs.Positions.{position-inside, position-outside, position-absent}
use Rattle.pts_ctx.proofs.chunk.Chunk.place_of.Goals as goal

pub returns-in-Some : goal.returns-in-Some
returns-in-Some c =
    let x = c.args.name.now in
    let G = (arc_value c.self.inside.part).entries in
    let at : place_of x G ≡ Some c.in-Some.place = ap (λ p. place_of x p.entries) (sym c.deref.ensures) ∙ (sym c.place_of.ensures ∙ c.in-Some.is) in
    sym (position-inside (λ e. same_name x e.name) c.self.inside.used G c.in-Some.place at c.if-place-self.true) ∙ ap (place_of x) c.self.view_is

pub returns-in_default : goal.returns-in_default
returns-in_default c =
    let x = c.args.name.now in
    let G = (arc_value c.self.inside.part).entries in
    let at : place_of x G ≡ Some c.in-Some.place = ap (λ p. place_of x p.entries) (sym c.deref.ensures) ∙ (sym c.place_of.ensures ∙ c.in-Some.is) in
    let past : c.self.inside.used ≤ c.in-Some.place = omega (arith, c.if-place-self.false) in
    sym (position-outside (λ e. same_name x e.name) c.self.inside.used G c.in-Some.place at past) ∙ ap (place_of x) c.self.view_is

pub returns-in_default-2 : goal.returns-in_default-2
returns-in_default-2 c =
    let x = c.args.name.now in
    let G = (arc_value c.self.inside.part).entries in
    let at : place_of x G ≡ None = ap (λ p. place_of x p.entries) (sym c.deref.ensures) ∙ (sym c.place_of.ensures ∙ c.in_default.is) in
    sym (position-absent (λ e. same_name x e.name) c.self.inside.used G at) ∙ ap (place_of x) c.self.view_is
