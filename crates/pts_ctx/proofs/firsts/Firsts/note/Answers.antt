use Rattle.std.proofs.Common.{nat_eq, false, ◌≡◌, ◌∙◌, sym, ap, subst, refl, length, arith, ℕ, Some, slice_set, ◌++◌, ◌∷◌, []}
use Rattle.std.proofs.lemmas.Option.{slice_get_read}
use Rattle.pts_ctx.specs.Firsts.{Knows, earlier}
use Rattle.pts_ctx.proofs.Known.{note-new, note-same, note-other}
use Rattle.pts_ctx.proofs.firsts.Firsts.note.Goals as goal

pub returns-in_default-clause-knows : goal.returns-in_default-clause-knows
returns-in_default-clause-knows c lines end known =
    let R = c.args.self.now.rights.items in
    let P = c.args.self.now.places.items in
    let s = c.args.left in
    let empty = slice_get_read R (length R) s c.index.result.now refl c.requires.rights c.index.ensures ∙ ap Some c.in_default.is in
    subst (λ (n : ℕ). Knows (slice_set R s (Some c.args.right)) (slice_set P s n) c.args.self.now.clash (lines ++ (s, c.args.right.0) ∷ [])) end
    (note-new R P c.args.self.now.clash lines s c.args.right known c.requires.rights c.requires.places empty)

pub returns-then-first-right-clause-knows : goal.returns-then-first-right-clause-knows
returns-then-first-right-clause-knows c lines end known =
    let R = c.args.self.now.rights.items in
    let s = c.args.left in
    let there = slice_get_read R (length R) s c.index.result.now refl c.requires.rights c.index.ensures ∙ ap Some c.in-Some.is in
    note-same R c.args.self.now.places.items c.args.self.now.clash lines s c.args.right known c.in-Some.first there c.if-first-right.true

pub returns-clause-knows : goal.returns-clause-knows
returns-clause-knows c lines end known =
    let R = c.args.self.now.rights.items in
    let P = c.args.self.now.places.items in
    let C = c.args.self.now.clash in
    let s = c.args.left in
    let p = c.index-2.result.now in
    let there = slice_get_read R (length R) s c.index.result.now refl c.requires.rights c.index.ensures ∙ ap Some c.in-Some.is in
    let first = slice_get_read P (length P) s p refl c.requires.places c.index-2.ensures in
    let other : nat_eq c.in-Some.first.0 c.args.right.0 ≡ false = grind (arith, c.if-first-right.false) in
    let pair : earlier C (p, length lines) ≡ c.earlier.result = ap (λ n. earlier C (p, n)) end ∙ sym c.earlier.ensures in
    subst (λ (k : ℕ × ℕ). Knows R P (Some k) (lines ++ (s, c.args.right.0) ∷ [])) pair (note-other R P C lines s c.args.right known c.in-Some.first p there other first)
