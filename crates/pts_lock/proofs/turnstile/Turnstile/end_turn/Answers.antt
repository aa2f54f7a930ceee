use Rattle.std.proofs.Common.{rules, arith, ◌-◌, ◌∙◌, sym, ap, refl, subst, ◌∷◌, Some}
use Rattle.atomic_table.specs.Table.{rest}
use Rattle.pts_lock.specs.Views.{GrewTo, HasLength}
use Rattle.pts_lock.proofs.Turns.{raises_by_at, grew_longer, serves}
use Rattle.pts_lock.proofs.turnstile.Turnstile.end_turn.Goals as goal

pub fetch_add-requires : goal.fetch_add-requires
fetch_add-requires g c =
    let e = c.exchange-slot.ensures in
    let hist = g.T.Staged.history in
    let out = ap (λ m. m.1) e.3 ∙ ap (λ l. (0, Some c.args.value) ∷ rest l) c.requires.turn in
    let grew = subst (λ v. GrewTo v.turn v.pairs (hist c.args.value)) (sym (ap (λ m. m.0) e.3)) c.requires.history in
    let taken = subst (λ v. HasLength v.turn c.args.before) (sym (ap (λ m. m.0) e.3)) c.requires.before in
    let long = grew_longer _ _ _ _ c.requires.history c.requires.before in
    let staged = c.stage.ensures in (
      e.0 ∙ c.requires.own,
      search rules,
      raises_by_at hist _ _ _ _ _ c.args.value (c.stage.result - c.args.before) c.stage.result c.args.before _ refl grew out c.stage.ensures (search rules) taken (omega arith),
    )

pub fetch_add-requires-2 : goal.fetch_add-requires-2
fetch_add-requires-2 g c =
    let e = c.exchange-slot.ensures in
    let hist = g.T.Staged.history in
    let out = ap (λ m. m.1) e.3 ∙ ap (λ l. (0, Some c.args.value) ∷ rest l) c.requires.turn in
    let raised = c.fetch_add.ensures.2 c.args.value out in
    (c.fetch_add.ensures.0 ∙ (e.0 ∙ c.requires.own), search rules, serves hist _ _ _ _ _ c.args.value (ap (λ m. m.1) raised ∙ out) (ap (λ m. m.0.turn) raised))
