use Rattle.std.proofs.Common.{rules, ◌∙◌, sym, ap, ◌∷◌, Some}
use Rattle.atomic_table.specs.Table.{rest}
use Rattle.pts_lock.proofs.Turns.{draws, loads}
use Rattle.pts_lock.proofs.turnstile.Turnstile.begin_turn.Goals as goal

pub fetch_add-ticket-requires : goal.fetch_add-ticket-requires
fetch_add-ticket-requires g c = (c.requires.own, search rules, draws g.T.Staged.history _ _ _ _ _ c.requires.idle.1 c.requires.idle.2 c.requires.owners)

pub load-serving-requires : goal.load-serving-requires
load-serving-requires g c = let i = c.loop.invariant in (i.0 ∙ c.requires.own, search rules, loads g.T.Staged.history _ _ _ _ _ i.4.0 i.4.1 i.2 i.1)

pub exchange-requires : goal.exchange-requires
exchange-requires g c =
    let i = c.loop.invariant in
    let got = (c.load-serving.ensures.2 i.4.0 i.4.1).0 (c.if-serving-ticket.true ∙ i.4.2) in
    let holds = ap (λ m. m.1) got.1 in
    (c.load-serving.ensures.0 ∙ (i.0 ∙ c.requires.own), (Some got.0, holds ∙ ap (λ l. (0, Some got.0) ∷ rest l) (sym holds)))
