use Rattle.std.proofs.Common.{ap, ◌∙◌}
use Rattle.pts_terms.specs.Limits.{within}
use Rattle.pts_terms.specs.Seen.{named}
use Rattle.pts_record.proofs.Parts.{app_is, lam_is, pi_is, let_is, number_of}
use Rattle.pts_record.proofs.record.Record.+put_tree.Goals as goal

pub put_line-requires-in-App-clause-within : goal.put_line-requires-in-App-clause-within
put_line-requires-in-App-clause-within t c = ap within (app_is _ _ _ _ c.args.term.now _ _ c.in-App.is c.in_ok-f-in-App.ensures.number.0 (c.in_ok-f-in-App.ensures.number.1 ∙ ap named c.get.ensures) c.in_ok-a-in-App.ensures.front (c.in_ok-a-in-App.ensures.number.1 ∙ ap named c.get-in-App.ensures)) ∙ c.requires

pub returns-in_ok-a-in-App-clause-number : goal.returns-in_ok-a-in-App-clause-number
returns-in_ok-a-in-App-clause-number t c = number_of c.put_line-in-App.result _ _ _ (app_is _ _ _ _ c.args.term.now _ _ c.in-App.is c.in_ok-f-in-App.ensures.number.0 (c.in_ok-f-in-App.ensures.number.1 ∙ ap named c.get.ensures) c.in_ok-a-in-App.ensures.front (c.in_ok-a-in-App.ensures.number.1 ∙ ap named c.get-in-App.ensures)) c.put_line-in-App.ensures.number

pub put_line-requires-in-Lam-clause-within : goal.put_line-requires-in-Lam-clause-within
put_line-requires-in-Lam-clause-within t c = ap within (lam_is _ _ _ _ _ _ c.args.term.now _ _ c.in-Lam.is c.in_ok-x-in-Lam.ensures c.in_ok-t-in-Lam.ensures.number.0 (c.in_ok-t-in-Lam.ensures.number.1 ∙ ap named c.get-in-Lam.ensures) c.in_ok-b-in-Lam.ensures.front (c.in_ok-b-in-Lam.ensures.number.1 ∙ ap named c.get-in-Lam-2.ensures)) ∙ c.requires

pub returns-in_ok-b-in-Lam-clause-number : goal.returns-in_ok-b-in-Lam-clause-number
returns-in_ok-b-in-Lam-clause-number t c = number_of c.put_line-in-Lam.result _ _ _ (lam_is _ _ _ _ _ _ c.args.term.now _ _ c.in-Lam.is c.in_ok-x-in-Lam.ensures c.in_ok-t-in-Lam.ensures.number.0 (c.in_ok-t-in-Lam.ensures.number.1 ∙ ap named c.get-in-Lam.ensures) c.in_ok-b-in-Lam.ensures.front (c.in_ok-b-in-Lam.ensures.number.1 ∙ ap named c.get-in-Lam-2.ensures)) c.put_line-in-Lam.ensures.number

pub put_line-requires-in-Pi-clause-within : goal.put_line-requires-in-Pi-clause-within
put_line-requires-in-Pi-clause-within t c = ap within (pi_is _ _ _ _ _ _ c.args.term.now _ _ c.in-Pi.is c.in_ok-x-in-Pi.ensures c.in_ok-t-in-Pi.ensures.number.0 (c.in_ok-t-in-Pi.ensures.number.1 ∙ ap named c.get-in-Pi.ensures) c.in_ok-b-in-Pi.ensures.front (c.in_ok-b-in-Pi.ensures.number.1 ∙ ap named c.get-in-Pi-2.ensures)) ∙ c.requires

pub returns-in_ok-b-in-Pi-clause-number : goal.returns-in_ok-b-in-Pi-clause-number
returns-in_ok-b-in-Pi-clause-number t c = number_of c.put_line-in-Pi.result _ _ _ (pi_is _ _ _ _ _ _ c.args.term.now _ _ c.in-Pi.is c.in_ok-x-in-Pi.ensures c.in_ok-t-in-Pi.ensures.number.0 (c.in_ok-t-in-Pi.ensures.number.1 ∙ ap named c.get-in-Pi.ensures) c.in_ok-b-in-Pi.ensures.front (c.in_ok-b-in-Pi.ensures.number.1 ∙ ap named c.get-in-Pi-2.ensures)) c.put_line-in-Pi.ensures.number

pub put_line-requires-in-Let-clause-within : goal.put_line-requires-in-Let-clause-within
put_line-requires-in-Let-clause-within t c = ap within (let_is _ _ _ _ _ _ _ _ c.args.term.now _ _ _ c.in-Let.is c.in_ok-x-in-Let.ensures c.in_ok-d-in-Let.ensures.number.0 (c.in_ok-d-in-Let.ensures.number.1 ∙ ap named c.get-in-Let.ensures) c.in_ok-t-in-Let.ensures.front c.in_ok-t-in-Let.ensures.number.0 (c.in_ok-t-in-Let.ensures.number.1 ∙ ap named c.get-in-Let-2.ensures) c.in_ok-b-in-Let.ensures.front (c.in_ok-b-in-Let.ensures.number.1 ∙ ap named c.get-in-Let-3.ensures)) ∙ c.requires

pub returns-in_ok-b-in-Let-clause-number : goal.returns-in_ok-b-in-Let-clause-number
returns-in_ok-b-in-Let-clause-number t c = number_of c.put_line-in-Let.result _ _ _ (let_is _ _ _ _ _ _ _ _ c.args.term.now _ _ _ c.in-Let.is c.in_ok-x-in-Let.ensures c.in_ok-d-in-Let.ensures.number.0 (c.in_ok-d-in-Let.ensures.number.1 ∙ ap named c.get-in-Let.ensures) c.in_ok-t-in-Let.ensures.front c.in_ok-t-in-Let.ensures.number.0 (c.in_ok-t-in-Let.ensures.number.1 ∙ ap named c.get-in-Let-2.ensures) c.in_ok-b-in-Let.ensures.front (c.in_ok-b-in-Let.ensures.number.1 ∙ ap named c.get-in-Let-3.ensures)) c.put_line-in-Let.ensures.number
