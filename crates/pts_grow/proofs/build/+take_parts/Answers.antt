use Rattle.pts_grow.proofs.Lifted.{if_term}
use Rattle.pts_grow.proofs.Taken.{app_taken, lam_taken, pi_taken, let_taken, if_within, if_refused}
use Rattle.pts_grow.proofs.build.+take_parts.Goals as goal

pub returns-in_ok-a-in-App-clause-term : goal.returns-in_ok-a-in-App-clause-term
returns-in_ok-a-in-App-clause-term t c = if_term c.add_line-in-App.result c.add_line-in-App.new.proof _ _ (app_taken _ _ _ _ c.args.term.now _ _ _ _ c.in-App.is c.in_ok-f-in-App.ensures.term c.get.ensures c.in_ok-a-in-App.ensures.keeps c.in_ok-a-in-App.ensures.term c.get-in-App.ensures) c.add_line-in-App.ensures.term

pub returns-in_ok-a-in-App-clause-within : goal.returns-in_ok-a-in-App-clause-within
returns-in_ok-a-in-App-clause-within t c = if_within c.add_line-in-App.result _ _ (app_taken _ _ _ _ c.args.term.now _ _ _ _ c.in-App.is c.in_ok-f-in-App.ensures.term c.get.ensures c.in_ok-a-in-App.ensures.keeps c.in_ok-a-in-App.ensures.term c.get-in-App.ensures) c.add_line-in-App.ensures.within

pub returns-in_ok-a-in-App-clause-refused : goal.returns-in_ok-a-in-App-clause-refused
returns-in_ok-a-in-App-clause-refused t c = if_refused c.add_line-in-App.result _ _ (app_taken _ _ _ _ c.args.term.now _ _ _ _ c.in-App.is c.in_ok-f-in-App.ensures.term c.get.ensures c.in_ok-a-in-App.ensures.keeps c.in_ok-a-in-App.ensures.term c.get-in-App.ensures) c.add_line-in-App.ensures.refused

pub returns-in_ok-b-in-Lam-clause-term : goal.returns-in_ok-b-in-Lam-clause-term
returns-in_ok-b-in-Lam-clause-term t c = if_term c.add_line-in-Lam.result c.add_line-in-Lam.new.proof _ _ (lam_taken _ _ _ _ _ _ c.args.term.now _ _ _ _ c.in-Lam.is c.in_ok-x-in-Lam.ensures c.in_ok-t-in-Lam.ensures.term c.get-in-Lam.ensures c.in_ok-b-in-Lam.ensures.keeps c.in_ok-b-in-Lam.ensures.term c.get-in-Lam-2.ensures) c.add_line-in-Lam.ensures.term

pub returns-in_ok-b-in-Lam-clause-within : goal.returns-in_ok-b-in-Lam-clause-within
returns-in_ok-b-in-Lam-clause-within t c = if_within c.add_line-in-Lam.result _ _ (lam_taken _ _ _ _ _ _ c.args.term.now _ _ _ _ c.in-Lam.is c.in_ok-x-in-Lam.ensures c.in_ok-t-in-Lam.ensures.term c.get-in-Lam.ensures c.in_ok-b-in-Lam.ensures.keeps c.in_ok-b-in-Lam.ensures.term c.get-in-Lam-2.ensures) c.add_line-in-Lam.ensures.within

pub returns-in_ok-b-in-Lam-clause-refused : goal.returns-in_ok-b-in-Lam-clause-refused
returns-in_ok-b-in-Lam-clause-refused t c = if_refused c.add_line-in-Lam.result _ _ (lam_taken _ _ _ _ _ _ c.args.term.now _ _ _ _ c.in-Lam.is c.in_ok-x-in-Lam.ensures c.in_ok-t-in-Lam.ensures.term c.get-in-Lam.ensures c.in_ok-b-in-Lam.ensures.keeps c.in_ok-b-in-Lam.ensures.term c.get-in-Lam-2.ensures) c.add_line-in-Lam.ensures.refused

pub returns-in_ok-b-in-Pi-clause-term : goal.returns-in_ok-b-in-Pi-clause-term
returns-in_ok-b-in-Pi-clause-term t c = if_term c.add_line-in-Pi.result c.add_line-in-Pi.new.proof _ _ (pi_taken _ _ _ _ _ _ c.args.term.now _ _ _ _ c.in-Pi.is c.in_ok-x-in-Pi.ensures c.in_ok-t-in-Pi.ensures.term c.get-in-Pi.ensures c.in_ok-b-in-Pi.ensures.keeps c.in_ok-b-in-Pi.ensures.term c.get-in-Pi-2.ensures) c.add_line-in-Pi.ensures.term

pub returns-in_ok-b-in-Pi-clause-within : goal.returns-in_ok-b-in-Pi-clause-within
returns-in_ok-b-in-Pi-clause-within t c = if_within c.add_line-in-Pi.result _ _ (pi_taken _ _ _ _ _ _ c.args.term.now _ _ _ _ c.in-Pi.is c.in_ok-x-in-Pi.ensures c.in_ok-t-in-Pi.ensures.term c.get-in-Pi.ensures c.in_ok-b-in-Pi.ensures.keeps c.in_ok-b-in-Pi.ensures.term c.get-in-Pi-2.ensures) c.add_line-in-Pi.ensures.within

pub returns-in_ok-b-in-Pi-clause-refused : goal.returns-in_ok-b-in-Pi-clause-refused
returns-in_ok-b-in-Pi-clause-refused t c = if_refused c.add_line-in-Pi.result _ _ (pi_taken _ _ _ _ _ _ c.args.term.now _ _ _ _ c.in-Pi.is c.in_ok-x-in-Pi.ensures c.in_ok-t-in-Pi.ensures.term c.get-in-Pi.ensures c.in_ok-b-in-Pi.ensures.keeps c.in_ok-b-in-Pi.ensures.term c.get-in-Pi-2.ensures) c.add_line-in-Pi.ensures.refused

pub returns-in_ok-b-in-Let-clause-term : goal.returns-in_ok-b-in-Let-clause-term
returns-in_ok-b-in-Let-clause-term t c = if_term c.add_line-in-Let.result c.add_line-in-Let.new.proof _ _ (let_taken _ _ _ _ _ _ _ _ c.args.term.now _ _ _ _ _ _ c.in-Let.is c.in_ok-x-in-Let.ensures c.in_ok-d-in-Let.ensures.term c.get-in-Let.ensures c.in_ok-t-in-Let.ensures.keeps c.in_ok-t-in-Let.ensures.term c.get-in-Let-2.ensures c.in_ok-b-in-Let.ensures.keeps c.in_ok-b-in-Let.ensures.term c.get-in-Let-3.ensures) c.add_line-in-Let.ensures.term

pub returns-in_ok-b-in-Let-clause-within : goal.returns-in_ok-b-in-Let-clause-within
returns-in_ok-b-in-Let-clause-within t c = if_within c.add_line-in-Let.result _ _ (let_taken _ _ _ _ _ _ _ _ c.args.term.now _ _ _ _ _ _ c.in-Let.is c.in_ok-x-in-Let.ensures c.in_ok-d-in-Let.ensures.term c.get-in-Let.ensures c.in_ok-t-in-Let.ensures.keeps c.in_ok-t-in-Let.ensures.term c.get-in-Let-2.ensures c.in_ok-b-in-Let.ensures.keeps c.in_ok-b-in-Let.ensures.term c.get-in-Let-3.ensures) c.add_line-in-Let.ensures.within

pub returns-in_ok-b-in-Let-clause-refused : goal.returns-in_ok-b-in-Let-clause-refused
returns-in_ok-b-in-Let-clause-refused t c = if_refused c.add_line-in-Let.result _ _ (let_taken _ _ _ _ _ _ _ _ c.args.term.now _ _ _ _ _ _ c.in-Let.is c.in_ok-x-in-Let.ensures c.in_ok-d-in-Let.ensures.term c.get-in-Let.ensures c.in_ok-t-in-Let.ensures.keeps c.in_ok-t-in-Let.ensures.term c.get-in-Let-2.ensures c.in_ok-b-in-Let.ensures.keeps c.in_ok-b-in-Let.ensures.term c.get-in-Let-3.ensures) c.add_line-in-Let.ensures.refused
