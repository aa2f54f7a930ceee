use Rattle.std.proofs.Common.{◌≡◌, sym, subst}
use Rattle.std.specs.List.{AllByRecursion}
use Rattle.pts_share.specs.Passes.{IsPassOf, history_of}
use Rattle.pts_share.specs.Sharing.{table_of}
use Rattle.pts_share_tests.proofs.asking.shared_and_asked.Goals as goal

pub ask_both-answers-requires-clause-passes : goal.ask_both-answers-requires-clause-passes
ask_both-answers-requires-clause-passes g c =
    let opened = c.in_ok-shared in
    subst (λ k. AllByRecursion (λ p. IsPassOf (table_of opened.shared) k.system p × (history_of p ≡ k.history)) opened.passes.items) (sym opened.ensures.opening.1) opened.ensures.passes
