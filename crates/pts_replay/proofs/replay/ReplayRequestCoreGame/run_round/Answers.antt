use Rattle.std.proofs.Common.{suc, ◌≡◌, ◌∙◌, ◌+◌, ◌∷◌, ◌++◌, [], sym, ap, subst, arith, length, All}
use Rattle.std.specs.List.{AllByRecursion}
use Rattle.std.proofs.lemmas.List.Elements.{All-nil}
use Rattle.pts_play.specs.Rounds.{OrderFrom}
use Rattle.pts_play.specs.Inputs.{IsSession}
use Rattle.pts_play.specs.Play.{PlaysRound}
use Rattle.pts_play.specs.Turns.{AllClear, AllFit, NoLines, players}
use Rattle.pts_replay.proofs.Handing.{written_back, round_same}
use Rattle.pts_replay.proofs.replay.ReplayRequestCoreGame.run_round.Goals as goal

pub returns-clause-played : goal.returns-clause-played
returns-clause-played g c =
    let s = c.args.self.now in
    let new = c.round_of.new.seats in
    let view = c.as_mut_slice-seats.ensures.value in
    let auto = c.round_of.auto.seats in
    let own = s.seats.ok.0 in
    let back = written_back s.seats.items new s.seats.len (omega (arith, auto, ap length view)) (omega (arith, own)) in
    let kept = s.orders.ok.0 in
    let count : suc (length s.orders.items) ≡ c.len.result + 1 = omega (arith, kept, c.len.ensures) in
    let played = c.in_ok-round.ensures.played s.orders.items count in
    let none : c.replace-lines.new.dest.items ≡ [] = ap (λ v. v.items) c.replace-lines.ensures.after ∙ c.new.ensures.items in (
      played.0,
      played.1,
      round_same (PlaysRound g.P.Core.Table.steps (g.P.Player.local c.args.world.now) (g.P.Player.resumes c.args.world.now) OrderFrom) c.args.numbers.now played.0 s.core c.round_of.new.core (players c.as_mut_slice-seats.result.now) (players s.seats.items) (players new) _ c.replace-lines.result.items s.lines.items [] c.replace-lines.new.dest.items s.orders.items _ c.push.new.self.items
          (ap players view) (ap (λ v. v.items) c.replace-lines.ensures.value) (ap players (sym back)) (sym none) (sym (c.in_ok-push.ensures.items ∙ ap (λ x. s.orders.items ++ x ∷ []) c.of.ensures)) played.2,
    )

pub returns-clause-ready : goal.returns-clause-ready
returns-clause-ready g c =
    let s = c.args.self.now in
    let new = c.round_of.new.seats in
    let view = c.as_mut_slice-seats.ensures.value in
    let auto = c.round_of.auto.seats in
    let own = s.seats.ok.0 in
    let back = written_back s.seats.items new s.seats.len (omega (arith, auto, ap length view)) (omega (arith, own)) in
    let none : c.replace-lines.new.dest.items ≡ [] = ap (λ v. v.items) c.replace-lines.ensures.after ∙ c.new.ensures.items in
    let all = c.requires.ready.sessions in
    let e = c.in_ok-round.ensures in
    record {
      sessions = ap length back ∙ omega (arith, auto, ap length view, all);
      numbers = subst (All (λ l. IsSession l.0)) (sym none) (All-nil (λ l. IsSession l.0));
      clear = subst AllClear (sym back) e.clear;
      bare = subst NoLines (sym back) e.bare;
      free = subst (λ seats. AllByRecursion (g.P.Player.free c.args.world.now) (players seats)) (sym back) e.free;
      fits = subst (λ seats. AllFit (g.P.Player.fits c.args.world.now) c.round_of.new.core seats) (sym back) e.fits;
    }
