use Rattle.std.proofs.Common.{arith, ◌≡◌, ◌++◌, ◌∷◌, [], List, ℕ, ◌+◌, slice_set, slice_index_or}
use Rattle.std.proofs.lemmas.Option.{slice_get-get_or}
use Rattle.pts_play.specs.Turns.{HaveLines, AllClear, players}
use Rattle.pts_play.proofs.Added.{Pushed, pushed, have_set, clear_set, players_set, with_ok}
use Rattle.pts_play.proofs.lines.add_line.Goals as goal

pub returns-clause-lines : goal.returns-clause-lines
returns-clause-lines g c =
    let s = slice_index_or c.args.seats.now c.args.index c.index-seats-index.result in
    let here = slice_get-get_or c.args.seats.now c.args.index c.index-seats-index.result c.requires.known in
    let e = c.push_line.ensures in
    with_ok c.push_line.result _ _ e.lines (λ more lines have. have_set 1 c.args.index (c.args.index + 1) c.args.text lines c.args.seats.now s c.push_line.new.seat (omega arith) here (pushed more e.player e.next e.replies e.asked) have)

pub returns-clause-clear : goal.returns-clause-clear
returns-clause-clear g c =
    let s = slice_index_or c.args.seats.now c.args.index c.index-seats-index.result in
    let here = slice_get-get_or c.args.seats.now c.args.index c.index-seats-index.result c.requires.known in
    let e = c.push_line.ensures in
    with_ok c.push_line.result _ _ e.lines (λ more clear. clear_set c.args.index c.args.text c.args.seats.now s c.push_line.new.seat here (pushed more e.player e.next e.replies e.asked) clear)

pub returns-clause-players : goal.returns-clause-players
returns-clause-players g c =
    let s = slice_index_or c.args.seats.now c.args.index c.index-seats-index.result in
    let here = slice_get-get_or c.args.seats.now c.args.index c.index-seats-index.result c.requires.known in
    let e = c.push_line.ensures in
    with_ok c.push_line.result _ _ e.lines (λ more. players_set c.args.index c.args.text c.args.seats.now s c.push_line.new.seat here (pushed more e.player e.next e.replies e.asked))
