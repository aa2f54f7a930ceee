use Rattle.std.proofs.Common.{rules, ◌≡◌, ◌<◌, ◌≤◌, ◌⊎◌, refl, ap, subst, ◌∙◌, IfOk, IfSome, Contains, arith}
use Rattle.std.specs.Option.{option_map}
use Rattle.std.specs.Io.KnownBytes.{prepend_known}
use Rattle.pts_io.specs.declared.faults.ReadFail.{ReadFail}
use Rattle.pts_io.specs.Lines.{IsNext, behind, within}
use Rattle.pts_io.proofs.Ahead.{behind-append, behind-ahead, answer_ahead, last_ahead, room_ahead, feed_ahead, last_fed}
use Rattle.pts_io.proofs.Took.{gets_nothing, gets_more, took_line, took_last, took_refused, took_over, over_ahead, at_limit}
use Rattle.pts_io.proofs.lines.LineReader.read_line.Goals as goal

pub returns-then-count-eq0-clause-answer : goal.returns-then-count-eq0-clause-answer
returns-then-count-eq0-clause-answer g c =
    let took = c.in_ok-count.ensures in
    let last = c.hand_out_last.ensures in
    subst (λ ahead. IfOk c.hand_out_last.result (λ input. IfSome ahead (λ bytes. IsNext (within c.args.self.now) bytes input)))
    (took.ahead ∙ c.turns.invariant.6)
    (last_ahead ReadFail _ c.fill.new.self.held _ _ (took.end c.if-count-eq0.true) (omega (arith, took.len, took.taken, took.limit, c.turns.invariant.0, c.turns.invariant.3, c.turns.invariant.7, c.if-count-eq0.true)) last.empty last.answer)

pub returns-in-Some-clause-ahead : goal.returns-in-Some-clause-ahead
returns-in-Some-clause-ahead g c =
    let took = c.in_ok-count.ensures in
    let out = c.hand_out.ensures in
    ap (λ held. prepend_known held (g.S.Source.state c.fill.new.source).left) out.held ∙ behind-ahead ReadFail _ _ _ c.in-Some.end c.in-Some.ensures ∙ ap (option_map (behind c.hand_out.result)) (took.ahead ∙ c.turns.invariant.6)

pub returns-in-Some-clause-answer : goal.returns-in-Some-clause-answer
returns-in-Some-clause-answer g c =
    let took = c.in_ok-count.ensures in
    let out = c.hand_out.ensures in
    subst (λ ahead. IfOk c.hand_out.result (λ input. IfSome ahead (λ bytes. IsNext (within c.args.self.now) bytes input)))
    (took.ahead ∙ c.turns.invariant.6)
    (answer_ahead ReadFail _ c.fill.new.self.held _ c.in-Some.end _ c.in-Some.ensures (let inside : c.fill.new.self.taken ≤ c.fill.new.self.limit = search rules in omega (arith, inside, took.len, took.taken, took.limit, c.turns.invariant.0, c.turns.invariant.3, c.turns.invariant.7)) out.answer)

pub returns-in-Some-clause-room : goal.returns-in-Some-clause-room
returns-in-Some-clause-room g c =
    let took = c.in_ok-count.ensures in
    let out = c.hand_out.ensures in
    let inside : c.fill.new.self.taken ≤ c.fill.new.self.limit = search rules in
    let len = c.turns.invariant.7 in
    room_ahead ReadFail _ c.args.self.now c.hand_out.new.self c.fill.new.self.held _ _ (took.ahead ∙ c.turns.invariant.6) out.held
    (λ ys _. behind-append ReadFail _ _ ys c.in-Some.end c.in-Some.ensures)
    (omega (arith, took.len, took.taken, out.taken, len), out.limit ∙ took.limit ∙ c.turns.invariant.3, c.requires.«open», omega (arith, inside, out.taken, out.limit))

pub returns-in-Some-clause-fed : goal.returns-in-Some-clause-fed
returns-in-Some-clause-fed g c _ =
    let took = c.in_ok-count.ensures in
    subst (λ ahead. IfSome ahead (λ bytes. Contains bytes 10 ⊎ (behind c.hand_out.result bytes ≡ bytes))) (took.ahead ∙ c.turns.invariant.6)
    (feed_ahead ReadFail c.hand_out.result c.fill.new.self.held (g.S.Source.state c.fill.new.source).left c.in-Some.end c.in-Some.ensures)

pub returns-then-count-eq0-clause-fed : goal.returns-then-count-eq0-clause-fed
returns-then-count-eq0-clause-fed g c not = last_fed ReadFail c.hand_out_last.result c.hand_out_last.new.self.ended _ c.hand_out_last.ensures.ended not

pub turns-init : goal.turns-init
turns-init g c = (c.requires.«open», c.requires.no_line, search rules, search rules, search rules, search rules, search rules, search rules, c.requires.not_ended, gets_nothing _ _ _ _ refl refl)

pub turns-preserved : goal.turns-preserved
turns-preserved g c =
    let took = c.in_ok-count.ensures in
    (search rules, search rules, search rules, search rules, search rules, search rules, search rules, search rules, search rules, gets_more _ _ _ _ _ _ c.turns.invariant.9 took.gets)

pub returns-in_err-count-clause-took : goal.returns-in_err-count-clause-took
returns-in_err-count-clause-took g c =
    let took = c.in_err-count.ensures in
    took_refused c.args.self.now c.fill.new.self c.fill.new.self.held _ _ (gets_more _ _ _ _ _ _ c.turns.invariant.9 took.gets) (omega (arith, took.len, took.taken, c.turns.invariant.7)) (λ e. absurd (cc (e, took.ended))) c.from_residual.result c.from_residual.ensures.0 refl

pub returns-then-is_over-clause-answer : goal.returns-then-is_over-clause-answer
returns-then-is_over-clause-answer g c =
    let took = c.in_ok-count.ensures in
    let over : c.fill.new.self.limit < c.fill.new.self.taken = search rules in
    let full = at_limit c.turns.self.taken c.fill.new.self.limit c.fill.new.self.taken (omega (arith, took.limit, c.turns.invariant.0)) over took.one in
    over_ahead c.fill.new.self.held c.turns.self.held _ _ _ (took.ahead ∙ c.turns.invariant.6) (omega (arith, over, full, took.len, took.taken, took.limit, c.turns.invariant.3, c.turns.invariant.7, c.requires.«open»)) (omega (arith, full, took.limit, c.turns.invariant.3, c.turns.invariant.7, c.requires.«open»)) took.front c.turns.invariant.1

pub returns-then-is_over-clause-took : goal.returns-then-is_over-clause-took
returns-then-is_over-clause-took g c =
    let took = c.in_ok-count.ensures in
    let over : c.fill.new.self.limit < c.fill.new.self.taken = search rules in
    let full = at_limit c.turns.self.taken c.fill.new.self.limit c.fill.new.self.taken (omega (arith, took.limit, c.turns.invariant.0)) over took.one in
    took_over c.args.self.now c.fill.new.self c.fill.new.self.held _ _ (gets_more _ _ _ _ _ _ c.turns.invariant.9 took.gets) (omega (arith, took.len, took.taken, c.turns.invariant.7)) (λ e. absurd (cc (e, took.ended)))
    c.turns.self.held refl took.front c.turns.invariant.1 (omega (arith, over, took.limit, c.turns.invariant.3)) (omega (arith, full, took.limit, c.turns.invariant.3, c.turns.invariant.7, c.requires.«open»))

pub returns-then-count-eq0-clause-took : goal.returns-then-count-eq0-clause-took
returns-then-count-eq0-clause-took g c =
    let took = c.in_ok-count.ensures in
    let last = c.hand_out_last.ensures in
    took_last c.args.self.now c.hand_out_last.new.self c.fill.new.self.held _ _ (gets_more _ _ _ _ _ _ c.turns.invariant.9 took.gets) (omega (arith, took.len, took.taken, last.taken, c.turns.invariant.7)) last.nothing_held
    c.hand_out_last.result last.empty last.answer last.held (omega (arith, took.taken, last.taken, c.turns.invariant.0, c.turns.invariant.3, c.if-count-eq0.true)) last.ended

pub returns-in-Some-clause-took : goal.returns-in-Some-clause-took
returns-in-Some-clause-took g c =
    let took = c.in_ok-count.ensures in
    let out = c.hand_out.ensures in
    let inside : c.fill.new.self.taken ≤ c.fill.new.self.limit = search rules in
    took_line c.args.self.now c.hand_out.new.self c.fill.new.self.held _ _ (gets_more _ _ _ _ _ _ c.turns.invariant.9 took.gets) (omega (arith, took.len, took.taken, out.taken, c.turns.invariant.7)) (λ e. absurd (cc (e, out.ended)))
    c.hand_out.result c.in-Some.end c.in-Some.ensures out.held (omega (arith, inside, out.taken, took.limit, c.turns.invariant.3)) out.answer
