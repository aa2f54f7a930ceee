use Rattle.std.proofs.Common.{rules, inl, inr, refl, ◌<◌, ◌≤◌, ap, sym, ◌∙◌, arith}
use Rattle.std.proofs.lemmas.List.{drop_all}
use Rattle.std.specs.Io.KnownBytes.{prepend_known}
use Rattle.pts_io.specs.declared.faults.ReadFail.{ReadFail}
use Rattle.pts_io.proofs.Ahead.{none_contained, behind-append, behind-ahead, answer_ahead, room_ahead, feed_ahead}
use Rattle.pts_io.proofs.Took.{gets_nothing, took_line, took_no_more}
use Rattle.pts_io.proofs.lines.LineReader.next.Goals as goal

pub returns-in-Some-clause-ahead : goal.returns-in-Some-clause-ahead
returns-in-Some-clause-ahead g c =
    ap (λ held. prepend_known held (g.S.Source.state c.args.source.now).left) c.hand_out.ensures.held ∙ behind-ahead ReadFail _ _ _ c.in-Some.end c.in-Some.ensures

pub returns-in-Some-clause-answer : goal.returns-in-Some-clause-answer
returns-in-Some-clause-answer g c inside _ = answer_ahead ReadFail _ c.args.self.now.held _ c.in-Some.end _ c.in-Some.ensures (omega (arith, inside)) c.hand_out.ensures.answer

pub returns-in-None-clause-waits : goal.returns-in-None-clause-waits
returns-in-None-clause-waits g c (inl holds) = absurd (none_contained _ c.in-None.ensures holds)
returns-in-None-clause-waits g c (inr over) = let inside : c.args.self.now.taken ≤ c.args.self.now.limit = search rules in absurd (omega (arith, inside, over))

pub returns-in-None-clause-part : goal.returns-in-None-clause-part
returns-in-None-clause-part g c failed = none_contained _ (c.read_line.ensures.part failed)

pub returns-in-Some-clause-room : goal.returns-in-Some-clause-room
returns-in-Some-clause-room g c =
    let out = c.hand_out.ensures in
    let inside : c.args.self.now.taken ≤ c.args.self.now.limit = search rules in
    room_ahead ReadFail _ c.args.self.now c.hand_out.new.self c.args.self.now.held _ _ refl out.held
    (λ ys _. behind-append ReadFail _ _ ys c.in-Some.end c.in-Some.ensures)
    (omega (arith, out.taken), out.limit, inside, omega (arith, inside, out.taken, out.limit))

pub returns-in-Some-clause-fed : goal.returns-in-Some-clause-fed
returns-in-Some-clause-fed g c _ = feed_ahead ReadFail c.hand_out.result c.args.self.now.held (g.S.Source.state c.args.source.now).left c.in-Some.end c.in-Some.ensures

pub returns-then-self-clause-took : goal.returns-then-self-clause-took
returns-then-self-clause-took g c =
    let over : c.args.self.now.limit < c.args.self.now.taken = search rules in
    took_no_more c.args.self.now _ over (λ e. ap (λ reading. reading.held) (sym c.self.view_is) ∙ drop_all c.self.inside.start c.self.inside.bytes.items (omega (arith, c.self.invariant.3 (ap (λ reading. reading.ended) c.self.view_is ∙ e), c.self.inside.bytes.ok.0)))

pub returns-in-Some-clause-took : goal.returns-in-Some-clause-took
returns-in-Some-clause-took g c =
    let out = c.hand_out.ensures in
    let inside : c.args.self.now.taken ≤ c.args.self.now.limit = search rules in
    took_line c.args.self.now c.hand_out.new.self c.args.self.now.held _ _ (gets_nothing _ _ _ _ refl refl) (omega (arith, out.taken)) (λ e. absurd (cc (e, out.ended)))
    c.hand_out.result c.in-Some.end c.in-Some.ensures out.held (omega (arith, inside, out.taken)) out.answer
