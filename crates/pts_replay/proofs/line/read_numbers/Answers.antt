use Rattle.std.proofs.Common.{◌∷◌, ◌++◌, ◌∙◌, [], sym, ap, subst, refl, All, Some, None, lit<, append-nil}
use Rattle.std.proofs.lemmas.List.Elements.{All-nil, All-push}
use Rattle.std.proofs.lemmas.Str.Pattern.{split_parts}
use Rattle.pts_play.specs.Rounds.{numbers_text}
use Rattle.pts_play.specs.Inputs.{IsSession}
use Rattle.pts_replay.proofs.Forms.{go_unknown, go_numbers, cut_utf8, text_more, text_whole, word_spoils}
use Rattle.pts_replay.proofs.line.read_numbers.Goals as goal

pub returns-then-not-numbered : goal.returns-then-not-numbered
returns-then-not-numbered c = go_unknown c.args.numbered c.args.text.now (λ ns is all e. absurd (cc (is, c.if-not-numbered.true)))

pub loop-word-init : goal.loop-word-init
loop-word-init c = record {
  utf8 = c.utf8.text;
  all = subst (All IsSession) (sym c.new-numbers.ensures.items) (All-nil IsSession);
  text = ap (λ ns. numbers_text ns ++ 32 ∷ c.args.text.now) (sym c.new-numbers.ensures.items);
}

pub loop-word-preserved : goal.loop-word-preserved
loop-word-preserved c =
    let i = c.loop-word.invariant in
    let cut = split_parts 32 c.loop-word.rest.now (Some (c.in-Some.word, c.in-Some.after)) c.in-Some.ensures.cases (lit< tt) in
    let number = c.in-Some-session_in.ensures in
    let push = c.in_ok-push.ensures.items in
    record {
      utf8 = (cut_utf8 _ _ _ i.utf8 c.in-Some.ensures.cases).1;
      all = subst (All IsSession) (sym push) (All-push IsSession c.loop-word.numbers.items c.in-Some-session_in.number i.all number.0);
      text = text_more c.loop-word.numbers.items c.push.new.self.items c.in-Some-session_in.number c.args.text.now c.loop-word.rest.now c.in-Some.word.now c.in-Some.after.now push i.text cut.0 number.1;
    }

pub returns-in_default-session_in : goal.returns-in_default-session_in
returns-in_default-session_in c =
    let i = c.loop-word.invariant in
    let cut = split_parts 32 c.loop-word.rest.now (Some (c.in-Some.word, c.in-Some.after)) c.in-Some.ensures.cases (lit< tt) in
    go_unknown c.args.numbered c.args.text.now (λ ns is all e. word_spoils c.loop-word.numbers.items c.args.text.now c.in-Some.word.now (32 ∷ c.in-Some.after.now) i.all (i.text ∙ ap (λ r. numbers_text c.loop-word.numbers.items ++ 32 ∷ r) cut.0) cut.1 refl c.in_default-session_in.ensures ns all e)

pub returns-in_default-session_in-2 : goal.returns-in_default-session_in-2
returns-in_default-session_in-2 c =
    let i = c.loop-word.invariant in
    let none = split_parts 32 c.loop-word.rest.now None c.in_default.ensures.cases (lit< tt) in
    go_unknown c.args.numbered c.args.text.now (λ ns is all e. word_spoils c.loop-word.numbers.items c.args.text.now c.loop-word.rest.now [] i.all (i.text ∙ ap (λ r. numbers_text c.loop-word.numbers.items ++ 32 ∷ r) (sym (append-nil c.loop-word.rest.now))) none tt c.in_default-session_in-2.ensures ns all e)

pub returns : goal.returns
returns c =
    let i = c.loop-word.invariant in
    let number = c.in-Some-session_in-2.ensures in
    let push = c.in_ok-push-2.ensures.items in
    go_numbers c.args.numbered c.args.text.now c.push-2.new.self.items c.if-not-numbered.false
    (subst (All IsSession) (sym push) (All-push IsSession c.loop-word.numbers.items c.in-Some-session_in-2.number i.all number.0))
    (text_whole c.loop-word.numbers.items c.push-2.new.self.items c.in-Some-session_in-2.number c.args.text.now c.loop-word.rest.now push i.text number.1)
