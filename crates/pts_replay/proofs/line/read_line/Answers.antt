use Rattle.std.proofs.Common.{sym, subst, IfOk, Some, None, lit<}
use Rattle.std.proofs.lemmas.Str.Pattern.{split_parts}
use Rattle.pts_replay.specs.Lines.{HasForm, input_of}
use Rattle.pts_replay.proofs.line.read_line.Goals as goal

pub read_words-requires : goal.read_words-requires
read_words-requires c = (split_parts 32 c.args.line.now (Some (c.in-Some.word, c.in-Some.rest)) c.in-Some.ensures.cases (lit< tt)).1

pub returns-in-Some : goal.returns-in-Some
returns-in-Some c =
    let cut = split_parts 32 c.args.line.now (Some (c.in-Some.word, c.in-Some.rest)) c.in-Some.ensures.cases (lit< tt) in
    subst (λ line. IfOk c.read_words.result (λ a. HasForm c.args.numbered line (input_of a))) (sym cut.0) c.read_words.ensures

pub read_word-requires : goal.read_word-requires
read_word-requires c = split_parts 32 c.args.line.now None c.in-None.ensures.cases (lit< tt)

pub returns-in-None : goal.returns-in-None
returns-in-None c = c.read_word.ensures c.args.numbered
