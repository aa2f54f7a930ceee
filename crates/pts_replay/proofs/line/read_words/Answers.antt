use Rattle.std.proofs.Common.{◌∷◌, ◌++◌, ◌∙◌, sym, subst, codes, IfOk}
use Rattle.pts_replay.specs.Lines.{HasForm, input_of}
use Rattle.pts_replay.proofs.Forms.{is_text, is_no_text, other_words, session_words}
use Rattle.pts_replay.proofs.line.read_words.Goals as goal

pub returns-then-eq : goal.returns-then-eq
returns-then-eq c =
    subst (λ w. IfOk c.read_numbers.result (λ a. HasForm c.args.numbered (w ++ 32 ∷ c.args.rest.now) (input_of a))) (sym (is_text c.args.word.now (codes "go") c.eq.result c.eq.ensures c.if-eq.true)) c.read_numbers.ensures

pub returns-in_ok-text-in-Some : goal.returns-in_ok-text-in-Some
returns-in_ok-text-in-Some c = session_words c.args.word.now c.args.rest.now c.of.result c.in-Some.number c.args.numbered c.in-Some.ensures.0 c.in-Some.ensures.1 (c.of.ensures ∙ c.in_ok-text-in-Some.ensures.ok)

pub returns-in-None : goal.returns-in-None
returns-in-None c = other_words c.args.word.now c.args.rest.now c.requires (is_no_text c.args.word.now (codes "go") c.eq.result c.eq.ensures c.if-eq.false) c.in-None.ensures c.args.numbered
