use Rattle.std.proofs.Common.{sym, subst, codes}
use Rattle.pts_play.specs.Inputs.{go, Asks, plain_go, an_end}
use Rattle.pts_replay.proofs.Forms.{is_text, is_no_text, plain_word}
use Rattle.pts_replay.proofs.line.read_word.Goals as goal

pub returns-then-eq : goal.returns-then-eq
returns-then-eq c numbered = subst (λ ns. Asks numbered c.args.word.now (go ns)) (sym c.new.ensures.items) (plain_go (is_text c.args.word.now (codes "go") c.eq.result c.eq.ensures c.if-eq.true))

pub returns-then-eq-2 : goal.returns-then-eq-2
returns-then-eq-2 c numbered = an_end (is_text c.args.word.now (codes "end") c.eq-2.result c.eq-2.ensures c.if-eq-2.true)

pub returns : goal.returns
returns c numbered = plain_word c.args.word.now c.requires (is_no_text c.args.word.now (codes "go") c.eq.result c.eq.ensures c.if-eq.false) (is_no_text c.args.word.now (codes "end") c.eq-2.result c.eq-2.ensures c.if-eq-2.false) numbered
