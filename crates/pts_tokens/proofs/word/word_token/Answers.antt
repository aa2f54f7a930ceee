use Rattle.std.proofs.Common.{sym, ◌∙◌, subst}
use Rattle.std.specs.Prelude.{chars, IsCharBoundary}
use Rattle.pts_tokens.specs.Calls.{Answers}
use Rattle.pts_tokens.proofs.Words.{cut_word}
use Rattle.pts_tokens.proofs.Worded.{is_let, is_in, let_word, in_word, name_word, no_keyword}
use Rattle.pts_tokens.proofs.word.word_token.Goals as goal

pub split_at-requires : goal.split_at-requires
split_at-requires c = subst (IsCharBoundary c.args.text.now) (sym c.word_length-length.ensures) (cut_word _ c.utf8.text).boundary

pub returns-then-eq : goal.returns-then-eq
returns-then-eq c = let_word _ _ (is_let _ _ _ c.utf8.text c.word_length-length.ensures c.split_at.ensures.front ∙ (sym c.eq.ensures ∙ c.if-eq.true)) c.word_length-length.ensures

pub returns-then-eq-2 : goal.returns-then-eq-2
returns-then-eq-2 c =
    in_word _ _
    (is_let _ _ _ c.utf8.text c.word_length-length.ensures c.split_at.ensures.front ∙ (sym c.eq.ensures ∙ c.if-eq.false))
    (is_in _ _ _ c.utf8.text c.word_length-length.ensures c.split_at.ensures.front ∙ (sym c.eq-2.ensures ∙ c.if-eq-2.true))
    c.word_length-length.ensures

pub name_token-requires : goal.name_token-requires
name_token-requires c =
    no_keyword _ c.requires
    (is_let _ _ _ c.utf8.text c.word_length-length.ensures c.split_at.ensures.front ∙ (sym c.eq.ensures ∙ c.if-eq.false))
    (is_in _ _ _ c.utf8.text c.word_length-length.ensures c.split_at.ensures.front ∙ (sym c.eq-2.ensures ∙ c.if-eq-2.false))

pub returns : goal.returns
returns c =
    let same = name_word (chars c.args.text.now)
    (is_let _ _ _ c.utf8.text c.word_length-length.ensures c.split_at.ensures.front ∙ (sym c.eq.ensures ∙ c.if-eq.false))
    (is_in _ _ _ c.utf8.text c.word_length-length.ensures c.split_at.ensures.front ∙ (sym c.eq-2.ensures ∙ c.if-eq-2.false)) in
    subst (λ f. Answers c.args.place f c.name_token.result) (sym same) c.name_token.ensures
