use Rattle.std.proofs.Common.{◌≡◌, sym, ◌∙◌, ap, subst, suc, ◌+◌, true, false, Some, None, arith, lit<}
use Rattle.std.specs.Prelude.{chars, IsCharBoundary, ◌≢◌, ℕ, List, ◌∷◌}
use Rattle.std.proofs.lemmas.Str.Pattern.{strip_prefix_char}
use Rattle.pts_names.specs.Name.{is_identifier, width}
use Rattle.pts_tokens.specs.Tokens.{word, begins_identifier}
use Rattle.pts_tokens.proofs.Words.{dot_first, no_dot_first, part_is, part_is_not, cut_word, word_is_identifier}
use Rattle.pts_tokens.proofs.length.part_length.Goals as goal

pub returns-in_err-behind : goal.returns-in_err-behind
returns-in_err-behind c =
    let other : (rest : List ℕ) → c.args.text.now ≢ 46 ∷ rest = strip_prefix_char 46 c.args.text.now None c.in_err-behind.ensures.cases (lit< tt) in
    c.from_residual.ensures ∙ sym (no_dot_first c.args.text.now c.utf8.text other)

pub split_at-requires : goal.split_at-requires
split_at-requires c =
    let begins : c.args.text.now ≡ 46 ∷ c.in_ok-behind.behind.now = strip_prefix_char 46 c.args.text.now (Some c.in_ok-behind.behind) c.in_ok-behind.ensures.cases (lit< tt) in
    let utf8 = (dot_first _ _ c.utf8.text begins).1 in
    subst (IsCharBoundary c.in_ok-behind.behind.now) (sym c.word_length-length.ensures) (cut_word _ utf8).boundary

pub returns-then-not-is_identifier : goal.returns-then-not-is_identifier
returns-then-not-is_identifier c =
    let begins : c.args.text.now ≡ 46 ∷ c.in_ok-behind.behind.now = strip_prefix_char 46 c.args.text.now (Some c.in_ok-behind.behind) c.in_ok-behind.ensures.cases (lit< tt) in
    let (e, utf8) = dot_first _ _ c.utf8.text begins in
    let test : begins_identifier (chars c.in_ok-behind.behind.now) ≡ false = sym (word_is_identifier _ _ utf8 c.word_length-length.ensures) ∙ (ap is_identifier (sym c.split_at.ensures.front) ∙ (sym c.is_identifier.ensures ∙ c.if-not-is_identifier.true)) in
    sym (part_is_not _ _ e test)

pub returns : goal.returns
returns c =
    let begins : c.args.text.now ≡ 46 ∷ c.in_ok-behind.behind.now = strip_prefix_char 46 c.args.text.now (Some c.in_ok-behind.behind) c.in_ok-behind.ensures.cases (lit< tt) in
    let (e, utf8) = dot_first _ _ c.utf8.text begins in
    let test : begins_identifier (chars c.in_ok-behind.behind.now) ≡ true = sym (word_is_identifier _ _ utf8 c.word_length-length.ensures) ∙ (ap is_identifier (sym c.split_at.ensures.front) ∙ (sym c.is_identifier.ensures ∙ c.if-not-is_identifier.false)) in
    let size : c.word_length-length.result + 1 ≡ suc (width (word (chars c.in_ok-behind.behind.now))) = omega (arith, c.word_length-length.ensures) in
    ap Some size ∙ sym (part_is _ _ e test)
