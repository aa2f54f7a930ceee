use Rattle.std.proofs.Common.{◌≡◌, sym, ◌∙◌, ap, subst, length, drop, arith, Some, None}
use Rattle.std.specs.Prelude.{chars, IsCharBoundary, IsUtf8}
use Rattle.pts_names.specs.Name.{width}
use Rattle.pts_tokens.specs.Tokens.{word, further}
use Rattle.pts_tokens.specs.Calls.{part_size}
use Rattle.pts_tokens.proofs.Cuts.{cut}
use Rattle.pts_tokens.proofs.Words.{tail, cut_word, name_width, part_goes, part_ends}
use Rattle.pts_tokens.proofs.length.name_length.Goals as goal

pub split_at-requires : goal.split_at-requires
split_at-requires c = subst (IsCharBoundary c.args.text.now) (sym c.word_length-length.ensures) (cut_word _ c.utf8.text).boundary

pub loop-more-init : goal.loop-more-init
loop-more-init c =
    let word_off = cut_word c.args.text.now c.utf8.text in
    let behind : c.split_at.result.1.now ≡ drop (width (word (chars c.args.text.now))) c.args.text.now = c.split_at.ensures.back ∙ ap (λ n. drop n c.args.text.now) c.word_length-length.ensures in
    let characters : chars c.split_at.result.1.now ≡ drop (length (word (chars c.args.text.now))) (chars c.args.text.now) = ap chars behind ∙ word_off.back_chars in
    let wide = name_width (chars c.args.text.now) in
    let same = ap (λ cs. width (tail (further 0 cs))) characters in
    (subst IsUtf8 (sym behind) word_off.back_utf8, omega (arith, c.split_at.ensures.back_len), omega (arith, wide, same, c.word_length-length.ensures))

pub overflow_add-length : goal.overflow_add-length
overflow_add-length c =
    let found : part_size (chars c.loop-more.rest.now) ≡ Some c.in-Some.more = sym c.part_length.ensures ∙ c.in-Some.is in
    let part = part_goes (chars c.loop-more.rest.now) c.in-Some.more found in
    let off = cut c.loop-more.rest.now part.text part.behind c.loop-more.invariant.0 part.cut in
    omega (arith, off.fits, part.size, c.loop-more.invariant.1)

pub split_at-requires-in-Some : goal.split_at-requires-in-Some
split_at-requires-in-Some c =
    let found : part_size (chars c.loop-more.rest.now) ≡ Some c.in-Some.more = sym c.part_length.ensures ∙ c.in-Some.is in
    let part = part_goes (chars c.loop-more.rest.now) c.in-Some.more found in
    subst (IsCharBoundary c.loop-more.rest.now) (sym part.size) (cut c.loop-more.rest.now part.text part.behind c.loop-more.invariant.0 part.cut).boundary

pub loop-more-preserved : goal.loop-more-preserved
loop-more-preserved c =
    let found : part_size (chars c.loop-more.rest.now) ≡ Some c.in-Some.more = sym c.part_length.ensures ∙ c.in-Some.is in
    let part = part_goes (chars c.loop-more.rest.now) c.in-Some.more found in
    let off = cut c.loop-more.rest.now part.text part.behind c.loop-more.invariant.0 part.cut in
    let behind : c.split_at-in-Some.result.1.now ≡ drop (width part.text) c.loop-more.rest.now = c.split_at-in-Some.ensures.back ∙ ap (λ n. drop n c.loop-more.rest.now) part.size in
    let characters : chars c.split_at-in-Some.result.1.now ≡ part.behind = ap chars behind ∙ off.back_chars in
    let same = ap (λ cs. width (tail (further 0 cs))) characters in
    (subst IsUtf8 (sym behind) off.back_utf8, omega (arith, c.split_at-in-Some.ensures.back_len, c.loop-more.invariant.1), omega (arith, same, part.more, c.loop-more.invariant.2))

pub loop-more-smaller : goal.loop-more-smaller
loop-more-smaller c =
    let found : part_size (chars c.loop-more.rest.now) ≡ Some c.in-Some.more = sym c.part_length.ensures ∙ c.in-Some.is in
    let part = part_goes (chars c.loop-more.rest.now) c.in-Some.more found in
    omega (arith, part.some, c.split_at-in-Some.ensures.back_len)

pub returns : goal.returns
returns c =
    let none : part_size (chars c.loop-more.rest.now) ≡ None = sym c.part_length.ensures ∙ c.in_default.is in
    let empty = ap width (part_ends (chars c.loop-more.rest.now) none) in
    omega (arith, empty, c.loop-more.invariant.2)
