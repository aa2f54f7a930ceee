use Rattle.std.proofs.Common.{◌≡◌, sym, ◌∙◌, ap, subst, ◌+◌, ◌∷◌, ◌++◌, [], length, drop, true, false, Some, Err, is_ok, arith}
use Rattle.std.specs.Prelude.{chars, IsCharBoundary, IsUtf8}
use Rattle.std.proofs.ResultArms.{chosen}
use Rattle.std.proofs.lemmas.Str.{chars_past_char, chars-nil, IsUtf8-past_char, IsUtf8-drop, length-encode}
use Rattle.std.proofs.lemmas.List.{length-append}
use Rattle.std.proofs.lemmas.Result.{err_from_is_err_and}
use lib.Utf8.{encode}
use Rattle.pts_names.specs.Name.{width}
use Rattle.pts_tokens.specs.Tokens.{is_blank, token_first, tokens_behind, tokens_of}
use Rattle.pts_tokens.specs.Calls.{sized, fault_at}
use Rattle.pts_tokens.proofs.Cuts.{cut}
use Rattle.pts_tokens.proofs.Stepping.{prefixed, prefixed_none, prefixed_more, prefixed_all, blank_step, blank_long, token_step, fault_step, unless_map}
use Rattle.pts_tokens.proofs.tokens.read_tokens.Goals as goal

pub loop-first-init : goal.loop-first-init
unfolding tokens_of
loop-first-init c = (
  subst IsUtf8 (sym c.split_at.ensures.back) (IsUtf8-drop c.args.text.now c.args.from c.utf8.text c.requires),
  omega (arith, c.split_at.ensures.back_len),
  ap (λ ts. prefixed ts (tokens_behind 0 c.args.from (chars c.split_at.result.1.now))) c.new-found.ensures.items
      ∙ (prefixed_none _ ∙ ap (λ rest. tokens_behind 0 c.args.from (chars rest)) c.split_at.ensures.back),
)

pub loop-first-preserved-then-is_blank : goal.loop-first-preserved-then-is_blank
loop-first-preserved-then-is_blank c =
    let begins : c.loop-first.rest.now ≡ encode c.in-Some.first ++ c.in-Some.behind.now = c.in-Some.ensures in
    let e = chars_past_char c.loop-first.rest.now c.in-Some.behind.now c.in-Some.first c.loop-first.invariant.0 begins in
    let blank : is_blank c.in-Some.first ≡ true = sym c.is_blank.ensures ∙ c.if-is_blank.true in (
      IsUtf8-past_char c.loop-first.rest.now c.in-Some.behind.now c.in-Some.first c.loop-first.invariant.0 begins,
      omega (arith, simp length-append at (ap length begins), length-encode c.in-Some.first, blank_long c.in-Some.first blank, c.loop-first.invariant.1),
      ap (prefixed c.loop-first.found.items) (sym (ap (tokens_behind 0 c.loop-first.place) e ∙ blank_step c.loop-first.place c.in-Some.first (chars c.in-Some.behind.now) blank)) ∙ c.loop-first.invariant.2,
    )

pub token_at-requires : goal.token_at-requires
token_at-requires c =
    chars_past_char c.loop-first.rest.now c.in-Some.behind.now c.in-Some.first c.loop-first.invariant.0 c.in-Some.ensures

pub returns-in_err-token-clause-refused : goal.returns-in_err-token-clause-refused
returns-in_err-token-clause-refused c =
    let begins : c.loop-first.rest.now ≡ encode c.in-Some.first ++ c.in-Some.behind.now = c.in-Some.ensures in
    let e = chars_past_char c.loop-first.rest.now c.in-Some.behind.now c.in-Some.first c.loop-first.invariant.0 begins in
    let ordinary : is_blank c.in-Some.first ≡ false = sym c.is_blank.ensures ∙ c.if-is_blank.false in
    let fault = c.in_err-token.field-0.0 in
    let p = err_from_is_err_and c.from_residual.result c.from_residual.ensures.1 in
    rw (p.1, p.2) (unless_map fault (fault_at c.loop-first.place (token_first c.in-Some.first (chars c.in-Some.behind.now)) ≡ Some fault) (tokens_of c.args.from (chars (drop c.args.from c.args.text.now)) ≡ Err fault)
    (λ h. sym c.loop-first.invariant.2 ∙ ap (prefixed c.loop-first.found.items) (ap (tokens_behind 0 c.loop-first.place) e ∙ fault_step c.loop-first.place c.in-Some.first (chars c.in-Some.behind.now) fault ordinary h))
    c.in_err-token.ensures)

pub split_at-requires-in-Some : goal.split_at-requires-in-Some
split_at-requires-in-Some c =
    let begins : c.loop-first.rest.now ≡ encode c.in-Some.first ++ c.in-Some.behind.now = c.in-Some.ensures in
    let e = chars_past_char c.loop-first.rest.now c.in-Some.behind.now c.in-Some.first c.loop-first.invariant.0 begins in
    let ordinary : is_blank c.in-Some.first ≡ false = sym c.is_blank.ensures ∙ c.if-is_blank.false in
    let found : sized (token_first c.in-Some.first (chars c.in-Some.behind.now)) ≡ Some (c.in_ok-token.token, c.in_ok-token.length) = c.in_ok-token.ensures in
    let step = token_step c.loop-first.place c.in-Some.first (chars c.in-Some.behind.now) c.in_ok-token.token c.in_ok-token.length ordinary found in
    let off = cut c.loop-first.rest.now step.text step.behind c.loop-first.invariant.0 (e ∙ step.cut) in
    subst (IsCharBoundary c.loop-first.rest.now) (sym step.size) off.boundary

pub loop-first-smaller : goal.loop-first-smaller
loop-first-smaller c =
    let ordinary : is_blank c.in-Some.first ≡ false = sym c.is_blank.ensures ∙ c.if-is_blank.false in
    let found : sized (token_first c.in-Some.first (chars c.in-Some.behind.now)) ≡ Some (c.in_ok-token.token, c.in_ok-token.length) = c.in_ok-token.ensures in
    let step = token_step c.loop-first.place c.in-Some.first (chars c.in-Some.behind.now) c.in_ok-token.token c.in_ok-token.length ordinary found in
    omega (arith, step.some, c.split_at-in-Some.ensures.back_len)

pub loop-first-preserved : goal.loop-first-preserved
loop-first-preserved c =
    let begins : c.loop-first.rest.now ≡ encode c.in-Some.first ++ c.in-Some.behind.now = c.in-Some.ensures in
    let e = chars_past_char c.loop-first.rest.now c.in-Some.behind.now c.in-Some.first c.loop-first.invariant.0 begins in
    let ordinary : is_blank c.in-Some.first ≡ false = sym c.is_blank.ensures ∙ c.if-is_blank.false in
    let found : sized (token_first c.in-Some.first (chars c.in-Some.behind.now)) ≡ Some (c.in_ok-token.token, c.in_ok-token.length) = c.in_ok-token.ensures in
    let step = token_step c.loop-first.place c.in-Some.first (chars c.in-Some.behind.now) c.in_ok-token.token c.in_ok-token.length ordinary found in
    let off = cut c.loop-first.rest.now step.text step.behind c.loop-first.invariant.0 (e ∙ step.cut) in
    let behind : c.split_at-in-Some.result.1.now ≡ drop (width step.text) c.loop-first.rest.now = c.split_at-in-Some.ensures.back ∙ ap (λ n. drop n c.loop-first.rest.now) step.size in
    let characters : chars c.split_at-in-Some.result.1.now ≡ step.behind = ap chars behind ∙ off.back_chars in
    let pushed : c.push.new.self.items ≡ c.loop-first.found.items ++ ((c.loop-first.place, c.in_ok-token.token) ∷ []) = chosen _ _ _ _ c.push.ensures.items (ap is_ok c.in_ok-push.was) in
    let rest = tokens_behind 0 (c.loop-first.place + c.in_ok-token.length) in (
      subst IsUtf8 (sym behind) off.back_utf8,
      omega (arith, c.split_at-in-Some.ensures.back_len, c.loop-first.invariant.1),
      ap (λ cs. prefixed c.push.new.self.items (rest cs)) characters
          ∙ (ap (λ ts. prefixed ts (rest step.behind)) pushed
          ∙ (prefixed_more c.loop-first.found.items (c.loop-first.place, c.in_ok-token.token) (rest step.behind)
          ∙ (ap (prefixed c.loop-first.found.items) (sym (ap (tokens_behind 0 c.loop-first.place) e ∙ step.rest)) ∙ c.loop-first.invariant.2))),
    )

pub returns-clause-tokens : goal.returns-clause-tokens
returns-clause-tokens c =
    sym c.loop-first.invariant.2
    ∙ (ap (λ rest. prefixed c.loop-first.found.items (tokens_behind 0 c.loop-first.place (chars rest))) c.in_default.ensures
    ∙ (ap (λ cs. prefixed c.loop-first.found.items (tokens_behind 0 c.loop-first.place cs)) chars-nil
    ∙ prefixed_all c.loop-first.found.items))
