use Rattle.std.proofs.Common.{◌∙◌, ap, pred, map, option_map, subst}
use Rattle.std.specs.Prelude.{Ok, length}
use Rattle.std.proofs.lemmas.Result.{err_from_is_err_and}
use Rattle.pts_grammar.specs.Seen.{part_of, within}
use Rattle.pts_grammar.specs.Open.{more}
use Rattle.pts_lines.specs.Forms.{some_of}
use Rattle.pts_lines.proofs.Several.{Left, first_fails, last_is, next_is, is_shorter, with_part}
use Rattle.pts_lines.proofs.term.some_terms.Goals as goal

pub returns-in_err-part : goal.returns-in_err-part
returns-in_err-part c =
    let i = c.terms.invariant in
    let fault = c.in_err-part.field-0.0 in
    let p = err_from_is_err_and c.from_residual.result c.from_residual.ensures.1 in
    rw (p.1, p.2) (first_fails within more c.args.length i.0 c.terms.rest.now (map part_of c.terms.parts.items) _ (i.1, i.2) fault c.in_err-part.ensures)

pub returns-in_default : goal.returns-in_default
returns-in_default c =
    let i = c.terms.invariant in
    last_is within more c.args.length i.0 c.terms.rest.now (map part_of c.terms.parts.items) _ (i.1, i.2) (part_of c.in_ok-part.part) (c.in_ok-part.ensures ∙ ap (λ b. Ok (part_of c.in_ok-part.part, option_map (λ r. r.now) b)) c.in_default.is)
    ∙ ap (λ ts. Ok ts) (with_part part_of c.terms.parts.items c.push.new.self.items c.in_ok-part.part c.in_ok-push.ensures.items)

pub terms-smaller : goal.terms-smaller
terms-smaller c =
    let i = c.terms.invariant in
    is_shorter within more c.args.length i.0 c.terms.rest.now (map part_of c.terms.parts.items) _ (i.1, i.2) (part_of c.in_ok-part.part) c.in-Some.others.now (c.in_ok-part.ensures ∙ ap (λ b. Ok (part_of c.in_ok-part.part, option_map (λ r. r.now) b)) c.in-Some.is)

pub terms-preserved : goal.terms-preserved
terms-preserved c =
    let i = c.terms.invariant in
    let n = next_is within more c.args.length i.0 c.terms.rest.now (map part_of c.terms.parts.items) _ (i.1, i.2) (part_of c.in_ok-part.part) c.in-Some.others.now (c.in_ok-part.ensures ∙ ap (λ b. Ok (part_of c.in_ok-part.part, option_map (λ r. r.now) b)) c.in-Some.is) in
    let l = subst (λ ts. Left within more c.args.length (pred i.0) c.in-Some.others.now ts (some_of within more c.args.length (length c.args.tokens.now) c.args.tokens.now)) (with_part part_of c.terms.parts.items c.push.new.self.items c.in_ok-part.part c.in_ok-push.ensures.items) n in
    (pred i.0, l.0, l.1)
