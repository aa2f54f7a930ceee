use Rattle.std.proofs.Common.{◌≡◌, sym, ◌∙◌, ap, ◌+◌, Some, length, arith}
use Rattle.std.specs.Prelude.{chars}
use Rattle.std.specs.Char.{len_utf8}
use Rattle.std.proofs.lemmas.Str.{IsUtf8-past_char, length-encode}
use Rattle.std.proofs.lemmas.List.{length-append}
use Rattle.pts_names.specs.Name.{rest_fault}
use Rattle.pts_names.specs.declared.fault.NameFault.TheVariants.{BadPart}
use Rattle.pts_names.proofs.Walk.{stops_here, goes_on, all_gone}
use Rattle.pts_names.proofs.identifier.rest_fault.Goals as goal

pub returns-then-not-continues_identifier : goal.returns-then-not-continues_identifier
returns-then-not-continues_identifier c =
    let step = c.in-Some.ensures.steps in
    ap (λ at. Some (BadPart (c.args.place + at))) step.0
    ∙ sym (stops_here _ _ _ _ c.characters.invariant.utf8 step.1 (sym c.continues_identifier.ensures ∙ c.if-not-continues_identifier.true))
    ∙ c.characters.invariant.fault

pub characters-preserved : goal.characters-preserved
characters-preserved c =
    let step = c.in-Some.ensures.steps in
    let invariant = c.characters.invariant in
    let wide = length-encode c.in-Some.ch in
    let next : (c.args.place + c.characters.at-iterator.at) + len_utf8 c.in-Some.ch ≡ c.args.place + c.next.new.self.at = omega arith in
    record {
      utf8 = IsUtf8-past_char _ _ _ invariant.utf8 step.1;
      span = omega (arith, simp length-append at (ap length step.1));
      fault = ap (λ place. rest_fault place (chars c.next.new.self.rest.now)) (sym next)
          ∙ sym (goes_on _ _ _ _ invariant.utf8 step.1 (sym c.continues_identifier.ensures ∙ c.if-not-continues_identifier.false))
          ∙ invariant.fault;
    }

pub returns : goal.returns
returns c = sym (all_gone _ _ c.in-None.ensures.steps.0) ∙ c.characters.invariant.fault
