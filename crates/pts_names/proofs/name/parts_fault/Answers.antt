use Rattle.std.proofs.Common.{◌≡◌, sym, ◌∙◌, ap, ◌+◌, length, Some, None, arith}
use Rattle.std.specs.Prelude.{chars}
use Rattle.std.specs.Option.{option_or}
use Rattle.std.proofs.lemmas.List.{length-append}
use Rattle.pts_names.specs.Name.{identifier_fault, parts, parts_fault}
use Rattle.pts_names.proofs.Parts.{one_part_fault, cut_text, cut_utf8, cut_fault}
use Rattle.pts_names.proofs.name.parts_fault.Goals as goal

pub returns-in-Some-identifier_fault : goal.returns-in-Some-identifier_fault
returns-in-Some-identifier_fault c =
    let found : identifier_fault c.loop-part.place (chars c.in-Some.part.now) ≡ Some c.in-Some-identifier_fault.fault = sym c.identifier_fault.ensures ∙ c.in-Some-identifier_fault.is in
    ap (λ o. option_or o (parts_fault (c.loop-part.place + (length c.in-Some.part.now + 1)) (parts (chars c.in-Some.behind.now)))) (sym found)
    ∙ sym (cut_fault c.loop-part.place _ _ _ c.loop-part.invariant.0 c.in-Some.ensures.cases)
    ∙ c.loop-part.invariant.2

pub loop-part-preserved : goal.loop-part-preserved
loop-part-preserved c =
    let sound : identifier_fault c.loop-part.place (chars c.in-Some.part.now) ≡ None = sym c.identifier_fault.ensures ∙ c.in_default-identifier_fault.is in
    let whole = cut_text _ _ _ c.in-Some.ensures.cases in
    let bytes = simp length-append at (ap length whole) in
    let bound = c.loop-part.invariant.1 in (
      (cut_utf8 _ _ _ c.loop-part.invariant.0 c.in-Some.ensures.cases).1,
      omega arith,
      ap (λ o. option_or o (parts_fault (c.loop-part.place + (length c.in-Some.part.now + 1)) (parts (chars c.in-Some.behind.now)))) (sym sound)
          ∙ sym (cut_fault c.loop-part.place _ _ _ c.loop-part.invariant.0 c.in-Some.ensures.cases)
          ∙ c.loop-part.invariant.2,
    )

pub returns : goal.returns
returns c =
    c.identifier_fault-2.ensures
    ∙ sym (one_part_fault c.loop-part.place c.loop-part.rest.now c.loop-part.invariant.0 c.in_default.ensures.cases)
    ∙ c.loop-part.invariant.2
