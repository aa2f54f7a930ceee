use Rattle.std.proofs.Common.{◌≡◌, sym, ◌∙◌, ap, false}
use Rattle.std.specs.Prelude.{chars}
use Rattle.std.proofs.lemmas.Str.{chars_past_char}
use Rattle.pts_names.specs.Name.{identifier_fault, rest_fault, is_keyword}
use Rattle.pts_names.proofs.Walk.{begins_well}
use Rattle.pts_names.proofs.identifier.identifier_fault.Goals as goal

pub returns : goal.returns
returns c =
    let e = chars_past_char c.args.text.now c.next.new.self.rest.now c.in-Some.first c.utf8.text (sym c.chars.ensures.rest ∙ c.in-Some.ensures.steps.0) in
    let ordinary : is_keyword (chars c.args.text.now) ≡ false = sym c.is_keyword.ensures ∙ c.if-is_keyword.false in
    c.rest_fault.ensures
    ∙ ap (rest_fault c.args.place) e
    ∙ sym (begins_well c.args.place _ _ (ap is_keyword (sym e) ∙ ordinary) (sym c.starts_identifier.ensures ∙ c.if-not-starts_identifier.false))
    ∙ ap (identifier_fault c.args.place) (sym e)
