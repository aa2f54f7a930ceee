use Rattle.std.proofs.Common.{refl, length, [], ◌∷◌, ◌++◌, ◌∙◌, sym, ap, arith}
use Rattle.std.proofs.lemmas.Option.{slice_get_read}
use Rattle.pts_check.specs.Entered.{declared_entries}
use Rattle.pts_core.specs.Findings.{finding_from, finding_of}
use Rattle.pts_core.specs.Replies.{clash_from, first_clash}
use Rattle.pts_core.proofs.Looking.{finding_on, clash_on, within_on}
use Rattle.pts_core.proofs.examining.look_through.Goals as goal

pub loop-number-init : goal.loop-number-init
unfolding finding_of first_clash
loop-number-init c =
    let e = c.in_ok-reserve.ensures.entries in
    record {
      finding = ap (λ G. finding_from c.args.system.now G 0 c.args.declarations.now) e;
      clash = ap (λ G. clash_from G 0 (declared_entries c.args.declarations.now)) e;
      within = refl;
      room = omega (arith, c.in_ok-reserve.ensures.room.0);
    }

pub loop-number-preserved : goal.loop-number-preserved
loop-number-preserved c =
    let S = c.args.system.now in
    let ds = c.args.declarations.now in
    let i = c.loop-number.number in
    let d = c.index-declarations-number.result in
    let F = c.loop-number.scope.entries in
    let v = c.loop-number.invariant in
    let at = slice_get_read ds (length ds) i d refl c.loop-number-test.true c.index-declarations-number.is in
    let new = sym c.place_of.ensures.place ∙ c.in_default.is in
    let faultless = sym c.declaration_fault.ensures.fault ∙ c.in_default-declaration_fault.is in
    let e = c.push.ensures.entries ∙ ap (λ g. F ++ g ∷ []) c.in_ok-entry_of.ensures.entry in
    record {
      finding = finding_on S F ds i d at _ new faultless v.finding _ e;
      clash = clash_on S F ds i d at _ new v.clash _ e;
      within = within_on S F ds i d at (c.declaration_fault.ensures.within c.in_default-declaration_fault.is) v.within;
      room = omega (arith, v.room, c.push.ensures.spare_entries);
    }
