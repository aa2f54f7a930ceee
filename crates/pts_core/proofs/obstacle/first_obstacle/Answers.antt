use Rattle.std.proofs.Common.{◌<◌, ◌+◌, length, refl, sym, ◌∙◌, arith}
use Rattle.pts_check.specs.Entered.{declared_entries}
use Rattle.pts_core.specs.declared.reply.Reply.TheVariants as reply
use Rattle.pts_core.specs.Cores.{labelled}
use Rattle.pts_core.proofs.Clashes.{no_clash_in_prefix}
use Rattle.pts_core.proofs.Numbers.{entries_long, faulty_inside, clash_inside}
use Rattle.pts_core.proofs.Refusals.{at_number, faulty_is_first, loaded_is_first, clash_is_first, full_is_first, faultless_of, if_label_new}
use Rattle.pts_core.proofs.obstacle.first_obstacle.Goals as goal

pub returns-in-Faulty-clause-reply : goal.returns-in-Faulty-clause-reply
returns-in-Faulty-clause-reply c =
    let x = c.args.examined.now in
    let f = c.in-Faulty in
    let e = sym c.finding.ensures ∙ f.is in
    let i = faulty_inside x.system x.offer.front.entries x.offer.declarations f.declaration f.node f.why x.finding c.is_examined.ensures.finding e in
    let l = entries_long x.offer.declarations in
    faulty_is_first (labelled c.args.context.now) (declared_entries x.offer.declarations) x.offer.label x.finding f.declaration f.node f.why e (omega (arith, i, l))

pub returns-in-Faulty-clause-named : goal.returns-in-Faulty-clause-named
returns-in-Faulty-clause-named c =
    let x = c.args.examined.now in
    let f = c.in-Faulty in
    let i = faulty_inside x.system x.offer.front.entries x.offer.declarations f.declaration f.node f.why x.finding c.is_examined.ensures.finding (sym c.finding.ensures ∙ f.is) in
    let l = entries_long x.offer.declarations in
    at_number (λ d. reply.Faulty d.name f.node f.why) (declared_entries x.offer.declarations) f.declaration (omega (arith, i, l))

pub returns-in-Some : goal.returns-in-Some
returns-in-Some c =
    let x = c.args.examined.now in
    let faultless = faultless_of c.finding.result x.finding c.finding.ensures c.in_default.not-Faulty in
    let t = loaded_is_first (labelled c.args.context.now) (declared_entries x.offer.declarations) x.offer.label x.finding c.in-Some.place faultless (sym c.label_place.ensures ∙ c.in-Some.is) in
    record { reply = t.0; named = t.1; free = λ z. absurd (cc z) }

pub returns-in-Some-first_clash : goal.returns-in-Some-first_clash
returns-in-Some-first_clash c =
    let x = c.args.examined.now in
    let es = declared_entries x.offer.declarations in
    let r = c.in-Some-first_clash in
    let faultless = faultless_of c.finding.result x.finding c.finding.ensures c.in_default.not-Faulty in
    let at = sym c.first_clash.ensures ∙ r.is in
    let i = clash_inside c.args.context.now.entries es r.declaration r.place at in
    record {
      reply = clash_is_first (labelled c.args.context.now) es x.offer.label x.finding r.declaration r.place faultless (sym c.label_place.ensures ∙ c.in_default-label_place.is) at i;
      named = at_number (λ d. reply.Clash d.name r.place) es r.declaration i;
      free = λ z. absurd (cc z);
    }

pub returns-then-len-entries : goal.returns-then-len-entries
returns-then-len-entries c =
    let x = c.args.examined.now in
    let es = declared_entries x.offer.declarations in
    let faultless = faultless_of c.finding.result x.finding c.finding.ensures c.in_default.not-Faulty in
    let l = entries_long x.offer.declarations in
    let many : 200000 < length c.args.context.now.entries + length es = omega (arith, l, c.len.ensures, c.len-entries.ensures, c.if-len-entries.true) in
    record {
      reply = full_is_first (labelled c.args.context.now) es x.offer.label x.finding c.len-entries.result faultless (sym c.label_place.ensures ∙ c.in_default-label_place.is) (sym c.first_clash.ensures ∙ c.in_default-first_clash.is) c.len-entries.ensures many;
      named = refl;
      free = λ z. absurd (cc z);
    }

pub returns : goal.returns
returns c =
    let x = c.args.examined.now in
    let es = declared_entries x.offer.declarations in
    let faultless = faultless_of c.finding.result x.finding c.finding.ensures c.in_default.not-Faulty in
    let clash = sym c.first_clash.ensures ∙ c.in_default-first_clash.is in
    record {
      reply = tt;
      named = tt;
      free = λ z. record {
        sound = c.is_sound_if_once.ensures faultless (no_clash_in_prefix x.offer.front.entries c.args.context.now.entries es c.requires.front clash);
        label = if_label_new c.args.context.now.labels x.offer.label (sym c.label_place.ensures ∙ c.in_default-label_place.is);
        clash = clash;
        room = omega (arith, c.len.ensures, c.len-entries.ensures, c.if-len-entries.false, c.requires.few);
      };
    }
