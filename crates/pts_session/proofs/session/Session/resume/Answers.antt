use Rattle.std.proofs.Common.{refl, sym, ap, ◌∙◌}
use Rattle.std.specs.Option.{option_map}
use Rattle.pts_core.specs.Cores.{labelled}
use Rattle.pts_session.specs.Seen.{state_of}
use Rattle.pts_session.specs.Moves.{is_look}
use Rattle.pts_session.proofs.Hearing.{hears_front, hears_refused}
use Rattle.pts_session.proofs.session.Session.resume.Goals as goal

pub returns-in-Some : goal.returns-in-Some
returns-in-Some c =
    let v = c.self.inside in
    let h = c.hear_front.ensures in
    record {
      hears = hears_front (λ x. x.items) c.args.self.now c.hear_front.new.self c.args.answer c.requires.answer
          (h.system ∙ ap (λ w. w.system) c.self.view_is) h.awaits
          (state_of v.draft v.budget) (ap (λ w. w.state) c.self.view_is) (labelled c.in-Some.front)
          (ap (option_map labelled) (sym c.front_of.ensures ∙ c.in-Some.is)) c.in_ok-lines.lines.items c.in_ok-lines.ensures
          c.hear_front.result c.is_look-looked.result (c.is_look-looked.ensures ∙ ap is_look (ap (λ w. w.awaited) c.self.view_is))
          h.moved h.base h.begun h.empty;
    }

pub returns-in-None : goal.returns-in-None
returns-in-None c = record {
  hears = hears_refused c.args.self.now _ c.args.answer c.requires.answer
      (ap (λ w. w.system) c.self.view_is) refl c.in_ok-lines.lines.items
      (ap (option_map labelled) (sym c.front_of.ensures ∙ c.in-None.is)) c.in_ok-lines.ensures (ap (λ w. w.state) c.self.view_is);
}
