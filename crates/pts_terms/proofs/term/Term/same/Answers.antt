use Rattle.std.proofs.Common.{◌∙◌, sym, ap}
use Rattle.pts_terms.specs.Exact.{same_named}
use Rattle.pts_terms.specs.Seen.{named}
use Rattle.pts_terms.proofs.Exact.{same_named-self, same_named-true}
use Rattle.pts_terms.proofs.term.Term.same.Goals as goal

pub returns-clause-equal : goal.returns-clause-equal
returns-clause-equal c =
    let t = named c.args.self.now in
    let u = named c.args.other.now in
    (λ h. same_named-true t u (sym c.are_same.ensures ∙ h), λ e. c.are_same.ensures ∙ (ap (same_named t) (sym e) ∙ same_named-self t))
