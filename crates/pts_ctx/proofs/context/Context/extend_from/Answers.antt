use Rattle.std.proofs.Common.{◌≡◌, ◌++◌, sym, subst, drop, List, OnOk, OnErr}
use Rattle.pts_names.specs.Name.{Name}
use Rattle.pts_ctx.specs.Front.{Global}
use Rattle.pts_ctx.specs.Seen.{SeenContext, NamesDiffer}
use Rattle.pts_ctx.proofs.context.Context.extend_from.Goals as goal

pub take_over-requires-clause-differ : goal.take_over-requires-clause-differ
take_over-requires-clause-differ c =
    subst (λ (s : SeenContext). NamesDiffer (c.reserve.new.self.entries ++ drop c.args.from s.entries)) (sym c.share.ensures)
    (subst (λ (G : List (Global Name)). NamesDiffer (G ++ drop c.args.from c.args.other.now.entries)) (sym c.reserve.ensures.entries) c.requires.differ)

pub returns-clause-entries : goal.returns-clause-entries
returns-clause-entries c =
    subst (λ (ys : List (Global Name)). OnOk c.take_over.result (c.take_over.new.self.entries ≡ ys)) (λ j. c.reserve.ensures.entries j ++ drop c.args.from (c.share.ensures j).entries) c.take_over.ensures.entries

pub returns-clause-refused : goal.returns-clause-refused
returns-clause-refused c =
    subst (λ (ys : List (Global Name)). OnErr c.take_over.result (c.take_over.new.self.entries ≡ ys)) c.reserve.ensures.entries c.take_over.ensures.refused
