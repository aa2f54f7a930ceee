use Rattle.std.proofs.Common.{◌∙◌, ap, length, refl}
use Rattle.pts_prove.proofs.LinkChains.{whole_is, found_reversed, count_turned, chain_starts}
use Rattle.pts_prove.proofs.work.Work.apply_found.Goals as goal

pub apply_all-requires-clause-parts : goal.apply_all-requires-clause-parts
apply_all-requires-clause-parts c = found_reversed c.args.parts.items c.deref.result.now (c.deref.ensures.value ∙ c.reverse.ensures.items) c.requires.parts refl

pub apply_all-requires-clause-count : goal.apply_all-requires-clause-count
apply_all-requires-clause-count c = ap length c.new-none.ensures.items

pub apply_all-requires-clause-chain : goal.apply_all-requires-clause-chain
apply_all-requires-clause-chain c = chain_starts c.requires.goal.place c.requires.ty c.new-none.ensures.items

pub returns-clause-came : goal.returns-clause-came
returns-clause-came c = whole_is c.args.goal c.args.ty c.args.parts.items c.deref.result.now _ (c.deref.ensures.value ∙ c.reverse.ensures.items) c.new-none.ensures.items refl c.apply_all.ensures.came

pub returns-clause-count : goal.returns-clause-count
returns-clause-count c = count_turned _ c.args.parts.items c.deref.result.now (c.deref.ensures.value ∙ c.reverse.ensures.items) c.apply_all.ensures.count
