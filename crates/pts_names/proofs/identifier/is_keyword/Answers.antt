use Rattle.std.proofs.Common.{refl}
use Rattle.pts_names.proofs.Keywords.{is_keyword_text}
use Rattle.pts_names.proofs.identifier.is_keyword.Goals as goal

pub returns-then-eq : goal.returns-then-eq
returns-then-eq c = let e = is_keyword_text c.args.text.now c.utf8.text in rw (e, ← c.eq.ensures, c.if-eq.true) refl

pub returns-else-eq : goal.returns-else-eq
returns-else-eq c = let e = is_keyword_text c.args.text.now c.utf8.text in rw (e, ← c.eq.ensures, c.if-eq.false) c.eq-else-eq.ensures
