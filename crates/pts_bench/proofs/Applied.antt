-- The application of a function to one argument.
use Rattle.std.proofs.Common.{◌≡◌, ℕ, ◌<◌, ◌≤◌, List, [], ◌∷◌, length, sym, ap, subst, arith}
use Rattle.pts_terms.specs.Tree.{Bare}
use Rattle.pts_record.specs.Table.{Tables, bare_at}
use Rattle.pts_goals.specs.declared.step.Goal.{Goal}
use Rattle.pts_goals.specs.declared.step.Link.{Link}
use Rattle.pts_goals.specs.Steps.{IsArgument, IsLink, LinksFit, ReducesTo, link_product}

pub is_link : (r : Tables) (c : ℕ) (T : Bare) (l : Link) → l.domain < length r.shapes → l.codomain < length r.shapes → l.after < length r.shapes → ReducesTo r c T (link_product r l) l.change → IsArgument r c l.argument (bare_at r.shapes l.domain) (bare_at r.shapes l.codomain) (bare_at r.shapes l.after) → IsLink r c T l
is_link r c T l d e a h k = record { domain = d; codomain = e; after = a; change = h; argument = k }

pub one_fits : (r : Tables) (g : Goal) (t : ℕ) (l : Link) (ls : List Link) → ls ≡ l ∷ [] → IsLink r g.ctx (bare_at r.shapes t) l → bare_at r.shapes l.after ≡ bare_at r.shapes g.statement → LinksFit r g t ls
one_fits r g t l ls e p h = subst (LinksFit r g t) (sym e) (p, h)

pub is_short : (l : Link) (ls : List Link) → ls ≡ l ∷ [] → length ls ≤ 2000
is_short l ls e = let n : length ls ≡ 1 = ap length e in omega (arith, n)

pub ruleset one_link = (one_fits, is_short)
