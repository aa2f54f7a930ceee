-- What readings of a record come to: a product with its parts, and applications of a function.
use Rattle.std.proofs.Common.{◌≡◌, ℕ, ◌<◌, ◌≤◌, List, [], ◌∷◌, length, sym, ap, subst, arith}
use Rattle.pts_terms.specs.Tree.{Bare, pi}
use Rattle.pts_record.specs.Table.{Tables, bare_at}
use Rattle.pts_grow.specs.declared.judged.Judged.{Judged}
use Rattle.pts_grow.specs.Judges.{JudgesSort, IsAssumeOf, IsProduct}
use Rattle.pts_goals.specs.declared.step.Goal.{Goal}
use Rattle.pts_goals.specs.declared.step.Link.{Link}
use Rattle.pts_goals.specs.Steps.{IsArgument, IsLink, LinksFit, ReducesTo, link_product}

pub is_product : (r : Tables) (c : ℕ) (p d : Judged) (i : ℕ) (s : Judged) → JudgesSort r c p → JudgesSort r c d → IsAssumeOf r c d i → JudgesSort r i s → bare_at r.shapes p.subject ≡ pi (bare_at r.shapes d.subject) (bare_at r.shapes s.subject) → IsProduct r c p d i s
is_product r c p d i s q e a b t = record { product = q; domain = e; inner = a; body = b; parts = t }

pub is_link : (r : Tables) (c : ℕ) (T : Bare) (l : Link) → l.domain < length r.shapes → l.codomain < length r.shapes → l.after < length r.shapes → ReducesTo r c T (link_product r l) l.change → IsArgument r c l.argument (bare_at r.shapes l.domain) (bare_at r.shapes l.codomain) (bare_at r.shapes l.after) → IsLink r c T l
is_link r c T l d e a h k = record { domain = d; codomain = e; after = a; change = h; argument = k }

pub two_fit : (r : Tables) (g : Goal) (t : ℕ) (a b : Link) (ls : List Link) → ls ≡ a ∷ b ∷ [] → IsLink r g.ctx (bare_at r.shapes t) a → IsLink r g.ctx (bare_at r.shapes a.after) b → bare_at r.shapes b.after ≡ bare_at r.shapes g.statement → LinksFit r g t ls
two_fit r g t a b ls e p q h = subst (LinksFit r g t) (sym e) (p, (q, h))

pub two_few : (a b : Link) (ls : List Link) → ls ≡ a ∷ b ∷ [] → length ls ≤ 2000
two_few a b ls e = let n : length ls ≡ 2 = ap length e in omega (arith, n)

pub ruleset two_links = (two_fit, two_few)
