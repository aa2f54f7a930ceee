-- Goals, and steps that fit them, stay so while a record grows.
use Rattle.std.proofs.Common.{◌≡◌, ℕ, ◌<◌, List, [], ◌∷◌, length, refl, sym, ap, ◌∙◌, subst as along, Option, Some, None}
use mathlib.Core.Path.{ap₂}
use Rattle.pts_terms.specs.Tree.{Bare, pi, lift, subst}
use Rattle.pts_record.specs.Table.{Tables, bare_at}
use Rattle.pts_record.specs.Said.{named_told, scope_of}
use Rattle.pts_grow.specs.declared.compared.Compared.{Compared}
use Rattle.pts_grow.specs.Keeps.{Keeps, Compares}
use Rattle.pts_grow.proofs.Grow.{stays, node_stays, bare_stays, told_stays}
use Rattle.pts_grow.proofs.Instances.{still_compares}
use Rattle.pts_grow.specs.declared.judged.Judged.{Judged}
use Rattle.pts_grow.specs.Judges.{Judges, JudgesSort, IsProduct}
use Rattle.pts_grow.proofs.Judgements.{still_judges, still_typed, still_sort, still_assume}
use Rattle.pts_goals.specs.declared.step.Goal.{Goal}
use Rattle.pts_goals.specs.declared.step.Step.{Step}
use Rattle.pts_goals.specs.declared.step.Step.TheVariants.{Intro, Exact, Cut, Apply, Change}
use Rattle.pts_goals.specs.declared.step.Link.{Link}
use Rattle.pts_goals.specs.declared.step.Reduction.{Reduction}
use Rattle.pts_goals.specs.declared.step.Argument.{Argument}
use Rattle.pts_goals.specs.declared.step.Argument.TheVariants.{Given, Left}
use Rattle.pts_goals.specs.Steps.{IsGoal, Closes, Converts, Fits, ReducesTo, IsArgument, IsLink, LinksFit}
use Rattle.pts_goals.specs.OpenGoals.{AllClose}

module _ (a b : Tables) (k : Keeps a b) where
  -- two terms that stood are as equal as before
  pub still_same : (t u : ℕ) → t < length a.shapes → u < length a.shapes → bare_at a.shapes t ≡ bare_at a.shapes u → bare_at b.shapes t ≡ bare_at b.shapes u
  still_same t u h g e = bare_stays a b t k h ∙ e ∙ sym (bare_stays a b u k g)

  pub still_sorts : (c : ℕ) (j : Judged) → c < length a.nodes → JudgesSort a c j → JudgesSort b c j
  still_sorts c j h q = (still_judges a b c j k h q.0, still_sort a b j.claim k q.0.1 q.1)

  pub still_goal : (g : Goal) → IsGoal a g → IsGoal b g
  still_goal g n = record {
    ctx = node_stays a b g.ctx k n.ctx;
    typed = still_typed a b g.ctx k n.ctx n.typed;
    names = n.names ∙ sym (ap (λ m. length (scope_of m).entries) (told_stays a b g.ctx k n.ctx));
    statement = stays a b g.statement k n.statement;
    sorted = still_sorts g.ctx g.sorted n.ctx n.sorted;
    same = still_same g.sorted.subject g.statement n.sorted.0.0 n.statement n.same;
  }

  pub still_closes : (g : Goal) (j : Judged) → IsGoal a g → Closes a g j → Closes b g j
  still_closes g j i q = record {
    judges = still_judges a b g.ctx j k i.ctx q.judges;
    claim = still_same j.claim g.statement q.judges.1 i.statement q.claim;
  }

  pub still_joined : (c : ℕ) (t u : ℕ) (o : Option Compared) → c < length a.nodes → t < length a.shapes → u < length a.shapes → Converts a c (bare_at a.shapes t) (bare_at a.shapes u) o → Converts b c (bare_at b.shapes t) (bare_at b.shapes u) o
  still_joined c t u None h p q e = still_same t u p q e
  still_joined c t u (Some o) h p q (m, x, y) = (still_compares a b c o k h m, still_same o.left t m.0 p x, still_same o.right u m.1 q y)

  pub still_product : (c : ℕ) (p d : Judged) (i : ℕ) (s : Judged) → c < length a.nodes → IsProduct a c p d i s → IsProduct b c p d i s
  still_product c p d i s h q = record {
    product = still_sorts c p h q.product;
    domain = still_sorts c d h q.domain;
    inner = still_assume a b c d i k h q.domain.0.0 q.inner;
    body = still_sorts i s q.inner.0 q.body;
    parts = bare_stays a b p.subject k q.product.0.0 ∙ q.parts ∙ ap₂ pi (sym (bare_stays a b d.subject k q.domain.0.0)) (sym (bare_stays a b s.subject k q.body.0.0));
  }

  still_changed : (c t A B : ℕ) (d : Option Reduction) → c < length a.nodes → t < length a.shapes → A < length a.shapes → B < length a.shapes → ReducesTo a c (bare_at a.shapes t) (pi (bare_at a.shapes A) (bare_at a.shapes B)) d → ReducesTo b c (bare_at b.shapes t) (pi (bare_at b.shapes A) (bare_at b.shapes B)) d
  still_changed c t A B None h p q s e = bare_stays a b t k p ∙ e ∙ ap₂ pi (sym (bare_stays a b A k q)) (sym (bare_stays a b B k s))
  still_changed c t A B (Some d) h p q s (m, e, o, x, y) =
      let u = ap₂ pi (sym (bare_stays a b A k q)) (sym (bare_stays a b B k s)) in
      (still_sorts c d.sorted h m, bare_stays a b d.sorted.subject k m.0.0 ∙ e ∙ u, still_compares a b c d.compared k h o, still_same d.compared.left t o.0 p x, bare_stays a b d.compared.right k o.1 ∙ y ∙ u)

  still_taken : (c A B C : ℕ) (x : Argument) → c < length a.nodes → A < length a.shapes → B < length a.shapes → C < length a.shapes → IsArgument a c x (bare_at a.shapes A) (bare_at a.shapes B) (bare_at a.shapes C) → IsArgument b c x (bare_at b.shapes A) (bare_at b.shapes B) (bare_at b.shapes C)
  still_taken c A B C (Given j) h p q s (m, e, f) =
      (still_judges a b c j k h m, still_same j.claim A m.1 p e, bare_stays a b C k s ∙ f ∙ ap₂ (subst 0) (sym (bare_stays a b j.subject k m.0)) (sym (bare_stays a b B k q)))
  still_taken c A B C (Left j) h p q s (m, e, f) =
      (still_sorts c j h m, still_same j.subject A m.0.0 p e, bare_stays a b B k q ∙ f ∙ ap (lift 0 1) (sym (bare_stays a b C k s)))

  pub still_link : (c t : ℕ) (l : Link) → c < length a.nodes → t < length a.shapes → IsLink a c (bare_at a.shapes t) l → IsLink b c (bare_at b.shapes t) l
  still_link c t l h p q = record {
    domain = stays a b l.domain k q.domain;
    codomain = stays a b l.codomain k q.codomain;
    after = stays a b l.after k q.after;
    change = still_changed c t l.domain l.codomain l.change h p q.domain q.codomain q.change;
    argument = still_taken c l.domain l.codomain l.after l.argument h q.domain q.codomain q.after q.argument;
  }

  pub still_links : (g : Goal) (t : ℕ) (ls : List Link) → IsGoal a g → t < length a.shapes → LinksFit a g t ls → LinksFit b g t ls
  still_links g t [] n p e = still_same t g.statement p n.statement e
  still_links g t (l ∷ ls) n p (q, f) = (still_link g.ctx t l n.ctx p q, still_links g l.after ls n q.after f)

  pub still_fits : (g : Goal) (s : Step) → IsGoal a g → Fits a g s → Fits b g s
  still_fits g (Intro x p d i s o) n (q, j) = (still_product g.ctx p d i s n.ctx q, still_joined g.ctx p.subject g.statement o n.ctx q.product.0.0 n.statement j)
  still_fits g (Exact j) n q = still_closes g j n q
  still_fits g (Cut x l p i s) n (q, e) = (still_product g.ctx p l i s n.ctx q, bare_stays a b s.subject k q.body.0.0 ∙ e ∙ ap (lift 0 1) (sym (bare_stays a b g.statement k n.statement)))
  still_fits g (Apply f ls) n (q, m, h) = (still_judges a b g.ctx f k n.ctx q, m, still_links g f.claim ls n q.1 h)
  still_fits g (Change t s o) n (h, q, e, j) = (stays a b t k h, still_sorts g.ctx s n.ctx q, still_same s.subject t q.0.0 h e, still_joined g.ctx t g.statement (Some o) n.ctx h n.statement j)

pub closed_by : (r : Tables) (g : Goal) (j : Judged) → Judges r g.ctx j → bare_at r.shapes j.claim ≡ bare_at r.shapes g.statement → Closes r g j
closed_by r g j q e = record { judges = q; claim = e }

pub ruleset kept = (closed_by, still_goal, still_joined, still_closes, still_product, still_fits)

-- A goal, changed to another statement once the record has grown.
pub fits_changed : (a b : Tables) (g h : Goal) (o : Compared) → Keeps a b → IsGoal a g → h ≡ g → Compares b g.ctx o → o.left ≡ g.statement → o.right ≡ g.statement → Fits b h (Change g.statement g.sorted o)
fits_changed a b g h o k n e c x y =
    let m = still_goal a b k g n in
    along (λ h. Fits b h (Change g.statement g.sorted o)) (sym e) (m.statement, m.sorted, m.same, (c, ap (bare_at b.shapes) x, ap (bare_at b.shapes) y))
