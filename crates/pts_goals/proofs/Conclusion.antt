-- Records that end with a judgement, and what they conclude.
use Rattle.std.proofs.Common.{◌≡◌, ℕ, ◌<◌, ◌≤◌, ◌+◌, suc, zero, pred, refl, sym, ap, ◌∙◌, subst, List, [], ◌∷◌, ◌++◌, length, true, false, Some, None, arith}
use Rattle.std.proofs.lemmas.List.{length-append}
use Rattle.pts_terms.specs.Tree.{Named, bare}
use Rattle.pts_terms.specs.Limits.{within, depth_of, size_of}
use Rattle.pts_terms.proofs.Same.{same_term_self}
use Rattle.pts_record.specs.declared.shape.Form.TheVariants.{Thin}
use Rattle.pts_record.specs.declared.shape.Node.{Node}
use Rattle.pts_record.specs.Table.{Tables, named_at, bare_at}
use Rattle.pts_record.specs.Said.{told, named_told, scope_of}
use Rattle.pts_rules.specs.Valid.{last_said, concludes_as}
use Rattle.pts_grow.specs.Keeps.{Keeps}
use Rattle.pts_grow.proofs.Grow.{with_node, keeps_trans, told_stays, bare_stays, stays}
use Rattle.pts_goals.specs.Steps.{IsGoal, Closes}
use Rattle.pts_grow.specs.declared.judged.Judged.{Judged}
use Rattle.pts_grow.specs.Judges.{Judges}
use Rattle.pts_grow.proofs.Judgements.{judged_bare}
use Rattle.pts_goals.specs.declared.step.Goal.{Goal}
use Rattle.pts_goals.specs.declared.step.FilledGoal.{FilledGoal}
use Rattle.pts_goals.specs.OpenGoals.{IsOpenProof, ClosedAfter, Makes}
use Rattle.pts_goals.proofs.Size.{some_term, partial_depth}
use Rattle.pts_goals.proofs.Filling.{sound_shallow, sound_small}
use Rattle.pts_goals.proofs.Views.{limits}

-- A judgement in the empty context, as the last node, concludes its terms.
pub concluded : (r : Tables) (c n : ℕ) (j : Judged) (t u : Named) → (scope_of (named_told r c)).entries ≡ [] → suc n ≡ length r.nodes → Judges r c (record { subject = j.subject; claim = j.claim; node = n }) → bare t ≡ bare_at r.shapes j.subject → bare u ≡ bare_at r.shapes j.claim → concludes_as (last_said r) (Some (bare t)) (bare u) ≡ true
concluded r c n j t u e p h a b =
    let d : last_said r ≡ told r n = ap (told r) (let q : pred (length r.nodes) ≡ n = ap pred (sym p) in q) in
    let m = judged_bare r c (record { subject = j.subject; claim = j.claim; node = n }) h in
    let x = same_term_self (bare_at r.shapes j.subject) in
    let y = same_term_self (bare_at r.shapes j.claim) in
    rw (d, m, a, b, e, x, y) refl

-- Where no goal is open, the steps make a term within limits.
pub ready : (r : Tables) (root : Goal) (ss : List FilledGoal) → IsOpenProof r root ss [] → ClosedAfter r root ss (length ss) r [] []
ready r root ss w =
    let t = some_term r root ss (length ss) [] [] w.reached refl in
    let m = partial_depth r root ss (length ss) [] t.0 w.place w.reached t.1 in
    let m0 = m.0 in
    let m1 = m.1 in
    let a = sound_shallow r root ss [] w in
    let b = sound_small r root ss [] w in
    record {
      goals = [];
      reached = w.reached;
      closes = tt;
      term = t.0;
      makes = t.1;
      whole = t.1;
      within = limits (depth_of t.0) (size_of t.0) (omega (arith, m0, a)) (omega (arith, m1, b));
    }

-- The record that was finished, and trimmed.
pub all_concluded : (a f q z : Tables) (root : Goal) (j : Judged) (n : ℕ) (t u : Named) → Keeps a f → Keeps f q → z ≡ q → IsGoal a root → (scope_of (named_told a root.ctx)).entries ≡ [] → Closes f root j → suc n ≡ length q.nodes → Judges q root.ctx (record { subject = j.subject; claim = j.claim; node = n }) → bare t ≡ bare_at z.shapes j.subject → bare u ≡ bare_at z.shapes root.statement → concludes_as (last_said z) (Some (bare t)) (bare u) ≡ true
all_concluded a f q z root j n t u k l e g m c p h x y =
    let o = keeps_trans a f q k l in
    let d : (scope_of (named_told q root.ctx)).entries ≡ [] = ap (λ m. (scope_of m).entries) (told_stays a q root.ctx o g.ctx) ∙ m in
    let v : bare t ≡ bare_at q.shapes j.subject = x ∙ ap (λ z. bare_at z.shapes j.subject) e in
    let w : bare u ≡ bare_at q.shapes j.claim =
    y ∙ ap (λ z. bare_at z.shapes root.statement) e ∙ bare_stays f q root.statement l (stays a f root.statement k g.statement) ∙ sym c.claim ∙ sym (bare_stays f q j.claim l c.judges.1) in
    subst (λ z. concludes_as (last_said z) (Some (bare t)) (bare u) ≡ true) (sym e) (concluded q root.ctx n j t u d p h v w)
