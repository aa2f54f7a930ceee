-- open proofs are sound.
use Rattle.std.proofs.Common.{◌≡◌, ℕ, zero, suc, pred, ◌<◌, ◌≤◌, ◌+◌, ◌-◌, List, [], ◌∷◌, ◌++◌, length, refl, sym, ap, ◌∙◌, subst, Option, Some, None, true, arith}
use Rattle.std.specs.Prelude.{slice_get, take, drop}
use Rattle.std.proofs.lemmas.List.{length-append}
use mathlib.Core.Path.{ap₂}
use Rattle.pts_terms.specs.Limits.{within}
use Rattle.pts_terms.specs.Tree.{Named, bare}
use Rattle.pts_terms.proofs.Same.{same_term_self}
use Rattle.pts_ctx.specs.System.{Specification}
use Rattle.pts_ctx.specs.Front.{Front}
use Rattle.pts_record.specs.declared.shape.Form.TheVariants.{Conv, Same}
use Rattle.pts_record.specs.declared.shape.Node.{Node}
use Rattle.pts_record.specs.Table.{Tables, named_at, bare_at}
use Rattle.pts_record.specs.Said.{named_told, scope_of}
use Rattle.pts_record.proofs.Trees.{bare_of_named}
use Rattle.pts_rules.specs.Valid.{IsValid, last_said, concludes_as}
use Rattle.pts_grow.specs.declared.compared.Compared.{Compared}
use Rattle.pts_grow.specs.Keeps.{Keeps, Compares}
use Rattle.pts_grow.proofs.Grow.{with_node, node_new, keeps_trans, told_stays, tree_stays, bare_stays, stays, node_stays}
use Rattle.pts_grow.proofs.Instances.{new_compares, same_ok}
use Rattle.pts_grow.specs.declared.judged.Judged.{Judged}
use Rattle.pts_rules.proofs.Passing.{is_same}
use Rattle.pts_grow.proofs.Judgements.{still_judges, new_judges}
use Rattle.pts_grow.proofs.Converted.{conv_ok}
use Rattle.pts_goals.specs.declared.step.Goal.{Goal}
use Rattle.pts_goals.specs.declared.step.FilledGoal.{FilledGoal}
use Rattle.pts_goals.specs.Steps.{IsGoal, Closes, arity, step_term}
use Rattle.pts_goals.specs.OpenGoals.{Makes, ClosedAfter, IsOpenProof, subjects_of}
use Rattle.pts_goals.specs.OpenProofs.{OpenProof}
use Rattle.pts_goals.specs.FillingOut.{IsLinked, FillsOut, IsSound}
use Rattle.pts_goals.proofs.OneTerm.{makes_one}
use Rattle.pts_goals.proofs.Kept.{still_goal, still_closes}
use Rattle.pts_goals.proofs.Growth.{Grown, with_node_grown, steps_grow, grown_on}
use Rattle.pts_goals.proofs.Conclusion.{concluded}

-- A judgement that closes a goal without hypotheses, as the last node.
last_grows : (a z : Tables) (g : Goal) (j : Judged) → Keeps a z → IsLinked z → IsGoal a g → (scope_of (named_told a g.ctx)).entries ≡ [] → Closes z g j → (y : Tables) × Grown z y × (concludes_as (last_said y) (Some (bare (named_at z.shapes j.subject))) (bare_at a.shapes g.statement) ≡ true)
last_grows a z g j k l n e c =
    let nz = still_goal a z k g n in
    let s : Node = record { form = Same; ctx = g.ctx; subject = j.claim; claim = g.statement; first = 0; second = 0; third = 0 } in
    let u = with_node z s in
    let v = with_node_grown z s l (nz.ctx, tt) (c.judges.1, (nz.statement, tt)) (λ S G. same_ok z g.ctx nz.typed.0 S G j.claim g.statement (is_same c.claim)) in
    let o : Compared = record { left = j.claim; right = g.statement; node = length z.nodes } in
    let q : Compares u g.ctx o = new_compares z u g.ctx j.claim g.statement (length z.nodes) v.keeps refl nz.ctx c.judges.1 nz.statement (node_new z s) in
    let nu = still_goal z u v.keeps g nz in
    let ju = still_judges z u g.ctx j v.keeps nz.ctx c.judges in
    let d : Node = record { form = Conv; ctx = g.ctx; subject = j.subject; claim = g.statement; first = j.node; second = g.sorted.node; third = length z.nodes } in
    let y = with_node u d in
    let w = with_node_grown u d v.linked (nu.ctx, (ju.2.0, (nu.sorted.0.2.0, (q.2.0, tt)))) (ju.0, (nu.statement, tt)) (λ S G. conv_ok u g.ctx nu.typed S G j.subject g.statement j g.sorted o ju nu.sorted.0 q refl (sym nu.same) nu.sorted.1 refl refl) in
    let m = new_judges u y g.ctx j.subject g.statement (length u.nodes) w.keeps refl nu.ctx ju.0 nu.statement (node_new u d) in
    let x : suc (length u.nodes) ≡ length y.nodes = let b = length-append u.nodes (d ∷ []) in omega (arith, b) in
    let ay = keeps_trans a u y (keeps_trans a z u k v.keeps) w.keeps in
    let zy = keeps_trans z u y v.keeps w.keeps in
    let h : (scope_of (named_told y g.ctx)).entries ≡ [] = ap (λ m. (scope_of m).entries) (told_stays a y g.ctx ay n.ctx) ∙ e in
    let t1 : bare (named_at z.shapes j.subject) ≡ bare_at y.shapes j.subject = bare_of_named z.shapes j.subject ∙ sym (bare_stays z y j.subject zy c.judges.0) in
    let t2 : bare (named_at a.shapes g.statement) ≡ bare_at y.shapes g.statement = bare_of_named a.shapes g.statement ∙ sym (bare_stays a y g.statement ay n.statement) in
    let r = concluded y g.ctx (length u.nodes) (record { subject = j.subject; claim = g.statement; node = length u.nodes }) (named_at z.shapes j.subject) (named_at a.shapes g.statement) h x m t1 t2 in
    (y, grown_on z u y v w, subst (λ T. concludes_as (last_said y) (Some (bare (named_at z.shapes j.subject))) T ≡ true) (bare_of_named a.shapes g.statement) r)

pub open_proofs_sound : (p : OpenProof) → IsOpenProof p.scratch p.root p.steps p.goals → IsSound p
open_proofs_sound p w S G q js t f =
    let d : ClosedAfter p.scratch p.root p.steps (length p.steps) q js (subjects_of q js) = record { goals = p.goals; reached = w.reached; closes = f.closes; term = t; makes = f.made; whole = f.made; within = f.within } in
    let (z, g, j, c, o) = steps_grow p.scratch p.root w.is_goal p.steps (length p.steps) q f.linked js (subjects_of q js) f.keeps d in
    let e = makes_one p.scratch p.steps (length p.steps) (subjects_of q js) (subjects_of q js) (named_at z.shapes j.subject) t refl o f.made in
    let k = keeps_trans p.scratch q z f.keeps g.keeps in
    let (y, h, r) = last_grows p.scratch z p.root j k g.linked w.is_goal w.empty c in (
      y,
      record {
        keeps = keeps_trans q z y g.keeps h.keeps;
        linked = h.linked;
        valid = h.valid S G (g.valid S G f.valid);
        concludes = subst (λ t. concludes_as (last_said y) (Some (bare t)) (bare_at p.scratch.shapes p.root.statement) ≡ true) e r;
      },
    )
