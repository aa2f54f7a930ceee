-- A judgement that its subject has a sort makes an open proof.
use Rattle.std.proofs.Common.{◌≡◌, ℕ, ◌<◌, List, [], ◌∷◌, length, refl, sym, ap, ◌∙◌, subst, true, false}
use Rattle.std.specs.Prelude.{is_some}
use Rattle.pts_names.specs.Name.{Name}
use Rattle.pts_terms.specs.Tree.{bare}
use Rattle.pts_record.specs.Table.{Tables, named_at, bare_at}
use Rattle.pts_record.specs.Said.{named_told, judgement, scope_of, claim_of, place_of, is_context, is_judgement, all_known}
use Rattle.pts_record.proofs.Trees.{bare_of_named}
use Rattle.pts_rules.specs.Parts.{sort_in}
use Rattle.pts_grow.specs.declared.judged.Judged.{Judged}
use Rattle.pts_grow.specs.Judges.{Judges, JudgesSort, IsEmpty}
use Rattle.pts_goals.specs.Steps.{IsGoal, goal_of}
use Rattle.pts_goals.specs.OpenGoals.{IsOpenProof}
use Rattle.pts_goals.specs.OpenProofs.{OpenProof, IsStarted}
use Rattle.pts_goals.specs.declared.step.Goal.{Goal}
use Rattle.pts_goals.specs.declared.step.FilledGoal.{FilledGoal}

-- What `start` asks of a node, where it judges a term with a sort in an empty context: for callers.
module _ (r : Tables) (c : ℕ) (j : Judged) (q : JudgesSort r c j) (e : IsEmpty r c) where
  pub begins_judgement : is_judgement (named_told r j.node) ≡ true
  begins_judgement = ap is_judgement q.0.2.1

  pub begins_context : is_context (named_told r (place_of (named_told r j.node))) ≡ true
  begins_context = ap (λ m. is_context (named_told r (place_of m))) q.0.2.1 ∙ ap is_context e.1

  pub begins_empty : (scope_of (named_told r j.node)).entries ≡ []
  begins_empty = ap (λ m. (scope_of m).entries) q.0.2.1 ∙ ap (λ m. (scope_of m).entries) e.1

  pub begins_sort : is_some (sort_in (bare (claim_of (named_told r j.node)))) ≡ true
  begins_sort = ap (λ m. is_some (sort_in (bare (claim_of m)))) q.0.2.1 ∙ ap (λ t. is_some (sort_in t)) (bare_of_named r.shapes j.claim) ∙ q.1

-- A proof that was started is not lent.
pub begun_here : (x : Name) (r : Tables) (n : ℕ) (p : OpenProof) → IsStarted x r n p → p.is_lent ≡ false
begun_here x r n p s = ap (λ o. o.is_lent) s.is

pub ruleset beginning = (begins_judgement, begins_context, begins_empty, begins_sort, begun_here)

module _ (r : Tables) (n c : ℕ) (j : Judged) (h : c < length r.nodes) (e : c ≡ place_of (named_told r n)) (q : Judges r c j) (i : j.node ≡ n) where
  says : named_told r n ≡ judgement c (scope_of (named_told r c)) (named_at r.shapes j.subject) (named_at r.shapes j.claim)
  says = sym (ap (named_told r) i) ∙ q.2.1

  pub judges_sort : is_some (sort_in (bare (claim_of (named_told r n)))) ≡ true → JudgesSort r c j
  judges_sort s =
      let t : bare (claim_of (named_told r n)) ≡ bare_at r.shapes j.claim = ap (λ m. bare (claim_of m)) says ∙ bare_of_named r.shapes j.claim in
      (q, sym (ap (λ t. is_some (sort_in t)) t) ∙ s)

  pub is_start : is_some (sort_in (bare (claim_of (named_told r n)))) ≡ true → is_context (named_told r (place_of (named_told r n))) ≡ true → (scope_of (named_told r n)).entries ≡ [] → IsOpenProof r (goal_of [] c j 0) [] (goal_of [] c j 0 ∷ [])
  is_start s k m =
      let l : (scope_of (named_told r c)).entries ≡ [] = sym (ap (λ m. (scope_of m).entries) says) ∙ m in
      record {
        is_goal = record {
          ctx = h;
          typed = (ap (λ n. is_context (named_told r n)) e ∙ k, ap all_known l);
          names = sym (ap length l);
          statement = q.0;
          sorted = judges_sort s;
          same = refl;
        };
        place = refl;
        empty = l;
        reached = refl;
      }

-- The same of the fields as they are made.
pub is_new : (r : Tables) (c : ℕ) (j : Judged) (root : Goal) (ss : List FilledGoal) (gs : List Goal) → root ≡ goal_of [] c j 0 → ss ≡ [] → gs ≡ goal_of [] c j 0 ∷ [] → IsOpenProof r (goal_of [] c j 0) [] (goal_of [] c j 0 ∷ []) → IsOpenProof r root ss gs
is_new r c j root ss gs e f h w = subst (λ g. IsOpenProof r g ss gs) (sym e) (subst (λ ss. IsOpenProof r (goal_of [] c j 0) ss gs) (sym f) (subst (IsOpenProof r (goal_of [] c j 0) []) (sym h) w))

pub is_started : (x : Name) (r : Tables) (n c : ℕ) (j : Judged) (root : Goal) (ss : List FilledGoal) (gs : List Goal) → root ≡ goal_of [] c j 0 → ss ≡ [] → gs ≡ goal_of [] c j 0 ∷ [] → j.node ≡ n → JudgesSort r c j → IsStarted x r n (record { name = x; scratch = r; is_lent = false; root = root; steps = ss; goals = gs })
is_started x r n c j root ss gs e f h i s = record {
  ctx = c;
  sorted = j;
  node = i;
  judges = s;
  is = ap (λ g. started g ss gs) e ∙ ap (λ ss. started (goal_of [] c j 0) ss gs) f ∙ ap (started (goal_of [] c j 0) []) h;
} where
  started : Goal → List FilledGoal → List Goal → OpenProof
  started g ss gs = record { name = x; scratch = r; is_lent = false; root = g; steps = ss; goals = gs }
