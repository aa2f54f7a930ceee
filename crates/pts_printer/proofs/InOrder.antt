-- The names of locals, one after the other.
use Rattle.std.proofs.Common.{ℕ, ◌+◌, ◌-◌, ◌≡◌, ◌<◌, sym, ◌∙◌, ap, arith, List, [], ◌∷◌, ◌++◌, append_assoc, Bool, ◌&&◌, map, length, drop, get_or}
use Rattle.std.proofs.lemmas.List.{drop_more, length-append, length-drop}
use Rattle.pts_names.specs.Name.{Name, same_name, underscore}
use Rattle.pts_terms.specs.Tree.{Named}
use Rattle.pts_terms.specs.Seen.{named}
use Rattle.pts_terms.specs.declared.term.Term.{Term}
use Rattle.pts_printed.specs.Choice.{occurs, choice}
use Rattle.pts_printed.specs.Locals.{named_locals, uses, occurs_behind, goal_uses}
use Rattle.pts_printer.proofs.Names.{choice_used}

-- One local further, whose name is z.
named_step : (cs done : List Name) (xs ys : List (Name × Bool)) (x z : Name) (used : Bool) → xs ≡ (x, used) ∷ ys → z ≡ choice x (same_name x underscore && used) (done ++ cs) → done ++ named_locals cs done xs ≡ (done ++ z ∷ []) ++ named_locals cs (done ++ z ∷ []) ys
named_step cs done xs ys x z used e f =
    ap (λ us. done ++ named_locals cs done us) e
    ∙ (ap (λ y. done ++ (y ∷ named_locals cs (done ++ y ∷ []) ys)) (sym (f ∙ choice_used x used (done ++ cs)))
    ∙ sym (append_assoc done (z ∷ []) (named_locals cs (done ++ z ∷ []) ys)))

-- The first hypothesis from a place on.
uses_split : (y : Name) (names : List Name) (types : List Term) (i : ℕ) (t : Named) → i < length types → goal_uses (y ∷ names) (map named (drop i types)) t ≡ (y, occurs_behind 0 (map named (drop (i + 1) types)) t) ∷ goal_uses names (map named (drop (i + 1) types)) t
uses_split y names [] i t h = absurd (omega arith)
uses_split y names (A ∷ types) i t h = ap (λ As. goal_uses (y ∷ names) (map named As) t) (drop_more (A ∷ types) i A h)

module _ (cs W V U : List Name) (z : Name) where
  pub local_named : (locals : List Name) (t : Named) (i : ℕ) (x : Name) → i < length locals → x ≡ get_or locals i x → z ≡ choice x (same_name x underscore && occurs (length locals - 1 - i) t) (W ++ cs) → U ≡ W ++ z ∷ [] → W ++ named_locals cs W (uses (drop i locals) t) ≡ V → U ++ named_locals cs U (uses (drop (i + 1) locals) t) ≡ V
  local_named locals t i x h e f u q =
      let left : length (drop (i + 1) locals) ≡ length locals - 1 - i = let k = length-drop (i + 1) locals in omega arith in
      let split : uses (drop i locals) t ≡ (x, occurs (length locals - 1 - i) t) ∷ uses (drop (i + 1) locals) t =
      ap (λ L. uses L t) (drop_more locals i x h)
      ∙ (ap (λ y. (y, occurs (length (drop (i + 1) locals)) t) ∷ uses (drop (i + 1) locals) t) (sym e)
      ∙ ap (λ n. (x, occurs n t) ∷ uses (drop (i + 1) locals) t) left) in
      ap (λ F. F ++ named_locals cs F (uses (drop (i + 1) locals) t)) u
      ∙ (sym (named_step cs W (uses (drop i locals) t) (uses (drop (i + 1) locals) t) x z (occurs (length locals - 1 - i) t) split f) ∙ q)

  pub hypothesis_named : (names : List Name) (types : List Term) (t : Named) (i : ℕ) (x : Name) → i < length names → length names ≡ length types → x ≡ get_or names i x → z ≡ choice x (same_name x underscore && occurs_behind 0 (map named (drop (i + 1) types)) t) (W ++ cs) → U ≡ W ++ z ∷ [] → W ++ named_locals cs W (goal_uses (drop i names) (map named (drop i types)) t) ≡ V → U ++ named_locals cs U (goal_uses (drop (i + 1) names) (map named (drop (i + 1) types)) t) ≡ V
  hypothesis_named names types t i x h l e f u q =
      let rest = map named (drop (i + 1) types) in
      let split : goal_uses (drop i names) (map named (drop i types)) t ≡ (x, occurs_behind 0 rest t) ∷ goal_uses (drop (i + 1) names) rest t =
      ap (λ L. goal_uses L (map named (drop i types)) t) (drop_more names i x h)
      ∙ (uses_split (get_or names i x) (drop (i + 1) names) types i t (omega arith)
      ∙ ap (λ y. (y, occurs_behind 0 rest t) ∷ goal_uses (drop (i + 1) names) rest t) (sym e)) in
      ap (λ F. F ++ named_locals cs F (goal_uses (drop (i + 1) names) rest t)) u
      ∙ (sym (named_step cs W (goal_uses (drop i names) (map named (drop i types)) t) (goal_uses (drop (i + 1) names) rest t) x z (occurs_behind 0 rest t) split f) ∙ q)

pub one_longer : (W U : List Name) (z : Name) (n : ℕ) → U ≡ W ++ z ∷ [] → length W ≡ n → length U ≡ n + 1
one_longer W U z n u e = ap length u ∙ (length-append W (z ∷ []) ∙ ap (λ m. m + 1) e)
