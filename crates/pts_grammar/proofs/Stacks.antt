-- The open constructs with the innermost first.
use Rattle.std.proofs.Common.{◌≡◌, refl, ◌+◌, List, [], ◌∷◌, ◌++◌, arith}
use Rattle.pts_grammar.specs.Machine.{Frame, in_parens, at_type, at_body, let_value, let_type, let_body, behind_arrow, opened}
use Rattle.pts_grammar.specs.Seen.{Subtree}
use Rattle.pts_grammar.specs.Open.{newest}

pub newest_more : {A : Type 0} (K fs : List A) (f : A) → newest K (fs ++ f ∷ []) ≡ f ∷ newest K fs
newest_more K [] f = refl
newest_more K (g ∷ fs) f = newest_more (g ∷ K) fs f

pub opened_more : (f : Frame Subtree) (K : List (Frame Subtree)) → opened (f ∷ K) ≡ opened (f ∷ []) + opened K
opened_more (in_parens g) K = omega arith
opened_more (at_type b x) K = omega arith
opened_more (at_body b x A) K = omega arith
opened_more (let_value x) K = omega arith
opened_more (let_type x d) K = omega arith
opened_more (let_body x d A) K = omega arith
opened_more (behind_arrow A) K = omega arith
