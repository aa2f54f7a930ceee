-- Names of the scope.
use Rattle.std.proofs.Common.{◌≡◌, ℕ, ◌+◌, sym, ap, ◌∙◌, subst, length, List, Some, None}
use Rattle.std.specs.Option.{option_map, option_or}
use Rattle.std.specs.List.{position}
use Rattle.pts_names.specs.Name.{Name, same_name}
use Rattle.pts_ctx.specs.Seen.{place_of}
use Rattle.pts_reduce_cost.specs.Costs.{Globals}
use Rattle.pts_prove_cost.specs.Commands.{place_in_scope, taken}
use Rattle.pts_prove.specs.declared.fault.ProveFault.{ProveFault}
use Rattle.pts_prove.specs.Answered.{IsTaken, Tells}

module _ (G : Globals) (xs : List Name) (x : Name) (e : ProveFault) where
  pub found_in_front : (n : ℕ) → Some n ≡ place_of x G → Tells xs (taken x n) e → IsTaken xs x (place_in_scope G xs x) e
  found_in_front n h d = subst (λ o. IsTaken xs x (option_or o (option_map (λ i. length G + i) (position (same_name x) xs))) e) h d

  pub found_among : (m n : ℕ) → place_of x G ≡ None → Some m ≡ position (same_name x) xs → n ≡ length G + m → Tells xs (taken x n) e → IsTaken xs x (place_in_scope G xs x) e
  found_among m n h k s d =
      let o : Some n ≡ option_map (λ i. length G + i) (position (same_name x) xs) = ap Some s ∙ ap (option_map (λ i. length G + i)) k in
      let p : Some n ≡ place_in_scope G xs x = o ∙ ap (λ o. option_or o (option_map (λ i. length G + i) (position (same_name x) xs))) (sym h) in
      subst (λ o. IsTaken xs x o e) p d
