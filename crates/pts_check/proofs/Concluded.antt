-- What a record that concludes says at its end.
use Rattle.std.proofs.Common.{◌≡◌, ℕ, zero, suc, ◌<◌, ◌≤◌, length, Bool, true, false, Option, Some, None, refl, arith}
use Rattle.std.specs.Prelude.{◌&&◌}
use Rattle.std.specs.Option.{option_map}
use Rattle.pts_terms.specs.Tree.{Named, bare}
use Rattle.pts_terms.specs.Limits.{depth_of, size_of, within}
use Rattle.pts_ctx.specs.Front.{Global}
use Rattle.pts_ctx.specs.Seen.{body_within}
use Rattle.pts_record.specs.Table.{Tables}
use Rattle.pts_record.specs.Said.{nothing, context, judgement, comparison, subject_of, claim_of}
use Rattle.pts_rules.specs.Conditions.{Link}
use Rattle.pts_rules.specs.Valid.{concludes, concludes_as}
use Rattle.pts_check.proofs.Faulted.{nothing_concluded}
use Rattle.pts_check.proofs.Limited.{type_within, body_and_type_within}

some_node : (r : Tables) (e : Global (Unit {0})) → concludes r e ≡ true → (n : ℕ) → length r.nodes ≡ n → 0 < n
some_node r e h zero q = let f : concludes r e ≡ false = nothing_concluded r e q in absurd (cc)
some_node r e h (suc n) q = omega arith

pub has_node : (r : Tables) (e : Global (Unit {0})) → concludes r e ≡ true → 0 < length r.nodes
has_node r e h = some_node r e h (length r.nodes) refl

both_hold : (a b : Bool) → (a && b) ≡ true → (a ≡ true) × (b ≡ true)
both_hold true true h = (refl, refl)
both_hold true false h = absurd (cc h)
both_hold false b h = absurd (cc h)

pub terms_within : (m : Link) (a : Option Named) (A : Named) → concludes_as m (option_map bare a) (bare A) ≡ true → (depth_of (subject_of m) ≤ 2000) × (size_of (subject_of m) ≤ 1000000) → (depth_of (claim_of m) ≤ 2000) × (size_of (claim_of m) ≤ 1000000) → (body_within a && within A) ≡ true
terms_within nothing a A h k l = absurd (cc h)
terms_within (context s) a A h k l = absurd (cc h)
terms_within (judgement c s t T) (Some b) A h k l =
    let p = both_hold _ _ (both_hold _ _ h).1 in
    body_and_type_within t T b A p.0 p.1 k l
terms_within (judgement c s t T) None A h k l =
    let p = both_hold _ _ (both_hold _ _ h).1 in
    type_within t A p.0 k
terms_within (comparison c s t u) a A h k l = absurd (cc h)
