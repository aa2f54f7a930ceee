-- What the variables of a pattern are found to be, in numbers of a record.
use Rattle.std.proofs.Common.{◌≡◌, ℕ, zero, suc, ◌+◌, ◌-◌, ◌≤◌, ◌<◌, List, [], ◌∷◌, length, Option, Some, None, refl, sym, ap, ◌∙◌, subst, arith, Bool, true, false}
use Rattle.std.specs.Prelude.{◌&&◌, nat_lt, slice_index_or, slice_set, IfSome, if◌then◌else◌}
use Rattle.std.specs.Option.{option_map, option_and_then}
use Rattle.std.proofs.lemmas.Bool.Decides.{nat_tests}
use Rattle.std.proofs.lemmas.List.Elements.{All-set}
use Rattle.pts_terms.specs.Tree.{Named, bare, sort, const, var, app, named_lam, named_pi, named_let, lift, same_term, Below}
use Rattle.pts_terms.specs.Limits.{free_of}
use Rattle.pts_record.specs.declared.shape.Shape.{Shape}
use Rattle.pts_record.specs.Table.{named_at, bare_at}
use Rattle.pts_record.proofs.Trees.{bare_of_named}
use Rattle.pts_match.specs.declared.subterm.Subterm.{Subterm}
use Rattle.pts_match.specs.Lowering.{is_clear, lower}
use Rattle.pts_match.specs.Matching.{Assignment, assign, only_if, is_index, match_index, match_under, value_of, values_of, IsClear, AreClear}
use Rattle.pts_match.proofs.Lowered.{below_at}
use Rattle.pts_match.proofs.Lifted.{same_parts, same_swap}

-- A part under no fewer binders than another, and one under no more.
pub nearer : (ss : List Shape) (p q : Subterm) → q.binders ≤ p.binders → IsClear ss p → IsClear ss q → same_term (bare_at ss p.term) (lift 0 (p.binders - q.binders) (bare_at ss q.term)) ≡ same_term (bare (value_of ss p)) (bare (value_of ss q))
nearer ss p q l h g =
    ap (λ x. same_term x (lift 0 (p.binders - q.binders) (bare_at ss q.term))) (sym (bare_of_named ss p.term))
    ∙ ap (λ x. same_term (bare (named_at ss p.term)) (lift 0 (p.binders - q.binders) x)) (sym (bare_of_named ss q.term))
    ∙ same_parts (named_at ss p.term) (named_at ss q.term) p.binders q.binders l h.2 g.2

pub deeper : (ss : List Shape) (p q : Subterm) → p.binders ≤ q.binders → IsClear ss p → IsClear ss q → same_term (bare_at ss q.term) (lift 0 (q.binders - p.binders) (bare_at ss p.term)) ≡ same_term (bare (value_of ss p)) (bare (value_of ss q))
deeper ss p q l h g = nearer ss q p l g h ∙ same_swap (bare (value_of ss q)) (bare (value_of ss p))

-- A variable that is nothing yet.
pub assign_new : (ss : List Shape) (ps : List (Option Subterm)) (j : ℕ) (p : Subterm) → slice_index_or ps j None ≡ None → j < length ps → only_if true (values_of ss (slice_set ps j (Some p))) ≡ assign j (value_of ss p) (values_of ss ps)
assign_new ss [] j p e l = absurd (omega (arith, l))
assign_new ss (None ∷ ps) zero p e l = refl
assign_new ss (Some q ∷ ps) zero p e l = absurd (cc e)
assign_new ss (o ∷ ps) (suc j) p e l = ap (option_map (λ r. option_map (value_of ss) o ∷ r)) (assign_new ss ps j p e (omega (arith, l)))

only_first : (b : Bool) (t : Named) (s : Assignment) → only_if b (Some t ∷ s) ≡ option_map (λ u. Some u ∷ s) (if b then Some t else None)
only_first true t s = refl
only_first false t s = refl

only_rest : (b : Bool) (o : Option Named) (s : Assignment) (r : Option Assignment) → only_if b s ≡ r → only_if b (o ∷ s) ≡ option_map (λ q. o ∷ q) r
only_rest true o s r e = ap (option_map (λ q. o ∷ q)) e
only_rest false o s r e = ap (option_map (λ q. o ∷ q)) e

-- One that is a part already.
pub assign_old : (ss : List Shape) (ps : List (Option Subterm)) (j : ℕ) (p : Subterm) (a : Named) → slice_index_or ps j None ≡ Some p → only_if (same_term (bare a) (bare (value_of ss p))) (values_of ss ps) ≡ assign j a (values_of ss ps)
assign_old ss [] j p a e = absurd (cc e)
assign_old ss (None ∷ ps) zero p a e = absurd (cc e)
assign_old ss (Some q ∷ ps) zero p a e =
    let i : q ≡ p = cc e in
    ap (λ x. only_if (same_term (bare a) (bare (value_of ss x))) (Some (value_of ss q) ∷ values_of ss ps)) (sym i) ∙ only_first (same_term (bare a) (bare (value_of ss q))) (value_of ss q) (values_of ss ps)
assign_old ss (o ∷ ps) (suc j) p a e = only_rest (same_term (bare a) (bare (value_of ss p))) (option_map (value_of ss) o) (values_of ss ps) (assign j a (values_of ss ps)) (assign_old ss ps j p a e)

-- A pattern that has no other index than those of the binders is compared as it is.
index_closed : (n i : ℕ) (g : Named) (s : Assignment) → i < n → match_index n i g s ≡ only_if (is_index i g) s
index_closed n i g s h = grind (arith, nat_tests)

in_turn : (r : Option Assignment) (next : Assignment → Option Assignment) (a b : Bool) (s : Assignment) → r ≡ only_if a s → next s ≡ only_if b s → option_and_then next r ≡ only_if (a && b) s
in_turn r next true b s e f = ap (option_and_then next) e ∙ f
in_turn r next false b s e f = ap (option_and_then next) e

and_join : (a b c : Bool) → ((a && b) && c) ≡ (a && (b && c))
and_join true b c = refl
and_join false b c = refl

match_closed : (n : ℕ) (p g : Named) (s : Assignment) → Below n (bare p) → match_under n p g s ≡ only_if (same_term (bare p) (bare g)) s
match_closed n (var i) g s h = index_closed n i g s h
match_closed n (sort q) (sort r) s h = refl
match_closed n (const c) (const d) s h = refl
match_closed n (app f a) (app g b) s h = in_turn _ _ _ _ s (match_closed n f g s h.0) (match_closed n a b s h.1)
match_closed n (named_lam x A b) (named_lam y C d) s h = in_turn _ _ _ _ s (match_closed n A C s h.0) (match_closed (suc n) b d s h.1)
match_closed n (named_pi x A b) (named_pi y C d) s h = in_turn _ _ _ _ s (match_closed n A C s h.0) (match_closed (suc n) b d s h.1)
match_closed n (named_let x a A b) (named_let y c C d) s h =
    in_turn _ _ _ _ s (in_turn _ _ _ _ s (match_closed n a c s h.0) (match_closed n A C s h.1)) (match_closed (suc n) b d s h.2)
    ∙ ap (λ q. only_if q s) (and_join (same_term (bare a) (bare c)) (same_term (bare A) (bare C)) (same_term (bare b) (bare d)))
match_closed n t g s h = refl

pub closed_match : (ss : List Shape) (k l n : ℕ) (s : Assignment) → free_of (bare_at ss k) ≤ n → only_if (same_term (bare_at ss k) (bare_at ss l)) s ≡ match_under n (named_at ss k) (named_at ss l) s
closed_match ss k l n s h =
    ap (λ t. only_if (same_term t (bare_at ss l)) s) (sym (bare_of_named ss k))
    ∙ ap (λ t. only_if (same_term (bare (named_at ss k)) t) s) (sym (bare_of_named ss l))
    ∙ sym (match_closed n (named_at ss k) (named_at ss l) s (below_at ss k n h))

-- What is found stays clear of binders.
pub known_clear : (ss : List Shape) (ps : List (Option Subterm)) (j : ℕ) (p : Subterm) → AreClear ss ps → j < length ps → slice_index_or ps j None ≡ Some p → IsClear ss p
known_clear ss ps j p a l e = subst (λ o. IfSome o (IsClear ss)) e (a j None l)

pub still_clear : (ss : List Shape) (ps : List (Option Subterm)) (j : ℕ) (p : Subterm) → AreClear ss ps → IsClear ss p → AreClear ss (slice_set ps j (Some p))
still_clear ss ps j p a h = All-set (λ o. IfSome o (IsClear ss)) ps j (Some p) h a

pub ruleset assigning = (assign_new, assign_old, known_clear, still_clear)
