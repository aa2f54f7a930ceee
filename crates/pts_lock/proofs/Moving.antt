-- Owners that go from one seat to another keep the rule of the tickets.
use Rattle.std.proofs.Common.{◌≡◌, ◌≢◌, ◌⊎◌, inl, inr, ⊎_elim, ℕ, ◌+◌, ◌≤◌, List, [], ◌∷◌, ◌++◌, length, set, Option, Some, None, refl, sym, ap, ◌∙◌, subst, arith, length-append}
use mathlib.Core.Option.{Option as Maybe}
use Rattle.atomic_table.specs.Table.{State, Me, takes, Splits, Joins}
use Rattle.atomic_table.proofs.Lists.{set_else, at_longer}
use Rattle.pts_lock.specs.declared.seat.View.{View}
use Rattle.pts_names.specs.Lists.{In}
use Rattle.pts_lock.specs.Views.{Owns, OwnersDiffer, EachSawItsOwn, first_pair, other_pairs, view}
use Rattle.pts_lock.specs.TicketRule.{ticket_count, IsInUse, KnowsAt, Knows, ViewAt, IsHome, IsOut, TicketRule}
use Rattle.pts_lock.proofs.Pairs.{none-some, pair_count_set, tickets_set, same_view, each_split, each_join, tickets_snoc, pair_count_snoc, cut_length, owns_first, owns_other, cut_apart, differ_other, differ_first, follow_other, follow_first, owns_either, differ_both, follow_both}

module _ {E : Type 0} where
  module _ {S : Type 0} (hist : S → List (ℕ × E)) (owners : List ℕ) (opening : List (ℕ × E)) where
    -- what a slot's home has
    abbrev Option' : Type 0 → Type 0
    Option' S = Maybe (Option S)

    abbrev St : Type 0
    St = State (Option S) (View E)

    abbrev Mine : Type 0
    Mine = Me (Option S) (View E)

    idle_follows : (s : St) (k : TicketRule hist owners opening s) (id : ℕ) (v : View E) → ViewAt s.views id v → v.turn ≡ None → EachSawItsOwn v.pairs k.now
    idle_follows s k id v at idle = subst (λ (h : Option (List (ℕ × E))). KnowsAt h v.pairs k.served v.ticket k.now) idle (k.known id v at)

    -- an idle seat hands its first pair to a new one
    pub splits : (id : ℕ) (v : View E) → v.ticket ≡ None → v.turn ≡ None → Splits (TicketRule hist owners opening) id v (view (other_pairs v.pairs) None None) (view (first_pair v.pairs) None None)
    splits id v free idle s k at =
        let l : View E = view (other_pairs v.pairs) None None in
        let r : View E = view (first_pair v.pairs) None None in
        let all = idle_follows s k id v at idle in
        let one : ticket_count v.ticket ≡ 0 = ap ticket_count free in
        let vs : List (View E) = set s.views id l in
        let count = k.counted in let sum = tickets_set s.views id v l at in let more = tickets_snoc vs r in
        let few = k.few in let size = pair_count_set s.views id v l at in let size' = pair_count_snoc vs r in let cut = cut_length v.pairs in record {
          now = k.now;
          drawn = k.drawn;
          served = k.served;
          words = k.words;
          short = k.short;
          few = omega arith;
          counted = omega arith;
          backed = each_split (λ j u. ticket_count u.ticket ≤ length u.pairs) s.views id l r (omega arith) (λ j u n a. k.backed j u a) (omega arith);
          in_use = each_split (λ j u. IsInUse u.ticket k.served k.drawn) s.views id l r tt (λ j u n a. k.in_use j u a) tt;
          apart = λ i j u w t a b p q. each_split (λ i u. u.ticket ≡ Some t → i ≡ j) s.views id l r (λ p. absurd (none-some t p))
              (λ i u n a p. each_split (λ j w. w.ticket ≡ Some t → i ≡ j) s.views id l r (λ q. absurd (none-some t q)) (λ j w m b q. k.apart i j u w t a b p q) (λ q. absurd (none-some t q)) j w b q) (λ p. absurd (none-some t p)) i u a p;
          differ = each_split (λ j u. OwnersDiffer u.pairs) s.views id l r (differ_other v.pairs (k.differ id v at)) (λ j u n a. k.differ j u a) (differ_first v.pairs);
          owned = λ i j u w o a b p q. each_split (λ i u. Owns o u.pairs → i ≡ j) s.views id l r
              (λ p. each_split (λ j w. Owns o w.pairs → id ≡ j) s.views id l r (λ _. refl) (λ j w m b q. k.owned id j v w o at b (owns_other v.pairs o p) q) (λ q. absurd (cut_apart v.pairs o (k.differ id v at) p q)) j w b q)
              (λ i u n a p. each_split (λ j w. Owns o w.pairs → i ≡ j) s.views id l r (λ q. k.owned i id u v o a at p (owns_other v.pairs o q)) (λ j w m b q. k.owned i j u w o a b p q)
              (λ q. absurd (n (k.owned i id u v o a at p (owns_first v.pairs o q)))) j w b q)
              (λ p. each_split (λ j w. Owns o w.pairs → length s.views ≡ j) s.views id l r (λ q. absurd (cut_apart v.pairs o (k.differ id v at) q p)) (λ j w m b q. absurd (m (k.owned j id w v o b at q (owns_first v.pairs o p)))) (λ _. refl) j w b q)
              i u a p;
          of_lock = λ j u o a p. each_split (λ j u. Owns o u.pairs → In o owners) s.views id l r (λ p. k.of_lock id v o at (owns_other v.pairs o p)) (λ j u n a p. k.of_lock j u o a p) (λ p. k.of_lock id v o at (owns_first v.pairs o p)) j u a p;
          added = k.added;
          known = each_split (λ j u. Knows k.served k.now u) s.views id l r (follow_other v.pairs k.now all) (λ j u n a. k.known j u a) (follow_first v.pairs k.now all);
          place = ⊎_elim (λ (h : IsHome hist k.now s). inl (h.0, h.1, h.2, each_split (λ j u. u.turn ≡ None) s.views id l r refl (λ j u n a. h.3 j u a) refl))
              (λ (o : IsOut k.now s).
              let other : o.0 ≢ id = λ e. none-some k.now (sym idle ∙ (ap (λ (u : View E). u.turn) (same_view s.views id v o.1 at (subst (λ (j : ℕ). ViewAt s.views j o.1) e o.2)) ∙ o.3)) in
              inr (o.0, o.1, at_longer vs (r ∷ []) o.0 o.1 (set_else s.views id o.0 l other ∙ o.2), o.3, o.4, each_split (λ i u. i ≢ o.0 → u.turn ≡ None) s.views id l r (λ _. refl) (λ i u n a m. o.5 i u a m) (λ _. refl)))
              k.place;
        }

    -- an idle seat takes in the pairs of another idle one
    pub joins : (id : ℕ) (v : View E) (other : ℕ) (w : View E) → v.ticket ≡ None → v.turn ≡ None → w.ticket ≡ None → w.turn ≡ None
        → Joins (TicketRule hist owners opening) id v other w (view (v.pairs ++ w.pairs) None None) (view [] None None)
    joins id v other w free idle free' idle' s k at apart' there' =
        let b : View E = view (v.pairs ++ w.pairs) None None in
        let z : View E = view [] None None in
        let there : ViewAt s.views other w = sym (set_else s.views id other b apart') ∙ there' in
        let all = idle_follows s k id v at idle in
        let all' = idle_follows s k other w there idle' in
        let disjoint : (o : ℕ) → Owns o v.pairs → ¬ Owns o w.pairs = λ o p q. apart' (k.owned other id w v o there at q p) in
        let one : ticket_count v.ticket ≡ 0 = ap ticket_count free in let one' : ticket_count w.ticket ≡ 0 = ap ticket_count free' in
        let count = k.counted in let sum = tickets_set s.views id v b at in let sum' = tickets_set (set s.views id b) other w z there' in
        let few = k.few in let size = pair_count_set s.views id v b at in let size' = pair_count_set (set s.views id b) other w z there' in let long = length-append v.pairs w.pairs in record {
          now = k.now;
          drawn = k.drawn;
          served = k.served;
          words = k.words;
          short = k.short;
          few = omega arith;
          counted = omega arith;
          backed = each_join (λ j u. ticket_count u.ticket ≤ length u.pairs) s.views id other b z (omega arith) (omega arith) (λ j u n m a. k.backed j u a);
          in_use = each_join (λ j u. IsInUse u.ticket k.served k.drawn) s.views id other b z tt tt (λ j u n m a. k.in_use j u a);
          apart = λ i j u x t a c p q. each_join (λ i u. u.ticket ≡ Some t → i ≡ j) s.views id other b z (λ p. absurd (none-some t p)) (λ p. absurd (none-some t p))
              (λ i u n m a p. each_join (λ j x. x.ticket ≡ Some t → i ≡ j) s.views id other b z (λ q. absurd (none-some t q)) (λ q. absurd (none-some t q)) (λ j x n m c q. k.apart i j u x t a c p q) j x c q) i u a p;
          differ = each_join (λ j u. OwnersDiffer u.pairs) s.views id other b z (differ_both v.pairs w.pairs (k.differ id v at) (k.differ other w there) disjoint) tt (λ j u n m a. k.differ j u a);
          owned = λ i j u x o a c p q. each_join (λ i u. Owns o u.pairs → i ≡ j) s.views id other b z
              (λ p. each_join (λ j x. Owns o x.pairs → id ≡ j) s.views id other b z (λ _. refl) (λ q. absurd q)
              (λ j x n m c q. ⊎_elim (λ h. k.owned id j v x o at c h q) (λ h. absurd (m (sym (k.owned other j w x o there c h q)))) (owns_either v.pairs w.pairs o p)) j x c q)
              (λ p. absurd p)
              (λ i u n m a p. each_join (λ j x. Owns o x.pairs → i ≡ j) s.views id other b z
              (λ q. ⊎_elim (λ h. k.owned i id u v o a at p h) (λ h. absurd (m (k.owned i other u w o a there p h))) (owns_either v.pairs w.pairs o q)) (λ q. absurd q) (λ j x n m c q. k.owned i j u x o a c p q) j x c q)
              i u a p;
          of_lock = λ j u o a p. each_join (λ j u. Owns o u.pairs → In o owners) s.views id other b z (λ p. ⊎_elim (k.of_lock id v o at) (k.of_lock other w o there) (owns_either v.pairs w.pairs o p)) (λ p. absurd p) (λ j u n m a p. k.of_lock j u o a p) j u a p;
          added = k.added;
          known = each_join (λ j u. Knows k.served k.now u) s.views id other b z (follow_both v.pairs w.pairs k.now all all') tt (λ j u n m a. k.known j u a);
          place = ⊎_elim (λ (h : IsHome hist k.now s). inl (h.0, h.1, h.2, each_join (λ j u. u.turn ≡ None) s.views id other b z refl refl (λ j u n m a. h.3 j u a)))
              (λ (o : IsOut k.now s).
              let not_me : o.0 ≢ id = λ e. none-some k.now (sym idle ∙ (ap (λ (u : View E). u.turn) (same_view s.views id v o.1 at (subst (λ (j : ℕ). ViewAt s.views j o.1) e o.2)) ∙ o.3)) in
              let not_it : o.0 ≢ other = λ e. none-some k.now (sym idle' ∙ (ap (λ (u : View E). u.turn) (same_view s.views other w o.1 there (subst (λ (j : ℕ). ViewAt s.views j o.1) e o.2)) ∙ o.3)) in
              inr (o.0, o.1, set_else (set s.views id b) other o.0 z not_it ∙ (set_else s.views id o.0 b not_me ∙ o.2), o.3, o.4, each_join (λ i u. i ≢ o.0 → u.turn ≡ None) s.views id other b z (λ _. refl) (λ _. refl) (λ i u n m a h. o.5 i u a h)))
              k.place;
        }
    -- where an idle seat has every owner, the value is at home
