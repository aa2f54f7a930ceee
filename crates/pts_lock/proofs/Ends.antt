-- The rule of the tickets holds at the beginning, and what it says at the end.
use Rattle.std.proofs.Common.{◌≡◌, ◌⊎◌, inl, ⊎_elim, ℕ, ◌^◌, ◌<◌, ◌≤◌, List, [], ◌∷◌, length, Option, Some, None, refl, sym, ap, ◌∙◌, subst, arith, append-nil}
use mathlib.Core.Option.{some, some-injective, Option as Maybe}
use lib.ListN.{get_elem?}
use Rattle.atomic_table.specs.Table.{State, Me, Final, Seen, opening as first_state}
use Rattle.pts_lock.specs.declared.seat.View.{View}
use Rattle.pts_names.specs.Lists.{In, AllDiffer}
use Rattle.pts_lock.specs.Histories.{AddedBy}
use Rattle.pts_lock.specs.Views.{Owns, OwnersDiffer, EachSawItsOwn, opening_pairs, view}
use Rattle.pts_lock.specs.TicketRule.{ticket_count, IsInUse, KnowsAt, Knows, ViewAt, IsHome, IsOut, TicketRule}
use Rattle.pts_lock.proofs.Pairs.{none-some, some-same, same_view, opening_owns, opening_differ, opening_length, opening_follow, one_view, an_owner}

module _ {E : Type 0} where
  module _ {S : Type 0} (hist : S → List (ℕ × E)) (owners : List ℕ) (opening : List (ℕ × E)) where
    -- what a slot's home has
    abbrev Option' : Type 0 → Type 0
    Option' S = Maybe (Option S)

    abbrev St : Type 0
    St = State (Option S) (View E)

    abbrev Mine : Type 0
    Mine = Me (Option S) (View E)

    idle_follows : (s : St) (k : TicketRule hist owners opening s) (id : ℕ) (v : View E) → ViewAt s.views id v → v.turn ≡ None → EachSawItsOwn v.pairs k.now
    idle_follows s k id v at idle = subst (λ (h : Option (List (ℕ × E))). KnowsAt h v.pairs k.served v.ticket k.now) idle (k.known id v at)

    -- an idle seat hands its first pair to a new one
    -- where an idle seat has every owner, the value is at home
    pub last : (s : St) (k : TicketRule hist owners opening s) (id : ℕ) (v : View E) → ViewAt s.views id v → v.turn ≡ None → ((o : ℕ) → In o owners → Owns o v.pairs) → IsHome hist k.now s
    last s k id v at idle every = ⊎_elim (λ (h : IsHome hist k.now s). h)
        (λ (o : IsOut k.now s).
        let theirs : KnowsAt (Some k.now) o.1.pairs k.served o.1.ticket k.now = subst (λ (h : Option (List (ℕ × E))). KnowsAt h o.1.pairs k.served o.1.ticket k.now) o.3 (k.known o.0 o.1 o.2) in
        let some_pair : 1 ≤ length o.1.pairs = subst (λ (t : Option ℕ). ticket_count t ≤ length o.1.pairs) theirs.2 (k.backed o.0 o.1 o.2) in
        let got = an_owner o.1.pairs some_pair in
        let same : o.0 ≡ id = k.owned o.0 id o.1 v got.0 o.2 at got.1 (every got.0 (k.of_lock o.0 o.1 got.0 o.2 got.1)) in
        absurd (none-some k.now (sym idle ∙ (ap (λ (u : View E). u.turn) (same_view s.views id v o.1 at (subst (λ (j : ℕ). ViewAt s.views j o.1) same o.2)) ∙ o.3))))
        k.place

    -- what the last state says of the value, where an idle seat has every owner
    pub closes : (ws : List ℕ) (xs : List (Option S)) (id : ℕ) (v : View E) → v.turn ≡ None → ((o : ℕ) → In o owners → Owns o v.pairs) → Final (Seen (TicketRule hist owners opening) id v) ws xs
        → (x : S) × (get_elem? xs 0 ≡ some (Some x)) × EachSawItsOwn v.pairs (hist x) × AddedBy owners opening (hist x)
    closes ws xs id v idle every f =
        let s = f.0 in
        let k = f.1.0 in
        let at = f.1.1 in
        let home = last s k id v at idle every in (
          home.0,
          f.4 0 (Some home.0) (ap (λ (hs : List (Maybe (Option S))). get_elem? hs 0) home.1),
          subst (EachSawItsOwn v.pairs) (sym home.2) (idle_follows s k id v at idle),
          subst (AddedBy owners opening) (sym home.2) k.added,
        )

    -- the slot that was taken out has that value
    pub closes_with : (ws : List ℕ) (xs : List (Option S)) (id : ℕ) (v : View E) → v.turn ≡ None → ((o : ℕ) → In o owners → Owns o v.pairs) → Final (Seen (TicketRule hist owners opening) id v) ws xs
        → (got : Option S) → get_elem? xs 0 ≡ some got → (x : S) × (got ≡ Some x) × EachSawItsOwn v.pairs (hist x) × AddedBy owners opening (hist x)
    closes_with ws xs id v idle every f got at = let r = closes ws xs id v idle every f in (r.0, some-injective got (Some r.0) (sym at ∙ r.1), r.2, r.3)

    pub value_is : (P : S → Type 0) (x y : S) (got : Option S) → got ≡ Some x → got ≡ Some y → P x → P y
    value_is P x y got a b p = subst P (some-same x y (sym a ∙ b)) p

-- the lock at the start: one seat has every owner
pub opens : {E S : Type 0} (hist : S → List (ℕ × E)) (os : List ℕ) (x : S) (n : ℕ) → n ≡ length (hist x) → n < 2 ^ 64 → AllDiffer os → length os < 2 ^ 32
    → TicketRule hist os (hist x) (first_state (n ∷ 0 ∷ 0 ∷ []) (Some x ∷ []) (view (opening_pairs (hist x) os) None None))
opens {E} {S} hist os x n long fits differ few =
    let v : View E = view (opening_pairs (hist x) os) None None in
    let size = opening_length (hist x) os in record {
      now = hist x;
      drawn = 0;
      served = 0;
      words = ap (λ (z : ℕ). z ∷ 0 ∷ 0 ∷ []) long;
      short = subst (λ (z : ℕ). z < 2 ^ 64) long fits;
      few = omega arith;
      counted = refl;
      backed = one_view (λ j u. ticket_count u.ticket ≤ length u.pairs) v (omega arith);
      in_use = one_view (λ j u. IsInUse u.ticket 0 0) v tt;
      apart = λ i j u w t a b p q. one_view (λ i _. i ≡ j) v (one_view (λ j _. 0 ≡ j) v refl j w b) i u a;
      differ = one_view (λ j u. OwnersDiffer u.pairs) v (opening_differ (hist x) os differ);
      owned = λ i j u w o a b p q. one_view (λ i _. i ≡ j) v (one_view (λ j _. 0 ≡ j) v refl j w b) i u a;
      of_lock = λ j u o a p. one_view (λ j u. Owns o u.pairs → In o os) v (opening_owns (hist x) os o) j u a p;
      added = ([], append-nil (hist x), tt);
      known = one_view (λ j u. Knows 0 (hist x) u) v (opening_follow (hist x) os);
      place = inl (x, refl, refl, one_view (λ j u. u.turn ≡ None) v refl);
    }
