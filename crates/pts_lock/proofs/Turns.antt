-- The steps of a turn keep the rule of the tickets.
use Rattle.std.proofs.Common.{◌≡◌, ◌≢◌, ◌⊎◌, inl, inr, ℕ, ◌+◌, ◌%◌, ◌^◌, ◌<◌, ◌≤◌, List, [], ◌∷◌, ◌++◌, length, get_or, set, Option, Some, None, refl, sym, ap, ◌∙◌, subst, arith, append_assoc, length-append}
use mathlib.Core.Option.{some, none, Option as Maybe}
use mathlib.Core.Logic.{dite}
use Rattle.std.specs.List.{AllByRecursion}
use native.Mathlib.Decide.{ℕ_discrete}
use lib.ListN.{get_elem?}
use lib.Seq.{set-get_or}
use Rattle.std.proofs.Math.Nat.{mod-add-mod}
use Rattle.atomic_table.specs.Table.{State, Me, Act, keeps, takes, gives, step, stepped, carried_after, Valid, Allows}
use Rattle.atomic_table.proofs.Lists.{set_again, set_here, set_else, one_turn}
use Rattle.pts_lock.specs.declared.seat.View.{View}
use Rattle.pts_names.specs.Lists.{In}
use Rattle.pts_lock.specs.Histories.{AddedBy}
use Rattle.pts_lock.specs.Views.{Owns, OwnersDiffer, EachSawItsOwn, with_seen, GrewTo, HasLength, view, view_with}
use Rattle.pts_lock.specs.TicketRule.{ticket_count, IsInUse, KnowsAt, Knows, ViewAt, IsHome, IsOut, TicketRule}
use Rattle.pts_lock.specs.Steps.{Draws, Loads, Raises, Serves}
use Rattle.pts_lock.proofs.Pairs.{none-some, some-same, in_use_more, served_next, slot-same, tickets_most, pair_count_set, with_seen_length, with_seen_owns, with_seen_differ, with_seen_follow, begin_each, begin_more, tickets_set, each_set, same_view, at_inside}

module _ {E : Type 0} where
  module _ {S : Type 0} (hist : S → List (ℕ × E)) (owners : List ℕ) (opening : List (ℕ × E)) where
    -- what a slot's home has
    abbrev Option' : Type 0 → Type 0
    Option' S = Maybe (Option S)

    abbrev St : Type 0
    St = State (Option S) (View E)

    abbrev Mine : Type 0
    Mine = Me (Option S) (View E)

    none_holds : (me : View E) (served : ℕ) (now : List (ℕ × E)) (t : Option ℕ) → me.turn ≡ None → Knows served now me → Knows served now (view_with me t None)
    none_holds me served now t idle k = subst (λ (h : Option (List (ℕ × E))). KnowsAt h me.pairs served me.ticket now) idle k

    -- a seat that does not hold the value changes its view, and still does not
    place_stays : (now : List (ℕ × E)) (s : St) (ws : List ℕ) (id : ℕ) (me w : View E) → ViewAt s.views id me → me.turn ≡ None → w.turn ≡ None
        → IsHome hist now s ⊎ IsOut now s → let s' : St = record { words = ws; homes = s.homes; views = set s.views id w } in IsHome hist now s' ⊎ IsOut now s'
    place_stays now s ws id me w at free still (inl h) = inl (h.0, h.1, h.2, each_set (λ j v. v.turn ≡ None) s.views id w still (λ j v _ e. h.3 j v e))
    place_stays now s ws id me w at free still (inr o) =
        let other : o.0 ≢ id = λ e. none-some now (sym free ∙ (ap (λ (v : View E). v.turn) (same_view s.views id me o.1 at (subst (λ (j : ℕ). ViewAt s.views j o.1) e o.2)) ∙ o.3)) in
        inr (o.0, o.1, set_else s.views id o.0 w other ∙ o.2, o.3, o.4, each_set (λ i v. i ≢ o.0 → v.turn ≡ None) s.views id w (λ _. still) (λ i v _ e n. o.5 i v e n))

    -- two seats with one ticket are one, where the seat id took a new view
    apart_after : (s : St) (k : TicketRule hist owners opening s) (id : ℕ) (w : View E) → ((j : ℕ) (v : View E) (t : ℕ) → j ≢ id → ViewAt s.views j v → v.ticket ≡ Some t → w.ticket ≢ Some t)
        → (i j : ℕ) (v u : View E) (t : ℕ) → ViewAt (set s.views id w) i v → ViewAt (set s.views id w) j u → v.ticket ≡ Some t → u.ticket ≡ Some t → i ≡ j
    apart_after s k id w new i j v u t a b p q =
        each_set (λ i v. v.ticket ≡ Some t → i ≡ j) s.views id w
        (λ p. each_set (λ j u. u.ticket ≡ Some t → id ≡ j) s.views id w (λ _. refl) (λ j u n b q. absurd (new j u t n b q p)) j u b q)
        (λ i v m a p. each_set (λ j u. u.ticket ≡ Some t → i ≡ j) s.views id w (λ q. absurd (new i v t m a p q)) (λ j u n b q. k.apart i j v u t a b p q) j u b q)
        i v a p

    owned_after : (s : St) (k : TicketRule hist owners opening s) (id : ℕ) (me w : View E) → ViewAt s.views id me → ((o : ℕ) → Owns o w.pairs → Owns o me.pairs)
        → (i j : ℕ) (v u : View E) (o : ℕ) → ViewAt (set s.views id w) i v → ViewAt (set s.views id w) j u → Owns o v.pairs → Owns o u.pairs → i ≡ j
    owned_after s k id me w at less i j v u o a b p q =
        each_set (λ i v. Owns o v.pairs → i ≡ j) s.views id w
        (λ p. each_set (λ j u. Owns o u.pairs → id ≡ j) s.views id w (λ _. refl) (λ j u n b q. k.owned id j me u o at b (less o p) q) j u b q)
        (λ i v m a p. each_set (λ j u. Owns o u.pairs → i ≡ j) s.views id w (λ q. k.owned i id v me o a at p (less o q)) (λ j u n b q. k.owned i j v u o a b p q) j u b q)
        i v a p

    given_after : (s : St) (k : TicketRule hist owners opening s) (id : ℕ) (me w : View E) → ViewAt s.views id me → ((o : ℕ) → Owns o w.pairs → Owns o me.pairs) → (j : ℕ) (v : View E) (o : ℕ) → ViewAt (set s.views id w) j v → Owns o v.pairs → In o owners
    given_after s k id me w at less j v o b p = each_set (λ j v. Owns o v.pairs → In o owners) s.views id w (λ p. k.of_lock id me o at (less o p)) (λ j v n b p. k.of_lock j v o b p) j v b p

    differ_after : (s : St) (k : TicketRule hist owners opening s) (id : ℕ) (w : View E) → OwnersDiffer w.pairs → (j : ℕ) (v : View E) → ViewAt (set s.views id w) j v → OwnersDiffer v.pairs
    differ_after s k id w d = each_set (λ j v. OwnersDiffer v.pairs) s.views id w d (λ j v n b. k.differ j v b)

    backed_after : (s : St) (k : TicketRule hist owners opening s) (id : ℕ) (w : View E) → ticket_count w.ticket ≤ length w.pairs → (j : ℕ) (v : View E) → ViewAt (set s.views id w) j v → ticket_count v.ticket ≤ length v.pairs
    backed_after s k id w d = each_set (λ j v. ticket_count v.ticket ≤ length v.pairs) s.views id w d (λ j v n b. k.backed j v b)

    -- a ticket is drawn
    pub draws : (slots id : ℕ) (me : Mine) → me.0.ticket ≡ None → me.0.turn ≡ None → 0 < length me.0.pairs → Allows (TicketRule hist owners opening) slots id me 1 (λ n. (n + 1) % 2 ^ 64) (Draws hist (step slots 1 1 0 none) me)
    draws slots id me free idle some_pair s k _ at _ =
        let t : ℕ = k.drawn in
        let w : View E = view_with me.0 (Some t) None in
        let found : get_or s.words 1 0 ≡ t % 2 ^ 64 = ap (λ (ws : List ℕ). get_or ws 1 0) k.words in
        let n : ℕ = (get_or s.words 1 0 + 1) % 2 ^ 64 in
        let one : ticket_count me.0.ticket ≡ 0 = ap ticket_count free in
        let most = tickets_most s.views k.backed in
        let sum = tickets_set s.views id me.0 w at in
        let count = k.counted in (
          w,
          keeps,
          tt,
          record {
            now = k.now;
            drawn = t + 1;
            served = k.served;
            words = ap (λ (ws : List ℕ). set ws 1 n) k.words ∙ ap (λ (x : ℕ). length k.now ∷ x ∷ (k.served % 2 ^ 64) ∷ []) (ap (λ (x : ℕ). (x + 1) % 2 ^ 64) found ∙ mod-add-mod t (2 ^ 64) 1);
            short = k.short;
            few = (let f = k.few in let e = pair_count_set s.views id me.0 w at in omega arith);
            backed = backed_after s k id w (omega arith);
            counted = omega arith;
            in_use = each_set (λ j v. IsInUse v.ticket k.served (t + 1)) s.views id w (omega arith, omega arith) (λ j v _ e. in_use_more v.ticket k.served t (k.in_use j v e));
            apart = apart_after s k id w (λ j v u _ e p q. let u' : t ≡ u = some-same t u q in let below = subst (λ (x : Option ℕ). IsInUse x k.served t) p (k.in_use j v e) in let l = below.1 in absurd (omega arith));
            differ = differ_after s k id w (k.differ id me.0 at);
            owned = owned_after s k id me.0 w at (λ o h. h);
            of_lock = given_after s k id me.0 w at (λ o h. h);
            added = k.added;
            known = each_set (λ j v. Knows k.served k.now v) s.views id w (none_holds me.0 k.served k.now (Some t) idle (k.known id me.0 at)) (λ j v _ e. k.known j v e);
            place = place_stays k.now s (set s.words 1 n) id me.0 w at idle refl k.place;
          },
          (t, found, refl),
        )

    -- a load that changes nothing
    unmoved : (s : St) (k : TicketRule hist owners opening s) (i id : ℕ) (me : Mine) → ViewAt s.views id me.0 → TicketRule hist owners opening (stepped s i (get_or s.words i 0) id me.1 me.0 keeps)
    unmoved s k i id me at =
        subst (λ (ws : List ℕ). TicketRule hist owners opening record { words = ws; homes = s.homes; views = set s.views id me.0 }) (sym (set-get_or s.words i 0))
        (subst (λ (vs : List (View E)). TicketRule hist owners opening record { words = s.words; homes = s.homes; views = vs }) (sym (set_again s.views id me.0 at)) k)

    -- while the ticket of an idle seat is served, the value is at home
    at_home : (s : St) (k : TicketRule hist owners opening s) (id : ℕ) (me : View E) → ViewAt s.views id me → me.turn ≡ None → me.ticket ≡ Some k.served → IsHome hist k.now s ⊎ IsOut k.now s → IsHome hist k.now s
    at_home s k id me at idle mine (inl h) = h
    at_home s k id me at idle mine (inr o) =
        let theirs : KnowsAt (Some k.now) o.1.pairs k.served o.1.ticket k.now = subst (λ (h : Option (List (ℕ × E))). KnowsAt h o.1.pairs k.served o.1.ticket k.now) o.3 (k.known o.0 o.1 o.2) in
        let same : o.0 ≡ id = k.apart o.0 id o.1 me k.served o.2 at theirs.2 mine in
        absurd (none-some k.now (sym idle ∙ (ap (λ (v : View E). v.turn) (same_view s.views id me o.1 at (subst (λ (j : ℕ). ViewAt s.views j o.1) same o.2)) ∙ o.3)))

    -- the seat takes the value
    takes_it : (slots id : ℕ) (me : Mine) (t : ℕ) → me.0.ticket ≡ Some t → me.0.turn ≡ None → me.1 ≡ [] → (s : St) (k : TicketRule hist owners opening s) → ViewAt s.views id me.0 → t ≡ k.served → IsHome hist k.now s
        → (w : View E) × (a : Act (Option S)) × Valid s.homes me.1 a × TicketRule hist owners opening (stepped s 2 (get_or s.words 2 0) id me.1 w a)
        × ((x : S) × ◌≡◌ {A = Mine} (w, carried_after me.1 a) (view_with me.0 (Some t) (Some (hist x)), (0, Some x) ∷ []) × EachSawItsOwn me.0.pairs (hist x))
    takes_it slots id me t mine idle out s k at now h =
        let x : S = h.0 in
        let w : View E = view_with me.0 (Some t) (Some k.now) in
        let follows : EachSawItsOwn me.0.pairs k.now = subst (λ (z : Option (List (ℕ × E))). KnowsAt z me.0.pairs k.served me.0.ticket k.now) idle (k.known id me.0 at) in
        let inside : id < length s.views = at_inside s.views id me.0 at in
        let one : ticket_count me.0.ticket ≡ 1 = ap ticket_count mine in
        let sum = tickets_set s.views id me.0 w at in
        let count = k.counted in (
          w,
          takes 0 (Some x),
          ap (λ (hs : List (Option' S)). get_elem? hs 0) h.1,
          record {
            now = k.now;
            drawn = k.drawn;
            served = k.served;
            words = set-get_or s.words 2 0 ∙ k.words;
            short = k.short;
            few = (let f = k.few in let e = pair_count_set s.views id me.0 w at in omega arith);
            backed = backed_after s k id w (subst (λ (z : Option ℕ). ticket_count z ≤ length me.0.pairs) mine (k.backed id me.0 at));
            counted = omega arith;
            in_use = each_set (λ j v. IsInUse v.ticket k.served k.drawn) s.views id w (subst (λ (z : Option ℕ). IsInUse z k.served k.drawn) mine (k.in_use id me.0 at)) (λ j v _ e. k.in_use j v e);
            apart = apart_after s k id w (λ j v u n e p q. n (k.apart j id v me.0 u e at p (mine ∙ q)));
            differ = differ_after s k id w (k.differ id me.0 at);
            owned = owned_after s k id me.0 w at (λ o h. h);
            of_lock = given_after s k id me.0 w at (λ o h. h);
            added = k.added;
            known = each_set (λ j v. Knows k.served k.now v) s.views id w (refl, begin_each me.0.pairs k.now follows, ap Some now) (λ j v _ e. k.known j v e);
            place = inr (id, w, set_here s.views id w inside, refl, ap (λ (hs : List (Option' S)). set hs 0 none) h.1, each_set (λ i v. i ≢ id → v.turn ≡ None) s.views id w (λ n. absurd (n refl)) (λ i v _ e _. h.3 i v e));
          },
          (x, rw (out, h.2) refl, subst (λ (l : List (ℕ × E)). EachSawItsOwn me.0.pairs l) (sym h.2) follows),
        )

    -- the word that says which ticket is served is read
    pub loads : (slots id : ℕ) (me : Mine) (t : ℕ) → me.0.ticket ≡ Some t → me.0.turn ≡ None → me.1 ≡ [] → Allows (TicketRule hist owners opening) slots id me 2 (λ n. n) (Loads hist (step slots 2 0 0 none) me)
    loads slots id me t mine idle out s k _ at _ =
        let found : get_or s.words 2 0 ≡ k.served % 2 ^ 64 = ap (λ (ws : List ℕ). get_or ws 2 0) k.words in
        dite (ℕ_discrete (get_or s.words 2 0) (t % 2 ^ 64))
        (λ hit.
        let used = subst (λ (z : Option ℕ). IsInUse z k.served k.drawn) mine (k.in_use id me.0 at) in
        let count = k.counted in
        let most = tickets_most s.views k.backed in
        let few = k.few in
        let last = used.1 in
        let now : k.served ≡ t = one_turn k.served t (2 ^ 64) used.0 (omega arith) (sym found ∙ hit) in
        let home = at_home s k id me.0 at idle (mine ∙ ap Some (sym now)) k.place in
        let r = takes_it slots id me t mine idle out s k at (sym now) home in (
          r.0,
          r.1,
          r.2,
          r.3,
          λ t' is. subst (λ (u : ℕ).
              (get_or s.words 2 0 ≡ u % 2 ^ 64 → (x : S) × ◌≡◌ {A = Mine} (r.0, carried_after me.1 r.1) (view_with me.0 (Some u) (Some (hist x)), (0, Some x) ∷ []) × EachSawItsOwn me.0.pairs (hist x))
              × (get_or s.words 2 0 ≢ u % 2 ^ 64 → ◌≡◌ {A = Mine} (r.0, carried_after me.1 r.1) me))
              (some-same t t' (sym mine ∙ is)) ((λ _. r.4), λ no. absurd (no hit)),
        ))
        (λ miss. (
          me.0,
          keeps,
          tt,
          unmoved s k 2 id me at,
          λ t' is. ((λ hit. absurd (miss (hit ∙ ap (λ (u : ℕ). u % 2 ^ 64) (sym (some-same t t' (sym mine ∙ is)))))), λ _. refl),
        ))

    -- where a seat has the value, no other seat has it
    holder : (s : St) (k : TicketRule hist owners opening s) (id : ℕ) (me : View E) (h : List (ℕ × E)) → ViewAt s.views id me → me.turn ≡ Some h → IsHome hist k.now s ⊎ IsOut k.now s
        → (s.homes ≡ none ∷ []) × ((i : ℕ) (w : View E) → ViewAt s.views i w → i ≢ id → w.turn ≡ None)
    holder s k id me h at has (inl home) = absurd (none-some h (sym (home.3 id me at) ∙ has))
    holder s k id me h at has (inr o) = dite (ℕ_discrete o.0 id)
        (λ same. (o.4, λ i w e n. o.5 i w e (λ b. n (b ∙ same))))
        (λ other. absurd (none-some h (sym (o.5 id me at (λ b. other (sym b))) ∙ has)))

    theirs_grow : (ps : List (ℕ × List (ℕ × E))) (other : ℕ) (mine : List (ℕ × E)) → ¬ Owns other ps → AllByRecursion (λ e. Owns e.0 ps) mine → AllByRecursion (λ e. e.0 ≢ other) mine
    theirs_grow ps other [] n a = tt
    theirs_grow ps other (e ∷ es) n a = ((λ b. n (subst (λ (o : ℕ). Owns o ps) b a.0)), theirs_grow ps other es n a.1)

    both_parts : (P : ℕ × E → Type 0) (xs ys : List (ℕ × E)) → AllByRecursion P xs → AllByRecursion P ys → AllByRecursion P (xs ++ ys)
    both_parts P [] ys a b = b
    both_parts P (x ∷ xs) ys a b = (a.0, both_parts P xs ys a.1 b)

    follow_more : (ps : List (ℕ × List (ℕ × E))) (qs : List (ℕ × List (ℕ × E))) (now next mine : List (ℕ × E)) → ((o : ℕ) → Owns o qs → ¬ Owns o ps) → now ++ mine ≡ next → AllByRecursion (λ e. Owns e.0 ps) mine → EachSawItsOwn qs now → EachSawItsOwn qs next
    follow_more ps [] now next mine n e a f = tt
    follow_more ps (q ∷ qs) now next mine n e a f =
        ((f.0.0 ++ mine, sym (append_assoc q.1 f.0.0 mine) ∙ (ap (λ l. l ++ mine) f.0.1 ∙ e), both_parts (λ x. x.0 ≢ q.0) f.0.0 mine f.0.2 (theirs_grow ps q.0 mine (n q.0 (inl refl)) a)), follow_more ps qs now next mine (λ o h. n o (inr h)) e a f.1)

    all_given : (ps : List (ℕ × List (ℕ × E))) (mine : List (ℕ × E)) → ((o : ℕ) → Owns o ps → In o owners) → AllByRecursion (λ e. Owns e.0 ps) mine → AllByRecursion (λ e. In e.0 owners) mine
    all_given ps [] g a = tt
    all_given ps (e ∷ es) g a = (g e.0 a.0, all_given ps es g a.1)

    grown_more : (ps : List (ℕ × List (ℕ × E))) (now next mine : List (ℕ × E)) → ((o : ℕ) → Owns o ps → In o owners) → now ++ mine ≡ next → AllByRecursion (λ e. Owns e.0 ps) mine → AddedBy owners opening now → AddedBy owners opening next
    grown_more ps now next mine g e a r = (r.0 ++ mine, sym (append_assoc opening r.0 mine) ∙ (ap (λ l. l ++ mine) r.1 ∙ e), both_parts (λ x. In x.0 owners) r.0 mine r.2 (all_given ps mine g a))

    known_idle : (served served' : ℕ) (now next : List (ℕ × E)) (v : View E) → v.turn ≡ None → (EachSawItsOwn v.pairs now → EachSawItsOwn v.pairs next) → Knows served now v → Knows served' next v
    known_idle served served' now next v idle more k =
        subst (λ (h : Option (List (ℕ × E))). KnowsAt h v.pairs served' v.ticket next) (sym idle)
        (more (subst (λ (h : Option (List (ℕ × E))). KnowsAt h v.pairs served v.ticket now) idle k))

    -- the length is raised to that of the value in the seat's slot
    pub raises : (slots id : ℕ) (me : Mine) (x : S) (h : List (ℕ × E)) (n : ℕ) → me.1 ≡ (0, Some x) ∷ [] → me.0.turn ≡ Some h → GrewTo (Some h) me.0.pairs (hist x) → n ≡ length (hist x) → n < 2 ^ 64
        → Allows (TicketRule hist owners opening) slots id me 0 (λ _. n) (λ _. Raises hist (step slots 0 n 0 none) me n)
    raises slots id me x h n out has grew long fits s k _ at _ =
        let w : View E = view_with me.0 me.0.ticket (Some (hist x)) in
        let mine = subst (λ (z : Option (List (ℕ × E))). KnowsAt z me.0.pairs k.served me.0.ticket k.now) has (k.known id me.0 at) in
        let alone = holder s k id me.0 h at has k.place in
        let next : k.now ++ grew.0 ≡ hist x = ap (λ l. l ++ grew.0) (sym mine.0) ∙ grew.1 in
        let sum = tickets_set s.views id me.0 w at in
        let count = k.counted in (
          w,
          keeps,
          tt,
          record {
            now = hist x;
            drawn = k.drawn;
            served = k.served;
            words = ap (λ (ws : List ℕ). set ws 0 n) k.words ∙ ap (λ (z : ℕ). z ∷ (k.drawn % 2 ^ 64) ∷ (k.served % 2 ^ 64) ∷ []) long;
            short = subst (λ (z : ℕ). z < 2 ^ 64) long fits;
            few = (let f = k.few in let e = pair_count_set s.views id me.0 w at in omega arith);
            backed = backed_after s k id w (k.backed id me.0 at);
            counted = omega arith;
            in_use = each_set (λ j v. IsInUse v.ticket k.served k.drawn) s.views id w (k.in_use id me.0 at) (λ j v _ e. k.in_use j v e);
            apart = apart_after s k id w (λ j v u d e p q. d (k.apart j id v me.0 u e at p q));
            differ = differ_after s k id w (k.differ id me.0 at);
            owned = owned_after s k id me.0 w at (λ o h. h);
            of_lock = given_after s k id me.0 w at (λ o h. h);
            added = grown_more me.0.pairs k.now (hist x) grew.0 (λ o h. k.of_lock id me.0 o at h) next grew.2 k.added;
            known = each_set (λ j v. Knows k.served (hist x) v) s.views id w
                (refl, begin_more me.0.pairs k.now (hist x) grew.0 next mine.1, mine.2)
                (λ j v d e. known_idle k.served k.served k.now (hist x) v (alone.1 j v e d) (follow_more me.0.pairs v.pairs k.now (hist x) grew.0 (λ o p q. d (k.owned j id v me.0 o e at p q)) next grew.2) (k.known j v e));
            place = inr (id, w, set_here s.views id w (at_inside s.views id me.0 at), refl, alone.0, each_set (λ i v. i ≢ id → v.turn ≡ None) s.views id w (λ d. absurd (d refl)) (λ i v d e _. alone.1 i v e d));
          },
          λ y is. ap (λ (z : S). (view_with me.0 me.0.ticket (Some (hist z)), me.1)) (slot-same x y (sym out ∙ is)),
        )

    -- the value goes home, and the next ticket is served
    pub serves : (slots id : ℕ) (me : Mine) (x : S) → me.1 ≡ (0, Some x) ∷ [] → me.0.turn ≡ Some (hist x) → Allows (TicketRule hist owners opening) slots id me 2 (λ n. (n + 1) % 2 ^ 64) (Serves hist (step slots 2 1 0 none) me)
    serves slots id me x out has s k _ at _ =
        let w : View E = view (with_seen (hist x) me.0.pairs) None None in
        let mine = subst (λ (z : Option (List (ℕ × E))). KnowsAt z me.0.pairs k.served me.0.ticket k.now) has (k.known id me.0 at) in
        let alone = holder s k id me.0 (hist x) at has k.place in
        let found : get_or s.words 2 0 ≡ k.served % 2 ^ 64 = ap (λ (ws : List ℕ). get_or ws 2 0) k.words in
        let n : ℕ = (get_or s.words 2 0 + 1) % 2 ^ 64 in
        let one : ticket_count me.0.ticket ≡ 1 = ap ticket_count mine.2 in
        let sum = tickets_set s.views id me.0 w at in
        let count = k.counted in (
          w,
          gives,
          tt,
          record {
            now = k.now;
            drawn = k.drawn;
            served = k.served + 1;
            words = ap (λ (ws : List ℕ). set ws 2 n) k.words ∙ ap (λ (z : ℕ). length k.now ∷ (k.drawn % 2 ^ 64) ∷ z ∷ []) (ap (λ (z : ℕ). (z + 1) % 2 ^ 64) found ∙ mod-add-mod k.served (2 ^ 64) 1);
            short = k.short;
            few = (let f = k.few in let e = pair_count_set s.views id me.0 w at in let c = with_seen_length (hist x) me.0.pairs in omega arith);
            backed = backed_after s k id w (omega arith);
            counted = omega arith;
            in_use = each_set (λ j v. IsInUse v.ticket (k.served + 1) k.drawn) s.views id w tt (λ j v d e. served_next v.ticket k.served k.drawn (λ b. d (k.apart j id v me.0 k.served e at b mine.2)) (k.in_use j v e));
            apart = apart_after s k id w (λ j v u d e p q. absurd (none-some u q));
            differ = differ_after s k id w (with_seen_differ (hist x) me.0.pairs (k.differ id me.0 at));
            owned = owned_after s k id me.0 w at (with_seen_owns (hist x) me.0.pairs);
            of_lock = given_after s k id me.0 w at (with_seen_owns (hist x) me.0.pairs);
            added = k.added;
            known = each_set (λ j v. Knows (k.served + 1) k.now v) s.views id w (subst (EachSawItsOwn (with_seen (hist x) me.0.pairs)) mine.0 (with_seen_follow (hist x) me.0.pairs))
                (λ j v d e. known_idle k.served (k.served + 1) k.now k.now v (alone.1 j v e d) (λ f. f) (k.known j v e));
            place = inl (x, rw out (ap (λ (hs : List (Option' S)). set hs 0 (some (Some x))) alone.0), mine.0, each_set (λ j v. v.turn ≡ None) s.views id w refl (λ j v d e. alone.1 j v e d));
          },
          λ y is. rw out (ap (λ (z : S). (view (with_seen (hist z) me.0.pairs) None None, [])) (slot-same x y (sym out ∙ is))),
        )

    -- the same by the entries that were gained
    raises_by : (slots id : ℕ) (me : Mine) (x : S) (h : List (ℕ × E)) (g n : ℕ) → me.1 ≡ (0, Some x) ∷ [] → me.0.turn ≡ Some h → GrewTo (Some h) me.0.pairs (hist x) → n ≡ length (hist x) → n < 2 ^ 64 → length h + g ≡ n
        → Allows (TicketRule hist owners opening) slots id me 0 (λ m. (m + g) % 2 ^ 64) (Raises hist (step slots 0 g 0 none) me)
    raises_by slots id me x h g n out has grew long fits gained s k home at below =
        let mine = subst (λ (z : Option (List (ℕ × E))). KnowsAt z me.0.pairs k.served me.0.ticket k.now) has (k.known id me.0 at) in
        let found : get_or s.words 0 0 ≡ length h = ap (λ (ws : List ℕ). get_or ws 0 0) k.words ∙ ap length (sym mine.0) in
        let sum : (get_or s.words 0 0 + g) % 2 ^ 64 ≡ n = omega arith in
        let r = raises slots id me x h n out has grew long fits s k home at below in
        (r.0, r.1, r.2, subst (λ (z : ℕ). TicketRule hist owners opening (stepped s 0 z id me.1 r.0 r.1)) (sym sum) r.3, r.4)

    pub raises_by_at : (slots id : ℕ) (me : Mine) (x : S) (g n before : ℕ) (held : Option (List (ℕ × E))) → me.0.turn ≡ held → GrewTo held me.0.pairs (hist x) → me.1 ≡ (0, Some x) ∷ [] → n ≡ length (hist x) → n < 2 ^ 64
        → HasLength held before → before + g ≡ n → Allows (TicketRule hist owners opening) slots id me 0 (λ m. (m + g) % 2 ^ 64) (Raises hist (step slots 0 g 0 none) me)
    raises_by_at slots id me x g n before None is grew out long fits taken gained = absurd grew
    raises_by_at slots id me x g n before (Some h) is grew out long fits taken gained = raises_by slots id me x h g n out is grew long fits (ap (λ (z : ℕ). z + g) (sym taken) ∙ gained)

-- a history that grew is no shorter
pub grew_longer : {E : Type 0} (held : Option (List (ℕ × E))) (pairs : List (ℕ × List (ℕ × E))) (now : List (ℕ × E)) (before : ℕ) → GrewTo held pairs now → HasLength held before → before ≤ length now
grew_longer None pairs now before grew taken = absurd grew
grew_longer (Some h) pairs now before grew taken = let e = ap length grew.1 in let t : before ≡ length h = taken in omega (arith, length-append h grew.0)
