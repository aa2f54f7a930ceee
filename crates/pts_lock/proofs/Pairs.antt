-- Views of seats and their pairs, one by one and in the list of all.
use Rattle.std.proofs.Common.{◌≡◌, ◌≢◌, ◌⊎◌, inl, inr, ⊎_elim, ℕ, zero, suc, ◌+◌, ◌<◌, ◌≤◌, List, [], ◌∷◌, ◌++◌, length, set, Option, Some, None, refl, sym, ap, ◌∙◌, subst, arith, length-set, append-nil, append_assoc}
use mathlib.Core.Option.{some-injective, some-ne-none}
use Rattle.atomic_table.proofs.Lists.{at_set}
use Rattle.pts_lock.specs.declared.seat.View.{View}
use Rattle.pts_names.specs.Lists.{In, AllDiffer}
use Rattle.pts_lock.specs.Views.{Owns, OwnersDiffer, EachSawItsOwn, BeginsWithEach, opening_pairs, with_seen, first_pair, other_pairs, view}
use Rattle.pts_lock.specs.TicketRule.{ticket_count, IsInUse, tickets, pair_count, ViewAt}

pub none-some : {A : Type 0} (a : A) → ¬ (None ≡ Some a)
none-some a e = cc

pub some-same : {A : Type 0} (a b : A) → Some a ≡ Some b → a ≡ b
some-same a b e = cc

pub in_use_more : (t : Option ℕ) (served drawn : ℕ) → IsInUse t served drawn → IsInUse t served (drawn + 1)
in_use_more None served drawn h = tt
in_use_more (Some t) served drawn h = let l = h.1 in (h.0, omega arith)

pub one_most : (t : Option ℕ) → ticket_count t ≤ 1
one_most None = omega arith
one_most (Some t) = omega arith

pub served_next : (t : Option ℕ) (served drawn : ℕ) → t ≢ Some served → IsInUse t served drawn → IsInUse t (served + 1) drawn
served_next None served drawn n h = tt
served_next (Some t) served drawn n h = let l = h.0 in let r = h.1 in let d : t ≢ served = λ e. n (ap Some e) in (omega arith, r)

pub or_else : {S : Type 0} → S → Option S → S
or_else d None = d
or_else d (Some x) = x

pub value_in : {S : Type 0} → S → List (ℕ × Option S) → S
value_in d [] = d
value_in d (x ∷ xs) = or_else d x.1

pub slot-same : {S : Type 0} (x y : S) → ◌≡◌ {A = List (ℕ × Option S)} ((0, Some x) ∷ []) ((0, Some y) ∷ []) → x ≡ y
unfolding or_else value_in
slot-same x y e = ap (value_in x) e

module _ {E : Type 0} where
  pub tickets_most : (vs : List (View E)) → ((j : ℕ) (v : View E) → ViewAt vs j v → ticket_count v.ticket ≤ length v.pairs) → tickets vs ≤ pair_count vs
  tickets_most [] backed = omega arith
  tickets_most (v ∷ vs) backed = let a = backed 0 v refl in let b = tickets_most vs (λ j w at. backed (suc j) w at) in omega arith

  pub pair_count_set : (vs : List (View E)) (i : ℕ) (v w : View E) → ViewAt vs i v → pair_count (set vs i w) + length v.pairs ≡ pair_count vs + length w.pairs
  pair_count_set [] i v w at = absurd (some-ne-none v (sym at))
  pair_count_set (x ∷ xs) zero v w at = let e = ap (λ (z : View E). length z.pairs) (some-injective x v at) in omega arith
  pair_count_set (x ∷ xs) (suc i) v w at = let e = pair_count_set xs i v w at in omega arith

  pub with_seen_length : (now : List (ℕ × E)) (ps : List (ℕ × List (ℕ × E))) → length (with_seen now ps) ≡ length ps
  with_seen_length now [] = refl
  with_seen_length now (p ∷ ps) = ap suc (with_seen_length now ps)

  pub with_seen_owns : (now : List (ℕ × E)) (ps : List (ℕ × List (ℕ × E))) (o : ℕ) → Owns o (with_seen now ps) → Owns o ps
  with_seen_owns now [] o h = h
  with_seen_owns now (p ∷ ps) o (inl h) = inl h
  with_seen_owns now (p ∷ ps) o (inr h) = inr (with_seen_owns now ps o h)

  pub with_seen_differ : (now : List (ℕ × E)) (ps : List (ℕ × List (ℕ × E))) → OwnersDiffer ps → OwnersDiffer (with_seen now ps)
  with_seen_differ now [] d = tt
  with_seen_differ now (p ∷ ps) d = ((λ h. d.0 (with_seen_owns now ps p.0 h)), with_seen_differ now ps d.1)

  pub with_seen_follow : (now : List (ℕ × E)) (ps : List (ℕ × List (ℕ × E))) → EachSawItsOwn (with_seen now ps) now
  with_seen_follow now [] = tt
  with_seen_follow now (p ∷ ps) = (([], append-nil now, tt), with_seen_follow now ps)

  pub begin_each : (ps : List (ℕ × List (ℕ × E))) (now : List (ℕ × E)) → EachSawItsOwn ps now → BeginsWithEach ps now
  begin_each [] now f = tt
  begin_each (p ∷ ps) now f = ((f.0.0, f.0.1), begin_each ps now f.1)

  pub begin_more : (ps : List (ℕ × List (ℕ × E))) (now next mine : List (ℕ × E)) → now ++ mine ≡ next → BeginsWithEach ps now → BeginsWithEach ps next
  begin_more [] now next mine e b = tt
  begin_more (p ∷ ps) now next mine e b = ((b.0.0 ++ mine, sym (append_assoc p.1 b.0.0 mine) ∙ (ap (λ l. l ++ mine) b.0.1 ∙ e)), begin_more ps now next mine e b.1)

  pub tickets_set : (vs : List (View E)) (i : ℕ) (v w : View E) → ViewAt vs i v → tickets (set vs i w) + ticket_count v.ticket ≡ tickets vs + ticket_count w.ticket
  tickets_set [] i v w at = absurd (some-ne-none v (sym at))
  tickets_set (x ∷ xs) zero v w at = let e = ap (λ (z : View E). ticket_count z.ticket) (some-injective x v at) in omega arith
  tickets_set (x ∷ xs) (suc i) v w at = let e = tickets_set xs i v w at in omega arith

  -- what holds of each view, after one was set
  pub each_set : (P : ℕ → View E → Type 0) (vs : List (View E)) (me : ℕ) (w : View E) → P me w → ((j : ℕ) (v : View E) → j ≢ me → ViewAt vs j v → P j v) → (j : ℕ) (v : View E) → ViewAt (set vs me w) j v → P j v
  each_set P vs me w mine others j v at = ⊎_elim (λ (t : (j ≡ me) × (w ≡ v)). subst (λ (x : ℕ × View E). P x.0 x.1) (λ i. (sym t.0 i, t.1 i)) mine)
      (λ (t : (j ≢ me) × ViewAt vs j v). others j v t.0 t.1) (at_set vs me j w v at)

  pub same_view : (vs : List (View E)) (j : ℕ) (v w : View E) → ViewAt vs j v → ViewAt vs j w → v ≡ w
  same_view vs j v w a b = some-injective v w (sym a ∙ b)

  pub at_inside : (vs : List (View E)) (i : ℕ) (v : View E) → ViewAt vs i v → i < length vs
  at_inside [] i v at = absurd (some-ne-none v (sym at))
  at_inside (x ∷ xs) zero v at = omega arith
  at_inside (x ∷ xs) (suc i) v at = let l = at_inside xs i v at in omega arith

  pub opening_owns : (now : List (ℕ × E)) (os : List ℕ) (o : ℕ) → Owns o (opening_pairs now os) → In o os
  opening_owns now [] o h = h
  opening_owns now (x ∷ xs) o (inl h) = inl h
  opening_owns now (x ∷ xs) o (inr h) = inr (opening_owns now xs o h)

  pub opening_differ : (now : List (ℕ × E)) (os : List ℕ) → AllDiffer os → OwnersDiffer (opening_pairs now os)
  opening_differ now [] d = tt
  opening_differ now (x ∷ xs) d = ((λ h. d.0 (opening_owns now xs x h)), opening_differ now xs d.1)

  pub opening_length : (now : List (ℕ × E)) (os : List ℕ) → length (opening_pairs now os) ≡ length os
  opening_length now [] = refl
  opening_length now (x ∷ xs) = ap suc (opening_length now xs)

  pub opening_follow : (now : List (ℕ × E)) (os : List ℕ) → EachSawItsOwn (opening_pairs now os) now
  opening_follow now [] = tt
  opening_follow now (x ∷ xs) = (([], append-nil now, tt), opening_follow now xs)

  pub one_view : (P : ℕ → View E → Type 0) (v : View E) → P 0 v → (j : ℕ) (u : View E) → ViewAt (v ∷ []) j u → P j u
  one_view P v mine zero u at = subst (P 0) (some-injective v u at) mine
  one_view P v mine (suc j) u at = absurd (some-ne-none u (sym at))

  pub at_end : (l : List (View E)) (a b : View E) (j : ℕ) → ViewAt (l ++ a ∷ []) j b → ViewAt l j b ⊎ ((j ≡ length l) × (a ≡ b))
  at_end [] a b zero e = inr (refl, some-injective a b e)
  at_end [] a b (suc j) e = absurd (some-ne-none b (sym e))
  at_end (x ∷ xs) a b zero e = inl e
  at_end (x ∷ xs) a b (suc j) e = ⊎_elim inl (λ t. inr (ap suc t.0, t.1)) (at_end xs a b j e)

  -- what holds of each view, after one was cut in two
  pub each_split : (P : ℕ → View E → Type 0) (vs : List (View E)) (me : ℕ) (l r : View E) → P me l → ((j : ℕ) (v : View E) → j ≢ me → ViewAt vs j v → P j v) → P (length vs) r → (j : ℕ) (v : View E) → ViewAt (set vs me l ++ r ∷ []) j v → P j v
  each_split P vs me l r left others right j v at = ⊎_elim (λ a. each_set P vs me l left others j v a)
      (λ (t : (j ≡ length (set vs me l)) × (r ≡ v)). subst (λ (x : ℕ × View E). P x.0 x.1) (λ i. ((sym (length-set vs me l) ∙ sym t.0) i, t.1 i)) right) (at_end (set vs me l) r v j at)

  -- the same, after one took in another
  pub each_join : (P : ℕ → View E → Type 0) (vs : List (View E)) (me other : ℕ) (b z : View E) → P me b → P other z → ((j : ℕ) (v : View E) → j ≢ me → j ≢ other → ViewAt vs j v → P j v) → (j : ℕ) (v : View E) → ViewAt (set (set vs me b) other z) j v → P j v
  each_join P vs me other b z both spent rest = each_set P (set vs me b) other z spent (λ j v n at. each_set (λ j v. j ≢ other → P j v) vs me b (λ _. both) (λ j v m a n. rest j v m n a) j v at n)

  pub tickets_snoc : (vs : List (View E)) (v : View E) → tickets (vs ++ v ∷ []) ≡ tickets vs + ticket_count v.ticket
  tickets_snoc [] v = omega arith
  tickets_snoc (x ∷ xs) v = let h = tickets_snoc xs v in omega arith

  pub pair_count_snoc : (vs : List (View E)) (v : View E) → pair_count (vs ++ v ∷ []) ≡ pair_count vs + length v.pairs
  pair_count_snoc [] v = omega arith
  pair_count_snoc (x ∷ xs) v = let h = pair_count_snoc xs v in omega arith

  pub cut_length : (ps : List (ℕ × List (ℕ × E))) → length (other_pairs ps) + length (first_pair ps) ≡ length ps
  cut_length [] = refl
  cut_length (p ∷ ps) = omega arith

  pub an_owner : (ps : List (ℕ × List (ℕ × E))) → 1 ≤ length ps → (o : ℕ) × Owns o ps
  an_owner [] h = absurd (omega arith)
  an_owner (p ∷ ps) h = (p.0, inl refl)

  pub owns_first : (ps : List (ℕ × List (ℕ × E))) (o : ℕ) → Owns o (first_pair ps) → Owns o ps
  owns_first [] o h = h
  owns_first (p ∷ ps) o (inl h) = inl h
  owns_first (p ∷ ps) o (inr h) = absurd h

  pub owns_other : (ps : List (ℕ × List (ℕ × E))) (o : ℕ) → Owns o (other_pairs ps) → Owns o ps
  owns_other [] o h = h
  owns_other (p ∷ ps) o h = inr h

  pub cut_apart : (ps : List (ℕ × List (ℕ × E))) (o : ℕ) → OwnersDiffer ps → Owns o (other_pairs ps) → Owns o (first_pair ps) → ⊥
  cut_apart [] o d a b = a
  cut_apart (p ∷ ps) o d a (inl b) = d.0 (subst (λ (x : ℕ). Owns x ps) (sym b) a)
  cut_apart (p ∷ ps) o d a (inr b) = b

  pub differ_other : (ps : List (ℕ × List (ℕ × E))) → OwnersDiffer ps → OwnersDiffer (other_pairs ps)
  differ_other [] d = tt
  differ_other (p ∷ ps) d = d.1

  pub differ_first : (ps : List (ℕ × List (ℕ × E))) → OwnersDiffer (first_pair ps)
  differ_first [] = tt
  differ_first (p ∷ ps) = ((λ h. h), tt)

  pub follow_other : (ps : List (ℕ × List (ℕ × E))) (now : List (ℕ × E)) → EachSawItsOwn ps now → EachSawItsOwn (other_pairs ps) now
  follow_other [] now f = tt
  follow_other (p ∷ ps) now f = f.1

  pub follow_first : (ps : List (ℕ × List (ℕ × E))) (now : List (ℕ × E)) → EachSawItsOwn ps now → EachSawItsOwn (first_pair ps) now
  follow_first [] now f = tt
  follow_first (p ∷ ps) now f = (f.0, tt)

  pub owns_either : (ps qs : List (ℕ × List (ℕ × E))) (o : ℕ) → Owns o (ps ++ qs) → Owns o ps ⊎ Owns o qs
  owns_either [] qs o h = inr h
  owns_either (p ∷ ps) qs o (inl h) = inl (inl h)
  owns_either (p ∷ ps) qs o (inr h) = ⊎_elim (λ a. inl (inr a)) (λ b. inr b) (owns_either ps qs o h)

  pub differ_both : (ps qs : List (ℕ × List (ℕ × E))) → OwnersDiffer ps → OwnersDiffer qs → ((o : ℕ) → Owns o ps → ¬ Owns o qs) → OwnersDiffer (ps ++ qs)
  differ_both [] qs d e n = e
  differ_both (p ∷ ps) qs d e n = ((λ h. ⊎_elim d.0 (n p.0 (inl refl)) (owns_either ps qs p.0 h)), differ_both ps qs d.1 e (λ o h. n o (inr h)))

  pub follow_both : (ps qs : List (ℕ × List (ℕ × E))) (now : List (ℕ × E)) → EachSawItsOwn ps now → EachSawItsOwn qs now → EachSawItsOwn (ps ++ qs) now
  follow_both [] qs now f g = g
  follow_both (p ∷ ps) qs now f g = (f.0, follow_both ps qs now f.1 g)
