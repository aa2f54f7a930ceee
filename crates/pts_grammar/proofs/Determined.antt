-- The grammar names one refusal at most.
use Rattle.std.proofs.Common.{ℕ, ◌≡◌, refl, sym, ◌∙◌, ap, subst, List, [], ◌∷◌, ◌++◌, Some, ◌⊎◌, append_assoc}
use Rattle.std.proofs.lemmas.List.{append-nil}
use Rattle.std.specs.Prelude.{codes}
use Rattle.pts_tokens.specs.declared.token.Token.{Token}
use Rattle.pts_tokens.specs.declared.token.Token.TheVariants.{In, Colon, Assign, Dot, Close, Sort, Name as Word}
use Rattle.pts_tokens.specs.Tokens.{Spot}
use Rattle.pts_grammar.specs.declared.kind.Kind.{Kind}
use Rattle.pts_grammar.specs.declared.kind.Kind.TheVariants as kind
use Rattle.pts_grammar.specs.Syntax.{Syntax}
use Rattle.pts_grammar.specs.Grammar.{Reads}
use Rattle.pts_grammar.specs.Machine.{syntax, in_parens, at_type, at_body, let_value, let_type, let_body, behind_arrow, State, begin, binder, binder_sign, let_name, let_sign, after, Move, go, stay, fail, deep, read, closing, step, whole, at_end, run}
use Rattle.pts_grammar.specs.Refusals.{Viable, CanFollow, Wants, a_colon, a_dot, an_assign, an_in, a_close, the_end, a_name, a_term, at_token, at_length, RefusalsAreDetermined}
use Rattle.pts_grammar.proofs.Complete.{Frames}
use Rattle.pts_grammar.proofs.Sound.{always, read_always}
use Rattle.pts_grammar.proofs.Reach.{reach, reach_run}
use Rattle.pts_grammar.proofs.Refusals.{closer, kind_at, Closes, by_close, by_dot, by_colon, by_in, by_end, closes, cannot_cases, can, ended_here}
use Rattle.pts_grammar.proofs.TooDeep.{reach_viable}

-- The kind of a token that closes something.
kind_of : Token → Kind
kind_of Close = kind.Close
kind_of Dot = kind.Dot
kind_of Colon = kind.Colon
kind_of In = kind.In
kind_of Assign = kind.Assign
kind_of _ = kind.End

closing_goes : (K : Frames) (f : Syntax) (t : Token) (Q : State Syntax) → closing syntax K f t ≡ go Q → kind_of t ≡ closer K
unfolding kind_of
closing_goes [] f t Q h = absurd (cc h)
closing_goes (at_body b x A ∷ K) f t Q h = closing_goes K _ t Q h
closing_goes (let_body x d A ∷ K) f t Q h = closing_goes K _ t Q h
closing_goes (behind_arrow A ∷ K) f t Q h = closing_goes K _ t Q h
closing_goes (in_parens g ∷ K) f Close Q h = refl
closing_goes (in_parens g ∷ K) f t Q h = absurd (cc h)
closing_goes (at_type b x ∷ K) f Dot Q h = refl
closing_goes (at_type b x ∷ K) f t Q h = absurd (cc h)
closing_goes (let_value x ∷ K) f Colon Q h = refl
closing_goes (let_value x ∷ K) f t Q h = absurd (cc h)
closing_goes (let_type x d ∷ K) f In Q h = refl
closing_goes (let_type x d ∷ K) f t Q h = absurd (cc h)

colon_goes : (R Q : State Syntax) → step syntax always R (0, Colon) ≡ go Q → kind.Colon ≡ kind_at R
unfolding kind_of
colon_goes (begin K) Q h = absurd (cc h)
colon_goes (binder b K) Q h = absurd (cc h)
colon_goes (binder_sign b x K) Q h = refl
colon_goes (let_name K) Q h = absurd (cc h)
colon_goes (let_sign x K) Q h = absurd (cc h)
colon_goes (after K f) Q h = closing_goes K f Colon Q h

assign_goes : (R Q : State Syntax) → step syntax always R (0, Assign) ≡ go Q → kind.Assign ≡ kind_at R
unfolding kind_of
assign_goes (begin K) Q h = absurd (cc h)
assign_goes (binder b K) Q h = absurd (cc h)
assign_goes (binder_sign b x K) Q h = absurd (cc h)
assign_goes (let_name K) Q h = absurd (cc h)
assign_goes (let_sign x K) Q h = refl
assign_goes (after K f) Q h = closing_goes K f Assign Q h

dot_goes : (R Q : State Syntax) → step syntax always R (0, Dot) ≡ go Q → kind.Dot ≡ kind_at R
unfolding kind_of
dot_goes (begin K) Q h = absurd (cc h)
dot_goes (binder b K) Q h = absurd (cc h)
dot_goes (binder_sign b x K) Q h = absurd (cc h)
dot_goes (let_name K) Q h = absurd (cc h)
dot_goes (let_sign x K) Q h = absurd (cc h)
dot_goes (after K f) Q h = closing_goes K f Dot Q h

in_goes : (R Q : State Syntax) → step syntax always R (0, In) ≡ go Q → kind.In ≡ kind_at R
unfolding kind_of
in_goes (begin K) Q h = absurd (cc h)
in_goes (binder b K) Q h = absurd (cc h)
in_goes (binder_sign b x K) Q h = absurd (cc h)
in_goes (let_name K) Q h = absurd (cc h)
in_goes (let_sign x K) Q h = absurd (cc h)
in_goes (after K f) Q h = closing_goes K f In Q h

close_goes : (R Q : State Syntax) → step syntax always R (0, Close) ≡ go Q → kind.Close ≡ kind_at R
unfolding kind_of
close_goes (begin K) Q h = absurd (cc h)
close_goes (binder b K) Q h = absurd (cc h)
close_goes (binder_sign b x K) Q h = absurd (cc h)
close_goes (let_name K) Q h = absurd (cc h)
close_goes (let_sign x K) Q h = absurd (cc h)
close_goes (after K f) Q h = closing_goes K f Close Q h

whole_ends : (K : Frames) (f T : Syntax) → whole syntax 0 K f ≡ read T [] → kind.End ≡ closer K
whole_ends [] f T h = refl
whole_ends (at_body b x A ∷ K) f T h = whole_ends K _ T h
whole_ends (let_body x d A ∷ K) f T h = whole_ends K _ T h
whole_ends (behind_arrow A ∷ K) f T h = whole_ends K _ T h
whole_ends (in_parens g ∷ K) f T h = absurd (cc h)
whole_ends (at_type b x ∷ K) f T h = absurd (cc h)
whole_ends (let_value x ∷ K) f T h = absurd (cc h)
whole_ends (let_type x d ∷ K) f T h = absurd (cc h)

end_goes : (R : State Syntax) (T : Syntax) → at_end syntax 0 R ≡ read T [] → kind.End ≡ kind_at R
end_goes (begin K) T h = absurd (cc h)
end_goes (binder b K) T h = absurd (cc h)
end_goes (binder_sign b x K) T h = absurd (cc h)
end_goes (let_name K) T h = absurd (cc h)
end_goes (let_sign x K) T h = absurd (cc h)
end_goes (after K f) T h = whole_ends K f T h

module _ (vs : List Spot) where
  -- A token that can follow goes on.
  follows : (R : State Syntax) → reach (begin []) vs ≡ Some R → (t : Token) → CanFollow vs t → (Q : State Syntax) × (step syntax always R (0, t) ≡ go Q)
  follows R e t c = by (step syntax always R (0, t)) refl
    where
      by : (m : Move Syntax) → step syntax always R (0, t) ≡ m → (Q : State Syntax) × (step syntax always R (0, t) ≡ go Q)
      by (go Q) h = (Q, h)
      by (stay U) h = absurd (cannot_cases vs R e 0 t (stay U) h (λ Q w. cc w) c)
      by (fail k) h = absurd (cannot_cases vs R e 0 t (fail k) h (λ Q w. cc w) c)
      by deep h = absurd (cannot_cases vs R e 0 t deep h (λ Q w. cc w) c)

  not_closed : (K : Frames) (f : Syntax) (k : Kind) → reach (begin []) vs ≡ Some (after K f) → Closes (λ t. closing syntax K f t) (whole syntax 0 K f) k → ¬ CanFollow vs Colon → ¬ CanFollow vs Dot → ¬ CanFollow vs In → ¬ CanFollow vs Close → ((T : Syntax) → ¬ Reads vs T []) → ⊥
  not_closed K f _ e (by_close Q h) n1 n2 n3 n4 n5 = n4 (can vs (after K f) e Close Q h)
  not_closed K f _ e (by_dot Q h) n1 n2 n3 n4 n5 = n2 (can vs (after K f) e Dot Q h)
  not_closed K f _ e (by_colon Q h) n1 n2 n3 n4 n5 = n1 (can vs (after K f) e Colon Q h)
  not_closed K f _ e (by_in Q h) n1 n2 n3 n4 n5 = n3 (can vs (after K f) e In Q h)
  not_closed K f _ e (by_end T h) n1 n2 n3 n4 n5 = n5 T (ended_here vs (after K f) e T h)

  wants_kind : (R : State Syntax) → reach (begin []) vs ≡ Some R → (k : Kind) → Wants vs k → k ≡ kind_at R
  wants_kind R e _ (a_colon c) = let (Q, h) = follows R e Colon c in colon_goes R Q h
  wants_kind R e _ (a_dot c) = let (Q, h) = follows R e Dot c in dot_goes R Q h
  wants_kind R e _ (an_assign c) = let (Q, h) = follows R e Assign c in assign_goes R Q h
  wants_kind R e _ (an_in c) = let (Q, h) = follows R e In c in in_goes R Q h
  wants_kind R e _ (a_close c) = let (Q, h) = follows R e Close c in close_goes R Q h
  wants_kind R e _ (the_end T d) = end_goes R T (sym (reach_run vs [] 0 (begin []) R e) ∙ (ap (run syntax always 0 (begin [])) (append-nil vs) ∙ read_always 0 vs T d))
  wants_kind (begin K) e _ (a_name x c n) = absurd (n (codes "*") (can vs (begin K) e (Sort (codes "*")) _ refl))
  wants_kind (after K f) e _ (a_name x c n) = absurd (n (codes "*") (can vs (after K f) e (Sort (codes "*")) _ refl))
  wants_kind (binder b K) e _ (a_name x c n) = refl
  wants_kind (let_name K) e _ (a_name x c n) = refl
  wants_kind (binder_sign b y K) e _ (a_name x c n) = let (Q, h) = follows (binder_sign b y K) e (Word x) c in absurd (cc h)
  wants_kind (let_sign y K) e _ (a_name x c n) = let (Q, h) = follows (let_sign y K) e (Word x) c in absurd (cc h)
  wants_kind (begin K) e _ (a_term s c n1 n2 n3 n4 n5 n6) = refl
  wants_kind (after K f) e _ (a_term s c n1 n2 n3 n4 n5 n6) = absurd (not_closed K f (closer K) e (closes K f) n1 n2 n4 n5 n6)
  wants_kind (binder b K) e _ (a_term s c n1 n2 n3 n4 n5 n6) = let (Q, h) = follows (binder b K) e (Sort s) c in absurd (cc h)
  wants_kind (let_name K) e _ (a_term s c n1 n2 n3 n4 n5 n6) = let (Q, h) = follows (let_name K) e (Sort s) c in absurd (cc h)
  wants_kind (binder_sign b y K) e _ (a_term s c n1 n2 n3 n4 n5 n6) = let (Q, h) = follows (binder_sign b y K) e (Sort s) c in absurd (cc h)
  wants_kind (let_sign y K) e _ (a_term s c n1 n2 n3 n4 n5 n6) = let (Q, h) = follows (let_sign y K) e (Sort s) c in absurd (cc h)

  one_kind : (k j : Kind) → Viable vs → Wants vs k → Wants vs j → k ≡ j
  one_kind k j (us, T, d) w v =
      let (R, e) = reach_viable vs us T (begin []) (read_always 0 _ T d) in
      wants_kind R e k w ∙ sym (wants_kind R e j v)

viable_front : (vs ws : List Spot) → Viable (vs ++ ws) → Viable vs
viable_front vs ws (us, T, d) = (ws ++ us, T, subst (λ l. Reads l T []) (append_assoc vs ws us) d)

-- Where two lists with a mark in them are one.
data Marks (vs ws : List Spot) (x y : Spot) : Type 0 where
  same_mark : vs ≡ ws → x ≡ y → Marks vs ws x y
  sooner : (zs : List Spot) → ws ≡ (vs ++ x ∷ []) ++ zs → Marks vs ws x y
  later : (zs : List Spot) → vs ≡ (ws ++ y ∷ []) ++ zs → Marks vs ws x y

marks_more : (a : Spot) (vs ws : List Spot) (x y : Spot) → Marks vs ws x y → Marks (a ∷ vs) (a ∷ ws) x y
marks_more a vs ws x y (same_mark e f) = same_mark (ap (λ l. a ∷ l) e) f
marks_more a vs ws x y (sooner zs e) = sooner zs (ap (λ l. a ∷ l) e)
marks_more a vs ws x y (later zs e) = later zs (ap (λ l. a ∷ l) e)

marks : (vs ws us zs : List Spot) (x y : Spot) → vs ++ x ∷ us ≡ ws ++ y ∷ zs → Marks vs ws x y
marks [] [] us zs x y e = same_mark refl (cc e)
marks [] (b ∷ ws) us zs x y e = let m : x ≡ b = cc e in sooner ws (ap (λ a. a ∷ ws) (sym m))
marks (a ∷ vs) [] us zs x y e = let m : a ≡ y = cc e in later vs (ap (λ b. b ∷ vs) m)
marks (a ∷ vs) (b ∷ ws) us zs x y e =
    let m : a ≡ b = cc e in
    let rest : vs ++ x ∷ us ≡ ws ++ y ∷ zs = cc e in
    subst (λ c. Marks (a ∷ vs) (c ∷ ws) x y) m (marks_more a vs ws x y (marks vs ws us zs x y rest))

by_marks : (vs ws : List Spot) (p q : ℕ) (t u : Token) (k j : Kind) → Viable vs → ¬ Viable (vs ++ (p, t) ∷ []) → Wants vs k → Viable ws → ¬ Viable (ws ++ (q, u) ∷ []) → Wants ws j → Marks vs ws (p, t) (q, u) → (p ≡ q) × (k ≡ j)
by_marks vs ws p q t u k j a n w b m v (same_mark e f) = (ap (λ s. s.0) f, one_kind vs k j a w (subst (λ l. Wants l j) (sym e) v))
by_marks vs ws p q t u k j a n w b m v (sooner zs e) = absurd (n (viable_front (vs ++ (p, t) ∷ []) zs (subst Viable e b)))
by_marks vs ws p q t u k j a n w b m v (later zs e) = absurd (m (viable_front (ws ++ (q, u) ∷ []) zs (subst Viable e a)))

inside : (vs us ts : List Spot) (x : Spot) → ts ≡ vs ++ x ∷ us → Viable ts → Viable (vs ++ x ∷ [])
inside vs us ts x e v = viable_front (vs ++ x ∷ []) us (subst Viable (e ∙ sym (append_assoc vs (x ∷ []) us)) v)

pub determined : RefusalsAreDetermined
determined length ts k j p q (at_token vs us _ t e a n w) (at_token ws zs _ u f b m v) = by_marks vs ws p q t u k j a n w b m v (marks vs ws us zs (p, t) (q, u) (sym e ∙ f))
determined length ts k j p _ (at_token vs us _ t e a n w) (at_length b m v) = absurd (n (inside vs us ts (p, t) e b))
determined length ts k j _ q (at_length a n w) (at_token ws zs _ u f b m v) = absurd (m (inside ws zs ts (q, u) f a))
determined length ts k j _ _ (at_length a n w) (at_length b m v) = (refl, one_kind ts k j a w v)
