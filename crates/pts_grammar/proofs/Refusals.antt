-- The machine's refusals are those of the grammar.
use Rattle.std.proofs.Common.{ℕ, ◌≡◌, refl, sym, ◌∙◌, ap, subst, List, [], ◌∷◌, ◌++◌, Bool, true, false, cond, Some, append_assoc}
use Rattle.std.proofs.lemmas.List.{append-nil}
use Rattle.std.specs.Prelude.{codes}
use Rattle.pts_names.specs.Name.{Name as Text, is_identifier}
use Rattle.pts_tokens.specs.declared.token.Token.{Token}
use Rattle.pts_tokens.specs.declared.token.Token.TheVariants.{Lambda, At, Let, In, Colon, Assign, Dot, Arrow, Open, Close, Sort, Name as Word}
use Rattle.pts_tokens.specs.Tokens.{Spot}
use Rattle.pts_grammar.specs.declared.kind.Kind.{Kind}
use Rattle.pts_grammar.specs.declared.kind.Kind.TheVariants as kind
use Rattle.pts_grammar.specs.Syntax.{Syntax}
use Rattle.pts_grammar.specs.Grammar.{Reads}
use Rattle.pts_grammar.specs.Machine.{syntax, in_parens, at_type, at_body, let_value, let_type, let_body, behind_arrow, State, begin, binder, binder_sign, let_name, let_sign, after, Move, go, stay, fail, deep, ParseOutcome, read, expected, too_deep, applied_to, closing, if_plain, step, whole, at_end, run}
use Rattle.pts_grammar.specs.Refusals.{Viable, CanFollow, Wants, a_colon, a_dot, an_assign, an_in, a_close, the_end, a_name, a_term, Refused, at_token, at_length}
use Rattle.pts_grammar.proofs.Complete.{Frames, follow, plain_goes, Agrees, exactly, cut_off}
use Rattle.pts_grammar.proofs.Stays.{plain_stays, end_rest}
use Rattle.pts_grammar.proofs.Sound.{always, machine_sound, read_always}
use Rattle.pts_grammar.proofs.Reach.{bound_cuts, reach, reach_run, reach_more, letter, finish_state, finishes}
use Rattle.pts_grammar.proofs.Underscore.{underscore_is_identifier}

-- The token that closes the innermost open construct.
abbrev pub closer : Frames → Kind
closer [] = kind.End
closer (in_parens f ∷ K) = kind.Close
closer (at_type b x ∷ K) = kind.Dot
closer (let_value x ∷ K) = kind.Colon
closer (let_type x d ∷ K) = kind.In
closer (at_body b x A ∷ K) = closer K
closer (let_body x d A ∷ K) = closer K
closer (behind_arrow A ∷ K) = closer K

-- What is wanted in a state.
abbrev pub kind_at : State Syntax → Kind
kind_at (begin K) = kind.Term
kind_at (binder b K) = kind.Name
kind_at (binder_sign b x K) = kind.Colon
kind_at (let_name K) = kind.Name
kind_at (let_sign x K) = kind.Assign
kind_at (after K f) = closer K

closing_kind : (K : Frames) (f : Syntax) (t : Token) (k : Kind) → closing syntax K f t ≡ fail k → k ≡ closer K
closing_kind [] f t k h = absurd (cc h)
closing_kind (at_body b x A ∷ K) f t k h = closing_kind K _ t k h
closing_kind (let_body x d A ∷ K) f t k h = closing_kind K _ t k h
closing_kind (behind_arrow A ∷ K) f t k h = closing_kind K _ t k h
closing_kind (in_parens g ∷ K) f Close k h = absurd (cc h)
closing_kind (in_parens g ∷ K) f t k h = cc h
closing_kind (at_type b x ∷ K) f Dot k h = absurd (cc h)
closing_kind (at_type b x ∷ K) f t k h = cc h
closing_kind (let_value x ∷ K) f Colon k h = absurd (cc h)
closing_kind (let_value x ∷ K) f t k h = cc h
closing_kind (let_type x d ∷ K) f In k h = absurd (cc h)
closing_kind (let_type x d ∷ K) f t k h = cc h

plain_kind : (x : Text) (S : State Syntax) (k : Kind) → if_plain syntax x S ≡ fail k → k ≡ kind.Name
plain_kind x S k = cases (is_identifier x)
  where
    cases : (b : Bool) → cond b (go S) (fail kind.Name) ≡ fail k → k ≡ kind.Name
    cases true h = absurd (cc h)
    cases false h = cc h

fail_kind : (R : State Syntax) (p : ℕ) (t : Token) (k : Kind) → step syntax always R (p, t) ≡ fail k → k ≡ kind_at R
fail_kind (begin K) p Lambda k h = absurd (cc h)
fail_kind (begin K) p At k h = absurd (cc h)
fail_kind (begin K) p Let k h = absurd (cc h)
fail_kind (begin K) p (Sort s) k h = absurd (cc h)
fail_kind (begin K) p (Word x) k h = absurd (cc h)
fail_kind (begin K) p Open k h = absurd (cc h)
fail_kind (begin K) p t k h = cc h
fail_kind (binder b K) p (Word x) k h = plain_kind x (binder_sign b x K) k h
fail_kind (binder b K) p t k h = cc h
fail_kind (binder_sign b x K) p Colon k h = absurd (cc h)
fail_kind (binder_sign b x K) p t k h = cc h
fail_kind (let_name K) p (Word x) k h = plain_kind x (let_sign x K) k h
fail_kind (let_name K) p t k h = cc h
fail_kind (let_sign x K) p Assign k h = absurd (cc h)
fail_kind (let_sign x K) p t k h = cc h
fail_kind (after K f) p (Sort s) k h = absurd (cc h)
fail_kind (after K f) p (Word x) k h = absurd (cc h)
fail_kind (after K f) p Open k h = absurd (cc h)
fail_kind (after K f) p Arrow k h = absurd (cc h)
fail_kind (after K f) p t k h = closing_kind K f t k h

whole_kind : (length p : ℕ) (K : Frames) (f : Syntax) (k : Kind) → whole syntax length K f ≡ expected p k → (k ≡ closer K) × (p ≡ length)
whole_kind length p [] f k h = absurd (cc h)
whole_kind length p (at_body b x A ∷ K) f k h = whole_kind length p K _ k h
whole_kind length p (let_body x d A ∷ K) f k h = whole_kind length p K _ k h
whole_kind length p (behind_arrow A ∷ K) f k h = whole_kind length p K _ k h
whole_kind length p (in_parens g ∷ K) f k h = (cc h, cc h)
whole_kind length p (at_type b x ∷ K) f k h = (cc h, cc h)
whole_kind length p (let_value x ∷ K) f k h = (cc h, cc h)
whole_kind length p (let_type x d ∷ K) f k h = (cc h, cc h)

end_kind : (length p : ℕ) (R : State Syntax) (k : Kind) → at_end syntax length R ≡ expected p k → (k ≡ kind_at R) × (p ≡ length)
end_kind length p (begin K) k h = (cc h, cc h)
end_kind length p (binder b K) k h = (cc h, cc h)
end_kind length p (binder_sign b x K) k h = (cc h, cc h)
end_kind length p (let_name K) k h = (cc h, cc h)
end_kind length p (let_sign x K) k h = (cc h, cc h)
end_kind length p (after K f) k h = whole_kind length p K f k h

-- Which token closes what is open, given what each token does there.
pub data Closes (move : Token → Move Syntax) (end : ParseOutcome Syntax) : Kind → Type 0 where
  by_close : (Q : State Syntax) → move Close ≡ go Q → Closes move end kind.Close
  by_dot : (Q : State Syntax) → move Dot ≡ go Q → Closes move end kind.Dot
  by_colon : (Q : State Syntax) → move Colon ≡ go Q → Closes move end kind.Colon
  by_in : (Q : State Syntax) → move In ≡ go Q → Closes move end kind.In
  by_end : (T : Syntax) → end ≡ read T [] → Closes move end kind.End

pub closes : (K : Frames) (f : Syntax) → Closes (λ t. closing syntax K f t) (whole syntax 0 K f) (closer K)
closes [] f = by_end f refl
closes (at_body b x A ∷ K) f = closes K _
closes (let_body x d A ∷ K) f = closes K _
closes (behind_arrow A ∷ K) f = closes K _
closes (in_parens g ∷ K) f = by_close (after K (applied_to syntax g f)) refl
closes (at_type b x ∷ K) f = by_dot (begin (at_body b x f ∷ K)) refl
closes (let_value x ∷ K) f = by_colon (begin (let_type x f ∷ K)) refl
closes (let_type x d ∷ K) f = by_in (begin (let_body x d f ∷ K)) refl

module _ (vs : List Spot) (R : State Syntax) (e : reach (begin []) vs ≡ Some R) where
  pub viable_here : Viable vs
  viable_here = let h = finishes R in (finish_state R, h.0, machine_sound always 0 _ h.0 [] (reach_run vs (finish_state R) 0 (begin []) R e ∙ h.1))

  pub cannot_cases : (p : ℕ) (t : Token) (m : Move Syntax) → step syntax always R (p, t) ≡ m → ((Q : State Syntax) → ¬ (m ≡ go Q)) → ¬ Viable (vs ++ (p, t) ∷ [])
  unfolding follow
  cannot_cases p t m h n (us, T, d) =
      let q = read_always 0 _ T d in
      let r : run syntax always 0 (begin []) (vs ++ (p, t) ∷ us) ≡ read T [] = ap (run syntax always 0 (begin [])) (sym (append_assoc vs ((p, t) ∷ []) us)) ∙ q in
      let s : run syntax always 0 R ((p, t) ∷ us) ≡ read T [] = sym (reach_run vs ((p, t) ∷ us) 0 (begin []) R e) ∙ r in
      let u : follow always 0 m (p, t) us ≡ read T [] = ap (λ w. follow always 0 w (p, t) us) (sym h) ∙ s in
      wrong m n u
    where
      wrong : (m : Move Syntax) → ((Q : State Syntax) → ¬ (m ≡ go Q)) → follow always 0 m (p, t) us ≡ read T [] → ⊥
      wrong (go Q) n u = n Q refl
      wrong (stay U) n u = let w : (p, t) ∷ us ≡ [] = cc u in cc w
      wrong (fail k) n u = cc u
      wrong deep n u = cc u

  pub cannot : (p : ℕ) (t : Token) (k : Kind) → step syntax always R (p, t) ≡ fail k → ¬ Viable (vs ++ (p, t) ∷ [])
  cannot p t k h = cannot_cases p t (fail k) h (λ Q w. absurd (cc w))

  pub can : (t : Token) (Q : State Syntax) → step syntax always R (0, t) ≡ go Q → CanFollow vs t
  can t Q h = let f = finishes Q in (finish_state Q, f.0, machine_sound always 0 _ f.0 [] (reach_run (vs ++ (0, t) ∷ []) (finish_state Q) 0 (begin []) Q (reach_more vs (0, t) (begin []) R Q e h) ∙ f.1))

  -- The tokens are no whole term, and they are one.
  pub unended : ((T : Syntax) → ¬ (at_end syntax 0 R ≡ read T [])) → (T : Syntax) → ¬ Reads vs T []
  unended n T d = n T (sym (reach_run vs [] 0 (begin []) R e) ∙ (ap (run syntax always 0 (begin [])) (append-nil vs) ∙ read_always 0 vs T d))

  pub ended_here : (T : Syntax) → at_end syntax 0 R ≡ read T [] → Reads vs T []
  ended_here T h = machine_sound always 0 vs T [] (ap (run syntax always 0 (begin [])) (sym (append-nil vs)) ∙ (reach_run vs [] 0 (begin []) R e ∙ h))

wants_closer : (vs : List Spot) (K : Frames) (f : Syntax) (k : Kind) → reach (begin []) vs ≡ Some (after K f) → Closes (λ t. closing syntax K f t) (whole syntax 0 K f) k → Wants vs k
wants_closer vs K f _ e (by_close Q h) = a_close (can vs (after K f) e Close Q h)
wants_closer vs K f _ e (by_dot Q h) = a_dot (can vs (after K f) e Dot Q h)
wants_closer vs K f _ e (by_colon Q h) = a_colon (can vs (after K f) e Colon Q h)
wants_closer vs K f _ e (by_in Q h) = an_in (can vs (after K f) e In Q h)
wants_closer vs K f _ e (by_end T h) = the_end T (ended_here vs (after K f) e T h)

pub wants_at : (vs : List Spot) (R : State Syntax) → reach (begin []) vs ≡ Some R → Wants vs (kind_at R)
wants_at vs (begin K) e =
    let cant : (t : Token) → step syntax always (begin K) (0, t) ≡ fail kind.Term → ¬ CanFollow vs t = λ t h. cannot vs (begin K) e 0 t kind.Term h in
    a_term (codes "*") (can vs (begin K) e (Sort (codes "*")) _ refl) (cant Colon refl) (cant Dot refl) (cant Assign refl) (cant In refl) (cant Close refl) (unended vs (begin K) e (λ T h. absurd (cc h)))
wants_at vs (binder b K) e = a_name letter (can vs (binder b K) e (Word letter) (binder_sign b letter K) (plain_goes letter _ underscore_is_identifier)) (λ s. cannot vs (binder b K) e 0 (Sort s) kind.Name refl)
wants_at vs (binder_sign b x K) e = a_colon (can vs (binder_sign b x K) e Colon _ refl)
wants_at vs (let_name K) e = a_name letter (can vs (let_name K) e (Word letter) (let_sign letter K) (plain_goes letter _ underscore_is_identifier)) (λ s. cannot vs (let_name K) e 0 (Sort s) kind.Name refl)
wants_at vs (let_sign x K) e = an_assign (can vs (let_sign x K) e Assign _ refl)
wants_at vs (after K f) e = wants_closer vs K f (closer K) e (closes K f)

by_move : (length p : ℕ) (k : Kind) (ts vs us : List Spot) (q : ℕ) (t : Token) (R : State Syntax) → reach (begin []) vs ≡ Some R → ts ≡ vs ++ (q, t) ∷ us → (m : Move Syntax) → step syntax always R (q, t) ≡ m → follow always length m (q, t) us ≡ expected p k → ((Q : State Syntax) → reach (begin []) (vs ++ (q, t) ∷ []) ≡ Some Q → run syntax always length Q us ≡ expected p k → Refused length ts k p) → Refused length ts k p
unfolding follow
by_move length p k ts vs us q t R e s (go Q) w h ih = ih Q (reach_more vs (q, t) (begin []) R Q e w) h
by_move length p k ts vs us q t R e s (stay T) w h ih = absurd (cc h)
by_move length p k ts vs us q t R e s (fail j) w h ih =
    let ej : j ≡ k = cc h in
    let eq : q ≡ p = cc h in
    subst (λ x. Refused length ts k x) eq (at_token vs us q t s (viable_here vs R e) (cannot vs R e q t j w) (subst (Wants vs) (sym (fail_kind R q t j w) ∙ ej) (wants_at vs R e)))
by_move length p k ts vs us q t R e s deep w h ih = absurd (cc h)

-- A refusal from the tokens vs on, with the state R behind them.
step_back : (length p : ℕ) (k : Kind) (ts vs us : List Spot) (R : State Syntax) → reach (begin []) vs ≡ Some R → ts ≡ vs ++ us → run syntax always length R us ≡ expected p k → Refused length ts k p
unfolding follow
step_back length p k ts vs [] R e s h =
    let (ek, ep) = end_kind length p R k h in
    let t : ts ≡ vs = s ∙ append-nil vs in
    subst (λ q. Refused length ts k q) (sym ep)
    (at_length (subst Viable (sym t) (viable_here vs R e)) (λ T d. not_read T (sym (reach_run vs [] length (begin []) R e) ∙ (ap (run syntax always length (begin [])) (append-nil vs) ∙ read_always length vs T (subst (λ x. Reads x T []) t d)))) (subst (λ x. Wants x k) (sym t) (subst (Wants vs) (sym ek) (wants_at vs R e))))
  where
    not_read : (T : Syntax) → at_end syntax length R ≡ read T [] → ⊥
    not_read T q = let m : expected p k ≡ read T [] = sym h ∙ q in cc m
step_back length p k ts vs ((q, t) ∷ us) R e s h = by_move length p k ts vs us q t R e s (step syntax always R (q, t)) refl h (λ Q u g. step_back length p k ts (vs ++ (q, t) ∷ []) us Q u (s ∙ sym (append_assoc vs ((q, t) ∷ []) us)) g)

pub refusals_are_the_grammars : (more : ℕ → Bool) (length p : ℕ) (k : Kind) (ts : List Spot) → run syntax more length (begin []) ts ≡ expected p k → Refused length ts k p
refusals_are_the_grammars more length p k ts h = answer (bound_cuts more length ts (begin []))
  where
    answer : Agrees (run syntax more length (begin []) ts) (run syntax always length (begin []) ts) → Refused length ts k p
    answer (exactly e) = step_back length p k ts [] ts (begin []) refl refl (sym e ∙ h)
    answer (cut_off q e) = let m : expected p k ≡ too_deep q = sym h ∙ e in absurd (cc m)

-- A token behind a whole term.
closing_whole : (K : Frames) (f : Syntax) (t : Token) (U : Syntax) → closing syntax K f t ≡ stay U → whole syntax 0 K f ≡ read U []
closing_whole [] f t U h = ap (λ T. read T []) (let m : f ≡ U = cc h in m)
closing_whole (at_body b x A ∷ K) f t U h = closing_whole K _ t U h
closing_whole (let_body x d A ∷ K) f t U h = closing_whole K _ t U h
closing_whole (behind_arrow A ∷ K) f t U h = closing_whole K _ t U h
closing_whole (in_parens g ∷ K) f Close U h = absurd (cc h)
closing_whole (in_parens g ∷ K) f t U h = absurd (cc h)
closing_whole (at_type b x ∷ K) f Dot U h = absurd (cc h)
closing_whole (at_type b x ∷ K) f t U h = absurd (cc h)
closing_whole (let_value x ∷ K) f Colon U h = absurd (cc h)
closing_whole (let_value x ∷ K) f t U h = absurd (cc h)
closing_whole (let_type x d ∷ K) f In U h = absurd (cc h)
closing_whole (let_type x d ∷ K) f t U h = absurd (cc h)

step_whole : (R : State Syntax) (p : ℕ) (t : Token) (U : Syntax) → step syntax always R (p, t) ≡ stay U → at_end syntax 0 R ≡ read U []
step_whole (begin K) p Lambda U h = absurd (cc h)
step_whole (begin K) p At U h = absurd (cc h)
step_whole (begin K) p Let U h = absurd (cc h)
step_whole (begin K) p (Sort s) U h = absurd (cc h)
step_whole (begin K) p (Word x) U h = absurd (cc h)
step_whole (begin K) p Open U h = absurd (cc h)
step_whole (begin K) p t U h = absurd (cc h)
step_whole (binder b K) p (Word x) U h = absurd (plain_stays x (binder_sign b x K) U h)
step_whole (binder b K) p t U h = absurd (cc h)
step_whole (binder_sign b x K) p Colon U h = absurd (cc h)
step_whole (binder_sign b x K) p t U h = absurd (cc h)
step_whole (let_name K) p (Word x) U h = absurd (plain_stays x (let_sign x K) U h)
step_whole (let_name K) p t U h = absurd (cc h)
step_whole (let_sign x K) p Assign U h = absurd (cc h)
step_whole (let_sign x K) p t U h = absurd (cc h)
step_whole (after K f) p (Sort s) U h = absurd (cc h)
step_whole (after K f) p (Word x) U h = absurd (cc h)
step_whole (after K f) p Open U h = absurd (cc h)
step_whole (after K f) p Arrow U h = absurd (cc h)
step_whole (after K f) p t U h = closing_whole K f t U h

more_move : (length p : ℕ) (t : Token) (U : Syntax) (ts vs us rest : List Spot) (q : ℕ) (u : Token) (R : State Syntax) → reach (begin []) vs ≡ Some R → ts ≡ vs ++ (q, u) ∷ us → (m : Move Syntax) → step syntax always R (q, u) ≡ m → follow always length m (q, u) us ≡ read U ((p, t) ∷ rest) → ((Q : State Syntax) → reach (begin []) (vs ++ (q, u) ∷ []) ≡ Some Q → run syntax always length Q us ≡ read U ((p, t) ∷ rest) → Refused length ts kind.End p) → Refused length ts kind.End p
unfolding follow
more_move length p t U ts vs us rest q u R e s (go Q) w h ih = ih Q (reach_more vs (q, u) (begin []) R Q e w) h
more_move length p t U ts vs us rest q u R e s (stay T) w h ih =
    let l : (q, u) ∷ us ≡ (p, t) ∷ rest = cc h in
    let m : ◌≡◌ {A = Spot} (q, u) (p, t) = cc l in
    subst (Refused length ts kind.End) (ap (λ x. x.0) m) (at_token vs us q u s (viable_here vs R e) (cannot_cases vs R e q u (stay T) w (λ Q n. absurd (cc n))) (the_end T (ended_here vs R e T (step_whole R q u T w))))
more_move length p t U ts vs us rest q u R e s (fail j) w h ih = absurd (cc h)
more_move length p t U ts vs us rest q u R e s deep w h ih = absurd (cc h)

more_back : (length p : ℕ) (t : Token) (U : Syntax) (ts vs us rest : List Spot) (R : State Syntax) → reach (begin []) vs ≡ Some R → ts ≡ vs ++ us → run syntax always length R us ≡ read U ((p, t) ∷ rest) → Refused length ts kind.End p
unfolding follow
more_back length p t U ts vs [] rest R e s h = absurd (end_rest length R U (p, t) rest h)
more_back length p t U ts vs ((q, u) ∷ us) rest R e s h = more_move length p t U ts vs us rest q u R e s (step syntax always R (q, u)) refl h (λ Q a g. more_back length p t U ts (vs ++ (q, u) ∷ []) us rest Q a (s ∙ sym (append_assoc vs ((q, u) ∷ []) us)) g)

-- Where tokens are left behind a whole term, the end is wanted at the first of them.
pub end_is_wanted : (more : ℕ → Bool) (length p : ℕ) (t : Token) (U : Syntax) (ts rest : List Spot) → run syntax more length (begin []) ts ≡ read U ((p, t) ∷ rest) → Refused length ts kind.End p
end_is_wanted more length p t U ts rest h = answer (bound_cuts more length ts (begin []))
  where
    answer : Agrees (run syntax more length (begin []) ts) (run syntax always length (begin []) ts) → Refused length ts kind.End p
    answer (exactly e) = more_back length p t U ts [] ts rest (begin []) refl refl (sym e ∙ h)
    answer (cut_off q e) = let m : read U ((p, t) ∷ rest) ≡ too_deep q = sym h ∙ e in absurd (cc m)
