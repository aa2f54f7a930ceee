-- What the machine reads, the grammar reads; so a text has one syntax.
use Rattle.std.proofs.Common.{ℕ, ◌≡◌, refl, sym, ◌∙◌, ap, subst₂, List, [], ◌∷◌, Bool, true, false, cond, Option, Some, None, inl, inr}
use Rattle.pts_names.specs.Name.{Name, is_identifier, underscore}
use Rattle.pts_tokens.specs.declared.token.Token.{Token}
use Rattle.pts_tokens.specs.declared.token.Token.TheVariants.{Lambda, At, Let, In, Colon, Assign, Dot, Arrow, Open, Close, Sort, Name as Word}
use Rattle.pts_tokens.specs.Tokens.{Spot}
use Rattle.pts_grammar.specs.declared.kind.Kind.TheVariants.{Name as name_wanted}
use Rattle.pts_grammar.specs.declared.frame.Binder.{Binder}
use Rattle.pts_grammar.specs.declared.frame.Binder.TheVariants.{Lam, Pi}
use Rattle.pts_grammar.specs.Syntax.{Syntax, sort, name, app, pi, let_in}
use Rattle.pts_grammar.specs.Grammar.{Reads, abstraction, product, definition, application, arrow, App, atoms, Args, no_more, one_more, Atom, a_sort, a_name, parentheses}
use Rattle.pts_grammar.specs.Machine.{syntax, bound_syntax, in_parens, at_type, at_body, let_value, let_type, let_body, behind_arrow, State, begin, binder, binder_sign, let_name, let_sign, after, Move, go, stay, fail, deep, ParseOutcome, read, expected, too_deep, applied_to, closing, opening, if_plain, step, whole, at_end, run}
use Rattle.pts_grammar.proofs.Complete.{Frames, follow, ended, Ends, Agrees, exactly, cut_off, plain_goes, plain_fails, opening_is, reads_run}

-- Perhaps an arrow behind an application.
pub data Tail : Syntax → List Spot → Syntax → List Spot → Type 0 where
  no_arrow : {g : Syntax} {us : List Spot} → Tail g us g us
  an_arrow : {us vs : List Spot} {g B : Syntax} {o : ℕ} → Reads us B vs → Tail g ((o, Arrow) ∷ us) (pi underscore g B) vs

-- `Fin K U us T rs`: where U is whole in the constructs K, the tokens us go on to the whole T, and rs is behind it.
pub data Fin : Frames → Syntax → List Spot → Syntax → List Spot → Type 0 where
  f_none : {U : Syntax} {us : List Spot} → Fin [] U us U us
  f_body : {K : Frames} {b : Binder} {x : Name} {A U T : Syntax} {us rs : List Spot} → Fin K (bound_syntax b x A U) us T rs → Fin (at_body b x A ∷ K) U us T rs
  f_let_body : {K : Frames} {x : Name} {d A U T : Syntax} {us rs : List Spot} → Fin K (let_in x d A U) us T rs → Fin (let_body x d A ∷ K) U us T rs
  f_arrow : {K : Frames} {A U T : Syntax} {us rs : List Spot} → Fin K (pi underscore A U) us T rs → Fin (behind_arrow A ∷ K) U us T rs
  f_type : {K : Frames} {b : Binder} {x : Name} {U V T : Syntax} {us vs rs : List Spot} {o : ℕ} → Reads us V vs → Fin K (bound_syntax b x U V) vs T rs → Fin (at_type b x ∷ K) U ((o, Dot) ∷ us) T rs
  f_let_value : {K : Frames} {x : Name} {U A V T : Syntax} {us vs ws rs : List Spot} {o n : ℕ} → Reads us A ((n, In) ∷ vs) → Reads vs V ws → Fin K (let_in x U A V) ws T rs → Fin (let_value x ∷ K) U ((o, Colon) ∷ us) T rs
  f_let_type : {K : Frames} {x : Name} {d U V T : Syntax} {us vs rs : List Spot} {o : ℕ} → Reads us V vs → Fin K (let_in x d U V) vs T rs → Fin (let_type x d ∷ K) U ((o, In) ∷ us) T rs
  f_parens : {K : Frames} {f : Option Syntax} {U g B T : Syntax} {us vs ws rs : List Spot} {o : ℕ} → Args (applied_to syntax f U) us g vs → Tail g vs B ws → Fin K B ws T rs → Fin (in_parens f ∷ K) U ((o, Close) ∷ us) T rs

-- `Goes S us T rs`: from the state S the tokens us give T, and rs is behind it.
pub data Goes : State Syntax → List Spot → Syntax → List Spot → Type 0 where
  g_begin : {K : Frames} {us vs rs : List Spot} {U T : Syntax} → Reads us U vs → Fin K U vs T rs → Goes (begin K) us T rs
  g_after : {K : Frames} {us vs ws rs : List Spot} {f g B T : Syntax} → Args f us g vs → Tail g vs B ws → Fin K B ws T rs → Goes (after K f) us T rs
  g_sign : {K : Frames} {b : Binder} {us vs ws rs : List Spot} {x : Name} {A V T : Syntax} {r o : ℕ} → Reads us A ((o, Dot) ∷ vs) → Reads vs V ws → Fin K (bound_syntax b x A V) ws T rs → Goes (binder_sign b x K) ((r, Colon) ∷ us) T rs
  g_binder : {K : Frames} {b : Binder} {us rs : List Spot} {x : Name} {T : Syntax} {q : ℕ} → is_identifier x ≡ true → Goes (binder_sign b x K) us T rs → Goes (binder b K) ((q, Word x) ∷ us) T rs
  g_let_sign : {K : Frames} {us vs ws ys rs : List Spot} {x : Name} {d A V T : Syntax} {r o n : ℕ} → Reads us d ((o, Colon) ∷ vs) → Reads vs A ((n, In) ∷ ws) → Reads ws V ys → Fin K (let_in x d A V) ys T rs → Goes (let_sign x K) ((r, Assign) ∷ us) T rs
  g_let : {K : Frames} {us rs : List Spot} {x : Name} {T : Syntax} {q : ℕ} → is_identifier x ≡ true → Goes (let_sign x K) us T rs → Goes (let_name K) ((q, Word x) ∷ us) T rs

join : {ts us ws : List Spot} {f B : Syntax} → App ts f us → Tail f us B ws → Reads ts B ws
join d no_arrow = application d
join d (an_arrow e) = arrow d e

-- One token in front.
go_lambda : {K : Frames} {us rs : List Spot} {T : Syntax} {p : ℕ} → Goes (binder Lam K) us T rs → Goes (begin K) ((p, Lambda) ∷ us) T rs
go_lambda (g_binder e (g_sign d1 d2 n)) = g_begin (abstraction e d1 d2) n

go_at : {K : Frames} {us rs : List Spot} {T : Syntax} {p : ℕ} → Goes (binder Pi K) us T rs → Goes (begin K) ((p, At) ∷ us) T rs
go_at (g_binder e (g_sign d1 d2 n)) = g_begin (product e d1 d2) n

go_let : {K : Frames} {us rs : List Spot} {T : Syntax} {p : ℕ} → Goes (let_name K) us T rs → Goes (begin K) ((p, Let) ∷ us) T rs
go_let (g_let e (g_let_sign d0 d1 d2 n)) = g_begin (definition e d0 d1 d2) n

go_first : {K : Frames} {ts us rs : List Spot} {a T : Syntax} → Atom ts a us → Goes (after K a) us T rs → Goes (begin K) ts T rs
go_first d (g_after e t n) = g_begin (join (atoms d e) t) n

go_next : {K : Frames} {ts us rs : List Spot} {f a T : Syntax} → Atom ts a us → Goes (after K (app f a)) us T rs → Goes (after K f) ts T rs
go_next d (g_after e t n) = g_after (one_more d e) t n

go_first_open : {K : Frames} {us rs : List Spot} {T : Syntax} {p : ℕ} → Goes (begin (in_parens None ∷ K)) us T rs → Goes (begin K) ((p, Open) ∷ us) T rs
go_first_open (g_begin d (f_parens e t n)) = g_begin (join (atoms (parentheses d) e) t) n

go_next_open : {K : Frames} {us rs : List Spot} {f T : Syntax} {p : ℕ} → Goes (begin (in_parens (Some f) ∷ K)) us T rs → Goes (after K f) ((p, Open) ∷ us) T rs
go_next_open (g_begin d (f_parens e t n)) = g_after (one_more (parentheses d) e) t n

go_arrow : {K : Frames} {us rs : List Spot} {f T : Syntax} {p : ℕ} → Goes (begin (behind_arrow f ∷ K)) us T rs → Goes (after K f) ((p, Arrow) ∷ us) T rs
go_arrow (g_begin d (f_arrow n)) = g_after no_more (an_arrow d) n

go_colon : {K : Frames} {b : Binder} {us rs : List Spot} {x : Name} {T : Syntax} {p : ℕ} → Goes (begin (at_type b x ∷ K)) us T rs → Goes (binder_sign b x K) ((p, Colon) ∷ us) T rs
go_colon (g_begin d (f_type e n)) = g_sign d e n

go_assign : {K : Frames} {us rs : List Spot} {x : Name} {T : Syntax} {p : ℕ} → Goes (begin (let_value x ∷ K)) us T rs → Goes (let_sign x K) ((p, Assign) ∷ us) T rs
go_assign (g_begin d (f_let_value e1 e2 n)) = g_let_sign d e1 e2 n

fin_close : {K : Frames} {us rs : List Spot} {f : Option Syntax} {U T : Syntax} {p : ℕ} → Goes (after K (applied_to syntax f U)) us T rs → Fin (in_parens f ∷ K) U ((p, Close) ∷ us) T rs
fin_close (g_after e t n) = f_parens e t n

fin_dot : {K : Frames} {b : Binder} {us rs : List Spot} {x : Name} {U T : Syntax} {p : ℕ} → Goes (begin (at_body b x U ∷ K)) us T rs → Fin (at_type b x ∷ K) U ((p, Dot) ∷ us) T rs
fin_dot (g_begin d (f_body n)) = f_type d n

fin_colon : {K : Frames} {us rs : List Spot} {x : Name} {U T : Syntax} {p : ℕ} → Goes (begin (let_type x U ∷ K)) us T rs → Fin (let_value x ∷ K) U ((p, Colon) ∷ us) T rs
fin_colon (g_begin d (f_let_type e n)) = f_let_value d e n

fin_in : {K : Frames} {us rs : List Spot} {x : Name} {d U T : Syntax} {p : ℕ} → Goes (begin (let_body x d U ∷ K)) us T rs → Fin (let_type x d ∷ K) U ((p, In) ∷ us) T rs
fin_in (g_begin d (f_let_body n)) = f_let_type d n

read_same : {T U : Syntax} {us vs : List Spot} → read T us ≡ read U vs → T ≡ U
read_same h = cc h

rest_same : {T U : Syntax} {us vs : List Spot} → read T us ≡ read U vs → us ≡ vs
rest_same h = cc h

fin_here : {U T : Syntax} {us rs : List Spot} → read U us ≡ read T rs → Fin [] U us T rs
fin_here {U} {T} {us} {rs} h = subst₂ (λ V vs. Fin [] U us V vs) (read_same h) (rest_same h) f_none

whole_sound : (length : ℕ) (K : Frames) (U T : Syntax) (rs : List Spot) → whole syntax length K U ≡ read T rs → Fin K U [] T rs
whole_sound length [] U T rs h = fin_here h
whole_sound length (at_body b x A ∷ K) U T rs h = f_body (whole_sound length K _ T rs h)
whole_sound length (let_body x d A ∷ K) U T rs h = f_let_body (whole_sound length K _ T rs h)
whole_sound length (behind_arrow A ∷ K) U T rs h = f_arrow (whole_sound length K _ T rs h)
whole_sound length (in_parens f ∷ K) U T rs h = absurd (cc h)
whole_sound length (at_type b x ∷ K) U T rs h = absurd (cc h)
whole_sound length (let_value x ∷ K) U T rs h = absurd (cc h)
whole_sound length (let_type x d ∷ K) U T rs h = absurd (cc h)

module _ (more : ℕ → Bool) (length : ℕ) (T : Syntax) (rs : List Spot) where
  closing_sound : (us : List Spot) (p : ℕ) → ((S : State Syntax) → run syntax more length S us ≡ read T rs → Goes S us T rs) → (K : Frames) (U : Syntax) (t : Token) → follow more length (closing syntax K U t) (p, t) us ≡ read T rs → Fin K U ((p, t) ∷ us) T rs
  unfolding follow
  closing_sound us p ih [] U t h = fin_here h
  closing_sound us p ih (at_body b x A ∷ K) U t h = f_body (closing_sound us p ih K _ t h)
  closing_sound us p ih (let_body x d A ∷ K) U t h = f_let_body (closing_sound us p ih K _ t h)
  closing_sound us p ih (behind_arrow A ∷ K) U t h = f_arrow (closing_sound us p ih K _ t h)
  closing_sound us p ih (in_parens f ∷ K) U Close h = fin_close (ih (after K (applied_to syntax f U)) h)
  closing_sound us p ih (in_parens f ∷ K) U _ h = absurd (cc h)
  closing_sound us p ih (at_type b x ∷ K) U Dot h = fin_dot (ih (begin (at_body b x U ∷ K)) h)
  closing_sound us p ih (at_type b x ∷ K) U _ h = absurd (cc h)
  closing_sound us p ih (let_value x ∷ K) U Colon h = fin_colon (ih (begin (let_type x U ∷ K)) h)
  closing_sound us p ih (let_value x ∷ K) U _ h = absurd (cc h)
  closing_sound us p ih (let_type x d ∷ K) U In h = fin_in (ih (begin (let_body x d U ∷ K)) h)
  closing_sound us p ih (let_type x d ∷ K) U _ h = absurd (cc h)

  opening_sound : (us : List Spot) (p : ℕ) (f : Option Syntax) (K : Frames) → follow more length (opening syntax more f K) (p, Open) us ≡ read T rs → run syntax more length (begin (in_parens f ∷ K)) us ≡ read T rs
  unfolding follow
  opening_sound us p f K h = elim (opening_is more f K) [
    | inl e ↦ ap (λ m. follow more length m (p, Open) us) (sym e) ∙ h
    | inr e ↦ absurd (wrong (ap (λ m. follow more length m (p, Open) us) (sym e) ∙ h))
  ]
    where
      wrong : ◌≡◌ {A = ParseOutcome Syntax} (too_deep p) (read T rs) → ⊥
      wrong e = cc e

  plain_sound : (us : List Spot) (q : ℕ) (x : Name) (S R : State Syntax) → (is_identifier x ≡ true → run syntax more length S us ≡ read T rs → Goes R ((q, Word x) ∷ us) T rs) → (c : Bool) → is_identifier x ≡ c → follow more length (if_plain syntax x S) (q, Word x) us ≡ read T rs → Goes R ((q, Word x) ∷ us) T rs
  unfolding follow
  plain_sound us q x S R ih true e h = ih e (ap (λ m. follow more length m (q, Word x) us) (sym (plain_goes x S e)) ∙ h)
  plain_sound us q x S R ih false e h = absurd (wrong (ap (λ m. follow more length m (q, Word x) us) (sym (plain_fails x S e)) ∙ h))
    where
      wrong : ◌≡◌ {A = ParseOutcome Syntax} (expected q name_wanted) (read T rs) → ⊥
      wrong e = cc e

  pub run_sound : (us : List Spot) (S : State Syntax) → run syntax more length S us ≡ read T rs → Goes S us T rs
  unfolding follow
  run_sound [] (begin K) h = absurd (cc h)
  run_sound [] (binder b K) h = absurd (cc h)
  run_sound [] (binder_sign b x K) h = absurd (cc h)
  run_sound [] (let_name K) h = absurd (cc h)
  run_sound [] (let_sign x K) h = absurd (cc h)
  run_sound [] (after K f) h = g_after no_more no_arrow (whole_sound length K f T rs h)
  run_sound ((p, Lambda) ∷ us) (begin K) h = go_lambda (run_sound us (binder Lam K) h)
  run_sound ((p, At) ∷ us) (begin K) h = go_at (run_sound us (binder Pi K) h)
  run_sound ((p, Let) ∷ us) (begin K) h = go_let (run_sound us (let_name K) h)
  run_sound ((p, Sort s) ∷ us) (begin K) h = go_first a_sort (run_sound us (after K (sort p s)) h)
  run_sound ((p, Word x) ∷ us) (begin K) h = go_first a_name (run_sound us (after K (name p x)) h)
  run_sound ((p, Open) ∷ us) (begin K) h = go_first_open (run_sound us (begin (in_parens None ∷ K)) (opening_sound us p None K h))
  run_sound ((p, _) ∷ us) (begin K) h = absurd (cc h)
  run_sound ((p, Word x) ∷ us) (binder b K) h = plain_sound us p x (binder_sign b x K) (binder b K) (λ e g. g_binder e (run_sound us (binder_sign b x K) g)) (is_identifier x) refl h
  run_sound ((p, _) ∷ us) (binder b K) h = absurd (cc h)
  run_sound ((p, Colon) ∷ us) (binder_sign b x K) h = go_colon (run_sound us (begin (at_type b x ∷ K)) h)
  run_sound ((p, _) ∷ us) (binder_sign b x K) h = absurd (cc h)
  run_sound ((p, Word x) ∷ us) (let_name K) h = plain_sound us p x (let_sign x K) (let_name K) (λ e g. g_let e (run_sound us (let_sign x K) g)) (is_identifier x) refl h
  run_sound ((p, _) ∷ us) (let_name K) h = absurd (cc h)
  run_sound ((p, Assign) ∷ us) (let_sign x K) h = go_assign (run_sound us (begin (let_value x ∷ K)) h)
  run_sound ((p, _) ∷ us) (let_sign x K) h = absurd (cc h)
  run_sound ((p, Sort s) ∷ us) (after K f) h = go_next a_sort (run_sound us (after K (app f (sort p s))) h)
  run_sound ((p, Word x) ∷ us) (after K f) h = go_next a_name (run_sound us (after K (app f (name p x))) h)
  run_sound ((p, Open) ∷ us) (after K f) h = go_next_open (run_sound us (begin (in_parens (Some f) ∷ K)) (opening_sound us p (Some f) K h))
  run_sound ((p, Arrow) ∷ us) (after K f) h = go_arrow (run_sound us (begin (behind_arrow f ∷ K)) h)
  run_sound ((p, t) ∷ us) (after K f) h = g_after no_more no_arrow (closing_sound us p (λ S e. run_sound us S e) K f t h)

-- Without a bound on parentheses the machine is never cut off.
abbrev pub always : ℕ → Bool
always n = true

closing_shallow : (K : Frames) (U : Syntax) (t : Token) → ¬ (closing syntax K U t ≡ deep)
closing_shallow [] U t h = cc h
closing_shallow (at_body b x A ∷ K) U t h = closing_shallow K _ t h
closing_shallow (let_body x d A ∷ K) U t h = closing_shallow K _ t h
closing_shallow (behind_arrow A ∷ K) U t h = closing_shallow K _ t h
closing_shallow (in_parens f ∷ K) U Close h = cc h
closing_shallow (in_parens f ∷ K) U _ h = cc h
closing_shallow (at_type b x ∷ K) U Dot h = cc h
closing_shallow (at_type b x ∷ K) U _ h = cc h
closing_shallow (let_value x ∷ K) U Colon h = cc h
closing_shallow (let_value x ∷ K) U _ h = cc h
closing_shallow (let_type x d ∷ K) U In h = cc h
closing_shallow (let_type x d ∷ K) U _ h = cc h

plain_shallow : (x : Name) (S : State Syntax) → ¬ (if_plain syntax x S ≡ deep)
plain_shallow x S = cases (is_identifier x)
  where
    cases : (b : Bool) → ¬ (cond b (go S) (fail name_wanted) ≡ deep)
    cases true h = cc h
    cases false h = cc h

pub step_shallow : (S : State Syntax) (t : Spot) → ¬ (step syntax always S t ≡ deep)
step_shallow (begin K) (p, Lambda) h = cc h
step_shallow (begin K) (p, Open) h = cc h
step_shallow (begin K) (p, t) h = cc h
step_shallow (binder b K) (p, Word x) h = plain_shallow x (binder_sign b x K) h
step_shallow (binder b K) (p, t) h = cc h
step_shallow (binder_sign b x K) (p, Colon) h = cc h
step_shallow (binder_sign b x K) (p, t) h = cc h
step_shallow (let_name K) (p, Word x) h = plain_shallow x (let_sign x K) h
step_shallow (let_name K) (p, t) h = cc h
step_shallow (let_sign x K) (p, Assign) h = cc h
step_shallow (let_sign x K) (p, t) h = cc h
step_shallow (after K f) (p, Sort s) h = cc h
step_shallow (after K f) (p, Word x) h = cc h
step_shallow (after K f) (p, Open) h = cc h
step_shallow (after K f) (p, Arrow) h = cc h
step_shallow (after K f) (p, t) h = closing_shallow K f t h

whole_shallow : (length p : ℕ) (K : Frames) (U : Syntax) → ¬ (whole syntax length K U ≡ too_deep p)
whole_shallow length p [] U h = cc h
whole_shallow length p (at_body b x A ∷ K) U h = whole_shallow length p K _ h
whole_shallow length p (let_body x d A ∷ K) U h = whole_shallow length p K _ h
whole_shallow length p (behind_arrow A ∷ K) U h = whole_shallow length p K _ h
whole_shallow length p (in_parens f ∷ K) U h = cc h
whole_shallow length p (at_type b x ∷ K) U h = cc h
whole_shallow length p (let_value x ∷ K) U h = cc h
whole_shallow length p (let_type x d ∷ K) U h = cc h

pub end_shallow : (length p : ℕ) (S : State Syntax) → ¬ (at_end syntax length S ≡ too_deep p)
end_shallow length p (begin K) h = cc h
end_shallow length p (binder b K) h = cc h
end_shallow length p (binder_sign b x K) h = cc h
end_shallow length p (let_name K) h = cc h
end_shallow length p (let_sign x K) h = cc h
end_shallow length p (after K f) h = whole_shallow length p K f h

followed_shallow : (length p : ℕ) (t : Spot) (us : List Spot) → ((S : State Syntax) → ¬ (run syntax always length S us ≡ too_deep p)) → (m : Move Syntax) → ¬ (m ≡ deep) → ¬ (follow always length m t us ≡ too_deep p)
unfolding follow
followed_shallow length p t us ih (go R) n h = ih R h
followed_shallow length p t us ih (stay T) n h = cc h
followed_shallow length p t us ih (fail k) n h = cc h
followed_shallow length p t us ih deep n h = n refl

pub run_shallow : (length p : ℕ) (us : List Spot) (S : State Syntax) → ¬ (run syntax always length S us ≡ too_deep p)
unfolding follow
run_shallow length p [] S h = end_shallow length p S h
run_shallow length p (t ∷ us) S h = followed_shallow length p t us (λ R. run_shallow length p us R) (step syntax always S t) (step_shallow S t) h

reads_goes : {us rs : List Spot} {T : Syntax} → Goes (begin []) us T rs → Reads us T rs
reads_goes (g_begin d f_none) = d

-- What the machine answers is in the grammar, with the tokens behind it.
pub machine_sound : (more : ℕ → Bool) (length : ℕ) (ts : List Spot) (T : Syntax) (rs : List Spot) → run syntax more length (begin []) ts ≡ read T rs → Reads ts T rs
machine_sound more length ts T rs h = reads_goes (run_sound more length T rs ts (begin []) h)

-- What is in the grammar the machine answers, unless too many parentheses are open.
pub machine_complete : (more : ℕ → Bool) (length : ℕ) (ts : List Spot) (T : Syntax) → Reads ts T [] → Agrees (run syntax more length (begin []) ts) (read T [])
unfolding ended Ends
machine_complete more length ts T d = reads_run more length d tt []

pub read_always : (length : ℕ) (ts : List Spot) (T : Syntax) → Reads ts T [] → run syntax always length (begin []) ts ≡ read T []
read_always length ts T d = answer (machine_complete always length ts T d)
  where
    answer : Agrees (run syntax always length (begin []) ts) (read T []) → run syntax always length (begin []) ts ≡ read T []
    answer (exactly e) = e
    answer (cut_off p e) = absurd (run_shallow length p ts (begin []) e)

-- A list of tokens is the text of at most one syntax.
pub one_syntax : (ts : List Spot) (T U : Syntax) → Reads ts T [] → Reads ts U [] → T ≡ U
one_syntax ts T U d e = read_same (sym (read_always 0 ts T d) ∙ read_always 0 ts U e)
