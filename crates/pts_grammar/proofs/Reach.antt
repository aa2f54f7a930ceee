-- Where the machine comes, and that it can always come to an end.
use Rattle.std.proofs.Common.{ℕ, ◌≡◌, refl, sym, ◌∙◌, ap, subst, List, [], ◌∷◌, ◌++◌, Bool, Option, Some, None, ◌⊎◌, inl, inr}
use Rattle.std.specs.Prelude.{codes}
use Rattle.pts_names.specs.Name.{Name, underscore}
use Rattle.pts_tokens.specs.declared.token.Token.TheVariants.{In, Colon, Assign, Dot, Open, Close, Sort, Name as Word}
use Rattle.pts_tokens.specs.Tokens.{Spot}
use Rattle.pts_grammar.specs.declared.frame.Binder.{Binder}
use Rattle.pts_grammar.specs.Syntax.{Syntax, sort, pi, let_in}
use Rattle.pts_grammar.specs.Machine.{syntax, bound_syntax, in_parens, at_type, at_body, let_value, let_type, let_body, behind_arrow, State, begin, binder, binder_sign, let_name, let_sign, after, Move, go, stay, fail, deep, read, applied_to, step, run}
use Rattle.pts_grammar.proofs.Complete.{Frames, follow, Ends, continues, run_ends, ended_body, ended_let, ended_arrow, binds, defines, opening_is, Agrees, exactly, cut_off}
use Rattle.pts_grammar.proofs.Sound.{always}
use Rattle.pts_grammar.proofs.Underscore.{underscore_is_identifier}

-- With a bound on parentheses a step is the one without, or it is cut off.
pub step_same : (more : ℕ → Bool) (S : State Syntax) (t : Spot) → (step syntax more S t ≡ step syntax always S t) ⊎ (step syntax more S t ≡ deep)
step_same more (begin K) (p, Open) = opening_is more None K
step_same more (begin K) (p, t) = inl refl
step_same more (binder b K) (p, Word x) = inl refl
step_same more (binder b K) (p, t) = inl refl
step_same more (binder_sign b x K) (p, Colon) = inl refl
step_same more (binder_sign b x K) (p, t) = inl refl
step_same more (let_name K) (p, Word x) = inl refl
step_same more (let_name K) (p, t) = inl refl
step_same more (let_sign x K) (p, Assign) = inl refl
step_same more (let_sign x K) (p, t) = inl refl
step_same more (after K f) (p, Open) = opening_is more (Some f) K
step_same more (after K f) (p, t) = inl refl

both : (more : ℕ → Bool) (length : ℕ) (t : Spot) (us : List Spot) → ((S : State Syntax) → Agrees (run syntax more length S us) (run syntax always length S us)) → (m : Move Syntax) → Agrees (follow more length m t us) (follow always length m t us)
unfolding follow
both more length t us h (go R) = h R
both more length t us h (stay T) = exactly refl
both more length t us h (fail k) = exactly refl
both more length t us h deep = exactly refl

pub bound_cuts : (more : ℕ → Bool) (length : ℕ) (ts : List Spot) (S : State Syntax) → Agrees (run syntax more length S ts) (run syntax always length S ts)
unfolding follow
bound_cuts more length [] S = exactly refl
bound_cuts more length (t ∷ us) S = elim (step_same more S t) [
  | inl e ↦ subst (λ m. Agrees (follow more length m t us) (follow always length (step syntax always S t) t us)) (sym e) (both more length t us (bound_cuts more length us) (step syntax always S t))
  | inr e ↦ cut_off t.0 (ap (λ m. follow more length m t us) e)
]

-- Where the machine comes by tokens that all fit.
abbrev pub reach : State Syntax → List Spot → Option (State Syntax)
reach S [] = Some S
reach S (t ∷ us) = elim (step syntax always S t) [ go R ↦ reach R us | stay T ↦ None | fail k ↦ None | deep ↦ None ]

reach_move : (m : Move Syntax) (t : Spot) (vs us : List Spot) (length : ℕ) (R : State Syntax) → ((S : State Syntax) → reach S vs ≡ Some R → run syntax always length S (vs ++ us) ≡ run syntax always length R us) → elim m [ go Q ↦ reach Q vs | stay T ↦ None | fail k ↦ None | deep ↦ None ] ≡ Some R → follow always length m t (vs ++ us) ≡ run syntax always length R us
unfolding follow
reach_move (go Q) t vs us length R h e = h Q e
reach_move (stay T) t vs us length R h e = absurd (cc e)
reach_move (fail k) t vs us length R h e = absurd (cc e)
reach_move deep t vs us length R h e = absurd (cc e)

pub reach_run : (vs us : List Spot) (length : ℕ) (S R : State Syntax) → reach S vs ≡ Some R → run syntax always length S (vs ++ us) ≡ run syntax always length R us
unfolding follow
reach_run [] us length S R e = ap (λ Q. run syntax always length Q us) (let m : S ≡ R = cc e in m)
reach_run (t ∷ vs) us length S R e = reach_move (step syntax always S t) t vs us length R (λ Q q. reach_run vs us length Q R q) e

reach_more_move : (m : Move Syntax) (vs : List Spot) (t : Spot) (R Q : State Syntax) → ((S : State Syntax) → reach S vs ≡ Some R → reach S (vs ++ t ∷ []) ≡ Some Q) → elim m [ go P ↦ reach P vs | stay T ↦ None | fail k ↦ None | deep ↦ None ] ≡ Some R → elim m [ go P ↦ reach P (vs ++ t ∷ []) | stay T ↦ None | fail k ↦ None | deep ↦ None ] ≡ Some Q
reach_more_move (go P) vs t R Q h e = h P e
reach_more_move (stay T) vs t R Q h e = absurd (cc e)
reach_more_move (fail k) vs t R Q h e = absurd (cc e)
reach_more_move deep vs t R Q h e = absurd (cc e)

pub reach_more : (vs : List Spot) (t : Spot) (S R Q : State Syntax) → reach S vs ≡ Some R → step syntax always R t ≡ go Q → reach S (vs ++ t ∷ []) ≡ Some Q
reach_more [] t S R Q e h = ap (λ m. elim m [ go P ↦ reach P [] | stay T ↦ None | fail k ↦ None | deep ↦ None ]) (ap (λ P. step syntax always P t) (let m : S ≡ R = cc e in m) ∙ h)
reach_more (u ∷ vs) t S R Q e h = reach_more_move (step syntax always S u) vs t R Q (λ P q. reach_more vs t P R Q q h) e

-- A sort, and a name of one part.
abbrev pub star : Spot
star = (0, Sort (codes "*"))

abbrev pub a_star : Syntax
a_star = sort 0 (codes "*")

abbrev pub letter : Name
letter = underscore

-- Tokens that make a whole of what is open.
abbrev pub finish : Frames → List Spot
finish [] = []
finish (in_parens f ∷ K) = (0, Close) ∷ finish K
finish (at_type b x ∷ K) = (0, Dot) ∷ star ∷ finish K
finish (let_value x ∷ K) = (0, Colon) ∷ star ∷ (0, In) ∷ star ∷ finish K
finish (let_type x d ∷ K) = (0, In) ∷ star ∷ finish K
finish (at_body b x A ∷ K) = finish K
finish (let_body x d A ∷ K) = finish K
finish (behind_arrow A ∷ K) = finish K

finish_ends : (K : Frames) → Ends (finish K)
unfolding Ends continues
finish_ends [] = tt
finish_ends (in_parens f ∷ K) = refl
finish_ends (at_type b x ∷ K) = refl
finish_ends (let_value x ∷ K) = refl
finish_ends (let_type x d ∷ K) = refl
finish_ends (at_body b x A ∷ K) = finish_ends K
finish_ends (let_body x d A ∷ K) = finish_ends K
finish_ends (behind_arrow A ∷ K) = finish_ends K

abbrev pub Finishes : State Syntax → List Spot → Type 0
Finishes S us = (T : Syntax) × (run syntax always 0 S us ≡ read T [])

close_body : (K : Frames) (b : Binder) (x : Name) (A f : Syntax) → Finishes (after K (bound_syntax b x A f)) (finish K) → Finishes (after (at_body b x A ∷ K) f) (finish K)
close_body K b x A f h = (h.0, run_ends always 0 (at_body b x A ∷ K) f (finish K) (finish_ends K) ∙ (ended_body always 0 K b x A f (finish K) ∙ (sym (run_ends always 0 K (bound_syntax b x A f) (finish K) (finish_ends K)) ∙ h.1)))

close_let : (K : Frames) (x : Name) (d A f : Syntax) → Finishes (after K (let_in x d A f)) (finish K) → Finishes (after (let_body x d A ∷ K) f) (finish K)
close_let K x d A f h = (h.0, run_ends always 0 (let_body x d A ∷ K) f (finish K) (finish_ends K) ∙ (ended_let always 0 K x d A f (finish K) ∙ (sym (run_ends always 0 K (let_in x d A f) (finish K) (finish_ends K)) ∙ h.1)))

close_arrow : (K : Frames) (A f : Syntax) → Finishes (after K (pi underscore A f)) (finish K) → Finishes (after (behind_arrow A ∷ K) f) (finish K)
close_arrow K A f h = (h.0, run_ends always 0 (behind_arrow A ∷ K) f (finish K) (finish_ends K) ∙ (ended_arrow always 0 K A f (finish K) ∙ (sym (run_ends always 0 K (pi underscore A f) (finish K) (finish_ends K)) ∙ h.1)))

finish_after : (K : Frames) (f : Syntax) → Finishes (after K f) (finish K)
finish_after [] f = (f, refl)
finish_after (in_parens g ∷ K) f = let h = finish_after K (applied_to syntax g f) in (h.0, h.1)
finish_after (at_type b x ∷ K) f = let h = close_body K b x f a_star (finish_after K _) in (h.0, h.1)
finish_after (let_value x ∷ K) f = let h = close_let K x f a_star a_star (finish_after K _) in (h.0, h.1)
finish_after (let_type x d ∷ K) f = let h = close_let K x d f a_star (finish_after K _) in (h.0, h.1)
finish_after (at_body b x A ∷ K) f = close_body K b x A f (finish_after K _)
finish_after (let_body x d A ∷ K) f = close_let K x d A f (finish_after K _)
finish_after (behind_arrow A ∷ K) f = close_arrow K A f (finish_after K _)

abbrev pub finish_state : State Syntax → List Spot
finish_state (begin K) = star ∷ finish K
finish_state (after K f) = finish K
finish_state (binder_sign b x K) = (0, Colon) ∷ star ∷ (0, Dot) ∷ star ∷ finish K
finish_state (binder b K) = (0, Word letter) ∷ (0, Colon) ∷ star ∷ (0, Dot) ∷ star ∷ finish K
finish_state (let_sign x K) = (0, Assign) ∷ star ∷ (0, Colon) ∷ star ∷ (0, In) ∷ star ∷ finish K
finish_state (let_name K) = (0, Word letter) ∷ (0, Assign) ∷ star ∷ (0, Colon) ∷ star ∷ (0, In) ∷ star ∷ finish K

finish_sign : (K : Frames) (b : Binder) (x : Name) → Finishes (binder_sign b x K) ((0, Colon) ∷ star ∷ (0, Dot) ∷ star ∷ finish K)
finish_sign K b x = let h = close_body K b x a_star a_star (finish_after K _) in (h.0, h.1)

finish_let : (K : Frames) (x : Name) → Finishes (let_sign x K) ((0, Assign) ∷ star ∷ (0, Colon) ∷ star ∷ (0, In) ∷ star ∷ finish K)
finish_let K x = let h = close_let K x a_star a_star a_star (finish_after K _) in (h.0, h.1)

-- From every state some tokens lead to a whole term.
pub finishes : (S : State Syntax) → Finishes S (finish_state S)
finishes (begin K) = let h = finish_after K a_star in (h.0, h.1)
finishes (after K f) = finish_after K f
finishes (binder_sign b x K) = finish_sign K b x
finishes (binder b K) = let h = finish_sign K b letter in (h.0, binds always 0 b letter K 0 ((0, Colon) ∷ star ∷ (0, Dot) ∷ star ∷ finish K) underscore_is_identifier ∙ h.1)
finishes (let_sign x K) = finish_let K x
finishes (let_name K) = let h = finish_let K letter in (h.0, defines always 0 letter K 0 ((0, Assign) ∷ star ∷ (0, Colon) ∷ star ∷ (0, In) ∷ star ∷ finish K) underscore_is_identifier ∙ h.1)
