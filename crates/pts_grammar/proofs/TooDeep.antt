-- Where too many parentheses are open.
use Rattle.std.proofs.Common.{ℕ, ◌≡◌, ◌≤◌, refl, sym, ◌∙◌, ap, subst, arith, List, [], ◌∷◌, ◌++◌, Bool, true, false, cond, Option, Some, None, inl, inr, suc, pred, append_assoc, nat_lt, ◌⊎◌}
use Rattle.pts_names.specs.Name.{Name, is_identifier}
use Rattle.pts_tokens.specs.declared.token.Token.{Token}
use Rattle.pts_tokens.specs.declared.token.Token.TheVariants.{Lambda, At, Let, In, Colon, Assign, Dot, Arrow, Open, Close, Sort, Name as Word}
use Rattle.pts_tokens.specs.Tokens.{Spot}
use Rattle.pts_grammar.specs.declared.kind.Kind.TheVariants.{Name as name_wanted}
use Rattle.pts_grammar.specs.Syntax.{Syntax}
use Rattle.pts_grammar.specs.Machine.{syntax, in_parens, at_type, at_body, let_value, let_type, let_body, behind_arrow, State, begin, binder, binder_sign, let_name, let_sign, after, Move, go, stay, fail, deep, ParseOutcome, too_deep, opened, applied_to, closing, opening, if_plain, step, run, read, at_end}
use Rattle.pts_grammar.specs.Refusals.{open_behind, TooMany, too_many, NoneTooMany, FirstTooMany, first_too_many}
use Rattle.pts_grammar.proofs.Complete.{Frames, follow}
use Rattle.pts_grammar.proofs.Sound.{always, end_shallow, step_shallow, read_always}
use Rattle.pts_grammar.proofs.Reach.{reach, reach_run, reach_more, step_same}
use Rattle.pts_grammar.proofs.Refusals.{viable_here}

abbrev pub frames : State Syntax → Frames
frames (begin K) = K
frames (binder b K) = K
frames (binder_sign b x K) = K
frames (let_name K) = K
frames (let_sign x K) = K
frames (after K f) = K

-- How a token changes the number of open parentheses.
abbrev pub changed : ℕ → Token → ℕ
changed n Open = suc n
changed n Close = pred n
changed n t = n

same_frames : (P Q : State Syntax) → go P ≡ go Q → opened (frames Q) ≡ opened (frames P)
same_frames P Q h = ap (λ S. opened (frames S)) (let m : Q ≡ P = cc h in m)

closing_count : (K : Frames) (f : Syntax) (t : Token) (Q : State Syntax) → closing syntax K f t ≡ go Q → opened (frames Q) ≡ changed (opened K) t
closing_count [] f t Q h = absurd (cc h)
closing_count (at_body b x A ∷ K) f t Q h = closing_count K _ t Q h
closing_count (let_body x d A ∷ K) f t Q h = closing_count K _ t Q h
closing_count (behind_arrow A ∷ K) f t Q h = closing_count K _ t Q h
closing_count (in_parens g ∷ K) f Close Q h = same_frames (after K (applied_to syntax g f)) Q h
closing_count (in_parens g ∷ K) f t Q h = absurd (cc h)
closing_count (at_type b x ∷ K) f Dot Q h = same_frames (begin (at_body b x f ∷ K)) Q h
closing_count (at_type b x ∷ K) f t Q h = absurd (cc h)
closing_count (let_value x ∷ K) f Colon Q h = same_frames (begin (let_type x f ∷ K)) Q h
closing_count (let_value x ∷ K) f t Q h = absurd (cc h)
closing_count (let_type x d ∷ K) f In Q h = same_frames (begin (let_body x d f ∷ K)) Q h
closing_count (let_type x d ∷ K) f t Q h = absurd (cc h)

plain_count : (x : Name) (S Q : State Syntax) → if_plain syntax x S ≡ go Q → opened (frames Q) ≡ opened (frames S)
plain_count x S Q = cases (is_identifier x)
  where
    cases : (b : Bool) → cond b (go S) (fail name_wanted) ≡ go Q → opened (frames Q) ≡ opened (frames S)
    cases true h = same_frames S Q h
    cases false h = absurd (cc h)

step_count : (S : State Syntax) (p : ℕ) (t : Token) (Q : State Syntax) → step syntax always S (p, t) ≡ go Q → opened (frames Q) ≡ changed (opened (frames S)) t
step_count (begin K) p Lambda Q h = same_frames _ Q h
step_count (begin K) p At Q h = same_frames _ Q h
step_count (begin K) p Let Q h = same_frames _ Q h
step_count (begin K) p (Sort s) Q h = same_frames _ Q h
step_count (begin K) p (Word x) Q h = same_frames _ Q h
step_count (begin K) p Open Q h = same_frames _ Q h
step_count (begin K) p t Q h = absurd (cc h)
step_count (binder b K) p (Word x) Q h = plain_count x (binder_sign b x K) Q h
step_count (binder b K) p t Q h = absurd (cc h)
step_count (binder_sign b x K) p Colon Q h = same_frames _ Q h
step_count (binder_sign b x K) p t Q h = absurd (cc h)
step_count (let_name K) p (Word x) Q h = plain_count x (let_sign x K) Q h
step_count (let_name K) p t Q h = absurd (cc h)
step_count (let_sign x K) p Assign Q h = same_frames _ Q h
step_count (let_sign x K) p t Q h = absurd (cc h)
step_count (after K f) p (Sort s) Q h = same_frames _ Q h
step_count (after K f) p (Word x) Q h = same_frames _ Q h
step_count (after K f) p Open Q h = same_frames _ Q h
step_count (after K f) p Arrow Q h = same_frames _ Q h
step_count (after K f) p t Q h = closing_count K f t Q h

open_snoc : (n p : ℕ) (vs : List Spot) (t : Token) → open_behind n (vs ++ (p, t) ∷ []) ≡ changed (open_behind n vs) t
open_snoc n p [] Open = refl
open_snoc n p [] Close = refl
open_snoc n p [] t = refl
open_snoc n p ((q, Open) ∷ vs) t = open_snoc (suc n) p vs t
open_snoc n p ((q, Close) ∷ vs) t = open_snoc (pred n) p vs t
open_snoc n p ((q, u) ∷ vs) t = open_snoc n p vs t

-- Only an opening parenthesis is refused so, and only where the bound is reached.
abbrev pub below : ℕ → ℕ → Bool
below limit n = nat_lt n limit

opening_deep : (limit : ℕ) (f : Option Syntax) (K : Frames) → opening syntax (below limit) f K ≡ deep → limit ≤ opened K
opening_deep limit f K h = cases (nat_lt (opened K) limit) refl h
  where
    cases : (b : Bool) → nat_lt (opened K) limit ≡ b → cond b (go (begin (in_parens f ∷ K))) deep ≡ deep → limit ≤ opened K
    cases true e g = absurd (cc g)
    cases false e g = grind (arith, e)

data Full (limit : ℕ) (R : State Syntax) (q : ℕ) (t : Token) : Type 0 where
  full : (Q : State Syntax) → t ≡ Open → limit ≤ opened (frames R) → step syntax always R (q, Open) ≡ go Q → Full limit R q t

same_deep : (limit : ℕ) (R : State Syntax) (q : ℕ) (t : Token) → step syntax (below limit) R (q, t) ≡ deep → step syntax always R (q, t) ≡ step syntax (below limit) R (q, t) → Full limit R q t
same_deep limit R q t h e = absurd (step_shallow R (q, t) (e ∙ h))

deep_open : (limit : ℕ) (R : State Syntax) (q : ℕ) (t : Token) → step syntax (below limit) R (q, t) ≡ deep → Full limit R q t
deep_open limit (begin K) q Open h = full (begin (in_parens None ∷ K)) refl (opening_deep limit None K h) refl
deep_open limit (begin K) q t h = same_deep limit (begin K) q t h refl
deep_open limit (binder b K) q (Word x) h = same_deep limit (binder b K) q (Word x) h refl
deep_open limit (binder b K) q t h = same_deep limit (binder b K) q t h refl
deep_open limit (binder_sign b x K) q Colon h = same_deep limit (binder_sign b x K) q Colon h refl
deep_open limit (binder_sign b x K) q t h = same_deep limit (binder_sign b x K) q t h refl
deep_open limit (let_name K) q (Word x) h = same_deep limit (let_name K) q (Word x) h refl
deep_open limit (let_name K) q t h = same_deep limit (let_name K) q t h refl
deep_open limit (let_sign x K) q Assign h = same_deep limit (let_sign x K) q Assign h refl
deep_open limit (let_sign x K) q t h = same_deep limit (let_sign x K) q t h refl
deep_open limit (after K f) q Open h = full (begin (in_parens (Some f) ∷ K)) refl (opening_deep limit (Some f) K h) refl
deep_open limit (after K f) q t h = same_deep limit (after K f) q t h refl

-- The machine with a bound goes as far through tokens that fit, or is cut off.
goes_same : (limit length : ℕ) (t : Spot) (vs us : List Spot) (R : State Syntax) → ((S : State Syntax) → reach S vs ≡ Some R → (run syntax (below limit) length S (vs ++ us) ≡ run syntax (below limit) length R us) ⊎ ((p : ℕ) × (run syntax (below limit) length S (vs ++ us) ≡ too_deep p))) → (m : Move Syntax) → elim m [ go Q ↦ reach Q vs | stay T ↦ None | fail k ↦ None | deep ↦ None ] ≡ Some R → (follow (below limit) length m t (vs ++ us) ≡ run syntax (below limit) length R us) ⊎ ((p : ℕ) × (follow (below limit) length m t (vs ++ us) ≡ too_deep p))
unfolding follow
goes_same limit length t vs us R ih (go Q) e = ih Q e
goes_same limit length t vs us R ih (stay T) e = absurd (cc e)
goes_same limit length t vs us R ih (fail k) e = absurd (cc e)
goes_same limit length t vs us R ih deep e = absurd (cc e)

bounded_reach : (limit length : ℕ) (vs us : List Spot) (S R : State Syntax) → reach S vs ≡ Some R → (run syntax (below limit) length S (vs ++ us) ≡ run syntax (below limit) length R us) ⊎ ((p : ℕ) × (run syntax (below limit) length S (vs ++ us) ≡ too_deep p))
unfolding follow
bounded_reach limit length [] us S R e = inl (ap (λ Q. run syntax (below limit) length Q us) (let m : S ≡ R = cc e in m))
bounded_reach limit length (t ∷ vs) us S R e = elim (step_same (below limit) S t) [
  | inl w ↦ subst (λ m. (follow (below limit) length m t (vs ++ us) ≡ run syntax (below limit) length R us) ⊎ ((p : ℕ) × (follow (below limit) length m t (vs ++ us) ≡ too_deep p))) (sym w) (goes_same limit length t vs us R (λ Q q. bounded_reach limit length vs us Q R q) (step syntax always S t) e)
  | inr w ↦ inr (t.0, ap (λ m. follow (below limit) length m t (vs ++ us)) w)
]

-- How many are open where it comes.
open_cons : (n p : ℕ) (t : Token) (vs : List Spot) → open_behind n ((p, t) ∷ vs) ≡ open_behind (changed n t) vs
open_cons n p Open vs = refl
open_cons n p Close vs = refl
open_cons n p t vs = refl

count_move : (t : Spot) (vs : List Spot) (R S : State Syntax) → ((Q : State Syntax) → reach Q vs ≡ Some R → opened (frames R) ≡ open_behind (opened (frames Q)) vs) → (m : Move Syntax) → step syntax always S t ≡ m → elim m [ go Q ↦ reach Q vs | stay T ↦ None | fail k ↦ None | deep ↦ None ] ≡ Some R → opened (frames R) ≡ open_behind (opened (frames S)) (t ∷ vs)
count_move t vs R S ih (go Q) w e = ih Q e ∙ (ap (λ n. open_behind n vs) (step_count S t.0 t.1 Q w) ∙ sym (open_cons (opened (frames S)) t.0 t.1 vs))
count_move t vs R S ih (stay T) w e = absurd (cc e)
count_move t vs R S ih (fail k) w e = absurd (cc e)
count_move t vs R S ih deep w e = absurd (cc e)

reach_count : (vs : List Spot) (S R : State Syntax) → reach S vs ≡ Some R → opened (frames R) ≡ open_behind (opened (frames S)) vs
reach_count [] S R e = ap (λ Q. opened (frames Q)) (let m : R ≡ S = cc e in m)
reach_count (t ∷ vs) S R e = count_move t vs R S (λ Q q. reach_count vs Q R q) (step syntax always S t) refl e

-- Tokens that can go on to a term lead somewhere.
reach_viable_move : (t : Spot) (vs us : List Spot) (T : Syntax) → ((S : State Syntax) → run syntax always 0 S (vs ++ us) ≡ read T [] → (R : State Syntax) × (reach S vs ≡ Some R)) → (m : Move Syntax) → follow always 0 m t (vs ++ us) ≡ read T [] → (R : State Syntax) × (elim m [ go Q ↦ reach Q vs | stay T ↦ None | fail k ↦ None | deep ↦ None ] ≡ Some R)
unfolding follow
reach_viable_move t vs us T ih (go Q) h = ih Q h
reach_viable_move t vs us T ih (stay U) h = let m : t ∷ (vs ++ us) ≡ [] = cc h in absurd (cc m)
reach_viable_move t vs us T ih (fail k) h = absurd (cc h)
reach_viable_move t vs us T ih deep h = absurd (cc h)

pub reach_viable : (vs us : List Spot) (T : Syntax) (S : State Syntax) → run syntax always 0 S (vs ++ us) ≡ read T [] → (R : State Syntax) × (reach S vs ≡ Some R)
unfolding follow
reach_viable [] us T S h = (S, refl)
reach_viable (t ∷ vs) us T S h = reach_viable_move t vs us T (λ Q q. reach_viable vs us T Q q) (step syntax always S t) h

-- An opening parenthesis that fits is refused where the bound is reached.
opening_full : (limit : ℕ) (f : Option Syntax) (K : Frames) → limit ≤ opened K → opening syntax (below limit) f K ≡ deep
opening_full limit f K h = ap (λ b. cond b (go (begin (in_parens f ∷ K))) deep) (full_is (opened K) limit h)
  where
    full_is : (n m : ℕ) → m ≤ n → nat_lt n m ≡ false
    full_is n m h = grind (arith, h)

step_full : (limit : ℕ) (R : State Syntax) (q : ℕ) (us : List Spot) (T : Syntax) → limit ≤ opened (frames R) → run syntax always 0 R ((q, Open) ∷ us) ≡ read T [] → step syntax (below limit) R (q, Open) ≡ deep
step_full limit (begin K) q us T h e = opening_full limit None K h
step_full limit (after K f) q us T h e = opening_full limit (Some f) K h
step_full limit (binder b K) q us T h e = absurd (cc e)
step_full limit (binder_sign b x K) q us T h e = absurd (cc e)
step_full limit (let_name K) q us T h e = absurd (cc e)
step_full limit (let_sign x K) q us T h e = absurd (cc e)

-- So where a parenthesis is one too many the machine is cut off.
too_many_cuts : (limit length p : ℕ) (ts : List Spot) → TooMany limit ts p → (q : ℕ) × (run syntax (below limit) length (begin []) ts ≡ too_deep q)
unfolding follow
too_many_cuts limit length p ts (too_many vs us s (xs, T, d) b) =
    let all : run syntax always 0 (begin []) (vs ++ (p, Open) ∷ xs) ≡ read T [] = ap (run syntax always 0 (begin [])) (sym (append_assoc vs ((p, Open) ∷ []) xs)) ∙ read_always 0 _ T d in
    let (R, e) = reach_viable vs ((p, Open) ∷ xs) T (begin []) all in
    let here : run syntax always 0 R ((p, Open) ∷ xs) ≡ read T [] = sym (reach_run vs ((p, Open) ∷ xs) 0 (begin []) R e) ∙ all in
    let at_bound : step syntax (below limit) R (p, Open) ≡ deep = step_full limit R p xs T (subst (λ n. limit ≤ n) (sym (reach_count vs (begin []) R e)) b) here in
    by R at_bound (bounded_reach limit length vs ((p, Open) ∷ us) (begin []) R e)
  where
    by : (R : State Syntax) → step syntax (below limit) R (p, Open) ≡ deep → (run syntax (below limit) length (begin []) (vs ++ (p, Open) ∷ us) ≡ run syntax (below limit) length R ((p, Open) ∷ us)) ⊎ ((q : ℕ) × (run syntax (below limit) length (begin []) (vs ++ (p, Open) ∷ us) ≡ too_deep q)) → (q : ℕ) × (run syntax (below limit) length (begin []) ts ≡ too_deep q)
    by R h (inl w) = (p, ap (run syntax (below limit) length (begin [])) s ∙ (w ∙ ap (λ m. follow (below limit) length m (p, Open) us) h))
    by R h (inr (q, w)) = (q, ap (run syntax (below limit) length (begin [])) s ∙ w)

-- And where it is not cut off there is none.
pub none_too_many : (limit length : ℕ) (ts : List Spot) (o : ParseOutcome Syntax) → run syntax (below limit) length (begin []) ts ≡ o → ((q : ℕ) → ¬ (o ≡ too_deep q)) → NoneTooMany limit ts
none_too_many limit length ts o h n p t =
    let (q, w) = too_many_cuts limit length p ts t in
    n q (sym h ∙ w)

-- The tokens before the machine is cut off have none.
abbrev pub passes : ℕ → State Syntax → List Spot → Option (State Syntax)
passes limit S [] = Some S
passes limit S (t ∷ us) = elim (step syntax (below limit) S t) [ go R ↦ passes limit R us | stay T ↦ None | fail k ↦ None | deep ↦ None ]

passes_move : (limit : ℕ) (t : Spot) (vs : List Spot) (R : State Syntax) → ((S : State Syntax) → passes limit S vs ≡ Some R → run syntax (below limit) 0 S vs ≡ at_end syntax 0 R) → (m : Move Syntax) → elim m [ go Q ↦ passes limit Q vs | stay T ↦ None | fail k ↦ None | deep ↦ None ] ≡ Some R → follow (below limit) 0 m t vs ≡ at_end syntax 0 R
unfolding follow
passes_move limit t vs R ih (go Q) e = ih Q e
passes_move limit t vs R ih (stay T) e = absurd (cc e)
passes_move limit t vs R ih (fail k) e = absurd (cc e)
passes_move limit t vs R ih deep e = absurd (cc e)

passes_end : (limit : ℕ) (vs : List Spot) (S R : State Syntax) → passes limit S vs ≡ Some R → run syntax (below limit) 0 S vs ≡ at_end syntax 0 R
unfolding follow
passes_end limit [] S R e = ap (at_end syntax 0) (let m : S ≡ R = cc e in m)
passes_end limit (t ∷ vs) S R e = passes_move limit t vs R (λ Q q. passes_end limit vs Q R q) (step syntax (below limit) S t) e

passes_more_move : (limit : ℕ) (m : Move Syntax) (vs : List Spot) (t : Spot) (R Q : State Syntax) → ((S : State Syntax) → passes limit S vs ≡ Some R → passes limit S (vs ++ t ∷ []) ≡ Some Q) → elim m [ go P ↦ passes limit P vs | stay T ↦ None | fail k ↦ None | deep ↦ None ] ≡ Some R → elim m [ go P ↦ passes limit P (vs ++ t ∷ []) | stay T ↦ None | fail k ↦ None | deep ↦ None ] ≡ Some Q
passes_more_move limit (go P) vs t R Q h e = h P e
passes_more_move limit (stay T) vs t R Q h e = absurd (cc e)
passes_more_move limit (fail k) vs t R Q h e = absurd (cc e)
passes_more_move limit deep vs t R Q h e = absurd (cc e)

passes_more : (limit : ℕ) (vs : List Spot) (t : Spot) (S R Q : State Syntax) → passes limit S vs ≡ Some R → step syntax (below limit) R t ≡ go Q → passes limit S (vs ++ t ∷ []) ≡ Some Q
passes_more limit [] t S R Q e h = ap (λ m. elim m [ go P ↦ passes limit P [] | stay T ↦ None | fail k ↦ None | deep ↦ None ]) (ap (λ P. step syntax (below limit) P t) (let m : S ≡ R = cc e in m) ∙ h)
passes_more limit (u ∷ vs) t S R Q e h = passes_more_move limit (step syntax (below limit) S u) vs t R Q (λ P q. passes_more limit vs t P R Q q h) e

none_before : (limit : ℕ) (vs : List Spot) (R : State Syntax) → passes limit (begin []) vs ≡ Some R → NoneTooMany limit vs
none_before limit vs R e = none_too_many limit 0 vs (at_end syntax 0 R) (passes_end limit vs (begin []) R e) (λ q h. end_shallow 0 q R h)

is_too_many : (limit p : ℕ) (ts vs us : List Spot) (q : ℕ) (t : Token) (R : State Syntax) → passes limit (begin []) vs ≡ Some R → reach (begin []) vs ≡ Some R → opened (frames R) ≡ open_behind 0 vs → ts ≡ vs ++ (q, t) ∷ us → q ≡ p → Full limit R q t → FirstTooMany limit ts p
is_too_many limit p ts vs us q t R a e n s w (full Q l b h) =
    subst (FirstTooMany limit ts) w (first_too_many vs us (s ∙ ap (λ u. vs ++ (q, u) ∷ us) l) (viable_here (vs ++ (q, Open) ∷ []) Q (reach_more vs (q, Open) (begin []) R Q e h)) (subst (λ k. limit ≤ k) n b) (none_before limit vs R a))

by_move : (limit length p : ℕ) (ts vs us : List Spot) (q : ℕ) (t : Token) (R : State Syntax) → passes limit (begin []) vs ≡ Some R → reach (begin []) vs ≡ Some R → opened (frames R) ≡ open_behind 0 vs → (m : Move Syntax) → step syntax always R (q, t) ≡ m → step syntax (below limit) R (q, t) ≡ m → follow (below limit) length m (q, t) us ≡ too_deep p → ((Q : State Syntax) → passes limit (begin []) (vs ++ (q, t) ∷ []) ≡ Some Q → reach (begin []) (vs ++ (q, t) ∷ []) ≡ Some Q → opened (frames Q) ≡ open_behind 0 (vs ++ (q, t) ∷ []) → run syntax (below limit) length Q us ≡ too_deep p → FirstTooMany limit ts p) → FirstTooMany limit ts p
unfolding follow
by_move limit length p ts vs us q t R a e n (go Q) w v h ih = ih Q (passes_more limit vs (q, t) (begin []) R Q a v) (reach_more vs (q, t) (begin []) R Q e w) (step_count R q t Q w ∙ (ap (λ k. changed k t) n ∙ sym (open_snoc 0 q vs t))) h
by_move limit length p ts vs us q t R a e n (stay T) w v h ih = absurd (cc h)
by_move limit length p ts vs us q t R a e n (fail k) w v h ih = absurd (cc h)
by_move limit length p ts vs us q t R a e n deep w v h ih = absurd (step_shallow R (q, t) w)

deep_back : (limit length p : ℕ) (ts vs us : List Spot) (R : State Syntax) → passes limit (begin []) vs ≡ Some R → reach (begin []) vs ≡ Some R → opened (frames R) ≡ open_behind 0 vs → ts ≡ vs ++ us → run syntax (below limit) length R us ≡ too_deep p → FirstTooMany limit ts p
unfolding follow
deep_back limit length p ts vs [] R a e n s h = absurd (end_not_deep length p R h)
  where
    end_not_deep : (length p : ℕ) (R : State Syntax) → ¬ (at_end syntax length R ≡ too_deep p)
    end_not_deep length p R h = end_shallow length p R h
deep_back limit length p ts vs ((q, t) ∷ us) R a e n s h = elim (step_same (below limit) R (q, t)) [
  | inl w ↦ by_move limit length p ts vs us q t R a e n (step syntax always R (q, t)) refl w (ap (λ m. follow (below limit) length m (q, t) us) (sym w) ∙ h) (λ Q b c d g. deep_back limit length p ts (vs ++ (q, t) ∷ []) us Q b c d (s ∙ sym (append_assoc vs ((q, t) ∷ []) us)) g)
  | inr w ↦ is_too_many limit p ts vs us q t R a e n s (place_of (ap (λ m. follow (below limit) length m (q, t) us) (sym w) ∙ h)) (deep_open limit R q t w)
]
  where
    place_of : ◌≡◌ {A = ParseOutcome Syntax} (too_deep q) (too_deep p) → q ≡ p
    place_of g = cc g

pub too_deep_is_too_many : (limit length p : ℕ) (ts : List Spot) → run syntax (below limit) length (begin []) ts ≡ too_deep p → FirstTooMany limit ts p
too_deep_is_too_many limit length p ts h = deep_back limit length p ts [] ts (begin []) refl refl refl refl h
