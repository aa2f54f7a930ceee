-- What is built in place of syntax follows the syntax.
use Rattle.std.proofs.Common.{ℕ, ◌≡◌, refl, sym, ◌∙◌, ap, List, [], ◌∷◌, Bool, true, false, cond, Option, Some, None, option_map, suc}
use Rattle.pts_names.specs.Name.{Name, is_identifier, underscore}
use Rattle.pts_tokens.specs.declared.token.Token.{Token}
use Rattle.pts_tokens.specs.declared.token.Token.TheVariants.{In, Colon, Assign, Dot, Arrow, Open, Close, Sort, Name as Word}
use Rattle.pts_tokens.specs.Tokens.{Spot}
use Rattle.pts_grammar.specs.declared.kind.Kind.TheVariants.{Name as name_wanted}
use Rattle.pts_grammar.specs.declared.frame.Binder.{Binder}
use Rattle.pts_grammar.specs.declared.frame.Binder.TheVariants.{Pi}
use Rattle.pts_grammar.specs.Machine.{Build, Frame, in_parens, at_type, at_body, let_value, let_type, let_body, behind_arrow, State, begin, binder, binder_sign, let_name, let_sign, after, Move, go, stay, fail, deep, ParseOutcome, read, expected, too_deep, opened, applied_to, closing, opening, if_plain, step, whole, at_end, run}

module _ {D E : Type 0} (B : Build D) (C : Build E) (h : D → E)
    (h_sort : (p : ℕ) (s : Name) → h (B.of_sort p s) ≡ C.of_sort p s) (h_name : (p : ℕ) (x : Name) → h (B.of_name p x) ≡ C.of_name p x)
    (h_applied : (f a : D) → h (B.applied f a) ≡ C.applied (h f) (h a))
    (h_bound : (b : Binder) (x : Name) (A T : D) → h (B.bound b x A T) ≡ C.bound b x (h A) (h T))
    (h_defined : (x : Name) (d A T : D) → h (B.defined x d A T) ≡ C.defined x (h d) (h A) (h T)) where
  abbrev pub on_frame : Frame D → Frame E
  on_frame (in_parens f) = in_parens (option_map h f)
  on_frame (at_type b x) = at_type b x
  on_frame (at_body b x A) = at_body b x (h A)
  on_frame (let_value x) = let_value x
  on_frame (let_type x d) = let_type x (h d)
  on_frame (let_body x d A) = let_body x (h d) (h A)
  on_frame (behind_arrow A) = behind_arrow (h A)

  abbrev pub on_frames : List (Frame D) → List (Frame E)
  on_frames [] = []
  on_frames (f ∷ K) = on_frame f ∷ on_frames K

  abbrev pub on_state : State D → State E
  on_state (begin K) = begin (on_frames K)
  on_state (binder b K) = binder b (on_frames K)
  on_state (binder_sign b x K) = binder_sign b x (on_frames K)
  on_state (let_name K) = let_name (on_frames K)
  on_state (let_sign x K) = let_sign x (on_frames K)
  on_state (after K f) = after (on_frames K) (h f)

  abbrev pub on_move : Move D → Move E
  on_move (go S) = go (on_state S)
  on_move (stay T) = stay (h T)
  on_move (fail k) = fail k
  on_move deep = deep

  abbrev pub on_outcome : ParseOutcome D → ParseOutcome E
  on_outcome (read T ts) = read (h T) ts
  on_outcome (expected p k) = expected p k
  on_outcome (too_deep p) = too_deep p

  same_opened : (K : List (Frame D)) → opened (on_frames K) ≡ opened K
  same_opened [] = refl
  same_opened (in_parens f ∷ K) = ap suc (same_opened K)
  same_opened (at_type b x ∷ K) = same_opened K
  same_opened (at_body b x A ∷ K) = same_opened K
  same_opened (let_value x ∷ K) = same_opened K
  same_opened (let_type x d ∷ K) = same_opened K
  same_opened (let_body x d A ∷ K) = same_opened K
  same_opened (behind_arrow A ∷ K) = same_opened K

  same_applied : (f : Option D) (a : D) → applied_to C (option_map h f) (h a) ≡ h (applied_to B f a)
  same_applied None a = refl
  same_applied (Some f) a = sym (h_applied f a)

  same_closing : (K : List (Frame D)) (T : D) (t : Token) → closing C (on_frames K) (h T) t ≡ on_move (closing B K T t)
  same_closing [] T t = refl
  same_closing (at_body b x A ∷ K) T t = ap (λ U. closing C (on_frames K) U t) (sym (h_bound b x A T)) ∙ same_closing K _ t
  same_closing (let_body x d A ∷ K) T t = ap (λ U. closing C (on_frames K) U t) (sym (h_defined x d A T)) ∙ same_closing K _ t
  same_closing (behind_arrow A ∷ K) T t = ap (λ U. closing C (on_frames K) U t) (sym (h_bound Pi underscore A T)) ∙ same_closing K _ t
  same_closing (in_parens f ∷ K) T Close = ap (λ U. go (after (on_frames K) U)) (same_applied f T)
  same_closing (in_parens f ∷ K) T t = refl
  same_closing (at_type b x ∷ K) T Dot = refl
  same_closing (at_type b x ∷ K) T t = refl
  same_closing (let_value x ∷ K) T Colon = refl
  same_closing (let_value x ∷ K) T t = refl
  same_closing (let_type x d ∷ K) T In = refl
  same_closing (let_type x d ∷ K) T t = refl

  same_opening : (more : ℕ → Bool) (f : Option D) (K : List (Frame D)) → opening C more (option_map h f) (on_frames K) ≡ on_move (opening B more f K)
  same_opening more f K = ap (λ n. cond (more n) (go (begin (in_parens (option_map h f) ∷ on_frames K))) deep) (same_opened K) ∙ cases (more (opened K))
    where
      cases : (b : Bool) → cond b (go (begin (in_parens (option_map h f) ∷ on_frames K))) deep ≡ on_move (cond b (go (begin (in_parens f ∷ K))) deep)
      cases true = refl
      cases false = refl

  same_plain : (x : Name) (S : State D) → if_plain C x (on_state S) ≡ on_move (if_plain B x S)
  same_plain x S = cases (is_identifier x)
    where
      cases : (b : Bool) → cond b (go (on_state S)) (fail name_wanted) ≡ on_move (cond b (go S) (fail name_wanted))
      cases true = refl
      cases false = refl

  same_step : (more : ℕ → Bool) (S : State D) (p : ℕ) (t : Token) → step C more (on_state S) (p, t) ≡ on_move (step B more S (p, t))
  same_step more (begin K) p (Sort s) = ap (λ U. go (after (on_frames K) U)) (sym (h_sort p s))
  same_step more (begin K) p (Word x) = ap (λ U. go (after (on_frames K) U)) (sym (h_name p x))
  same_step more (begin K) p Open = same_opening more None K
  same_step more (begin K) p t = refl
  same_step more (binder b K) p (Word x) = same_plain x (binder_sign b x K)
  same_step more (binder b K) p t = refl
  same_step more (binder_sign b x K) p Colon = refl
  same_step more (binder_sign b x K) p t = refl
  same_step more (let_name K) p (Word x) = same_plain x (let_sign x K)
  same_step more (let_name K) p t = refl
  same_step more (let_sign x K) p Assign = refl
  same_step more (let_sign x K) p t = refl
  same_step more (after K f) p (Sort s) = ap (λ U. go (after (on_frames K) U)) (ap (C.applied (h f)) (sym (h_sort p s)) ∙ sym (h_applied f (B.of_sort p s)))
  same_step more (after K f) p (Word x) = ap (λ U. go (after (on_frames K) U)) (ap (C.applied (h f)) (sym (h_name p x)) ∙ sym (h_applied f (B.of_name p x)))
  same_step more (after K f) p Open = same_opening more (Some f) K
  same_step more (after K f) p Arrow = refl
  same_step more (after K f) p t = same_closing K f t

  same_whole : (length : ℕ) (K : List (Frame D)) (T : D) → whole C length (on_frames K) (h T) ≡ on_outcome (whole B length K T)
  same_whole length [] T = refl
  same_whole length (at_body b x A ∷ K) T = ap (λ U. whole C length (on_frames K) U) (sym (h_bound b x A T)) ∙ same_whole length K _
  same_whole length (let_body x d A ∷ K) T = ap (λ U. whole C length (on_frames K) U) (sym (h_defined x d A T)) ∙ same_whole length K _
  same_whole length (behind_arrow A ∷ K) T = ap (λ U. whole C length (on_frames K) U) (sym (h_bound Pi underscore A T)) ∙ same_whole length K _
  same_whole length (in_parens f ∷ K) T = refl
  same_whole length (at_type b x ∷ K) T = refl
  same_whole length (let_value x ∷ K) T = refl
  same_whole length (let_type x d ∷ K) T = refl

  same_end : (length : ℕ) (S : State D) → at_end C length (on_state S) ≡ on_outcome (at_end B length S)
  same_end length (begin K) = refl
  same_end length (binder b K) = refl
  same_end length (binder_sign b x K) = refl
  same_end length (let_name K) = refl
  same_end length (let_sign x K) = refl
  same_end length (after K f) = same_whole length K f

  same_follow : (more : ℕ → Bool) (length : ℕ) (t : Spot) (us : List Spot) (m : Move D) → ((S : State D) → run C more length (on_state S) us ≡ on_outcome (run B more length S us)) → elim (on_move m) [ go R ↦ run C more length R us | stay T ↦ read T (t ∷ us) | fail k ↦ expected t.0 k | deep ↦ too_deep t.0 ] ≡ on_outcome (elim m [ go R ↦ run B more length R us | stay T ↦ read T (t ∷ us) | fail k ↦ expected t.0 k | deep ↦ too_deep t.0 ])
  same_follow more length t us (go R) ih = ih R
  same_follow more length t us (stay T) ih = refl
  same_follow more length t us (fail k) ih = refl
  same_follow more length t us deep ih = refl

  -- The answer is that for syntax, with what is built in its place.
  pub same_run : (more : ℕ → Bool) (length : ℕ) (ts : List Spot) (S : State D) → run C more length (on_state S) ts ≡ on_outcome (run B more length S ts)
  same_run more length [] S = same_end length S
  same_run more length (t ∷ us) S = ap (λ m. elim m [ go R ↦ run C more length R us | stay T ↦ read T (t ∷ us) | fail k ↦ expected t.0 k | deep ↦ too_deep t.0 ]) (same_step more S t.0 t.1) ∙ same_follow more length t us (step B more S t) (λ R. same_run more length us R)
