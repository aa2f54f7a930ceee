-- Reading tokens from left to right, with the constructs that are open. What is built of them is left open: syntax, or
-- something that takes less room.
use Rattle.std.specs.Prelude.{ℕ, suc, List, [], ◌∷◌, Bool, true, false, if◌then◌else◌, Option, Some, None}
use Rattle.pts_names.specs.Name.{Name, is_identifier, underscore}
use Rattle.pts_tokens.specs.declared.token.Token.{Token}
use Rattle.pts_tokens.specs.declared.token.Token.TheVariants.{Lambda, At, Let, In, Colon, Assign, Dot, Arrow, Open, Close, Sort, Name as Word}
use Rattle.pts_tokens.specs.Tokens.{Spot}
use Rattle.pts_grammar.specs.declared.kind.Kind.{Kind}
use Rattle.pts_grammar.specs.declared.kind.Kind.TheVariants.{Term as term_wanted, Name as name_wanted, Colon as colon_wanted, Dot as dot_wanted, Assign as assign_wanted, In as in_wanted, Close as close_wanted}
use Rattle.pts_grammar.specs.declared.frame.Binder.{Binder}
use Rattle.pts_grammar.specs.declared.frame.Binder.TheVariants.{Lam, Pi}
use Rattle.pts_grammar.specs.Syntax.{Syntax, sort, name, app, lam, pi, let_in}

-- How things are built.
pub record Build (D : Type 0) : Type 0 where
  pub of_sort : ℕ → Name → D
  pub of_name : ℕ → Name → D
  pub applied : D → D → D
  pub bound : Binder → Name → D → D → D
  pub defined : Name → D → D → D → D

-- Syntax.
abbrev pub bound_syntax : Binder → Name → Syntax → Syntax → Syntax
bound_syntax Lam x A b = lam x A b
bound_syntax Pi x A B = pi x A B

abbrev pub syntax : Build Syntax
syntax = record { of_sort = sort; of_name = name; applied = app; bound = bound_syntax; defined = let_in }

-- A construct that is open, with what was read of it: a parenthesis, perhaps with the function before it; what a lambda
-- or a product binds, at its type and at its body; a local definition, at its definition, its type and its body; and a
-- product after its arrow.
pub data Frame (D : Type 0) : Type 0 where
  in_parens : Option D → Frame D
  at_type : Binder → Name → Frame D
  at_body : Binder → Name → D → Frame D
  let_value : Name → Frame D
  let_type : Name → D → Frame D
  let_body : Name → D → D → Frame D
  behind_arrow : D → Frame D

-- Where the reading is, with the open constructs, the innermost first: before a term; before the name of a binder or
-- after it; the same for a local definition; or after an application that may go on.
pub data State (D : Type 0) : Type 0 where
  begin : List (Frame D) → State D
  binder : Binder → List (Frame D) → State D
  binder_sign : Binder → Name → List (Frame D) → State D
  let_name : List (Frame D) → State D
  let_sign : Name → List (Frame D) → State D
  after : List (Frame D) → D → State D

-- What a token does: the reading goes on, or a whole term is before it where nothing is open, or another kind of token
-- is wanted, or a parenthesis is open too many.
pub data Move (D : Type 0) : Type 0 where
  go : State D → Move D
  stay : D → Move D
  fail : Kind → Move D
  deep : Move D

-- What is read, and the tokens after it; or the place at which another kind of token is wanted; or that of a
-- parenthesis that is one too many.
pub data ParseOutcome (D : Type 0) : Type 0 where
  read : D → List Spot → ParseOutcome D
  expected : ℕ → Kind → ParseOutcome D
  too_deep : ℕ → ParseOutcome D

-- How many parentheses are open.
abbrev pub opened : {D : Type 0} → List (Frame D) → ℕ
opened [] = 0
opened (in_parens f ∷ K) = suc (opened K)
opened (_ ∷ K) = opened K

-- Whether the construct needs a token after the part that is being read.
abbrev pub is_bracket : {D : Type 0} → Frame D → Bool
is_bracket (in_parens f) = true
is_bracket (at_type b x) = true
is_bracket (let_value x) = true
is_bracket (let_type x d) = true
is_bracket _ = false

module _ {D : Type 0} (B : Build D) where
  abbrev pub applied_to : Option D → D → D
  applied_to None a = a
  applied_to (Some f) a = B.applied f a

  -- A token after a whole term. A construct that needs no token ends with the term.
  abbrev pub closing : List (Frame D) → D → Token → Move D
  closing [] T t = stay T
  closing (at_body b x A ∷ K) T t = closing K (B.bound b x A T) t
  closing (let_body x d A ∷ K) T t = closing K (B.defined x d A T) t
  closing (behind_arrow A ∷ K) T t = closing K (B.bound Pi underscore A T) t
  closing (in_parens f ∷ K) T Close = go (after K (applied_to f T))
  closing (in_parens f ∷ K) T _ = fail close_wanted
  closing (at_type b x ∷ K) T Dot = go (begin (at_body b x T ∷ K))
  closing (at_type b x ∷ K) T _ = fail dot_wanted
  closing (let_value x ∷ K) T Colon = go (begin (let_type x T ∷ K))
  closing (let_value x ∷ K) T _ = fail colon_wanted
  closing (let_type x d ∷ K) T In = go (begin (let_body x d T ∷ K))
  closing (let_type x d ∷ K) T _ = fail in_wanted

  -- `more n`: another parenthesis may be opened where n are open.
  abbrev pub opening : (ℕ → Bool) → Option D → List (Frame D) → Move D
  opening more f K = if more (opened K) then go (begin (in_parens f ∷ K)) else deep

  -- The name of a binder has one part.
  abbrev pub if_plain : Name → State D → Move D
  if_plain x S = if is_identifier x then go S else fail name_wanted

  -- One token further.
  abbrev pub step : (ℕ → Bool) → State D → Spot → Move D
  step more (begin K) (p, Lambda) = go (binder Lam K)
  step more (begin K) (p, At) = go (binder Pi K)
  step more (begin K) (p, Let) = go (let_name K)
  step more (begin K) (p, Sort s) = go (after K (B.of_sort p s))
  step more (begin K) (p, Word x) = go (after K (B.of_name p x))
  step more (begin K) (p, Open) = opening more None K
  step more (begin K) (p, _) = fail term_wanted
  step more (binder b K) (p, Word x) = if_plain x (binder_sign b x K)
  step more (binder b K) (p, _) = fail name_wanted
  step more (binder_sign b x K) (p, Colon) = go (begin (at_type b x ∷ K))
  step more (binder_sign b x K) (p, _) = fail colon_wanted
  step more (let_name K) (p, Word x) = if_plain x (let_sign x K)
  step more (let_name K) (p, _) = fail name_wanted
  step more (let_sign x K) (p, Assign) = go (begin (let_value x ∷ K))
  step more (let_sign x K) (p, _) = fail assign_wanted
  step more (after K f) (p, Sort s) = go (after K (B.applied f (B.of_sort p s)))
  step more (after K f) (p, Word x) = go (after K (B.applied f (B.of_name p x)))
  step more (after K f) (p, Open) = opening more (Some f) K
  step more (after K f) (p, Arrow) = go (begin (behind_arrow f ∷ K))
  step more (after K f) (p, t) = closing K f t

  -- The end of the text after a whole term.
  abbrev pub whole : ℕ → List (Frame D) → D → ParseOutcome D
  whole length [] T = read T []
  whole length (at_body b x A ∷ K) T = whole length K (B.bound b x A T)
  whole length (let_body x d A ∷ K) T = whole length K (B.defined x d A T)
  whole length (behind_arrow A ∷ K) T = whole length K (B.bound Pi underscore A T)
  whole length (in_parens f ∷ K) T = expected length close_wanted
  whole length (at_type b x ∷ K) T = expected length dot_wanted
  whole length (let_value x ∷ K) T = expected length colon_wanted
  whole length (let_type x d ∷ K) T = expected length in_wanted

  -- The end of the text, whose length is given.
  abbrev pub at_end : ℕ → State D → ParseOutcome D
  at_end length (begin K) = expected length term_wanted
  at_end length (binder b K) = expected length name_wanted
  at_end length (binder_sign b x K) = expected length colon_wanted
  at_end length (let_name K) = expected length name_wanted
  at_end length (let_sign x K) = expected length assign_wanted
  at_end length (after K f) = whole length K f

  -- The reading of all tokens.
  abbrev pub run : (ℕ → Bool) → ℕ → State D → List Spot → ParseOutcome D
  run more length S [] = at_end length S
  run more length S (t ∷ us) = elim (step more S t) [ go R ↦ run more length R us | stay T ↦ read T (t ∷ us) | fail k ↦ expected t.0 k | deep ↦ too_deep t.0 ]
