-- The refusals of a grammar of lines, in terms of the grammar alone. `Is ts` says that the tokens ts are one of its texts.
use Rattle.std.specs.Prelude.{◌≡◌, ◌≤◌, ℕ, List, [], ◌∷◌, ◌++◌}
use Rattle.pts_names.specs.Name.{Name as Text, underscore}
use Rattle.pts_tokens.specs.declared.token.Token.{Token}
use Rattle.pts_tokens.specs.declared.token.Token.TheVariants as token
use Rattle.pts_tokens.specs.Tokens.{Spot}
use Rattle.pts_grammar.specs.declared.kind.Kind.{Kind}
use Rattle.pts_grammar.specs.declared.kind.Kind.TheVariants as kind
use Rattle.pts_grammar.specs.Refusals.{open_behind}

-- The tokens can go on to a text.
abbrev pub CanGoOn : (List Spot → Type 0) → List Spot → Type 0
CanGoOn Is vs = (us : List Spot) × Is (vs ++ us)

-- This token can stand after them.
abbrev pub CanFollow : (List Spot → Type 0) → List Spot → Token → Type 0
CanFollow Is vs t = CanGoOn Is (vs ++ (0, t) ∷ [])

-- What must be after the tokens vs. Where the text can end there, that is its end; else, where `:=` can stand, that;
-- else the sign that can stand there, also where a term before it could still go on. A name is wanted where `_` is one;
-- a term where one can begin, no sign can stand, nothing can be closed, and the text can't end.
pub data Wants (Is : List Spot → Type 0) (vs : List Spot) : Kind → Type 0 where
  the_end : Is vs → Wants Is vs kind.End
  an_assign : ¬ Is vs → CanFollow Is vs token.Assign → Wants Is vs kind.Assign
  a_colon : ¬ Is vs → ¬ CanFollow Is vs token.Assign → CanFollow Is vs token.Colon → Wants Is vs kind.Colon
  a_semicolon : ¬ Is vs → CanFollow Is vs token.Semicolon → Wants Is vs kind.Semicolon
  a_dot : CanFollow Is vs token.Dot → Wants Is vs kind.Dot
  an_in : CanFollow Is vs token.In → Wants Is vs kind.In
  a_close : CanFollow Is vs token.Close → Wants Is vs kind.Close
  a_number : (ds : List ℕ) → CanFollow Is vs (token.Number ds) → Wants Is vs kind.Number
  a_name : CanFollow Is vs (token.Name underscore) → ((s : Text) → ¬ CanFollow Is vs (token.Sort s)) → Wants Is vs kind.Name
  a_plain : (x : Text) → CanFollow Is vs (token.Name x) → ¬ CanFollow Is vs (token.Name underscore) → ((s : Text) → ¬ CanFollow Is vs (token.Sort s)) → Wants Is vs kind.Plain
  a_term : (s : Text) → CanFollow Is vs (token.Sort s) → ¬ CanFollow Is vs token.Colon → ¬ CanFollow Is vs token.Dot → ¬ CanFollow Is vs token.Assign → ¬ CanFollow Is vs token.In → ¬ CanFollow Is vs token.Close → ¬ CanFollow Is vs token.Semicolon → ¬ Is vs → Wants Is vs kind.Term

-- The kind k must be at a place of the text with the tokens ts: at the first token with which it can't go on, or at
-- its end, whose place is given, if it is no text and could go on.
pub data Refused (Is : List Spot → Type 0) (end : ℕ) (ts : List Spot) (k : Kind) : ℕ → Type 0 where
  at_token : (vs us : List Spot) (p : ℕ) (t : Token) → ts ≡ vs ++ (p, t) ∷ us → CanGoOn Is vs → ¬ CanGoOn Is (vs ++ (p, t) ∷ []) → Wants Is vs k → Refused Is end ts k p
  at_end : CanGoOn Is ts → ¬ Is ts → Wants Is ts k → Refused Is end ts k end

-- A parenthesis could be opened at place p, and `limit` are open there already.
pub data TooMany (Is : List Spot → Type 0) (limit : ℕ) (ts : List Spot) (p : ℕ) : Type 0 where
  too_many : (vs us : List Spot) → ts ≡ vs ++ (p, token.Open) ∷ us → CanGoOn Is (vs ++ (p, token.Open) ∷ []) → limit ≤ open_behind 0 vs → TooMany Is limit ts p

-- No parenthesis is one too many.
abbrev pub NoneTooMany : (List Spot → Type 0) → ℕ → List Spot → Type 0
NoneTooMany Is limit ts = (p : ℕ) → ¬ TooMany Is limit ts p

-- The parenthesis at place p is the first that is one too many.
pub data FirstTooMany (Is : List Spot → Type 0) (limit : ℕ) (ts : List Spot) (p : ℕ) : Type 0 where
  first_too_many : (vs us : List Spot) → ts ≡ vs ++ (p, token.Open) ∷ us → CanGoOn Is (vs ++ (p, token.Open) ∷ []) → limit ≤ open_behind 0 vs → NoneTooMany Is limit vs → FirstTooMany Is limit ts p
