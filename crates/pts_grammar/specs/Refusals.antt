-- The refusals of the grammar, in terms of the grammar alone.
use Rattle.std.specs.Prelude.{◌≡◌, ◌⊎◌, ◌<◌, ◌≤◌, ℕ, suc, pred, List, [], ◌∷◌, ◌++◌}
use Rattle.pts_names.specs.Name.{Name as Text}
use Rattle.pts_tokens.specs.declared.token.Token.{Token}
use Rattle.pts_tokens.specs.declared.token.Token.TheVariants.{Open, Sort, Name as Word}
use Rattle.pts_tokens.specs.declared.token.Token.TheVariants as token
use Rattle.pts_tokens.specs.Tokens.{Spot}
use Rattle.pts_grammar.specs.declared.kind.Kind.{Kind}
use Rattle.pts_grammar.specs.declared.kind.Kind.TheVariants.{Term, Name, Colon, Dot, Assign, In, Close, End}
use Rattle.pts_grammar.specs.declared.fault.SyntaxFault.{SyntaxFault}
use Rattle.pts_grammar.specs.declared.fault.SyntaxFault.TheVariants.{Expected, TooDeep, Memory}
use Rattle.pts_grammar.specs.Syntax.{Syntax, depth_of}
use Rattle.pts_grammar.specs.Grammar.{Reads}

-- The tokens can go on to a term.
abbrev pub Viable : List Spot → Type 0
Viable vs = (us : List Spot) × (T : Syntax) × Reads (vs ++ us) T []

-- This token can stand after them.
abbrev pub CanFollow : List Spot → Token → Type 0
CanFollow vs t = Viable (vs ++ (0, t) ∷ [])

-- What must be after the tokens vs. Where a construct can be closed there, that is the token which closes it, also
-- where the term before it could still go on; so a term is wanted where one can begin and nothing can be closed.
pub data Wants (vs : List Spot) : Kind → Type 0 where
  a_colon : CanFollow vs token.Colon → Wants vs Colon
  a_dot : CanFollow vs token.Dot → Wants vs Dot
  an_assign : CanFollow vs token.Assign → Wants vs Assign
  an_in : CanFollow vs token.In → Wants vs In
  a_close : CanFollow vs token.Close → Wants vs Close
  the_end : (T : Syntax) → Reads vs T [] → Wants vs End
  a_name : (x : Text) → CanFollow vs (Word x) → ((s : Text) → ¬ CanFollow vs (Sort s)) → Wants vs Name
  a_term : (s : Text) → CanFollow vs (Sort s) → ¬ CanFollow vs token.Colon → ¬ CanFollow vs token.Dot → ¬ CanFollow vs token.Assign → ¬ CanFollow vs token.In → ¬ CanFollow vs token.Close → ((T : Syntax) → ¬ Reads vs T []) → Wants vs Term

-- The kind k must be at a place of the text with the tokens ts: at the first token with which it can't go on to a
-- term, or at its end, if it is no term and could go on.
pub data Refused (length : ℕ) (ts : List Spot) (k : Kind) : ℕ → Type 0 where
  at_token : (vs us : List Spot) (p : ℕ) (t : Token) → ts ≡ vs ++ (p, t) ∷ us → Viable vs → ¬ Viable (vs ++ (p, t) ∷ []) → Wants vs k → Refused length ts k p
  at_length : Viable ts → ((T : Syntax) → ¬ Reads ts T []) → Wants ts k → Refused length ts k length

-- How many parentheses are open after the tokens, if n are open before them.
abbrev pub open_behind : ℕ → List Spot → ℕ
open_behind n [] = n
open_behind n ((p, Open) ∷ ts) = open_behind (suc n) ts
open_behind n ((p, token.Close) ∷ ts) = open_behind (pred n) ts
open_behind n ((p, t) ∷ ts) = open_behind n ts

-- At place p another parenthesis could be opened, and `limit` are open already.
pub data TooMany (limit : ℕ) (ts : List Spot) (p : ℕ) : Type 0 where
  too_many : (vs us : List Spot) → ts ≡ vs ++ (p, Open) ∷ us → Viable (vs ++ (p, Open) ∷ []) → limit ≤ open_behind 0 vs → TooMany limit ts p

-- No parenthesis is one too many.
abbrev pub NoneTooMany : ℕ → List Spot → Type 0
NoneTooMany limit ts = (p : ℕ) → ¬ TooMany limit ts p

-- The parenthesis at place p is the first that is one too many.
pub data FirstTooMany (limit : ℕ) (ts : List Spot) (p : ℕ) : Type 0 where
  first_too_many : (vs us : List Spot) → ts ≡ vs ++ (p, Open) ∷ us → Viable (vs ++ (p, Open) ∷ []) → limit ≤ open_behind 0 vs → NoneTooMany limit vs → FirstTooMany limit ts p

-- The tokens are a text of a term that is deeper than `limit`.
abbrev pub TooDeepTerm : ℕ → List Spot → Type 0
TooDeepTerm limit ts = (T : Syntax) × Reads ts T [] × (limit < depth_of T)

-- What a refusal of the tokens ts means, of a text of this length. A parenthesis that is one too many comes before
-- whatever is wrong after it.
abbrev pub Refuses : ℕ → List Spot → SyntaxFault → Type 0
Refuses length ts (Expected p k) = Refused length ts k p × NoneTooMany 2000 ts
Refuses length ts (TooDeep p) = FirstTooMany 2000 ts p ⊎ ((p ≡ length) × TooDeepTerm 2000 ts × NoneTooMany 2000 ts)
Refuses length ts Memory = Unit {0}

-- The grammar names at most one place, and one kind that must stand there.
abbrev pub RefusalsAreDetermined : Type 0
RefusalsAreDetermined = (length : ℕ) (ts : List Spot) (k j : Kind) (p q : ℕ) → Refused length ts k p → Refused length ts j q → (p ≡ q) × (k ≡ j)
