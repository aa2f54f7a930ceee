-- What the parser's constructs, states and answers stand for.
use Rattle.std.specs.Prelude.{ℕ, List, [], ◌∷◌, drop, Bool, true, nat_lt, option_map}
use Rattle.pts_tokens.specs.declared.token.Token.{Token}
use Rattle.pts_tokens.specs.Tokens.{Spot}
use Rattle.pts_grammar.specs.declared.frame.Frame.{Frame as TheFrame}
use Rattle.pts_grammar.specs.declared.state.State.{State as TheState}
use Rattle.pts_grammar.specs.declared.state.Move.{Move as TheMove}
use Rattle.pts_grammar.specs.declared.state.Around.{Around}
use Rattle.pts_grammar.specs.declared.parser.Parsed.{Parsed}
use Rattle.pts_grammar.specs.Machine.{Frame, in_parens, at_type, at_body, let_value, let_type, let_body, behind_arrow, State, begin, binder, binder_sign, let_name, let_sign, after, Move, go, stay, fail, deep, ParseOutcome, read, expected, too_deep, is_bracket, closing}
use Rattle.pts_grammar.specs.Seen.{Subtree, part_of, parts}

-- The open constructs, and where the reading is.
abbrev pub frame : TheFrame → Frame Subtree
frame (TheFrame.Parens f) = in_parens (option_map part_of f)
frame (TheFrame.Type b x) = at_type b x
frame (TheFrame.Body b x A) = at_body b x (part_of A)
frame (TheFrame.LetValue x) = let_value x
frame (TheFrame.LetType x d) = let_type x (part_of d)
frame (TheFrame.LetBody x d A) = let_body x (part_of d) (part_of A)
frame (TheFrame.Arrow A) = behind_arrow (part_of A)

-- The constructs that were opened in this order, the last first, before those of K.
abbrev pub newest : {A : Type 0} → List A → List A → List A
newest K [] = K
newest K (f ∷ fs) = newest (f ∷ K) fs

abbrev pub state_of : List (Frame Subtree) → TheState → State Subtree
state_of K TheState.Begin = begin K
state_of K (TheState.Binder b) = binder b K
state_of K (TheState.BinderSign b x) = binder_sign b x K
state_of K TheState.LetName = let_name K
state_of K (TheState.LetSign x) = let_sign x K
state_of K (TheState.After f) = after K (part_of f)

abbrev pub move_of : List (Frame Subtree) → TheMove → Move Subtree
move_of K (TheMove.Go S) = go (state_of K S)
move_of K (TheMove.Stay T) = stay (part_of T)
move_of K (TheMove.Fail k) = fail k
move_of K TheMove.Deep = deep

-- A whole part, in a wider term or in a construct that needs a token.
abbrev pub closing_around : List (Frame Subtree) → Around → Token → Move Subtree
closing_around K (Around.Wider T) t = closing parts K (part_of T) t
closing_around K (Around.Bracket f T) t = closing parts (frame f ∷ K) (part_of T) t

abbrev pub is_around : Around → Bool
is_around (Around.Wider T) = true
is_around (Around.Bracket f T) = is_bracket (frame f)

-- At most 2,000 parentheses are open at once.
abbrev pub more : ℕ → Bool
more n = nat_lt n 2000

abbrev pub outcome_of : List Spot → Parsed → ParseOutcome Subtree
outcome_of ts (Parsed.Read T n) = read (part_of T) (drop n ts)
outcome_of ts (Parsed.Expected p k) = expected p k
outcome_of ts (Parsed.TooDeep p) = too_deep p
