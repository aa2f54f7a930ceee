-- The end of a text is like a token that closes nothing.
use Rattle.std.proofs.Common.{◌≡◌, refl, List, [], ◌∷◌, ℕ}
use Rattle.pts_tokens.specs.declared.token.Token.TheVariants.{Semicolon}
use Rattle.pts_grammar.specs.declared.kind.Kind.TheVariants.{End}
use Rattle.pts_grammar.specs.Machine.{Frame, in_parens, at_type, at_body, let_value, let_type, let_body, behind_arrow, Move, go, stay, fail, deep, ParseOutcome, read, expected, closing, whole}
use Rattle.pts_grammar.specs.Seen.{Subtree, parts}

abbrev pub at_semicolon : ℕ → Move Subtree → ParseOutcome Subtree
at_semicolon length (go S) = expected length End
at_semicolon length (stay T) = read T []
at_semicolon length (fail k) = expected length k
at_semicolon length deep = expected length End

pub whole_is : (length : ℕ) (K : List (Frame Subtree)) (T : Subtree) → whole parts length K T ≡ at_semicolon length (closing parts K T Semicolon)
whole_is length [] T = refl
whole_is length (at_body b x A ∷ K) T = whole_is length K _
whole_is length (let_body x d A ∷ K) T = whole_is length K _
whole_is length (behind_arrow A ∷ K) T = whole_is length K _
whole_is length (in_parens f ∷ K) T = refl
whole_is length (at_type b x ∷ K) T = refl
whole_is length (let_value x ∷ K) T = refl
whole_is length (let_type x d ∷ K) T = refl
