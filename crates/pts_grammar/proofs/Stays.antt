-- Where the machine stops before a token, and what is left after a whole term.
use Rattle.std.proofs.Common.{ℕ, ◌≡◌, List, [], ◌∷◌, Bool, true, false, cond}
use Rattle.pts_names.specs.Name.{Name as Text, is_identifier}
use Rattle.pts_tokens.specs.Tokens.{Spot}
use Rattle.pts_grammar.specs.declared.kind.Kind.TheVariants as kind
use Rattle.pts_grammar.specs.Syntax.{Syntax}
use Rattle.pts_grammar.specs.Machine.{syntax, in_parens, at_type, at_body, let_value, let_type, let_body, behind_arrow, State, begin, binder, binder_sign, let_name, let_sign, after, go, stay, fail, read, if_plain, whole, at_end}
use Rattle.pts_grammar.proofs.Complete.{Frames}

pub plain_stays : (x : Text) (S : State Syntax) (U : Syntax) → ¬ (if_plain syntax x S ≡ stay U)
plain_stays x S U = cases (is_identifier x)
  where
    cases : (b : Bool) → ¬ (cond b (go S) (fail kind.Name) ≡ stay U)
    cases true h = cc h
    cases false h = cc h

pub whole_rest : (length : ℕ) (K : Frames) (f U : Syntax) (x : Spot) (rest : List Spot) → ¬ (whole syntax length K f ≡ read U (x ∷ rest))
whole_rest length [] f U x rest h = let m : [] ≡ x ∷ rest = cc h in cc m
whole_rest length (at_body b y A ∷ K) f U x rest h = whole_rest length K _ U x rest h
whole_rest length (let_body y d A ∷ K) f U x rest h = whole_rest length K _ U x rest h
whole_rest length (behind_arrow A ∷ K) f U x rest h = whole_rest length K _ U x rest h
whole_rest length (in_parens g ∷ K) f U x rest h = cc h
whole_rest length (at_type b y ∷ K) f U x rest h = cc h
whole_rest length (let_value y ∷ K) f U x rest h = cc h
whole_rest length (let_type y d ∷ K) f U x rest h = cc h

pub end_rest : (length : ℕ) (R : State Syntax) (U : Syntax) (x : Spot) (rest : List Spot) → ¬ (at_end syntax length R ≡ read U (x ∷ rest))
end_rest length (begin K) U x rest h = cc h
end_rest length (binder b K) U x rest h = cc h
end_rest length (binder_sign b y K) U x rest h = cc h
end_rest length (let_name K) U x rest h = cc h
end_rest length (let_sign y K) U x rest h = cc h
end_rest length (after K f) U x rest h = whole_rest length K f U x rest h
