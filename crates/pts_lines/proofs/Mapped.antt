-- What is made of a term of a line.
use Rattle.std.proofs.Common.{ℕ, ◌≡◌, refl, Bool, List, [], ◌∷◌, Option, Some, None, option_map, Result, Ok, Err}
use Rattle.pts_tokens.specs.Tokens.{Spot}
use Rattle.pts_grammar.specs.Syntax.{Syntax}
use Rattle.pts_grammar.specs.Seen.{Subtree}
use Rattle.pts_parser.specs.declared.fault.ReadFault.{ReadFault}
use Rattle.pts_parser.specs.Resolution.{and_then}
use Rattle.pts_lines.specs.Forms.{term, terms, first_term, any_of, ended, shallow, run_form, term_form, all_of}

-- What is made of the last term is made of the term that is answered.
pub term_mapped : {R : Type 0} (f : Syntax → R) (kept : Syntax → Subtree) (more : ℕ → Bool) (length : ℕ) (ts : List Spot) → run_form kept more length (term (option_map f)) ts ≡ and_then (run_form kept more length term_form ts) (λ T. Ok (f T))
term_mapped f kept more length ts = by (first_term kept more length ts)
  where
    by : (r : Result (Subtree × List Spot) ReadFault) → and_then r (λ q. and_then (ended length q.1) (λ u. shallow length (option_map f q.0))) ≡ and_then (and_then r (λ q. and_then (ended length q.1) (λ u. shallow length q.0))) (λ T. Ok (f T))
    by (Err e) = refl
    by (Ok (T, s ∷ us)) = refl
    by (Ok (Some T, [])) = refl
    by (Ok (None, [])) = refl

pub terms_mapped : {R : Type 0} (f : List Syntax → R) (kept : Syntax → Subtree) (more : ℕ → Bool) (length : ℕ) (ts : List Spot) → run_form kept more length (terms (λ Ts. option_map f (all_of Ts))) ts ≡ and_then (run_form kept more length (terms all_of) ts) (λ Ts. Ok (f Ts))
terms_mapped f kept more length ts = by (any_of kept more length ts)
  where
    made : (o : Option (List Syntax)) → shallow length (option_map f o) ≡ and_then (shallow length o) (λ Ts. Ok (f Ts))
    made (Some Us) = refl
    made None = refl

    by : (r : Result (List Subtree) ReadFault) → and_then r (λ Ts. shallow length (option_map f (all_of Ts))) ≡ and_then (and_then r (λ Ts. shallow length (all_of Ts))) (λ Ts. Ok (f Ts))
    by (Err e) = refl
    by (Ok Ts) = made (all_of Ts)
