-- Terms with semicolons between them, read one by one.
use Rattle.std.proofs.Common.{ℕ, zero, suc, pred, ◌≡◌, ◌<◌, ◌≤◌, refl, sym, ◌∙◌, ap, Bool, true, false, List, [], ◌∷◌, ◌++◌, append_assoc, map, arith, length, Option, Some, None, Result, Ok, Err}
use Rattle.std.proofs.lemmas.List.{map-append}
use Rattle.pts_tokens.specs.Tokens.{Spot}
use Rattle.pts_grammar.specs.declared.kind.Kind.TheVariants.{End as end_wanted}
use Rattle.pts_grammar.specs.Syntax.{Syntax}
use Rattle.pts_grammar.specs.Machine.{syntax, ParseOutcome, read, expected, too_deep, begin, run}
use Rattle.pts_grammar.specs.Seen.{Subtree}
use Rattle.pts_grammar.proofs.Sound.{machine_sound}
use Rattle.pts_parser.specs.declared.fault.ReadFault.{ReadFault}
use Rattle.pts_parser.specs.declared.fault.ReadFault.TheVariants.{BadChar, LongName, Expected, TooDeep, UnknownName, UnknownSort, Memory}
use Rattle.pts_parser.specs.Resolution.{UnlessMemory, and_then}
use Rattle.pts_lines.specs.Forms.{is_semicolon, of_outcome, first_term, behind_term, next_term, with_others, some_of}
use Rattle.pts_lines.proofs.Frames.{reads_shorter}

module _ (kept : Syntax → Subtree) (more : ℕ → Bool) (size : ℕ) where
  -- What was read as a first term.
  pub record IsFirst (ts : List Spot) (T : Subtree) (us : List Spot) : Type 0 where
    pub first : Syntax
    pub is_read : run syntax more size (begin []) ts ≡ read first us
    pub is_kept : T ≡ kept first

  pub first_is_read : (ts : List Spot) (T : Subtree) (us : List Spot) → first_term kept more size ts ≡ Ok (T, us) → IsFirst ts T us
  unfolding first_term
  first_is_read ts T us h = by (run syntax more size (begin []) ts) refl h
    where
      by : (o : ParseOutcome Syntax) → run syntax more size (begin []) ts ≡ o → of_outcome kept more size o ≡ Ok (T, us) → IsFirst ts T us
      by (read U vs) e g =
          let pairs : ◌≡◌ {A = Subtree × List Spot} (kept U, vs) (T, us) = cc g in
          record { first = U; is_read = e ∙ ap (read U) (ap (λ q. q.1) pairs); is_kept = sym (ap (λ q. q.0) pairs) }
      by (expected p k) e g = absurd (cc g)
      by (too_deep p) e g = absurd (cc g)

  first_shorter : (ts : List Spot) (T : Subtree) (us : List Spot) → first_term kept more size ts ≡ Ok (T, us) → length us < length ts
  first_shorter ts T us h = let f = first_is_read ts T us h in reads_shorter (machine_sound more size ts f.first us f.is_read)

  next_shorter : (ts : List Spot) (T : Subtree) (us : List Spot) → next_term kept more size ts ≡ Ok (T, Some us) → suc (length us) < length ts
  next_shorter ts T us h = by (first_term kept more size ts) refl h
    where
      signed : (b : Bool) (U : Subtree) (s : Spot) (vs : List Spot) → ◌≡◌ {A = Result (Subtree × Option (List Spot)) ReadFault} (elim b [ true ↦ Ok (U, Some vs) | false ↦ Err (Expected s.0 end_wanted) ]) (Ok (T, Some us)) → vs ≡ us
      signed true U s vs g =
          let pairs : ◌≡◌ {A = Subtree × Option (List Spot)} (U, Some vs) (T, Some us) = cc g in
          let rest : Some vs ≡ Some us = ap (λ q. q.1) pairs in
          cc rest
      signed false U s vs g = absurd (cc g)

      by : (r : Result (Subtree × List Spot) ReadFault) → first_term kept more size ts ≡ r → and_then r (λ q. behind_term kept more size q.0 q.1) ≡ Ok (T, Some us) → suc (length us) < length ts
      by (Err e) f g = absurd (cc g)
      by (Ok (U, [])) f g = let pairs : ◌≡◌ {A = Subtree × Option (List Spot)} (U, None) (T, Some us) = cc g in let rest : None ≡ Some us = ap (λ q. q.1) pairs in absurd (cc rest)
      by (Ok (U, s ∷ vs)) f g =
          let short : length (s ∷ vs) < length ts = first_shorter ts U (s ∷ vs) f in
          let same : length vs ≡ length us = ap length (signed (is_semicolon s.1) U s vs g) in
          omega (arith, short, same)

  some_step : (n : ℕ) (ts : List Spot) → length ts ≤ n → some_of kept more size n ts ≡ and_then (next_term kept more size ts) (λ r. with_others kept more size r.0 r.1 (some_of kept more size (pred n)))
  unfolding first_term
  some_step (suc n) ts h = refl
  some_step zero [] h = refl
  some_step zero (t ∷ ts) h = absurd (omega arith)

  -- What is left to be read, behind these parts.
  abbrev pub Left : ℕ → List Spot → List Subtree → Result (List Subtree) ReadFault → Type 0
  Left n ts before all = (length ts ≤ n) × (and_then (some_of kept more size n ts) (λ Ts. Ok (before ++ Ts)) ≡ all)

  pub at_first : (ts : List Spot) → and_then (some_of kept more size (length ts) ts) (λ Ts. Ok ([] ++ Ts)) ≡ some_of kept more size (length ts) ts
  at_first ts = by (some_of kept more size (length ts) ts)
    where
      by : (r : Result (List Subtree) ReadFault) → and_then r (λ Ts. Ok ([] ++ Ts)) ≡ r
      by (Ok Ts) = refl
      by (Err e) = refl

  module _ (n : ℕ) (ts : List Spot) (before : List Subtree) (all : Result (List Subtree) ReadFault) (left : Left n ts before all) where
    opened : (r : Result (Subtree × Option (List Spot)) ReadFault) → next_term kept more size ts ≡ r → all ≡ and_then (and_then r (λ q. with_others kept more size q.0 q.1 (some_of kept more size (pred n)))) (λ Ts. Ok (before ++ Ts))
    opened r e = sym left.1 ∙ ap (λ x. and_then x (λ Ts. Ok (before ++ Ts))) (some_step n ts left.0 ∙ ap (λ x. and_then x (λ q. with_others kept more size q.0 q.1 (some_of kept more size (pred n)))) e)

    pub first_fails : (e : ReadFault) → UnlessMemory e (next_term kept more size ts ≡ Err e) → UnlessMemory e (all ≡ Err e)
    first_fails (BadChar p) h = opened (Err (BadChar p)) h
    first_fails (LongName p) h = opened (Err (LongName p)) h
    first_fails (Expected p k) h = opened (Err (Expected p k)) h
    first_fails (TooDeep p) h = opened (Err (TooDeep p)) h
    first_fails (UnknownName p x) h = opened (Err (UnknownName p x)) h
    first_fails (UnknownSort p x) h = opened (Err (UnknownSort p x)) h
    first_fails Memory h = tt

    pub last_is : (T : Subtree) → next_term kept more size ts ≡ Ok (T, None) → all ≡ Ok (before ++ T ∷ [])
    last_is T h = opened (Ok (T, None)) h

    pub next_is : (T : Subtree) (us : List Spot) → next_term kept more size ts ≡ Ok (T, Some us) → Left (pred n) us (before ++ T ∷ []) all
    next_is T us h =
        let short : suc (length us) < length ts = next_shorter ts T us h in
        let enough : length us ≤ pred n = omega (arith, short, left.0) in
        (enough, sym (opened (Ok (T, Some us)) h ∙ by (some_of kept more size (pred n) us)))
      where
        by : (r : Result (List Subtree) ReadFault) → and_then (and_then r (λ Ts. Ok (T ∷ Ts))) (λ Ts. Ok (before ++ Ts)) ≡ and_then r (λ Ts. Ok ((before ++ T ∷ []) ++ Ts))
        by (Ok Ts) = ap (λ Us. Ok Us) (sym (append_assoc before (T ∷ []) Ts))
        by (Err e) = refl

    pub is_shorter : (T : Subtree) (us : List Spot) → next_term kept more size ts ≡ Ok (T, Some us) → length us < length ts
    is_shorter T us h = let short : suc (length us) < length ts = next_shorter ts T us h in omega (arith, short)

-- One more part of the program.
pub with_part : {A B : Type 0} (f : A → B) (before all : List A) (x : A) → all ≡ before ++ x ∷ [] → map f before ++ f x ∷ [] ≡ map f all
with_part f before all x e = sym (ap (map f) e ∙ map-append f before (x ∷ []))
