-- What the parser builds is the syntax, if that is not too deep.
use Rattle.std.proofs.Common.{ℕ, drop, min, ◌≡◌, refl, sym, ◌∙◌, ap, List, [], Ok, Err, Result}
use Rattle.std.proofs.lemmas.List.{drop_min}
use Rattle.pts_tokens.specs.Tokens.{Spot}
use Rattle.pts_grammar.specs.declared.kind.Kind.{Kind}
use Rattle.pts_grammar.specs.Syntax.{Syntax}
use Rattle.pts_grammar.specs.Machine.{Build, syntax, ParseOutcome, read, expected, too_deep, begin, run}
use Rattle.pts_grammar.specs.Seen.{Subtree, within, parts}
use Rattle.pts_grammar.specs.Open.{more}
use Rattle.pts_grammar.proofs.Carried.{on_outcome, same_run}
use Rattle.pts_grammar.proofs.Answer.{answers_read}
use Rattle.pts_parser.specs.declared.fault.ReadFault.{ReadFault}
use Rattle.pts_parser.specs.declared.fault.ReadFault.TheVariants.{Expected, TooDeep}
use Rattle.pts_lines.specs.Forms.{of_outcome, first_term}

-- Building nothing.
unbuilt : Build (Unit {0})
unbuilt = record { of_sort = λ p s. tt; of_name = λ p x. tt; applied = λ f a. tt; bound = λ b x A T. tt; defined = λ x d A T. tt }

-- What is read, without what is built.
abbrev pub bare : {D : Type 0} → ParseOutcome D → ParseOutcome (Unit {0})
bare (read T us) = read tt us
bare (expected p k) = expected p k
bare (too_deep p) = too_deep p

bare_run : {D : Type 0} (B : Build D) (length : ℕ) (ts : List Spot) → run unbuilt more length (begin []) ts ≡ bare (run B more length (begin []) ts)
bare_run {D} B length ts = same_run B unbuilt (λ T. tt) (λ p s. refl) (λ p x. refl) (λ f a. refl) (λ b x A T. refl) (λ x d A T. refl) more length ts (begin []) ∙ by (run B more length (begin []) ts)
  where
    by : (o : ParseOutcome D) → on_outcome B unbuilt (λ T. tt) (λ p s. refl) (λ p x. refl) (λ f a. refl) (λ b x A T. refl) (λ x d A T. refl) o ≡ bare o
    by (read T us) = refl
    by (expected p k) = refl
    by (too_deep p) = refl

alike : (length : ℕ) (ts : List Spot) → bare (run parts more length (begin []) ts) ≡ bare (run syntax more length (begin []) ts)
alike length ts = sym (bare_run parts length ts) ∙ bare_run syntax length ts

-- The outcome with parts, as a result.
abbrev pub of_parts : ParseOutcome Subtree → Result (Subtree × List Spot) ReadFault
of_parts (read T us) = Ok (T, us)
of_parts (expected p k) = Err (Expected p k)
of_parts (too_deep p) = Err (TooDeep p)

unread : (b : ParseOutcome Syntax) (p : ℕ) (k : Kind) → expected p k ≡ bare b → b ≡ expected p k
unread (read T us) p k e = absurd (cc e)
unread (expected q j) p k e = let places : p ≡ q = cc e in let kinds : k ≡ j = cc e in ap (λ x. expected x j) (sym places) ∙ ap (expected p) (sym kinds)
unread (too_deep q) p k e = absurd (cc e)

undone : (b : ParseOutcome Syntax) (p : ℕ) → too_deep p ≡ bare b → b ≡ too_deep p
undone (read T us) p e = absurd (cc e)
undone (expected q j) p e = absurd (cc e)
undone (too_deep q) p e = let places : p ≡ q = cc e in ap too_deep (sym places)

-- What the parser answers is the first term.
pub first_is : (length : ℕ) (ts : List Spot) (o : ParseOutcome Subtree) → o ≡ run parts more length (begin []) ts → first_term within more length ts ≡ of_parts o
unfolding first_term
first_is length ts (read T us) e = let r = answers_read length ts T us e in ap (of_outcome within more length) r.is_read ∙ ap (λ t. Ok (t, us)) (sym r.kept)
first_is length ts (expected p k) e = ap (of_outcome within more length) (unread _ p k (ap bare e ∙ alike length ts))
first_is length ts (too_deep p) e = ap (of_outcome within more length) (undone _ p (ap bare e ∙ alike length ts))

-- As the call of the parser gives it.
pub term_is : (length n : ℕ) (ts us : List Spot) (T : Subtree) → read T (drop n ts) ≡ run parts more length (begin []) ts → us ≡ drop (min n (Rattle.std.specs.Prelude.length ts)) ts → first_term within more length ts ≡ Ok (T, us)
term_is length n ts us T e h = first_is length ts (read T (drop n ts)) e ∙ ap (λ vs. Ok (T, vs)) (sym (h ∙ drop_min n ts))
