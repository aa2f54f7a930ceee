-- The lines of a session that ask and change nothing, a relation each. In the system S, over the front G, under hypotheses with
-- the names xs, the outermost first, and the entries L, the innermost first, and on b units, the last argument is the one line
-- that is answered.
use Rattle.std.specs.Prelude.{◌≡◌, ◌-◌, ℕ, suc, List, [], length, reverse, take, codes, Option, Some, None, true, false}
use Rattle.std.specs.Option.{option_and_then}
use Rattle.pts_names.specs.Name.{Name}
use Rattle.pts_terms.specs.Tree.{Named}
use Rattle.pts_terms.specs.Limits.{within}
use Rattle.pts_ctx.specs.System.{Specification}
use Rattle.pts_ctx.specs.Front.{Global, find, entry_at}
use Rattle.pts_grammar.specs.Syntax.{Syntax}
use Rattle.pts_parser.specs.declared.fault.ReadFault.TheVariants.{UnknownName}
use Rattle.pts_parser.specs.FaultText.{read_text}
use Rattle.pts_parser.specs.Resolution.{binder_of}
use Rattle.pts_printed.specs.Locals.{printed}
use Rattle.pts_reduce_cost.specs.Costs.{Globals, Entries, Reduct, form, too_large, Reduces, TestAnswer, yes_, no_, beyond, Tests, nesting}
use Rattle.pts_infer_cost.specs.Typing.{by_flaw, by_limits, Typing, comes, stops, Infers, inference_nesting}
use Rattle.pts_grow.specs.Judges.{type_in}
use Rattle.pts_infer.specs.Answered.{behind}
use Rattle.pts_infer.specs.FaultText.{part_text}
use Rattle.pts_infer.specs.declared.part.Part.TheVariants.{Whole}
use Rattle.pts_flaw_text.specs.FlawText.{flaw_text}
use Rattle.pts_flaw_text.specs.InferText.{spent_text, deep_text}
use Rattle.pts_queries.specs.Budgets.{Worked, came_to, above, Works}
use Rattle.pts_queries.specs.Replies.{refusal, difference_line, judgement_line, typed_line, shown_line}
use Rattle.pts_queries.specs.Reading.{term_over, OnTerm}

-- The line of an outcome; or the refusal where none is within the budget.
abbrev pub worked_line : {O : Type 0} → (O → List ℕ) → Worked O → List ℕ
worked_line line_of (came_to o) = line_of o
worked_line line_of above = refusal spent_text

-- The line of what work comes to.
abbrev pub AnswersWork : {O : Type 0} → (costs : O → ℕ → Type 0) → (b : ℕ) → (O → List ℕ) → List ℕ → Type 0
AnswersWork {O} costs b line_of line = (w : Worked O) × Works costs b w × (line ≡ worked_line line_of w)

-- Work on a term that must be within limits. It comes to `big` where the term is not.
pub data Limited {O : Type 0} (t : Named) (big : O) (costs : O → ℕ → Type 0) : O → ℕ → Type 0 where
  beyond_limits : within t ≡ false → Limited t big costs big 0
  inside_limits : {o : O} {n : ℕ} → within t ≡ true → costs o n → Limited t big costs o n

-- A term is inferred, a term is reduced, and two terms are tested.
abbrev pub InfersTerm : Specification → Globals → Entries → (t : Named) → Typing → ℕ → Type 0
InfersTerm S G L t = Limited t (stops by_limits) (Infers S G inference_nesting L t)

abbrev pub ReducesTerm : Globals → Entries → (t : Named) → Reduct → ℕ → Type 0
ReducesTerm G L t = Limited t too_large (Reduces G L t)

abbrev pub TestsTerms : Globals → Entries → (t u : Named) → TestAnswer → ℕ → Type 0
TestsTerms G L t u = Limited t beyond (Limited u beyond (Tests G nesting L t u))

-- The lines of outcomes.
module _ (sorts : List (List ℕ)) (xs : List Name) where
  -- The term with its type, or the flaw of the term.
  abbrev pub inferred_line : Named → Typing → List ℕ
  inferred_line t (comes A) = judgement_line sorts xs t A
  inferred_line t (stops (by_flaw f)) = refusal (flaw_text sorts (part_text Whole) (behind xs f))
  inferred_line t (stops by_limits) = refusal deep_text

  -- The weak head normal form.
  abbrev pub reduced_line : Reduct → List ℕ
  reduced_line (form v) = printed sorts xs v
  reduced_line too_large = refusal deep_text

  -- The hypothesis x, by its index, with its type over the hypotheses before it. None lacks a type.
  abbrev pub hypothesis_line : (p : ℕ) → Name → (i : ℕ) → Option Named → List ℕ
  hypothesis_line p x i (Some A) = typed_line sorts (take (length xs - suc i) xs) x A
  hypothesis_line p x i None = refusal (read_text (UnknownName p x))

-- The entry that a name has, which is at the place p of the text.
abbrev pub found_line : (sorts : List (List ℕ)) → (p : ℕ) → Name → Option (Global Name) → List ℕ
found_line sorts p x (Some e) = shown_line sorts e
found_line sorts p x None = refusal (read_text (UnknownName p x))

-- Whether the terms are convertible, or the place where their forms differ.
abbrev pub tested_line : TestAnswer → List ℕ
tested_line yes_ = codes "yes"
tested_line (no_ place v w) = difference_line place
tested_line beyond = refusal deep_text

module _ (S : Specification) (G : Globals) where
  module _ (xs : List Name) (L : Entries) where
    -- `infer TERM`
    abbrev pub AnswersInferUnder : (b : ℕ) → Syntax → (line : List ℕ) → Type 0
    AnswersInferUnder b T line = OnTerm (term_over S.sorts G xs T) (λ t. AnswersWork (InfersTerm S G L t) b (inferred_line S.sorts xs t)) line

    -- `reduce TERM`, of which nothing is inferred.
    abbrev pub AnswersReduceUnder : (b : ℕ) → Syntax → (line : List ℕ) → Type 0
    AnswersReduceUnder b T line = OnTerm (term_over S.sorts G xs T) (λ t. AnswersWork (ReducesTerm G L t) b (reduced_line S.sorts xs)) line

    -- `equal TERM ; TERM`, of which nothing is inferred either.
    abbrev pub AnswersEqualUnder : (b : ℕ) → (T U : Syntax) → (line : List ℕ) → Type 0
    AnswersEqualUnder b T U line = OnTerm (term_over S.sorts G xs T) (λ t. OnTerm (term_over S.sorts G xs U) (λ u. AnswersWork (TestsTerms G L t u) b tested_line)) line

    -- `show NAME`, which costs nothing: the hypothesis that a term would name so, or else the entry of the front.
    abbrev pub named_line : (p : ℕ) → Name → Option ℕ → List ℕ
    named_line p x (Some i) = hypothesis_line S.sorts xs p x i (option_and_then type_in (entry_at L i))
    named_line p x None = found_line S.sorts p x (find x G)

    abbrev pub AnswersShowUnder : (p : ℕ) → Name → (line : List ℕ) → Type 0
    AnswersShowUnder p x line = line ≡ named_line p x (binder_of x (reverse xs))

  -- The same lines without hypotheses.
  abbrev pub AnswersInfer : (b : ℕ) → Syntax → (line : List ℕ) → Type 0
  AnswersInfer b T line = AnswersInferUnder [] [] b T line

  abbrev pub AnswersReduce : (b : ℕ) → Syntax → (line : List ℕ) → Type 0
  AnswersReduce b T line = AnswersReduceUnder [] [] b T line

  abbrev pub AnswersEqual : (b : ℕ) → (T U : Syntax) → (line : List ℕ) → Type 0
  AnswersEqual b T U line = AnswersEqualUnder [] [] b T U line

  abbrev pub AnswersShow : (p : ℕ) → Name → (line : List ℕ) → Type 0
  AnswersShow p x line = line ≡ found_line S.sorts p x (find x G)
