-- The laws of lines that ask: under any hypotheses each has one answer at most.
use Rattle.std.specs.Prelude.{◌≡◌, ℕ, List}
use Rattle.pts_names.specs.Name.{Name}
use Rattle.pts_ctx.specs.System.{Specification}
use Rattle.pts_grammar.specs.Syntax.{Syntax}
use Rattle.pts_reduce_cost.specs.Costs.{Globals, Entries}
use Rattle.pts_queries.specs.Queries.{AnswersInferUnder, AnswersReduceUnder, AnswersEqualUnder}

abbrev pub HasOneLine : (List ℕ → Type 0) → Type 0
HasOneLine answers = (l m : List ℕ) → answers l → answers m → l ≡ m

abbrev pub InferHasOneAnswer : Type 0
InferHasOneAnswer = (S : Specification) (G : Globals) (xs : List Name) (L : Entries) (b : ℕ) (T : Syntax) → HasOneLine (AnswersInferUnder S G xs L b T)

abbrev pub ReduceHasOneAnswer : Type 0
ReduceHasOneAnswer = (S : Specification) (G : Globals) (xs : List Name) (L : Entries) (b : ℕ) (T : Syntax) → HasOneLine (AnswersReduceUnder S G xs L b T)

abbrev pub EqualHasOneAnswer : Type 0
EqualHasOneAnswer = (S : Specification) (G : Globals) (xs : List Name) (L : Entries) (b : ℕ) (T U : Syntax) → HasOneLine (AnswersEqualUnder S G xs L b T U)
