-- What the calls inside answer.
use Rattle.std.specs.Prelude.{◌≡◌, ◌<◌, ℕ, List, [], length, codes, true, Result, Ok, Err}
use Rattle.pts_terms.specs.Tree.{Named}
use Rattle.pts_terms.specs.Limits.{within}
use Rattle.pts_terms.specs.Seen.{named}
use Rattle.pts_parser.specs.declared.fault.ReadFault.{ReadFault}
use Rattle.pts_parser.specs.FaultText.{read_text}
use Rattle.pts_record.specs.Table.{Tables, named_at}
use Rattle.pts_reduce_cost.specs.Costs.{TestAnswer}
use Rattle.pts_reduce_cost.specs.Laws.{WithinBudget}
use Rattle.pts_grow.specs.Judges.{IsTypedContext}
use Rattle.pts_reduce.specs.Chain.{entries_of}
use Rattle.pts_reduce.specs.declared.fault.ReduceFault.{ReduceFault}
use Rattle.pts_reduce.specs.declared.fault.ReduceFault.TheVariants.{Spent, Deep, Memory}
use Rattle.pts_flaw_text.specs.InferText.{spent_text, deep_text}
use Rattle.pts_queries.specs.declared.reading.Resolved.{Resolved}
use Rattle.pts_queries.specs.declared.reading.Resolved.TheVariants as resolved
use Rattle.pts_queries.specs.declared.hypotheses.Under.{Under}
use Rattle.pts_queries.specs.Replies.{refusal}
use Rattle.pts_queries.specs.Queries.{tested_line}

-- A text that is looked up has this term, or a fault that the line refuses.
abbrev pub IsResolved : Result Named ReadFault → Resolved → Type 0
IsResolved said (resolved.Term t) = said ≡ Ok (named t)
IsResolved said (resolved.Refused line) = (e : ReadFault) × (said ≡ Err e) × (line ≡ refusal (read_text e))

-- How what stops a reduction or a test is printed. Running out of memory is never printed.
abbrev pub reduce_text : ReduceFault → List ℕ
reduce_text Spent = spent_text
reduce_text Deep = deep_text
reduce_text Memory = codes "Memory"

-- The number is that of an empty context of the record.
pub record IsBegun (r : Tables) (c : ℕ) : Type 0 where
  pub there : c < length r.nodes
  pub typed : IsTypedContext r c
  pub empty : entries_of r c ≡ []

-- The term of the record with that number.
abbrev pub term_in : Under → ℕ → Named
term_in u n = named_at u.proof.now.shapes n

-- The number is that of a term of the record, which is within limits.
pub record HasTerm (u : Under) (n : ℕ) : Type 0 where
  pub there : n < length u.proof.now.shapes
  pub within : within (term_in u n) ≡ true

-- The line is that of the outcome, with b units before and k after it.
abbrev pub IsTested : (TestAnswer → ℕ → Type 0) → (b k : ℕ) → List ℕ → Type 0
IsTested costs b k line = (o : TestAnswer) × WithinBudget costs b o k × (line ≡ tested_line o)
