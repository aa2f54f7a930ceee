-- What the calls of reduction answer.
use Rattle.std.specs.Prelude.{◌≡◌, ◌<◌, ℕ, length}
use Rattle.pts_terms.specs.Tree.{Named}
use Rattle.pts_record.specs.Table.{Tables, named_at}
use Rattle.pts_reduce_cost.specs.Costs.{Globals, Entries, yes_, no_, Tests, nesting}
use Rattle.pts_reduce_cost.specs.Laws.{WithinBudget, AboveBudget}
use Rattle.pts_grow.specs.Keeps.{Compares}
use Rattle.pts_reduce.specs.declared.fault.ReduceFault.{ReduceFault}
use Rattle.pts_reduce.specs.declared.fault.ReduceFault.TheVariants.{Spent, Deep, Memory}
use Rattle.pts_reduce.specs.declared.answer.Conversion.{Conversion}
use Rattle.pts_reduce.specs.declared.answer.Conversion.TheVariants.{Yes, No}

-- Why there was no answer, with b units before and k after it: each outcome costs more than b, and the meter stands at
-- its limit; or the outcome is that something is beyond the limits. Running out of memory is free.
abbrev pub Refused : {O : Type 0} → (O → ℕ → Type 0) → O → ReduceFault → ℕ → ℕ → Type 0
Refused costs big Spent b k = AboveBudget costs b × (k ≡ 0)
Refused costs big Deep b k = WithinBudget costs b big k
Refused costs big Memory b k = Unit {0}

-- What the test of the terms t and u, which have the numbers l and r, answers in the context with the number c: a yes
-- with the node that compares them, or a no with its place and the two forms.
abbrev pub Answered : Globals → Entries → Tables → (c l r : ℕ) → (t u : Named) → (b k : ℕ) → Conversion → Type 0
Answered G L n c l r t u b k (Yes node) = WithinBudget (Tests G nesting L t u) b yes_ k × Compares n c (record { left = l; right = r; node = node })
Answered G L n c l r t u b k (No place v w) = (v < length n.shapes) × (w < length n.shapes) × WithinBudget (Tests G nesting L t u) b (no_ place (named_at n.shapes v) (named_at n.shapes w)) k
