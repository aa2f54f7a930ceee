-- The lines that declare: `assume X : TERM`, `define X := TERM`, `define X : TERM := TERM`.
use Rattle.std.specs.Prelude.{◌≡◌, ℕ, List, [], ◌∷◌, ◌++◌, codes, Option, Some, None, option_map, Result, Ok, Err}
use Rattle.pts_ctx.specs.System.{Specification}
use Rattle.pts_ctx.specs.Front.{Global}
use Rattle.pts_ctx.specs.Seen.{place_of}
use Rattle.pts_names.specs.Name.{Name}
use Rattle.pts_grammar.specs.Seen.{syntax_of}
use Rattle.pts_grammar.specs.declared.tree.Tree.{Tree}
use Rattle.pts_parser.specs.declared.fault.ReadFault.{ReadFault}
use Rattle.pts_reduce_cost.specs.Laws.{WithinBudget, AboveBudget}
use Rattle.pts_infer_cost.specs.Typing.{Stop, moved, comes, stops}
use Rattle.pts_flaw_text.specs.InferText.{spent_text}
use Rattle.pts_declare.specs.Stated.{Stated}
use Rattle.pts_declare.specs.Checking.{PartFlaw, Checks}
use Rattle.pts_statement.specs.Statements.{Statement, assumes, defines, name_of, stated}
use Rattle.pts_statement.specs.Declaring.{unread, taken, ill_typed}
use Rattle.pts_statement.specs.Words.{reason_text, stop_text}
use Rattle.pts_queries.specs.Reading.{known_name}
use Rattle.pts_queries.specs.Replies.{refusal, declared_line}
use Rattle.pts_session.specs.State.{State, scope, changed}

-- The definition of a name by a text, with its type if one is given.
abbrev pub defines_by : Name → Option Tree → Tree → Statement
defines_by x A t = defines x (option_map syntax_of A) (syntax_of t)

-- The first word of the reply.
abbrev pub word_of : Statement → List ℕ
word_of (assumes x A) = codes "assumed"
word_of (defines x A t) = codes "defined"

-- What is stated, its names and sorts looked up over a front; or the first of these that is unknown.
abbrev pub stated_in : Specification → List (Global Name) → Statement → Result Stated ReadFault
stated_in S G d = stated S.sorts (known_name G) d

module _ (S : Specification) (s : State) where
  -- The same over the scope.
  abbrev pub stated_over : Statement → Result Stated ReadFault
  stated_over d = stated_in S (scope s) d

  -- The entry of a declaration comes after those of the draft.
  abbrev pub with_entry : Global Name → State
  with_entry e = record s { draft = s.draft ++ e ∷ [] }

  -- The reply, and the state after it. Names and sorts are looked up first, then the name that is declared, and both cost
  -- nothing. What is stated is then checked on the budget.
  pub data Declares (d : Statement) : (replies : List (List ℕ)) → State → Type 0 where
    unknown_word : {e : ReadFault} → stated_over d ≡ Err e → Declares d (refusal (reason_text S.sorts (unread e)) ∷ []) s
    name_is_taken : {t : Stated} {p : ℕ} → stated_over d ≡ Ok t → place_of (name_of d) (scope s) ≡ Some p → Declares d (refusal (reason_text S.sorts (taken (name_of d) p)) ∷ []) s
    is_stopped : {t : Stated} {e : Stop PartFlaw} (left : ℕ) → stated_over d ≡ Ok t → place_of (name_of d) (scope s) ≡ None → WithinBudget (Checks S (scope s) (name_of d) t) s.budget (stops e) left → Declares d (refusal (stop_text S.sorts (moved ill_typed e)) ∷ []) s
    is_spent : {t : Stated} → stated_over d ≡ Ok t → place_of (name_of d) (scope s) ≡ None → AboveBudget (Checks S (scope s) (name_of d) t) s.budget → Declares d (refusal spent_text ∷ []) s
    enters : {t : Stated} {e : Global Name} (left : ℕ) → stated_over d ≡ Ok t → place_of (name_of d) (scope s) ≡ None → WithinBudget (Checks S (scope s) (name_of d) t) s.budget (comes e) left → Declares d (declared_line S.sorts (word_of d) e ∷ []) (changed s (with_entry e))
