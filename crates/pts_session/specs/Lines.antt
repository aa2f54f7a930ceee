-- What a line of a session comes to: it is no line; or it may not be given now; or it is done.
use Rattle.std.specs.Prelude.{◌≡◌, ◌≢◌, ◌≤◌, ℕ, List, [], ◌∷◌, map, length, codes, Option, Some, None, Bool, true, false, not, ◌||◌, nat_lt, if◌then◌else◌}
use Rattle.pts_ctx.specs.System.{Specification}
use Rattle.pts_names.specs.Name.{Name}
use Rattle.pts_grammar.specs.Seen.{syntax_of}
use Rattle.pts_grammar.specs.declared.tree.Tree.{Tree}
use Rattle.pts_parser.specs.declared.fault.ReadFault.{ReadFault}
use Rattle.pts_parser.specs.declared.fault.ReadFault.TheVariants.{Memory}
use Rattle.pts_parser.specs.FaultText.{read_text}
use Rattle.pts_lines.specs.declared.line.Line.{Line}
use Rattle.pts_lines.specs.declared.line.Line.TheVariants.{Look, Commit, Assume, Define, Budget, Infer, Reduce, Equal, Rename, Discard, Show, Draft}
use Rattle.pts_lines.specs.Words.{command}
use Rattle.pts_lines.specs.Reading.{SaysLine, FewOpen, RefusesText}
use Rattle.pts_lines.specs.Seen.{line_of, deepest, terms_of}
use Rattle.pts_play.specs.Machines.{done, asks}
use Rattle.pts_core.specs.Cores.{SeenExamined}
use Rattle.pts_statement.specs.Statements.{assumes}
use Rattle.pts_queries.specs.Replies.{refusal, shown_line}
use Rattle.pts_queries.specs.Queries.{AnswersInfer, AnswersReduce, AnswersEqual, AnswersShow}
use Rattle.pts_session.specs.declared.request.Awaited.TheVariants as awaited
use Rattle.pts_session.specs.declared.request.Request.TheVariants as request
use Rattle.pts_session.specs.State.{State, Came, scope, changed, OffersDraft}
use Rattle.pts_session.specs.Replies.{count_line}
use Rattle.pts_session.specs.Declaring.{Declares, defines_by}
use Rattle.pts_session.specs.Renaming.{RenamesEntry}

-- The lines that are built.
abbrev pub is_built : Line → Bool
is_built Look = true
is_built Commit = true
is_built (Assume x A) = true
is_built (Define x A t) = true
is_built (Budget n) = true
is_built (Infer t) = true
is_built (Reduce t) = true
is_built (Equal t u) = true
is_built (Rename x y) = true
is_built Discard = true
is_built (Show p x) = true
is_built Draft = true
is_built c = false

abbrev pub needs_draft : Line → Bool
needs_draft Commit = true
needs_draft c = false

abbrev pub has_draft : State → Bool
has_draft s = nat_lt 0 (length s.draft)

-- What a line is tested for before it is done, in this order, each test with the refusal where it fails.
abbrev pub tests : State → Line → List (Bool × List ℕ)
tests s c =
    (is_built c, codes "NotBuilt")
    ∷ (not (needs_draft c) || has_draft s, codes "NothingToCommit")
    ∷ []

abbrev pub first_failing : List (Bool × List ℕ) → Option (List ℕ)
first_failing [] = None
first_failing (t ∷ ts) = if t.0 then first_failing ts else Some t.1

-- The text is this line, whose terms are not too deep.
pub record IsLine (text : List ℕ) (c : Line) : Type 0 where
  pub says : SaysLine text (line_of c)
  pub depth : deepest (terms_of (line_of c)) ≤ 2000
  pub parentheses : FewOpen command text

module _ (S : Specification) (s : State) where
  -- `draft N`, and a line for each entry of the draft.
  abbrev pub draft_lines : List (List ℕ)
  draft_lines = count_line (codes "draft") (length s.draft) ∷ map (shown_line S.sorts) s.draft

  -- What a line does that may be given, a rule for each line.
  pub data Does : Line → Came → Type 0 where
    looks : Does Look (asks request.Look (record { state = s; awaited = awaited.Look }))
    commits : {x : SeenExamined} → OffersDraft S s x → Does Commit (asks (request.Submit x) (record { state = s; awaited = awaited.Submission }))
    assumes_type : {x : Name} {A : Tree} {replies : List (List ℕ)} {t : State} → Declares S s (assumes x (syntax_of A)) replies t → Does (Assume x A) (done replies t)
    defines_name : {x : Name} {A : Option Tree} {b : Tree} {replies : List (List ℕ)} {t : State} → Declares S s (defines_by x A b) replies t → Does (Define x A b) (done replies t)
    sets_budget : {n : ℕ} → Does (Budget n) (done (count_line (codes "budget") n ∷ []) (changed s (record s { budget = n })))
    infers : {t : Tree} {line : List ℕ} → AnswersInfer S (scope s) s.budget (syntax_of t) line → Does (Infer t) (done (line ∷ []) s)
    reduces : {t : Tree} {line : List ℕ} → AnswersReduce S (scope s) s.budget (syntax_of t) line → Does (Reduce t) (done (line ∷ []) s)
    compares : {t u : Tree} {line : List ℕ} → AnswersEqual S (scope s) s.budget (syntax_of t) (syntax_of u) line → Does (Equal t u) (done (line ∷ []) s)
    renames : {x y : Name} {replies : List (List ℕ)} {t : State} → RenamesEntry s x y replies t → Does (Rename x y) (done replies t)
    discards : Does Discard (done (count_line (codes "discarded") (length s.draft) ∷ []) (changed s (record s { draft = [] })))
    shows : {p : ℕ} {x : Name} {line : List ℕ} → AnswersShow S (scope s) p x line → Does (Show p x) (done (line ∷ []) s)
    lists_draft : Does Draft (done draft_lines s)

  -- What a text comes to as a line of the session. A refused line changes nothing.
  pub data ComesTo (text : List ℕ) : Came → Type 0 where
    is_no_line : {e : ReadFault} → e ≢ Memory → RefusesText command text e → ComesTo text (done (refusal (read_text e) ∷ []) s)
    is_refused : {c : Line} {why : List ℕ} → IsLine text c → first_failing (tests s c) ≡ Some why → ComesTo text (done (refusal why ∷ []) s)
    is_done : {c : Line} {o : Came} → IsLine text c → first_failing (tests s c) ≡ None → Does c o → ComesTo text o
