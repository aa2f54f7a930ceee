-- What a text says as a certificate: its lines are read in order, and each says what may come next.
use Rattle.std.specs.Prelude.{ℕ, ◌+◌, ◌-◌, Bool, true, false, if◌then◌else◌, List, [], ◌∷◌, ◌++◌, length, slice_get, codes, Option, Some, None, Result, Ok, Err}
use Rattle.pts_names.specs.Name.{Name, same_name}
use Rattle.pts_terms.specs.Tree.{Named}
use Rattle.pts_ctx.specs.System.{Specification, Spelled, specification_of, system_fault}
use Rattle.pts_record.specs.Table.{Tables, named_at, kind_of}
use Rattle.pts_record.specs.declared.shape.Form.{Form}
use Rattle.pts_record.specs.declared.shape.FormKind.{FormKind}
use Rattle.pts_record.specs.declared.shape.FormKind.TheVariants.{Context, Judgement, Comparison}
use Rattle.pts_record.specs.declared.shape.Node.{Node}
use Rattle.pts_certificate.specs.declared.fault.CertificateFault.{CertificateFault}
use Rattle.pts_certificate.specs.declared.fault.CertificateFault.TheVariants.{Truncated, BadLine as BadLineAt, BadNumber as BadNumberAt, TooLarge as TooLargeAt, System as NoSystem, Memory as NoMemory}
use Rattle.pts_certificate.specs.declared.fault.LineFault.{LineFault}
use Rattle.pts_certificate.specs.declared.fault.LineFault.TheVariants.{BadLine, BadNumber, TooLarge, System, Memory}
use Rattle.pts_certificate.specs.Text.{lines, words}
use Rattle.pts_certificate.specs.Rows.{and_then, alone, on_words, sorts_row, axiom_row, rule_row, name_row, term_row, node_row, with_term, with_node}

-- A declaration: a definition where it has a body, else an assumption. Its proof is the record between its first
-- line and `qed`.
pub record Declared : Type 0 where
  pub name : Name
  pub body : Option Named
  pub type : Named
  pub proof : Tables

-- A certificate, or the front part of one.
pub record Written : Type 0 where
  pub system : Specification
  pub declarations : List Declared

-- The first line of a declaration.
pub record Heading : Type 0 where
  pub name : Name
  pub defines : Bool

-- What may come next: the first line; the line of the sorts; a further axiom, or what may follow the axioms; a
-- further rule, or what may follow the rules; a declaration's first line, or `end`; a line of a declaration;
-- nothing.
pub data State : Type 0 where
  at_start : State
  at_sorts : State
  at_axioms : (written : Spelled) → State
  at_rules : (written : Spelled) → State
  between : (front : Written) → State
  inside : (front : Written) (heading : Heading) (tables : Tables) → State
  at_end : (whole : Written) → State

-- The first line is this one.
abbrev pub first_line : List ℕ → Result State LineFault
first_line line = if same_name line (codes "yarrow-certificate 1") then Ok at_sorts else Err BadLine

abbrev pub opened : Written → Bool → Name → State
opened front defines x = inside front (record { name = x; defines = defines }) (record { shapes = []; nodes = [] })

-- Between declarations stand `assume NAME`, `define NAME` and `end`.
unfoldable pub between_row : Written → List ℕ → List (List ℕ) → Result State LineFault
between_row front word fields =
    if same_name word (codes "assume") then and_then (name_row fields) (λ x. Ok (opened front false x))
    else if same_name word (codes "define") then and_then (name_row fields) (λ x. Ok (opened front true x))
    else if same_name word (codes "end") then alone fields (at_end front)
    else Err BadLine

-- The first line after the rules: that the lists are no system comes before all that may be wrong with it.
abbrev pub system_row : Spelled → Result Specification LineFault
system_row w = elim (system_fault w) [ Some e ↦ Err (System e) | None ↦ Ok (specification_of w) ]

abbrev pub behind_rules : Spelled → List ℕ → List (List ℕ) → Result State LineFault
behind_rules w word fields = and_then (system_row w) (λ S. between_row (record { system = S; declarations = [] }) word fields)

abbrev pub rules_row : Spelled → List ℕ → List (List ℕ) → Result State LineFault
rules_row w word fields =
    if same_name word (codes "rule") then and_then (rule_row w fields) (λ v. Ok (at_rules v)) else behind_rules w word fields

abbrev pub axioms_row : Spelled → List ℕ → List (List ℕ) → Result State LineFault
axioms_row w word fields =
    if same_name word (codes "axiom") then and_then (axiom_row w fields) (λ v. Ok (at_axioms v)) else rules_row w word fields

-- A node of the form is a judgement.
abbrev pub judging : FormKind → Bool
judging Context = false
judging Judgement = true
judging Comparison = false

abbrev pub judges : Form → Bool
judges f = judging (kind_of f)

-- What a judgement declares: a definition's body is its subject and its type the claim, an assumption's type is its
-- subject.
abbrev pub declared : Heading → Tables → Node → Declared
declared h r n =
    if h.defines
    then record { name = h.name; body = Some (named_at r.shapes n.subject); type = named_at r.shapes n.claim; proof = r }
    else record { name = h.name; body = None; type = named_at r.shapes n.subject; proof = r }

-- A declaration's terms are those of its last node, which must be a judgement.
abbrev pub last_node : Tables → Option Node
last_node r = slice_get r.nodes (length r.nodes - 1)

unfoldable pub concluded : Heading → Tables → Result Declared LineFault
concluded h r =
    elim (last_node r) [ Some n ↦ if judges n.form then Ok (declared h r n) else Err BadLine | None ↦ Err BadLine ]

abbrev pub qed_row : Heading → Tables → List (List ℕ) → Result Declared LineFault
qed_row h r [] = concluded h r
qed_row h r (word ∷ fields) = Err BadLine

abbrev pub with_declaration : Written → Declared → Written
with_declaration front d = record { system = front.system; declarations = front.declarations ++ d ∷ [] }

-- Inside a declaration stand lines of terms and of nodes, and `qed`.
unfoldable pub inside_row : Written → Heading → Tables → List ℕ → List (List ℕ) → Result State LineFault
inside_row front h r word fields =
    if same_name word (codes "t") then and_then (and_then (term_row front.system fields) (with_term r)) (λ q. Ok (inside front h q))
    else if same_name word (codes "n") then and_then (and_then (node_row fields) (with_node r)) (λ q. Ok (inside front h q))
    else if same_name word (codes "qed") then and_then (qed_row h r fields) (λ d. Ok (between (with_declaration front d)))
    else Err BadLine

-- What may come after a line, or why the line is refused.
abbrev pub step : State → List ℕ → Result State LineFault
step at_start line = first_line line
step at_sorts line = and_then (on_words sorts_row (words line)) (λ w. Ok (at_axioms w))
step (at_axioms w) line = on_words (axioms_row w) (words line)
step (at_rules w) line = on_words (rules_row w) (words line)
step (between front) line = on_words (between_row front) (words line)
step (inside front h r) line = on_words (inside_row front h r) (words line)
step (at_end whole) line = Err BadLine

-- The refusal of line n.
abbrev pub at_line : ℕ → LineFault → CertificateFault
at_line n BadLine = BadLineAt n
at_line n BadNumber = BadNumberAt n
at_line n TooLarge = TooLargeAt n
at_line n (System e) = NoSystem e
at_line n Memory = NoMemory

-- The text may end after the line `end` alone.
abbrev pub ended : State → Result Written CertificateFault
ended (at_end whole) = Ok whole
ended _ = Err Truncated

-- What the lines say from a state on, the first of which has number n.
abbrev pub read_lines : State → ℕ → List (List ℕ) → Result Written CertificateFault
read_lines S n [] = ended S
read_lines S n (line ∷ rest) = elim (step S line) [ Ok T ↦ read_lines T (n + 1) rest | Err w ↦ Err (at_line n w) ]

-- The certificate that a text is, or why it is none: the first line that is refused, else that it ends too soon.
unfoldable pub certificate_of : List ℕ → Result Written CertificateFault
certificate_of text = read_lines at_start 1 (lines text)

-- What a fault means, unless memory ran out.
abbrev pub UnlessMemory : CertificateFault → Type 0 → Type 0
UnlessMemory NoMemory P = Unit {0}
UnlessMemory Truncated P = P
UnlessMemory (BadLineAt n) P = P
UnlessMemory (BadNumberAt n) P = P
UnlessMemory (TooLargeAt n) P = P
UnlessMemory (NoSystem e) P = P
