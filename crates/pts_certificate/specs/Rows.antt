-- The lines of a certificate, form by form. Each is seen as its words.
use Rattle.std.specs.Prelude.{ℕ, ◌==◌, ◌&&◌, Bool, if◌then◌else◌, List, [], ◌∷◌, ◌++◌, codes, Option, Some, None, is_none, Result, Ok, Err}
use Rattle.std.specs.Str.{is_utf8}
use Rattle.std.specs.List.{list_all, list_any}
use Rattle.pts_names.specs.Name.{Name, same_name, name_fault, part_count, is_sort_spelling}
use Rattle.pts_ctx.specs.System.{Specification, Spelled, written, sort_of}
use Rattle.pts_record.specs.Table.{Tables, term_fault, node_fault, kept_node, number_in}
use Rattle.pts_record.specs.declared.shape.Shape.{Shape}
use Rattle.pts_record.specs.declared.shape.Shape.TheVariants.{Sort, Const, Var, App, Lam, Pi, Let}
use Rattle.pts_record.specs.declared.shape.Form.{Form}
use Rattle.pts_record.specs.declared.shape.Form.TheVariants.{Empty, Assume, Define, Bare, SortAt, ConstAt, VarAt, Thin, PiAt, LamAt, AppAt, LetSort, LetAt, Conv, Same, Left, Right, CongApp, CongLam, CongPi}
use Rattle.pts_record.specs.declared.shape.Node.{Node}
use Rattle.pts_record.specs.declared.shape.RecordFault.{RecordFault}
use Rattle.pts_record.specs.declared.shape.RecordFault.TheVariants.{Link, TooLarge as Large, Memory as NoMemory}
use Rattle.pts_certificate.specs.declared.fault.LineFault.{LineFault}
use Rattle.pts_certificate.specs.declared.fault.LineFault.TheVariants.{BadLine, BadNumber, TooLarge, Memory}
use Rattle.pts_certificate.specs.declared.kind.RowKind.{RowKind}
use Rattle.pts_certificate.specs.declared.kind.RowKind.TheVariants.{SortTerm, ConstTerm, VarTerm, AppTerm, LamTerm, PiTerm, LetTerm}
use Rattle.pts_certificate.specs.Text.{numbers}

-- What follows from an answer, where there is one, and else the refusal.
abbrev pub and_then : {A B : Type 0} → Result A LineFault → (A → Result B LineFault) → Result B LineFault
and_then (Ok a) next = next a
and_then (Err w) next = Err w

-- The words that are names, binders' names (which have one part), and spellings of sorts. All other words of a line are
-- ASCII, so a line that isn't UTF-8 has no form.
abbrev pub is_name : List ℕ → Bool
is_name word = is_utf8 word && is_none (name_fault word)

abbrev pub is_binder : List ℕ → Bool
is_binder word = is_name word && (part_count word == 1)

abbrev pub is_spelling : List ℕ → Bool
is_spelling word = is_utf8 word && is_sort_spelling word

-- A word with nothing after it.
abbrev pub alone : {A : Type 0} → List (List ℕ) → A → Result A LineFault
alone [] a = Ok a
alone (word ∷ fields) a = Err BadLine

-- The spellings that stand in the line `sorts`.
abbrev pub is_declared : List (List ℕ) → List ℕ → Bool
is_declared sorts word = is_spelling word && list_any (same_name word) sorts

-- What stands beside a word in a table.
abbrev pub row_of : {A : Type 0} → List (List ℕ × A) → List ℕ → Option A
row_of [] word = None
row_of (row ∷ rows) word = if same_name word row.0 then Some row.1 else row_of rows word

-- What is said of a line by its first word and its fields. There is always a first word.
abbrev pub on_words : {A : Type 0} → (List ℕ → List (List ℕ) → Result A LineFault) → List (List ℕ) → Result A LineFault
on_words row [] = Err BadLine
on_words row (word ∷ fields) = row word fields

-- A word, where it passes a test.
abbrev pub word_where : (List ℕ → Bool) → List ℕ → Result (List ℕ) LineFault
word_where test word = if test word then Ok word else Err BadLine

abbrev pub spellings : List (List ℕ) → Result (List (List ℕ)) LineFault
spellings fields = if list_all is_spelling fields then Ok fields else Err BadLine

-- sorts S1 S2 ..
abbrev pub sorts_row : List ℕ → List (List ℕ) → Result Spelled LineFault
sorts_row word fields =
    if same_name word (codes "sorts") then and_then (spellings fields) (λ sorts. Ok (written sorts [] []))
    else Err BadLine

-- Two, and three, spellings that stand in the line `sorts`, and nothing after them.
abbrev pub two_sorts : List (List ℕ) → List (List ℕ) → Result (List ℕ × List ℕ) LineFault
two_sorts sorts (s1 ∷ s2 ∷ []) = if is_declared sorts s1 && is_declared sorts s2 then Ok (s1, s2) else Err BadLine
two_sorts sorts _ = Err BadLine

abbrev pub three_sorts : List (List ℕ) → List (List ℕ) → Result (List ℕ × List ℕ × List ℕ) LineFault
three_sorts sorts [] = Err BadLine
three_sorts sorts (s1 ∷ fields) = and_then (word_where (is_declared sorts) s1) (λ s. and_then (two_sorts sorts fields) (λ r. Ok (s, r.0, r.1)))

-- axiom S1 S2: the fields.
abbrev pub axiom_row : Spelled → List (List ℕ) → Result Spelled LineFault
axiom_row w fields = and_then (two_sorts w.sorts fields) (λ a. Ok (written w.sorts (w.axioms ++ a ∷ []) w.rules))

-- rule S1 S2 S3: the fields.
abbrev pub rule_row : Spelled → List (List ℕ) → Result Spelled LineFault
rule_row w fields = and_then (three_sorts w.sorts fields) (λ r. Ok (written w.sorts w.axioms (w.rules ++ r ∷ [])))

-- assume NAME and define NAME: the field.
abbrev pub name_row : List (List ℕ) → Result Name LineFault
name_row (x ∷ []) = word_where is_name x
name_row _ = Err BadLine

-- The forms of terms, after `t`.
abbrev pub term_rows : List (List ℕ × RowKind)
term_rows =
    (codes "sort", SortTerm)
    ∷ (codes "const", ConstTerm)
    ∷ (codes "var", VarTerm)
    ∷ (codes "app", AppTerm)
    ∷ (codes "lam", LamTerm)
    ∷ (codes "pi", PiTerm)
    ∷ (codes "let", LetTerm)
    ∷ []

-- t sort S: the field. The sort stands in the system.
abbrev pub sort_shape : Specification → Name → Result Shape LineFault
sort_shape S s = elim (sort_of S.sorts s) [ Some k ↦ Ok (Sort (record { 0 = k })) | None ↦ Err BadLine ]

abbrev pub sort_row : Specification → List (List ℕ) → Result Shape LineFault
sort_row S (s ∷ []) = and_then (word_where is_spelling s) (sort_shape S)
sort_row S _ = Err BadLine

-- t const NAME
abbrev pub const_row : List (List ℕ) → Result Shape LineFault
const_row fields = and_then (name_row fields) (λ x. Ok (Const x))

-- t var I
abbrev pub var_row : List (List ℕ) → Result Shape LineFault
var_row fields = and_then (numbers 1 fields) (λ ks. Ok (Var (number_in ks 0)))

-- t app F A
abbrev pub app_row : List (List ℕ) → Result Shape LineFault
app_row fields = and_then (numbers 2 fields) (λ ks. Ok (App (number_in ks 0) (number_in ks 1)))

-- A binder's name, and so many numbers after it.
abbrev pub binder_row : ℕ → List (List ℕ) → Result (Name × List ℕ) LineFault
binder_row count [] = Err BadLine
binder_row count (x ∷ fields) = and_then (word_where is_binder x) (λ y. and_then (numbers count fields) (λ ks. Ok (y, ks)))

-- t lam X A B
abbrev pub lam_row : List (List ℕ) → Result Shape LineFault
lam_row fields = and_then (binder_row 2 fields) (λ b. Ok (Lam b.0 (number_in b.1 0) (number_in b.1 1)))

-- t pi X A B
abbrev pub pi_row : List (List ℕ) → Result Shape LineFault
pi_row fields = and_then (binder_row 2 fields) (λ b. Ok (Pi b.0 (number_in b.1 0) (number_in b.1 1)))

-- t let X D A B
abbrev pub let_row : List (List ℕ) → Result Shape LineFault
let_row fields = and_then (binder_row 3 fields) (λ b. Ok (Let b.0 (number_in b.1 0) (number_in b.1 1) (number_in b.1 2)))

abbrev pub row_of_kind : Specification → RowKind → List (List ℕ) → Result Shape LineFault
row_of_kind S SortTerm fields = sort_row S fields
row_of_kind S ConstTerm fields = const_row fields
row_of_kind S VarTerm fields = var_row fields
row_of_kind S AppTerm fields = app_row fields
row_of_kind S LamTerm fields = lam_row fields
row_of_kind S PiTerm fields = pi_row fields
row_of_kind S LetTerm fields = let_row fields

abbrev pub row_of_word : Specification → List ℕ → List (List ℕ) → Result Shape LineFault
row_of_word S word fields = elim (row_of term_rows word) [ Some kind ↦ row_of_kind S kind fields | None ↦ Err BadLine ]

-- The term that is written after `t`.
unfoldable pub term_row : Specification → List (List ℕ) → Result Shape LineFault
term_row S fields = on_words (row_of_word S) fields

-- The forms of nodes, after `n`, and how many numbers follow each. They are P in `assume` and `define`, C in
-- `bare`, and the first of C T U P Q R in all others.
abbrev pub node_rows : List (List ℕ × (Form × ℕ))
node_rows =
    (codes "empty", (Empty, 0))
    ∷ (codes "assume", (Assume, 1))
    ∷ (codes "define", (Define, 1))
    ∷ (codes "bare", (Bare, 1))
    ∷ (codes "sort", (SortAt, 3))
    ∷ (codes "const", (ConstAt, 3))
    ∷ (codes "var", (VarAt, 3))
    ∷ (codes "thin", (Thin, 4))
    ∷ (codes "pi", (PiAt, 5))
    ∷ (codes "lam", (LamAt, 5))
    ∷ (codes "app", (AppAt, 5))
    ∷ (codes "letsort", (LetSort, 4))
    ∷ (codes "let", (LetAt, 5))
    ∷ (codes "conv", (Conv, 6))
    ∷ (codes "same", (Same, 3))
    ∷ (codes "left", (Left, 4))
    ∷ (codes "right", (Right, 4))
    ∷ (codes "capp", (CongApp, 5))
    ∷ (codes "clam", (CongLam, 5))
    ∷ (codes "cpi", (CongPi, 5))
    ∷ []

abbrev pub node_with : Form → List ℕ → Node
node_with Assume ks = record { form = Assume; ctx = 0; subject = 0; claim = 0; first = number_in ks 0; second = 0; third = 0 }
node_with Define ks = record { form = Define; ctx = 0; subject = 0; claim = 0; first = number_in ks 0; second = 0; third = 0 }
node_with form ks =
    record {
      form = form;
      ctx = number_in ks 0;
      subject = number_in ks 1;
      claim = number_in ks 2;
      first = number_in ks 3;
      second = number_in ks 4;
      third = number_in ks 5;
    }

abbrev pub node_of_word : List ℕ → List (List ℕ) → Result Node LineFault
node_of_word word fields =
    elim (row_of node_rows word) [ Some row ↦ and_then (numbers row.1 fields) (λ ks. Ok (node_with row.0 ks)) | None ↦ Err BadLine ]

-- The node that is written after `n`.
unfoldable pub node_row : List (List ℕ) → Result Node LineFault
node_row fields = on_words node_of_word fields

-- Why a term or a node is refused that a record does not take.
abbrev pub refusal_of : RecordFault → LineFault
refusal_of (Link k) = BadNumber
refusal_of Large = TooLarge
refusal_of NoMemory = Memory

-- The tables with one more term, and with one more node.
abbrev pub with_term : Tables → Shape → Result Tables LineFault
with_term r shape =
    elim (term_fault r.shapes shape) [ None ↦ Ok (record { shapes = r.shapes ++ shape ∷ []; nodes = r.nodes }) | Some w ↦ Err (refusal_of w) ]

abbrev pub with_node : Tables → Node → Result Tables LineFault
with_node r node =
    elim (node_fault r node) [ None ↦ Ok (record { shapes = r.shapes; nodes = r.nodes ++ kept_node node ∷ [] }) | Some w ↦ Err (refusal_of w) ]
