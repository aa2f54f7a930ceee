-- The texts of replies that hold terms, and of refusals.
use Rattle.std.specs.Prelude.{ℕ, List, [], ◌++◌, codes, Option, Some, None}
use Rattle.pts_names.specs.Name.{Name}
use Rattle.pts_terms.specs.Tree.{Named}
use Rattle.pts_ctx.specs.Front.{Global}
use Rattle.pts_printed.specs.Locals.{printed}
use Rattle.pts_flaw_text.specs.FlawText.{place_text}

-- `refused`, and the name of the refusal with its values.
abbrev pub refusal : (text : List ℕ) → List ℕ
refusal text = codes "refused " ++ text

-- The answer of a conversion test that found two forms that differ: `no PATH`.
abbrev pub difference_line : (place : List ℕ) → List ℕ
difference_line place = codes "no " ++ place_text place

module _ (sorts : List (List ℕ)) where
  -- `TERM : TYPE`, printed over the names xs of hypotheses, the outermost first.
  abbrev pub judgement_line : (xs : List Name) → (t A : Named) → List ℕ
  judgement_line xs t A = printed sorts xs t ++ (codes " : " ++ printed sorts xs A)

  -- `NAME : TYPE`, the type over the names of hypotheses.
  abbrev pub typed_line : (xs : List Name) → Name → (A : Named) → List ℕ
  typed_line xs x A = x ++ (codes " : " ++ printed sorts xs A)

  -- `assumed NAME : TYPE` and `defined NAME : TYPE`, by the word.
  abbrev pub declared_line : (word : List ℕ) → Global Name → List ℕ
  declared_line word e = word ++ (codes " " ++ typed_line [] e.name e.type)

  -- `NAME : TYPE` of an assumption, and `NAME := BODY : TYPE` of a definition.
  abbrev pub shown_by : Name → Option Named → Named → List ℕ
  shown_by x None A = typed_line [] x A
  shown_by x (Some a) A = x ++ (codes " := " ++ (printed sorts [] a ++ (codes " : " ++ printed sorts [] A)))

  abbrev pub shown_line : Global Name → List ℕ
  shown_line e = shown_by e.name e.body e.type
