-- Printed terms over locals, and printed goals. Lists of locals have the outermost first.
use Rattle.std.specs.Prelude.{ℕ, suc, List, [], ◌∷◌, ◌++◌, Bool, ◌||◌, reverse, length, codes}
use Rattle.pts_names.specs.Name.{Name}
use Rattle.pts_terms.specs.Tree.{Named}
use Rattle.pts_printed.specs.Choice.{occurs, constants, choice}
use Rattle.pts_printed.specs.Spelled.{spelled}
use Rattle.pts_printed.specs.Text.{text_of}

-- The names that are chosen for locals, each given by its name and whether it occurs. Forbidden are the names that were
-- chosen before, `done` and those of the list, and the constants.
abbrev pub named_locals : (constants : List Name) → (done : List Name) → List (Name × Bool) → List Name
named_locals cs done [] = []
named_locals cs done (x ∷ xs) = choice x.0 x.1 (done ++ cs) ∷ named_locals cs (done ++ choice x.0 x.1 (done ++ cs) ∷ []) xs

-- Each local with whether it occurs in the term.
abbrev pub uses : List Name → Named → List (Name × Bool)
uses [] t = []
uses (x ∷ xs) t = (x, occurs (length xs) t) ∷ uses xs t

-- The names of the locals of a printed term.
unfoldable pub chosen_locals : List Name → Named → List Name
chosen_locals locals t = named_locals (constants t) [] (uses locals t)

-- A term printed over locals.
unfoldable pub printed : (sorts : List (List ℕ)) → (locals : List Name) → Named → List ℕ
printed sorts locals t = text_of (spelled sorts (reverse (chosen_locals locals t)) t)

-- Whether the variable that has index k in the first of the types, k + 1 in the second, and so on, occurs in one of them
-- or in the statement.
abbrev pub occurs_behind : ℕ → List Named → Named → Bool
occurs_behind k [] statement = occurs k statement
occurs_behind k (A ∷ types) statement = occurs k A || occurs_behind (suc k) types statement

-- Each hypothesis of a goal with whether it occurs after itself. There are as many names as types.
abbrev pub goal_uses : List Name → List Named → (statement : Named) → List (Name × Bool)
goal_uses [] types statement = []
goal_uses (x ∷ xs) [] statement = []
goal_uses (x ∷ xs) (A ∷ types) statement = (x, occurs_behind 0 types statement) ∷ goal_uses xs types statement

-- The constants of one part that occur in a goal.
abbrev pub goal_constants : List Named → (statement : Named) → List Name
goal_constants [] statement = constants statement
goal_constants (A ∷ types) statement = constants A ++ goal_constants types statement

-- The names of the hypotheses of a printed goal.
unfoldable pub goal_locals : List Name → List Named → (statement : Named) → List Name
goal_locals names types statement = named_locals (goal_constants types statement) [] (goal_uses names types statement)

-- The hypotheses `x : A` by their chosen names, each type over the hypotheses before it; `done` are the first of them.
abbrev pub hypotheses : (sorts : List (List ℕ)) → (done : List Name) → List Name → List Named → List (List ℕ)
hypotheses sorts done [] types = []
hypotheses sorts done (x ∷ xs) [] = []
hypotheses sorts done (x ∷ xs) (A ∷ types) =
    (x ++ (codes " : " ++ text_of (spelled sorts (reverse done) A))) ∷ hypotheses sorts (done ++ x ∷ []) xs types

-- The texts with `, ` between each and the next.
abbrev pub comma_joined : List (List ℕ) → List ℕ
comma_joined [] = []
comma_joined (h ∷ []) = h
comma_joined (h ∷ k ∷ hs) = h ++ (codes ", " ++ comma_joined (k ∷ hs))

-- The line of a goal.
abbrev pub goal_line : (hypotheses : List (List ℕ)) → (statement : List ℕ) → List ℕ
goal_line [] statement = codes "|- " ++ statement
goal_line (h ∷ hs) statement = comma_joined (h ∷ hs) ++ (codes " |- " ++ statement)

-- A goal printed by the chosen names of its hypotheses.
abbrev pub goal_text : (sorts : List (List ℕ)) → List Name → List Named → (statement : Named) → List ℕ
goal_text sorts chosen types statement = goal_line (hypotheses sorts [] chosen types) (text_of (spelled sorts (reverse chosen) statement))

-- A goal printed.
unfoldable pub printed_goal : (sorts : List (List ℕ)) → (names : List Name) → (types : List Named) → (statement : Named) → List ℕ
printed_goal sorts names types statement = goal_text sorts (goal_locals names types statement) types statement
