-- The laws of printed text: the names that are chosen, and that what is printed is read back.
use Rattle.std.specs.Prelude.{◌≡◌, ◌+◌, decimal, ◌<◌, ◌≤◌, ◌^◌, ℕ, suc, List, [], ◌∷◌, ◌++◌, Bool, true, false, None, Some, Option, Ok, IsUtf8, IsTrue, length, get_or, reverse}
use Rattle.std.specs.List.{AllByRecursion}
use Rattle.pts_names.specs.Name.{Name, name_fault, is_identifier, is_sort_spelling, is_plain}
use Rattle.pts_terms.specs.Tree.{Tree, Named, sort, const, var, app, named_lam, named_pi, named_let, bare, Below}
use Rattle.pts_terms.specs.Limits.{within}
use Rattle.pts_ctx.specs.System.{sort_of, Spelled, system_fault}
use Rattle.pts_parser.specs.Reading.{Means}
use Rattle.pts_printed.specs.Choice.{occurs, forbidden, is_among, allowed, chosen}
use Rattle.pts_printed.specs.Spelled.{spelled}
use Rattle.pts_printed.specs.Text.{text_of}
use Rattle.pts_printed.specs.Locals.{named_locals, chosen_locals, printed, goal_locals}

-- A text is a name.
abbrev pub IsName : Name → Type 0
IsName x = IsUtf8 x × (name_fault x ≡ None)

-- The constants of a term, and the printed names of its binders, are names.
abbrev pub HasNames : Named → Type 0
HasNames (sort s) = Unit {0}
HasNames (const c) = IsName c
HasNames (var i) = Unit {0}
HasNames (app f a) = HasNames f × HasNames a
HasNames (named_lam x A b) = IsName x × HasNames A × HasNames b
HasNames (named_pi x A B) = IsName x × HasNames A × HasNames B
HasNames (named_let x a A b) = IsName x × HasNames a × HasNames A × HasNames b

-- Each sort of a term is one of the first n.
abbrev pub SortsBelow : {B : Type 0} → ℕ → Tree B → Type 0
SortsBelow n (sort s) = s < n
SortsBelow n (const c) = Unit {0}
SortsBelow n (var i) = Unit {0}
SortsBelow n (app f a) = SortsBelow n f × SortsBelow n a
SortsBelow n (named_lam x A b) = SortsBelow n A × SortsBelow n b
SortsBelow n (named_pi x A B) = SortsBelow n A × SortsBelow n B
SortsBelow n (named_let x a A b) = SortsBelow n a × SortsBelow n A × SortsBelow n b

-- Each constant of a term stands for itself in the scope.
abbrev pub Stands : (Name → Option Name) → Named → Type 0
Stands scope (sort s) = Unit {0}
Stands scope (const c) = scope c ≡ Some c
Stands scope (var i) = Unit {0}
Stands scope (app f a) = Stands scope f × Stands scope a
Stands scope (named_lam x A b) = Stands scope A × Stands scope b
Stands scope (named_pi x A B) = Stands scope A × Stands scope B
Stands scope (named_let x a A b) = Stands scope a × Stands scope A × Stands scope b

-- A text is the spelling of a sort.
abbrev pub IsSpelling : List ℕ → Type 0
IsSpelling spelling = IsUtf8 spelling × (is_sort_spelling spelling ≡ true)

-- Each text is one.
abbrev pub AllAreSpellings : List (List ℕ) → Type 0
AllAreSpellings sorts = (s : ℕ) → s < length sorts → IsSpelling (get_or sorts s [])

-- Each spelling is looked up as its own sort, so that none stands twice.
abbrev pub StandOnce : List (List ℕ) → Type 0
StandOnce sorts = (s : ℕ) → s < length sorts → sort_of sorts (get_or sorts s []) ≡ Some s

-- The spellings of a system's sorts.
abbrev pub SpellSorts : List (List ℕ) → Type 0
SpellSorts sorts = AllAreSpellings sorts × StandOnce sorts

-- A term that can be printed over so many locals: it is within limits, its sorts are the system's, its free indices are
-- those of the locals, and its names are names.
abbrev pub IsPrintable : (sorts : List (List ℕ)) → (locals : ℕ) → Named → Type 0
IsPrintable sorts n t = IsTrue (within t) × SortsBelow (length sorts) t × Below n t × HasNames t

-- From its first byte on, the text says a term that is equal to t apart from printed names. Its locals have these names,
-- the outermost first.
abbrev pub MeansEqual : (sorts : List (List ℕ)) → (Name → Option Name) → (locals : List Name) → List ℕ → Named → Type 0
MeansEqual sorts scope locals text t = (u : Named) × Means text 0 sorts scope locals (Ok u) × (bare u ≡ bare t)

-- A printed term is read back, over locals with the names that were chosen for them.
abbrev pub PrintedTermsAreReadBack : Type 0
PrintedTermsAreReadBack =
    (sorts : List (List ℕ)) (locals : List Name) (t : Named) (scope : Name → Option Name)
    → SpellSorts sorts → AllByRecursion IsName locals → length locals < 2 ^ 63 → IsPrintable sorts (length locals) t → Stands scope t
    → MeansEqual sorts scope (chosen_locals locals t) (printed sorts locals t) t

-- The text of a term over locals whose names are chosen, the outermost first.
abbrev pub text_over : (sorts : List (List ℕ)) → (chosen : List Name) → Named → List ℕ
text_over sorts chosen t = text_of (spelled sorts (reverse chosen) t)

-- The types of a goal's hypotheses can be printed, each over those before it, of which there are n before the first.
abbrev pub ArePrintable : (sorts : List (List ℕ)) → ℕ → List Named → Type 0
ArePrintable sorts n [] = Unit {0}
ArePrintable sorts n (A ∷ types) = IsPrintable sorts n A × ArePrintable sorts (suc n) types

-- The text of each type means that type, over the hypotheses before it by their chosen names; `done` are the first of them.
abbrev pub TypesAreMeant : (sorts : List (List ℕ)) → (Name → Option Name) → (done : List Name) → List Name → List Named → Type 0
TypesAreMeant sorts scope done [] types = Unit {0}
TypesAreMeant sorts scope done (x ∷ xs) [] = Unit {0}
TypesAreMeant sorts scope done (x ∷ xs) (A ∷ types) =
    MeansEqual sorts scope done (text_over sorts done A) A × TypesAreMeant sorts scope (done ++ x ∷ []) xs types

-- A printed goal is read back, each type and the statement.
abbrev pub PrintedGoalsAreReadBack : Type 0
PrintedGoalsAreReadBack =
    (sorts : List (List ℕ)) (names : List Name) (types : List Named) (statement : Named) (scope : Name → Option Name)
    → SpellSorts sorts → AllByRecursion IsName names → length names ≡ length types → length names < 2 ^ 63
    → ArePrintable sorts 0 types → IsPrintable sorts (length names) statement
    → AllByRecursion (Stands scope) types → Stands scope statement
    → TypesAreMeant sorts scope [] (goal_locals names types statement) types
    × MeansEqual sorts scope (goal_locals names types statement) (text_over sorts (goal_locals names types statement) statement) statement

-- A chosen name is a name of one part that captures nothing: it is no name of an outer variable that occurs in the body,
-- and no constant that does; and where its own variable occurs, it can be found.
abbrev pub ChosenNamesCaptureNothing : Type 0
ChosenNamesCaptureNothing =
    (x : Name) (L : List Name) (body : Named) → IsName x → length L < 2 ^ 63 → IsTrue (within body)
    → IsName (chosen x L body) × (is_identifier (chosen x L body) ≡ true)
    × (is_among (chosen x L body) (forbidden L body) ≡ false) × (occurs 0 body ≡ true → is_plain (chosen x L body) ≡ true)

-- Where a name is forbidden, the number that is appended is the least from 1 on that makes it allowed.
abbrev pub NumbersAreLeast : Type 0
NumbersAreLeast =
    (x : Name) (F : List Name) → length F < 2 ^ 63 → is_among x F ≡ true
    → (n : ℕ) × (1 ≤ n) × (allowed x F ≡ x ++ decimal n) × (is_among (x ++ decimal n) F ≡ false)
    × ((j : ℕ) → 1 ≤ j → j < n → is_among (x ++ decimal j) F ≡ true)

-- No name stands twice.
abbrev pub AreApart : List Name → Type 0
AreApart [] = Unit {0}
AreApart (y ∷ ys) = (is_among y ys ≡ false) × AreApart ys

-- There are as many chosen names as locals. Each has one part, none is one of the constants, and none stands twice.
abbrev pub LocalsAreToldApart : Type 0
LocalsAreToldApart =
    (cs : List Name) (xs : List (Name × Bool)) → AllByRecursion (λ x. IsName x.0) xs → length xs + length cs < 2 ^ 64
    → (length (named_locals cs [] xs) ≡ length xs)
    × AllByRecursion (λ y. IsName y × (is_identifier y ≡ true) × (is_among y cs ≡ false)) (named_locals cs [] xs)
    × AreApart (named_locals cs [] xs)

-- No sort of a system without fault stands twice.
abbrev pub SortsOfSystemsStandOnce : Type 0
SortsOfSystemsStandOnce = (w : Spelled) → system_fault w ≡ None → StandOnce w.sorts
