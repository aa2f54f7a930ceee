-- Drafts as contracts see them, what is sure of each, and what comes to one.
use Rattle.std.specs.Prelude.{◌≡◌, ℕ, List, [], ◌∷◌, ◌++◌, Option, Some, None}
use denote.Ref.{Bor}
use Rattle.std.specs.Option.{option_map, option_or}
use Rattle.pts_names.specs.Name.{Name}
use Rattle.pts_terms.specs.declared.term.Term.{Term}
use Rattle.pts_terms.specs.Tree.{Named}
use Rattle.pts_terms.specs.Seen.{named}
use Rattle.pts_ctx.specs.System.{Specification}
use Rattle.pts_ctx.specs.Front.{Global, Fresh, bare_front}
use Rattle.pts_ctx.specs.Seen.{place_of}
use Rattle.pts_record.specs.declared.declaration.Declaration.{Declaration}
use Rattle.pts_rules.specs.Derives.{Legal}
use Rattle.pts_check.specs.Entered.{declared, declared_entries, MayFollow}
use Rattle.pts_reduce_cost.specs.Laws.{WithinBudget}
use Rattle.pts_infer_cost.specs.Typing.{comes}
use Rattle.pts_core.specs.Replies.{LabelledFront}
use Rattle.pts_declare.specs.Stated.{Stated, definition, typed_definition}
use Rattle.pts_declare.specs.Checking.{Checks}

-- A draft: its system, the entries and the labels of its front, and its declarations in order.
pub record SeenDraft : Type 0 where
  pub system : Specification
  pub entries : List (Global Name)
  pub labels : List (Name × ℕ)
  pub declarations : List Declaration

-- The front, and after it the entries of the declarations.
abbrev pub scope : SeenDraft → List (Global Name)
scope d = d.entries ++ declared_entries d.declarations

-- What is sure of a draft with the front G and the declarations ds: the front is legal, and each declaration may be added to the
-- front and the entries of those before it.
pub record IsLegalDraft (S : Specification) (G : List (Global Name)) (ds : List Declaration) : Type 0 where
  pub legal : Legal S (bare_front G)
  pub follow : MayFollow S G ds

-- The same of the labelled front F, and that the scope which is kept is F with the entries after it.
pub record KeepsDraft (S : Specification) (F kept : LabelledFront) (ds : List Declaration) : Type 0 where
  pub sure : IsLegalDraft S F.entries ds
  pub scope_entries : kept.entries ≡ F.entries ++ declared_entries ds
  pub scope_labels : kept.labels ≡ F.labels

-- What a definition states, with its type if one is given.
abbrev pub defined_by : Option Named → Named → Stated
defined_by None t = definition t
defined_by (Some A) t = typed_definition A t

-- The same of the program's terms, of which the type is borrowed.
abbrev pub definition_of : Option (Bor Term) → Term → Stated
definition_of A t = defined_by (option_map (λ T. named T.now) A) (named t)

-- With b units before and k after it: x is free, and what is stated of it over the scope of d comes to a declaration, which is
-- added after those of d.
pub record IsDeclared (d : SeenDraft) (x : Name) (s : Stated) (b k : ℕ) (later : List Declaration) : Type 0 where
  pub declaration : Declaration
  pub free : Fresh x (scope d)
  pub outcome : WithinBudget (Checks d.system (scope d) x s) b (comes (declared declaration)) k
  pub added : later ≡ d.declarations ++ declaration ∷ []

-- The first declaration whose name exists in a front, by that name and its place there.
abbrev pub first_taken : List (Global Name) → List Declaration → Option (Name × ℕ)
first_taken G [] = None
first_taken G (d ∷ ds) = option_or (option_map (λ place. (d.name, place)) (place_of d.name G)) (first_taken G ds)
