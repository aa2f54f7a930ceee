-- The image of what a record says: its constants are replaced by closed terms, its nodes have new numbers.
use Rattle.std.specs.Prelude.{ℕ, List, [], ◌∷◌, map}
use Rattle.std.specs.Option.{option_map}
use Rattle.pts_names.specs.Name.{Name}
use Rattle.pts_terms.specs.Tree.{Tree, Bare, sort, Below}
use Rattle.pts_terms.specs.Replaced.{replaced}
use Rattle.pts_ctx.specs.Front.{Global, Local, assumed, defined, unknown}
use Rattle.pts_record.specs.Said.{Row, Made, by_empty, by_assume, by_define, by_bare, Scope, Said, nothing, context, judgement, comparison}

-- Each constant is replaced by a closed term.
abbrev pub Closed : (Name → Bare) → Type 0
Closed f = (c : Name) → Below 0 (f c)

-- An entry of a front under another name, with its constants replaced.
abbrev pub entry_image : {B : Type 0} → (Name → Tree B) → Name → Global B → Global B
entry_image f y e = record { name = y; body = option_map (replaced f) e.body; type = replaced f e.type }

-- The empty context with the number e.
abbrev pub empty_scope : {B : Type 0} → ℕ → Scope B
empty_scope e = record { made = by_empty; entries = []; trail = e ∷ [] }

-- The images under f, which replaces constants, and r, which renumbers nodes.
module _ (f : Name → Bare) where
  abbrev pub local_image : Local (Unit {0}) → Local (Unit {0})
  local_image (assumed A) = assumed (replaced f A)
  local_image (defined a A) = defined (replaced f a) (replaced f A)
  local_image unknown = unknown

  module _ (r : ℕ → ℕ) where
    abbrev pub made_image : Made → Made
    made_image by_empty = by_empty
    made_image (by_assume p d) = by_assume (r p) (r d)
    made_image (by_define p d) = by_define (r p) (r d)
    made_image (by_bare d) = by_bare (r d)

    abbrev pub scope_image : Scope (Unit {0}) → Scope (Unit {0})
    scope_image s = record { made = made_image s.made; entries = map local_image s.entries; trail = map r s.trail }

    abbrev pub said_image : Said (Unit {0}) → Said (Unit {0})
    said_image nothing = nothing
    said_image (context s) = context (scope_image s)
    said_image (judgement c s t T) = judgement (r c) (scope_image s) (replaced f t) (replaced f T)
    said_image (comparison c s t u) = comparison (r c) (scope_image s) (replaced f t) (replaced f u)

    abbrev pub row_image : Row (Unit {0}) → Row (Unit {0})
    row_image l = record { form = l.form; ctx = r l.ctx; subject = replaced f l.subject; claim = replaced f l.claim; first = r l.first; second = r l.second; third = r l.third }
