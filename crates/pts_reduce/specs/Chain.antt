-- Chains of head steps among a record's terms.
use Rattle.std.specs.Prelude.{◌≡◌, ◌<◌, ℕ, List, [], ◌∷◌, length, Some}
use Rattle.pts_record.specs.declared.shape.Shape.{Shape}
use Rattle.pts_record.specs.Table.{Tables, named_at}
use Rattle.pts_record.specs.Said.{named_told, scope_of}
use Rattle.pts_rules.specs.Step.{head_step}
use Rattle.pts_reduce_cost.specs.Costs.{Globals, Entries}
use Rattle.pts_reduce_cost.specs.Work.{reduced}
use Rattle.pts_grow.specs.Keeps.{Keeps, StaysValid}

-- The first of the terms that lead to a form, or the form itself.
abbrev pub first_of : List ℕ → ℕ → ℕ
first_of [] f = f
first_of (k ∷ ks) f = k

-- Each of the terms steps to the next, and the last one to the form.
abbrev pub Leads : Globals → Entries → List Shape → List ℕ → ℕ → Type 0
Leads G L ss [] f = Unit {0}
Leads G L ss (k ∷ ks) f = (head_step G L (named_at ss k) ≡ Some (named_at ss (first_of ks f))) × Leads G L ss ks f

-- Each number is below n.
abbrev pub EachBelow : ℕ → List ℕ → Type 0
EachBelow n [] = Unit {0}
EachBelow n (k ∷ ks) = (k < n) × EachBelow n ks

-- Head steps lead from the term t through terms that stand to the form f.
pub record IsChain (G : Globals) (L : Entries) (ss : List Shape) (t : ℕ) (steps : List ℕ) (f : ℕ) : Type 0 where
  pub form : f < length ss
  pub stand : EachBelow (length ss) steps
  pub leads : Leads G L ss steps f
  pub first : first_of steps f ≡ t

-- The entries of the context with a number.
abbrev pub entries_of : Tables → ℕ → Entries
entries_of r c = (scope_of (named_told r c)).entries

-- What holds between two steps of a reduction that began with the term t of the record a and with k units, and came to
-- the term f of the record b with j units.
pub record Walk (G : Globals) (a : Tables) (c t k : ℕ) (b : Tables) (f : ℕ) (steps : List ℕ) (j : ℕ) : Type 0 where
  pub keeps : Keeps a b
  pub valid : StaysValid a b
  pub nodes : b.nodes ≡ a.nodes
  pub chain : IsChain G (entries_of a c) b.shapes t steps f
  pub run : reduced G (entries_of a c) k (named_at a.shapes t) ≡ reduced G (entries_of a c) j (named_at b.shapes f)
