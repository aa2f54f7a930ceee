-- Leaves, and the forms of terms.
use Rattle.std.proofs.Common.{◌≡◌, ℕ, ◌≤◌, suc, refl, sym, ap, ◌∙◌, List, Bool, Option, Some, None, true, false, ◌&&◌}
use Rattle.std.specs.Option.{option_map, option_and_then}
use Rattle.pts_names.specs.Name.{Name}
use Rattle.pts_terms.specs.Tree.{Named, sort, lift}
use Rattle.pts_terms.specs.Limits.{within, depth_of, size_of}
use Rattle.pts_terms.proofs.Indices.{lift_depth, lift_size}
use Rattle.pts_ctx.specs.Front.{Global, find, Local, assumed, defined, unknown, entry_at}
use Rattle.pts_ctx.specs.Seen.{global_within, body_within}
use Rattle.pts_record.specs.declared.shape.Shape.{Shape}
use Rattle.pts_record.specs.Table.{Tables, named_at, bare_at}
use Rattle.pts_reduce_cost.specs.Costs.{Globals, Entries}
use Rattle.pts_reduce_cost.specs.Run.{ends, spent}
use Rattle.pts_infer_cost.specs.Typing.{type_at}
use Rattle.pts_infer_cost.specs.Inference.{looked_up, type_of_global}
use Rattle.pts_infer_cost.proofs.Ends.{type_looked_up, nothing_looked_up}
use Rattle.pts_grow.proofs.Lifted.{stands_within}
use Rattle.pts_grow.specs.Judges.{IsSort, type_in}
use Rattle.pts_grow.proofs.Plain.{plain_sort}

-- Sorts.
pub sort_there : (r : Tables) (t s : ℕ) → named_at r.shapes t ≡ sort s → IsSort r t
sort_there r t s e = let p = plain_sort r.shapes t s e in rw p refl

pub ruleset sorts = (sort_there)

-- Constants.
pub constant_missing : (G : Globals) (c : Name) (k : ℕ) → None ≡ find c G → looked_up (type_of_global (find c G)) k ≡ spent
constant_missing G c k e = nothing_looked_up (type_of_global (find c G)) k (ap type_of_global (sym e))

pub constant_there : (G : Globals) (c : Name) (g : Global Name) (T : Named) (k : ℕ) → Some g ≡ find c G → T ≡ g.type → looked_up (type_of_global (find c G)) k ≡ ends T k
constant_there G c g T k e p = type_looked_up (type_of_global (find c G)) T k (ap type_of_global (sym e) ∙ ap Some (sym p))

not_both : (a b : Bool) → (a && b) ≡ true → b ≡ false → ⊥
not_both true b h e = let x : true ≡ false = sym h ∙ e in cc x
not_both false b h e = cc h

pub type_fits : (g : Global Name) → global_within g ≡ true → within g.type ≡ false → ⊥
type_fits g h e = not_both (body_within g.body) (within g.type) h e

pub ruleset constants = (constant_missing, constant_there, type_fits)

-- Variables.
type_at_is : (i : ℕ) (o : Option (Local Name)) → type_at i o ≡ option_map (lift 0 (suc i)) (option_and_then type_in o)
type_at_is i None = refl
type_at_is i (Some (assumed A)) = refl
type_at_is i (Some (defined a A)) = refl
type_at_is i (Some unknown) = refl

pub variable_missing : (L : Entries) (i k : ℕ) → None ≡ option_and_then type_in (entry_at L i) → looked_up (type_at i (entry_at L i)) k ≡ spent
variable_missing L i k e = nothing_looked_up (type_at i (entry_at L i)) k (type_at_is i (entry_at L i) ∙ ap (option_map (lift 0 (suc i))) (sym e))

pub variable_there : (L : Entries) (i k : ℕ) (A T : Named) → Some A ≡ option_and_then type_in (entry_at L i) → T ≡ lift 0 (suc i) A → looked_up (type_at i (entry_at L i)) k ≡ ends T k
variable_there L i k A T e p = type_looked_up (type_at i (entry_at L i)) T k (type_at_is i (entry_at L i) ∙ ap (option_map (lift 0 (suc i))) (sym e) ∙ ap Some (sym p))

pub lift_fits : (ss : List Shape) (t from by : ℕ) → (depth_of (bare_at ss t) ≤ 2000) × (size_of (bare_at ss t) ≤ 1000000) → within (lift from by (named_at ss t)) ≡ false → ⊥
lift_fits ss t from by h e =
    let p : within (named_at ss t) ≡ true = stands_within ss t h in
    let d = lift_depth from by (named_at ss t) in
    let s = lift_size from by (named_at ss t) in
    let q : within (lift from by (named_at ss t)) ≡ true = rw (d, s) p in
    let x : true ≡ false = sym q ∙ e in
    cc x

pub ruleset variables = (variable_missing, variable_there, lift_fits)
