-- The image of a record appended to another record, the arguments, where terms are judged that replace its constants.
use Rattle.std.specs.Prelude.{◌<◌, ◌+◌, ℕ, zero, suc, List, [], ◌∷◌, ◌++◌, length, map, Bool, true, false, ◌&&◌, Option, Some, None, get_or, nat_eq, if◌then◌else◌}
use Rattle.pts_names.specs.Name.{Name}
use Rattle.pts_terms.specs.Tree.{Tree, Bare, const}
use Rattle.pts_terms.specs.Limits.{within}
use Rattle.pts_terms.specs.Replaced.{replaced}
use Rattle.pts_record.specs.declared.shape.Form.{Form}
use Rattle.pts_record.specs.declared.shape.Form.TheVariants.{Empty, ConstAt, Thin}
use Rattle.pts_record.specs.declared.shape.Shape.{Shape}
use Rattle.pts_record.specs.declared.shape.Shape.TheVariants.{Sort, Const, Var, App, Lam, Pi, Let}
use Rattle.pts_record.specs.declared.shape.Node.{Node}
use Rattle.pts_record.specs.Table.{Tables, at, bare_trees, kept_node, ShapesLinked, NodesLinked}
use Rattle.pts_rules.specs.Parts.{const_in}
use Rattle.pts_image.specs.declared.replacement.Replacement.{Replacement}
use Rattle.pts_image.specs.declared.replacement.Replacement.TheVariants.{Constant, Argument}
use Rattle.pts_image.specs.declared.append.Graft.{Graft}
use Rattle.pts_image.specs.declared.append.Numbering.{Numbering}

-- Each line of a record has its links to earlier lines. Every record of the program is such.
pub record IsLinked (r : Tables) : Type 0 where
  pub shapes : ShapesLinked 0 r.shapes
  pub nodes : NodesLinked (length r.shapes) 0 r.nodes

-- The term that replaces a constant, by the trees of the arguments.
abbrev pub term_of : {B : Type 0} → List (Tree B) → Replacement → Tree B
term_of ts (Constant y) = const y
term_of ts (Argument t p) = at ts t

abbrev pub term_for : {B : Type 0} → List (Tree B) → (Name → Replacement) → Name → Tree B
term_for ts w c = term_of ts (w c)

-- An argument is one of n terms.
abbrev pub IsAmong : (terms : ℕ) → Replacement → Type 0
IsAmong n (Constant y) = Unit {0}
IsAmong n (Argument t p) = t < n

-- The line of a term after the arguments' terms: a constant has the line of what replaces it, and the links of every
-- other term lead to the images of its parts.
abbrev pub replaced_shape : List Shape → Replacement → Shape
replaced_shape ss (Constant y) = Const y
replaced_shape ss (Argument t p) = get_or ss t (Const [])

abbrev pub shape_image : List Shape → (Name → Replacement) → Shape → Shape
shape_image ss w (Sort s) = Sort s
shape_image ss w (Const c) = replaced_shape ss (w c)
shape_image ss w (Var i) = Var i
shape_image ss w (App f a) = App (length ss + f) (length ss + a)
shape_image ss w (Lam x A b) = Lam x (length ss + A) (length ss + b)
shape_image ss w (Pi x A b) = Pi x (length ss + A) (length ss + b)
shape_image ss w (Let x a A b) = Let x (length ss + a) (length ss + A) (length ss + b)

-- Whether a node is an empty context.
abbrev pub is_empty_form : Form → Bool
is_empty_form Empty = true
is_empty_form _ = false

abbrev pub is_empty_node : List Node → ℕ → Bool
is_empty_node [] k = false
is_empty_node (n ∷ ns) zero = is_empty_form n.form
is_empty_node (n ∷ ns) (suc k) = is_empty_node ns k

-- The new number of a node: the arguments' node in whose place it is, if it is the grafted one; their empty context,
-- if it is an empty context; and else its place after the arguments' nodes.
abbrev pub graft_number : Option Graft → (k other : ℕ) → ℕ
graft_number None k other = other
graft_number (Some g) k other = if nat_eq k g.node then g.place else other

abbrev pub new_number : List Node → Numbering → ℕ → ℕ
new_number ns z k = graft_number z.graft k (if is_empty_node ns k then z.root else (z.start + k))

-- A node with new numbers r, its terms after n terms.
abbrev pub renumbered_node : (ℕ → ℕ) → ℕ → Node → Node
renumbered_node r n x = record { form = x.form; ctx = r x.ctx; subject = n + x.subject; claim = n + x.claim; first = r x.first; second = r x.second; third = r x.third }

-- What replaces the constant of a node. A node that is no constant has none.
abbrev pub replacement_in : (Name → Replacement) → Option Name → Replacement
replacement_in w None = Constant []
replacement_in w (Some c) = w c

-- The node of the arguments that judges the replacement.
abbrev pub argument_node : Replacement → Option ℕ
argument_node (Constant y) = None
argument_node (Argument t p) = Some p

-- A constant that an argument replaces becomes the thinning of the argument's judgement.
abbrev pub image_as : Form → Node → Replacement → Node
image_as ConstAt x (Argument t p) = record { form = Thin; ctx = x.ctx; subject = x.subject; claim = x.claim; first = p; second = 0; third = 0 }
image_as f x i = kept_node x

-- The image of a node of the record r, with the new numbers ρ and after n terms.
abbrev pub node_image : (ℕ → ℕ) → ℕ → (Name → Replacement) → Tables → Node → Node
node_image ρ n w r x = image_as x.form (renumbered_node ρ n x) (replacement_in w (const_in (at (bare_trees r.shapes) x.subject)))

abbrev pub shape_images : List Shape → (Name → Replacement) → Tables → List Shape
shape_images ss w r = map (shape_image ss w) r.shapes

abbrev pub node_images : (ℕ → ℕ) → ℕ → (Name → Replacement) → Tables → List Node
node_images ρ n w r = map (node_image ρ n w r) r.nodes

-- The same where a numbering has the new numbers.
abbrev pub image_by : Numbering → ℕ → (Name → Replacement) → Tables → Node → Node
image_by z n w r x = node_image (new_number r.nodes z) n w r x

abbrev pub images_by : Numbering → ℕ → (Name → Replacement) → Tables → List Node
images_by z n w r = node_images (new_number r.nodes z) n w r

-- A record with more terms, and with more nodes.
abbrev pub with_shapes : Tables → List Shape → Tables
with_shapes a ss = record { shapes = a.shapes ++ ss; nodes = a.nodes }

abbrev pub with_nodes : Tables → List Node → Tables
with_nodes a ns = record { shapes = a.shapes; nodes = a.nodes ++ ns }

-- The lines of a, and after them the image of r with the new numbers ρ.
abbrev pub with_image : Tables → (Name → Replacement) → (ℕ → ℕ) → Tables → Tables
with_image a w ρ r = record { shapes = a.shapes ++ shape_images a.shapes w r; nodes = a.nodes ++ node_images ρ (length a.shapes) w r }

-- Each node of r has its number after those of a, but for the empty contexts, which all become the node e of a.
abbrev pub numbering_after : Tables → ℕ → Numbering
numbering_after a e = record { start = length a.nodes; root = e; graft = None }

abbrev pub image_after : Tables → (Name → Replacement) → ℕ → Tables → Tables
image_after a w e r = with_image a w (new_number r.nodes (numbering_after a e)) r

-- Every term of a list is within limits.
abbrev pub all_within : List Bare → Bool
all_within [] = true
all_within (t ∷ ts) = within t && all_within ts

-- Every term of r is within limits with its constants replaced, terms that no node names among them.
abbrev pub is_image_within : Tables → (Name → Replacement) → Tables → Bool
is_image_within a w r = all_within (map (replaced (term_for (bare_trees a.shapes) w)) (bare_trees r.shapes))
