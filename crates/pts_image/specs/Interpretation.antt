-- Interpretations of a front in another one: what replaces each constant is right there.
use Rattle.std.specs.Prelude.{◌≡◌, ℕ, length, true, Some, None}
use Rattle.pts_names.specs.Name.{Name}
use Rattle.pts_terms.specs.Tree.{Bare, Below}
use Rattle.pts_terms.specs.Replaced.{replaced}
use Rattle.pts_ctx.specs.System.{Specification}
use Rattle.pts_ctx.specs.Front.{Global, Front, find}
use Rattle.pts_record.specs.Table.{Tables, at, bare_trees}
use Rattle.pts_record.specs.Said.{context, judgement, told}
use Rattle.pts_rules.specs.Valid.{IsValid, concludes}
use Rattle.pts_image.specs.declared.replacement.Replacement.{Replacement}
use Rattle.pts_image.specs.declared.replacement.Replacement.TheVariants.{Constant, Argument}
use Rattle.pts_image.specs.Image.{Closed, entry_image, empty_scope}
use Rattle.pts_image.specs.Appending.{IsLinked, IsAmong, term_for, image_after}

-- What replaces the name of an entry i is right over the front H: a constant has the image of i there; an argument is
-- put for an assumption alone, and its node in the record a judges it, in the empty context e, to have the image of the
-- assumption's type.
abbrev pub Interprets : Front → Tables → ℕ → (Name → Bare) → Global (Unit {0}) → Replacement → Type 0
Interprets H a e f i (Constant y) = find y H ≡ Some (entry_image f y i)
Interprets H a e f i (Argument t p) = (i.body ≡ None) × (told a p ≡ judgement e (empty_scope e) (at (bare_trees a.shapes) t) (replaced f i.type)) × Below 0 (replaced f i.type)

-- w interprets the front F in H, with the record a for the arguments.
pub record Interpretation (H : Front) (a : Tables) (e : ℕ) (w : Name → Replacement) (F : Front) : Type 0 where
  pub linked : IsLinked a
  pub empty : told a e ≡ context (empty_scope e)
  pub terms : (c : Name) → IsAmong (length a.shapes) (w c)
  pub closed : Closed (term_for (bare_trees a.shapes) w)
  pub entries : (x : Name) (i : Global (Unit {0})) → find x F ≡ Some i → Interprets H a e (term_for (bare_trees a.shapes) w) i (w x)

-- The image of a record that is valid over F is valid over each front in which F is interpreted.
abbrev pub ImagesAreValid : Type 0
ImagesAreValid = (S : Specification) (F H : Front) (a r : Tables) (e : ℕ) (w : Name → Replacement) → Interpretation H a e w F → IsLinked r → IsValid S H a → IsValid S F r → IsValid S H (image_after a w e r)

-- It concludes the image of what the record concludes, under any name.
abbrev pub ImagesConclude : Type 0
ImagesConclude = (S : Specification) (F H : Front) (a r : Tables) (e : ℕ) (w : Name → Replacement) → Interpretation H a e w F → IsLinked r → IsValid S H a → IsValid S F r → (i : Global (Unit {0})) (y : Name) → concludes r i ≡ true → concludes (image_after a w e r) (entry_image (term_for (bare_trees a.shapes) w) y i) ≡ true
