-- The names that lines give to declarations.
use Rattle.std.specs.Prelude.{◌≡◌, true}
use Rattle.pts_names.specs.Name.{is_plain}
use Rattle.pts_lines.specs.Lines.{Line, of_type, definition, renaming}

-- A name that the line gives to a declaration is plain.
abbrev pub NamesArePlain : Line → Type 0
NamesArePlain (of_type c x A) = is_plain x ≡ true
NamesArePlain (definition x A t) = is_plain x ≡ true
NamesArePlain (renaming x y) = is_plain y ≡ true
NamesArePlain L = Unit {0}
