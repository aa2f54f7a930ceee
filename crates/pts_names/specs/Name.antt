-- What text is a name: one or more identifiers joined by single dots, in at most 128 bytes.
-- Texts are lists of bytes, as UTF-8; words and parts of a text are lists of its characters.
use Rattle.std.specs.Prelude.{ℕ, ◌+◌, ◌==◌, ◌||◌, ◌&&◌, not, List, [], ◌∷◌, ◌++◌, Bool, true, false, if◌then◌else◌, Option, Some, None, is_none, nat_le, nat_lt, length, codes, chars}
use Rattle.std.specs.Option.{option_or}
use Rattle.std.specs.Char.{len_utf8}
use Rattle.unicode_ident.specs.Ident.{is_xid_start, is_xid_continue}
use Rattle.pts_names.specs.declared.fault.NameFault.{NameFault}
use Rattle.pts_names.specs.declared.fault.NameFault.TheVariants.{Empty, BadStart, BadPart, TooLong, Memory}
use Rattle.pts_names.specs.declared.fault.SortNameFault.{SortNameFault}
use Rattle.pts_names.specs.declared.fault.SortNameFault.TheVariants.{BadSpelling, Memory as SortMemory}

-- A name is seen as its text: the bytes of its UTF-8.
abbrev pub Name : Type 0
Name = List ℕ

-- Two names are the same where their texts are.
abbrev pub same_name : Name → Name → Bool
same_name [] [] = true
same_name [] (c ∷ y) = false
same_name (b ∷ x) [] = false
same_name (b ∷ x) (c ∷ y) = (b == c) && same_name x y

-- The characters that begin an identifier, and those that go on with it.
abbrev pub starts_identifier : ℕ → Bool
starts_identifier c = is_xid_start c || (c == 95)

abbrev pub continues_identifier : ℕ → Bool
continues_identifier = is_xid_continue

-- The words that are no identifiers.
abbrev pub is_keyword : List ℕ → Bool
is_keyword word = same_name word (codes "let") || same_name word (codes "in")

-- The first of the characters from byte `place` on with which no identifier goes on.
abbrev pub rest_fault : ℕ → List ℕ → Option NameFault
rest_fault place [] = None
rest_fault place (c ∷ cs) = if continues_identifier c then rest_fault (place + len_utf8 c) cs else Some (BadPart place)

-- Why the characters from byte `place` on are not one identifier.
abbrev pub identifier_fault : ℕ → List ℕ → Option NameFault
identifier_fault place [] = Some (BadStart place)
identifier_fault place (c ∷ cs) = if is_keyword (c ∷ cs) || not (starts_identifier c) then Some (BadStart place) else rest_fault (place + len_utf8 c) cs

-- One more character in front of the first part.
abbrev pub with_first : ℕ → List (List ℕ) → List (List ℕ)
with_first c [] = (c ∷ []) ∷ []
with_first c (part ∷ later) = (c ∷ part) ∷ later

-- The parts of a text: the characters before, between and after its dots.
abbrev pub parts : List ℕ → List (List ℕ)
parts [] = [] ∷ []
parts (c ∷ cs) = if c == 46 then [] ∷ parts cs else with_first c (parts cs)

-- How many bytes the characters take.
abbrev pub width : List ℕ → ℕ
width [] = 0
width (c ∷ cs) = len_utf8 c + width cs

-- The first fault of the parts, of which the first begins at byte `place` and each next one after a dot.
abbrev pub parts_fault : ℕ → List (List ℕ) → Option NameFault
parts_fault place [] = None
parts_fault place (part ∷ later) = option_or (identifier_fault place part) (parts_fault (place + width part + 1) later)

-- Why a text is no name, and `None` for a name.
unfoldable pub name_fault : List ℕ → Option NameFault
name_fault [] = Some Empty
name_fault (b ∷ bs) = if nat_lt 128 (length (b ∷ bs)) then Some (TooLong (length (b ∷ bs))) else parts_fault 0 (parts (chars (b ∷ bs)))

-- Two names with a dot between them.
abbrev pub joined : Name → Name → Name
joined label last = label ++ (codes "." ++ last)

-- How many parts a name has.
unfoldable pub part_count : Name → ℕ
part_count name = length (parts (chars name))

-- A text that is one identifier, at any length.
unfoldable pub is_identifier : List ℕ → Bool
is_identifier text = is_none (identifier_fault 0 (chars text))

-- The name `_`, which is no plain name. A binder may have it.
abbrev pub underscore : Name
underscore = codes "_"

-- A plain name: one part, and not `_`.
abbrev pub is_plain : Name → Bool
is_plain x = is_identifier x && not (same_name x underscore)

-- A plain name of at most 63 bytes. After a label of at most 64 bytes and a dot it makes a name of at most 128.
abbrev pub is_short : Name → Bool
is_short x = is_plain x && nat_le (length x) 63

-- The spelling of a sort: `*`, `#`, or `'` and one identifier, at any length.
abbrev pub is_quoted : List ℕ → Bool
is_quoted [] = false
is_quoted (b ∷ bs) = (b == 39) && is_identifier bs

unfoldable pub is_sort_spelling : List ℕ → Bool
is_sort_spelling text = same_name text (codes "*") || same_name text (codes "#") || is_quoted text

-- What a fault means, unless memory ran out.
abbrev pub UnlessMemory : NameFault → Type 0 → Type 0
UnlessMemory Memory P = Unit {0}
UnlessMemory Empty P = P
UnlessMemory (BadStart place) P = P
UnlessMemory (BadPart place) P = P
UnlessMemory (TooLong n) P = P

-- The same for a spelling.
abbrev pub SpellingUnlessMemory : SortNameFault → Type 0 → Type 0
SpellingUnlessMemory SortMemory P = Unit {0}
SpellingUnlessMemory BadSpelling P = P
