-- A text is a keyword where its characters are those of one.
use Rattle.std.proofs.Common.{◌≡◌, refl, sym, ◌∙◌, ap, ℕ, List, ◌||◌, nat_eq}
use Rattle.std.specs.Prelude.{codes, IsUtf8}
use Rattle.std.specs.Str.{chars}
use Rattle.std.specs.Cmp.Lexicographic.{pointwise}
use lib.Utf8.{encode, encodes}
use Rattle.std.proofs.lemmas.Str.{encodes-chars}
use Rattle.std.proofs.lemmas.Slice.Eq.{bytes_eq-Decides}
use Rattle.std.proofs.lemmas.Bool.Decides.{same_from_decides}
use Rattle.pts_names.specs.Name.{same_name, is_keyword}
use Rattle.pts_names.proofs.Same.{same_name-pointwise}

-- a text has the characters of a word where it is that word, for a word of one byte a character
pub same_characters : (text word : List ℕ) → IsUtf8 text → encodes word ≡ word → chars word ≡ word → same_name (chars text) word ≡ pointwise nat_eq text word
same_characters text word utf8 bytes characters =
    let tests = bytes_eq-Decides (chars text) word in
    same_name-pointwise (chars text) word ∙ same_from_decides _ _
    (λ e. sym (encodes-chars text utf8) ∙ ap encodes (tests.0 e) ∙ bytes, λ e. tests.1 (ap chars e ∙ characters))
    (bytes_eq-Decides text word)

pub let_characters : chars (codes "let") ≡ codes "let"
unfolding chars
let_characters = refl

pub in_characters : chars (codes "in") ≡ codes "in"
unfolding chars
in_characters = refl

pub let_bytes : encodes (codes "let") ≡ codes "let"
unfolding encode
let_bytes = refl

pub in_bytes : encodes (codes "in") ≡ codes "in"
unfolding encode
in_bytes = refl

pub is_keyword_text : (text : List ℕ) → IsUtf8 text → is_keyword (chars text) ≡ (pointwise nat_eq text (codes "let") || pointwise nat_eq text (codes "in"))
is_keyword_text text utf8 =
    ap (λ x. x || same_name (chars text) (codes "in")) (same_characters text (codes "let") utf8 let_bytes let_characters)
    ∙ ap (λ y. pointwise nat_eq text (codes "let") || y) (same_characters text (codes "in") utf8 in_bytes in_characters)
