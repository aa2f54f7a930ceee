-- Bytes as documents.
use Rattle.std.proofs.Common.{◌≡◌, ◌∙◌, ap, List, ℕ, Bool, true, false, if◌then◌else◌, Some, None, Ok, Err, refl}
use Rattle.std.specs.Str.{IsUtf8, is_utf8}
use Rattle.std.proofs.lemmas.Str.{IsUtf8-from_is_utf8, is_utf8-from_IsUtf8}
use Rattle.toml.specs.Data.{Members}
use Rattle.toml.specs.Parse.{parse_document}
use Rattle.pts_spec.specs.declared.fault.SpecFault.TheVariants.{NotToml}
use Rattle.pts_spec.specs.SpecFile.{or_not_toml, document_of}

-- What is parsed, where a test of the bytes gives b.
tested : (bytes : List ℕ) (b : Bool) → is_utf8 bytes ≡ b → document_of bytes ≡ or_not_toml (if b then parse_document bytes else None)
tested bytes b e = ap (λ x. or_not_toml (if x then parse_document bytes else None)) e

pub is_document : (bytes : List ℕ) (document : Members) → IsUtf8 bytes → parse_document bytes ≡ Some document → document_of bytes ≡ Ok document
is_document bytes document text read = tested bytes true (is_utf8-from_IsUtf8 bytes text) ∙ ap or_not_toml read

no_document_by : (bytes : List ℕ) (b : Bool) → is_utf8 bytes ≡ b → (IsUtf8 bytes → parse_document bytes ≡ None) → document_of bytes ≡ Err NotToml
no_document_by bytes true e none = tested bytes true e ∙ ap or_not_toml (none (IsUtf8-from_is_utf8 bytes e))
no_document_by bytes false e none = tested bytes false e

pub no_document : (bytes : List ℕ) → (IsUtf8 bytes → parse_document bytes ≡ None) → document_of bytes ≡ Err NotToml
no_document bytes none = no_document_by bytes (is_utf8 bytes) refl none
