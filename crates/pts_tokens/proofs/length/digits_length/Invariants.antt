use Rattle.std.proofs.Common.{◌≡◌, ◌+◌, length}
use Rattle.std.specs.Prelude.{chars, IsUtf8, take_while}
use Rattle.std.specs.Char.{is_ascii_digit}
use Rattle.pts_names.specs.Name.{width}
use Rattle.pts_tokens.proofs.length.digits_length.Given as goal

abbrev pub invariant-run : goal.invariant-run
invariant-run l = record {
  utf8 : IsUtf8 l.at-iterator.rest.now;
  span : l.at-iterator.at + length l.at-iterator.rest.now ≡ length l.text;
  whole : l.at-iterator.at + width (take_while is_ascii_digit (chars l.at-iterator.rest.now)) ≡ width (take_while is_ascii_digit (chars l.text));
}
