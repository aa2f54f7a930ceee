use Rattle.std.proofs.Common.{◌≡◌, ◌+◌, length}
use Rattle.std.specs.Prelude.{chars, IsUtf8, take_while}
use Rattle.pts_names.specs.Name.{continues_identifier, width}
use Rattle.pts_tokens.proofs.length.run_length.Given as goal

abbrev pub invariant-run : goal.invariant-run
invariant-run l = record {
  utf8 : IsUtf8 l.at-iterator.rest.now;
  span : l.at-iterator.at + length l.at-iterator.rest.now ≡ length l.text;
  whole : l.at-iterator.at + width (take_while continues_identifier (chars l.at-iterator.rest.now)) ≡ width (take_while continues_identifier (chars l.text));
}
