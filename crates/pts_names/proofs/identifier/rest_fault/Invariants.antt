use Rattle.std.proofs.Common.{◌≡◌, ◌+◌, length}
use Rattle.std.specs.Prelude.{chars, IsUtf8}
use Rattle.pts_names.specs.Name as names
use Rattle.pts_names.proofs.identifier.rest_fault.Given as goal

abbrev pub invariant-characters : goal.invariant-characters
invariant-characters l = record {
  utf8 : IsUtf8 l.at-iterator.rest.now;
  span : l.at-iterator.at + length l.at-iterator.rest.now ≡ length l.text;
  fault : names.rest_fault (l.place + l.at-iterator.at) (chars l.at-iterator.rest.now) ≡ names.rest_fault l.place (chars l.text);
}
