use Rattle.std.proofs.Common.{◌≡◌, take}
use Rattle.std.specs.Char.{is_ascii_digit}
use Rattle.std.specs.List.{AllPass}
use Rattle.std.specs.Str.Parse.{digits_value}
use Rattle.vt_dialogs.proofs.typed_text.digits_of.Given as goal

abbrev pub invariant-loop-byte : goal.invariant-loop-byte
invariant-loop-byte l = record {
  digits : AllPass is_ascii_digit (take l.byte-index l.text);
  value_is : l.value ≡ digits_value 10 (take l.byte-index l.text);
}
