use Rattle.std.proofs.Common.{◌≡◌, ◌<◌, ◌^◌, drop}
use Rattle.std.specs.Char.{is_ascii_digit}
use Rattle.std.specs.List.{list_all}
use Rattle.sj_text_core.specs.Grammar.{value_of}
use Rattle.sj_pointer.proofs.Numbers.{more}
use Rattle.sj_pointer.proofs.positions.number.Given as goal

abbrev pub invariant-loop-digit : goal.invariant-loop-digit
invariant-loop-digit l = record {
  digits : list_all is_ascii_digit (drop l.digit-index l.digits) ≡ list_all is_ascii_digit l.digits;
  value : more l.value (drop l.digit-index l.digits) ≡ value_of l.digits;
  fits : l.value < 2 ^ 64;
}
