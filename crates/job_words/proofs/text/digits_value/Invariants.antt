use Rattle.std.proofs.Common.{◌≡◌, ◌≤◌, true, min, take}
use Rattle.std.specs.List.{list_all}
use Rattle.std.specs.Char.{is_ascii_digit}
use Rattle.std.specs.Str.Parse.{digits_value}
use Rattle.job_words.proofs.text.digits_value.Given as goal

abbrev pub invariant-loop-b : goal.invariant-loop-b
invariant-loop-b l = record {
  digits : list_all is_ascii_digit l.word ≡ true;
  so_far : l.value ≡ min (digits_value 10 (take l.b-index l.word)) 100000000000000000;
  small : l.value ≤ 100000000000000000;
}
