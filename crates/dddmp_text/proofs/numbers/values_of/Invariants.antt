use Rattle.std.proofs.Common.{◌≡◌, ◌++◌, length, map}
use Rattle.std.specs.List.{list_all}
use Rattle.job_words.specs.Text.{integer_value, split_words}
use Rattle.dddmp_text.specs.Reading.{is_form}
use Rattle.dddmp_text.proofs.numbers.values_of.Given as goal

abbrev pub invariant-loop-word : goal.invariant-loop-word
invariant-loop-word l = record {
  forms : list_all (is_form l.signed) (split_words l.line) ≡ list_all (is_form l.signed) (split_words l.rest);
  so_far : map integer_value (split_words l.line) ≡ l.values ++ map integer_value (split_words l.rest);
}

abbrev pub decreases-loop-word : goal.decreases-loop-word
decreases-loop-word l = length (split_words l.rest)
