use Rattle.std.proofs.Common.{sym, ◌≡◌, ◌==◌, ◌&&◌, not, true, subst, List, ℕ}
use Rattle.std.specs.List.{list_all}
use Rattle.std.specs.Char.{is_ascii_digit}
use Rattle.std.specs.Str.Parse.{digits_value}
use Rattle.std.proofs.lemmas.Bool.{and_parts}
use Rattle.job_words.specs.Text.{is_negative, is_number, magnitude}
use Rattle.job_words.proofs.Digits.{digits_in}
use Rattle.job_words.proofs.text.integer_value.Goals as goal

pub digits_value-size-requires : goal.digits_value-size-requires
digits_value-size-requires c =
    let word = c.args.word.now in
    let form = and_parts (is_number (magnitude word)) (not (is_negative word && digits_value 10 (magnitude word) == 0)) c.requires in
    subst (λ (t : List ℕ). list_all is_ascii_digit t ≡ true) (sym c.magnitude.ensures) (digits_in (magnitude word) form.0)
