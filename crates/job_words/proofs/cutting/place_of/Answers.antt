use Rattle.std.proofs.Common.{ap, ◌∙◌, length, unwrap_or, not}
use Rattle.std.proofs.lemmas.List.Sums.{prefix_len-le-length}
use Rattle.job_words.specs.Classes.{is_in}
use Rattle.job_words.proofs.Split.{place_lem}
use Rattle.job_words.proofs.cutting.place_of.Goals as goal

pub returns-clause-place : goal.returns-clause-place
returns-clause-place c =
    c.unwrap_or.ensures ∙ ap (λ r. unwrap_or r (length c.args.bytes.now)) c.position_of.ensures
    ∙ place_lem (is_in c.args.class) c.args.bytes.now (prefix_len-le-length (λ b. not (is_in c.args.class b)) c.args.bytes.now)
