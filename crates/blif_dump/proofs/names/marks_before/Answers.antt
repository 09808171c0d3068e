use Rattle.std.proofs.Common.{◌==◌, ◌∙◌, ap, length, not, unwrap_or}
use Rattle.std.proofs.lemmas.List.Sums.{prefix_len-le-length}
use Rattle.job_words.proofs.Split.{place_lem}
use Rattle.blif_dump.proofs.names.marks_before.Goals as goal

pub returns-clause-count : goal.returns-clause-count
returns-clause-count c =
    c.unwrap_or.ensures ∙ ap (λ r. unwrap_or r (length c.args.bytes.now)) c.other_at.ensures
    ∙ place_lem (λ b. not (b == 95)) c.args.bytes.now (prefix_len-le-length (λ b. not (not (b == 95))) c.args.bytes.now)
