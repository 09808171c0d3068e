use Rattle.std.proofs.Common.{ap, ◌∙◌, length, unwrap_or, not}
use Rattle.std.proofs.lemmas.List.Sums.{prefix_len-le-length}
use Rattle.job_text.specs.Places.{is_called}
use Rattle.job_words.proofs.Split.{place_lem}
use Rattle.job_text.proofs.registers.Registers.place_of.Goals as goal

pub returns : goal.returns
returns c = c.unwrap_or.ensures ∙ ap (unwrap_or c.position_of.result) (ap length c.as_slice.ensures.items) ∙ ap (λ r. unwrap_or r (length c.args.self.now)) c.position_of.ensures
    ∙ place_lem (is_called c.args.word.now) c.args.self.now (prefix_len-le-length (λ r. not (is_called c.args.word.now r)) c.args.self.now)
