use Rattle.std.proofs.Common.{ap, ◌∙◌}
use Rattle.node_store.specs.Contents.{Content}
use Rattle.function_laws.proofs.CoverLaws.{neither}
use Rattle.held_times.proofs.pairs.held_pairs.Goals as goal

pub returns-clause-sweeping : goal.returns-clause-sweeping
returns-clause-sweeping c = ap (λ (w : Content). w.sweeping) c.hold.ensures.content ∙ (neither _ _ (c.in_ok-counted_pairs.ensures ∙ c.requires.idle)).0

pub returns-clause-half : goal.returns-clause-half
returns-clause-half c = ap (λ (w : Content). w.half) c.hold.ensures.content
