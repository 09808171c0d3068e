use Rattle.std.proofs.Common.{ap, sym, ◌∙◌}
use Rattle.ite_core.proofs.TripleLaws.{StandsFor-constant, StandsFor-itself, unlike}
use Rattle.ite_core.proofs.triples.known_where.Goals as goal

pub returns-else-index : goal.returns-else-index
returns-else-index c = λ w p df dg. StandsFor-itself w c.args.f c.args.g dg

pub returns-then-index : goal.returns-then-index
returns-then-index c = λ w p df dg. StandsFor-constant w p c.args.f c.args.g c.truth.result (sym c.index.ensures ∙ c.if-index.true ∙ c.index-2.ensures) (c.truth.ensures ∙ rw (c.complement-then-index.ensures, c.complement.ensures) (ap (λ x. record { index = 0; complement = x }) (unlike c.args.g.complement c.args.f.complement))) df dg
