use Rattle.std.proofs.Common.{sym, ◌∙◌}
use Rattle.ite_core.proofs.TripleLaws.{unlike}
use Rattle.quantify_ops.proofs.RestrictLaws.{known_same, known_true}
use Rattle.quantify_ops.proofs.restriction.known.Goals as goal

pub returns-then-index-eq-TRUE_SLOT : goal.returns-then-index-eq-TRUE_SLOT
returns-then-index-eq-TRUE_SLOT c = λ w p d some. known_true w p c.args.f c.args.condition (sym c.index.ensures ∙ c.if-index-eq-TRUE_SLOT.true) d.first some

pub returns-then-index : goal.returns-then-index
returns-then-index c = λ w p d some. rw (c.truth.ensures, c.complement-then-index.ensures, c.complement.ensures, unlike c.args.f.complement c.args.condition.complement) (known_same w p c.args.f c.args.condition (sym c.index-2.ensures ∙ c.if-index.true ∙ c.index-3.ensures) d.second some)
