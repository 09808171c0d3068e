use Rattle.std.proofs.Common.{◌≡◌, ◌∙◌, rules}
use Rattle.quantify_ops.proofs.QuantifiedLaws.{key_exists, both_same, both_first, both_second, key_ordered}
use Rattle.quantify_ops.proofs.quantification.key_of.Goals as goal

pub returns-then-eq : goal.returns-then-eq
returns-then-eq c = λ w p d.
    let t = c.args.task in let same : t.f ≡ t.g = search rules in
    rw c.exists_key.ensures (key_exists w t t.f d d.two.first (both_same w t.f t.g same))

pub returns-then-eq-2 : goal.returns-then-eq-2
returns-then-eq-2 c = λ w p d.
    let t = c.args.task in let one : t.f ≡ c.truth-one.result = search rules in
    rw c.exists_key-then-eq-2.ensures (key_exists w t t.g d d.two.second (both_first w p t.f t.g (one ∙ c.truth-one.ensures)))

pub returns-then-eq-3 : goal.returns-then-eq-3
returns-then-eq-3 c = λ w p d.
    let t = c.args.task in let one : t.g ≡ c.truth-one.result = search rules in
    rw c.exists_key-then-eq-3.ensures (key_exists w t t.f d d.two.first (both_second w p t.f t.g (one ∙ c.truth-one.ensures)))

pub returns : goal.returns
returns c = λ w p d. key_ordered w c.args.task c.ordered-ordered.result c.ordered-ordered.ensures.order d
