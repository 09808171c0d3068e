use Rattle.std.proofs.Common.{◌∙◌, ◌<◌, ◌++◌, ◌∷◌, [], List, ℕ, ap, sym, arith, length, take}
use Rattle.std.proofs.lemmas.List.{take_more}
use Rattle.diagram_lists.proofs.Orders.{as_many, variable_at}
use Rattle.diagram_lists.proofs.lister.order_of.Goals as goal

pub loop-level-preserved : goal.loop-level-preserved
loop-level-preserved c =
    let p = c.args.store.now in
    let level = c.loop-level.level in
    let fits : level < length p.variables_at = omega (arith, c.loop-level-test.true, c.vars-level-end.ensures.vars, as_many p c.requires) in
    let v = variable_at p c.requires level c.var_at.result c.var_at.ensures.in_range c.var_at.ensures.level in
    c.in_ok-push.ensures.ok ∙ ap (λ (vs : List ℕ). vs ++ c.var_at.result ∷ []) c.loop-level.invariant
    ∙ ap (λ (u : ℕ). take level p.variables_at ++ u ∷ []) (sym v) ∙ sym (take_more p.variables_at level 0 fits)
