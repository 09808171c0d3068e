use Rattle.std.proofs.Common.{ℕ, Bool, IfOk, subst, sym}
use Rattle.function_laws.specs.declared.history.Name.{Name}
use Rattle.function_laws.specs.Values.{if_then_else}
use Rattle.net_builds.specs.Loads.{turned_if}
use Rattle.net_builds.specs.Standings.{Holds, Makes}
use Rattle.net_builds.proofs.diagrams.choice_between.Goals as goal

pub returns-then-is_complemented-clause-made : goal.returns-then-is_complemented-clause-made
returns-then-is_complemented-clause-made g c =
    let old = g.H.Host.standing c.args.session.now in
    let new = g.H.Host.standing c.choice_turned.new.session in
    subst (λ (b : Bool). IfOk c.choice_turned.result (λ (name : Name). (v f h : ℕ → Bool) → Holds old c.args.variable v → Holds old c.args.high f → Holds old c.args.low h → Makes old new name (if_then_else v f (turned_if b h))))
    (sym c.if-is_complemented.true) c.choice_turned.ensures.made

pub returns-else-is_complemented-clause-made : goal.returns-else-is_complemented-clause-made
returns-else-is_complemented-clause-made g c =
    let old = g.H.Host.standing c.args.session.now in
    let new = g.H.Host.standing c.choice.new.session in
    subst (λ (b : Bool). IfOk c.choice.result (λ (name : Name). (v f h : ℕ → Bool) → Holds old c.args.variable v → Holds old c.args.high f → Holds old c.args.low h → Makes old new name (if_then_else v f (turned_if b h))))
    (sym c.if-is_complemented.false) c.choice.ensures.made
