use Rattle.std.proofs.Common.{None, Some, get_or, length, ◌∙◌, ap}
use Rattle.std.proofs.lemmas.List.{length-set}
use Rattle.blif_models.specs.declared.numbered.NumberedJoin.{NumberedJoin}
use Rattle.blif_models.proofs.Tables.{step_again, step_now}
use Rattle.blif_models.proofs.layout.joined.Goals as goal
use Rattle.blif_models.proofs.layout.joined.Goals.{then-is_none, else-is_none}

pub loop-join-preserved : goal.loop-join-preserved
loop-join-preserved c =
    let outer = c.args.outer.now in
    let joins = c.args.joins.now in
    let i = c.loop-join.join-index in
    let invariant = c.loop-join.invariant in
    let lt = c.loop-join-test.true in
    let none : NumberedJoin = record { formal = 0; actual = 0 } in
    let formal = c.requires.formal i none lt in
    let before = c.loop-join.joined.items in
    elim c.if-is_none.branch [
      | then-is_none w ↦
          let same = ap (λ v. v.items) w.joined-is in
          record {
            many = ap length same ∙ length-set before (get_or joins i none).formal (Some (get_or outer (get_or joins i none).actual 0)) ∙ invariant.many;
            joined = step_now outer joins i c.args.names none before c.if-is_none.joined.items c.index.result.now lt invariant.many formal c.index.ensures w.if-is_none.ensures same invariant.joined;
          }
      | else-is_none w ↦
          let same = ap (λ v. v.items) w.joined-is in
          record {
            many = ap length same ∙ invariant.many;
            joined = λ name within. ap (λ xs. get_or xs name None) same ∙ step_again outer joins i c.args.names none before c.index.result.now lt invariant.many formal c.index.ensures w.if-is_none.ensures invariant.joined name within;
          }
    ]
