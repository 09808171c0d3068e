use Rattle.std.proofs.Common.{◌<◌, ap, sym, subst, arith, List, length, get_or}
use Rattle.edge_bits.specs.declared.edges.Line.{Line}
use Rattle.dddmp_text.proofs.NodeLines.{nothing, one_more}
use Rattle.dddmp_text.proofs.writer.put_nodes.Goals as goal

pub bounds-internals-line : goal.bounds-internals-line
bounds-internals-line c =
    let same = c.as_slice-line-items.ensures in
    let within : c.loop-place.place < length c.args.dump.now.nodes = omega (arith, ap (λ (s : List Line). length s) same) in
    subst (λ (s : List Line). (get_or s c.loop-place.place nothing).var < length c.args.internals.now) (sym same)
    (c.requires.internals _ (c.requires.holds c.loop-place.place nothing within)).0

pub loop-place-preserved : goal.loop-place-preserved
loop-place-preserved c =
    one_more c.args.dump.now c.args.internals.now c.as_slice-line-items.result.now c.loop-place.place _ _ _ c.as_slice-line-items.ensures c.requires.internals c.requires.holds
    c.loop-place-test.true c.loop-place.invariant c.in_ok-put_node.ensures
