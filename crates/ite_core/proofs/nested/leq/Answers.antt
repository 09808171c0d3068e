use Rattle.edge_bits.specs.declared.edges.Kind.TheVariants.{Bdd}
use Rattle.node_store.specs.ViewLaws.{values_at-grown}
use Rattle.node_store.proofs.Running.{same_scratch}
use Rattle.ite_core.proofs.ImplicationLaws.{told}
use Rattle.ite_core.proofs.nested.leq.Goals as goal

pub evaluate-requires-clause-due : goal.evaluate-requires-clause-due
evaluate-requires-clause-due g c = let e = c.two.ensures in let r = c.requires.operands in
    record { permanent = c.requires.permanent; two = record { first = rw e.f r.first; second = rw e.g r.second } }

pub returns-in-Ok-clause-leq : goal.returns-in-Ok-clause-leq
returns-in-Ok-clause-leq g c =
    let e = c.in-Ok.ensures in let m = e.moved.kept.grown in let r = c.requires.operands in
    let answer = rw (c.two.ensures.f, c.two.ensures.g) at e.answer in
    rw c.complement.ensures (told _ _ c.in-Ok.edge (rw (values_at-grown Bdd m r.first, values_at-grown Bdd m r.second) at answer))

pub returns-in-Ok-clause-stack : goal.returns-in-Ok-clause-stack
returns-in-Ok-clause-stack g c = let e = c.in-Ok.ensures in same_scratch _ _ e.frames e.free e.moved.known e.moved.marks
