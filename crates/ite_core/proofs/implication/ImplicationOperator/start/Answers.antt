use Rattle.std.proofs.Common.{refl}
use Rattle.edge_bits.specs.declared.edges.Kind.TheVariants.{Bdd}
use Rattle.node_store.specs.ViewLaws.{Grown-trans, Permanent-grown}
use Rattle.node_store.specs.TwoLaws.{AreTwo-grown}
use Rattle.ite_core.specs.ImplicationLasts.{ImplicationDue-stays}
use Rattle.ite_core.proofs.ImplicationLaws.{ImplicationDue-hi, ImplicationDue-lo, Leads-itself, compared}
use Rattle.ite_core.proofs.implication.ImplicationOperator.start.Goals as goal

pub split_two-requires : goal.split_two-requires
split_two-requires g c = (Bdd, AreTwo-grown Bdd c.in_default-memo_get.ensures.kept.grown c.requires.due.two)

pub unreachable-requires : goal.unreachable-requires
unreachable-requires g c =
    let d = c.requires.due in let first = c.in_default-memo_get.ensures.kept.grown in let e = c.in-Leaves.ensures in
    let never = rw c.in_default.is at c.terminal.ensures _ (Permanent-grown (Grown-trans first e.kept.grown) d.permanent) in
    let leaves = e.split Bdd (AreTwo-grown Bdd first d.two) in
    never _ _ leaves.0 leaves.1

pub returns-clause-next : goal.returns-clause-next
returns-clause-next g c =
    let first = c.in_default-memo_get.ensures.kept.grown in let e = c.in-At.ensures in
    let due = ImplicationDue-stays _ _ c.args.task (Grown-trans first e.kept.grown) c.requires.due in
    let b = compared _ c.args.task c.in-At.halves (e.split Bdd (AreTwo-grown Bdd first c.requires.due.two)) in
    let hi = ImplicationDue-hi _ c.args.task _ _ _ due.permanent b.splits in
    record {
      waits = record {
        task = refl;
        waiting = record {
          due = due;
          leads = Leads-itself _ c.args.task c.args.task refl;
          wait = record { splits = b.splits; hi_due = hi; lo_due = ImplicationDue-lo _ c.args.task _ _ _ due.permanent b.splits; lo_less = b.lo_less };
        };
      };
      due = hi;
      less = b.hi_less;
    }
