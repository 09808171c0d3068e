use Rattle.std.proofs.Common.{refl}
use Rattle.edge_bits.specs.declared.edges.Kind.TheVariants.{Bdd}
use Rattle.node_store.specs.ViewLaws.{Grown-trans, Kept-trans, Denotes-grown}
use Rattle.node_store.specs.TwoLaws.{AreTwo-grown}
use Rattle.ite_core.proofs.CofactorLaws.{regular_is}
use Rattle.ite_core.proofs.ImplicationLaws.{compared}
use Rattle.quantify_ops.proofs.CompositionLaws.{regular_answer, free_answer, IsKey-projection, Compose-hit, Compose-own, Compose-above, inner_above, is_above, regular_two}
use Rattle.quantify_ops.proofs.composition.Composition.expansion.Goals as goal

pub find-found-requires : goal.find-found-requires
find-found-requires g c = record { edge = rw c.two-f.ensures.f (regular_is _ c.args.task.f _ c.regular.ensures c.requires.two.first); in_range = c.requires.root.in_range }

pub returns-in-Free-clause-expanded : goal.returns-in-Free-clause-expanded
returns-in-Free-clause-expanded g c =
    let o = c.args.self.now in let e = c.in-Free.ensures in let m = e.kept.grown in let two = AreTwo-grown Bdd m c.requires.two in
    let same = c.two-f.ensures.f in
    let d = regular_is _ c.args.task.f c.regular.result c.regular.ensures two.first in
    rw (c.flip_if.ensures, c.complement-flip.ensures, same) (regular_answer _ c.args.task.f c.regular.result c.args.task.g c.regular.result o.var c.regular.ensures two.first (free_answer _ c.regular.result c.args.task.g o.var d (rw same at e.found)))

pub memo_get-requires : goal.memo_get-requires
memo_get-requires g c =
    let o = c.args.self.now in let m = c.find-found.ensures.kept.grown in let two = AreTwo-grown Bdd m c.requires.two in let t = c.two-f.ensures in
    rw (c.key_of-key.ensures, t.f, t.g) (IsKey-projection _ c.regular.result c.args.task.g o.projection o.var (Denotes-grown Bdd m c.requires.projection)
    (record { first = regular_is _ c.args.task.f c.regular.result c.regular.ensures two.first; second = two.second }))

pub returns-in-Some-clause-expanded : goal.returns-in-Some-clause-expanded
returns-in-Some-clause-expanded g c =
    let o = c.args.self.now in let e = c.in-Some.ensures in let m = Grown-trans c.find-found.ensures.kept.grown e.kept.grown in let two = AreTwo-grown Bdd m c.requires.two in let t = c.two-f.ensures in
    rw (c.flip_if-in-Some.ensures, c.complement-flip.ensures) (regular_answer _ c.args.task.f c.regular.result c.args.task.g c.in-Some.edge o.var c.regular.ensures two.first
    (Compose-hit _ c.regular.result c.args.task.g o.projection o.var c.in-Some.edge (Denotes-grown Bdd m c.requires.projection) (rw (c.key_of-key.ensures, t.f, t.g) at e.hit)))

pub returns-in-Own-clause-expanded : goal.returns-in-Own-clause-expanded
returns-in-Own-clause-expanded g c =
    let o = c.args.self.now in let n = c.memo_get.ensures.kept in let e = c.in-Own.ensures in let t = c.two-f.ensures in
    Compose-own o.f o.var o.g o.projection _ _ _ c.args.task c.regular.result c.requires e.kept.grown n.grown c.regular.ensures _ t.f t.g c.complement-flip.ensures c.in-Own.hi c.in-Own.lo (rw t.f at e.found) refl
    c.two.ensures.f c.two.ensures.g c.two-in-Own.ensures.f c.two-in-Own.ensures.g

pub returns-in-Some-clause-kept : goal.returns-in-Some-clause-kept
returns-in-Some-clause-kept g c = Kept-trans c.find-found.ensures.kept c.in-Some.ensures.kept

pub returns-in-Own-clause-kept : goal.returns-in-Own-clause-kept
returns-in-Own-clause-kept g c = Kept-trans c.find-found.ensures.kept c.memo_get.ensures.kept

pub split_two-requires : goal.split_two-requires
split_two-requires g c =
    let t = c.two-f.ensures in
    (Bdd, regular_two _ _ c.args.task.f c.args.task.g c.regular.result c.two-f.result c.regular.ensures t.f t.g c.requires.two (Grown-trans c.find-found.ensures.kept.grown c.in_default-memo_get.ensures.kept.grown))

pub unreachable-requires : goal.unreachable-requires
unreachable-requires g c =
    let t = c.two-f.ensures in let m = c.find-found.ensures.kept.grown in let n = c.in_default-memo_get.ensures.kept.grown in let e = c.in-Leaves.ensures in
    let above = is_above _ c.regular.result c.args.self.now.var c.find-found.result (rw t.f at c.find-found.ensures.found) c.in_default.not-Free c.in_default-found.not-Own in
    let leaves = e.split Bdd (regular_two _ _ c.args.task.f c.args.task.g c.regular.result c.two-f.result c.regular.ensures t.f t.g c.requires.two (Grown-trans m n)) in
    inner_above _ _ c.regular.result c.two-f.result c.args.self.now.var (Grown-trans n e.kept.grown) t.f (regular_is _ c.args.task.f c.regular.result c.regular.ensures (AreTwo-grown Bdd m c.requires.two).first) above _ _ leaves.0 leaves.1

pub returns : goal.returns
returns g c =
    let o = c.args.self.now in let k = c.find-found.ensures.kept in let n = c.in_default-memo_get.ensures.kept in let e = c.in-At.ensures in let t = c.two-f.ensures in
    let above = is_above _ c.regular.result o.var c.find-found.result (rw t.f at c.find-found.ensures.found) c.in_default.not-Free c.in_default-found.not-Own in
    let two = regular_two _ _ c.args.task.f c.args.task.g c.regular.result c.two-f.result c.regular.ensures t.f t.g c.requires.two (Grown-trans k.grown n.grown) in
    record {
      kept = Kept-trans k (Kept-trans n e.kept);
      expanded = Compose-above o.f o.var o.g o.projection _ _ _ c.args.task c.regular.result c.requires k.grown (Grown-trans n.grown e.kept.grown) c.regular.ensures _ t.f t.g c.complement-flip.ensures
          c.in-At.halves c.two-f.result t.f t.g above (compared _ c.two-f.result c.in-At.halves (e.split Bdd two)) refl refl refl;
    }
