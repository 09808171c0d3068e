use Rattle.std.proofs.Common.{◌≡◌, true, false, Ok, Err, refl, ap, ◌∙◌, rules}
use Rattle.std.proofs.lemmas.Result.{err_from_is_err_and}
use Rattle.edge_bits.specs.Permanent.{truth_edge}
use Rattle.edge_bits.specs.declared.edges.Kind.TheVariants.{Bdd}
use Rattle.node_store.specs.TwoLaws.{AreTwo-grown}
use Rattle.node_store.specs.ViewLaws.{Denotes-grown, Grown-refl, Grown-trans, Kept-trans, Permanent-grown}
use Rattle.node_store.specs.WorkLaws.{Moves-kept}
use Rattle.node_store.proofs.Stops.{full_stop}
use Rattle.cover_isop.specs.Isops.{HasBounds, isop_work}
use Rattle.cover_isop.specs.IsopLasts.{HasBounds-grown, IsSplit-grown, MorrealeDue-stays}
use Rattle.cover_isop.proofs.DoesLaws.{after, after_kept}
use Rattle.cover_isop.proofs.IsopAnswers.{Everything-is, Isop-hit, Isop-key, Nothing-is, Shown, key-is}
use Rattle.cover_isop.proofs.IsopSteps.{High-does, High-later, High-two, High-upper, Low-does, Low-later, Low-upper}
use Rattle.cover_isop.proofs.morreale.MorrealeOperator.start.Goals as goal

pub returns-then-eq-clause-next : goal.returns-then-eq-clause-next
returns-then-eq-clause-next g c =
    let is : c.args.task.f ≡ truth_edge false = search rules in
    Shown g.W.Wanted.family _ c.args.task _ c.nothing.result (Nothing-is _ c.args.task c.requires.due.permanent is) (c.nothing.ensures _ c.requires.due.permanent)

pub returns-then-eq-2-clause-next : goal.returns-then-eq-2-clause-next
returns-then-eq-2-clause-next g c =
    let is : c.args.task.g ≡ truth_edge true = search rules in
    let other : c.args.task.f ≡ truth_edge false → ⊥ = search rules in
    let e = c.look-lower.ensures in
    Shown g.W.Wanted.family _ c.args.task _ c.everything.result (Everything-is _ c.args.task c.look-lower.result e.permanent (e.operand Bdd c.requires.due.bounds.two.first) e.edge other is) (c.everything.ensures _ e.permanent)

pub returns-then-eq-2-clause-moved : goal.returns-then-eq-2-clause-moved
returns-then-eq-2-clause-moved g c =
    let l = g.W.Wanted.lower c.args.self.now.0 in let u = g.W.Wanted.upper c.args.self.now.0 in
    record { moves = Moves-kept (λ w. HasBounds w l u) (isop_work l u) _ _ c.look-lower.ensures.kept; marks = refl }

pub look-lower-requires : goal.look-lower-requires
look-lower-requires g c = (Bdd, c.requires.due.bounds.two.first)

pub memo_get-requires : goal.memo_get-requires
memo_get-requires g c =
    rw (key-is g.W.Wanted.family c.number.result c.args.task.f c.args.task.g c.key_of-key.result c.key_of-key.ensures c.number.ensures) (Isop-key g.W.Wanted.family _ c.args.task.f c.args.task.g c.requires.due.bounds.two)

pub returns-in-Some-clause-next : goal.returns-in-Some-clause-next
returns-in-Some-clause-next g c =
    Isop-hit g.W.Wanted.family _ c.args.task.f c.args.task.g c.in-Some.edge (rw (key-is g.W.Wanted.family c.number.result c.args.task.f c.args.task.g c.key_of-key.result c.key_of-key.ensures c.number.ensures) at c.in-Some.ensures.hit)

pub returns-in-Some-clause-moved : goal.returns-in-Some-clause-moved
returns-in-Some-clause-moved g c =
    let l = g.W.Wanted.lower c.args.self.now.0 in let u = g.W.Wanted.upper c.args.self.now.0 in
    record { moves = Moves-kept (λ w. HasBounds w l u) (isop_work l u) _ _ c.in-Some.ensures.kept; marks = refl }

pub first_variable-requires-clause-bounds : goal.first_variable-requires-clause-bounds
first_variable-requires-clause-bounds g c = HasBounds-grown c.in_default.ensures.kept.grown c.requires.due.bounds

pub sides_of-requires-clause-two : goal.sides_of-requires-clause-two
sides_of-requires-clause-two g c = AreTwo-grown Bdd (Grown-trans c.in_default.ensures.kept.grown c.in-Some-first_variable.ensures.kept.grown) c.requires.due.bounds.two

pub without-requires-clause-permanent : goal.without-requires-clause-permanent
without-requires-clause-permanent g c =
    Permanent-grown (Grown-trans c.in_default.ensures.kept.grown (Grown-trans c.in-Some-first_variable.ensures.kept.grown c.sides_of.ensures.kept.grown)) c.requires.due.permanent

pub returns-in_err-low-clause-moved : goal.returns-in_err-low-clause-moved
returns-in_err-low-clause-moved g c =
    let l = g.W.Wanted.lower c.args.self.now.0 in let u = g.W.Wanted.upper c.args.self.now.0 in let t = c.args.task in let x = c.in-Some-first_variable.var in
    let w = g.G.Grow.view c.sides_of.new.store in let sd = c.sides_of.result in let a = c.sides_of.ensures.sides in
    let k0 = c.in_default.ensures.kept in let k1 = c.in-Some-first_variable.ensures.kept in let k2 = c.sides_of.ensures.kept in let k = Kept-trans k0 (Kept-trans k1 k2) in
    let d = MorrealeDue-stays l u _ w t k.grown c.requires.due in
    let s = IsSplit-grown k2.grown t x (AreTwo-grown Bdd (Grown-trans k0.grown k1.grown) c.requires.due.bounds.two) c.in-Some-first_variable.ensures.first in
    let one = Low-does l u w t x d s sd a w (Grown-refl w) (Err _) c.in_err-low.ensures.runs in
    record { moves = (after_kept l u k one).moved; marks = ap (λ s. s.marks) c.in_err-low.ensures.stack }

pub returns-in_err-low-clause-due : goal.returns-in_err-low-clause-due
returns-in_err-low-clause-due g c =
    let l = g.W.Wanted.lower c.args.self.now.0 in let u = g.W.Wanted.upper c.args.self.now.0 in let t = c.args.task in let x = c.in-Some-first_variable.var in
    let w = g.G.Grow.view c.sides_of.new.store in let sd = c.sides_of.result in let a = c.sides_of.ensures.sides in
    let k0 = c.in_default.ensures.kept in let k1 = c.in-Some-first_variable.ensures.kept in let k2 = c.sides_of.ensures.kept in let k = Kept-trans k0 (Kept-trans k1 k2) in
    let d = MorrealeDue-stays l u _ w t k.grown c.requires.due in
    let s = IsSplit-grown k2.grown t x (AreTwo-grown Bdd (Grown-trans k0.grown k1.grown) c.requires.due.bounds.two) c.in-Some-first_variable.ensures.first in
    let one = Low-does l u w t x d s sd a w (Grown-refl w) (Err _) c.in_err-low.ensures.runs in
    let q = err_from_is_err_and c.from_residual.result c.from_residual.ensures.1 in rw (q.1, q.2) (λ is. one.due (full_stop _ is))

pub without-requires-2-clause-operands : goal.without-requires-2-clause-operands
without-requires-2-clause-operands g c =
    let l = g.W.Wanted.lower c.args.self.now.0 in let u = g.W.Wanted.upper c.args.self.now.0 in let t = c.args.task in let x = c.in-Some-first_variable.var in
    let w = g.G.Grow.view c.sides_of.new.store in let sd = c.sides_of.result in let a = c.sides_of.ensures.sides in
    let k0 = c.in_default.ensures.kept in let k1 = c.in-Some-first_variable.ensures.kept in let k2 = c.sides_of.ensures.kept in let k = Kept-trans k0 (Kept-trans k1 k2) in
    let d = MorrealeDue-stays l u _ w t k.grown c.requires.due in
    let s = IsSplit-grown k2.grown t x (AreTwo-grown Bdd (Grown-trans k0.grown k1.grown) c.requires.due.bounds.two) c.in-Some-first_variable.ensures.first in
    let one = Low-does l u w t x d s sd a w (Grown-refl w) (Ok c.in_ok-low.low) c.in_ok-low.ensures.runs in
    let v1 = g.G.Grow.view c.without.new.store in
    High-two l u w t x d s sd a v1 one.moved.grown

pub without-requires-2-clause-permanent : goal.without-requires-2-clause-permanent
without-requires-2-clause-permanent g c =
    let l = g.W.Wanted.lower c.args.self.now.0 in let u = g.W.Wanted.upper c.args.self.now.0 in let t = c.args.task in let x = c.in-Some-first_variable.var in
    let w = g.G.Grow.view c.sides_of.new.store in let sd = c.sides_of.result in let a = c.sides_of.ensures.sides in
    let k0 = c.in_default.ensures.kept in let k1 = c.in-Some-first_variable.ensures.kept in let k2 = c.sides_of.ensures.kept in let k = Kept-trans k0 (Kept-trans k1 k2) in
    let d = MorrealeDue-stays l u _ w t k.grown c.requires.due in
    let s = IsSplit-grown k2.grown t x (AreTwo-grown Bdd (Grown-trans k0.grown k1.grown) c.requires.due.bounds.two) c.in-Some-first_variable.ensures.first in
    let one = Low-does l u w t x d s sd a w (Grown-refl w) (Ok c.in_ok-low.low) c.in_ok-low.ensures.runs in
    let v1 = g.G.Grow.view c.without.new.store in
    Permanent-grown one.moved.grown d.permanent

pub returns-in_err-high-clause-moved : goal.returns-in_err-high-clause-moved
returns-in_err-high-clause-moved g c =
    let l = g.W.Wanted.lower c.args.self.now.0 in let u = g.W.Wanted.upper c.args.self.now.0 in let t = c.args.task in let x = c.in-Some-first_variable.var in
    let w = g.G.Grow.view c.sides_of.new.store in let sd = c.sides_of.result in let a = c.sides_of.ensures.sides in
    let k0 = c.in_default.ensures.kept in let k1 = c.in-Some-first_variable.ensures.kept in let k2 = c.sides_of.ensures.kept in let k = Kept-trans k0 (Kept-trans k1 k2) in
    let d = MorrealeDue-stays l u _ w t k.grown c.requires.due in
    let s = IsSplit-grown k2.grown t x (AreTwo-grown Bdd (Grown-trans k0.grown k1.grown) c.requires.due.bounds.two) c.in-Some-first_variable.ensures.first in
    let one = Low-does l u w t x d s sd a w (Grown-refl w) (Ok c.in_ok-low.low) c.in_ok-low.ensures.runs in
    let v1 = g.G.Grow.view c.without.new.store in
    let two = High-does l u w t x d s sd a v1 one.moved.grown (Err _) c.in_err-high.ensures.runs in
    record { moves = (after_kept l u k (after l u one.moved two)).moved; marks = ap (λ s. s.marks) c.in_err-high.ensures.stack ∙ ap (λ s. s.marks) c.in_ok-low.ensures.stack }

pub returns-in_err-high-clause-due : goal.returns-in_err-high-clause-due
returns-in_err-high-clause-due g c =
    let l = g.W.Wanted.lower c.args.self.now.0 in let u = g.W.Wanted.upper c.args.self.now.0 in let t = c.args.task in let x = c.in-Some-first_variable.var in
    let w = g.G.Grow.view c.sides_of.new.store in let sd = c.sides_of.result in let a = c.sides_of.ensures.sides in
    let k0 = c.in_default.ensures.kept in let k1 = c.in-Some-first_variable.ensures.kept in let k2 = c.sides_of.ensures.kept in let k = Kept-trans k0 (Kept-trans k1 k2) in
    let d = MorrealeDue-stays l u _ w t k.grown c.requires.due in
    let s = IsSplit-grown k2.grown t x (AreTwo-grown Bdd (Grown-trans k0.grown k1.grown) c.requires.due.bounds.two) c.in-Some-first_variable.ensures.first in
    let one = Low-does l u w t x d s sd a w (Grown-refl w) (Ok c.in_ok-low.low) c.in_ok-low.ensures.runs in
    let v1 = g.G.Grow.view c.without.new.store in
    let two = High-does l u w t x d s sd a v1 one.moved.grown (Err _) c.in_err-high.ensures.runs in
    let q = err_from_is_err_and c.from_residual-in_err-high.result c.from_residual-in_err-high.ensures.1 in rw (q.1, q.2) (λ is. two.due (full_stop _ is))

pub returns-clause-moved : goal.returns-clause-moved
returns-clause-moved g c =
    let l = g.W.Wanted.lower c.args.self.now.0 in let u = g.W.Wanted.upper c.args.self.now.0 in let t = c.args.task in let x = c.in-Some-first_variable.var in
    let w = g.G.Grow.view c.sides_of.new.store in let sd = c.sides_of.result in let a = c.sides_of.ensures.sides in
    let k0 = c.in_default.ensures.kept in let k1 = c.in-Some-first_variable.ensures.kept in let k2 = c.sides_of.ensures.kept in let k = Kept-trans k0 (Kept-trans k1 k2) in
    let d = MorrealeDue-stays l u _ w t k.grown c.requires.due in
    let s = IsSplit-grown k2.grown t x (AreTwo-grown Bdd (Grown-trans k0.grown k1.grown) c.requires.due.bounds.two) c.in-Some-first_variable.ensures.first in
    let one = Low-does l u w t x d s sd a w (Grown-refl w) (Ok c.in_ok-low.low) c.in_ok-low.ensures.runs in
    let v1 = g.G.Grow.view c.without.new.store in
    let two = High-does l u w t x d s sd a v1 one.moved.grown (Ok c.in_ok-high.high) c.in_ok-high.ensures.runs in
    record { moves = (after_kept l u k (after l u one.moved two)).moved; marks = ap (λ s. s.marks) c.in_ok-high.ensures.stack ∙ ap (λ s. s.marks) c.in_ok-low.ensures.stack }

pub returns-clause-next : goal.returns-clause-next
returns-clause-next g c =
    let l = g.W.Wanted.lower c.args.self.now.0 in let u = g.W.Wanted.upper c.args.self.now.0 in let t = c.args.task in let x = c.in-Some-first_variable.var in
    let w = g.G.Grow.view c.sides_of.new.store in let sd = c.sides_of.result in let a = c.sides_of.ensures.sides in
    let k0 = c.in_default.ensures.kept in let k1 = c.in-Some-first_variable.ensures.kept in let k2 = c.sides_of.ensures.kept in let k = Kept-trans k0 (Kept-trans k1 k2) in
    let d = MorrealeDue-stays l u _ w t k.grown c.requires.due in
    let s = IsSplit-grown k2.grown t x (AreTwo-grown Bdd (Grown-trans k0.grown k1.grown) c.requires.due.bounds.two) c.in-Some-first_variable.ensures.first in
    let one = Low-does l u w t x d s sd a w (Grown-refl w) (Ok c.in_ok-low.low) c.in_ok-low.ensures.runs in
    let v1 = g.G.Grow.view c.without.new.store in
    let two = High-does l u w t x d s sd a v1 one.moved.grown (Ok c.in_ok-high.high) c.in_ok-high.ensures.runs in
    let v2 = g.G.Grow.view c.without-2.new.store in let m = Grown-trans one.moved.grown two.moved.grown in
    let low = Low-later l u w v2 t x m d s c.two-2.result c.in_ok-low.low sd.lo.g c.two-2.ensures.f c.two-2.ensures.g (Denotes-grown Bdd two.moved.grown one.answer) (Low-upper l u w t x d s sd a v2 m) in
    let high = High-later l u w v2 t x m d s c.two.result c.in_ok-high.high sd.hi.g c.two.ensures.f c.two.ensures.g two.answer (High-upper l u w t x d s sd a v2 m) in
    record {
      waits = record { same = refl; splits = IsSplit-grown m t x d.bounds.two s; wait = (low, high) };
      due = low.due;
      less = low.less;
    }
