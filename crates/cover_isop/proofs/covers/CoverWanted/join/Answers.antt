use Rattle.std.proofs.Common.{Ok, Err, arith, true}
use Rattle.std.proofs.lemmas.Result.{err_from_is_err_and}
use Rattle.edge_bits.specs.declared.edges.Kind.TheVariants.{Zdd}
use Rattle.node_store.specs.ViewLaws.{Denotes-grown, Grown-trans, Is-from, Permanent-grown}
use Rattle.cover_isop.proofs.DoesLaws.{after, failed, named}
use Rattle.cover_isop.proofs.FamilyJoins.{Halves-does, Halves-two, High-changed, High-family, High-literal, Literal-is, Low-changed, Whole-answer, Whole-does, Whole-two}
use Rattle.cover_isop.proofs.Rooms.{keeps_both, keeps_same, room-extra}
use Rattle.cover_isop.proofs.covers.CoverWanted.join.Goals as goal

pub change-requires-clause-family : goal.change-requires-clause-family
change-requires-clause-family g c = Is-from Zdd c.requires.answered.low_is

pub change-requires-clause-element : goal.change-requires-clause-element
change-requires-clause-element g c =
    let o = c.args.self.now in let l = o.lower in let u = o.upper in let i = c.requires.answered in let t = c.args._task in let x = c.args.var in let w = g.G.Grow.view c.args.store.now in
    let low = c.args.low in let high = c.args.high in let both = c.args.both in
    Literal-is l u w t x low high both i 1 (omega arith)

pub change-requires-clause-permanent : goal.change-requires-clause-permanent
change-requires-clause-permanent g c = c.requires.answered.due.permanent

pub change-requires-clause-room : goal.change-requires-clause-room
change-requires-clause-room g c = c.requires.room

pub returns-in_err-with_low-clause-does : goal.returns-in_err-with_low-clause-does
returns-in_err-with_low-clause-does g c =
    let o = c.args.self.now in let l = o.lower in let u = o.upper in let i = c.requires.answered in let t = c.args._task in let x = c.args.var in let w = g.G.Grow.view c.args.store.now in
    let low = c.args.low in let high = c.args.high in let both = c.args.both in
    let one = Low-changed l u w t x low high both i (Err _) c.in_err-with_low.ensures.runs in
    let q = err_from_is_err_and c.from_residual.result c.from_residual.ensures.1 in rw (q.1, q.2) (failed l u _ one)

pub returns-in_err-with_low-clause-scratch : goal.returns-in_err-with_low-clause-scratch
returns-in_err-with_low-clause-scratch g c = c.in_err-with_low.ensures.scratch

pub change-requires-2-clause-family : goal.change-requires-2-clause-family
change-requires-2-clause-family g c =
    let o = c.args.self.now in let l = o.lower in let u = o.upper in let i = c.requires.answered in let t = c.args._task in let x = c.args.var in let w = g.G.Grow.view c.args.store.now in
    let low = c.args.low in let high = c.args.high in let both = c.args.both in
    let one = Low-changed l u w t x low high both i (Ok c.in_ok-with_low.with_low) c.in_ok-with_low.ensures.runs in let v1 = g.G.Grow.view c.change.new.store in
    High-family l u w t x low high both i v1 one.moved.grown

pub change-requires-2-clause-element : goal.change-requires-2-clause-element
change-requires-2-clause-element g c =
    let o = c.args.self.now in let l = o.lower in let u = o.upper in let i = c.requires.answered in let t = c.args._task in let x = c.args.var in let w = g.G.Grow.view c.args.store.now in
    let low = c.args.low in let high = c.args.high in let both = c.args.both in
    let one = Low-changed l u w t x low high both i (Ok c.in_ok-with_low.with_low) c.in_ok-with_low.ensures.runs in let v1 = g.G.Grow.view c.change.new.store in
    High-literal l u w t x low high both i v1 one.moved.grown

pub change-requires-2-clause-permanent : goal.change-requires-2-clause-permanent
change-requires-2-clause-permanent g c =
    let o = c.args.self.now in let l = o.lower in let u = o.upper in let i = c.requires.answered in let t = c.args._task in let x = c.args.var in let w = g.G.Grow.view c.args.store.now in
    let low = c.args.low in let high = c.args.high in let both = c.args.both in
    let one = Low-changed l u w t x low high both i (Ok c.in_ok-with_low.with_low) c.in_ok-with_low.ensures.runs in let v1 = g.G.Grow.view c.change.new.store in
    Permanent-grown one.moved.grown i.due.permanent

pub change-requires-2-clause-room : goal.change-requires-2-clause-room
change-requires-2-clause-room g c =
    let o = c.args.self.now in let l = o.lower in let u = o.upper in let i = c.requires.answered in let t = c.args._task in let x = c.args.var in let w = g.G.Grow.view c.args.store.now in
    let low = c.args.low in let high = c.args.high in let both = c.args.both in
    let one = Low-changed l u w t x low high both i (Ok c.in_ok-with_low.with_low) c.in_ok-with_low.ensures.runs in let v1 = g.G.Grow.view c.change.new.store in
    room-extra true w v1 c.args.stack.now c.change.new.stack one.moved.grown c.requires.room c.in_ok-with_low.ensures.scratch

pub returns-in_err-with_high-clause-does : goal.returns-in_err-with_high-clause-does
returns-in_err-with_high-clause-does g c =
    let o = c.args.self.now in let l = o.lower in let u = o.upper in let i = c.requires.answered in let t = c.args._task in let x = c.args.var in let w = g.G.Grow.view c.args.store.now in
    let low = c.args.low in let high = c.args.high in let both = c.args.both in
    let one = Low-changed l u w t x low high both i (Ok c.in_ok-with_low.with_low) c.in_ok-with_low.ensures.runs in let v1 = g.G.Grow.view c.change.new.store in
    let two = High-changed l u w t x low high both i v1 one.moved.grown (Err _) c.in_err-with_high.ensures.runs in
    let q = err_from_is_err_and c.from_residual-in_err-with_high.result c.from_residual-in_err-with_high.ensures.1 in rw (q.1, q.2) (after l u one.moved (failed l u _ two))

pub returns-in_err-with_high-clause-scratch : goal.returns-in_err-with_high-clause-scratch
returns-in_err-with_high-clause-scratch g c = keeps_both c.in_ok-with_low.ensures.scratch c.in_err-with_high.ensures.scratch

pub union-requires-clause-operands : goal.union-requires-clause-operands
union-requires-clause-operands g c =
    let o = c.args.self.now in let l = o.lower in let u = o.upper in let i = c.requires.answered in let t = c.args._task in let x = c.args.var in let w = g.G.Grow.view c.args.store.now in
    let low = c.args.low in let high = c.args.high in let both = c.args.both in
    let one = Low-changed l u w t x low high both i (Ok c.in_ok-with_low.with_low) c.in_ok-with_low.ensures.runs in let v1 = g.G.Grow.view c.change.new.store in
    let two = High-changed l u w t x low high both i v1 one.moved.grown (Ok c.in_ok-with_high.with_high) c.in_ok-with_high.ensures.runs in let v2 = g.G.Grow.view c.change-2.new.store in
    let m2 = Grown-trans one.moved.grown two.moved.grown in let first = Denotes-grown Zdd two.moved.grown one.answer in
    Halves-two l u w t x low high both i v2 m2 c.in_ok-with_low.with_low c.in_ok-with_high.with_high first two.answer

pub union-requires-clause-permanent : goal.union-requires-clause-permanent
union-requires-clause-permanent g c =
    let o = c.args.self.now in let l = o.lower in let u = o.upper in let i = c.requires.answered in let t = c.args._task in let x = c.args.var in let w = g.G.Grow.view c.args.store.now in
    let low = c.args.low in let high = c.args.high in let both = c.args.both in
    let one = Low-changed l u w t x low high both i (Ok c.in_ok-with_low.with_low) c.in_ok-with_low.ensures.runs in let v1 = g.G.Grow.view c.change.new.store in
    let two = High-changed l u w t x low high both i v1 one.moved.grown (Ok c.in_ok-with_high.with_high) c.in_ok-with_high.ensures.runs in let v2 = g.G.Grow.view c.change-2.new.store in
    let m2 = Grown-trans one.moved.grown two.moved.grown in let first = Denotes-grown Zdd two.moved.grown one.answer in
    Permanent-grown m2 i.due.permanent

pub union-requires-clause-room : goal.union-requires-clause-room
union-requires-clause-room g c =
    let o = c.args.self.now in let l = o.lower in let u = o.upper in let i = c.requires.answered in let t = c.args._task in let x = c.args.var in let w = g.G.Grow.view c.args.store.now in
    let low = c.args.low in let high = c.args.high in let both = c.args.both in
    let one = Low-changed l u w t x low high both i (Ok c.in_ok-with_low.with_low) c.in_ok-with_low.ensures.runs in let v1 = g.G.Grow.view c.change.new.store in
    let two = High-changed l u w t x low high both i v1 one.moved.grown (Ok c.in_ok-with_high.with_high) c.in_ok-with_high.ensures.runs in let v2 = g.G.Grow.view c.change-2.new.store in
    let m2 = Grown-trans one.moved.grown two.moved.grown in let first = Denotes-grown Zdd two.moved.grown one.answer in
    room-extra true w v2 c.args.stack.now c.change-2.new.stack m2 c.requires.room (keeps_both c.in_ok-with_low.ensures.scratch c.in_ok-with_high.ensures.scratch)

pub returns-in_err-halves-clause-does : goal.returns-in_err-halves-clause-does
returns-in_err-halves-clause-does g c =
    let o = c.args.self.now in let l = o.lower in let u = o.upper in let i = c.requires.answered in let t = c.args._task in let x = c.args.var in let w = g.G.Grow.view c.args.store.now in
    let low = c.args.low in let high = c.args.high in let both = c.args.both in
    let one = Low-changed l u w t x low high both i (Ok c.in_ok-with_low.with_low) c.in_ok-with_low.ensures.runs in let v1 = g.G.Grow.view c.change.new.store in
    let two = High-changed l u w t x low high both i v1 one.moved.grown (Ok c.in_ok-with_high.with_high) c.in_ok-with_high.ensures.runs in let v2 = g.G.Grow.view c.change-2.new.store in
    let m2 = Grown-trans one.moved.grown two.moved.grown in let first = Denotes-grown Zdd two.moved.grown one.answer in
    let three = Halves-does l u w t x low high both i v2 m2 c.in_ok-with_low.with_low c.in_ok-with_high.with_high first two.answer (Err _) c.in_err-halves.ensures.runs in
    let q = err_from_is_err_and c.from_residual-in_err-halves.result c.from_residual-in_err-halves.ensures.1 in rw (q.1, q.2) (after l u one.moved (after l u two.moved (failed l u _ three)))

pub returns-in_err-halves-clause-scratch : goal.returns-in_err-halves-clause-scratch
returns-in_err-halves-clause-scratch g c = keeps_both c.in_ok-with_low.ensures.scratch (keeps_both c.in_ok-with_high.ensures.scratch (keeps_same c.in_err-halves.ensures.stack))

pub union-requires-2-clause-operands : goal.union-requires-2-clause-operands
union-requires-2-clause-operands g c =
    let o = c.args.self.now in let l = o.lower in let u = o.upper in let i = c.requires.answered in let t = c.args._task in let x = c.args.var in let w = g.G.Grow.view c.args.store.now in
    let low = c.args.low in let high = c.args.high in let both = c.args.both in
    let one = Low-changed l u w t x low high both i (Ok c.in_ok-with_low.with_low) c.in_ok-with_low.ensures.runs in let v1 = g.G.Grow.view c.change.new.store in
    let two = High-changed l u w t x low high both i v1 one.moved.grown (Ok c.in_ok-with_high.with_high) c.in_ok-with_high.ensures.runs in let v2 = g.G.Grow.view c.change-2.new.store in
    let m2 = Grown-trans one.moved.grown two.moved.grown in let first = Denotes-grown Zdd two.moved.grown one.answer in
    let three = Halves-does l u w t x low high both i v2 m2 c.in_ok-with_low.with_low c.in_ok-with_high.with_high first two.answer (Ok c.in_ok-halves.halves) c.in_ok-halves.ensures.runs in let v3 = g.G.Grow.view c.union.new.store in
    let m3 = Grown-trans m2 three.moved.grown in
    Whole-two l u w t x low high both i v3 m3 c.in_ok-halves.halves three.answer

pub union-requires-2-clause-permanent : goal.union-requires-2-clause-permanent
union-requires-2-clause-permanent g c =
    let o = c.args.self.now in let l = o.lower in let u = o.upper in let i = c.requires.answered in let t = c.args._task in let x = c.args.var in let w = g.G.Grow.view c.args.store.now in
    let low = c.args.low in let high = c.args.high in let both = c.args.both in
    let one = Low-changed l u w t x low high both i (Ok c.in_ok-with_low.with_low) c.in_ok-with_low.ensures.runs in let v1 = g.G.Grow.view c.change.new.store in
    let two = High-changed l u w t x low high both i v1 one.moved.grown (Ok c.in_ok-with_high.with_high) c.in_ok-with_high.ensures.runs in let v2 = g.G.Grow.view c.change-2.new.store in
    let m2 = Grown-trans one.moved.grown two.moved.grown in let first = Denotes-grown Zdd two.moved.grown one.answer in
    let three = Halves-does l u w t x low high both i v2 m2 c.in_ok-with_low.with_low c.in_ok-with_high.with_high first two.answer (Ok c.in_ok-halves.halves) c.in_ok-halves.ensures.runs in let v3 = g.G.Grow.view c.union.new.store in
    let m3 = Grown-trans m2 three.moved.grown in
    Permanent-grown m3 i.due.permanent

pub union-requires-2-clause-room : goal.union-requires-2-clause-room
union-requires-2-clause-room g c =
    let o = c.args.self.now in let l = o.lower in let u = o.upper in let i = c.requires.answered in let t = c.args._task in let x = c.args.var in let w = g.G.Grow.view c.args.store.now in
    let low = c.args.low in let high = c.args.high in let both = c.args.both in
    let one = Low-changed l u w t x low high both i (Ok c.in_ok-with_low.with_low) c.in_ok-with_low.ensures.runs in let v1 = g.G.Grow.view c.change.new.store in
    let two = High-changed l u w t x low high both i v1 one.moved.grown (Ok c.in_ok-with_high.with_high) c.in_ok-with_high.ensures.runs in let v2 = g.G.Grow.view c.change-2.new.store in
    let m2 = Grown-trans one.moved.grown two.moved.grown in let first = Denotes-grown Zdd two.moved.grown one.answer in
    let three = Halves-does l u w t x low high both i v2 m2 c.in_ok-with_low.with_low c.in_ok-with_high.with_high first two.answer (Ok c.in_ok-halves.halves) c.in_ok-halves.ensures.runs in let v3 = g.G.Grow.view c.union.new.store in
    let m3 = Grown-trans m2 three.moved.grown in
    room-extra true w v3 c.args.stack.now c.union.new.stack m3 c.requires.room (keeps_both c.in_ok-with_low.ensures.scratch (keeps_both c.in_ok-with_high.ensures.scratch (keeps_same c.in_ok-halves.ensures.stack)))

pub returns-clause-does : goal.returns-clause-does
returns-clause-does g c =
    let o = c.args.self.now in let l = o.lower in let u = o.upper in let i = c.requires.answered in let t = c.args._task in let x = c.args.var in let w = g.G.Grow.view c.args.store.now in
    let low = c.args.low in let high = c.args.high in let both = c.args.both in
    let one = Low-changed l u w t x low high both i (Ok c.in_ok-with_low.with_low) c.in_ok-with_low.ensures.runs in let v1 = g.G.Grow.view c.change.new.store in
    let two = High-changed l u w t x low high both i v1 one.moved.grown (Ok c.in_ok-with_high.with_high) c.in_ok-with_high.ensures.runs in let v2 = g.G.Grow.view c.change-2.new.store in
    let m2 = Grown-trans one.moved.grown two.moved.grown in let first = Denotes-grown Zdd two.moved.grown one.answer in
    let three = Halves-does l u w t x low high both i v2 m2 c.in_ok-with_low.with_low c.in_ok-with_high.with_high first two.answer (Ok c.in_ok-halves.halves) c.in_ok-halves.ensures.runs in let v3 = g.G.Grow.view c.union.new.store in
    let m3 = Grown-trans m2 three.moved.grown in
    let four = Whole-does l u w t x low high both i v3 m3 c.in_ok-halves.halves three.answer c.union-2.result c.union-2.ensures.runs in
    after l u one.moved (after l u two.moved (after l u three.moved (named l u (λ e is. Whole-answer l u w t x low high both i (g.G.Grow.view c.union-2.new.store) (Grown-trans m3 four.moved.grown) e is) four)))

pub returns-clause-scratch : goal.returns-clause-scratch
returns-clause-scratch g c = keeps_both c.in_ok-with_low.ensures.scratch (keeps_both c.in_ok-with_high.ensures.scratch (keeps_both (keeps_same c.in_ok-halves.ensures.stack) (keeps_same c.union-2.ensures.stack)))
