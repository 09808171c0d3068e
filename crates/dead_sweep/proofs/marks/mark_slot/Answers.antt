use Rattle.std.proofs.Common.{arith, ◌≡◌, sym, ◌∙◌, subst, ap, ℕ, Option, Some}
use Rattle.edge_bits.specs.declared.words.Word.{Word}
use Rattle.edge_bits.specs.declared.edges.Edge.{Edge}
use Rattle.edge_bits.specs.declared.words.Word.TheVariants.{Inner}
use Rattle.node_store.specs.Views.{Is}
use Rattle.edge_bits.specs.declared.edges.Kind.{Kind}
use Rattle.node_store.specs.Contents.{view_of}
use Rattle.dead_sweep.proofs.Ranks.{children_used}
use Rattle.dead_sweep.proofs.Advancing.{used_is, slot_parts, slot_no_leaf, again}
use Rattle.dead_sweep.proofs.marks.mark_slot.Goals as goal

pub new-requires : goal.new-requires
new-requires g c =
    let within = c.requires.sound.within c.args.slot (Inner c.requires.node.0, c.requires.node.1) in
    let few = c.requires.sound.few_slots in
    record { low = omega arith }

pub open-requires : goal.open-requires
open-requires g c =
    subst (λ e. (k : Kind) × Is k (view_of (g.W.Whole.view c.args.w.now)) e) (sym c.new.ensures) (used_is (g.W.Whole.view c.args.w.now) c.requires.sound c.args.slot (Inner c.requires.node.0, c.requires.node.1))

pub mark_node-requires-clause-hi : goal.mark_node-requires-clause-hi
mark_node-requires-clause-hi g c =
    let v0 = g.W.Whole.view c.args.w.now in
    let v1 = g.W.Whole.view c.open.new.self in
    let n = c.requires.node in
    let p = slot_parts v0 c.args.slot n.0 c.new.result c.open.result c.in-Inner.field-0 c.in-Inner.hi c.in-Inner.lo n.1 c.new.ensures c.open.ensures.opens c.in-Inner.is in
    let u = (children_used v0 c.requires.sound c.requires.whole c.args.slot n.0 n.1).0 in
    (u.0, ap (λ (f : ℕ → Option Word). f c.in-Inner.hi.index) c.open.ensures.after.word ∙ ap (λ (e : Edge). v0.word e.index) p.0 ∙ u.1)

pub mark_node-requires-clause-lo : goal.mark_node-requires-clause-lo
mark_node-requires-clause-lo g c =
    let v0 = g.W.Whole.view c.args.w.now in
    let n = c.requires.node in
    let p = slot_parts v0 c.args.slot n.0 c.new.result c.open.result c.in-Inner.field-0 c.in-Inner.hi c.in-Inner.lo n.1 c.new.ensures c.open.ensures.opens c.in-Inner.is in
    let u = (children_used v0 c.requires.sound c.requires.whole c.args.slot n.0 n.1).1 in
    (u.0, ap (λ (f : ℕ → Option Word). f c.in-Inner.lo.index) c.open.ensures.after.word ∙ ap (λ (e : Edge). v0.word e.index) p.1 ∙ u.1)

pub returns-in-Inner-clause-step : goal.returns-in-Inner-clause-step
returns-in-Inner-clause-step g c start is_root rank node sound settled word here m =
    let v0 = g.W.Whole.view c.args.w.now in
    let v1 = g.W.Whole.view c.open.new.self in
    let here_word : v0.word c.args.slot ≡ Some (Inner node) = ap (λ (f : ℕ → Option Word). f c.args.slot) m.same.word ∙ word in
    let p = slot_parts v0 c.args.slot node c.new.result c.open.result c.in-Inner.field-0 c.in-Inner.hi c.in-Inner.lo here_word c.new.ensures c.open.ensures.opens c.in-Inner.is in
    c.mark_node.ensures.step start is_root rank node sound settled word p.0 p.1 here
    (again g.W.Whole.others g.met.W.Whole.others_both g.met.W.Whole.others_zero start v0 v1 is_root rank c.args.slot rank c.args.slot c.open.ensures.after m (λ s w h d. d) (λ s w h d. d))

pub returns-in-Leaf-clause-step : goal.returns-in-Leaf-clause-step
returns-in-Leaf-clause-step g c start is_root rank node sound settled word here m =
    let v0 = g.W.Whole.view c.args.w.now in
    let here_word : v0.word c.args.slot ≡ Some (Inner node) = ap (λ (f : ℕ → Option Word). f c.args.slot) m.same.word ∙ word in
    absurd (slot_no_leaf v0 c.args.slot node c.new.result c.open.result c.in-Leaf.field-0 here_word c.new.ensures c.open.ensures.opens c.in-Leaf.is)
