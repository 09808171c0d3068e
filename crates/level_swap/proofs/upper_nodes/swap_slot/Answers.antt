use Rattle.std.proofs.Common.{◌≡◌, ℕ, true, ◌||◌, Option, Some, sym, ◌∙◌, subst}
use Rattle.edge_bits.specs.Reading.{plain}
use Rattle.edge_bits.specs.declared.edges.Kind.{Kind}
use Rattle.edge_bits.specs.declared.words.Word.{Word}
use Rattle.edge_bits.specs.declared.words.Word.TheVariants.{Inner}
use Rattle.function_laws.specs.Kinds.{function_of, joined_at}
use Rattle.node_store.specs.Views.{Is, function_at}
use Rattle.node_store.specs.Contents.{is_node_of, view_of}
use Rattle.function_laws.proofs.CubeLemmas.{or_true}
use Rattle.level_swap.proofs.Readying.{found, opened_inner, opened_slot, ready_after, word_before}
use Rattle.level_swap.proofs.SoundEdges.{edge_is}
use Rattle.level_swap.proofs.Turning.{passed}
use Rattle.level_swap.proofs.UpperLemmas.{untouched}
use Rattle.level_swap.proofs.upper_nodes.swap_slot.Goals as goal

pub open-requires : goal.open-requires
open-requires g c =
    let start = c.requires.0 in
    let order = c.requires.1 in
    let level = c.requires.2 in
    let r = c.requires.3 in
    let f = found g.W.Whole.others g.met.W.Whole.others_both order level start c.args.upper c.args.lower c.args.slot (g.W.Whole.view c.args.w.now) r in
    subst (λ e. (k : Kind) × Is k (view_of (g.W.Whole.view c.args.w.now)) e) (sym c.new.ensures) (f.kind, edge_is (g.W.Whole.view c.args.w.now) f.un.sound f.kind (plain c.args.slot) (joined_at f.kind c.args.upper f.high f.low) f.un.function)

pub touches-requires : goal.touches-requires
touches-requires g c =
    let start = c.requires.0 in
    let order = c.requires.1 in
    let level = c.requires.2 in
    let r = c.requires.3 in
    let r1 = ready_after g.W.Whole.others g.met.W.Whole.others_both order level start c.args.upper c.args.lower c.args.slot (g.W.Whole.view c.args.w.now) (g.W.Whole.view c.open.new.self) r c.open.ensures.after in
    let f1 = found g.W.Whole.others g.met.W.Whole.others_both order level start c.args.upper c.args.lower c.args.slot (g.W.Whole.view c.open.new.self) r1 in
    let children = opened_slot (g.W.Whole.view c.args.w.now) c.args.slot f1.un.node c.new.result c.open.result c.in-Inner.field-0 c.in-Inner.hi c.in-Inner.lo (word_before g.W.Whole.others (g.W.Whole.view c.args.w.now) (g.W.Whole.view c.open.new.self) c.open.ensures.after c.args.slot (Inner f1.un.node) f1.un.word) c.new.ensures c.open.ensures.opens c.in-Inner.is in (
      f1.kind,
      subst (Is f1.kind (view_of (g.W.Whole.view c.open.new.self))) (sym children.0) (edge_is (g.W.Whole.view c.open.new.self) f1.un.sound f1.kind (plain f1.un.node.hi) f1.high f1.hi_is),
      subst (Is f1.kind (view_of (g.W.Whole.view c.open.new.self))) (sym children.1) (edge_is (g.W.Whole.view c.open.new.self) f1.un.sound f1.kind f1.un.node.lo f1.low f1.lo_is),
    )

pub turn-requires : goal.turn-requires
turn-requires g c =
    let start = c.requires.0 in
    let order = c.requires.1 in
    let level = c.requires.2 in
    let r = c.requires.3 in
    let r1 = ready_after g.W.Whole.others g.met.W.Whole.others_both order level start c.args.upper c.args.lower c.args.slot (g.W.Whole.view c.args.w.now) (g.W.Whole.view c.open.new.self) r c.open.ensures.after in
    let r2 = ready_after g.W.Whole.others g.met.W.Whole.others_both order level start c.args.upper c.args.lower c.args.slot (g.W.Whole.view c.open.new.self) (g.W.Whole.view c.touches.new.w) r1 c.touches.ensures.after in
    let f2 = found g.W.Whole.others g.met.W.Whole.others_both order level start c.args.upper c.args.lower c.args.slot (g.W.Whole.view c.touches.new.w) r2 in
    let children = opened_slot (g.W.Whole.view c.args.w.now) c.args.slot f2.un.node c.new.result c.open.result c.in-Inner.field-0 c.in-Inner.hi c.in-Inner.lo (word_before g.W.Whole.others (g.W.Whole.view c.args.w.now) (g.W.Whole.view c.open.new.self) c.open.ensures.after c.args.slot (Inner f2.un.node) (word_before g.W.Whole.others (g.W.Whole.view c.open.new.self) (g.W.Whole.view c.touches.new.w) c.touches.ensures.after c.args.slot (Inner f2.un.node) f2.un.word)) c.new.ensures c.open.ensures.opens c.in-Inner.is in (
      start,
      order,
      level,
      record {
        kind = f2.kind;
        high = f2.high;
        low = f2.low;
        ready = r2;
        upper_node = f2.un;
        hi_is = subst (λ e. function_at (view_of (g.W.Whole.view c.touches.new.w)) e ≡ Some (function_of f2.kind f2.high)) (sym children.0) f2.hi_is;
        lo_is = subst (λ e. function_at (view_of (g.W.Whole.view c.touches.new.w)) e ≡ Some (function_of f2.kind f2.low)) (sym children.1) f2.lo_is;
        spare = λ node word. opened_slot (g.W.Whole.view c.args.w.now) c.args.slot node c.new.result c.open.result c.in-Inner.field-0 c.in-Inner.hi c.in-Inner.lo (word_before g.W.Whole.others (g.W.Whole.view c.args.w.now) (g.W.Whole.view c.open.new.self) c.open.ensures.after c.args.slot (Inner node) (word_before g.W.Whole.others (g.W.Whole.view c.open.new.self) (g.W.Whole.view c.touches.new.w) c.touches.ensures.after c.args.slot (Inner node) word)) c.new.ensures c.open.ensures.opens c.in-Inner.is;
        touches = or_true (is_node_of c.args.lower ((g.W.Whole.view c.touches.new.w).word c.in-Inner.hi.index)) (is_node_of c.args.lower ((g.W.Whole.view c.touches.new.w).word c.in-Inner.lo.index)) (subst (λ (h : ℕ → Option Word). (is_node_of c.args.lower (h c.in-Inner.hi.index) || is_node_of c.args.lower (h c.in-Inner.lo.index)) ≡ true) (sym c.touches.ensures.after.word) (sym c.touches.ensures.touches ∙ c.if-touches.true));
      },
    )

pub returns-then-touches : goal.returns-then-touches
returns-then-touches g c start order level r =
    let r1 = ready_after g.W.Whole.others g.met.W.Whole.others_both order level start c.args.upper c.args.lower c.args.slot (g.W.Whole.view c.args.w.now) (g.W.Whole.view c.open.new.self) r c.open.ensures.after in
    c.turn.ensures start order level (ready_after g.W.Whole.others g.met.W.Whole.others_both order level start c.args.upper c.args.lower c.args.slot (g.W.Whole.view c.open.new.self) (g.W.Whole.view c.touches.new.w) r1 c.touches.ensures.after)

pub returns-else-touches : goal.returns-else-touches
returns-else-touches g c start order level r =
    let r1 = ready_after g.W.Whole.others g.met.W.Whole.others_both order level start c.args.upper c.args.lower c.args.slot (g.W.Whole.view c.args.w.now) (g.W.Whole.view c.open.new.self) r c.open.ensures.after in
    let f1 = found g.W.Whole.others g.met.W.Whole.others_both order level start c.args.upper c.args.lower c.args.slot (g.W.Whole.view c.open.new.self) r1 in
    let children = opened_slot (g.W.Whole.view c.args.w.now) c.args.slot f1.un.node c.new.result c.open.result c.in-Inner.field-0 c.in-Inner.hi c.in-Inner.lo (word_before g.W.Whole.others (g.W.Whole.view c.args.w.now) (g.W.Whole.view c.open.new.self) c.open.ensures.after c.args.slot (Inner f1.un.node) f1.un.word) c.new.ensures c.open.ensures.opens c.in-Inner.is in
    let hi_is = subst (λ e. function_at (view_of (g.W.Whole.view c.open.new.self)) e ≡ Some (function_of f1.kind f1.high)) (sym children.0) f1.hi_is in
    let lo_is = subst (λ e. function_at (view_of (g.W.Whole.view c.open.new.self)) e ≡ Some (function_of f1.kind f1.low)) (sym children.1) f1.lo_is in
    passed g.W.Whole.others g.met.W.Whole.others_both f1.kind c.args.upper c.args.lower c.args.slot f1.high f1.low order level start (g.W.Whole.view c.open.new.self) (g.W.Whole.view c.touches.new.w) r1 f1.un c.touches.ensures.after
    (untouched f1.kind (g.W.Whole.view c.open.new.self) c.args.upper c.args.lower c.args.slot f1.high f1.low f1.un c.in-Inner.hi c.in-Inner.lo hi_is lo_is (sym c.touches.ensures.touches ∙ c.if-touches.false))

pub returns-in_default : goal.returns-in_default
returns-in_default g c start order level r =
    let f = found g.W.Whole.others g.met.W.Whole.others_both order level start c.args.upper c.args.lower c.args.slot (g.W.Whole.view c.args.w.now) r in
    absurd (opened_inner (g.W.Whole.view c.args.w.now) c.args.slot f.un.node c.new.result c.open.result f.un.word c.new.ensures c.open.ensures.opens (λ x hi lo arm. c.in_default.not-Inner x hi lo arm))
