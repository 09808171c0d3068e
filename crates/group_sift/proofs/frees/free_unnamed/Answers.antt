use Rattle.std.proofs.Common.{arith, ◌≡◌, ◌<◌, ℕ, Option, Some, sym, ◌∙◌, subst, ap}
use Rattle.edge_bits.specs.declared.edges.Kind.{Kind}
use Rattle.edge_bits.specs.declared.words.Word.{Word}
use Rattle.edge_bits.specs.declared.words.Word.TheVariants.{Inner}
use Rattle.node_store.specs.Views.{Is}
use Rattle.node_store.specs.Contents.{view_of}
use Rattle.dead_sweep.proofs.Advancing.{used_is, slot_parts}
use Rattle.level_swap.proofs.Readying.{opened_inner}
use Rattle.group_sift.proofs.Naming.{tested}
use Rattle.group_sift.proofs.Passing.{here, pass_can, pass_dead, pass_live}
use Rattle.group_sift.proofs.frees.free_unnamed.Goals as goal

pub is_named-named-requires : goal.is_named-named-requires
is_named-named-requires g c =
    let p = c.requires.2 in
    let n = tested c.requires.1 ((g.W.Whole.view c.args.w.now).word c.args.slot) p.node in
    p.so_far.sound.within c.args.slot (Inner n.0, n.1)

pub count_of-count-requires : goal.count_of-count-requires
count_of-count-requires g c =
    let p = c.requires.2 in
    let n = tested c.requires.1 ((g.W.Whole.view c.args.w.now).word c.args.slot) p.node in
    subst (λ x. c.args.slot < x) (sym c.is_named-named.ensures.after.limit) (p.so_far.sound.within c.args.slot (Inner n.0, n.1))

pub new-requires : goal.new-requires
new-requires g c =
    let p = c.requires.2 in
    let n = tested c.requires.1 ((g.W.Whole.view c.args.w.now).word c.args.slot) p.node in
    let within = p.so_far.sound.within c.args.slot (Inner n.0, n.1) in
    let few = p.so_far.sound.few_slots in
    record { low = omega (arith, within, few) }

pub open-requires : goal.open-requires
open-requires g c =
    let p = c.requires.2 in
    let n = tested c.requires.1 ((g.W.Whole.view c.args.w.now).word c.args.slot) p.node in
    let w2 = g.W.Whole.view c.count_of-count.new.self in
    let word2 : w2.word c.args.slot ≡ Some (Inner n.0) = ap (λ (f : ℕ → Option Word). f c.args.slot) (c.count_of-count.ensures.after.word ∙ c.is_named-named.ensures.after.word) ∙ n.1 in
    subst (λ e. (k : Kind) × Is k (view_of w2) e) (sym c.new.ensures) (used_is w2 c.count_of-count.ensures.after.sound c.args.slot (Inner n.0, word2))

pub free-requires : goal.free-requires
free-requires g c =
    let p = c.requires.2 in
    let o = g.W.Whole.others in
    let both = g.met.W.Whole.others_both in
    let zero = g.met.W.Whole.others_zero in
    let w0 = g.W.Whole.view c.args.w.now in
    let w1 = g.W.Whole.view c.is_named-named.new.self in
    let w2 = g.W.Whole.view c.count_of-count.new.self in
    let w3 = g.W.Whole.view c.open.new.self in
    let slot = c.args.slot in
    let n = here o both zero c.requires.0 c.requires.1 p.loose w0 slot p.so_far p.node in
    let word2 : w2.word slot ≡ Some (Inner n.0) = ap (λ (f : ℕ → Option Word). f slot) (c.count_of-count.ensures.after.word ∙ c.is_named-named.ensures.after.word) ∙ n.1 in
    let parts = slot_parts w2 slot n.0 c.new.result c.open.result c.in-Inner.field-0 c.in-Inner.hi c.in-Inner.lo word2 c.new.ensures c.open.ensures.opens c.in-Inner.is in
    pass_can o both zero c.requires.0 c.requires.1 p.loose w0 slot p.so_far p.node w1 w2 w3 c.is_named-named.ensures.after c.count_of-count.ensures.after c.open.ensures.after
    c.is_named-named.result c.count_of-count.result c.in-Inner.hi c.in-Inner.lo c.is_named-named.ensures.named c.is_named-named.ensures.unnamed c.count_of-count.ensures.count parts.0 parts.1
    (sym c.stays.ensures ∙ c.if-not-stays.true)

pub returns-then-not-stays : goal.returns-then-not-stays
returns-then-not-stays g c start v p =
    let o = g.W.Whole.others in
    let both = g.met.W.Whole.others_both in
    let zero = g.met.W.Whole.others_zero in
    let w0 = g.W.Whole.view c.args.w.now in
    let w1 = g.W.Whole.view c.is_named-named.new.self in
    let w2 = g.W.Whole.view c.count_of-count.new.self in
    let w3 = g.W.Whole.view c.open.new.self in
    let slot = c.args.slot in
    let n = here o both zero start v p.loose w0 slot p.so_far p.node in
    let word2 : w2.word slot ≡ Some (Inner n.0) = ap (λ (f : ℕ → Option Word). f slot) (c.count_of-count.ensures.after.word ∙ c.is_named-named.ensures.after.word) ∙ n.1 in
    let parts = slot_parts w2 slot n.0 c.new.result c.open.result c.in-Inner.field-0 c.in-Inner.hi c.in-Inner.lo word2 c.new.ensures c.open.ensures.opens c.in-Inner.is in
    pass_dead o both zero start v p.loose w0 slot p.so_far p.node w1 w2 w3 c.is_named-named.ensures.after c.count_of-count.ensures.after c.open.ensures.after
    c.is_named-named.result c.count_of-count.result c.in-Inner.hi c.in-Inner.lo c.is_named-named.ensures.named c.is_named-named.ensures.unnamed c.count_of-count.ensures.count parts.0 parts.1
    (sym c.stays.ensures ∙ c.if-not-stays.true) (g.W.Whole.view c.free.new.self) c.free.ensures

pub returns-else-not-stays : goal.returns-else-not-stays
returns-else-not-stays g c start v p =
    let o = g.W.Whole.others in
    let both = g.met.W.Whole.others_both in
    let zero = g.met.W.Whole.others_zero in
    let w0 = g.W.Whole.view c.args.w.now in
    let w1 = g.W.Whole.view c.is_named-named.new.self in
    let w2 = g.W.Whole.view c.count_of-count.new.self in
    let w3 = g.W.Whole.view c.open.new.self in
    let slot = c.args.slot in
    let n = here o both zero start v p.loose w0 slot p.so_far p.node in
    let word2 : w2.word slot ≡ Some (Inner n.0) = ap (λ (f : ℕ → Option Word). f slot) (c.count_of-count.ensures.after.word ∙ c.is_named-named.ensures.after.word) ∙ n.1 in
    let parts = slot_parts w2 slot n.0 c.new.result c.open.result c.in-Inner.field-0 c.in-Inner.hi c.in-Inner.lo word2 c.new.ensures c.open.ensures.opens c.in-Inner.is in
    pass_live o both zero start v p.loose w0 slot p.so_far p.node w1 w2 w3 c.is_named-named.ensures.after c.count_of-count.ensures.after c.open.ensures.after
    c.is_named-named.result c.count_of-count.result c.in-Inner.hi c.in-Inner.lo c.is_named-named.ensures.named c.is_named-named.ensures.unnamed c.count_of-count.ensures.count parts.0 parts.1
    (sym c.stays.ensures ∙ c.if-not-stays.false)

pub returns-in_default : goal.returns-in_default
returns-in_default g c start v p =
    let n = tested v ((g.W.Whole.view c.args.w.now).word c.args.slot) p.node in
    let w2 = g.W.Whole.view c.count_of-count.new.self in
    let word2 : w2.word c.args.slot ≡ Some (Inner n.0) = ap (λ (f : ℕ → Option Word). f c.args.slot) (c.count_of-count.ensures.after.word ∙ c.is_named-named.ensures.after.word) ∙ n.1 in
    absurd (opened_inner w2 c.args.slot n.0 c.new.result c.open.result word2 c.new.ensures c.open.ensures.opens (λ x hi lo arm. c.in_default.not-Inner x hi lo arm))
