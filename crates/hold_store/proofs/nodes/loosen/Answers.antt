use Rattle.std.proofs.Common.{arith, sym, ap, ◌∙◌, subst}
use Rattle.edge_bits.specs.Words.{unpack_of}
use Rattle.hold_store.specs.Held.{HasLevel, Knowledge, level_of_word}
use Rattle.hold_store.proofs.NodeSteps.{has_turn, word_within}
use Rattle.hold_store.proofs.Passing.{none_some}
use Rattle.hold_store.proofs.nodes.loosen.Goals as goal

pub load_node-bits-requires-clause-within : goal.load_node-bits-requires-clause-within
load_node-bits-requires-clause-within g c = (g.met.S.Holds.stands c.args.seat.now c.requires.own).sound.within c.args.slot c.requires.used

-- the bits that were loaded read as the slot's word
pub unreachable-requires : goal.unreachable-requires
unreachable-requires g c =
    let k = g.S.Holds.known c.args.seat.now in
    let s = g.met.S.Holds.stands c.args.seat.now c.requires.own in
    none_some c.requires.used.0 (sym c.in-None.is ∙ c.unpack.ensures.value ∙ ap unpack_of c.load_node-bits.ensures.bits ∙ sym (s.reads c.args.slot) ∙ c.requires.used.1)

pub take_off-requires-clause-word : goal.take_off-requires-clause-word
take_off-requires-clause-word g c =
    let s = g.met.S.Holds.stands c.args.seat.now c.requires.own in (
      c.in-Some.word,
      ap (λ (k : Knowledge). k.content.word c.args.slot) c.load_node-bits.ensures.same ∙ s.reads c.args.slot ∙ ap unpack_of (sym c.load_node-bits.ensures.bits) ∙ sym c.unpack.ensures.value ∙ c.in-Some.is,
      c.level_of-level.ensures,
    )

pub take_off-requires-clause-turn : goal.take_off-requires-clause-turn
take_off-requires-clause-turn g c =
    let k = g.S.Holds.known c.args.seat.now in
    let s = g.met.S.Holds.stands c.args.seat.now c.requires.own in
    let has = s.reads c.args.slot ∙ ap unpack_of (sym c.load_node-bits.ensures.bits) ∙ sym c.unpack.ensures.value ∙ c.in-Some.is in
    subst (λ (x : Knowledge). HasLevel x.hand c.level_of-level.result) (sym c.load_node-bits.ensures.same)
    (subst (HasLevel k.hand) (sym (c.level_of-level.ensures ∙ ap (λ (x : Knowledge). level_of_word x c.in-Some.word) c.load_node-bits.ensures.same)) (has_turn k c.requires.ready (level_of_word k c.in-Some.word) (word_within k s c.args.slot c.in-Some.word has)))

pub take_off-requires-clause-calm : goal.take_off-requires-clause-calm
take_off-requires-clause-calm g c = ap (λ (k : Knowledge). k.hand.loose) c.load_node-bits.ensures.same ∙ c.requires.ready.loose

pub take_off-requires-clause-few : goal.take_off-requires-clause-few
take_off-requires-clause-few g c =
    let s = g.met.S.Holds.stands c.args.seat.now c.requires.own in
    let w = s.sound.within c.args.slot c.requires.used in
    let f = s.sound.few_slots in
    omega (arith, w, f)
