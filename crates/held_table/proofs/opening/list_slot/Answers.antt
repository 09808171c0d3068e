use Rattle.std.proofs.Common.{◌≡◌, ◌<◌, ◌+◌, ap, sym, ◌∙◌, subst, arith}
use Rattle.std.specs.Prelude.{slice_index, vec_capacity}
use Rattle.std.proofs.lemmas.List.{get_or_read}
use Rattle.edge_bits.specs.Words.{unpack_of}
use Rattle.held_table.specs.Opened.{AreAllFree}
use Rattle.held_table.proofs.Openings.{one_free, one_used, no_word_told, word_told}
use Rattle.held_table.proofs.opening.list_slot.Goals as goal

pub returns-then-is_some-clause-free : goal.returns-then-is_some-clause-free
returns-then-is_some-clause-free c =
    let read : c.index.result.now ≡ slice_index c.args.words.now.items c.args.slot = get_or_read c.args.words.now.items c.args.slot c.index.result.now c.requires.within c.index.ensures 0 in
    one_used c.args.words.now.items c.args.slot c.args.freed.now.items
    (λ none. word_told c.unpack.result (sym c.if-is_some.true ∙ c.is_some.ensures) (c.unpack.ensures.value ∙ ap unpack_of read ∙ none)) c.requires.before

pub push_reserved-requires : goal.push_reserved-requires
push_reserved-requires c =
    let few = c.requires.before.few in
    let room = c.requires.room in
    let lt = c.requires.within in
    subst (λ n. n < vec_capacity c.args.freed.now) (sym c.args.freed.now.ok.0) (omega (arith, few, room, lt))

pub returns-clause-free : goal.returns-clause-free
returns-clause-free c =
    let read : c.index.result.now ≡ slice_index c.args.words.now.items c.args.slot = get_or_read c.args.words.now.items c.args.slot c.index.result.now c.requires.within c.index.ensures 0 in
    subst (AreAllFree c.args.words.now.items (c.args.slot + 1)) (sym c.push_reserved.ensures.items)
    (one_free c.args.words.now.items c.args.slot c.args.freed.now.items (ap unpack_of (sym read) ∙ sym c.unpack.ensures.value ∙ no_word_told c.unpack.result (sym c.if-is_some.false ∙ c.is_some.ensures)) c.requires.before)
