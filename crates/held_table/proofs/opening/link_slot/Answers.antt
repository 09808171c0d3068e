use Rattle.std.proofs.Common.{◌≡◌, ◌<◌, ◌+◌, ℕ, length, set, ap, sym, ◌∙◌, subst, arith}
use Rattle.std.specs.Prelude.{slice_index}
use Rattle.std.proofs.lemmas.List.{get_or_read}
use Rattle.edge_bits.specs.Mixing.{scattered}
use Rattle.edge_bits.specs.Words.{unpack_of}
use Rattle.held_table.specs.Opened.{AreLinked}
use Rattle.held_table.proofs.Openings.{no_word, one_linked, one_skipped, some_word}
use Rattle.held_table.proofs.opening.link_slot.Goals as goal

pub returns-then-is_none-clause-chains : goal.returns-then-is_none-clause-chains
returns-then-is_none-clause-chains c =
    let read : c.index-bits.result.now ≡ slice_index c.args.words.now.items c.args.slot = get_or_read c.args.words.now.items c.args.slot c.index-bits.result.now c.requires.within c.index-bits.ensures 0 in
    let none = no_word c.unpack.result c.is_none.result c.is_none.ensures c.if-is_none.true in
    one_skipped c.args.heads.now.items c.args.nexts.now.items c.args.words.now.items c.args.slot (ap unpack_of (sym read) ∙ sym c.unpack.ensures.value ∙ none) c.requires.before

pub returns-clause-chains : goal.returns-clause-chains
returns-clause-chains c =
    let heads = c.args.heads.now.items in
    let nexts = c.args.nexts.now.items in
    let words = c.args.words.now.items in
    let h = c.scatter-head.result in
    let read : c.index-bits.result.now ≡ slice_index words c.args.slot = get_or_read words c.args.slot c.index-bits.result.now c.requires.within c.index-bits.ensures 0 in
    let some = some_word c.unpack.result c.is_none.result c.is_none.ensures c.if-is_none.false in
    let many : c.len.result ≡ length heads = c.len.ensures ∙ c.args.heads.now.ok.0 in
    let at = c.scatter-head.ensures.place ∙ ap (λ (n : ℕ). scattered n c.len.result) read ∙ ap (scattered (slice_index words c.args.slot)) many in
    let below : h < length heads = subst (λ n. h < n) many c.scatter-head.ensures.within in
    let inside : c.args.slot < length nexts = let a = c.requires.nexts in let b = c.requires.within in omega (arith, a, b) in
    let front : c.index.result.now ≡ slice_index heads h = get_or_read heads h c.index.result.now below c.index.ensures 0 in
    subst (λ (n : ℕ). AreLinked (set heads h (c.args.slot + 1)) (set nexts c.args.slot n) words (c.args.slot + 1)) (sym front)
    (one_linked heads nexts words c.args.slot h some.0 c.requires.high inside (ap unpack_of (sym read) ∙ sym c.unpack.ensures.value ∙ some.1) at below c.requires.before)
