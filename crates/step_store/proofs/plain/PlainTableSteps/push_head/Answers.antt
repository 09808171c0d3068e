use Rattle.std.proofs.Common.{◌≡◌, ℕ, set, refl, ap, sym, ◌∙◌, arith}
use Rattle.std.specs.Prelude.{slice_index}
use Rattle.std.proofs.lemmas.List.{get_or_read}
use Rattle.node_slots.specs.Stores.{is_word}
use Rattle.step_store.proofs.Moves.{chains_slot, noted_bits}
use Rattle.step_store.proofs.plain.PlainTableSteps.push_head.Goals as goal

pub returns-then-found-link-clause-own : goal.returns-then-found-link-clause-own
returns-then-found-link-clause-own c =
    let t = c.args.self.now.core in
    let n = c.requires.noted in
    let bits = slice_index t.words.items c.args.slot in
    let e : c.index-found.result.now ≡ slice_index t.heads.items c.args.head = get_or_read t.heads.items c.args.head c.index-found.result.now c.requires.within c.index-found.ensures 0 in
    chains_slot t _ c.requires.own c.args.head c.args.slot c.args.link n.0 c.requires.loose c.requires.linked (sym e ∙ c.if-found-link.true) c.requires.within (noted_bits (is_word bits) bits n.0 n.1) n.2 refl
    (ap (λ (x : ℕ). set t.heads.items c.args.head x) (omega arith))
