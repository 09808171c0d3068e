use Rattle.std.proofs.Common.{◌≡◌, ◌%◌, ◌/◌, ◌*◌, ◌^◌, ◌==◌, not, get_or, ap, sym, ◌∙◌, arith, w64}
use Rattle.std.specs.Prelude.{bit_and}
use Rattle.std.specs.Int.{bit_at, bit_not}
use Rattle.std.proofs.lemmas.List.{get_or_default}
use Rattle.std.proofs.lemmas.Nat.{and_le_l}
use Rattle.std.proofs.lemmas.Nat.Bits.{bit_at_clear_same, bit_at_clear_other}
use Rattle.held_slots.proofs.Layers.{put_bit, put_here, put_others, had_more}
use Rattle.held_slots.proofs.layer.unset.Goals as goal

pub returns-clause-here : goal.returns-clause-here
returns-clause-here c =
    let k = c.args.place % 64 in
    let n = c.index.result.now in
    ap (λ b. b == 1) (put_bit c.args.bits.now.items c.args.place (bit_and n (bit_not w64 (1 * 2 ^ k % 2 ^ 64))) c.requires 0 (bit_at_clear_same w64 n k (omega arith)))

pub returns-clause-others : goal.returns-clause-others
returns-clause-others c =
    let k = c.args.place % 64 in
    let n = c.index.result.now in
    let read : n ≡ get_or c.args.bits.now.items (c.args.place / 64) 0 = c.index.ensures ∙ get_or_default c.args.bits.now.items (c.args.place / 64) n 0 c.requires in
    put_others c.args.bits.now.items c.args.place (bit_and n (bit_not w64 (1 * 2 ^ k % 2 ^ 64))) c.requires (λ i lt ne. bit_at_clear_other w64 n k (omega arith) i lt ne ∙ ap (λ m. bit_at m i) read)

pub returns-clause-had : goal.returns-clause-had
returns-clause-had c =
    let k = c.args.place % 64 in
    let n = c.index.result.now in
    let read : n ≡ get_or c.args.bits.now.items (c.args.place / 64) 0 = c.index.ensures ∙ get_or_default c.args.bits.now.items (c.args.place / 64) n 0 c.requires in
    let less = and_le_l n (bit_not w64 (1 * 2 ^ k % 2 ^ 64)) in
    let now = put_here c.args.bits.now.items c.args.place (bit_and n (bit_not w64 (1 * 2 ^ k % 2 ^ 64))) c.requires in
    λ some. had_more (get_or c.args.bits.now.items (c.args.place / 64) 0) (bit_and n (bit_not w64 (1 * 2 ^ k % 2 ^ 64))) (omega (arith, less, read)) (ap (λ m. not (m == 0)) (sym now) ∙ some)
