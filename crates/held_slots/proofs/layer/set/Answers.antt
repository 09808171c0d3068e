use Rattle.std.proofs.Common.{◌≡◌, ◌%◌, ◌/◌, ◌*◌, ◌^◌, ◌==◌, get_or, set, ap, ◌∙◌, arith, w64}
use Rattle.std.specs.Prelude.{bit_or}
use Rattle.std.specs.Int.{bit_at}
use Rattle.std.proofs.lemmas.List.{get_or_default}
use Rattle.std.proofs.lemmas.Nat.Bits.{bit_at_set_same, bit_at_set_other}
use Rattle.held_slots.proofs.Layers.{put_bit, put_others, some_bit}
use Rattle.held_slots.proofs.layer.set.Goals as goal

pub returns-clause-here : goal.returns-clause-here
returns-clause-here c =
    let k = c.args.place % 64 in
    let n = c.index-word.result.now in
    ap (λ b. b == 1) (put_bit c.args.bits.now.items c.args.place (bit_or n (1 * 2 ^ k % 2 ^ 64)) c.requires 1 (bit_at_set_same w64 n k (omega arith)))

pub returns-clause-others : goal.returns-clause-others
returns-clause-others c =
    let k = c.args.place % 64 in
    let n = c.index-word.result.now in
    let read : n ≡ get_or c.args.bits.now.items (c.args.place / 64) 0 = c.index-word.ensures ∙ get_or_default c.args.bits.now.items (c.args.place / 64) n 0 c.requires in
    put_others c.args.bits.now.items c.args.place (bit_or n (1 * 2 ^ k % 2 ^ 64)) c.requires (λ i lt ne. bit_at_set_other w64 n k (omega arith) i ne ∙ ap (λ m. bit_at m i) read)

pub returns-clause-some : goal.returns-clause-some
returns-clause-some c =
    let k = c.args.place % 64 in
    let n = c.index-word.result.now in
    some_bit (get_or (set c.args.bits.now.items (c.args.place / 64) (bit_or n (1 * 2 ^ k % 2 ^ 64))) (c.args.place / 64) 0) k (put_bit c.args.bits.now.items c.args.place (bit_or n (1 * 2 ^ k % 2 ^ 64)) c.requires 1 (bit_at_set_same w64 n k (omega arith)))
