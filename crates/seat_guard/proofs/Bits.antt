-- Bits 32 and 33 of a word of at most 34 bits, set, cleared and turned.
use Rattle.std.proofs.Common.{◌≡◌, ◌≢◌, ℕ, zero, suc, ◌+◌, ◌-◌, ◌*◌, ◌/◌, ◌%◌, ◌^◌, ◌<◌, refl, ap, ◌∙◌, arith}
use Rattle.std.proofs.lemmas.Nat.{or_block, and_block, and_mask}
use Rattle.std.proofs.Math.Nat.{mod-eq_of_lt}
use Rattle.std.specs.Int.Bits.{bit_or, bit_and, bit_xor, and_zero_r, or_zero_r, xor_add_and}

high_or : (a : ℕ) → a < 4 → bit_or a 1 ≡ a + 1 - a % 2
high_or zero l = refl
high_or (suc zero) l = refl
high_or (suc (suc zero)) l = refl
high_or (suc (suc (suc zero))) l = refl
high_or (suc (suc (suc (suc a)))) l = absurd (omega (arith, l))

high_and : (a : ℕ) → a < 4 → bit_and a 4294967294 ≡ a - a % 2
high_and zero l = refl
high_and (suc zero) l = refl
high_and (suc (suc zero)) l = refl
high_and (suc (suc (suc zero))) l = refl
high_and (suc (suc (suc (suc a)))) l = absurd (omega (arith, l))

or_parts : (n a r : ℕ) → n ≡ a * 2 ^ 32 + r → a < 4 → r < 2 ^ 32 → bit_or n 4294967296 ≡ (a + 1 - a % 2) * 4294967296 + r
or_parts n a r parts small low = ap (λ (k : ℕ). bit_or k 4294967296) parts ∙ (or_block 32 a 1 r 0 low (omega arith) ∙ (λ i. high_or a small i * 4294967296 + or_zero_r r i))

and_parts : (n a r : ℕ) → n ≡ a * 2 ^ 32 + r → a < 4 → r < 2 ^ 32 → bit_and n 18446744069414584319 ≡ (a - a % 2) * 4294967296 + r
and_parts n a r parts small low = ap (λ (k : ℕ). bit_and k 18446744069414584319) parts ∙ (and_block 32 a 4294967294 r 4294967295 low (omega arith) ∙ (λ i. high_and a small i * 4294967296 + (and_mask r 32 ∙ mod-eq_of_lt low) i))

pub or_clear : (n : ℕ) → n < 17179869184 → n / 4294967296 % 2 ≡ 0 → bit_or n 4294967296 ≡ n + 4294967296
or_clear n l clear = let e = or_parts n (n / 4294967296) (n % 4294967296) (omega arith) (omega (arith, l)) (omega arith) in omega (arith, e, clear)

pub or_set : (n : ℕ) → n < 17179869184 → n / 4294967296 % 2 ≢ 0 → bit_or n 4294967296 ≡ n
or_set n l is = let e = or_parts n (n / 4294967296) (n % 4294967296) (omega arith) (omega (arith, l)) (omega arith) in omega (arith, e, is)

pub and_set : (n : ℕ) → n < 17179869184 → n / 4294967296 % 2 ≡ 1 → bit_and n 18446744069414584319 ≡ n - 4294967296
and_set n l is = let e = and_parts n (n / 4294967296) (n % 4294967296) (omega arith) (omega (arith, l)) (omega arith) in omega (arith, e, is)

second_and : (a : ℕ) → a < 4 → bit_and a 2 ≡ a / 2 * 2
second_and zero l = refl
second_and (suc zero) l = refl
second_and (suc (suc zero)) l = refl
second_and (suc (suc (suc zero))) l = refl
second_and (suc (suc (suc (suc a)))) l = absurd (omega (arith, l))

low_and : (n : ℕ) → n < 17179869184 → bit_and n 8589934592 ≡ n / 8589934592 % 2 * 8589934592
low_and n l =
    let r : ℕ = n % 4294967296 in
    let a : ℕ = n / 4294967296 in
    let parts : n ≡ a * 2 ^ 32 + r = omega arith in
    let e : bit_and n 8589934592 ≡ bit_and a 2 * 4294967296 + bit_and r 0 = ap (λ (k : ℕ). bit_and k 8589934592) parts ∙ and_block 32 a 2 r 0 (omega arith) (omega arith) in
    let h = second_and a (omega (arith, l)) in
    let z : bit_and r 0 ≡ 0 = and_zero_r r in
    omega (arith, e, h, z)

pub xor_clear : (n : ℕ) → n < 17179869184 → n / 8589934592 % 2 ≡ 0 → bit_xor n 8589934592 ≡ n + 8589934592
xor_clear n l clear = let s = xor_add_and n 8589934592 in let e = low_and n l in omega (arith, s, e, clear)

pub xor_set : (n : ℕ) → n < 17179869184 → n / 8589934592 % 2 ≡ 1 → bit_xor n 8589934592 ≡ n - 8589934592
xor_set n l is = let s = xor_add_and n 8589934592 in let e = low_and n l in omega (arith, s, e, is)
