-- The laws of one bit of an assignment.
use Rattle.std.proofs.Common.{◌≡◌, ◌≢◌, ℕ, zero, suc, ◌+◌, ◌-◌, ◌*◌, ◌/◌, ◌%◌, ◌^◌, ◌<◌, ◌≤◌, eqb, ⊎_elim, Bool, true, false, refl, sym, ap, ◌∙◌, arith, subst}
use Rattle.std.specs.Int.{bit_at}
use Rattle.std.proofs.Math.Nat.{mod-lt}
use Rattle.std.proofs.lemmas.Nat.{pow_pos, shr_split}
use Rattle.std.proofs.lemmas.Nat.Bits.{bit_at_lowest, bit_at-suc, bit_at-lt, bit_at_cat_low, bit_at_cat_high, bit_at-zero, bit_at_above, same_from_bits}
use Rattle.std.proofs.lemmas.Bool.{cases_order, cases_eq}
use Rattle.edge_bits.specs.Words.{digit}
use Rattle.edge_bits.specs.Assignments.{bit, set_bit}

-- the bits below v, above v, and v itself, of a number that is put together
at_place : (a v r : ℕ) → r < 2 ^ v → bit_at (a * 2 ^ v + r) v ≡ a % 2
at_place a v r h =
    let none : v - v ≡ 0 = omega arith in
    bit_at_cat_high a v r v h (omega arith) ∙ ap (bit_at a) none ∙ bit_at_lowest a

above : (a v r j : ℕ) → r < 2 ^ v → bit_at (a * 2 ^ v + r) (v + suc j) ≡ bit_at (a / 2) j
above a v r j h =
    let rest : (v + suc j) - v ≡ suc j = omega arith in
    bit_at_cat_high a v r (v + suc j) h (omega arith) ∙ ap (bit_at a) rest ∙ bit_at-suc a j

low_part : (k v : ℕ) → k % 2 ^ v < 2 ^ v
low_part k v = mod-lt k (pow_pos v)

half_of : (q : ℕ) (b : Bool) → (q * 2 + digit b) / 2 ≡ q
half_of q true = omega arith
half_of q false = omega arith

odd_of : (q : ℕ) (b : Bool) → (q * 2 + digit b) % 2 ≡ digit b
odd_of q true = omega arith
odd_of q false = omega arith

-- the bit that was set
pub bit_at-set_same : (k v : ℕ) (b : Bool) → bit_at (set_bit k v b) v ≡ digit b
unfolding set_bit
bit_at-set_same k v b = at_place (k / 2 ^ v / 2 * 2 + digit b) v (k % 2 ^ v) (low_part k v) ∙ odd_of (k / 2 ^ v / 2) b

set_above : (k v j : ℕ) (b : Bool) → bit_at (set_bit k v b) (v + suc j) ≡ bit_at k (v + suc j)
unfolding set_bit
set_above k v j b =
    above (k / 2 ^ v / 2 * 2 + digit b) v (k % 2 ^ v) j (low_part k v)
    ∙ ap (λ x. bit_at x j) (half_of (k / 2 ^ v / 2) b)
    ∙ sym (above (k / 2 ^ v) v (k % 2 ^ v) j (low_part k v))
    ∙ ap (λ x. bit_at x (v + suc j)) (shr_split k v)

set_below : (k v u : ℕ) (b : Bool) → u < v → bit_at (set_bit k v b) u ≡ bit_at k u
unfolding set_bit
set_below k v u b h =
    bit_at_cat_low (k / 2 ^ v / 2 * 2 + digit b) v (k % 2 ^ v) u h
    ∙ sym (bit_at_cat_low (k / 2 ^ v) v (k % 2 ^ v) u h)
    ∙ ap (λ x. bit_at x u) (shr_split k v)

-- another bit
pub bit_at-set_other : (k v u : ℕ) (b : Bool) → u ≢ v → bit_at (set_bit k v b) u ≡ bit_at k u
bit_at-set_other k v u b other =
    ⊎_elim (λ same. absurd (other same))
    (⊎_elim (λ below. set_below k v u b below)
    (λ higher. let e : v + suc (u - v - 1) ≡ u = omega arith in
    subst (λ x. bit_at (set_bit k v b) x ≡ bit_at k x) e (set_above k v (u - v - 1) b)))
    (cases_order u v)

pub bit-set_same : (k v : ℕ) (b : Bool) → bit (set_bit k v b) v ≡ b
bit-set_same k v true = ap (λ x. eqb x 1) (bit_at-set_same k v true)
bit-set_same k v false = ap (λ x. eqb x 1) (bit_at-set_same k v false)

pub bit-set_other : (k v u : ℕ) (b : Bool) → u ≢ v → bit (set_bit k v b) u ≡ bit k u
bit-set_other k v u b other = ap (λ x. eqb x 1) (bit_at-set_other k v u b other)

-- a bit as a number
digit_of : (n : ℕ) → n < 2 → digit (eqb n 1) ≡ n
digit_of zero h = refl
digit_of (suc zero) h = refl
digit_of (suc (suc n)) h = absurd (omega arith)

pub digit-bit : (k v : ℕ) → digit (bit k v) ≡ bit_at k v
digit-bit k v = digit_of (bit_at k v) (bit_at-lt k v)

-- two assignments with the same bits are one
pub same_bits : (j k : ℕ) → ((v : ℕ) → bit j v ≡ bit k v) → j ≡ k
same_bits j k h = same_from_bits j k (λ v. sym (digit-bit j v) ∙ ap digit (h v) ∙ digit-bit k v)

-- what is set to what it is
pub set_bit-own : (k v : ℕ) → set_bit k v (bit k v) ≡ k
set_bit-own k v = same_bits (set_bit k v (bit k v)) k (λ u.
    ⊎_elim (λ same. subst (λ x. bit (set_bit k v (bit k v)) x ≡ bit k x) (sym same) (bit-set_same k v (bit k v)))
    (λ other. bit-set_other k v u (bit k v) other) (cases_eq u v))

-- set twice
pub set_bit-set_same : (k v : ℕ) (a b : Bool) → set_bit (set_bit k v a) v b ≡ set_bit k v b
set_bit-set_same k v a b = same_bits (set_bit (set_bit k v a) v b) (set_bit k v b) (λ u.
    ⊎_elim (λ same. subst (λ x. bit (set_bit (set_bit k v a) v b) x ≡ bit (set_bit k v b) x) (sym same)
    (bit-set_same (set_bit k v a) v b ∙ sym (bit-set_same k v b)))
    (λ other. bit-set_other (set_bit k v a) v u b other ∙ bit-set_other k v u a other ∙ sym (bit-set_other k v u b other)) (cases_eq u v))

-- two variables, in either order
pub set_bit_comm : (k u v : ℕ) (a b : Bool) → u ≢ v → set_bit (set_bit k u a) v b ≡ set_bit (set_bit k v b) u a
set_bit_comm k u v a b apart = same_bits (set_bit (set_bit k u a) v b) (set_bit (set_bit k v b) u a) (λ w.
    ⊎_elim
    (λ at_u. let here : w ≢ v = λ e. apart (sym at_u ∙ e) in
    bit-set_other (set_bit k u a) v w b here
    ∙ subst (λ x. bit (set_bit k u a) x ≡ bit (set_bit (set_bit k v b) u a) x) (sym at_u) (bit-set_same k u a ∙ sym (bit-set_same (set_bit k v b) u a)))
    (λ not_u. ⊎_elim
    (λ at_v. subst (λ x. bit (set_bit (set_bit k u a) v b) x ≡ bit (set_bit k v b) x) (sym at_v) (bit-set_same (set_bit k u a) v b ∙ sym (bit-set_same k v b))
    ∙ sym (bit-set_other (set_bit k v b) u w a not_u))
    (λ not_v. bit-set_other (set_bit k u a) v w b not_v ∙ bit-set_other k u w a not_u
    ∙ sym (bit-set_other k v w b not_v) ∙ sym (bit-set_other (set_bit k v b) u w a not_u)) (cases_eq w v)) (cases_eq w u))

-- a number whose bits from n on are 0 is below 2 ^ n
pub below_from_bits : (n x : ℕ) → ((i : ℕ) → n ≤ i → bit_at x i ≡ 0) → x < 2 ^ n
below_from_bits n x high =
    let none : x / 2 ^ n ≡ 0 = same_from_bits (x / 2 ^ n) 0 (λ i.
    let rest : (n + i) - n ≡ i = omega arith in
    sym (ap (bit_at (x / 2 ^ n)) rest)
    ∙ sym (bit_at_cat_high (x / 2 ^ n) n (x % 2 ^ n) (n + i) (low_part x n) (omega arith))
    ∙ ap (λ y. bit_at y (n + i)) (shr_split x n) ∙ high (n + i) (omega arith) ∙ sym (bit_at-zero i)) in
    let low : x % 2 ^ n ≡ x = omega (arith, ap (λ q. q * 2 ^ n) none, shr_split x n) in
    subst (λ y. y < 2 ^ n) low (low_part x n)

-- it stays an assignment of n variables
pub set_bit-below : (n k v : ℕ) (b : Bool) → k < 2 ^ n → v < n → set_bit k v b < 2 ^ n
set_bit-below n k v b h p = below_from_bits n (set_bit k v b) (λ i from.
    let other : i ≢ v = omega arith in bit_at-set_other k v i b other ∙ bit_at_above k n i h from)
