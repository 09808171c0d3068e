-- The words of a new table, as they are written.
use Rattle.std.proofs.Common.{◌≡◌, ◌⊎◌, inl, inr, ℕ, suc, ◌+◌, ◌-◌, ◌*◌, ◌^◌, ◌<◌, ◌≤◌, Bool, true, false, cond, List, [], ◌∷◌, ◌++◌, length, set, length-set, get_or-set_same, get_or-set_other, Some, None, refl, sym, ap, ◌∙◌, subst, arith}
use Rattle.std.specs.Prelude as std
use Rattle.std.specs.Prelude.{nat_lt, slice_index, map, replicate}
use mathlib.Core.Option.{some}
use Rattle.std.specs.List.{range_with_len}
use Rattle.std.proofs.Math.Nat.{pow-suc}
use Rattle.std.proofs.lemmas.Bool.{cases_lt, cases_eq, lt-ltb, le-ltb}
use Rattle.edge_bits.specs.Words.{unpack_of}
use Rattle.computed_cache.specs.Entries.{kept_at, places as answer_places}
use Rattle.edge_bits.specs.declared.words.Word.{Word}
use Rattle.function_laws.specs.EntryOrders.{opening_orders}
use Rattle.function_laws.specs.SiftedOrders.{place_of}
use Rattle.node_store.specs.Changes.{put_at}
use Rattle.words_rule.specs.declared.cell.Cell.{Cell}
use Rattle.words_rule.specs.declared.view.Opening.{Opening}
use Rattle.words_rule.specs.Views.{sizes_for}
use Rattle.words_rule.specs.Layout.{Shape, Words, area, count_at, entry_at, item_at, level_entry, head_at, head_bits, head_of, heads, next_at, node_at, order_at, places, word_count, words_of}
use Rattle.words_rule.specs.Chains.{Chains}
use Rattle.words_rule.specs.Openings.{AreFree, first_view, opening_on, opening_word, shape_of}
use Rattle.words_rule.specs.Beginnings.{AreFirst, AreLinked, HasNodes, HasOrders, IsEmpty}
use Rattle.words_rule.specs.Rule.{Rule}
use Rattle.words_rule.proofs.Chaining.{put_here, put_else}
use Rattle.words_rule.proofs.FirstChains.{all_on, first_chains, next_chains, on_upto}
use Rattle.words_rule.proofs.Layouts.{here_order, set_head, set_next, set_node}
use Rattle.words_rule.proofs.Opening.{place_of-range, slice-range}
use Rattle.words_rule.proofs.Opens.{starts, word_behind}
use Rattle.free_list.specs.FreeSlots.{FreeSlots}

-- words of an area that are all 0
pub area_zero : (at : ℕ → ℕ) (len : ℕ) (ws : List ℕ) → ((k : ℕ) → k < len → slice_index ws (at k) ≡ 0) → (k : ℕ) → area at len ws k ≡ 0
area_zero at len ws zeros k = elim (cases_lt k len) [
  | inl lt ↦ ap (λ b. cond b (slice_index ws (at k)) 0) (lt-ltb k len lt) ∙ zeros k lt
  | inr le ↦ ap (λ b. cond b (slice_index ws (at k)) 0) (le-ltb k len le)
]

-- the number of heads, one doubling more
doubled : (k slots : ℕ) → nat_lt (2 ^ head_bits k slots * 2) slots ≡ true → 2 ^ head_bits (suc k) slots ≡ 2 ^ head_bits k slots * 2
unfolding head_bits
doubled k slots more = ap (λ (b : Bool). 2 ^ cond b (suc (head_bits k slots)) (head_bits k slots)) more ∙ pow-suc 2 (head_bits k slots)

not_doubled : (k slots : ℕ) → nat_lt (2 ^ head_bits k slots * 2) slots ≡ false → 2 ^ head_bits (suc k) slots ≡ 2 ^ head_bits k slots
unfolding head_bits
not_doubled k slots enough = ap (λ (b : Bool). 2 ^ cond b (suc (head_bits k slots)) (head_bits k slots)) enough

pub first_heads : (slots : ℕ) → 64 ≡ 2 ^ head_bits 0 slots
unfolding head_bits
first_heads slots = refl

pub doubling : (k slots count : ℕ) → count ≡ 2 ^ head_bits k slots → count * 2 < slots → count * 2 ≡ 2 ^ head_bits (k + 1) slots
doubling k slots count is less = let lt : 2 ^ head_bits k slots * 2 < slots = omega (arith, is, less) in
    ap (λ (n : ℕ). n * 2) is ∙ sym (doubled k slots (lt-ltb (2 ^ head_bits k slots * 2) slots lt)) ∙ ap (λ (j : ℕ). 2 ^ head_bits j slots) (let e : suc k ≡ k + 1 = omega arith in e)

pub not_doubling : (k slots count : ℕ) → count ≡ 2 ^ head_bits k slots → slots ≤ count * 2 → count ≡ 2 ^ head_bits (k + 1) slots
not_doubling k slots count is enough = let le : slots ≤ 2 ^ head_bits k slots * 2 = omega (arith, is, enough) in
    is ∙ sym (not_doubled k slots (le-ltb (2 ^ head_bits k slots * 2) slots le)) ∙ ap (λ (j : ℕ). 2 ^ head_bits j slots) (let e : suc k ≡ k + 1 = omega arith in e)

-- one number more is written
pub number_more : (old ws : List ℕ) (first n count : ℕ) → first + count ≤ length old → n < count → length ws ≡ length old → ((k : ℕ) → k < n → slice_index ws (first + k) ≡ k)
    → ((i : ℕ) → (i < first) ⊎ (first + n ≤ i) → slice_index ws i ≡ slice_index old i)
    → ((k : ℕ) → k < n + 1 → slice_index (set ws (first + n) n) (first + k) ≡ k) × ((i : ℕ) → (i < first) ⊎ (first + (n + 1) ≤ i) → slice_index (set ws (first + n) n) i ≡ slice_index old i)
number_more old ws first n count within less long before others = (
  λ k lt. elim (cases_eq k n) [
    | inl e ↦ ap (λ (j : ℕ). slice_index (set ws (first + n) n) (first + j)) e ∙ get_or-set_same ws (first + n) n 0 (omega (arith, within, less, long)) ∙ sym e
    | inr ne ↦ get_or-set_other ws (first + n) (first + k) n 0 (λ e. ne (omega (arith, e))) ∙ before k (omega (arith, lt, ne))
  ],
  λ i off. elim off [
    | inl low ↦ get_or-set_other ws (first + n) i n 0 (λ e. omega (arith, e, low)) ∙ others i (inl low)
    | inr high ↦ get_or-set_other ws (first + n) i n 0 (λ e. omega (arith, e, high)) ∙ others i (inr (omega (arith, high)))
  ],
)

module _ (z : Shape) where
  -- what stands at a position of the orders of a new table, and which level
  entry_low : (p : ℕ) → p < z.variables → entry_at z (opening_orders (sizes_for z.variables z.elements)) p ≡ p
  entry_low p lt = ap (λ b. cond b (item_at z (opening_orders (sizes_for z.variables z.elements)) p) (level_entry z (opening_orders (sizes_for z.variables z.elements)) (p - places z))) (lt-ltb p (places z) (omega (arith, lt)))
      ∙ ap (λ b. cond b (slice_index (range_with_len 0 z.variables) p) (slice_index (range_with_len 0 z.elements) (p - z.variables))) (lt-ltb p z.variables lt) ∙ slice-range z.variables p lt

  entry_second : (p : ℕ) → z.variables ≤ p → p < places z → entry_at z (opening_orders (sizes_for z.variables z.elements)) p ≡ p - z.variables
  entry_second p le lt = ap (λ b. cond b (item_at z (opening_orders (sizes_for z.variables z.elements)) p) (level_entry z (opening_orders (sizes_for z.variables z.elements)) (p - places z))) (lt-ltb p (places z) lt)
      ∙ ap (λ b. cond b (slice_index (range_with_len 0 z.variables) p) (slice_index (range_with_len 0 z.elements) (p - z.variables))) (le-ltb p z.variables le) ∙ slice-range z.elements (p - z.variables) (omega (arith, le, lt))

  entry_third : (p : ℕ) → places z ≤ p → p - places z < z.variables → entry_at z (opening_orders (sizes_for z.variables z.elements)) p ≡ p - places z
  entry_third p le lt = ap (λ b. cond b (item_at z (opening_orders (sizes_for z.variables z.elements)) p) (level_entry z (opening_orders (sizes_for z.variables z.elements)) (p - places z))) (le-ltb p (places z) le)
      ∙ ap (λ b. cond b (place_of (p - places z) (range_with_len 0 z.variables)) (place_of (p - places z - z.variables) (range_with_len 0 z.elements))) (lt-ltb (p - places z) z.variables lt) ∙ place_of-range z.variables (p - places z) lt

  entry_fourth : (p : ℕ) → places z + z.variables ≤ p → p < places z + places z → entry_at z (opening_orders (sizes_for z.variables z.elements)) p ≡ p - places z - z.variables
  entry_fourth p le lt = ap (λ b. cond b (item_at z (opening_orders (sizes_for z.variables z.elements)) p) (level_entry z (opening_orders (sizes_for z.variables z.elements)) (p - places z))) (le-ltb p (places z) (omega (arith, le)))
      ∙ ap (λ b. cond b (place_of (p - places z) (range_with_len 0 z.variables)) (place_of (p - places z - z.variables) (range_with_len 0 z.elements))) (le-ltb (p - places z) z.variables (omega (arith, le))) ∙ place_of-range z.elements (p - places z - z.variables) (omega (arith, le, lt))

  -- the numbers are written four times, the variables' and the elements' places, and their levels
  pub numbered : (a b c d e : List ℕ) (first : ℕ) → first ≡ 7 + places z → ((i : ℕ) → slice_index a i ≡ 0)
      → ((k : ℕ) → k < z.variables → slice_index b (first + k) ≡ k) → ((i : ℕ) → (i < first) ⊎ (first + z.variables ≤ i) → slice_index b i ≡ slice_index a i)
      → ((k : ℕ) → k < z.elements → slice_index c (first + z.variables + k) ≡ k) → ((i : ℕ) → (i < first + z.variables) ⊎ (first + z.variables + z.elements ≤ i) → slice_index c i ≡ slice_index b i)
      → ((k : ℕ) → k < z.variables → slice_index d (first + z.variables + z.elements + k) ≡ k)
      → ((i : ℕ) → (i < first + z.variables + z.elements) ⊎ (first + z.variables + z.elements + z.variables ≤ i) → slice_index d i ≡ slice_index c i)
      → ((k : ℕ) → k < z.elements → slice_index e (first + z.variables + z.elements + z.variables + k) ≡ k)
      → ((i : ℕ) → (i < first + z.variables + z.elements + z.variables) ⊎ (first + z.variables + z.elements + z.variables + z.elements ≤ i) → slice_index e i ≡ slice_index d i)
      → HasOrders z e × IsEmpty z e
  numbered a b c d e first is empty in_b off_b in_c off_c in_d off_d in_e off_e = (
    λ p lt. elim (cases_lt p z.variables) [
      | inl low ↦ off_e (order_at z p) (inl (omega (arith, is, low))) ∙ off_d (order_at z p) (inl (omega (arith, is, low))) ∙ off_c (order_at z p) (inl (omega (arith, is, low)))
          ∙ subst (λ (i : ℕ). slice_index b i ≡ p) (omega (arith, is)) (in_b p low) ∙ sym (entry_low p low)
      | inr le ↦ elim (cases_lt p (places z)) [
        | inl below ↦ off_e (order_at z p) (inl (omega (arith, is, below))) ∙ off_d (order_at z p) (inl (omega (arith, is, below)))
            ∙ subst (λ (i : ℕ). slice_index c i ≡ p - z.variables) (omega (arith, is, le)) (in_c (p - z.variables) (omega (arith, le, below))) ∙ sym (entry_second p le below)
        | inr above ↦ elim (cases_lt (p - places z) z.variables) [
          | inl third ↦ off_e (order_at z p) (inl (omega (arith, is, above, third))) ∙ subst (λ (i : ℕ). slice_index d i ≡ p - places z) (omega (arith, is, above)) (in_d (p - places z) third) ∙ sym (entry_third p above third)
          | inr last ↦ subst (λ (i : ℕ). slice_index e i ≡ p - places z - z.variables) (omega (arith, is, above, last)) (in_e (p - places z - z.variables) (omega (arith, above, last, lt)))
              ∙ sym (entry_fourth p (omega (arith, above, last)) lt)
        ]
      ]
    ],
    λ i off. elim off [
      | inl low ↦ off_e i (inl (omega (arith, is, low))) ∙ off_d i (inl (omega (arith, is, low))) ∙ off_c i (inl (omega (arith, is, low))) ∙ off_b i (inl (omega (arith, is, low))) ∙ empty i
      | inr high ↦ off_e i (inr (omega (arith, is, high))) ∙ off_d i (inr (omega (arith, is, high))) ∙ off_c i (inr (omega (arith, is, high))) ∙ off_b i (inr (omega (arith, is, high))) ∙ empty i
    ],
  )

  -- so many words of slots are written
  pub record AreWritten (old ws : List ℕ) (n : ℕ) : Type 0 where
    pub rest : words_of z ws ≡ record (words_of z old) { node = (words_of z ws).node }
    pub before : (s : ℕ) → s < n → unpack_of ((words_of z ws).node s) ≡ opening_word z.variables s
    pub behind : (s : ℕ) → n ≤ s → (words_of z ws).node s ≡ 0
    pub fits : (s : ℕ) → (words_of z ws).node s < 18446744073709551616

  pub none_written : (ws : List ℕ) → ((s : ℕ) → (words_of z ws).node s ≡ 0) → AreWritten ws ws 0
  none_written ws zeros = record {
    rest = refl;
    before = λ s lt. absurd (omega (arith, lt));
    behind = λ s le. zeros s;
    fits = λ s. let e = zeros s in omega (arith, e);
  }

  pub written_more : (old ws : List ℕ) (n bits : ℕ) (word : Word) → n < z.slots → length ws ≡ word_count z → unpack_of bits ≡ Some word → opening_word z.variables n ≡ Some word → bits < 18446744073709551616 → AreWritten old ws n
      → AreWritten old (set ws (node_at z n) bits) (n + 1)
  written_more old ws n bits word lt long reads is small w =
      let e = set_node z ws bits n lt long in
      let node : (words_of z (set ws (node_at z n) bits)).node ≡ put_at (words_of z ws).node n bits = ap (λ (x : Words). x.node) e in
      let at : (s : ℕ) → (words_of z (set ws (node_at z n) bits)).node s ≡ put_at (words_of z ws).node n bits s = λ s. ap (λ (f : ℕ → ℕ). f s) node in record {
        rest = e ∙ ap (λ (x : Words). record x { node = put_at (words_of z ws).node n bits }) w.rest ∙ ap (λ (f : ℕ → ℕ). record (words_of z old) { node = f }) (sym node);
        before = λ s less. ap unpack_of (at s) ∙ elim (cases_eq s n) [
          | inl same ↦ ap (λ (k : ℕ). unpack_of (put_at (words_of z ws).node n bits k)) same ∙ ap unpack_of (put_here (words_of z ws).node n bits) ∙ reads ∙ sym is ∙ ap (opening_word z.variables) (sym same)
          | inr ne ↦ ap unpack_of (put_else (words_of z ws).node n s bits ne) ∙ w.before s (omega (arith, less, ne))
        ];
        behind = λ s le. at s ∙ put_else (words_of z ws).node n s bits (λ same. omega (arith, le, same)) ∙ w.behind s (omega (arith, le));
        fits = λ s. subst (λ (x : ℕ). x < 18446744073709551616) (sym (at s)) (elim (cases_eq s n) [
          | inl same ↦ subst (λ (x : ℕ). x < 18446744073709551616) (sym (ap (put_at (words_of z ws).node n bits) same ∙ put_here (words_of z ws).node n bits)) small
          | inr ne ↦ subst (λ (x : ℕ). x < 18446744073709551616) (sym (put_else (words_of z ws).node n s bits ne)) (w.fits s)
        ]);
      }

  pub all_written : (old ws : List ℕ) → AreWritten old ws (5 + z.variables) → HasNodes z old ws
  all_written old ws w = record {
    rest = w.rest;
    node = λ s. elim (cases_lt s (5 + z.variables)) [
      | inl lt ↦ w.before s lt
      | inr le ↦ ap unpack_of (w.behind s le) ∙ sym (word_behind z.variables s le)
    ];
    fits = w.fits;
    behind = w.behind;
  }

  -- the slots from 3 on are put on chains
  pub none_linked : (ws : List ℕ) → ((h : ℕ) → (words_of z ws).head h ≡ 0) → AreLinked z ws ws (on_upto 0)
  none_linked ws zeros = record { rest = refl; chain = λ h. []; chains = first_chains z (words_of z ws).node (words_of z ws).head (words_of z ws).next (λ h lt. zeros h) }

  linked_more : (old ws : List ℕ) (k : ℕ) → 3 + k < z.slots → length ws ≡ word_count z → head_of z ((words_of z ws).node (3 + k)) < heads z → AreLinked z old ws (on_upto k)
      → AreLinked z old (set (set ws (next_at z (3 + k)) ((words_of z ws).head (head_of z ((words_of z ws).node (3 + k))))) (head_at z (head_of z ((words_of z ws).node (3 + k)))) (suc (3 + k))) (on_upto (suc k))
  linked_more old ws k lt long within a =
      let w = words_of z ws in
      let at : ℕ = head_of z (w.node (3 + k)) in
      let link : ℕ = w.head at in
      let one = set ws (next_at z (3 + k)) link in
      let two = set one (head_at z at) (suc (3 + k)) in
      let first : words_of z one ≡ record w { next = put_at w.next (3 + k) link } = set_next z ws link (3 + k) lt long in
      let second : words_of z two ≡ record (words_of z one) { head = put_at (words_of z one).head at (suc (3 + k)) } = set_head z one (suc (3 + k)) at within (length-set ws (next_at z (3 + k)) link ∙ long) in
      let both : words_of z two ≡ record w { next = put_at w.next (3 + k) link; head = put_at w.head at (suc (3 + k)) } = second ∙ ap (λ (x : Words). record x { head = put_at x.head at (suc (3 + k)) }) first in
      record {
        rest = both ∙ ap (λ (x : Words). record x { next = put_at w.next (3 + k) link; head = put_at w.head at (suc (3 + k)) }) a.rest
            ∙ ap (λ (y : (ℕ → ℕ) × (ℕ → ℕ)). record (words_of z old) { next = y.0; head = y.1 }) (λ i. (ap (λ (x : Words). x.next) (sym both) i, ap (λ (x : Words). x.head) (sym both) i));
        chain = put_at a.chain at ((3 + k) ∷ a.chain at);
        chains = subst (λ (x : Words). Chains (heads z) x.head x.next (head_of z) x.node (on_upto (suc k)) (put_at a.chain at ((3 + k) ∷ a.chain at))) (sym both) (next_chains z w.node k w.head w.next a.chain a.chains);
      }

  pub link_more : (old ws : List ℕ) (s bits at link up : ℕ) → 3 ≤ s → s < z.slots → length ws ≡ word_count z → bits ≡ (words_of z ws).node s → at ≡ head_of z bits → at < heads z → link ≡ (words_of z ws).head at → up ≡ s + 1 → AreLinked z old ws (on_upto (s - 3))
      → AreLinked z old (set (set ws (next_at z s) link) (head_at z at) up) (on_upto (s + 1 - 3))
  link_more old ws s bits at link up le lt long is_bits is_at within is_link is_up a =
      let here : at ≡ head_of z ((words_of z ws).node s) = is_at ∙ ap (head_of z) is_bits in
      let same : 3 + (s - 3) ≡ s = omega (arith, le) in
      let last : suc (s - 3) ≡ s + 1 - 3 = omega (arith, le) in
      let place : head_of z ((words_of z ws).node (3 + (s - 3))) ≡ at = ap (λ (x : ℕ). head_of z ((words_of z ws).node x)) same ∙ sym here in
      let more = linked_more old ws (s - 3) (omega (arith, le, lt)) long (subst (λ (x : ℕ). x < heads z) (sym place) within) a in
      subst (λ (y : ℕ × ℕ × ℕ × ℕ × ℕ). AreLinked z old (set (set ws (next_at z y.0) y.2) (head_at z y.1) y.3) (on_upto y.4))
      (λ i. (same i, place i, (ap (words_of z ws).head place ∙ sym is_link) i, (ap suc same ∙ (let e : suc s ≡ up = omega (arith, is_up) in e)) i, last i)) more

  pub all_linked : (old ws : List ℕ) (n : ℕ) → n ≡ 5 + z.variables → AreLinked z old ws (on_upto (n - 3)) → AreLinked z old ws (opening_on z.variables)
  all_linked old ws n is a = subst (AreLinked z old ws) (ap on_upto (let e : n - 3 ≡ 2 + z.variables = omega (arith, is) in e) ∙ all_on z.variables) a

  -- all kinds of words together
  pub are_first : (ws nodes linked : List ℕ) → HasOrders z ws → IsEmpty z ws → HasNodes z ws nodes → AreLinked z nodes linked (opening_on z.variables) → AreFirst z (words_of z linked)
  are_first ws nodes linked orders empty written a =
      let rest : words_of z linked ≡ record (words_of z ws) { node = (words_of z nodes).node; next = (words_of z linked).next; head = (words_of z linked).head } =
      a.rest ∙ ap (λ (x : Words). record x { next = (words_of z linked).next; head = (words_of z linked).head }) written.rest in
      let node : (words_of z linked).node ≡ (words_of z nodes).node = ap (λ (x : Words). x.node) rest in
      let node_is : (s : ℕ) → (words_of z linked).node s ≡ (words_of z nodes).node s = λ s. ap (λ (f : ℕ → ℕ). f s) node in record {
        journal = ap (λ (x : Words). x.journal) rest ∙ empty 0 (inl (omega arith));
        phase = ap (λ (x : Words). x.phase) rest ∙ empty 1 (inl (omega arith));
        order = λ p lt. ap (λ (x : Words). x.order p) rest ∙ here_order z ws 0 p lt ∙ orders p lt;
        node = λ s. ap unpack_of (node_is s) ∙ written.node s;
        fits = λ s. subst (λ (x : ℕ). x < 18446744073709551616) (sym (node_is s)) (written.fits s);
        behind = λ s le. node_is s ∙ written.behind s le;
        count = λ k. ap (λ (x : Words). x.count k) rest ∙ area_zero (count_at z) z.slots ws (λ j lt. empty (count_at z j) (inr (omega arith))) k;
        chain = a.chain;
        chains = a.chains;
      }

  pub nodes_empty : (ws : List ℕ) → IsEmpty z ws → (s : ℕ) → (words_of z ws).node s ≡ 0
  nodes_empty ws empty = area_zero (node_at z) z.slots ws (λ k lt. empty (node_at z k) (inr (omega arith)))

  pub heads_empty : (ws nodes : List ℕ) → IsEmpty z ws → HasNodes z ws nodes → (h : ℕ) → (words_of z nodes).head h ≡ 0
  heads_empty ws nodes empty written h = ap (λ (x : Words). x.head h) written.rest ∙ area_zero (head_at z) (heads z) ws (λ k lt. empty (head_at z k) (inr (omega arith))) h

module _ {S : Type 0} (board : S → List (std.Option Cell)) (free_slots : S → FreeSlots) (memo : S → List ℕ) where
  -- with an empty board and a list of the free slots it is a table under the rule
  pub begins : (key : Opening) (ws : List ℕ) (at_board at_free at_memo : S) → key.vars ≤ 16384 → key.elements ≤ 16384 → key.slots ≤ 8388607 → 5 + key.vars ≤ key.slots → length ws ≡ word_count (shape_of key) → AreFirst (shape_of key) (words_of (shape_of key) ws)
      → board at_board ≡ replicate 256 None → AreFree (shape_of key) (free_slots at_free).slots → (free_slots at_free).room ≡ key.slots → 0 < answer_places (memo at_memo) → ((i : ℕ) → kept_at (memo at_memo) i ≡ None)
      → Rule board free_slots memo (record { words = ws; homes = map some (Some at_board ∷ Some at_free ∷ Some at_memo ∷ []); views = first_view key ∷ [] })
  begins key ws at_board at_free at_memo vars elements slots room long first empty free roomy some_places blank = starts board free_slots memo key ws (map some (Some at_board ∷ Some at_free ∷ Some at_memo ∷ [])) long refl (record {
    few = vars;
    few_elements = elements;
    room = room;
    few_slots = omega (arith, slots);
    journal = first.journal;
    phase = first.phase;
    order = first.order;
    node = first.node;
    fits = first.fits;
    behind = first.behind;
    count = first.count;
    at_board = at_board;
    board_home = refl;
    empty_cells = empty;
    at_free = at_free;
    free_home = refl;
    free = free;
    roomy = roomy;
    at_memo = at_memo;
    memo_home = refl;
    some_places = some_places;
    blank = blank;
    chain = first.chain;
    chains = first.chains;
  })

-- three are pushed onto an empty list
pub three_pushed : {A : Type 0} (a b c d : List A) (x y z : A) → a ≡ [] → b ≡ a ++ x ∷ [] → c ≡ b ++ y ∷ [] → d ≡ c ++ z ∷ [] → d ≡ x ∷ y ∷ z ∷ []
three_pushed a b c d x y z none_there one two three = three ∙ ap (λ l. l ++ z ∷ []) (two ∙ ap (λ l. l ++ y ∷ []) (one ∙ ap (λ l. l ++ x ∷ []) none_there))
