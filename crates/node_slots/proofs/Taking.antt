-- The free slots, where one is taken.
use Rattle.std.proofs.Common.{◌≡◌, ◌≢◌, Bool, ℕ, ◌+◌, ◌<◌, ◌≤◌, inl, inr, false, cond, ◌^◌, List, [], ◌∷◌, ◌++◌, length, get_or, set, Some, None, refl, ap, sym, ◌∙◌, subst, arith}
use Rattle.std.specs.List.{count_by}
use Rattle.std.proofs.lemmas.Bool.{cases_eq, cases_lt}
use Rattle.std.proofs.lemmas.List.{length-set, length_push, get_or_append_left, get_or_push, get_or-set_same, get_or-set_other}
use Rattle.std.proofs.lemmas.List.Sums.{sum_by-set, count_by-le-length}
use Rattle.edge_bits.specs.declared.words.Word.{Word}
use Rattle.edge_bits.specs.Words.{pack_of, unpack_of}
use Rattle.edge_bits.specs.Reading.{slots_of}
use Rattle.held_slots.specs.Arcs.{Arcs, IsChange, IsOf}
use Rattle.level_table.specs.Slotted.{Slotted}
use Rattle.node_store.specs.Contents.{is_node_of as is_node_in, is_used}
use Rattle.node_slots.specs.Stores.{is_word, permanent_word}
use Rattle.node_slots.proofs.Counting.{count_prefix}
use Rattle.node_slots.specs.Taking.{ArePacked, AreCounted, is_node_of, nodes_of, AreFree, IsFreeOrPacked, IsNodeTable}

-- bits of a word are not 0
pub word_some : (bits : ℕ) (word : Word) → unpack_of bits ≡ Some word → 0 < bits
word_some bits word reads = elim (cases_eq bits 0) [
  | inl zero ↦ absurd (let e : None ≡ Some word = sym (ap unpack_of zero) ∙ reads in cc)
  | inr ne ↦ omega arith
]

-- how many words pass a test, where one is written
count_changed : (p : ℕ → Bool) (words : List ℕ) (s bits : ℕ) → s < length words → count_by p (set words s bits) + cond (p (get_or words s 0)) 1 0 ≡ count_by p words + cond (p bits) 1 0
count_changed p words s bits within = sum_by-set (λ w. cond (p w) 1 0) words s bits 0 within

-- one slot more is in use
pub count_put : (words : List ℕ) (s bits : ℕ) (word : Word) → s < length words → get_or words s 0 ≡ 0 → unpack_of bits ≡ Some word → count_by is_word (set words s bits) ≡ count_by is_word words + 1
count_put words s bits word within zero reads =
    let one : ℕ = 1 in let none : ℕ = 0 in
    let was : cond (is_word (get_or words s 0)) 1 0 ≡ none = ap (λ w. cond (is_word w) 1 none) zero in
    let now : cond (is_word bits) 1 0 ≡ one = ap (λ o. cond (is_used o) one 0) reads in
    omega (arith, count_changed is_word words s bits within, was, now)

-- one less
pub count_erased : (words : List ℕ) (s : ℕ) (word : Word) → s < length words → slots_of words s ≡ Some word → count_by is_word (set words s 0) + 1 ≡ count_by is_word words
count_erased words s word within reads =
    let one : ℕ = 1 in
    let was : cond (is_word (get_or words s 0)) 1 0 ≡ one = ap (λ o. cond (is_used o) one 0) reads in
    omega (arith, count_changed is_word words s 0 within, was)

-- the nodes of the variables, where a word is put and where one is erased
pub nodes_put : (words : List ℕ) (s bits : ℕ) (word : Word) → s < length words → get_or words s 0 ≡ 0 → unpack_of bits ≡ Some word → (v : ℕ) → nodes_of (set words s bits) v ≡ nodes_of words v + cond (is_node_in v (Some word)) 1 0
nodes_put words s bits word within zero reads v =
    let none : ℕ = 0 in
    let was : cond (is_node_of v (get_or words s 0)) 1 0 ≡ none = ap (λ w. cond (is_node_of v w) 1 none) zero in
    let now : cond (is_node_of v bits) 1 0 ≡ cond (is_node_in v (Some word)) 1 none = ap (λ o. cond (is_node_in v o) 1 none) reads in
    omega (arith, count_changed (is_node_of v) words s bits within, was, now)

pub nodes_erased : (words : List ℕ) (s : ℕ) (word : Word) → s < length words → slots_of words s ≡ Some word → (v : ℕ) → nodes_of (set words s 0) v + cond (is_node_in v (Some word)) 1 0 ≡ nodes_of words v
nodes_erased words s word within reads v =
    let none : ℕ = 0 in
    let was : cond (is_node_of v (get_or words s 0)) 1 0 ≡ cond (is_node_in v (Some word)) 1 none = ap (λ o. cond (is_node_in v o) 1 none) reads in
    omega (arith, count_changed (is_node_of v) words s 0 within, was)

pub counted_put : (words counts counts' : List ℕ) (s bits : ℕ) (word : Word) → s < length words → get_or words s 0 ≡ 0 → unpack_of bits ≡ Some word → AreCounted words counts
    → length counts' ≡ length counts → ((v : ℕ) → get_or counts' v 0 ≡ get_or counts v 0 + cond (is_node_in v (Some word)) 1 0) → AreCounted (set words s bits) counts'
counted_put words counts counts' s bits word within zero reads old all each = record {
  all = all ∙ old.all;
  each = λ v. each v ∙ ap (λ n. n + cond (is_node_in v (Some word)) 1 0) (old.each v) ∙ sym (nodes_put words s bits word within zero reads v);
}

pub counted_erased : (words counts counts' : List ℕ) (s : ℕ) (word : Word) → s < length words → slots_of words s ≡ Some word → AreCounted words counts
    → length counts' ≡ length counts → ((v : ℕ) → get_or counts' v 0 + cond (is_node_in v (Some word)) 1 0 ≡ get_or counts v 0) → AreCounted (set words s 0) counts'
counted_erased words counts counts' s word within reads old all each = record {
  all = all ∙ old.all;
  each = λ v. omega (arith, each v, old.each v, nodes_erased words s word within reads v);
}

-- no slot has a word, and no variable a node
pub counted_none : (words counts : List ℕ) → ((s : ℕ) → get_or words s 0 ≡ 0) → length counts ≡ 2 ^ 15 → ((v : ℕ) → get_or counts v 0 ≡ 0) → AreCounted words counts
counted_none words counts free all none = record {
  all = all;
  each = λ v. none v ∙ sym (count_prefix (is_node_of v) words 0 (omega arith) (λ t lt. absurd (omega arith)) (λ t le. ap (is_node_of v) (free t)));
}

-- there are few nodes of a variable
pub few_nodes : (words counts : List ℕ) → length words < 2 ^ 23 → AreCounted words counts → (v : ℕ) → get_or counts v 0 < 2 ^ 23
few_nodes words counts few counted v = omega (arith, counted.each v, count_by-le-length (is_node_of v) words)

-- a word that is put where none stood
pub packed_put : (words : List ℕ) (s bits : ℕ) (word : Word) → s < length words → bits ≡ pack_of word → unpack_of bits ≡ Some word → ArePacked words → ArePacked (set words s bits)
packed_put words s bits word within is reads packed t = elim (cases_eq t s) [
  | inl same ↦ subst IsFreeOrPacked (sym (ap (λ i. get_or (set words s bits) i 0) same ∙ get_or-set_same words s bits 0 within)) (inr (word, is, reads))
  | inr ne ↦ subst IsFreeOrPacked (sym (get_or-set_other words s t bits 0 ne)) (packed t)
]

-- no slot was freed, and those that were taken have words
pub free_opening : (words : List ℕ) (taken : ℕ) → taken ≤ length words → ((s : ℕ) → s < taken → slots_of words s ≡ Some (permanent_word s)) → ((s : ℕ) → taken ≤ s → get_or words s 0 ≡ 0) → AreFree words taken []
free_opening words taken within permanent free = record {
  within = within;
  beyond = free;
  freed_are = λ i lt. absurd (omega arith);
  once = λ i j lt below. absurd (omega arith);
  all = λ s lt zero. absurd (let e : None ≡ Some (permanent_word s) = sym (ap unpack_of zero) ∙ permanent s lt in cc);
}

-- a table with the words of the permanent slots alone
-- a slot's word changes, where the arcs are those of the words
pub arc_change : (arcs : Arcs) (words : List ℕ) (slot was : ℕ) → slot < length words → get_or words slot 0 ≡ was → length words < 2 ^ 23 → IsOf arcs words → IsChange arcs words slot was
arc_change arcs words slot was within is few are = record { within = within; word = is; few = few; known = are }

unknown_are : (arcs : Arcs) (words : List ℕ) → arcs.known ≡ false → IsOf arcs words
unknown_are arcs words unknown = λ known. cc

pub table_opening : (table : Slotted) (n capacity : ℕ) → n ≤ length table.words → length table.words < 2 ^ 23 → length table.words ≤ capacity → table.taken ≡ n
    → ((s : ℕ) → s < n → slots_of table.words s ≡ Some (permanent_word s)) → ((s : ℕ) → n ≤ s → get_or table.words s 0 ≡ 0) → ArePacked table.words → (counts : List ℕ) → AreCounted table.words counts
    → (arcs : Arcs) → arcs.slots ≡ length table.words → arcs.known ≡ false → IsNodeTable table [] capacity n counts arcs
table_opening table n capacity within few room taken permanent free packed counts nodes arcs fit unknown = record {
  packed = packed;
  free = subst (λ k. AreFree table.words k []) (sym taken) (free_opening table.words n within permanent free);
  few = few;
  room = room;
  counted = sym (count_prefix is_word table.words n within (λ t lt. ap is_used (permanent t lt)) (λ t le. ap is_word (free t le)));
  as_many = (let none : length {A = ℕ} [] ≡ 0 = refl in omega arith);
  nodes = nodes;
  arcs_fit = fit;
  arcs_are = unknown_are arcs table.words unknown;
}

-- a word is erased
pub packed_erased : (words : List ℕ) (s : ℕ) → s < length words → ArePacked words → ArePacked (set words s 0)
packed_erased words s within packed t = elim (cases_eq t s) [
  | inl same ↦ subst IsFreeOrPacked (sym (ap (λ i. get_or (set words s 0) i 0) same ∙ get_or-set_same words s 0 0 within)) (inl refl)
  | inr ne ↦ subst IsFreeOrPacked (sym (get_or-set_other words s t 0 0 ne)) (packed t)
]

-- the free slots, where one more is freed
pub free_erased : (words : List ℕ) (taken : ℕ) (freed : List ℕ) (slot : ℕ) → slot < taken → (get_or words slot 0 ≡ 0 → ⊥) → AreFree words taken freed → AreFree (set words slot 0) taken (freed ++ slot ∷ [])
free_erased words taken freed slot below used free = record {
  within = (let w = free.within in let l = length-set words slot 0 in omega arith);
  beyond = λ s above. (let ne : s ≢ slot = omega arith in get_or-set_other words slot s 0 0 ne ∙ free.beyond s above);
  freed_are = λ i lt. elim (cases_lt i (length freed)) [
    | inl low ↦ (
        let f = free.freed_are i low in
        let e = get_or_append_left freed (slot ∷ []) 0 i low in
        let ne : get_or freed i 0 ≢ slot = λ same. used (ap (λ t. get_or words t 0) (sym same) ∙ f.1) in
        (omega (arith, e, f.0), ap (λ t. get_or (set words slot 0) t 0) e ∙ get_or-set_other words slot (get_or freed i 0) 0 0 ne ∙ f.1))
    | inr high ↦ (
        let l = length_push freed slot in
        let i_is : length freed ≡ i = omega arith in
        let e = get_or_push freed slot 0 i i_is in
        (omega (arith, e, below), ap (λ t. get_or (set words slot 0) t 0) e ∙ get_or-set_same words slot 0 0 (let w = free.within in omega arith)))
  ];
  once = λ i j lt below' same. (
      let l = length_push freed slot in
      let low : i < length freed = omega arith in
      let e = get_or_append_left freed (slot ∷ []) 0 i low in
      elim (cases_lt j (length freed)) [
        | inl low' ↦ free.once i j lt low' (sym e ∙ same ∙ get_or_append_left freed (slot ∷ []) 0 j low')
        | inr high ↦ (
            let j_is : length freed ≡ j = omega arith in
            let f = free.freed_are i low in
            used (ap (λ t. get_or words t 0) (sym (sym e ∙ same ∙ get_or_push freed slot 0 j j_is)) ∙ f.1))
      ]);
  all = λ s lt zero. elim (cases_eq s slot) [
    | inl is ↦ (length freed, (let l = length_push freed slot in omega arith), get_or_push freed slot 0 (length freed) refl ∙ sym is)
    | inr ne ↦ (
        let f = free.all s lt (sym (get_or-set_other words slot s 0 0 ne) ∙ zero) in
        (f.0, (let l = length_push freed slot in omega (arith, f.1)), get_or_append_left freed (slot ∷ []) 0 f.0 f.1 ∙ f.2))
  ];
}

-- a slot with a word was taken
pub taken_word : (words : List ℕ) (taken : ℕ) (freed : List ℕ) (slot : ℕ) (word : Word) → AreFree words taken freed → slots_of words slot ≡ Some word → slot < taken
taken_word words taken freed slot word free reads = elim (cases_lt slot taken) [
  | inl lt ↦ lt
  | inr ge ↦ absurd (let some = word_some (get_or words slot 0) word reads in let zero = free.beyond slot ge in omega arith)
]
