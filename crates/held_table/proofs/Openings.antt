-- A table that was made of a store.
use Rattle.std.proofs.Common.{◌≡◌, inl, inr, ⊎_elim, ℕ, suc, ◌+◌, ◌-◌, ◌<◌, ◌≤◌, ◌^◌, Bool, true, false, List, [], ◌∷◌, ◌++◌, length, set, length-set, Option, Some, None, refl, ap, sym, ◌∙◌, subst, arith}
use Rattle.std.specs.Prelude.{◌==◌, ◌⊎◌, not, option_map, slice_index, vec_capacity}
use Rattle.std.specs.List.{range_with_len}
use Rattle.std.specs.Option.{is_some}
use Rattle.std.proofs.lemmas.Bool.{cases_eq, cases_lt}
use Rattle.std.proofs.lemmas.List.{get_or_past}
use Rattle.edge_bits.specs.Reading.{slots_of}
use Rattle.edge_bits.specs.Words.{unpack_of}
use Rattle.edge_bits.specs.declared.words.Word.{Word}
use Rattle.function_laws.proofs.ValueLemmas.{everywhere}
use Rattle.handle_count.specs.CountWords.{count_of, generation_of}
use Rattle.node_store.specs.Changes.{put_at}
use Rattle.node_store.specs.Contents.{Content, IsSound}
use Rattle.node_store.proofs.Marking.{held_sound}
use Rattle.node_store.proofs.Rewriting.{put_at-same, put_at-other}
use Rattle.node_slots.specs.Stores.{Plain, count_at, generation_at, is_set, slots}
use Rattle.node_slots.specs.Wholes.{content_view}
use Rattle.step_store.specs.Chains.{Chains, Lists, Once, head_of}
use Rattle.step_store.proofs.Chaining.{no_chains, pushes, stores_link}
use Rattle.step_store.proofs.Passing.{none_some}
use Rattle.step_store.proofs.Tables.{set_at}
use Rattle.hold_store.specs.Held.{IsFreeList}
use Rattle.held_table.specs.declared.table.HeldTable.{HeldTable}
use Rattle.held_table.specs.Opened.{AreAllFree, AreLinked, opened_of}
use Rattle.held_table.specs.Tables.{IsTable, free_in, plain_of, stacked, view_of}
use Rattle.held_table.proofs.Frees.{stacked_more}
use Rattle.held_table.proofs.Steps.{off_or}
use Rattle.held_table.proofs.Tables.{settled}

length_more : (xs : List ℕ) (s : ℕ) → length (xs ++ s ∷ []) ≡ length xs + 1
length_more [] s = omega arith
length_more (x ∷ xs) s = let e = length_more xs s in omega (arith, e)

pub none_free : (words : List ℕ) → AreAllFree words 0 []
none_free words = record { free = λ s on. absurd on; once = tt; all = λ s lt none. absurd (omega (arith, lt)); few = omega arith }

pub one_free : (words : List ℕ) (k : ℕ) (freed : List ℕ) → slots_of words k ≡ None → AreAllFree words k freed → AreAllFree words (k + 1) (freed ++ k ∷ [])
one_free words k freed none a =
    let e = stacked_more freed k [] in
    let few : length (freed ++ k ∷ []) ≤ k + 1 = let l = length_more freed k in let f = a.few in omega (arith, l, f) in
    record {
      free = λ s on. ⊎_elim (λ same. (omega (arith, same), ap (slots_of words) (sym same) ∙ none)) (λ rest. let f = a.free s rest in (omega (arith, f.0), f.1)) (subst (λ (l : List ℕ). Lists l s) e on);
      once = subst Once (sym e) ((λ on. let f = a.free k on in let lt = f.0 in omega (arith, lt)), a.once);
      all = λ s lt is. subst (λ (l : List ℕ). Lists l s) (sym e) (elim (cases_eq s k) [
        | inl same ↦ inl (sym same)
        | inr ne ↦ inr (a.all s (omega (arith, lt, ne)) is)
      ]);
      few = few;
    }

pub one_used : (words : List ℕ) (k : ℕ) (freed : List ℕ) → (slots_of words k ≡ None → ⊥) → AreAllFree words k freed → AreAllFree words (k + 1) freed
one_used words k freed some a = record {
  free = λ s on. (let f = a.free s on in (omega (arith, f.0), f.1));
  once = a.once;
  all = λ s lt is. elim (cases_eq s k) [
    | inl same ↦ absurd (some (ap (slots_of words) (sym same) ∙ is))
    | inr ne ↦ a.all s (omega (arith, lt, ne)) is
  ];
  few = (let f = a.few in omega (arith, f));
}

-- chains
pub none_linked : (heads nexts words : List ℕ) → ((h : ℕ) → slice_index heads h ≡ 0) → AreLinked heads nexts words 3
none_linked heads nexts words zeros = record {
  on = λ s. false;
  chain = λ h. [];
  chains = no_chains (length heads) (slice_index heads) (slice_index nexts) (head_of (length heads)) (slice_index words) (λ h lt. zeros h);
  on_used = λ s on. absurd (let e : false ≡ true = on in cc);
  complete = λ s word high lt is. absurd (omega (arith, high, lt));
}

pub one_skipped : (heads nexts words : List ℕ) (k : ℕ) → slots_of words k ≡ None → AreLinked heads nexts words k → AreLinked heads nexts words (k + 1)
one_skipped heads nexts words k none a = record {
  on = a.on;
  chain = a.chain;
  chains = a.chains;
  on_used = λ s on. (let o = a.on_used s on in (o.0, omega (arith, o.1), o.2, o.3));
  complete = λ s word high lt is. elim (cases_eq s k) [
    | inl e ↦ absurd (none_some word (sym none ∙ ap (slots_of words) (sym e) ∙ is))
    | inr ne ↦ a.complete s word high (omega (arith, lt, ne)) is
  ];
}

pub one_linked : (heads nexts words : List ℕ) (k h : ℕ) (word : Word) → 3 ≤ k → k < length nexts → slots_of words k ≡ Some word → h ≡ head_of (length heads) (slice_index words k) → h < length heads → AreLinked heads nexts words k
    → AreLinked (set heads h (k + 1)) (set nexts k (slice_index heads h)) words (k + 1)
one_linked heads nexts words k h word high inside used head_is lt a =
    let n : ℕ = length heads in
    let off : a.on k ≡ false = off_or (a.on k) (λ on. let o = a.on_used k on in let below = o.1 in omega (arith, below)) in
    let linked = stores_link n (slice_index heads) (slice_index nexts) (head_of n) (slice_index words) a.on a.chain a.chains k (slice_index heads h) off in
    let pushed = pushes n (slice_index heads) (put_at (slice_index nexts) k (slice_index heads h)) (head_of n) (slice_index words) a.on a.chain linked k off (subst (λ x. x < n) head_is lt)
    (ap (slice_index heads) (sym head_is) ∙ sym (put_at-same (slice_index nexts) k (slice_index heads h))) in
    let one : suc k ≡ k + 1 = omega arith in
    let many : n ≡ length (set heads h (k + 1)) = sym (length-set heads h (k + 1)) in
    let head : put_at (slice_index heads) (head_of n (slice_index words k)) (suc k) ≡ slice_index (set heads h (k + 1)) =
    ap (λ (x : ℕ). put_at (slice_index heads) x (suc k)) (sym head_is) ∙ ap (put_at (slice_index heads) h) one ∙ sym (set_at heads h (k + 1) lt) in
    record {
      on = put_at a.on k true;
      chain = put_at a.chain (head_of n (slice_index words k)) (k ∷ a.chain (head_of n (slice_index words k)));
      chains = subst (λ (y : ℕ × (ℕ → ℕ) × (ℕ → ℕ)). Chains y.0 y.1 y.2 (head_of y.0) (slice_index words) (put_at a.on k true) (put_at a.chain (head_of n (slice_index words k)) (k ∷ a.chain (head_of n (slice_index words k)))))
          (λ j. (many j, head j, sym (set_at nexts k (slice_index heads h) inside) j)) pushed;
      on_used = λ s on. elim (cases_eq s k) [
        | inl e ↦ (omega (arith, e, high), omega (arith, e), word, ap (slots_of words) e ∙ used)
        | inr ne ↦ (let o = a.on_used s (sym (put_at-other a.on k s true ne) ∙ on) in (o.0, omega (arith, o.1), o.2, o.3))
      ];
      complete = λ s w above below is. elim (cases_eq s k) [
        | inl e ↦ ap (put_at a.on k true) e ∙ put_at-same a.on k true
        | inr ne ↦ put_at-other a.on k s true ne ∙ a.complete s w above (omega (arith, below, ne)) is
      ];
    }

-- a slot that has no word, as it is told
pub no_word : (o : Option Word) (b : Bool) → is_some o ≡ not b → b ≡ true → o ≡ None
no_word None b e told = refl
no_word (Some word) b e told = cc

pub some_word : (o : Option Word) (b : Bool) → is_some o ≡ not b → b ≡ false → (word : Word) × (o ≡ Some word)
some_word None b e told = cc
some_word (Some word) b e told = (word, refl)

pub no_word_told : (o : Option Word) → false ≡ is_some o → o ≡ None
no_word_told None e = refl
no_word_told (Some word) e = cc

pub word_told : (o : Option Word) → true ≡ is_some o → o ≡ None → ⊥
word_told None e none = cc
word_told (Some word) e none = cc

-- a count is its count word in the first generation
pub first_count : (n : ℕ) → n < 2 ^ 32 → (count_of n ≡ n) × (generation_of n ≡ 0)
first_count n lt = (omega (arith, lt), omega (arith, lt))

-- each slot has the word that was copied, and those beyond have none
pub words_copied : (copy words : List ℕ) (p : Plain) → length copy ≡ length p.words → ((s : ℕ) → s < length p.words → slice_index copy s ≡ slice_index words s) → ((s : ℕ) → slots_of words s ≡ slots p s) → (s : ℕ) → slots_of copy s ≡ slots p s
words_copied copy words p long same are s = elim (cases_lt s (length p.words)) [
  | inl lt ↦ ap unpack_of (same s lt) ∙ are s
  | inr le ↦ ap unpack_of (get_or_past copy s 0 (omega (arith, le, long))) ∙ sym (ap unpack_of (get_or_past p.words s 0 le))
]

-- the table's words, counts and orders are those of the store
pub opens : (t : HeldTable) (p : Plain) → IsSound (content_view p) → t.limit ≡ length p.words → length t.words.items ≡ t.limit → ((s : ℕ) → slots (plain_of t) s ≡ slots p s) → ((s : ℕ) → slice_index t.words.items s < 18446744073709551616)
    → length t.counts.items ≡ t.limit → ((s : ℕ) → s < t.limit → slice_index t.counts.items s ≡ count_at p s) → length t.pins.items ≡ t.limit → ((s : ℕ) → slice_index t.pins.items s ≡ 0)
    → length t.nexts.items ≡ t.limit → 0 < length t.heads.items → length t.heads.items < 4294967296 → AreLinked t.heads.items t.nexts.items t.words.items t.limit → AreAllFree t.words.items t.limit t.freed.items → t.limit ≤ vec_capacity t.freed
    → t.variables_at.items ≡ p.variables_at → t.elements_at.items ≡ p.elements_at → t.next_free ≡ t.limit → t.half ≡ None → t.loose ≡ None → t.link ≡ None
    → IsTable t × (view_of t ≡ opened_of p)
opens t p sound limit many words fits many_counts counts many_pins pins many_nexts some few linked free room variables elements next half loose link =
    let w : Content = opened_of p in
    let words_are : w.word ≡ slots (plain_of t) = everywhere (slots p) (slots (plain_of t)) (λ s. sym (words s)) in
    let small : (s : ℕ) → count_at p s < 2 ^ 32 = λ s. (let f = sound.few_counts s in omega (arith, f)) in
    let beyond_zero : (s : ℕ) → t.limit ≤ s → slice_index t.counts.items s ≡ 0 = λ s le. get_or_past t.counts.items s 0 (omega (arith, le, many_counts)) in
    let unused : (s : ℕ) → t.limit ≤ s → slots p s ≡ None = λ s le. sym (words s) ∙ ap unpack_of (get_or_past t.words.items s 0 (omega (arith, le, many))) in
    let counts_are : w.count ≡ count_at (plain_of t) = everywhere (count_at p) (count_at (plain_of t)) (λ s. elim (cases_lt s t.limit) [
      | inl lt ↦ sym (ap count_of (counts s lt) ∙ (first_count (count_at p s) (small s)).0)
      | inr le ↦ sound.uncounted s (unused s le) ∙ sym (ap count_of (beyond_zero s le))
    ]) in
    let generations : w.generation ≡ generation_at (plain_of t) = everywhere (λ _. 0) (generation_at (plain_of t)) (λ s. elim (cases_lt s t.limit) [
      | inl lt ↦ sym (ap generation_of (counts s lt) ∙ (first_count (count_at p s) (small s)).1)
      | inr le ↦ sym (ap generation_of (beyond_zero s le))
    ]) in
    let pinned : w.pinned ≡ is_set t.pins.items = everywhere (λ _. false) (is_set t.pins.items) (λ s. sym (ap (λ x. x == 1) (pins s))) in
    let here : IsSound w = held_sound (content_view p) (content_view p).count (λ _. 0) (is_set []) (λ _. false) true sound sound.few_counts sound.uncounted (λ s none. refl) in
    let seen : view_of t ≡ w = settled t w here (λ i. record { variables = sym variables i; elements = sym elements i }) (sym limit ∙ sym many) words_are counts_are generations refl pinned refl (sym (ap (option_map _) half)) in
    let none_left : t.limit - t.next_free ≡ 0 = omega (arith, next) in
    let list_is : free_in t ≡ stacked t.freed.items [] = ap (λ (n : ℕ). stacked t.freed.items (range_with_len t.next_free n)) none_left in (
      record {
        sound = subst IsSound (sym seen) here;
        words = record { as_many = many; as_many_nexts = many_nexts; as_many_counts = many_counts; as_many_pins = many_pins; some_heads = some; few_heads = few; fits = fits };
        free = record {
          list = subst (IsFreeList (view_of t)) (sym list_is) (record {
            free = λ s on. (let f = free.free s on in (omega (arith, f.0, many), f.1));
            once = free.once;
            all = λ s lt is. free.all s (omega (arith, lt, many)) is;
          });
          first = omega (arith, next);
          below = λ s on. (let f = free.free s (on_stack t.freed.items [] s (inl on)) in omega (arith, f.0, next));
          beyond = λ s le. words s ∙ unused s (omega (arith, le, next));
          room = room;
        };
        chained = record {
          on = linked.on;
          chain = linked.chain;
          chains = linked.chains;
          on_used = λ s on. (let o = linked.on_used s on in (o.0, o.2, o.3));
          complete = λ s word high is. inl (linked.complete s word high (elim (cases_lt s t.limit) [
            | inl lt ↦ lt
            | inr le ↦ absurd (none_some word (sym (words s ∙ unused s le) ∙ is))
          ]) is);
          loose = λ s is. absurd (none_some s (sym loose ∙ is));
          link = λ x is. absurd (none_some x (sym link ∙ is));
        };
      },
      seen,
    )
  where
    on_stack : (xs tail : List ℕ) (s : ℕ) → Lists xs s ⊎ Lists tail s → Lists (stacked xs tail) s
    on_stack [] tail s is = ⊎_elim (λ none. absurd none) (λ on. on) is
    on_stack (x ∷ xs) tail s is = on_stack xs (x ∷ tail) s (⊎_elim (λ on. ⊎_elim (λ same. inr (inl same)) inl on) (λ on. inr (inr on)) is)
