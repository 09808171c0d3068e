-- What the steps of a table with one holder leave.
use Rattle.std.proofs.Common.{◌≡◌, ◌≢◌, ◌⊎◌, inl, inr, ⊎_elim, ℕ, ◌+◌, ◌<◌, ◌≤◌, ◌*◌, ◌/◌, ◌%◌, ◌^◌, Bool, true, false, List, ◌∷◌, length, set, length-set, Option, Some, None, refl, ap, sym, ◌∙◌, subst, arith}
use Rattle.std.specs.Prelude.{slice_index, vec_capacity}
use Rattle.std.proofs.Math.Nat.{mul-lt-mul_of_pos_right, div-lt_iff_lt-mul}
use Rattle.std.proofs.lemmas.Bool.{cases_eq, cases_lt}
use Rattle.edge_bits.specs.declared.edges.Kind.{Kind}
use Rattle.edge_bits.specs.declared.words.Node.{Node}
use Rattle.edge_bits.specs.declared.words.Word.{Word}
use Rattle.edge_bits.specs.declared.words.Word.TheVariants.{Inner}
use Rattle.edge_bits.specs.Reading.{plain, slots_of}
use Rattle.edge_bits.specs.Mixing.{scattered, spread}
use Rattle.edge_bits.specs.Words.{unpack_of}
use Rattle.node_store.specs.Changes.{CanRewrite, pair_of, put_at, rewritten, var_of, with_node, without}
use Rattle.node_store.specs.Contents.{Content, IsSound}
use Rattle.node_store.proofs.Adding.{added_sound}
use Rattle.node_store.proofs.Freeing.{freed_sound}
use Rattle.node_store.proofs.Marking.{held_sound}
use Rattle.node_store.proofs.Rewriting.{put_at-same, put_at-other, rewritten_sound}
use Rattle.node_slots.specs.Stores.{slots}
use Rattle.node_slots.proofs.HeldLaws.{slots_put}
use Rattle.step_store.specs.Chains.{Chains, Lists, head_of}
use Rattle.step_store.proofs.Chaining.{apart, stores_word}
use Rattle.step_store.proofs.Passing.{none_some, some_same}
use Rattle.step_store.proofs.Tables.{set_at}
use Rattle.hold_store.specs.Held.{IsDead, IsFreeList, IsNew, freed, node_function}
use Rattle.held_table.specs.declared.table.HeldTable.{HeldTable}
use Rattle.held_table.specs.Tables.{IsTable, free_in, plain_of, view_of}
use Rattle.held_table.proofs.Tables.{settled, within}

pub off_or : (b : Bool) → (b ≡ true → ⊥) → b ≡ false
off_or true no_true = absurd (no_true refl)
off_or false no_true = refl

-- the same slots are free
pub free_list_same : (w new : Content) (list : List ℕ) → new.limit ≡ w.limit → ((s : ℕ) → w.word s ≡ None → new.word s ≡ None) → ((s : ℕ) → new.word s ≡ None → w.word s ≡ None) → IsFreeList w list → IsFreeList new list
free_list_same w new list limit on back f = record {
  free = λ s is. (let x = f.free s is in (subst (λ n. s < n) (sym limit) x.0, on s x.1));
  once = f.once;
  all = λ s lt none. f.all s (subst (λ n. s < n) limit lt) (back s none);
}

-- the first free slot has a word
pub free_list_less : (w new : Content) (s : ℕ) (list : List ℕ) (word : Word) → new.limit ≡ w.limit → new.word ≡ put_at w.word s (Some word) → IsFreeList w (s ∷ list) → IsFreeList new list
free_list_less w new s list word limit is f =
    let other : (t : ℕ) → t ≢ s → new.word t ≡ w.word t = λ t ne. ap (λ (g : ℕ → Option Word). g t) is ∙ put_at-other w.word s t (Some word) ne in
    record {
      free = λ t on. (let x = f.free t (inr on) in let ne : t ≢ s = λ e. f.once.0 (subst (Lists list) e on) in (subst (λ n. t < n) (sym limit) x.0, other t ne ∙ x.1));
      once = f.once.1;
      all = λ t lt none. elim (cases_eq t s) [
        | inl e ↦ absurd (none_some word (sym none ∙ ap new.word e ∙ ap (λ (g : ℕ → Option Word). g s) is ∙ put_at-same w.word s (Some word)))
        | inr ne ↦ ⊎_elim (λ same. absurd (ne (sym same))) (λ on. on) (f.all t (subst (λ n. t < n) limit lt) (sym (other t ne) ∙ none))
      ];
    }

-- a slot with a word is freed
pub free_list_more : (w new : Content) (s : ℕ) (list : List ℕ) (word : Word) → new.limit ≡ w.limit → new.word ≡ put_at w.word s None → s < w.limit → w.word s ≡ Some word → IsFreeList w list → IsFreeList new (s ∷ list)
free_list_more w new s list word limit is lt used f =
    let other : (t : ℕ) → t ≢ s → new.word t ≡ w.word t = λ t ne. ap (λ (g : ℕ → Option Word). g t) is ∙ put_at-other w.word s t None ne in
    let here : new.word s ≡ None = ap (λ (g : ℕ → Option Word). g s) is ∙ put_at-same w.word s None in
    let off : Lists list s → ⊥ = λ on. none_some word (sym (f.free s on).1 ∙ used) in
    record {
      free = λ t on. ⊎_elim (λ e. (subst (λ n. t < n) (sym limit) (subst (λ x. x < w.limit) e lt), ap new.word (sym e) ∙ here))
          (λ rest. let x = f.free t rest in (subst (λ n. t < n) (sym limit) x.0, other t (λ e. off (subst (Lists list) e rest)) ∙ x.1)) on;
      once = (off, f.once);
      all = λ t below none. elim (cases_eq t s) [
        | inl e ↦ inl (sym e)
        | inr ne ↦ inr (f.all t (subst (λ n. t < n) limit below) (sym (other t ne) ∙ none))
      ];
    }

-- the first free slot is one of the table's
pub first_within : (t : HeldTable) (i : IsTable t) (s : ℕ) (list : List ℕ) → free_in t ≡ s ∷ list → s < length t.words.items
first_within t i s list is = let f = (subst (IsFreeList (view_of t)) is i.free.list).free s (inl refl) in f.0

-- a word is another
module _ (t : HeldTable) (i : IsTable t) (s bits : ℕ) (items : List ℕ) (is : items ≡ set t.words.items s bits) (lt : s < t.limit) (small : bits < 18446744073709551616) where
  inside : s < length t.words.items
  inside = let m = i.words.as_many in omega (arith, lt, m)

  pub word_is : slice_index items ≡ put_at (slice_index t.words.items) s bits
  word_is = ap (λ (l : List ℕ). slice_index l) is ∙ set_at t.words.items s bits inside

  pub slots_are : (o : Option Word) → unpack_of bits ≡ o → put_at (slots (plain_of t)) s o ≡ slots_of items
  slots_are o reads = ap (put_at (slots (plain_of t)) s) (sym reads) ∙ slots_put t.words.items s bits inside ∙ ap slots_of (sym is)

  pub long : length items ≡ length t.words.items
  long = ap (λ (l : List ℕ). length l) is ∙ length-set t.words.items s bits

  pub here : slots_of items s ≡ unpack_of bits
  here = ap (λ (f : ℕ → ℕ). unpack_of (f s)) word_is ∙ ap unpack_of (put_at-same (slice_index t.words.items) s bits)

  pub other : (y : ℕ) → y ≢ s → slots_of items y ≡ slots (plain_of t) y
  other y ne = ap (λ (f : ℕ → ℕ). unpack_of (f y)) word_is ∙ ap unpack_of (put_at-other (slice_index t.words.items) s y bits ne)

  pub still_fits : (y : ℕ) → slice_index items y < 18446744073709551616
  still_fits y = elim (cases_eq y s) [
    | inl e ↦ subst (λ n. n < 18446744073709551616) (sym (ap (slice_index items) e ∙ ap (λ (f : ℕ → ℕ). f s) word_is ∙ put_at-same (slice_index t.words.items) s bits)) small
    | inr ne ↦ subst (λ n. n < 18446744073709551616) (sym (ap (λ (f : ℕ → ℕ). f y) word_is ∙ put_at-other (slice_index t.words.items) s y bits ne)) (i.words.fits y)
  ]

  pub still_chains : i.chained.on s ≡ false → Chains (length t.heads.items) (slice_index t.heads.items) (slice_index t.nexts.items) (head_of (length t.heads.items)) (slice_index items) i.chained.on i.chained.chain
  still_chains off = subst (λ (f : ℕ → ℕ). Chains (length t.heads.items) (slice_index t.heads.items) (slice_index t.nexts.items) (head_of (length t.heads.items)) f i.chained.on i.chained.chain) (sym word_is)
      (stores_word (length t.heads.items) (slice_index t.heads.items) (slice_index t.nexts.items) (head_of (length t.heads.items)) (slice_index t.words.items) i.chained.on i.chained.chain i.chained.chains s bits off)

-- the head of a word is one of the heads
pub head_below : (bits heads : ℕ) → 0 < heads → head_of heads bits < heads
unfolding scattered
head_below bits p some =
    let m : ℕ = (spread bits + spread bits / 2 ^ 32) % 2 ^ 64 * 14029467366897019727 in
    let x : ℕ = m % 2 ^ 64 / 2 ^ 32 in
    let few : x < 2 ^ 32 = small m in
    let h : x * p < 2 ^ 32 * p = mul-lt-mul_of_pos_right few some in
    (div-lt_iff_lt-mul {k = 2 ^ 32} {x = x * p} {y = p} (omega arith)).1 (subst (λ y. x * p < y) (omega arith) h)
  where
    small : (m : ℕ) → m % 2 ^ 64 / 2 ^ 32 < 2 ^ 32
    small m = omega arith

pub inner_same : (a b : Node) → Some (Inner a) ≡ Some (Inner b) → a ≡ b
inner_same a b e = cc

-- a node is rewritten
pub rewrites : (t u : HeldTable) (i : IsTable t) (s bits was now : ℕ) (j : Kind) (node : Node) → t.loose ≡ Some s → bits < 18446744073709551616 → unpack_of bits ≡ Some (Inner node) → CanRewrite j (view_of t) s node.var (plain node.hi) node.lo
    → u ≡ record t { words = u.words; half = Some (record { was = was; now = now }) } → u.words.items ≡ set t.words.items s bits → was ≡ var_of (slots (plain_of t) s) → now ≡ node.var
    → IsTable u × (view_of u ≡ rewritten (view_of t) s node.var (plain node.hi) node.lo)
rewrites t u i s bits was now j node loose small reads can same items was_is now_is =
    let v : HeldTable = record t { words = u.words; half = Some (record { was = was; now = now }) } in
    let lt : s < t.limit = within t i s (Inner can.node) can.was in
    let w : Content = rewritten (view_of t) s node.var (plain node.hi) node.lo in
    let sound = rewritten_sound (view_of t) i.sound j s node.var (plain node.hi) node.lo can in
    let l = i.chained.loose s loose in
    let word_here : slots_of u.words.items s ≡ Some (Inner node) = here t i s bits u.words.items items lt small ∙ reads in
    let seen : view_of v ≡ w = settled v w sound refl (sym (long t i s bits u.words.items items lt small)) (slots_are t i s bits u.words.items items lt small (Some (Inner node)) reads) refl refl refl refl refl
    (ap (λ (x : ℕ). Some (pair_of (view_of t) x node.var)) (sym was_is) ∙ ap (λ (x : ℕ). Some (pair_of (view_of t) was x)) (sym now_is)) in
    let done : IsTable v = record {
      sound = subst IsSound (sym seen) sound;
      words = record {
        as_many = long t i s bits u.words.items items lt small ∙ i.words.as_many;
        as_many_nexts = i.words.as_many_nexts;
        as_many_counts = i.words.as_many_counts;
        as_many_pins = i.words.as_many_pins;
        some_heads = i.words.some_heads;
        few_heads = i.words.few_heads;
        fits = still_fits t i s bits u.words.items items lt small;
      };
      free = record {
        list = free_list_same (view_of t) (view_of v) (free_in t) (long t i s bits u.words.items items lt small)
            (λ y none. other t i s bits u.words.items items lt small y (λ e. none_some _ (sym none ∙ ap (slots (plain_of t)) e ∙ can.was)) ∙ none)
            (λ y none. sym (other t i s bits u.words.items items lt small y (λ e. none_some _ (sym none ∙ ap (slots_of u.words.items) e ∙ word_here))) ∙ none)
            i.free.list;
        first = i.free.first;
        below = i.free.below;
        beyond = λ y le. (let none = i.free.beyond y le in other t i s bits u.words.items items lt small y (λ e. none_some _ (sym none ∙ ap (slots (plain_of t)) e ∙ can.was)) ∙ none);
        room = i.free.room;
      };
      chained = record {
        on = i.chained.on;
        chain = i.chained.chain;
        chains = still_chains t i s bits u.words.items items lt small l.0;
        on_used = λ y on. (let o = i.chained.on_used y on in (o.0, o.1, other t i s bits u.words.items items lt small y (apart i.chained.on s y l.0 on) ∙ o.2));
        complete = λ y word high is. elim (cases_eq y s) [
          | inl e ↦ inr (loose ∙ ap (λ (z : ℕ). Some z) (sym e))
          | inr ne ↦ i.chained.complete y word high (sym (other t i s bits u.words.items items lt small y ne) ∙ is)
        ];
        loose = λ y is. (let e : s ≡ y = some_same s y (sym loose ∙ is) in subst (λ (z : ℕ). (i.chained.on z ≡ false) × (3 ≤ z) × (word : Word) × (slots_of u.words.items z ≡ Some word)) e (l.0, l.1, Inner node, word_here));
        link = i.chained.link;
      };
    } in
    (subst IsTable (sym same) done, ap view_of same ∙ seen)

-- a new node is stored in a free slot
pub stores : (t u : HeldTable) (i : IsTable t) (s bits : ℕ) (j : Kind) (node : Node) (list : List ℕ) → t.loose ≡ None → bits < 18446744073709551616 → unpack_of bits ≡ Some (Inner node) → IsNew j (view_of t) node → free_in t ≡ s ∷ list
    → u ≡ record t { words = u.words; next_free = u.next_free; freed = u.freed; loose = Some s; renewed = None; link = None } → u.words.items ≡ set t.words.items s bits → free_in u ≡ list
    → t.next_free ≤ u.next_free → u.next_free ≤ t.limit → s < u.next_free → ((y : ℕ) → Lists u.freed.items y → y < u.next_free) → vec_capacity u.freed ≡ vec_capacity t.freed
    → IsTable u × (view_of u ≡ with_node (view_of t) s node (node_function j (view_of t) node))
stores t u i s bits j node list calm small reads new first same items rest more most taken below room =
    let v : HeldTable = record t { words = u.words; next_free = u.next_free; freed = u.freed; loose = Some s; renewed = None; link = None } in
    let f = subst (IsFreeList (view_of t)) first i.free.list in
    let free = f.free s (inl refl) in
    let lt : s < t.limit = let m = i.words.as_many in omega (arith, free.0, m) in
    let w : Content = with_node (view_of t) s node (node_function j (view_of t) node) in
    let sound = added_sound (view_of t) i.sound j s node.var (plain node.hi) node.lo new.can refl new.proper free.1 free.0 new.unknown in
    let word_here : slots_of u.words.items s ≡ Some (Inner node) = here t i s bits u.words.items items lt small ∙ reads in
    let words : w.word ≡ slots_of u.words.items = slots_are t i s bits u.words.items items lt small (Some (Inner node)) reads in
    let seen : view_of v ≡ w = settled v w sound refl (sym (long t i s bits u.words.items items lt small)) words refl refl refl refl refl refl in
    let off : i.chained.on s ≡ false = off_or (i.chained.on s) (λ on. let o = i.chained.on_used s on in none_some o.1 (sym free.1 ∙ o.2)) in
    let high : 3 ≤ s = elim (cases_lt s 5) [
      | inl low ↦ absurd (none_some _ (sym free.1 ∙ i.sound.constants s low))
      | inr le ↦ omega (arith, le)
    ] in
    let done : IsTable v = record {
      sound = subst IsSound (sym seen) sound;
      words = record {
        as_many = long t i s bits u.words.items items lt small ∙ i.words.as_many;
        as_many_nexts = i.words.as_many_nexts;
        as_many_counts = i.words.as_many_counts;
        as_many_pins = i.words.as_many_pins;
        some_heads = i.words.some_heads;
        few_heads = i.words.few_heads;
        fits = still_fits t i s bits u.words.items items lt small;
      };
      free = record {
        list = subst (IsFreeList (view_of v)) (sym (ap free_in (sym same) ∙ rest)) (free_list_less (view_of t) (view_of v) s list (Inner node) (long t i s bits u.words.items items lt small) (sym words) f);
        first = most;
        below = below;
        beyond = λ y le. other t i s bits u.words.items items lt small y (λ e. omega (arith, le, e, taken)) ∙ i.free.beyond y (omega (arith, le, more));
        room = subst (λ (n : ℕ). t.limit ≤ n) (sym room) i.free.room;
      };
      chained = record {
        on = i.chained.on;
        chain = i.chained.chain;
        chains = still_chains t i s bits u.words.items items lt small off;
        on_used = λ y on. (let o = i.chained.on_used y on in (o.0, o.1, other t i s bits u.words.items items lt small y (apart i.chained.on s y off on) ∙ o.2));
        complete = λ y word high is. elim (cases_eq y s) [
          | inl e ↦ inr (ap (λ (z : ℕ). Some z) (sym e))
          | inr ne ↦ elim (i.chained.complete y word high (sym (other t i s bits u.words.items items lt small y ne) ∙ is)) [
            | inl on ↦ inl on
            | inr loose ↦ absurd (none_some y (sym calm ∙ loose))
          ]
        ];
        loose = λ y is. subst (λ (z : ℕ). (i.chained.on z ≡ false) × (3 ≤ z) × (word : Word) × (slots_of u.words.items z ≡ Some word)) (some_same s y is) (off, high, Inner node, word_here);
        link = λ x is. absurd (none_some x is);
      };
    } in
    (subst IsTable (sym same) done, ap view_of same ∙ seen)

-- a slot is freed
pub frees : (t u : HeldTable) (i : IsTable t) (s : ℕ) → t.loose ≡ Some s → IsDead (view_of t) s
    → u ≡ record t { words = u.words; freed = u.freed; loose = None; renewed = None; link = None } → u.words.items ≡ set t.words.items s 0 → free_in u ≡ s ∷ free_in t
    → ((y : ℕ) → Lists u.freed.items y → (y ≡ s) ⊎ Lists t.freed.items y) → vec_capacity u.freed ≡ vec_capacity t.freed
    → IsTable u × (view_of u ≡ freed (view_of t) s)
frees t u i s loose dead same items list listed room =
    let v : HeldTable = record t { words = u.words; freed = u.freed; loose = None; renewed = None; link = None } in
    let l = i.chained.loose s loose in
    let lt : s < t.limit = within t i s l.2 l.3 in
    let zero_small : 0 < 18446744073709551616 = omega arith in
    let w : Content = freed (view_of t) s in
    let gone = freed_sound (view_of t) i.sound s (record { used = dead.used; spare = dead.spare; sweeping = refl; uncounted = dead.uncounted; unpinned = dead.unpinned; unnamed = dead.unnamed }) in
    let sound : IsSound w = held_sound (without (view_of t) s) (view_of t).count (view_of t).generation (view_of t).marked (view_of t).pinned true gone gone.few_counts gone.uncounted gone.unpinned in
    let nothing : slots_of u.words.items s ≡ None = here t i s 0 u.words.items items lt zero_small in
    let words : w.word ≡ slots_of u.words.items = slots_are t i s 0 u.words.items items lt zero_small None refl in
    let seen : view_of v ≡ w = settled v w sound refl (sym (long t i s 0 u.words.items items lt zero_small)) words refl refl refl refl refl refl in
    let done : IsTable v = record {
      sound = subst IsSound (sym seen) sound;
      words = record {
        as_many = long t i s 0 u.words.items items lt zero_small ∙ i.words.as_many;
        as_many_nexts = i.words.as_many_nexts;
        as_many_counts = i.words.as_many_counts;
        as_many_pins = i.words.as_many_pins;
        some_heads = i.words.some_heads;
        few_heads = i.words.few_heads;
        fits = still_fits t i s 0 u.words.items items lt zero_small;
      };
      free = record {
        list = subst (IsFreeList (view_of v)) (sym (ap free_in (sym same) ∙ list))
            (free_list_more (view_of t) (view_of v) s (free_in t) l.2 (long t i s 0 u.words.items items lt zero_small) (sym words) (let m = i.words.as_many in omega (arith, lt, m)) l.3 i.free.list);
        first = i.free.first;
        below = λ y on. ⊎_elim
            (λ e. elim (cases_lt y t.next_free) [
              | inl low ↦ low
              | inr le ↦ absurd (none_some l.2 (sym (i.free.beyond y le) ∙ ap (slots (plain_of t)) e ∙ l.3))
            ])
            (i.free.below y) (listed y on);
        beyond = λ y le. elim (cases_eq y s) [
          | inl e ↦ ap (slots_of u.words.items) e ∙ nothing
          | inr ne ↦ other t i s 0 u.words.items items lt zero_small y ne ∙ i.free.beyond y le
        ];
        room = subst (λ (n : ℕ). t.limit ≤ n) (sym room) i.free.room;
      };
      chained = record {
        on = i.chained.on;
        chain = i.chained.chain;
        chains = still_chains t i s 0 u.words.items items lt zero_small l.0;
        on_used = λ y on. (let o = i.chained.on_used y on in (o.0, o.1, other t i s 0 u.words.items items lt zero_small y (apart i.chained.on s y l.0 on) ∙ o.2));
        complete = λ y word high is. elim (cases_eq y s) [
          | inl e ↦ absurd (none_some word (sym nothing ∙ ap (slots_of u.words.items) (sym e) ∙ is))
          | inr ne ↦ elim (i.chained.complete y word high (sym (other t i s 0 u.words.items items lt zero_small y ne) ∙ is)) [
            | inl on ↦ inl on
            | inr other_loose ↦ absurd (ne (some_same y s (sym other_loose ∙ loose)))
          ]
        ];
        loose = λ y is. absurd (none_some y is);
        link = λ x is. absurd (none_some x is);
      };
    } in
    (subst IsTable (sym same) done, ap view_of same ∙ seen)
