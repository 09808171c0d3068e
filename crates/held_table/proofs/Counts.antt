-- What the steps on counts, pins and orders of a table with one holder leave.
use Rattle.std.proofs.Common.{◌≡◌, ◌≢◌, inl, inr, ℕ, ◌+◌, ◌-◌, ◌<◌, ◌^◌, Bool, true, false, List, length, get_or, set, length-set, Option, Some, None, refl, ap, sym, ◌∙◌, subst, arith, ne_eqb}
use Rattle.std.specs.Prelude.{◌==◌, if◌then◌else◌, slice_index}
use Rattle.std.specs.List.{swap}
use Rattle.std.proofs.lemmas.Bool.{cases_eq, cases_lt}
use Rattle.std.proofs.lemmas.List.{get_or_past}
use Rattle.function_laws.proofs.ValueLemmas.{everywhere}
use Rattle.function_laws.specs.declared.orders.Order.TheVariants.{Variables, Elements}
use Rattle.handle_count.specs.CountWords.{count_of, generation_of}
use Rattle.held_slots.specs.Notes.{flag}
use Rattle.node_store.specs.Changes.{CanExchange, exchanged, put_at, with_pin}
use Rattle.node_store.specs.Contents.{Content, IsSound}
use Rattle.node_store.proofs.ExchangeSound.{exchanged_sound}
use Rattle.node_store.proofs.Marking.{held_sound}
use Rattle.node_store.proofs.Rewriting.{put_at-same, put_at-other}
use Rattle.node_slots.specs.Stores.{count_at, generation_at, is_set, slots}
use Rattle.node_slots.proofs.HeldLaws.{read_put}
use Rattle.node_slots.proofs.Holding.{at_set, flags_put}
use Rattle.held_table.specs.declared.table.Due.{Due}
use Rattle.held_table.specs.declared.table.HeldTable.{HeldTable}
use Rattle.held_table.specs.Tables.{IsTable, plain_of, view_of}
use Rattle.held_table.proofs.Tables.{settled, within}

-- the same number put at its place
pub put_back : (f : ℕ → ℕ) (s : ℕ) → put_at f s (f s) ≡ f
put_back f s = everywhere (put_at f s (f s)) f (λ y. elim (cases_eq y s) [
  | inl e ↦ ap (put_at f s (f s)) e ∙ put_at-same f s (f s) ∙ ap f (sym e)
  | inr ne ↦ put_at-other f s y (f s) ne
])

-- a pin is counted
abbrev pub one_if : Bool → ℕ
one_if b = if b then 1 else 0

pub pinned_one : (pins : List ℕ) (s : ℕ) → slice_index pins s ≡ 1 → one_if (is_set pins s) ≡ 1
pinned_one pins s e = ap (λ (x : ℕ). one_if (x == 1)) e

pub pinned_none : (pins : List ℕ) (s : ℕ) → slice_index pins s ≢ 1 → one_if (is_set pins s) ≡ 0
pinned_none pins s ne = ap one_if (ne_eqb (slice_index pins s) 1 ne)

-- a slot that is pinned is one of the table's
pub pinned_within : (t : HeldTable) (i : IsTable t) (s : ℕ) → is_set t.pins.items s ≡ true → s < t.limit
pinned_within t i s on = elim (cases_lt s t.limit) [
  | inl lt ↦ lt
  | inr le ↦ (
      let zero : slice_index t.pins.items s ≡ 0 = get_or_past t.pins.items s 0 (let m = i.words.as_many_pins in omega (arith, le, m)) in
      let off : is_set t.pins.items s ≡ false = ap (λ x. x == 1) zero in
      absurd (let c : true ≡ false = sym on ∙ off in cc))
]

-- a count word of the next generation is stored
pub renews : (t u : HeldTable) (i : IsTable t) (s word : ℕ) → t.loose ≡ Some s → count_at (plain_of t) s ≡ 0 → count_of word ≡ 0 → u ≡ record t { counts = u.counts; renewed = Some s } → u.counts.items ≡ set t.counts.items s word
    → (s < t.limit) × IsTable u × (view_of u ≡ record (view_of t) { generation = put_at (view_of t).generation s (generation_of word) })
renews t u i s word loose zero_now zero_then same items =
    let v : HeldTable = record t { counts = u.counts; renewed = Some s } in
    let l = i.chained.loose s loose in
    let lt : s < t.limit = within t i s l.2 l.3 in
    let inside : s < length t.counts.items = let m = i.words.as_many_counts in omega (arith, lt, m) in
    let w : Content = record (view_of t) { generation = put_at (view_of t).generation s (generation_of word) } in
    let sound : IsSound w = held_sound (view_of t) (view_of t).count (put_at (view_of t).generation s (generation_of word)) (view_of t).marked (view_of t).pinned true i.sound i.sound.few_counts i.sound.uncounted i.sound.unpinned in
    let counts : (view_of t).count ≡ count_at (plain_of v) = everywhere (count_at (plain_of t)) (count_at (plain_of v)) (λ y.
    subst (λ (xs : List ℕ). count_at (plain_of t) y ≡ count_of (get_or xs y 0)) (sym items)
    (at_set (λ x. count_at (plain_of t) y ≡ count_of x) t.counts.items s word y inside (λ e. ap (count_at (plain_of t)) e ∙ zero_now ∙ sym zero_then) (λ ne. refl))) in
    let generations : w.generation ≡ generation_at (plain_of v) = read_put generation_of t.counts.items s word inside ∙ ap {B = ℕ → ℕ} (λ (xs : List ℕ) (y : ℕ). generation_of (get_or xs y 0)) (sym items) in
    let seen : view_of v ≡ w = settled v w sound refl refl refl counts generations refl refl refl refl in (
      lt,
      subst IsTable (sym same) (record {
        sound = subst IsSound (sym seen) sound;
        words = record {
          as_many = i.words.as_many;
          as_many_nexts = i.words.as_many_nexts;
          as_many_counts = ap (λ (l : List ℕ). length l) items ∙ length-set t.counts.items s word ∙ i.words.as_many_counts;
          as_many_pins = i.words.as_many_pins;
          some_heads = i.words.some_heads;
          few_heads = i.words.few_heads;
          fits = i.words.fits;
        };
        free = record { list = record { free = i.free.list.free; once = i.free.list.once; all = i.free.list.all }; first = i.free.first; below = i.free.below; beyond = i.free.beyond; room = i.free.room };
        chained = record { on = i.chained.on; chain = i.chained.chain; chains = i.chained.chains; on_used = i.chained.on_used; complete = i.chained.complete; loose = i.chained.loose; link = i.chained.link };
      }),
      ap view_of same ∙ seen,
    )

-- a count is one less
pub lowers : (t u : HeldTable) (i : IsTable t) (s word : ℕ) → s < t.limit → count_of word + 1 ≡ count_at (plain_of t) s → generation_of word ≡ generation_at (plain_of t) s → u ≡ record t { counts = u.counts } → u.counts.items ≡ set t.counts.items s word
    → IsTable u × (view_of u ≡ record (view_of t) { count = put_at (view_of t).count s ((view_of t).count s - 1) })
lowers t u i s word lt less kept same items =
    let v : HeldTable = record t { counts = u.counts } in
    let inside : s < length t.counts.items = let m = i.words.as_many_counts in omega (arith, lt, m) in
    let lower : ℕ → ℕ = put_at (view_of t).count s ((view_of t).count s - 1) in
    let w : Content = record (view_of t) { count = lower } in
    let few : (y : ℕ) → lower y < 2 ^ 32 - 1 = λ y. elim (cases_eq y s) [
      | inl e ↦ (let f = i.sound.few_counts s in let x = ap lower e ∙ put_at-same (view_of t).count s ((view_of t).count s - 1) in omega (arith, f, x))
      | inr ne ↦ (let f = i.sound.few_counts y in let x = put_at-other (view_of t).count s y ((view_of t).count s - 1) ne in omega (arith, f, x))
    ] in
    let none : (y : ℕ) → slots (plain_of t) y ≡ None → lower y ≡ 0 = λ y free. elim (cases_eq y s) [
      | inl e ↦ (let z = i.sound.uncounted s (ap (slots (plain_of t)) (sym e) ∙ free) in let x = ap lower e ∙ put_at-same (view_of t).count s ((view_of t).count s - 1) in omega (arith, z, x))
      | inr ne ↦ put_at-other (view_of t).count s y ((view_of t).count s - 1) ne ∙ i.sound.uncounted y free
    ] in
    let sound : IsSound w = held_sound (view_of t) lower (view_of t).generation (view_of t).marked (view_of t).pinned true i.sound few none i.sound.unpinned in
    let here : count_of word ≡ (view_of t).count s - 1 = omega (arith, less) in
    let counts : w.count ≡ count_at (plain_of v) = ap (put_at (view_of t).count s) (sym here) ∙ read_put count_of t.counts.items s word inside ∙ ap {B = ℕ → ℕ} (λ (xs : List ℕ) (y : ℕ). count_of (get_or xs y 0)) (sym items) in
    let generations : w.generation ≡ generation_at (plain_of v) = everywhere (generation_at (plain_of t)) (generation_at (plain_of v)) (λ y.
    subst (λ (xs : List ℕ). generation_at (plain_of t) y ≡ generation_of (get_or xs y 0)) (sym items)
    (at_set (λ x. generation_at (plain_of t) y ≡ generation_of x) t.counts.items s word y inside (λ e. ap (generation_at (plain_of t)) e ∙ sym kept) (λ ne. refl))) in
    let seen : view_of v ≡ w = settled v w sound refl refl refl counts generations refl refl refl refl in (
      subst IsTable (sym same) (record {
        sound = subst IsSound (sym seen) sound;
        words = record {
          as_many = i.words.as_many;
          as_many_nexts = i.words.as_many_nexts;
          as_many_counts = ap (λ (l : List ℕ). length l) items ∙ length-set t.counts.items s word ∙ i.words.as_many_counts;
          as_many_pins = i.words.as_many_pins;
          some_heads = i.words.some_heads;
          few_heads = i.words.few_heads;
          fits = i.words.fits;
        };
        free = record { list = record { free = i.free.list.free; once = i.free.list.once; all = i.free.list.all }; first = i.free.first; below = i.free.below; beyond = i.free.beyond; room = i.free.room };
        chained = record { on = i.chained.on; chain = i.chained.chain; chains = i.chained.chains; on_used = i.chained.on_used; complete = i.chained.complete; loose = i.chained.loose; link = i.chained.link };
      }),
      ap view_of same ∙ seen,
    )

-- a pin is set or given up
pub pins : (t u : HeldTable) (i : IsTable t) (s : ℕ) (on : Bool) → s < t.limit → (slots (plain_of t) s ≡ None → on ≡ false) → u ≡ record t { pins = u.pins } → u.pins.items ≡ set t.pins.items s (flag on)
    → IsTable u × (view_of u ≡ with_pin (view_of t) s on)
pins t u i s on lt off same items =
    let v : HeldTable = record t { pins = u.pins } in
    let inside : s < length t.pins.items = let m = i.words.as_many_pins in omega (arith, lt, m) in
    let w : Content = with_pin (view_of t) s on in
    let unpinned : (y : ℕ) → slots (plain_of t) y ≡ None → put_at (is_set t.pins.items) s on y ≡ false = λ y none. elim (cases_eq y s) [
      | inl e ↦ ap (put_at (is_set t.pins.items) s on) e ∙ put_at-same (is_set t.pins.items) s on ∙ off (ap (slots (plain_of t)) (sym e) ∙ none)
      | inr ne ↦ put_at-other (is_set t.pins.items) s y on ne ∙ i.sound.unpinned y none
    ] in
    let sound : IsSound w = held_sound (view_of t) (view_of t).count (view_of t).generation (view_of t).marked (put_at (is_set t.pins.items) s on) true i.sound i.sound.few_counts i.sound.uncounted unpinned in
    let pinned : w.pinned ≡ is_set u.pins.items = sym (ap (λ (l : List ℕ). is_set l) items ∙ flags_put t.pins.items s on inside (set t.pins.items s (flag on)) refl) in
    let seen : view_of v ≡ w = settled v w sound refl refl refl refl refl refl pinned refl refl in (
      subst IsTable (sym same) (record {
        sound = subst IsSound (sym seen) sound;
        words = record {
          as_many = i.words.as_many;
          as_many_nexts = i.words.as_many_nexts;
          as_many_counts = i.words.as_many_counts;
          as_many_pins = ap (λ (l : List ℕ). length l) items ∙ length-set t.pins.items s (flag on) ∙ i.words.as_many_pins;
          some_heads = i.words.some_heads;
          few_heads = i.words.few_heads;
          fits = i.words.fits;
        };
        free = record { list = record { free = i.free.list.free; once = i.free.list.once; all = i.free.list.all }; first = i.free.first; below = i.free.below; beyond = i.free.beyond; room = i.free.room };
        chained = record { on = i.chained.on; chain = i.chained.chain; chains = i.chained.chains; on_used = i.chained.on_used; complete = i.chained.complete; loose = i.chained.loose; link = i.chained.link };
      }),
      ap view_of same ∙ seen,
    )

-- two neighbours of an order are exchanged
pub exchanges_variables : (t u : HeldTable) (i : IsTable t) (level : ℕ) (due : Option Due) → CanExchange (view_of t) Variables level → u ≡ record t { variables_at = u.variables_at; half = None; due = due } → u.variables_at.items ≡ swap t.variables_at.items level (level + 1)
    → IsTable u × (view_of u ≡ record (view_of t) { orders = exchanged (view_of t).orders Variables level; half = None })
exchanges_variables t u i level due can same items =
    let v : HeldTable = record t { variables_at = u.variables_at; half = None; due = due } in
    let w : Content = record (view_of t) { orders = exchanged (view_of t).orders Variables level; half = None } in
    let sound = exchanged_sound (view_of t) i.sound Variables level can in
    let seen : view_of v ≡ w = settled v w sound (ap (λ (xs : List ℕ). record (view_of t).orders { variables = xs }) (sym items)) refl refl refl refl refl refl refl refl in (
      subst IsTable (sym same) (record {
        sound = subst IsSound (sym seen) sound;
        words = record { as_many = i.words.as_many; as_many_nexts = i.words.as_many_nexts; as_many_counts = i.words.as_many_counts; as_many_pins = i.words.as_many_pins; some_heads = i.words.some_heads; few_heads = i.words.few_heads; fits = i.words.fits };
        free = record { list = record { free = i.free.list.free; once = i.free.list.once; all = i.free.list.all }; first = i.free.first; below = i.free.below; beyond = i.free.beyond; room = i.free.room };
        chained = record { on = i.chained.on; chain = i.chained.chain; chains = i.chained.chains; on_used = i.chained.on_used; complete = i.chained.complete; loose = i.chained.loose; link = i.chained.link };
      }),
      ap view_of same ∙ seen,
    )

pub exchanges_elements : (t u : HeldTable) (i : IsTable t) (level : ℕ) (due : Option Due) → CanExchange (view_of t) Elements level → u ≡ record t { elements_at = u.elements_at; half = None; due = due } → u.elements_at.items ≡ swap t.elements_at.items level (level + 1)
    → IsTable u × (view_of u ≡ record (view_of t) { orders = exchanged (view_of t).orders Elements level; half = None })
exchanges_elements t u i level due can same items =
    let v : HeldTable = record t { elements_at = u.elements_at; half = None; due = due } in
    let w : Content = record (view_of t) { orders = exchanged (view_of t).orders Elements level; half = None } in
    let sound = exchanged_sound (view_of t) i.sound Elements level can in
    let seen : view_of v ≡ w = settled v w sound (ap (λ (xs : List ℕ). record (view_of t).orders { elements = xs }) (sym items)) refl refl refl refl refl refl refl refl in (
      subst IsTable (sym same) (record {
        sound = subst IsSound (sym seen) sound;
        words = record { as_many = i.words.as_many; as_many_nexts = i.words.as_many_nexts; as_many_counts = i.words.as_many_counts; as_many_pins = i.words.as_many_pins; some_heads = i.words.some_heads; few_heads = i.words.few_heads; fits = i.words.fits };
        free = record { list = record { free = i.free.list.free; once = i.free.list.once; all = i.free.list.all }; first = i.free.first; below = i.free.below; beyond = i.free.beyond; room = i.free.room };
        chained = record { on = i.chained.on; chain = i.chained.chain; chains = i.chained.chains; on_used = i.chained.on_used; complete = i.chained.complete; loose = i.chained.loose; link = i.chained.link };
      }),
      ap view_of same ∙ seen,
    )
