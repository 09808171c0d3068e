-- What the steps of a table with one user leave.
use Rattle.std.proofs.Common.{◌≡◌, ◌≢◌, ◌⊎◌, inl, inr, ℕ, zero, suc, ◌+◌, ◌<◌, ◌≤◌, Bool, true, false, cond, eq-eqb, List, [], ◌∷◌, length, set, length-set, Option, Some, None, refl, ap, sym, ◌∙◌, subst, arith}
use Rattle.std.specs.Prelude.{nat_lt, option_map, slice_index}
use Rattle.std.specs.List.{range_with_len}
use Rattle.std.proofs.lemmas.Bool.{cases_eq, cases_lt, le-ltb, lt-ltb}
use Rattle.std.proofs.lemmas.List.{get_or-set_other, get_or-set_same, get_or_past}
use Rattle.edge_bits.specs.declared.edges.Edge.{Edge}
use Rattle.edge_bits.specs.declared.edges.Kind.{Kind}
use Rattle.edge_bits.specs.declared.edges.Kind.TheVariants.{Bdd, Add, Zdd}
use Rattle.edge_bits.specs.declared.words.Word.{Word}
use Rattle.edge_bits.specs.declared.words.Word.TheVariants.{Inner, Leaf}
use Rattle.edge_bits.specs.Permanent.{empty_slot, first_element}
use Rattle.edge_bits.specs.Reading.{plain}
use Rattle.edge_bits.specs.Words.{unpack_of}
use Rattle.function_laws.specs.Kinds.{Denoted, values_of}
use Rattle.node_store.specs.Changes.{put_at}
use Rattle.node_store.specs.Contents.{is_used}
use Rattle.node_store.specs.Edges.{flip_if}
use Rattle.node_store.specs.Views.{CanMake, Denotes, Grown, IsProper, node_values, values_at}
use Rattle.node_store.proofs.Parting.{same_kind}
use Rattle.node_store.proofs.Rewriting.{put_at-same, put_at-other}
use Rattle.node_slots.specs.Placing.{HasNoChild}
use Rattle.node_slots.specs.Stores.{AreRemembered, HasNoFree, IsStore, IsUnknown, Plain, content_of, plain_view, refused_function, slots}
use Rattle.node_slots.proofs.Answering.{value_fits}
use Rattle.node_slots.proofs.Calls.{node_kept}
use Rattle.node_slots.proofs.Making.{due_node, leaf_placed, lent-kept, lent-store, missing_leaf, missing_node, node_placed, refused-store, unknown_leaf, unknown_nodes, with_words}
use Rattle.node_slots.proofs.Calls.{permanent_is}
use Rattle.step_store.specs.declared.hand.Link.{Link}
use Rattle.step_store.specs.declared.hand.Taken.{Taken}
use Rattle.step_store.specs.declared.job.Job.{Job}
use Rattle.step_store.specs.declared.job.Job.TheVariants as jobs
use Rattle.step_store.specs.declared.table.Core.{Core}
use Rattle.step_store.specs.declared.hand.Chain.{Chain}
use Rattle.step_store.specs.Chains.{Along, Chains, Lists, head_of}
use Rattle.step_store.specs.Knowing.{HasWord, IsDue, MayMake, MayStore, without_level, word_of}
use Rattle.step_store.specs.Plain.{IsCore, IsDueIn, chain_in, levels_of, links_along, refused_of, store_of, walk_of, word_at}
use Rattle.step_store.proofs.Chaining.{along_kept, along_list, apart, pushes, stores_link, stores_word}
use Rattle.step_store.proofs.Passing.{none_some, some_same}
use Rattle.step_store.proofs.Placements.{may_store-grown}
use Rattle.step_store.specs.TableLaws.{slot_within}
use Rattle.step_store.proofs.Tables.{chain_known, few, set_at}

-- a truth is one or the other
off_or : (b : Bool) → (b ≡ true → ⊥) → b ≡ false
off_or true no_true = absurd (no_true refl)
off_or false no_true = refl

-- a slot is taken off the free list
pub takes : (t : Core) (i : IsCore t) (bits : ℕ) (word : Word) → bits < 18446744073709551616 → t.first_free < t.limit → t.taken ≡ None → unpack_of bits ≡ Some word → MayStore (plain_view (store_of t)) word
    → ((s : ℕ) → 3 ≤ s → slots (store_of t) s ≡ Some word → ⊥) → IsCore (record t { first_free = t.first_free + 1; taken = Some (record { slot = t.first_free; bits = bits }); link = None })
takes t i bits word small lt calm reads may absent = record {
  store = i.store;
  as_many = i.as_many;
  as_many_nexts = i.as_many_nexts;
  some_heads = i.some_heads;
  few_heads = i.few_heads;
  few_fulls = i.few_fulls;
  fits = i.fits;
  slots_taken = record {
    first = omega (arith, lt);
    free = λ s le. i.slots_taken.free s (omega (arith, le));
    used = λ s below. elim (cases_eq s t.first_free) [
      | inl e ↦ inr (record { slot = t.first_free; bits = bits }, refl, sym e)
      | inr ne ↦ elim (i.slots_taken.used s (omega (arith, below, ne))) [
        | inl w ↦ inl w
        | inr y ↦ absurd (none_some y.0 (sym calm ∙ y.1))
      ]
    ];
    taken = λ x is. subst (IsDueIn (record t { first_free = t.first_free + 1; taken = Some (record { slot = t.first_free; bits = bits }); link = None })) (some_same (record { slot = t.first_free; bits = bits }) x is) (record {
      below = omega arith;
      free = i.slots_taken.free t.first_free (omega arith);
      word = word;
      reads = reads;
      fits = small;
      may = may;
      absent = absent;
    });
  };
  chained = record {
    on = i.chained.on;
    chain = i.chained.chain;
    chains = i.chained.chains;
    on_used = i.chained.on_used;
    complete = i.chained.complete;
    loose = i.chained.loose;
    link = λ x is. absurd (none_some x is);
  };
}

-- a node that may be stored is none of its children
no_child : (p : Plain) → IsStore p → (v : ℕ) (hi lo : Edge) → MayStore (plain_view p) (word_of (jobs.Node v hi lo)) → HasNoChild v hi lo
no_child p st v hi lo may = record { differ = λ lt same. by_pair may.0 may.1 may.2 lt same; member = λ le at. by_empty may.0 may.1 may.2 le at }
  where
    alike : (c : Bool) (n : ℕ) → flip_if c (record { index = n; complement = c }) ≡ plain n
    alike true n = refl
    alike false n = refl

    by_pair : (k : Kind) → CanMake k (plain_view p) v (plain hi.index) (flip_if hi.complement lo) → IsProper k (values_at k (plain_view p) (plain hi.index)) (values_at k (plain_view p) (flip_if hi.complement lo)) → v < first_element → hi ≡ lo → ⊥
    by_pair Bdd can proper lt same = proper (ap (values_at Bdd (plain_view p)) (sym (ap (flip_if hi.complement) (sym same) ∙ alike hi.complement hi.index)))
    by_pair Add can proper lt same = proper (ap (values_at Add (plain_view p)) (sym (ap (flip_if hi.complement) (sym same) ∙ alike hi.complement hi.index)))
    by_pair Zdd can proper lt same = let a = can.in_range.0 in absurd (omega (arith, a, lt))

    by_empty : (k : Kind) → CanMake k (plain_view p) v (plain hi.index) (flip_if hi.complement lo) → IsProper k (values_at k (plain_view p) (plain hi.index)) (values_at k (plain_view p) (flip_if hi.complement lo)) → first_element ≤ v → hi.index ≡ empty_slot → ⊥
    by_empty Bdd can proper le at = let a = can.in_range.0 in absurd (omega (arith, a, le))
    by_empty Add can proper le at = let a = can.in_range.0 in absurd (omega (arith, a, le))
    by_empty Zdd can proper le at = proper (ap (λ (s : ℕ). values_of Zdd (content_of p s)) at ∙ ap (values_of Zdd) (permanent_is p st).empty)

-- the free list is given back empty
module _ (t : Core) (i : IsCore t) (n : ℕ) (job : Job) where
  no_free : t.limit ≤ t.first_free → t.taken ≡ None → HasNoFree (store_of t)
  no_free full calm s lt is = elim (i.slots_taken.used s (let m = i.as_many in omega (arith, m, lt, full))) [
    | inl w ↦ none_some w.0 (sym is ∙ w.1)
    | inr y ↦ none_some y.0 (sym calm ∙ y.1)
  ]

  missing : (job : Job) → MayMake (plain_view (store_of t)) job → MayStore (plain_view (store_of t)) (word_of job) → ((s : ℕ) → 3 ≤ s → slots (store_of t) s ≡ Some (word_of job) → ⊥)
      → (f : Denoted) → refused_function (content_of (store_of t)) (Some (refused_of job)) ≡ Some f → IsUnknown (store_of t) f
  missing (jobs.Node v hi lo) can may absent = missing_node (store_of t) i.store can.0 v hi lo can.1 (unknown_nodes (store_of t) i.store v hi lo (no_child (store_of t) i.store v hi lo may) absent)
  missing (jobs.Leaf x) value may absent = missing_leaf (store_of t) i.store x (unknown_leaf (store_of t) i.store x absent)

  pub refuses : t.fulls ≤ n → n < 18446744073709551616 → t.limit ≤ t.first_free → t.taken ≡ None → MayMake (plain_view (store_of t)) job → MayStore (plain_view (store_of t)) (word_of job)
      → ((s : ℕ) → 3 ≤ s → slots (store_of t) s ≡ Some (word_of job) → ⊥) → IsCore (record t { fulls = n; due = Some job })
  refuses more few full calm can may absent = record {
    store = refused-store (store_of t) i.store n (Some (refused_of job)) more (no_free full calm) (missing job can may absent);
    as_many = i.as_many;
    as_many_nexts = i.as_many_nexts;
    some_heads = i.some_heads;
    few_heads = i.few_heads;
    few_fulls = few;
    fits = i.fits;
    slots_taken = record { first = i.slots_taken.first; free = i.slots_taken.free; used = i.slots_taken.used; taken = λ x is. absurd (none_some x (sym calm ∙ is)) };
    chained = record { on = i.chained.on; chain = i.chained.chain; chains = i.chained.chains; on_used = i.chained.on_used; complete = i.chained.complete; loose = i.chained.loose; link = i.chained.link };
  }

pub refused_due : (t : Core) (n : ℕ) (job : Job) → IsDue (plain_view (store_of t)) (plain_view (store_of (record t { fulls = n; due = Some job }))) job
refused_due t n (jobs.Node v hi lo) = λ k can. due_node (store_of t) n k v hi lo can
refused_due t n (jobs.Leaf x) = refl

-- an answer was kept, or the scratch was lent or given back
pub remembers : (t u : Core) (i : IsCore t) → u ≡ record t { memo = u.memo } → AreRemembered (plain_view (store_of t)) u.memo → IsCore u
remembers t u i same kept = subst IsCore (sym same) (record {
  store = lent-store (store_of t) i.store (store_of t).scratch_room u.memo kept;
  as_many = i.as_many;
  as_many_nexts = i.as_many_nexts;
  some_heads = i.some_heads;
  few_heads = i.few_heads;
  few_fulls = i.few_fulls;
  fits = i.fits;
  slots_taken = record { first = i.slots_taken.first; free = i.slots_taken.free; used = i.slots_taken.used; taken = λ x is. (let d = i.slots_taken.taken x is in record { below = d.below; free = d.free; word = d.word; reads = d.reads; fits = d.fits; may = d.may; absent = d.absent }) };
  chained = record { on = i.chained.on; chain = i.chained.chain; chains = i.chained.chains; on_used = i.chained.on_used; complete = i.chained.complete; loose = i.chained.loose; link = i.chained.link };
})

pub lends : (t u : Core) (i : IsCore t) → u ≡ record t { scratch = u.scratch } → IsCore u
lends t u i same = subst IsCore (sym same) (record {
  store = lent-store (store_of t) i.store (store_of u).scratch_room t.memo i.store.remembered;
  as_many = i.as_many;
  as_many_nexts = i.as_many_nexts;
  some_heads = i.some_heads;
  few_heads = i.few_heads;
  few_fulls = i.few_fulls;
  fits = i.fits;
  slots_taken = record {
    first = i.slots_taken.first;
    free = i.slots_taken.free;
    used = i.slots_taken.used;
    taken = λ x is. (let d = i.slots_taken.taken x is in record {
      below = d.below;
      free = d.free;
      word = d.word;
      reads = d.reads;
      fits = d.fits;
      may = may_store-grown (plain_view (store_of t)) (plain_view (store_of (record t { scratch = u.scratch }))) d.word (lent-kept (store_of t) i.store (store_of u).scratch_room t.memo).grown d.may;
      absent = d.absent;
    });
  };
  chained = record { on = i.chained.on; chain = i.chained.chain; chains = i.chained.chains; on_used = i.chained.on_used; complete = i.chained.complete; loose = i.chained.loose; link = i.chained.link };
})

-- a link is stored in a slot of the user's own
pub owner_off : (t : Core) (i : IsCore t) (s : ℕ) → ((x : Taken) × (t.taken ≡ Some x) × (x.slot ≡ s)) ⊎ (t.loose ≡ Some s) → (i.chained.on s ≡ false) × (s < t.limit)
owner_off t i s (inl x) =
    let d = i.slots_taken.taken x.0 x.1 in
    let free : slots (store_of t) s ≡ None = ap (slots (store_of t)) (sym x.2) ∙ d.free in
    (off_or (i.chained.on s) (λ on. let o = i.chained.on_used s on in none_some o.1 (sym free ∙ o.2)), (let b = d.below in let f = i.slots_taken.first in let e = x.2 in omega (arith, b, f, e)))
owner_off t i s (inr loose) = let l = i.chained.loose s loose in (l.0, (let w = slot_within t s l.2 l.3 in let m = i.as_many in omega (arith, w, m)))

pub links : (t u : Core) (i : IsCore t) (s x : ℕ) → u ≡ record t { nexts = u.nexts; link = Some (record { slot = s; next = x }) } → u.nexts.items ≡ set t.nexts.items s x
    → ((y : Taken) × (t.taken ≡ Some y) × (y.slot ≡ s)) ⊎ (t.loose ≡ Some s) → IsCore u
links t u i s x same items owns =
    let off = owner_off t i s owns in
    let lt : s < length t.nexts.items = let m = i.as_many_nexts in let o = off.1 in omega (arith, m, o) in
    let next : slice_index u.nexts.items ≡ put_at (slice_index t.nexts.items) s x = ap (λ (l : List ℕ). slice_index l) items ∙ set_at t.nexts.items s x lt in
    let c = i.chained.chains in
    subst IsCore (sym same) (record {
      store = i.store;
      as_many = i.as_many;
      as_many_nexts = ap (λ (l : List ℕ). length l) items ∙ length-set t.nexts.items s x ∙ i.as_many_nexts;
      some_heads = i.some_heads;
      few_heads = i.few_heads;
      few_fulls = i.few_fulls;
      fits = i.fits;
      slots_taken = record { first = i.slots_taken.first; free = i.slots_taken.free; used = i.slots_taken.used; taken = λ y is. (let d = i.slots_taken.taken y is in record { below = d.below; free = d.free; word = d.word; reads = d.reads; fits = d.fits; may = d.may; absent = d.absent }) };
      chained = record {
        on = i.chained.on;
        chain = i.chained.chain;
        chains = subst (λ (f : ℕ → ℕ). Chains (length t.heads.items) (slice_index t.heads.items) f (head_of (length t.heads.items)) (slice_index t.words.items) i.chained.on i.chained.chain) (sym next)
            (stores_link (length t.heads.items) (slice_index t.heads.items) (slice_index t.nexts.items) (head_of (length t.heads.items)) (slice_index t.words.items) i.chained.on i.chained.chain c s x off.0);
        on_used = i.chained.on_used;
        complete = i.chained.complete;
        loose = i.chained.loose;
        link = λ y is. (let e = some_same (record { slot = s; next = x }) y is in
            subst (λ (z : Link). slice_index u.nexts.items z.slot ≡ z.next) e (ap (λ (f : ℕ → ℕ). f s) next ∙ put_at-same (slice_index t.nexts.items) s x));
      };
    })

-- a word is stored in the slot that was taken for it
pub record StoredAs (p : Plain) (s bits : ℕ) (word : Word) : Type 0 where
  pub store : IsStore (with_words p (set p.words s bits))
  pub grown : Grown (plain_view p) (plain_view (with_words p (set p.words s bits)))
  pub has : HasWord (plain_view p) (plain_view (with_words p (set p.words s bits))) s word
  pub made : (y : ℕ) → (plain_view (with_words p (set p.words s bits))).made y ≡ true → ((plain_view p).made y ≡ true) ⊎ (s ≡ y)
  pub due : (plain_view (with_words p (set p.words s bits))).due ≡ (plain_view p).due

pub stored_as : (p : Plain) → IsStore p → (s bits : ℕ) (word : Word) → s < length p.words → unpack_of bits ≡ Some word → MayStore (plain_view p) word → slots p s ≡ None → ((y : ℕ) → 3 ≤ y → slots p y ≡ Some word → ⊥) → StoredAs p s bits word
stored_as p st s bits (Leaf x) within reads value free absent =
    let d = leaf_placed p st x (value_fits x value) (set p.words s bits) s (record { within = within; way = inr (record { absent = absent; free = free; bits = bits; reads = reads; is = refl }) }) in
    record { store = d.store; grown = d.grown; has = d.denotes; made = d.made; due = d.due }
stored_as p st s bits (Inner node) within reads may free absent =
    let k : Kind = may.0 in
    let d = node_placed p st k node.var (plain node.hi) node.lo may.1 (node_kept p st k node may.1 may.2) (set p.words s bits) s (record { within = within; way = inr (record { absent = absent; free = free; bits = bits; reads = reads; is = refl }) }) in
    record {
      store = d.store;
      grown = d.grown;
      has = λ j can. (
          let one : k ≡ j = same_kind k j (values_at k (plain_view p) (plain node.hi)) (values_at j (plain_view p) (plain node.hi)) (some_same _ _ (sym may.1.hi_is.is ∙ can.hi_is.is)) in
          subst (λ (j : Kind). Denotes j (plain_view (with_words p (set p.words s bits))) (plain s) (node_values j (plain_view p) node.var (plain node.hi) node.lo)) one d.denotes);
      made = d.made;
      due = d.due;
    }

free_high : (t : Core) (i : IsCore t) (s : ℕ) → slots (store_of t) s ≡ None → 3 ≤ s
free_high t i s is = elim (cases_lt s 5) [
  | inl lt ↦ absurd (none_some _ (sym is ∙ i.store.permanent.constants s lt))
  | inr le ↦ omega (arith, le)
]

pub stores : (t u : Core) (i : IsCore t) (s bits : ℕ) → t.taken ≡ Some (record { slot = s; bits = bits }) → t.loose ≡ None → u ≡ record t { words = u.words; taken = None; loose = Some s } → u.words.items ≡ set t.words.items s bits
    → ((word : Word) → unpack_of bits ≡ Some word → StoredAs (store_of t) s bits word) × IsCore u
stores t u i s bits taken calm same items =
    let d = i.slots_taken.taken (record { slot = s; bits = bits }) taken in
    let lt : s < length t.words.items = let b = d.below in let f = i.slots_taken.first in let m = i.as_many in omega (arith, b, f, m) in
    let done : StoredAs (store_of t) s bits d.word = stored_as (store_of t) i.store s bits d.word lt d.reads d.may d.free d.absent in
    let word_is : slice_index u.words.items ≡ put_at (slice_index t.words.items) s bits = ap (λ (l : List ℕ). slice_index l) items ∙ set_at t.words.items s bits lt in
    let here : unpack_of (slice_index u.words.items s) ≡ Some d.word = ap (λ (f : ℕ → ℕ). unpack_of (f s)) word_is ∙ ap unpack_of (put_at-same (slice_index t.words.items) s bits) ∙ d.reads in
    let other : (y : ℕ) → y ≢ s → slice_index u.words.items y ≡ slice_index t.words.items y = λ y ne. ap (λ (f : ℕ → ℕ). f y) word_is ∙ put_at-other (slice_index t.words.items) s y bits ne in
    let off : i.chained.on s ≡ false = off_or (i.chained.on s) (λ on. let o = i.chained.on_used s on in none_some o.1 (sym d.free ∙ o.2)) in (
      λ word reads. subst (StoredAs (store_of t) s bits) (some_same d.word word (sym d.reads ∙ reads)) done,
      subst IsCore (sym same) (record {
        store = subst (λ (l : List ℕ). IsStore (with_words (store_of t) l)) (sym items) done.store;
        as_many = ap (λ (l : List ℕ). length l) items ∙ length-set t.words.items s bits ∙ i.as_many;
        as_many_nexts = i.as_many_nexts;
        some_heads = i.some_heads;
        few_heads = i.few_heads;
        few_fulls = i.few_fulls;
        fits = λ y. elim (cases_eq y s) [
          | inl e ↦ (let v = ap (slice_index u.words.items) e ∙ ap (λ (f : ℕ → ℕ). f s) word_is ∙ put_at-same (slice_index t.words.items) s bits in subst (λ n. n < 18446744073709551616) (sym v) d.fits)
          | inr ne ↦ subst (λ n. n < 18446744073709551616) (sym (other y ne)) (i.fits y)
        ];
        slots_taken = record {
          first = i.slots_taken.first;
          free = λ y le. ap unpack_of (other y (λ e. let b = d.below in omega (arith, b, le, e))) ∙ i.slots_taken.free y le;
          used = λ y below. elim (cases_eq y s) [
            | inl e ↦ inl (d.word, ap (λ (z : ℕ). unpack_of (slice_index u.words.items z)) e ∙ here)
            | inr ne ↦ elim (i.slots_taken.used y below) [
              | inl w ↦ inl (w.0, ap unpack_of (other y ne) ∙ w.1)
              | inr x ↦ absurd (ne (sym x.2 ∙ ap (λ (z : Taken). z.slot) (some_same x.0 (record { slot = s; bits = bits }) (sym x.1 ∙ taken))))
            ]
          ];
          taken = λ x is. absurd (none_some x is);
        };
        chained = record {
          on = i.chained.on;
          chain = i.chained.chain;
          chains = subst (λ (f : ℕ → ℕ). Chains (length t.heads.items) (slice_index t.heads.items) (slice_index t.nexts.items) (head_of (length t.heads.items)) f i.chained.on i.chained.chain) (sym word_is)
              (stores_word (length t.heads.items) (slice_index t.heads.items) (slice_index t.nexts.items) (head_of (length t.heads.items)) (slice_index t.words.items) i.chained.on i.chained.chain i.chained.chains s bits off);
          on_used = λ y on. (let o = i.chained.on_used y on in (o.0, o.1, ap unpack_of (other y (apart i.chained.on s y off on)) ∙ o.2));
          complete = λ y word high is. elim (cases_eq y s) [
            | inl e ↦ inr (ap (λ (z : ℕ). Some z) (sym e))
            | inr ne ↦ elim (i.chained.complete y word high (ap unpack_of (sym (other y ne)) ∙ is)) [
              | inl on ↦ inl on
              | inr loose ↦ absurd (none_some y (sym calm ∙ loose))
            ]
          ];
          loose = λ y is. subst (λ (z : ℕ). (i.chained.on z ≡ false) × (3 ≤ z) × (word : Word) × (unpack_of (slice_index u.words.items z) ≡ Some word)) (some_same s y is) (off, free_high t i s d.free, d.word, here);
          link = i.chained.link;
        };
      }),
    )

-- the slot is put before the others of its chain
pub chains_slot : (t u : Core) (i : IsCore t) (h s link b : ℕ) → t.loose ≡ Some s → t.link ≡ Some (record { slot = s; next = link }) → slice_index t.heads.items h ≡ link → h < length t.heads.items → slice_index t.words.items s ≡ b → h ≡ head_of (length t.heads.items) b
    → u ≡ record t { heads = u.heads; loose = None; link = None } → u.heads.items ≡ set t.heads.items h (suc s) → IsCore u
chains_slot t u i h s link b loose linked found lt word_is head_is same items =
    let n : ℕ = length t.heads.items in
    let c = i.chained.chains in
    let l = i.chained.loose s loose in
    let at : head_of n (slice_index t.words.items s) ≡ h = ap (head_of n) word_is ∙ sym head_is in
    let head : slice_index u.heads.items ≡ put_at (slice_index t.heads.items) h (suc s) = ap (λ (l : List ℕ). slice_index l) items ∙ set_at t.heads.items h (suc s) lt in
    let next : slice_index t.nexts.items s ≡ link = i.chained.link (record { slot = s; next = link }) linked in
    let pushed = pushes n (slice_index t.heads.items) (slice_index t.nexts.items) (head_of n) (slice_index t.words.items) i.chained.on i.chained.chain c s l.0 (subst (λ x. x < n) (sym at) lt)
    (ap (slice_index t.heads.items) at ∙ found ∙ sym next) in
    let many : length u.heads.items ≡ n = ap (λ (l : List ℕ). length l) items ∙ length-set t.heads.items h (suc s) in
    let head2 : put_at (slice_index t.heads.items) (head_of n (slice_index t.words.items s)) (suc s) ≡ slice_index u.heads.items = ap (λ (x : ℕ). put_at (slice_index t.heads.items) x (suc s)) at ∙ sym head in
    subst IsCore (sym same) (record {
      store = i.store;
      as_many = i.as_many;
      as_many_nexts = i.as_many_nexts;
      some_heads = subst (λ x. 0 < x) (sym many) i.some_heads;
      few_heads = subst (λ x. x < 4294967296) (sym many) i.few_heads;
      few_fulls = i.few_fulls;
      fits = i.fits;
      slots_taken = record { first = i.slots_taken.first; free = i.slots_taken.free; used = i.slots_taken.used; taken = λ y is. (let d = i.slots_taken.taken y is in record { below = d.below; free = d.free; word = d.word; reads = d.reads; fits = d.fits; may = d.may; absent = d.absent }) };
      chained = record {
        on = put_at i.chained.on s true;
        chain = put_at i.chained.chain (head_of n (slice_index t.words.items s)) (s ∷ i.chained.chain (head_of n (slice_index t.words.items s)));
        chains = subst (λ (y : ℕ × (ℕ → ℕ)). Chains y.0 y.1 (slice_index t.nexts.items) (head_of y.0) (slice_index t.words.items) (put_at i.chained.on s true) (put_at i.chained.chain (head_of n (slice_index t.words.items s)) (s ∷ i.chained.chain (head_of n (slice_index t.words.items s)))))
            (λ j. (sym many j, head2 j)) pushed;
        on_used = λ y on. elim (cases_eq y s) [
          | inl e ↦ subst (λ (z : ℕ). (3 ≤ z) × (word : Word) × (unpack_of (slice_index t.words.items z) ≡ Some word)) (sym e) (l.1, l.2, l.3)
          | inr ne ↦ i.chained.on_used y (sym (put_at-other i.chained.on s y true ne) ∙ on)
        ];
        complete = λ y word high is. inl (elim (cases_eq y s) [
          | inl e ↦ ap (put_at i.chained.on s true) e ∙ put_at-same i.chained.on s true
          | inr ne ↦ put_at-other i.chained.on s y true ne ∙ elim (i.chained.complete y word high is) [
            | inl on ↦ on
            | inr other ↦ absurd (ne (some_same y s (sym other ∙ loose)))
          ]
        ]);
        loose = λ y is. absurd (none_some y is);
        link = λ y is. absurd (none_some y is);
      };
    })

-- the chains are the same where a link was stored off them
pub links_chain : (t u : Core) (i : IsCore t) (s x : ℕ) → u ≡ record t { nexts = u.nexts; link = Some (record { slot = s; next = x }) } → u.nexts.items ≡ set t.nexts.items s x
    → ((y : Taken) × (t.taken ≡ Some y) × (y.slot ≡ s)) ⊎ (t.loose ≡ Some s) → (h : ℕ) → chain_in u h ≡ chain_in t h
links_chain t u i s x same items owns h = subst (λ (v : Core). chain_in v h ≡ chain_in t h) (sym same) (elim (cases_lt h (length t.heads.items)) [
  | inl lt ↦ (
      let off = owner_off t i s owns in
      let inside : s < length t.nexts.items = let m = i.as_many_nexts in let o = off.1 in omega (arith, m, o) in
      let next : slice_index u.nexts.items ≡ put_at (slice_index t.nexts.items) s x = ap (λ (l : List ℕ). slice_index l) items ∙ set_at t.nexts.items s x inside in
      let along = along_kept (slice_index t.nexts.items) i.chained.on s x (slice_index t.heads.items h) (i.chained.chain h) off.0 (λ y is. (i.chained.chains.only h y lt is).0) (i.chained.chains.along h lt) in
      along_list (slice_index u.nexts.items) (slice_index t.heads.items h) (i.chained.chain h) t.limit (subst (λ (f : ℕ → ℕ). Along f (slice_index t.heads.items h) (i.chained.chain h)) (sym next) along) (few t i h lt) ∙ sym (chain_known t i h lt))
  | inr le ↦ beyond_links (slice_index u.nexts.items) t.limit (slice_index t.heads.items h) (get_or_past t.heads.items h 0 le) ∙ sym (beyond_links (slice_index t.nexts.items) t.limit (slice_index t.heads.items h) (get_or_past t.heads.items h 0 le))
])
  where
    none_from : (next : ℕ → ℕ) (n : ℕ) → links_along n next 0 ≡ []
    none_from next zero = refl
    none_from next (suc n) = refl

    beyond_links : (next : ℕ → ℕ) (n link : ℕ) → link ≡ 0 → links_along n next link ≡ []
    beyond_links next n link zero_link = ap (links_along n next) zero_link ∙ none_from next n

pub links_walk : (t u : Core) → ((h : ℕ) → chain_in u h ≡ chain_in t h) → (o : Option Chain) → option_map (walk_of u) o ≡ option_map (walk_of t) o
links_walk t u same None = refl
links_walk t u same (Some c) = ap (λ (l : List ℕ). Some (record { head = c.head; level = c.level; rest = l })) (same c.head)

-- the free list in hand
pub free_some : (b : Bool) (a n s : ℕ) (ss : List ℕ) → cond b (Some (range_with_len a n)) None ≡ Some (s ∷ ss) → 0 < n
free_some true a zero s ss e = let c : [] ≡ s ∷ ss = some_same [] (s ∷ ss) e in cc
free_some true a (suc n) s ss e = omega arith
free_some false a n s ss e = cc

pub free_none : (b : Bool) (a n : ℕ) → cond b (Some (range_with_len a n)) None ≡ Some [] → n ≡ 0
free_none true a zero e = refl
free_none true a (suc n) e = let c : a ∷ range_with_len (a + 1) n ≡ [] = some_same (a ∷ range_with_len (a + 1) n) [] e in cc
free_none false a n e = cc

pub free_more : (b : Bool) (a n : ℕ) (l : List ℕ) → cond b (Some (range_with_len a n)) None ≡ Some l → 0 < n → (s : ℕ) × (ss : List ℕ) × (cond b (Some (range_with_len a n)) None ≡ Some (s ∷ ss))
free_more true a zero l e some = absurd (omega (arith, some))
free_more true a (suc n) l e some = (a, range_with_len (a + 1) n, refl)
free_more false a n l e some = cc

pub free_less : (b : Bool) (a n : ℕ) (l : List ℕ) → cond b (Some (range_with_len a n)) None ≡ Some l → n ≡ 0 → cond b (Some (range_with_len a n)) None ≡ Some []
free_less true a n l e none = ap (λ (m : ℕ). Some (range_with_len a m)) none
free_less false a n l e none = cc

pub lt_of : (a b : ℕ) → nat_lt a b ≡ true → a < b
lt_of a b is = elim (cases_lt a b) [
  | inl lt ↦ lt
  | inr le ↦ (let e : false ≡ true = sym (le-ltb a b le) ∙ is in cc)
]

pub le_of : (a b : ℕ) → nat_lt a b ≡ false → b ≤ a
le_of a b is = elim (cases_lt a b) [
  | inl lt ↦ (let e : true ≡ false = sym (lt-ltb a b lt) ∙ is in cc)
  | inr le ↦ le
]

-- the turn that is in hand is the one that is given back
pub gives_level : (o : Option ℕ) (level : ℕ) → Lists (levels_of o) level → without_level level (levels_of o) ≡ []
gives_level None level is = absurd is
gives_level (Some l) level (inl e) = ap (λ b. cond b [] (l ∷ [])) (eq-eqb l level e)
gives_level (Some l) level (inr e) = absurd e

-- the bits of a word that is noted
pub noted_bits : (x : Bool) (n b : ℕ) → cond x (Some n) None ≡ Some b → n ≡ b
noted_bits true n b e = some_same n b e
noted_bits false n b e = cc

-- the words that are noted, with one more
pub stored_words : (words : List ℕ) (s bits : ℕ) (word : Word) → s < length words → unpack_of (slice_index words s) ≡ None → unpack_of bits ≡ Some word
    → ((y b : ℕ) → word_at words y ≡ Some b → word_at (set words s bits) y ≡ Some b) × (word_at (set words s bits) s ≡ Some bits)
stored_words words s bits word inside free reads = (
  λ y b h. elim (cases_eq y s) [
    | inl e ↦ absurd (none_some b (sym (ap (λ (o : Option Word). cond (is_used o) (Some (slice_index words s)) None) free) ∙ ap (word_at words) (sym e) ∙ h))
    | inr ne ↦ ap (λ (n : ℕ). cond (is_used (unpack_of n)) (Some n) None) (get_or-set_other words s y bits 0 ne) ∙ h
  ],
  ap (λ (n : ℕ). cond (is_used (unpack_of n)) (Some n) None) (get_or-set_same words s bits 0 inside) ∙ ap (λ (o : Option Word). cond (is_used o) (Some bits) None) reads,
)
