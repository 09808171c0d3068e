-- What a table with one holder tells of its words and chains.
use Rattle.std.proofs.Common.{◌≡◌, inl, inr, ⊎_elim, ℕ, zero, suc, ◌<◌, ◌≤◌, true, List, [], ◌∷◌, ◌++◌, length, max, Option, Some, None, refl, ap, sym, ◌∙◌, subst, arith}
use Rattle.std.specs.Prelude.{option_map, slice_index}
use Rattle.std.proofs.lemmas.Bool.{cases_lt}
use Rattle.std.proofs.lemmas.List.{get_or_past}
use Rattle.edge_bits.specs.declared.words.Word.{Word}
use Rattle.function_laws.specs.Sizes.{Orders}
use Rattle.node_store.specs.Contents.{Content, IsSound}
use Rattle.node_slots.specs.Stores.{count_at, generation_at, is_set, longest, slots}
use Rattle.node_slots.proofs.HeldLaws.{content_settled}
use Rattle.step_store.specs.declared.hand.Chain.{Chain}
use Rattle.step_store.specs.Chains.{Along, Lists, link_to}
use Rattle.step_store.specs.Knowing.{Walk}
use Rattle.step_store.specs.Plain.{links_along}
use Rattle.step_store.proofs.Chaining.{along_link, along_list, along_next, once_short}
use Rattle.step_store.proofs.Passing.{some_same}
use Rattle.hold_store.specs.Held.{IsWhole}
use Rattle.held_table.specs.declared.table.HeldTable.{HeldTable}
use Rattle.held_table.specs.Tables.{IsTable, chain_in, half_of, known_of, plain_of, view_of, walk_of}

-- a table whose words, orders and counts are those of a sound content is seen as that
pub settled : (u : HeldTable) (w : Content) → IsSound w → w.orders ≡ (view_of u).orders → w.limit ≡ length u.words.items → w.word ≡ slots (plain_of u) → w.count ≡ count_at (plain_of u) → w.generation ≡ generation_at (plain_of u)
    → w.marked ≡ is_set [] → w.pinned ≡ is_set u.pins.items → w.sweeping ≡ true → w.half ≡ half_of u → view_of u ≡ w
settled u w sound orders limit words count generation marked pinned sweeping half =
    let p = plain_of u in
    let functions = content_settled p w sound words
    (subst (λ (o : Orders). length o.variables ≤ longest p) (sym orders) (omega (arith, max)))
    (subst (λ (o : Orders). length o.elements ≤ longest p) (sym orders) (omega (arith, max))) in
    λ i. record {
      orders = sym orders i;
      limit = sym limit i;
      word = sym words i;
      function = functions i;
      count = sym count i;
      generation = sym generation i;
      marked = sym marked i;
      pinned = sym pinned i;
      sweeping = sym sweeping i;
      half = sym half i;
    }

pub walk_is : (t : HeldTable) (o : Option Chain) (n : Walk) → option_map (walk_of t) o ≡ Some n → (c : Chain) × (o ≡ Some c) × (n ≡ walk_of t c)
walk_is t None n e = cc
walk_is t (Some c) n e = (c, refl, sym (some_same (walk_of t c) n e))

no_lists : (front : List ℕ) (s : ℕ) (behind : List ℕ) → [] ≡ front ++ s ∷ behind → ⊥
no_lists [] s behind e = cc
no_lists (x ∷ xs) s behind e = cc

pub none_from : (next : ℕ → ℕ) (n link : ℕ) → link ≡ 0 → links_along n next link ≡ []
none_from next n link is = ap (links_along n next) is ∙ at n
  where
    at : (n : ℕ) → links_along n next 0 ≡ []
    at zero = refl
    at (suc n) = refl

module _ (t : HeldTable) (i : IsTable t) where
  pub within : (s : ℕ) (word : Word) → slots (plain_of t) s ≡ Some word → s < t.limit
  within s word is = let w = i.sound.within s (word, is) in let m = i.words.as_many in omega (arith, w, m)

  on_within : (h s : ℕ) → h < length t.heads.items → Lists (i.chained.chain h) s → (3 ≤ s) × (s < t.limit) × ((word : Word) × (slots (plain_of t) s ≡ Some word))
  on_within h s lt is = let o = i.chained.on_used s (i.chained.chains.only h s lt is).0 in (o.0, within s o.1 o.2, (o.1, o.2))

  pub few : (h : ℕ) → h < length t.heads.items → length (i.chained.chain h) ≤ t.limit
  few h lt = once_short (i.chained.chain h) t.limit (i.chained.chains.once h lt) (λ s is. (on_within h s lt is).1)

  -- the chain of a head is the one that its links tell
  pub chain_known : (h : ℕ) → h < length t.heads.items → chain_in t h ≡ i.chained.chain h
  chain_known h lt = along_list (slice_index t.nexts.items) (slice_index t.heads.items h) (i.chained.chain h) t.limit (i.chained.chains.along h lt) (few h lt)

  pub beyond : (h : ℕ) → length t.heads.items ≤ h → chain_in t h ≡ []
  beyond h le = none_from (slice_index t.nexts.items) t.limit (slice_index t.heads.items h) (get_or_past t.heads.items h 0 le)

  pub head_link : (h : ℕ) → h < length t.heads.items → slice_index t.heads.items h ≡ link_to (chain_in t h)
  head_link h lt = along_link (slice_index t.nexts.items) (slice_index t.heads.items h) (i.chained.chain h) (i.chained.chains.along h lt) ∙ ap link_to (sym (chain_known h lt))

  pub whole : (h level : ℕ) → h < length t.heads.items → IsWhole (known_of t) h level (chain_in t h)
  whole h level lt = subst (IsWhole (known_of t) h level) (sym (chain_known h lt)) (record {
    chained = record {
      each = λ s is. (let o = on_within h s lt is in (o.0, (let l = o.1 in let m = i.words.as_many in omega (arith, l, m))));
      few = (let f = few h lt in let m = i.words.as_many in omega (arith, f, m));
    };
    used = λ s is. (on_within h s lt is).2;
    all = λ s of. ⊎_elim
        (λ on. inr (subst (λ (x : ℕ). Lists (i.chained.chain x) s) (sym of.head_is) (i.chained.chains.listed s on).1))
        inl (i.chained.complete s of.word of.high of.has);
  })

  pub next_link : (h s : ℕ) (front behind : List ℕ) → chain_in t h ≡ front ++ s ∷ behind → slice_index t.nexts.items s ≡ link_to behind
  next_link h s front behind is = elim (cases_lt h (length t.heads.items)) [
    | inl lt ↦ along_next (slice_index t.nexts.items) (slice_index t.heads.items h) front s behind (subst (λ (l : List ℕ). Along (slice_index t.nexts.items) (slice_index t.heads.items h) l) (sym (chain_known h lt) ∙ is) (i.chained.chains.along h lt))
    | inr le ↦ absurd (no_lists front s behind (sym (beyond h le) ∙ is))
  ]

  -- a chain with slots is one of a head
  pub head_within : (h s : ℕ) (front behind : List ℕ) → chain_in t h ≡ front ++ s ∷ behind → h < length t.heads.items
  head_within h s front behind is = elim (cases_lt h (length t.heads.items)) [
    | inl lt ↦ lt
    | inr le ↦ absurd (no_lists front s behind (sym (beyond h le) ∙ is))
  ]

  pub listed_used : (h s : ℕ) → Lists (chain_in t h) s → s < t.limit
  listed_used h s is = elim (cases_lt h (length t.heads.items)) [
    | inl lt ↦ (on_within h s lt (subst (λ (l : List ℕ). Lists l s) (chain_known h lt) is)).1
    | inr le ↦ absurd (subst (λ (l : List ℕ). Lists l s) (beyond h le) is)
  ]

  pub walk_inside : (s : ℕ) → (n : Walk) × (option_map (walk_of t) t.walk ≡ Some n) × Lists n.rest s → s < t.limit
  walk_inside s n = let w = walk_is t t.walk n.0 n.1 in listed_used w.0.head s (subst (λ (x : Walk). Lists x.rest s) w.2 n.2)
