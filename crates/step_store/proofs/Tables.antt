-- What a table with one user tells of its words and chains.
use Rattle.std.proofs.Common.{◌≡◌, inl, inr, ℕ, zero, suc, ◌-◌, ◌<◌, ◌≤◌, List, [], ◌∷◌, ◌++◌, length, set, cond, Option, Some, None, refl, ap, sym, ◌∙◌, subst, arith}
use Rattle.std.specs.Prelude.{option_map, slice_index}
use Rattle.std.specs.List.{range_with_len}
use Rattle.std.proofs.lemmas.Bool.{cases_eq, cases_lt, lt-ltb, le-ltb}
use Rattle.std.proofs.lemmas.List.{get_or-set_same, get_or-set_other, get_or_past}
use Rattle.std.proofs.lemmas.List.FromFn.{get_or-range_with_len, length-range_with_len}
use Rattle.edge_bits.specs.declared.edges.Kind.{Kind}
use Rattle.edge_bits.specs.declared.edges.Kind.TheVariants.{Bdd, Add, Zdd}
use Rattle.edge_bits.specs.declared.words.Word.{Word}
use Rattle.edge_bits.specs.Permanent.{first_element}
use Rattle.edge_bits.specs.Reading.{element_of, plain}
use Rattle.edge_bits.specs.Words.{unpack_of}
use Rattle.function_laws.specs.Kinds.{Denoted, BddFunction, AddFunction, ZddFamily}
use Rattle.function_laws.proofs.ValueLemmas.{everywhere}
use Rattle.node_store.specs.Changes.{put_at}
use Rattle.node_store.specs.Contents.{is_used}
use Rattle.node_store.specs.Views.{IsFunction, IsVariable}
use Rattle.node_store.specs.ViewLaws.{Is-from}
use Rattle.node_store.proofs.Rewriting.{put_at-same, put_at-other}
use Rattle.node_slots.specs.Stores.{Plain, content_of, level_in, plain_view, slots}
use Rattle.node_slots.proofs.Calls.{opens_word}
use Rattle.node_slots.proofs.Settling.{settled_sound, slot_denotes}
use Rattle.step_store.specs.declared.hand.Chain.{Chain}
use Rattle.step_store.specs.declared.table.Core.{Core}
use Rattle.step_store.specs.declared.table.PlainTable.{PlainTable}
use Rattle.step_store.specs.Chains.{Along, Lists, head_of, link_to}
use Rattle.step_store.specs.Knowing.{IsAbsent, IsChain, IsMet, Meets, Walk}
use Rattle.step_store.specs.Plain.{IsCore, chain_in, known_of, links_along, store_of, walk_of, word_at}
use Rattle.step_store.specs.TableLaws.{slot_within, word_there}
use Rattle.step_store.proofs.Chaining.{along_link, along_list, along_next, once_short}
use Rattle.step_store.proofs.Packing.{packs_back}
use Rattle.step_store.proofs.Passing.{some_same}

-- a list with one number changed, as a function
pub set_at : (l : List ℕ) (i x : ℕ) → i < length l → slice_index (set l i x) ≡ put_at (slice_index l) i x
set_at l i x lt = everywhere (slice_index (set l i x)) (put_at (slice_index l) i x) (λ j. elim (cases_eq j i) [
  | inl e ↦ ap (slice_index (set l i x)) e ∙ get_or-set_same l i x 0 lt ∙ sym (ap (put_at (slice_index l) i x) e ∙ put_at-same (slice_index l) i x)
  | inr ne ↦ get_or-set_other l i j x 0 ne ∙ sym (put_at-other (slice_index l) i j x ne)
])

pub walk_is : (t : Core) (o : Option Chain) (n : Walk) → option_map (walk_of t) o ≡ Some n → (c : Chain) × (o ≡ Some c) × (n ≡ walk_of t c)
walk_is t None n e = cc
walk_is t (Some c) n e = (c, refl, sym (some_same (walk_of t c) n e))

-- the numbers of levels stand in order
pub ascending_at : (n v : ℕ) → v < n → slice_index (range_with_len 0 n) v ≡ v
ascending_at n v lt = let e = get_or-range_with_len 0 n v 0 lt in omega (arith, e)

no_lists : (front : List ℕ) (s : ℕ) (behind : List ℕ) → [] ≡ front ++ s ∷ behind → ⊥
no_lists [] s behind e = cc
no_lists (x ∷ xs) s behind e = cc

module _ (t : Core) (i : IsCore t) where
  abbrev p : Plain
  p = store_of t

  on_within : (h s : ℕ) → h < length t.heads.items → Lists (i.chained.chain h) s → (3 ≤ s) × (s < length t.words.items) × ((word : Word) × (slots p s ≡ Some word))
  on_within h s lt is = let o = i.chained.on_used s (i.chained.chains.only h s lt is).0 in (o.0, slot_within t s o.1 o.2, (o.1, o.2))

  pub few : (h : ℕ) → h < length t.heads.items → length (i.chained.chain h) ≤ t.limit
  few h lt = once_short (i.chained.chain h) t.limit (i.chained.chains.once h lt) (λ s is. let w = (on_within h s lt is).1 in let m = i.as_many in omega (arith, w, m))

  -- the chain of a head is the one that its links tell
  pub chain_known : (h : ℕ) → h < length t.heads.items → chain_in t h ≡ i.chained.chain h
  chain_known h lt = along_list (slice_index t.nexts.items) (slice_index t.heads.items h) (i.chained.chain h) t.limit (i.chained.chains.along h lt) (few h lt)

  pub head_link : (h : ℕ) → h < length t.heads.items → slice_index t.heads.items h ≡ link_to (chain_in t h)
  head_link h lt = along_link (slice_index t.nexts.items) (slice_index t.heads.items h) (i.chained.chain h) (i.chained.chains.along h lt) ∙ ap link_to (sym (chain_known h lt))

  pub head_chain : (h : ℕ) → h < length t.heads.items → IsChain (length t.words.items) (chain_in t h)
  head_chain h lt = subst (λ (l : List ℕ). IsChain (length t.words.items) l) (sym (chain_known h lt)) (record {
    each = λ s is. let o = on_within h s lt is in (o.0, o.1);
    few = (let f = few h lt in let m = i.as_many in omega (arith, f, m));
  })

  beyond : (h : ℕ) → length t.heads.items ≤ h → chain_in t h ≡ []
  beyond h le = ap (links_along t.limit (slice_index t.nexts.items)) (get_or_past t.heads.items h 0 le) ∙ at t.limit
    where
      at : (n : ℕ) → links_along n (slice_index t.nexts.items) 0 ≡ []
      at zero = refl
      at (suc n) = refl

  pub next_link : (h s : ℕ) (front behind : List ℕ) → chain_in t h ≡ front ++ s ∷ behind → slice_index t.nexts.items s ≡ link_to behind
  next_link h s front behind is = elim (cases_lt h (length t.heads.items)) [
    | inl lt ↦ along_next (slice_index t.nexts.items) (slice_index t.heads.items h) front s behind (subst (λ (l : List ℕ). Along (slice_index t.nexts.items) (slice_index t.heads.items h) l) (sym (chain_known h lt) ∙ is) (i.chained.chains.along h lt))
    | inr le ↦ absurd (no_lists front s behind (sym (beyond h le) ∙ is))
  ]

  pub listed_used : (h s : ℕ) → Lists (chain_in t h) s → (s < length t.words.items) × ((word : Word) × (slots p s ≡ Some word))
  listed_used h s is = elim (cases_lt h (length t.heads.items)) [
    | inl lt ↦ (let o = on_within h s lt (subst (λ (l : List ℕ). Lists l s) (chain_known h lt) is) in (o.1, o.2))
    | inr le ↦ absurd (subst (λ (l : List ℕ). Lists l s) (beyond h le) is)
  ]

  function_there : (s : ℕ) (f : Denoted) → content_of p s ≡ Some f → IsFunction (plain_view p) (plain s)
  function_there s (BddFunction f) is = (Bdd, Is-from Bdd (slot_denotes p i.store Bdd s f is))
  function_there s (AddFunction f) is = (Add, Is-from Add (slot_denotes p i.store Add s f is))
  function_there s (ZddFamily f) is = (Zdd, Is-from Zdd (slot_denotes p i.store Zdd s f is))

  -- of a word that is loaded
  pub word_noted : (s : ℕ) (word : Word) → slots p s ≡ Some word → word_at t.words.items s ≡ Some (slice_index t.words.items s)
  word_noted s word is = ap (λ (o : Option Word). cond (is_used o) (Some (slice_index t.words.items s)) None) is

  -- two slots with one word have the same bits
  pub same_bits : (s bits : ℕ) (word : Word) → bits < 18446744073709551616 → unpack_of bits ≡ Some word → slots p s ≡ Some word → slice_index t.words.items s ≡ bits
  same_bits s bits word small reads is = packs_back (slice_index t.words.items s) word (i.fits s) is ∙ sym (packs_back bits word small reads)

module _ (t : PlainTable) (i : IsCore t.core) where
  abbrev q : Plain
  q = store_of t.core

  pub met_used : (s : ℕ) → IsMet (known_of t) s → (word : Word) × (slots q s ≡ Some word)
  met_used s (inl f) = word_there t.core i.store s f.0 f.1
  met_used s (inr n) =
      let w = walk_is t.core t.chain n.0 n.1 in
      (listed_used t.core i w.0.head s (subst (λ (x : Walk). Lists x.rest s) w.2 n.2)).1

  pub next_inside : (s : ℕ) → (n : Walk) × (option_map (walk_of t.core) t.chain ≡ Some n) × Lists n.rest s → s < length t.core.nexts.items
  next_inside s n =
      let w = walk_is t.core t.chain n.0 n.1 in
      let l = (listed_used t.core i w.0.head s (subst (λ (x : Walk). Lists x.rest s) w.2 n.2)).0 in
      let a = i.as_many in let b = i.as_many_nexts in omega (arith, l, a, b)

  pub word_met : (s : ℕ) (word : Word) → slots q s ≡ Some word → Meets (known_of t) s (slice_index t.core.words.items s) word
  word_met s word is =
      let sound = settled_sound q i.store in
      let f = sound.denotes s (word, is) in record {
        noted = word_noted t.core i s word is;
        is = function_there t.core i s f.0 f.1;
        opens = λ e at j d. opens_word q i.store j e word d (ap (slots q) at ∙ is);
      }

  -- a word that a walk found nowhere stands nowhere
  pub absent_word : (bits : ℕ) (word : Word) → bits < 18446744073709551616 → t.core.loose ≡ None → IsAbsent (known_of t) bits word → (s : ℕ) → 3 ≤ s → slots q s ≡ Some word → ⊥
  absent_word bits word small calm a s high is =
      let same = same_bits t.core i s bits word small a.reads is in
      elim (i.chained.complete s word high is) [
        | inl on ↦ (
            let l = i.chained.chains.listed s on in
            let h : ℕ = head_of (length t.core.heads.items) (slice_index t.core.words.items s) in
            let w = walk_is t.core t.chain a.walk a.is in
            let at : a.walk.head ≡ h = a.head ∙ ap (head_of (length t.core.heads.items)) (sym same) in
            let rest : a.walk.rest ≡ chain_in t.core h = ap (λ (x : Walk). x.rest) w.2 ∙ ap (chain_in t.core) (ap (λ (x : Walk). x.head) (sym w.2) ∙ at) in
            let o = a.others s (subst (λ (l : List ℕ). Lists l s) (sym (rest ∙ chain_known t.core i h l.0)) l.1) in
            o.2 (some_same o.0 (slice_index t.core.words.items s) (sym o.1 ∙ word_noted t.core i s word is) ∙ same))
        | inr loose ↦ (let e : ◌≡◌ {A = Option ℕ} None (Some s) = sym calm ∙ loose in cc)
      ]

  vars_are : length (range_with_len 0 t.core.vars) ≡ t.core.vars
  vars_are = length-range_with_len 0 t.core.vars

  pub level_low : (k : Kind) (v : ℕ) → IsVariable k (plain_view q) v → v < first_element → v ≡ level_in q v
  level_low Bdd v is lt = let e = ascending_at t.core.vars v (let a = is.1 in let b = vars_are in omega (arith, a, b)) in rw (lt-ltb v first_element lt) (sym e)
  level_low Add v is lt = let e = ascending_at t.core.vars v (let a = is.1 in let b = vars_are in omega (arith, a, b)) in rw (lt-ltb v first_element lt) (sym e)
  level_low Zdd v is lt = let a = is.0 in absurd (omega (arith, a, lt))

  pub level_high : (k : Kind) (v : ℕ) → IsVariable k (plain_view q) v → first_element ≤ v → v - first_element ≡ level_in q v
  level_high Bdd v is le = let a = is.0 in absurd (omega (arith, a, le))
  level_high Add v is le = let a = is.0 in absurd (omega (arith, a, le))
  level_high Zdd v is le =
      let n = length-range_with_len 0 t.core.elements in
      let e = ascending_at t.core.elements (element_of v) (let a = is.0 in let b = is.1 in omega (arith, a, b, n)) in rw (le-ltb v first_element le) (sym e)
