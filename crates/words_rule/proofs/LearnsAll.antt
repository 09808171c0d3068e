-- Under the order hold a seat learns the whole store at one load.
use Rattle.std.proofs.Common.{◌≡◌, ◌≢◌, ◌⊎◌, ℕ, zero, suc, ◌+◌, ◌<◌, ◌≤◌, ◌==◌, ◌&&◌, cond, Bool, true, false, List, [], ◌∷◌, set, length, Some, None, option_map, refl, ap, sym, ◌∙◌, subst, inl, inr, ⊎_elim, arith, eq-eqb, ne_eqb}
use Rattle.std.specs.Prelude as std
use Rattle.std.proofs.lemmas.Bool.{cases_eq, cases_lt}
use mathlib.Core.Logic.{dite}
use mathlib.Core.Option.{Option, none, some, some-injective}
use native.Mathlib.Decide.{ℕ_discrete}
use lib.ListN.{get_elem?}
use lib.Seq.{set-get_or}
use Rattle.atomic_table.specs.Table.{Me, step, keeps, Allows}
use Rattle.atomic_table.proofs.Lists.{at_map, set_else}
use Rattle.edge_bits.specs.declared.words.Word.{Word}
use Rattle.function_laws.specs.declared.history.Function.{Function}
use Rattle.function_laws.specs.Kinds.{Denoted}
use Rattle.function_laws.specs.SessionEntries.{Each}
use Rattle.function_laws.specs.Sizes.{Orders}
use Rattle.function_laws.specs.EntryOrders.{opening_orders, orders_from}
use Rattle.handle_count.specs.CountWords.{count_of, generation_of}
use Rattle.node_store.specs.Contents.{Content, IsSound}
use Rattle.words_rule.specs.declared.cell.Cell.{Cell}
use Rattle.words_rule.specs.declared.view.Held.{Held}
use Rattle.words_rule.specs.declared.view.Hold.TheVariants.{Holding}
use Rattle.words_rule.specs.declared.view.SeenWord.{SeenWord}
use Rattle.words_rule.specs.declared.view.SlotCount.{SlotCount}
use Rattle.words_rule.specs.declared.view.SlotGeneration.{SlotGeneration}
use Rattle.words_rule.specs.declared.view.View.{View}
use Rattle.words_rule.specs.Views.{orders_of, sizes_for, told_orders}
use Rattle.words_rule.specs.Shapes.{shape_in}
use Rattle.words_rule.specs.Layout.{Shape, Words, content_of, words_of}
use Rattle.words_rule.specs.Kept.{IsHeldBy, whole_of}
use Rattle.words_rule.specs.Known.{denoted_in, is_among, met_in, noted_bits, noted_function, word_in}
use Rattle.words_rule.specs.declared.view.Neighbours.{Neighbours}
use Rattle.words_rule.specs.Halves.{half_in, pair_of}
use Rattle.words_rule.specs.Phase.{footing_of}
use Rattle.words_rule.specs.HeldContents.{KnowsAll, held_content, noted_age, noted_count, or_zero}
use Rattle.words_rule.specs.Holders.{IsAge}
use Rattle.words_rule.specs.HolderPlays.{NotesCounted, NotesStay, all_learnt}
use Rattle.words_rule.specs.Moves.{HasNoted}
use Rattle.words_rule.specs.Ordered.{KnowsOrders}
use Rattle.words_rule.specs.Rule.{FullHolder, HalfHolder, Parts, Rule, footings_in, tallies_in}
use Rattle.words_rule.specs.Seen.{HasShare, KeepsSlots, StandsSo}
use Rattle.words_rule.specs.Tallies.{one_if, times}
use Rattle.words_rule.proofs.CountLoads.{counted_denotes, none_own}
use Rattle.words_rule.proofs.CountedNotes.{each_noted, noted_below, noted_stays, noted_there}
use Rattle.words_rule.proofs.Draws.{by_full, by_pending, one_still}
use Rattle.words_rule.proofs.HolderKnows.{counted, decoded}
use Rattle.words_rule.proofs.Learning.{below, noting_function, parts_noting, with_notes, words_at}
use Rattle.words_rule.proofs.Lists.{each_set, set_at}
use Rattle.words_rule.proofs.Noting.{MayNote, may_note, parts_noted}
use Rattle.words_rule.proofs.Pinning.{parts_zero}
use Rattle.words_rule.proofs.Phases.{one_order}
use Rattle.words_rule.proofs.Rewrites.{order_by_full, parts_known}
use Rattle.words_rule.proofs.Stepping.{shape_is}
use Rattle.words_rule.proofs.Storing.{edge_at}
use Rattle.words_rule.proofs.Tabling.{set_set}
use Rattle.words_rule.proofs.Tallying.{counts_small}
use Rattle.words_rule.proofs.Working.{parts_work}
use Rattle.free_list.specs.FreeSlots.{FreeSlots}

-- what is noted of these slots

abbrev seen_if : Shape → ℕ → std.Option Denoted → List Held → List Held
seen_if z s (Some f) notes = edge_at s (whole_of z f) ∷ notes
seen_if z s None notes = notes

abbrev seen_at : Shape → (ℕ → std.Option Denoted) → List ℕ → List Held
seen_at z function [] = []
seen_at z function (s ∷ l) = seen_if z s (function s) (seen_at z function l)

abbrev ages_at : (ℕ → ℕ) → List ℕ → List SlotGeneration
ages_at count [] = []
ages_at count (s ∷ l) = record { slot = s; generation = generation_of (count s) } ∷ ages_at count l

abbrev counts_at : (ℕ → ℕ) → List ℕ → List SlotCount
counts_at count [] = []
counts_at count (s ∷ l) = record { slot = s; count = count_of (count s) } ∷ counts_at count l

abbrev zeros_if : ℕ → ℕ → List ℕ → List ℕ
zeros_if s zero zeros = s ∷ zeros
zeros_if s (suc n) zeros = zeros

-- the slots among the first n whose count is 0, before others
abbrev zeros_below : (ℕ → ℕ) → ℕ → List ℕ → List ℕ
zeros_below count zero zeros = zeros
zeros_below count (suc n) zeros = zeros_if n (count_of (count n)) (zeros_below count n zeros)

-- a view with these zeros
abbrev with_zeros : View → List ℕ → View
with_zeros v zeros = record v { counts = record v.counts { zeros = zeros } }

-- each is true
each_word : (node : ℕ → ℕ) (P : SeenWord → Type 0) → ((s : ℕ) → P (record { slot = s; bits = node s })) → (l : List ℕ) → Each P (words_at node l)
each_word node P is [] = tt
each_word node P is (s ∷ l) = (is s, each_word node P is l)

each_seen : (z : Shape) (function : ℕ → std.Option Denoted) (l : List ℕ) → Each (IsHeldBy z function) (seen_at z function l)
each_seen z function [] = tt
each_seen z function (s ∷ l) = by (function s) refl (each_seen z function l)
  where
    by : (o : std.Option Denoted) → function s ≡ o → Each (IsHeldBy z function) (seen_at z function l) → Each (IsHeldBy z function) (seen_if z s o (seen_at z function l))
    by (Some f) is all = ((f, is, refl), all)
    by None is all = all

each_age : (count : ℕ → ℕ) (l : List ℕ) → Each (IsAge count) (ages_at count l)
each_age count [] = tt
each_age count (s ∷ l) = (refl, each_age count l)

-- and found again
word_there : (node : ℕ → ℕ) (n s : ℕ) → s < n → noted_bits (words_at node (below n)) s ≡ Some (node s)
word_there node zero s lt = absurd (omega (arith, lt))
word_there node (suc n) s lt = elim (cases_eq n s) [
  | inl e ↦ ap (λ c. cond c (Some (node n)) (noted_bits (words_at node (below n)) s)) (eq-eqb n s e) ∙ ap (λ t. Some (node t)) e
  | inr ne ↦ ap (λ c. cond c (Some (node n)) (noted_bits (words_at node (below n)) s)) (ne_eqb n s ne) ∙ word_there node n s (omega (arith, lt, ne))
]

word_beyond : (node : ℕ → ℕ) (n s : ℕ) → n ≤ s → noted_bits (words_at node (below n)) s ≡ None
word_beyond node zero s le = refl
word_beyond node (suc n) s le = ap (λ c. cond c (Some (node n)) (noted_bits (words_at node (below n)) s)) (ne_eqb n s (λ e. omega (arith, e, le))) ∙ word_beyond node n s (omega (arith, le))

age_there : (count : ℕ → ℕ) (n s : ℕ) → s < n → noted_age (ages_at count (below n)) s ≡ Some (generation_of (count s))
age_there count zero s lt = absurd (omega (arith, lt))
age_there count (suc n) s lt = elim (cases_eq n s) [
  | inl e ↦ ap (λ c. cond c (Some (generation_of (count n))) (noted_age (ages_at count (below n)) s)) (eq-eqb n s e) ∙ ap (λ t. Some (generation_of (count t))) e
  | inr ne ↦ ap (λ c. cond c (Some (generation_of (count n))) (noted_age (ages_at count (below n)) s)) (ne_eqb n s ne) ∙ age_there count n s (omega (arith, lt, ne))
]

count_there : (count : ℕ → ℕ) (n s : ℕ) → s < n → noted_count (counts_at count (below n)) s ≡ Some (count_of (count s))
count_there count zero s lt = absurd (omega (arith, lt))
count_there count (suc n) s lt = elim (cases_eq n s) [
  | inl e ↦ ap (λ c. cond c (Some (count_of (count n))) (noted_count (counts_at count (below n)) s)) (eq-eqb n s e) ∙ ap (λ t. Some (count_of (count t))) e
  | inr ne ↦ ap (λ c. cond c (Some (count_of (count n))) (noted_count (counts_at count (below n)) s)) (ne_eqb n s ne) ∙ count_there count n s (omega (arith, lt, ne))
]

count_beyond : (count : ℕ → ℕ) (n s : ℕ) → n ≤ s → noted_count (counts_at count (below n)) s ≡ None
count_beyond count zero s le = refl
count_beyond count (suc n) s le = ap (λ c. cond c (Some (count_of (count n))) (noted_count (counts_at count (below n)) s)) (ne_eqb n s (λ e. omega (arith, e, le))) ∙ count_beyond count n s (omega (arith, le))

-- beyond them nothing is noted of what a slot denotes
seen_beyond : (z : Shape) (function : ℕ → std.Option Denoted) (n s : ℕ) → n ≤ s → noted_function (seen_at z function (below n)) s ≡ None
seen_beyond z function zero s le = refl
seen_beyond z function (suc n) s le = by (function n) (seen_beyond z function n s (omega (arith, le)))
  where
    by : (o : std.Option Denoted) → noted_function (seen_at z function (below n)) s ≡ None → noted_function (seen_if z n o (seen_at z function (below n))) s ≡ None
    by (Some f) rest = ap (λ c. cond (c && true) (Some (whole_of z f)) (noted_function (seen_at z function (below n)) s)) (ne_eqb n s (λ e. omega (arith, e, le))) ∙ rest
    by None rest = rest

seen_there : (z : Shape) (function : ℕ → std.Option Denoted) (n s : ℕ) → s < n → noted_function (seen_at z function (below n)) s ≡ option_map (whole_of z) (function s)
seen_there z function zero s lt = absurd (omega (arith, lt))
seen_there z function (suc n) s lt = elim (cases_eq n s) [
  | inl e ↦ here (function n) refl e
  | inr ne ↦ later (function n) ne (seen_there z function n s (omega (arith, lt, ne)))
]
  where
    here : (o : std.Option Denoted) → function n ≡ o → n ≡ s → noted_function (seen_if z n o (seen_at z function (below n))) s ≡ option_map (whole_of z) (function s)
    here (Some f) is e = ap (λ c. cond (c && true) (Some (whole_of z f)) (noted_function (seen_at z function (below n)) s)) (eq-eqb n s e) ∙ ap (option_map (whole_of z)) (sym is) ∙ ap (λ t. option_map (whole_of z) (function t)) e
    here None is e = seen_beyond z function n s (omega (arith, e)) ∙ ap (option_map (whole_of z)) (sym is) ∙ ap (λ t. option_map (whole_of z) (function t)) e

    later : (o : std.Option Denoted) → n ≢ s → noted_function (seen_at z function (below n)) s ≡ option_map (whole_of z) (function s) → noted_function (seen_if z n o (seen_at z function (below n))) s ≡ option_map (whole_of z) (function s)
    later (Some f) ne rest = ap (λ c. cond (c && true) (Some (whole_of z f)) (noted_function (seen_at z function (below n)) s)) (ne_eqb n s ne) ∙ rest
    later None ne rest = rest

-- a slot whose count is 0 is among the zeros, and so are those that were
some_more : (a b : ℕ) → 0 < b → 0 < a + b
some_more a b lt = omega (arith, lt)

one_more : (a b : ℕ) → a ≡ 1 → 0 < a + b
one_more a b is = omega (arith, is)

none_more : (a b : ℕ) → 0 < a + b → a ≡ 0 → 0 < b
none_more a b lt is = omega (arith, lt, is)

zero_more : (s n : ℕ) (zeros : List ℕ) (k : ℕ) → 0 < times k zeros → 0 < times k (zeros_if s n zeros)
zero_more s zero zeros k some_times = some_more (one_if (s == k)) (times k zeros) some_times
zero_more s (suc n) zeros k some_times = some_times

zero_there : (count : ℕ → ℕ) (n s : ℕ) (zeros : List ℕ) → s < n → count_of (count s) ≡ 0 → 0 < times s (zeros_below count n zeros)
zero_there count zero s zeros lt is = absurd (omega (arith, lt))
zero_there count (suc n) s zeros lt is = elim (cases_eq n s) [
  | inl e ↦ subst (λ (m : ℕ). 0 < times s (zeros_if n m (zeros_below count n zeros))) (sym is ∙ ap (λ t. count_of (count t)) (sym e)) (one_more (one_if (n == s)) (times s (zeros_below count n zeros)) (ap one_if (eq-eqb n s e)))
  | inr ne ↦ zero_more n (count_of (count n)) (zeros_below count n zeros) s (zero_there count n s zeros (omega (arith, lt, ne)) is)
]

-- and of those alone
zero_less : (s n : ℕ) (zeros : List ℕ) (k : ℕ) → 0 < times k (zeros_if s n zeros) → ((s ≡ k) × (n ≡ 0)) ⊎ (0 < times k zeros)
zero_less s zero zeros k some_times = elim (cases_eq s k) [
  | inl e ↦ inl (e, refl)
  | inr ne ↦ inr (none_more (one_if (s == k)) (times k zeros) some_times (ap one_if (ne_eqb s k ne)))
]
zero_less s (suc n) zeros k some_times = inr some_times

zero_means : (count : ℕ → ℕ) (n s : ℕ) → 0 < times s (zeros_below count n []) → count_of (count s) ≡ 0
zero_means count zero s some_times = absurd (not_less some_times)
  where
    not_less : 0 < 0 → ⊥
    not_less lt = omega (arith, lt)
zero_means count (suc n) s some_times = ⊎_elim (λ (here : (n ≡ s) × (count_of (count n) ≡ 0)). ap (λ t. count_of (count t)) (sym here.0) ∙ here.1) (λ more. zero_means count n s more) (zero_less n (count_of (count n)) (zeros_below count n []) s some_times)

-- counts, generations and pins are no matter of the store's soundness, but that a count is not too great, and a free slot has none
pub sound_counted : (w : Content) (c g : ℕ → ℕ) (p : ℕ → Bool) → IsSound w → ((s : ℕ) → c s < 4294967295) → ((s : ℕ) → w.word s ≡ None → c s ≡ 0) → ((s : ℕ) → w.word s ≡ None → p s ≡ false) → IsSound (counted w c g p)
sound_counted w c g p s few uncounted unpinned = record {
  variables = s.variables;
  elements = s.elements;
  few_variables = s.few_variables;
  few_elements = s.few_elements;
  within = s.within;
  few_slots = s.few_slots;
  denotes = s.denotes;
  used = s.used;
  constants = s.constants;
  logic_one = s.logic_one;
  empty_family = s.empty_family;
  base_family = s.base_family;
  projections = s.projections;
  nodes = λ t node f word is. let n = s.nodes t node f word is in record { kind = n.kind; high = n.high; low = n.low; in_range = n.in_range; high_is = n.high_is; low_is = n.low_is; is = n.is; high_lacks = n.high_lacks; low_lacks = n.low_lacks; proper = n.proper };
  leaves = s.leaves;
  apart = s.apart;
  regular = s.regular;
  of_store = s.of_store;
  ordered = s.ordered;
  few_counts = few;
  uncounted = uncounted;
  unpinned = unpinned;
}

module _ {S : Type 0} (board : S → List (std.Option Cell)) (free_slots : S → FreeSlots) (memo : S → List ℕ) where
  abbrev PartsOf : Shape → Words → (ℕ → Option (Option (std.Option S))) → List View → Type 0
  PartsOf = Parts board free_slots memo

  module _ (z : Shape) (ws : Words) (home : ℕ → Option (Option (std.Option S))) (vs : List View) (r : PartsOf z ws home vs) (id : ℕ) (v : View) (at : get_elem? vs id ≡ some v) where
    -- a seat notes generations, which are true where it holds the order
    pub parts_aging : (ages : List SlotGeneration) → (v.shares.order ≡ Holding → Each (IsAge ws.count) ages) → PartsOf z ws home (set vs id (record v { known = record v.known { ages = ages } }))
    parts_aging ages right =
        let w : View = record v { known = record v.known { ages = ages } } in
        parts_known board free_slots memo z ws home vs r id v at w.known ws.order r.orders r.pending r.half r.sound r.remembered r.tables r.positions
        (record {
          settled = λ nobody. r.ordered.settled (λ i u there holding. dite (ℕ_discrete i id)
              (λ same. nobody id w (set_at vs id v w at) (ap (λ (y : View). y.shares.order) (some-injective v u (sym at ∙ (ap (λ j. get_elem? vs j) (sym same) ∙ there))) ∙ holding))
              (λ apart. nobody i u (set_else vs id i w apart ∙ there) holding));
          shared = each_set (λ _ (y : View). KnowsOrders r.orders y) vs id w (λ i y apart there. r.ordered.shared i y there) (r.ordered.shared id v at);
          held = each_set (λ i (u : View). u.shares.order ≡ Holding → (orders_of u.known ≡ r.orders) × (told_orders u.known ≡ orders_from (opening_orders (sizes_for z.variables z.elements)) r.log)) vs id w
              (λ i u apart there. r.ordered.held i u there) (r.ordered.held id v at);
        })
        (by_full (r.half ≡ None) vs id v w at refl r.half_by) (by_pending r.pending vs id v w at refl refl r.pending_by)
        (record { words = (r.seen id v at).words; held = (r.seen id v at).held }) (right, (r.holders id v at).1) (λ i u apart there. r.holders i u there)

    -- who holds the order notes the functions of all slots that are counted
    parts_counted : (function : ℕ → std.Option Denoted) → r.function ≡ function → v.draws.live ≡ true → v.shares.order ≡ Holding → v.counts.pins ≡ [] → (n : ℕ)
        → PartsOf z ws home (set vs id (record v { counts = record v.counts { above = noted_below z function ws.count n v.counts.above } }))
    parts_counted function same live holding unpinned n = parts_noted board free_slots memo z ws home vs r id v at (noted_below z function ws.count n v.counts.above)
        (each_noted z function ws.count v.counts.above (MayNote board free_slots memo z ws home vs r id v at)
        (λ s f is lt. may_note board free_slots memo z ws home vs r id v at s f holding (ap (times s) unpinned) (ap (λ (g : ℕ → std.Option Denoted). g s) same ∙ is) lt)
        (r.sifts.noted id v at live) n)

    -- who holds the order, and knows of no swap, beside it none is half made
    settled_order : v.shares.order ≡ Holding → v.known.half ≡ None → r.half ≡ None
    settled_order holding noted = ⊎_elim (λ is. is) (λ (y : HalfHolder r.half vs).
        sym y.1 ∙ (ap (λ (u : View). half_in u.known) (alone y.0) ∙ ap (λ (o : std.Option Neighbours). option_map pair_of o) noted)) r.half_by
      where
        alone : (h : FullHolder vs) → h.1 ≡ v
        alone h = dite (ℕ_discrete h.0 id)
            (λ same. some-injective h.1 v (sym h.2 ∙ (ap (λ i. get_elem? vs i) same ∙ at)))
            (λ apart. absurd (one_order ws.phase (footings_in vs) r.phase id h.0 (footing_of v) (footing_of h.1) apart (at_map footing_of vs id v at) (at_map footing_of vs h.0 h.1 h.2) holding (order_by_full board free_slots memo z ws home vs r h.0 h.1 h.2 h.3)))

  -- the slots whose count is 0 are noted, one after another
  parts_zeros : (z : Shape) (ws : Words) (home : ℕ → Option (Option (std.Option S))) (vs : List View) (id : ℕ) (v : View) → get_elem? vs id ≡ some v → v.shares.order ≡ Holding → (zeros : List ℕ) (n : ℕ)
      → PartsOf z ws home (set vs id (with_zeros v zeros)) → PartsOf z ws home (set vs id (with_zeros v (zeros_below ws.count n zeros)))
  parts_zeros z ws home vs id v at holding zeros zero r = r
  parts_zeros z ws home vs id v at holding zeros (suc n) r = by (zeros_below ws.count n zeros) (count_of (ws.count n)) refl (parts_zeros z ws home vs id v at holding zeros n r)
    where
      by : (l : List ℕ) (m : ℕ) → count_of (ws.count n) ≡ m → PartsOf z ws home (set vs id (with_zeros v l)) → PartsOf z ws home (set vs id (with_zeros v (zeros_if n m l)))
      by l zero is rest = subst (PartsOf z ws home) (set_set vs id (with_zeros v l) (with_zeros v (n ∷ l))) (parts_zero board free_slots memo z ws home (set vs id (with_zeros v l)) rest id (with_zeros v l) (set_at vs id v (with_zeros v l) at) n holding is)
      by l (suc m) is rest = rest

  module _ (z : Shape) (ws : Words) (home : ℕ → Option (Option (std.Option S))) (vs : List View) (r : PartsOf z ws home vs) (id : ℕ) (v : View) (at : get_elem? vs id ≡ some v)
      (live : v.draws.live ≡ true) (holding : v.shares.order ≡ Holding) (unpinned : v.counts.pins ≡ []) (unzeroed : v.counts.zeros ≡ []) (unswapped : v.known.half ≡ None) (none_half : r.half ≡ None) where
    abbrev n : ℕ
    n = z.slots

    abbrev words : List SeenWord
    words = words_at ws.node (below n)

    abbrev seen : List Held
    seen = seen_at z r.function (below n)

    abbrev ages : List SlotGeneration
    ages = ages_at ws.count (below n)

    abbrev zeros : List ℕ
    zeros = zeros_below ws.count n v.counts.zeros

    abbrev counts : List SlotCount
    counts = counts_at ws.count (below n)

    abbrev above : List Function
    above = noted_below z r.function ws.count n v.counts.above

    abbrev v1 : View
    v1 = with_notes v words seen

    abbrev v2 : View
    v2 = record v1 { counts = record v1.counts { above = above } }

    abbrev v3 : View
    v3 = record v2 { known = record v2.known { ages = ages } }

    abbrev v4 : View
    v4 = record v3 { counts = record v3.counts { zeros = zeros } }

    abbrev pub learnt : View
    learnt = record v4 { work = record v4.work { counts = counts } }

    stand : HasShare v → Each (StandsSo ws.node v) words
    stand _ = each_word ws.node (StandsSo ws.node v) (λ s. (refl, λ _. holding)) (below n)

    are_held : KeepsSlots v → Each (IsHeldBy z r.function) seen
    are_held _ = each_seen z r.function (below n)

    pub parts_learnt : PartsOf z ws home (set vs id learnt)
    parts_learnt =
        let r1 = parts_noting board free_slots memo z ws home vs r id v at words seen stand are_held in
        let same = noting_function board free_slots memo z ws home vs r id v at words seen stand are_held in
        let r2 = subst (PartsOf z ws home) (set_set vs id v1 v2) (parts_counted z ws home (set vs id v1) r1 id v1 (set_at vs id v v1 at) r.function same live holding unpinned n) in
        let r3 = subst (PartsOf z ws home) (set_set vs id v2 v3) (parts_aging z ws home (set vs id v2) r2 id v2 (set_at vs id v v2 at) ages (λ _. each_age ws.count (below n))) in
        let r4 = subst (PartsOf z ws home) (set_set vs id v3 v4) (parts_zeros z ws home (set vs id v3) id v3 (set_at vs id v v3 at) holding v.counts.zeros n (subst (PartsOf z ws home) (sym (set_set vs id v3 v3)) r3)) in
        subst (PartsOf z ws home) (set_set vs id v4 learnt) (parts_work board free_slots memo z ws home (set vs id v4) r4 id v4 (set_at vs id v v4 at) (record v4.work { counts = counts }))

    abbrev w : Content
    w = content_of z ws.node r.orders r.function r.half

    shape : z ≡ shape_in v.draws
    shape = shape_is board free_slots memo z ws home vs r id v at live

    -- a slot behind the last is not in use
    free_behind : (s : ℕ) → n ≤ s → w.word s ≡ None
    free_behind s le = by (w.word s) refl
      where
        by : (x : std.Option Word) → w.word s ≡ x → w.word s ≡ None
        by None e = e
        by (Some word) e = absurd (let lt = r.sound.within s (word, e) in omega (arith, lt, le))

    no_function : (s : ℕ) → w.word s ≡ None → r.function s ≡ None
    no_function s free = by (r.function s) refl
      where
        never : (word : Word) → ◌≡◌ {A = std.Option Word} None (Some word) → ⊥
        never word e = cc

        by : (x : std.Option Denoted) → r.function s ≡ x → r.function s ≡ None
        by None e = e
        by (Some f) e = let u = r.sound.used s f e in absurd (never u.0 (sym free ∙ u.1))

    -- and a free one is not counted
    uncounted : (s : ℕ) → w.word s ≡ None → count_of (ws.count s) ≡ 0
    uncounted s free = by (count_of (ws.count s)) refl
      where
        never : (f : Denoted) → ◌≡◌ {A = std.Option Denoted} None (Some f) → ⊥
        never f e = cc

        by : (m : ℕ) → count_of (ws.count s) ≡ m → count_of (ws.count s) ≡ 0
        by zero e = e
        by (suc m) e =
            let has = counted_denotes board free_slots memo z ws home vs r id v at holding s (ap (times s) unpinned) (omega (arith, e)) in absurd (never has.0 (sym (no_function s free) ∙ has.1))

    word_same : (s : ℕ) → (held_content learnt).word s ≡ w.word s
    word_same s = elim (cases_lt s n) [
      | inl lt ↦ ap word_in (word_there ws.node n s lt)
      | inr le ↦ ap word_in (word_beyond ws.node n s le) ∙ sym (free_behind s le)
    ]

    function_same : (s : ℕ) → (held_content learnt).function s ≡ r.function s
    function_same s = elim (cases_lt s n) [
      | inl lt ↦ (λ i. met_in v.draws.vars (word_there ws.node n s lt i) (seen_there z r.function n s lt i)) ∙ by (r.function s) refl
      | inr le ↦ ap (λ x. met_in v.draws.vars x (noted_function seen s)) (word_beyond ws.node n s le) ∙ sym (no_function s (free_behind s le))
    ]
      where
        by : (o : std.Option Denoted) → r.function s ≡ o → met_in v.draws.vars (Some (ws.node s)) (option_map (whole_of z) (r.function s)) ≡ r.function s
        by (Some f) is = ap (λ x. met_in v.draws.vars (Some (ws.node s)) (option_map (whole_of z) x)) is ∙ ap Some (ap (λ m. denoted_in m (whole_of z f)) (ap (λ (y : Shape). y.variables) (sym shape)) ∙ decoded board free_slots memo z ws home vs r id v at s f is) ∙ sym is
        by None is = ap (λ x. met_in v.draws.vars (Some (ws.node s)) (option_map (whole_of z) x)) is ∙ sym is

    abbrev c : ℕ → ℕ
    c = (held_content learnt).count

    count_here : (s : ℕ) → s < n → c s ≡ count_of (ws.count s)
    count_here s lt = ap or_zero (count_there ws.count n s lt)

    count_behind : (s : ℕ) → n ≤ s → c s ≡ 0
    count_behind s le = ap or_zero (count_beyond ws.count n s le)

    content_same : held_content learnt ≡ counted w c (held_content learnt).generation (held_content learnt).pinned
    content_same = λ i. record {
      orders = (r.ordered.held id v at holding).0 i;
      limit = ap (λ (y : Shape). y.slots) (sym shape) i;
      word = λ s. word_same s i;
      function = λ s. function_same s i;
      count = c;
      generation = (held_content learnt).generation;
      marked = λ s. false;
      pinned = (held_content learnt).pinned;
      sweeping = true;
      half = (ap (option_map pair_of) unswapped ∙ sym none_half) i;
    }

    notes_learnt : NotesCounted learnt
    notes_learnt s f counted is = subst (λ (y : Shape). HasNoted learnt.counts (whole_of y f)) shape (elim (cases_lt s n) [
      | inl lt ↦ noted_there z r.function ws.count v.counts.above n s f lt (subst (λ (m : ℕ). 0 < m) (count_here s lt) counted) (sym (function_same s) ∙ is)
      | inr le ↦ absurd (let e = count_behind s le in omega (arith, e, counted))
    ])

    stays_learnt : NotesStay v learnt
    stays_learnt = noted_stays z r.function ws.count v.counts.above n

    knows_learnt : KnowsAll learnt
    knows_learnt = record {
      sound = subst IsSound (sym content_same) (sound_counted w c (held_content learnt).generation (held_content learnt).pinned r.sound
          (λ s. elim (cases_lt s n) [
            | inl lt ↦ (let few = counts_small ws.count r.cells (tallies_in vs) r.counts s in let e = count_here s lt in omega (arith, few, e))
            | inr le ↦ (let e = count_behind s le in omega (arith, e))
          ])
          (λ s free. elim (cases_lt s n) [
            | inl lt ↦ count_here s lt ∙ uncounted s free
            | inr le ↦ count_behind s le
          ])
          (λ s free. ap (λ (pins : List ℕ). is_among pins s) unpinned));
      long = (
        ap (λ (os : Orders). length os.variables) (r.ordered.held id v at holding).0 ∙ r.positions.variables_long ∙ ap (λ (y : Shape). y.variables) shape,
        ap (λ (os : Orders). length os.elements) (r.ordered.held id v at holding).0 ∙ r.positions.elements_long ∙ ap (λ (y : Shape). y.elements) shape,
      );
      noted = λ s lt. (ws.node s, word_there ws.node n s (inside s lt), r.linked.fits s);
      beyond = λ s le. word_beyond ws.node n s (subst (λ (m : ℕ). m ≤ s) (sym slots_are) le);
      aged = λ s lt. (generation_of (ws.count s), age_there ws.count n s (inside s lt));
      zeros = λ s lt none_counted. zero_there ws.count n s v.counts.zeros (inside s lt) (sym (count_here s (inside s lt)) ∙ none_counted);
      own = λ s some_zero.
          let found = zero_means ws.count n s (subst (λ (l : List ℕ). 0 < times s (zeros_below ws.count n l)) unzeroed some_zero) in
          let none_had = none_own board free_slots memo z ws home vs r id v at holding s found in
          let none_pinned : times s v.counts.pins ≡ 0 = ap (times s) unpinned in none_had ∙ sym none_pinned;
      once = λ s. (let e : times s v.counts.pins ≡ 0 = ap (times s) unpinned in omega (arith, e));
    }
      where
        slots_are : z.slots ≡ v.draws.slots
        slots_are = ap (λ (y : Shape). y.slots) shape

        inside : (s : ℕ) → s < v.draws.slots → s < n
        inside s lt = subst (λ (m : ℕ). s < m) (sym slots_are) lt

  -- as the table asks for it
  pub learns_all : (slots id : ℕ) (me : Me (std.Option S) View) → me.0.draws.live ≡ true → me.0.shares.order ≡ Holding → me.0.counts.pins ≡ [] → me.0.counts.zeros ≡ [] → me.0.known.half ≡ None
      → Allows (Rule board free_slots memo) slots id me 1 (λ n. n) (all_learnt (step slots 1 0 0 none) me)
  learns_all slots id me live holding unpinned unzeroed unswapped s r long at small =
      let z = r.shape in
      let p = r.parts in
      let v = me.0 in
      let ws = words_of z s.words in
      let home : ℕ → Option (Option (std.Option S)) = λ j. get_elem? s.homes j in
      let none_half = settled_order z ws home s.views p id v at holding unswapped in
      let u : View = learnt z ws home s.views p id v at live holding unpinned unzeroed unswapped none_half in (
        u,
        keeps,
        tt,
        subst (λ (l : List ℕ). Rule board free_slots memo (record { words = l; homes = s.homes; views = set s.views id u })) (sym (set-get_or s.words 1 0))
            (record { shape = z; wide = r.wide; long = r.long; parts = parts_learnt z ws home s.views p id v at live holding unpinned unzeroed unswapped none_half; one = one_still z ws.order ws.node ws.count s.views id v u at refl r.one }),
        (
          refl,
          record {
            draws = refl;
            shares = refl;
            hand = refl;
            counts = refl;
            known = refl;
            work = refl;
            stored = refl;
            knows = knows_learnt z ws home s.views p id v at live holding unpinned unzeroed unswapped none_half;
            above = notes_learnt z ws home s.views p id v at live holding unpinned unzeroed unswapped none_half;
            stays = stays_learnt z ws home s.views p id v at live holding unpinned unzeroed unswapped none_half;
          },
        ),
      )
