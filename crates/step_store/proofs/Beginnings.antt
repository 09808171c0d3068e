-- A new table.
use Rattle.std.proofs.Common.{◌≡◌, inl, inr, ℕ, suc, ◌+◌, ◌<◌, ◌≤◌, Bool, true, false, cond, List, [], ◌∷◌, length, set, length-set, Some, None, refl, ap, sym, ◌∙◌, subst, arith}
use Rattle.std.specs.Prelude.{nat_lt, option_map, slice_index}
use Rattle.std.proofs.lemmas.Bool.{cases_eq, cases_lt, lt-ltb, le-ltb}
use Rattle.std.proofs.lemmas.List.{get_or-set_same, get_or-set_other}
use Rattle.edge_bits.specs.declared.limits.TheConstants.{MOST_ELEMENTS, MOST_SLOTS, MOST_VARIABLES}
use Rattle.edge_bits.specs.Reading.{slots_of}
use Rattle.edge_bits.specs.Words.{unpack_of}
use Rattle.function_laws.proofs.ValueLemmas.{everywhere}
use Rattle.computed_cache.specs.Entries.{kept_at}
use Rattle.node_store.specs.Changes.{put_at}
use Rattle.node_store.proofs.Rewriting.{put_at-same, put_at-other}
use Rattle.node_slots.specs.Stores.{permanent_word, slots}
use Rattle.node_slots.proofs.Opening.{IsStore-new}
use Rattle.step_store.specs.declared.table.Core.{Core}
use Rattle.step_store.specs.Chains.{Chains, head_of}
use Rattle.step_store.specs.Plain.{IsCore, on_upto, refused_of, store_of}
use Rattle.step_store.proofs.Chaining.{no_chains, pushes, stores_link}
use Rattle.step_store.proofs.Passing.{none_some}
use Rattle.step_store.proofs.Tables.{set_at}

low_off : (k s : ℕ) → s < 3 → on_upto k s ≡ false
low_off k s lt = ap (λ b. cond b false (nat_lt s k)) (lt-ltb s 3 lt)

high_on : (k s : ℕ) → 3 ≤ s → s < k → on_upto k s ≡ true
high_on k s le lt = ap (λ b. cond b false (nat_lt s k)) (le-ltb s 3 le) ∙ lt-ltb s k lt

high_off : (k s : ℕ) → 3 ≤ s → k ≤ s → on_upto k s ≡ false
high_off k s high le = ap (λ b. cond b false (nat_lt s k)) (le-ltb s 3 high) ∙ le-ltb s k le

not_both : (b : Bool) → b ≡ false → b ≡ true → ⊥
not_both true e f = cc
not_both false e f = cc

pub on_inside : (k s : ℕ) → on_upto k s ≡ true → (3 ≤ s) × (s < k)
on_inside k s on = elim (cases_lt s 3) [
  | inl low ↦ absurd (not_both (on_upto k s) (low_off k s low) on)
  | inr high ↦ elim (cases_lt s k) [
    | inl lt ↦ (high, lt)
    | inr le ↦ absurd (not_both (on_upto k s) (high_off k s high le) on)
  ]
]

one_more : (k : ℕ) → 3 ≤ k → put_at (on_upto k) k true ≡ on_upto (suc k)
one_more k le = everywhere (put_at (on_upto k) k true) (on_upto (suc k)) (λ s. elim (cases_eq s k) [
  | inl e ↦ ap (put_at (on_upto k) k true) e ∙ put_at-same (on_upto k) k true ∙ sym (high_on (suc k) s (omega (arith, e, le)) (omega (arith, e)))
  | inr ne ↦ put_at-other (on_upto k) k s true ne ∙ elim (cases_lt s 3) [
    | inl low ↦ low_off k s low ∙ sym (low_off (suc k) s low)
    | inr high ↦ elim (cases_lt s k) [
      | inl lt ↦ high_on k s high lt ∙ sym (high_on (suc k) s high (omega (arith, lt)))
      | inr ge ↦ high_off k s high ge ∙ sym (high_off (suc k) s high (omega (arith, ge, ne)))
    ]
  ]
])

none_on : on_upto 3 ≡ (λ s. false)
none_on = everywhere (on_upto 3) (λ s. false) (λ s. elim (cases_lt s 3) [
  | inl low ↦ low_off 3 s low
  | inr high ↦ high_off 3 s high high
])

abbrev pub AreLinked : List ℕ → List ℕ → List ℕ → ℕ → Type 0
AreLinked heads nexts words k = (chain : ℕ → List ℕ) × Chains (length heads) (slice_index heads) (slice_index nexts) (head_of (length heads)) (slice_index words) (on_upto k) chain

pub first_linked : (heads nexts words : List ℕ) → ((h : ℕ) → slice_index heads h ≡ 0) → AreLinked heads nexts words 3
first_linked heads nexts words zeros = (
  (λ h. []),
  subst (λ (on : ℕ → Bool). Chains (length heads) (slice_index heads) (slice_index nexts) (head_of (length heads)) (slice_index words) on (λ h. [])) (sym none_on)
      (no_chains (length heads) (slice_index heads) (slice_index nexts) (head_of (length heads)) (slice_index words) (λ h lt. zeros h)),
)

-- the next slot takes its head's link, and the head takes the slot
linked_next : (heads nexts words : List ℕ) (k h : ℕ) → 3 ≤ k → k < length nexts → h ≡ head_of (length heads) (slice_index words k) → h < length heads → AreLinked heads nexts words k
    → AreLinked (set heads h (suc k)) (set nexts k (slice_index heads h)) words (suc k)
linked_next heads nexts words k h high inside at lt a =
    let n : ℕ = length heads in
    let off = high_off k k high (omega arith) in
    let linked = stores_link n (slice_index heads) (slice_index nexts) (head_of n) (slice_index words) (on_upto k) a.0 a.1 k (slice_index heads h) off in
    let pushed = pushes n (slice_index heads) (put_at (slice_index nexts) k (slice_index heads h)) (head_of n) (slice_index words) (on_upto k) a.0 linked k off (subst (λ x. x < n) at lt)
    (ap (slice_index heads) (sym at) ∙ sym (put_at-same (slice_index nexts) k (slice_index heads h))) in
    let many : n ≡ length (set heads h (suc k)) = sym (length-set heads h (suc k)) in
    let head : put_at (slice_index heads) (head_of n (slice_index words k)) (suc k) ≡ slice_index (set heads h (suc k)) = ap (λ (x : ℕ). put_at (slice_index heads) x (suc k)) (sym at) ∙ sym (set_at heads h (suc k) lt) in (
      put_at a.0 (head_of n (slice_index words k)) (k ∷ a.0 (head_of n (slice_index words k))),
      subst (λ (y : ℕ × (ℕ → ℕ) × (ℕ → ℕ) × (ℕ → Bool)). Chains y.0 y.1 y.2 (head_of y.0) (slice_index words) y.3 (put_at a.0 (head_of n (slice_index words k)) (k ∷ a.0 (head_of n (slice_index words k)))))
          (λ j. (many j, head j, sym (set_at nexts k (slice_index heads h) inside) j, one_more k high j)) pushed,
    )

pub next_linked : (heads nexts words : List ℕ) (k h : ℕ) → 3 ≤ k → k < length nexts → h ≡ head_of (length heads) (slice_index words k) → h < length heads → AreLinked heads nexts words k
    → AreLinked (set heads h (k + 1)) (set nexts k (slice_index heads h)) words (k + 1)
next_linked heads nexts words k h high inside at lt a = subst (λ n. AreLinked (set heads h n) (set nexts k (slice_index heads h)) words n) (omega arith) (linked_next heads nexts words k h high inside at lt a)

-- one permanent word more
pub written_more : (words : List ℕ) (k bits : ℕ) → k < length words → unpack_of bits ≡ Some (permanent_word k) → bits < 18446744073709551616 → ((s : ℕ) → s < k → slots_of words s ≡ Some (permanent_word s)) → ((s : ℕ) → k ≤ s → slice_index words s ≡ 0)
    → ((s : ℕ) → slice_index words s < 18446744073709551616)
    → ((s : ℕ) → s < k + 1 → slots_of (set words k bits) s ≡ Some (permanent_word s)) × ((s : ℕ) → k + 1 ≤ s → slice_index (set words k bits) s ≡ 0) × ((s : ℕ) → slice_index (set words k bits) s < 18446744073709551616)
written_more words k bits inside reads small before free fits = (
  λ s lt. elim (cases_eq s k) [
    | inl e ↦ ap (slots_of (set words k bits)) e ∙ ap unpack_of (get_or-set_same words k bits 0 inside) ∙ reads ∙ ap (λ (x : ℕ). Some (permanent_word x)) (sym e)
    | inr ne ↦ ap unpack_of (get_or-set_other words k s bits 0 ne) ∙ before s (omega (arith, lt, ne))
  ],
  λ s le. get_or-set_other words k s bits 0 (λ e. omega (arith, le, e)) ∙ free s (omega (arith, le)),
  λ s. elim (cases_eq s k) [
    | inl e ↦ subst (λ n. n < 18446744073709551616) (sym (ap (slice_index (set words k bits)) e ∙ get_or-set_same words k bits 0 inside)) small
    | inr ne ↦ subst (λ n. n < 18446744073709551616) (sym (get_or-set_other words k s bits 0 ne)) (fits s)
  ],
)

-- a table with the permanent words alone, each on its chain
pub begins_core : (t : Core) → t.vars ≤ MOST_VARIABLES → t.elements ≤ MOST_ELEMENTS → 5 + t.vars ≤ t.limit → t.limit ≤ MOST_SLOTS → length t.words.items ≡ t.limit → length t.nexts.items ≡ t.limit → 0 < length t.heads.items → length t.heads.items < 4294967296
    → ((s : ℕ) → s < 5 + t.vars → slots_of t.words.items s ≡ Some (permanent_word s)) → ((s : ℕ) → 5 + t.vars ≤ s → slice_index t.words.items s ≡ 0) → ((s : ℕ) → slice_index t.words.items s < 18446744073709551616)
    → AreLinked t.heads.items t.nexts.items t.words.items (5 + t.vars) → t.first_free ≡ 5 + t.vars → t.taken ≡ None → t.loose ≡ None → t.link ≡ None → ((i : ℕ) → kept_at t.memo i ≡ None) → t.fulls ≡ 0 → t.due ≡ None → IsCore t
begins_core t few_vars few_elements least most many many_nexts some few words free fits linked first taken loose link memo fulls due =
    let none_free : (s : ℕ) → 5 + t.vars ≤ s → slots (store_of t) s ≡ None = λ s le. ap unpack_of (free s le) in record {
      store = IsStore-new (store_of t) t.vars t.elements t.limit few_vars few_elements least most (record {
        variable_levels = refl;
        element_levels = refl;
        variables_at = refl;
        elements_at = refl;
        slots_are = many;
        permanent = words;
        free = none_free;
        counts = refl;
        marks = refl;
        pins = refl;
        sweeping = refl;
        fulls = fulls;
        due = ap (option_map refused_of) due;
        memo = memo;
      });
      as_many = many;
      as_many_nexts = many_nexts;
      some_heads = some;
      few_heads = few;
      few_fulls = omega (arith, fulls);
      fits = fits;
      slots_taken = record {
        first = omega (arith, first, least);
        free = λ s le. none_free s (omega (arith, le, first));
        used = λ s lt. inl (permanent_word s, words s (omega (arith, lt, first)));
        taken = λ x is. absurd (none_some x (sym taken ∙ is));
      };
      chained = record {
        on = on_upto (5 + t.vars);
        chain = linked.0;
        chains = linked.1;
        on_used = λ s on. (let i = on_inside (5 + t.vars) s on in (i.0, permanent_word s, words s i.1));
        complete = λ s word high is. elim (cases_lt s (5 + t.vars)) [
          | inl lt ↦ inl (high_on (5 + t.vars) s high lt)
          | inr le ↦ absurd (none_some word (sym (none_free s le) ∙ is))
        ];
        loose = λ s is. absurd (none_some s (sym loose ∙ is));
        link = λ x is. absurd (none_some x (sym link ∙ is));
      };
    }

pub zero_fits : (words : List ℕ) (s : ℕ) → slice_index words s ≡ 0 → slice_index words s < 18446744073709551616
zero_fits words s e = omega (arith, e)
