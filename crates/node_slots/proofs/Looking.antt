-- What a walk over the words finds, and how many of them pass a test, as a holder knows it.
use Rattle.std.proofs.Common.{◌≡◌, ℕ, suc, ◌+◌, ◌<◌, ◌≤◌, Bool, true, false, List, [], ◌∷◌, length, get_or, Option, Some, None, refl, ap, sym, ◌∙◌, subst, arith}
use Rattle.std.specs.Prelude.{IfNone, IfSome}
use Rattle.std.specs.List.{count_by, filter, range_with_len}
use Rattle.std.proofs.lemmas.List.Sums.{length-filter}
use Rattle.edge_bits.specs.declared.words.Word.{Word}
use Rattle.edge_bits.specs.Reading.{slots_of}
use Rattle.edge_bits.specs.Words.{unpack_of}
use Rattle.node_store.specs.Contents.{count_slots}
use Rattle.node_store.specs.Changes.{IsLeastFrom}
use Rattle.node_slots.specs.Stores.{Plain}
use Rattle.node_slots.specs.Wholes.{content_view}

-- a walk over some words finds what stands in all of them
pub least_from : (q p : Plain) → q ≡ p → (test : Option Word → Bool) (ws : List ℕ) (from : ℕ) (found : Option ℕ) → ((s : ℕ) → get_or ws s 0 ≡ get_or q.words s 0)
    → IfSome found (λ s. (from ≤ s) × (test (slots_of ws s) ≡ true)) → IfSome found (λ s. (t : ℕ) → from ≤ t → t < s → test (slots_of ws t) ≡ true → ⊥)
    → IfNone found ((t : ℕ) → from ≤ t → test (slots_of ws t) ≡ true → ⊥) → IsLeastFrom (content_view p) (λ s. test ((content_view p).word s) ≡ true) from found
least_from q p eq test ws from found same some least none = subst (λ x. IsLeastFrom (content_view x) (λ s. test ((content_view x).word s) ≡ true) from found) eq (at found some least none)
  where
    back : (s : ℕ) → test (slots_of q.words s) ≡ true → test (slots_of ws s) ≡ true
    back s h = ap (λ bits. test (unpack_of bits)) (same s) ∙ h

    at : (o : Option ℕ) → IfSome o (λ s. (from ≤ s) × (test (slots_of ws s) ≡ true)) → IfSome o (λ s. (t : ℕ) → from ≤ t → t < s → test (slots_of ws t) ≡ true → ⊥)
        → IfNone o ((t : ℕ) → from ≤ t → test (slots_of ws t) ≡ true → ⊥) → IsLeastFrom (content_view q) (λ s. test (slots_of q.words s) ≡ true) from o
    at None some least none = λ s le h. none s le (back s h)
    at (Some s) some least none = (some.0, ap (λ bits. test (unpack_of bits)) (sym (same s)) ∙ some.1, λ t le lt h. least t le lt (back t h))

-- as many of a list as there are places at which the test is passed
count_places : (q g : ℕ → Bool) (xs : List ℕ) (a : ℕ) → ((i : ℕ) → i < length xs → g (a + i) ≡ q (get_or xs i 0)) → length (filter g (range_with_len a (length xs))) ≡ length (filter q xs)
count_places q g [] a h = refl
count_places q g (x ∷ xs) a h =
    let here : a ≡ a + 0 = omega arith in
    let e : g a ≡ q x = ap g here ∙ h 0 (omega arith) in
    step (q x) refl e (count_places q g xs (a + 1) (λ i lt. let there : a + 1 + i ≡ a + suc i = omega arith in ap g there ∙ h (suc i) (omega arith)))
  where
    step : (b : Bool) → q x ≡ b → g a ≡ q x → length (filter g (range_with_len (a + 1) (length xs))) ≡ length (filter q xs)
        → length (filter g (range_with_len a (length (x ∷ xs)))) ≡ length (filter q (x ∷ xs))
    step true t e rest = rw (e ∙ t, t) (ap suc rest)
    step false t e rest = rw (e ∙ t, t) rest

-- how many slots pass a test, by the words
pub count_words : (p : Plain) (test : Option Word → Bool) → count_slots (content_view p) test ≡ count_by (λ bits. test (unpack_of bits)) p.words
count_words p test =
    count_places (λ bits. test (unpack_of bits)) (λ s. test (slots_of p.words s)) p.words 0 (λ i lt. let e : 0 + i ≡ i = omega arith in ap (λ s. test (slots_of p.words s)) e)
    ∙ length-filter (λ bits. test (unpack_of bits)) p.words
