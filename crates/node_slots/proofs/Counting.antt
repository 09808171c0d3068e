-- How many slots have a word.
use Rattle.std.proofs.Common.{◌≡◌, ℕ, zero, suc, ◌+◌, ◌-◌, ◌<◌, ◌≤◌, List, length, take, get_or, Bool, true, false, Option, Some, None, add-one, add-zero, refl, ap, sym, ◌∙◌, subst, arith}
use Rattle.std.specs.List.{count_by}
use Rattle.std.proofs.Math.Seq.{take-length}
use Rattle.std.proofs.lemmas.List.Sums.{count_by_more_yes, count_by_more_no}
use Rattle.edge_bits.specs.declared.words.Word.{Word}
use Rattle.function_laws.specs.Kinds.{Denoted}
use Rattle.node_slots.proofs.Reading.{was_refused}
use Rattle.node_store.specs.Contents.{is_used}
use Rattle.node_slots.specs.Stores.{Plain, slots, is_word, plain_view, IsStore}

count_first : (p : ℕ → Bool) (ws : List ℕ) (n : ℕ) → n ≤ length ws → ((t : ℕ) → t < n → p (get_or ws t 0) ≡ true) → count_by p (take n ws) ≡ n
count_first p ws zero le each = refl
count_first p ws (suc n) le each =
    subst (λ m. count_by p (take m ws) ≡ m) (add-one n)
    (count_by_more_yes p ws n 0 (omega arith) (each n (omega arith)) ∙ ap (λ m. m + 1) (count_first p ws n (omega arith) (λ t lt. each t (omega arith))))

count_rest : (p : ℕ → Bool) (ws : List ℕ) (k n : ℕ) → k + n ≤ length ws → count_by p (take k ws) ≡ k → ((t : ℕ) → k ≤ t → p (get_or ws t 0) ≡ false) → count_by p (take (k + n) ws) ≡ k
count_rest p ws k zero le first none = rw add-zero first
count_rest p ws k (suc n) le first none =
    let e : k + suc n ≡ k + n + 1 = omega arith in
    rw e (count_by_more_no p ws (k + n) 0 (omega arith) (none (k + n) (omega arith)) ∙ count_rest p ws k n (omega arith) first none)

-- the first are all, and no others
pub count_prefix : (p : ℕ → Bool) (ws : List ℕ) (k : ℕ) → k ≤ length ws → ((t : ℕ) → t < k → p (get_or ws t 0) ≡ true) → ((t : ℕ) → k ≤ t → p (get_or ws t 0) ≡ false) → count_by p ws ≡ k
count_prefix p ws k le each none =
    let e : k + (length ws - k) ≡ length ws = omega arith in
    ap (count_by p) (sym (take-length ws)) ∙ ap (λ n. count_by p (take n ws)) (sym e) ∙ count_rest p ws k (length ws - k) (omega arith) (count_first p ws k le each) none

pub used_if : (o : Option Word) → (o ≡ None → ⊥) → is_used o ≡ true
used_if None some = absurd (some refl)
used_if (Some word) some = refl

-- where a function is due, each slot is in use
pub count_full : (q p : Plain) → q ≡ p → IsStore q → (f : Denoted) → (plain_view p).due ≡ Some f → count_by is_word p.words ≡ length p.words
count_full q p same st f = subst (λ (x : Plain). (plain_view x).due ≡ Some f → count_by is_word x.words ≡ length x.words) same
    (λ due. let r = was_refused _ q.due f due in
    ap (count_by is_word) (sym (take-length q.words)) ∙ count_first is_word q.words (length q.words) (omega arith) (λ t lt. used_if (slots q t) (st.refused r.0 r.1 t lt)))
