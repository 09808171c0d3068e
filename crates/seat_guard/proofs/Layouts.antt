-- A word is set: all others are as they were.
use Rattle.std.proofs.Common.{◌≡◌, ◌≢◌, ℕ, ◌<◌, cond, List, length, set, get_or, refl, ap, sym, ◌∙◌, subst, arith, inl, inr, get_or-set_other, get_or-set_same, eq-eqb, ne_eqb}
use Rattle.std.proofs.lemmas.Bool.{cases_lt, cases_eq, lt-ltb, le-ltb}
use Rattle.function_laws.proofs.SessionEntryLemmas.{put_at}
use Rattle.seat_guard.specs.declared.layout.TheConstants.{COUNTS, JOURNAL, PHASE, SESSIONS, TURN}
use Rattle.seat_guard.specs.Layout.{Words, area, count_at, word_count, words_of}

module _ (at : ℕ → ℕ) (len : ℕ) (ws : List ℕ) (i x : ℕ) where
  -- words that stand elsewhere
  area_other : ((k : ℕ) → k < len → at k ≢ i) → area at len (set ws i x) ≡ area at len ws
  area_other apart = λ t k. point k t
    where
      point : (k : ℕ) → area at len (set ws i x) k ≡ area at len ws k
      point k = elim (cases_lt k len) [
        | inl lt ↦ ap (λ b. cond b (get_or (set ws i x) (at k) 0) 0) (lt-ltb k len lt) ∙ get_or-set_other ws i (at k) x 0 (λ e. apart k lt e) ∙ sym (ap (λ b. cond b (get_or ws (at k) 0) 0) (lt-ltb k len lt))
        | inr le ↦ ap (λ b. cond b (get_or (set ws i x) (at k) 0) 0) (le-ltb k len le) ∙ sym (ap (λ b. cond b (get_or ws (at k) 0) 0) (le-ltb k len le))
      ]

-- the word itself
area_here : (at : ℕ → ℕ) (len : ℕ) (ws : List ℕ) (j x : ℕ) → j < len → at j < length ws → ((k : ℕ) → k < len → k ≢ j → at k ≢ at j) → area at len (set ws (at j) x) ≡ put_at (area at len ws) j x
area_here at len ws j x lt within apart = λ t k. point k t
  where
    point : (k : ℕ) → area at len (set ws (at j) x) k ≡ put_at (area at len ws) j x k
    point k = elim (cases_eq k j) [
      | inl e ↦ subst (λ (m : ℕ). area at len (set ws (at j) x) m ≡ put_at (area at len ws) j x m) (sym e)
          (ap (λ b. cond b (get_or (set ws (at j) x) (at j) 0) 0) (lt-ltb j len lt) ∙ get_or-set_same ws (at j) x 0 within ∙ sym (ap (λ b. cond b x (area at len ws j)) (eq-eqb j j refl)))
      | inr ne ↦ elim (cases_lt k len) [
        | inl below ↦ ap (λ b. cond b (get_or (set ws (at j) x) (at k) 0) 0) (lt-ltb k len below) ∙ get_or-set_other ws (at j) (at k) x 0 (apart k below ne)
            ∙ sym (ap (λ b. cond b (get_or ws (at k) 0) 0) (lt-ltb k len below)) ∙ sym (ap (λ b. cond b x (area at len ws k)) (ne_eqb k j ne))
        | inr le ↦ ap (λ b. cond b (get_or (set ws (at j) x) (at k) 0) 0) (le-ltb k len le) ∙ sym (ap (λ b. cond b (get_or ws (at k) 0) 0) (le-ltb k len le)) ∙ sym (ap (λ b. cond b x (area at len ws k)) (ne_eqb k j ne))
      ]
    ]

pub words_path : (a b : Words) → a.journal ≡ b.journal → a.phase ≡ b.phase → a.turn ≡ b.turn → a.sessions ≡ b.sessions → a.count ≡ b.count → a ≡ b
words_path a b p q r s u = λ t. record { journal = p t; phase = q t; turn = r t; sessions = s t; count = u t }

module _ (slots : ℕ) (ws : List ℕ) (x : ℕ) (long : length ws ≡ word_count slots) where
  count_low : (i : ℕ) → i < COUNTS → area count_at slots (set ws i x) ≡ area count_at slots ws
  count_low i low = area_other count_at slots ws i x (λ k lt e. omega (arith, e, low))

  low_other : (i k : ℕ) → k ≢ i → get_or (set ws i x) k 0 ≡ get_or ws k 0
  low_other i k apart = get_or-set_other ws i k x 0 apart

  pub set_journal : words_of slots (set ws JOURNAL x) ≡ record (words_of slots ws) { journal = x }
  set_journal = words_path (words_of slots (set ws JOURNAL x)) (record (words_of slots ws) { journal = x }) (get_or-set_same ws JOURNAL x 0 (omega (arith, long)))
      (low_other JOURNAL PHASE (λ e. omega (arith, e))) (low_other JOURNAL TURN (λ e. omega (arith, e))) (low_other JOURNAL SESSIONS (λ e. omega (arith, e))) (count_low JOURNAL (omega arith))

  pub set_phase : words_of slots (set ws PHASE x) ≡ record (words_of slots ws) { phase = x }
  set_phase = words_path (words_of slots (set ws PHASE x)) (record (words_of slots ws) { phase = x }) (low_other PHASE JOURNAL (λ e. omega (arith, e)))
      (get_or-set_same ws PHASE x 0 (omega (arith, long))) (low_other PHASE TURN (λ e. omega (arith, e))) (low_other PHASE SESSIONS (λ e. omega (arith, e))) (count_low PHASE (omega arith))

  pub set_turn : words_of slots (set ws TURN x) ≡ record (words_of slots ws) { turn = x }
  set_turn = words_path (words_of slots (set ws TURN x)) (record (words_of slots ws) { turn = x }) (low_other TURN JOURNAL (λ e. omega (arith, e)))
      (low_other TURN PHASE (λ e. omega (arith, e))) (get_or-set_same ws TURN x 0 (omega (arith, long))) (low_other TURN SESSIONS (λ e. omega (arith, e))) (count_low TURN (omega arith))

  pub set_count : (k : ℕ) → k < slots → words_of slots (set ws (count_at k) x) ≡ record (words_of slots ws) { count = put_at (words_of slots ws).count k x }
  set_count k lt = words_path (words_of slots (set ws (count_at k) x)) (record (words_of slots ws) { count = put_at (words_of slots ws).count k x })
      (low_other (count_at k) JOURNAL (λ e. omega (arith, e))) (low_other (count_at k) PHASE (λ e. omega (arith, e))) (low_other (count_at k) TURN (λ e. omega (arith, e))) (low_other (count_at k) SESSIONS (λ e. omega (arith, e)))
      (area_here count_at slots ws k x lt (omega (arith, lt, long)) (λ j below ne e. ne (omega (arith, e))))

-- what the word of a slot reads as
pub here_count : (slots : ℕ) (ws : List ℕ) (k : ℕ) → k < slots → (words_of slots ws).count k ≡ get_or ws (count_at k) 0
here_count slots ws k lt = ap (λ b. cond b (get_or ws (count_at k) 0) 0) (lt-ltb k slots lt)
