-- The table as it is made keeps the rule.
use Rattle.std.proofs.Common.{◌≡◌, ℕ, ◌<◌, ◌≤◌, cond, List, [], ◌∷◌, length, set, get_or, replicate, refl, ap, sym, subst, ◌∙◌, inl, inr, arith, true, false, length-set, get_or-set_other, get_or-set_same}
use Rattle.std.specs.Prelude as std
use Rattle.std.proofs.lemmas.Bool.{cases_lt, lt-ltb, le-ltb}
use Rattle.std.proofs.lemmas.List.{length-replicate, get_or-replicate}
use mathlib.Core.Option.{some}
use Rattle.edge_bits.specs.declared.limits.TheConstants.{CELLS, MOST_SESSIONS}
use Rattle.function_laws.specs.SessionEntries.{Each}
use Rattle.function_laws.specs.Sizes.{Orders}
use Rattle.function_laws.specs.EntryOrders.{opening_orders}
use Rattle.seat_guard.specs.declared.layout.TheConstants.{JOURNAL, PHASE, SESSIONS, TURN}
use Rattle.seat_guard.specs.declared.view.Held.{Held}
use Rattle.seat_guard.specs.declared.view.Draws.{Draws}
use Rattle.seat_guard.specs.Layout.{count_at, word_count, words_of}
use Rattle.seat_guard.specs.Rule.{Rule}
use Rattle.seat_guard.specs.Turn.{IsKeptCell}
use Rattle.seat_guard.specs.Views.{cell_in, sizes_for, viewed}
use Rattle.seat_guard.proofs.Keeps.{lifts}
use Rattle.seat_guard.proofs.Layouts.{words_path}
use Rattle.seat_guard.proofs.SeatSteps.{starts}

-- so many words that are 0
abbrev pub zeros : ℕ → List ℕ
zeros n = replicate n 0

-- the words of a new table
abbrev pub new_words : ℕ → ℕ → List ℕ
new_words slots sessions = set (zeros (word_count slots)) SESSIONS sessions

module _ (slots sessions : ℕ) where
  long : length (zeros (word_count slots)) ≡ word_count slots
  long = length-replicate (word_count slots) 0

  zero_at : (i : ℕ) → (i ≡ SESSIONS → ⊥) → i < word_count slots → get_or (new_words slots sessions) i 0 ≡ 0
  zero_at i apart lt = get_or-set_other (zeros (word_count slots)) SESSIONS i sessions 0 apart ∙ get_or-replicate (word_count slots) i 0 0 lt

  pub new_are : words_of slots (new_words slots sessions) ≡ record { journal = 0; phase = 0; turn = 0; sessions = sessions; count = λ k. 0 }
  new_are = words_path (words_of slots (new_words slots sessions)) (record { journal = 0; phase = 0; turn = 0; sessions = sessions; count = λ k. 0 })
      (zero_at JOURNAL (λ e. omega (arith, e)) (omega arith)) (zero_at PHASE (λ e. omega (arith, e)) (omega arith)) (zero_at TURN (λ e. omega (arith, e)) (omega arith))
      (get_or-set_same (zeros (word_count slots)) SESSIONS sessions 0 (let l = long in omega (arith, l)))
      (λ t k. point k t)
    where
      point : (k : ℕ) → (words_of slots (new_words slots sessions)).count k ≡ 0
      point k = elim (cases_lt k slots) [
        | inl lt ↦ ap (λ b. cond b (get_or (new_words slots sessions) (count_at k) 0) 0) (lt-ltb k slots lt) ∙ zero_at (count_at k) (λ e. omega (arith, e)) (omega (arith, lt))
        | inr le ↦ ap (λ b. cond b (get_or (new_words slots sessions) (count_at k) 0) 0) (le-ltb k slots le)
      ]

module _ {S : Type 0} (keeps_it : S → Held → Type 0) (board : S → List (std.Option Held)) (counts : S → ℕ × ℕ × ℕ) (orders : S → Orders) where
  pub opens : (x : S) (d : Draws) (ws : List ℕ) → ws ≡ new_words d.slots d.sessions → orders x ≡ opening_orders (sizes_for d.vars d.elements) → counts x ≡ (d.vars, d.elements, d.slots) → d.closing ≡ true → d.live ≡ false → d.holds ≡ false → d.rows ≡ [] → d.given ≡ 0 → d.sessions ≤ MOST_SESSIONS → d.gone ≡ [] → d.noted ≡ [] → d.placed ≡ []
      → length (board x) ≡ CELLS → cell_in (board x) ≡ (λ (i : ℕ). std.None) → Each (IsKeptCell keeps_it board counts orders x) (board x)
      → Rule keeps_it board counts orders (record { words = ws; homes = some (std.Some x) ∷ []; views = viewed d ∷ [] })
  opens x d ws are ordered sizes is dead free rows given most gone notes calls len empty kept =
      subst (λ (l : List ℕ). Rule keeps_it board counts orders (record { words = l; homes = some (std.Some x) ∷ []; views = viewed d ∷ [] })) (sym are)
      (lifts keeps_it board counts orders d.slots (new_words d.slots d.sessions) (record { journal = 0; phase = 0; turn = 0; sessions = d.sessions; count = λ k. 0 }) (some (std.Some x) ∷ []) (viewed d ∷ [])
      (length-set (zeros (word_count d.slots)) SESSIONS d.sessions ∙ long d.slots d.sessions) refl (new_are d.slots d.sessions)
      (starts keeps_it board counts orders x d ordered sizes is dead free rows given most gone notes calls len empty kept))
