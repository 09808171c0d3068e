-- The computed table where it lies, as other things change, as it is taken, and as it is put back.
use Rattle.std.proofs.Common.{◌≡◌, ◌≢◌, ◌⊎◌, ℕ, true, true≢false, List, set, refl, sym, ◌∙◌, ⊎_elim}
use Rattle.std.specs.Prelude as std
use Rattle.std.specs.Prelude.{Some}
use mathlib.Core.Option.{Option, none, some, some-injective}
use lib.ListN.{get_elem?}
use Rattle.node_store.specs.Views.{View}
use Rattle.node_store.proofs.MemoLaws.{Carries, MemoHolds-carried}
use Rattle.words_rule.specs.declared.view.Hand.{Hand}
use Rattle.words_rule.specs.Remembered.{AreAnswers, Remembered}
use Rattle.words_rule.proofs.Lists.{each_set}

-- entries hold where what they name denotes the same
pub entries_carried : (a b : View) (words : List ℕ) → Carries a b (λ _. Unit {0}) → AreAnswers a words → AreAnswers b words
entries_carried a b words c hold = (hold.0, λ i kept is. MemoHolds-carried c kept.key kept.edge tt tt tt tt (hold.1 i kept is))

module _ {S : Type 0} (memo : S → List ℕ) (a b : View) (turn : ℕ) (home : Option (Option (std.Option S))) where
  pub remembered_still : (home' : Option (Option (std.Option S))) (hs : List Hand) (id : ℕ) (g h : Hand) → get_elem? hs id ≡ some g → Carries a b (λ _. Unit {0}) ⊎ (turn ≢ 0) → home' ≡ home → h.memo ≡ g.memo
      → Remembered memo a turn home hs → Remembered memo b turn home' (set hs id h)
  remembered_still home' hs id g h at way same flag r = record {
    holder = r.holder;
    at_home = λ zero. ⊎_elim (λ c. let x = r.at_home zero in (x.0, x.1, same ∙ x.2, entries_carried a b (memo x.1) c x.3)) (λ away. absurd (away zero)) way;
    held = each_set (λ i (f : Hand). f.memo ≡ true → (r.holder ≡ some i) × (turn ≢ 0)) hs id h (λ i f apart there. r.held i f there) (λ has. r.held id g at (sym flag ∙ has));
  }

  -- where a seat has it, nothing is said of its entries
  pub remembered_away : (hs : List Hand) → turn ≢ 0 → Remembered memo a turn home hs → Remembered memo b turn home hs
  remembered_away hs away r = record { holder = r.holder; at_home = λ zero. absurd (away zero); held = r.held }

  pub remembered_taken : (new : ℕ) (home' : Option (Option (std.Option S))) (hs : List Hand) (id : ℕ) (h : Hand) → turn ≡ 0 → new ≢ 0 → Remembered memo a turn home hs → Remembered memo b new home' (set hs id h)
  remembered_taken new home' hs id h zero nonzero r = record {
    holder = some id;
    at_home = λ free. absurd (nonzero free);
    held = each_set (λ i (f : Hand). f.memo ≡ true → (some id ≡ some i) × (new ≢ 0)) hs id h (λ i f apart there has. absurd ((r.held i f there has).1 zero)) (λ has. (refl, nonzero));
  }

  pub remembered_given : (home' : Option (Option (std.Option S))) (x : S) (hs : List Hand) (id : ℕ) (g h : Hand) → get_elem? hs id ≡ some g → g.memo ≡ true → h.memo ≡ std.false → home' ≡ some (some (Some x)) → AreAnswers b (memo x)
      → Remembered memo a turn home hs → Remembered memo b 0 home' (set hs id h)
  remembered_given home' x hs id g h at has gone there hold r = record {
    holder = none;
    at_home = λ _. (refl, x, there, hold);
    held = each_set (λ i (f : Hand). f.memo ≡ true → (none ≡ some i) × (0 ≢ 0)) hs id h (λ i f apart lies its. absurd (apart (some-injective i id (sym (r.held i f lies its).0 ∙ (r.held id g at has).0)))) (λ its. absurd (true≢false (sym its ∙ gone)));
  }
