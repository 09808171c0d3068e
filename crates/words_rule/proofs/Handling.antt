-- Steps on the tables: a turn and the free list are taken and put back; what is due is stored, and a head takes it; a slot is taken off its chain, rewritten, freed.
use Rattle.std.proofs.Common.{◌≡◌, ◌≢◌, ℕ, zero, suc, ◌<◌, ◌≤◌, ◌==◌, ◌⊎◌, inl, inr, ⊎_elim, Bool, true, false, cond, List, [], ◌∷◌, set, Some, None, refl, sym, ap, ◌∙◌, subst, arith, eq-eqb, ne_eqb, true≢false}
use Rattle.std.specs.Prelude as std
use mathlib.Core.Logic.{dite}
use mathlib.Core.Option.{Option, none, some, some-injective, some-ne-none}
use native.Mathlib.Decide.{ℕ_discrete}
use lib.ListN.{get_elem?}
use Rattle.atomic_table.proofs.Lists.{set_else}
use Rattle.edge_bits.specs.declared.words.Word.{Word}
use Rattle.node_store.specs.Contents.{Content, IsSound}
use Rattle.node_store.specs.Changes.{put_at}
use Rattle.node_store.proofs.Rewriting.{put_at-same, put_at-other}
use Rattle.words_rule.specs.declared.view.Job.{Job}
use Rattle.words_rule.specs.declared.view.Walk.{Walk}
use Rattle.words_rule.specs.declared.view.Hand.{Hand}
use Rattle.words_rule.specs.Layout.{Shape, levels}
use Rattle.words_rule.specs.Dues.{slot_of, word_of, job_function, IsToDo, IsWork}
use Rattle.words_rule.specs.Hands.{level_of, Stands, HasLevel, Owns, IsLoose, Tables, taking, with_level, without_level, storing, pushing, loosening, freeing}
use Rattle.words_rule.proofs.Lists.{each_set, set_at}
use Rattle.words_rule.proofs.Jobs.{unknown_job, jobs_apart}
use Rattle.free_list.specs.FreeSlots.{FreeSlots}

by_eq : {P : Type 0} (a b : ℕ) → (a ≡ b → P) → (a ≢ b → P) → P
by_eq a b yes_it no_it = dite (ℕ_discrete a b) yes_it no_it

module _ {A : Type 0} where
  pub never : (x : A) → None ≡ Some x → ⊥
  never x e = cc

  pub some_same : (x y : A) → Some x ≡ Some y → x ≡ y
  some_same x y e = cc

-- other turns stay as one is put back
kept_turn : (l : ℕ) (xs : List ℕ) (k m : ℕ) → get_elem? xs k ≡ some m → m ≢ l → Stands (without_level l xs) m
kept_turn l [] k m at apart = absurd (some-ne-none m (sym at))
kept_turn l (x ∷ xs) zero m at apart =
    let e : x ≡ m = some-injective x m at in
    subst (λ b. Stands (cond b (without_level l xs) (x ∷ without_level l xs)) m) (sym (ne_eqb x l (λ s. apart (sym e ∙ s)))) (0, at)
kept_turn l (x ∷ xs) (suc k) m at apart = by (x == l) (kept_turn l xs k m at apart)
  where
    by : (b : Bool) → Stands (without_level l xs) m → Stands (cond b (without_level l xs) (x ∷ without_level l xs)) m
    by true r = r
    by false r = (suc r.0, r.1)

turn_kept : (l : ℕ) (xs : List ℕ) (k m : ℕ) → get_elem? (without_level l xs) k ≡ some m → (m ≢ l) × Stands xs m
turn_kept l [] k m at = absurd (some-ne-none m (sym at))
turn_kept l (x ∷ xs) k m at = by_eq x l
    (λ is. let r = turn_kept l xs k m (subst (λ b. get_elem? (cond b (without_level l xs) (x ∷ without_level l xs)) k ≡ some m) (eq-eqb x l is) at) in (r.0, (suc r.1.0, r.1.1)))
    (λ apart. at_either (λ j there. turn_kept l xs j m there) k apart (subst (λ b. get_elem? (cond b (without_level l xs) (x ∷ without_level l xs)) k ≡ some m) (ne_eqb x l apart) at))
  where
    at_either : ((j : ℕ) → get_elem? (without_level l xs) j ≡ some m → (m ≢ l) × Stands xs m) → (k : ℕ) → x ≢ l → get_elem? (x ∷ without_level l xs) k ≡ some m → (m ≢ l) × Stands (x ∷ xs) m
    at_either more zero apart there = (subst (λ y. y ≢ l) (some-injective x m there) apart, (0, there))
    at_either more (suc k) apart there = let r = more k there in (r.0, (suc r.1.0, r.1.1))

module _ {S : Type 0} (free_slots : S → FreeSlots) (z : Shape) (w : Content) (on : ℕ → Bool) (free_turn : ℕ) (turn : ℕ → ℕ) (home : ℕ → Option (Option (std.Option S))) (hs : List Hand) (r : Tables free_slots z w on free_turn turn home hs) where
  abbrev Home : Type 0
  Home = ℕ → Option (Option (std.Option S))

  abbrev FreeHeld : Option ℕ → ℕ → List ℕ → ℕ → Hand → Type 0
  FreeHeld who ft now i g = (list : List ℕ) → g.free ≡ Some list → (who ≡ some i) × (ft ≢ 0) × (list ≡ now)

  abbrev LevelHeld : (ℕ → Option ℕ) → (ℕ → ℕ) → ℕ → Hand → Type 0
  LevelHeld who tn i g = (k l : ℕ) → get_elem? g.levels k ≡ some l → (l < levels z) × (who l ≡ some i) × (tn l ≢ 0)

  abbrev TakenBy : Content → (ℕ → Option ℕ) → ℕ → Hand → Type 0
  TakenBy c who i g = (b : Job) → g.taken ≡ Some b → (who (slot_of b) ≡ some i) × IsWork c b × HasLevel g (level_of z (word_of b))

  abbrev Loosened : Content → (ℕ → Bool) → (ℕ → Option ℕ) → ℕ → Hand → Type 0
  Loosened c o who i g = (s : ℕ) → g.loose ≡ Some s → (who s ≡ some i) × (o s ≡ false) × IsLoose z c g s

  abbrev Walking : ℕ → Hand → Type 0
  Walking i g = (n : Walk) → g.walk ≡ Some n → HasLevel g n.level

  -- a turn is in one hand
  pub one_hand : (i j : ℕ) (g h : Hand) (l : ℕ) → get_elem? hs i ≡ some g → get_elem? hs j ≡ some h → HasLevel g l → HasLevel h l → i ≡ j
  one_hand i j g h l a b x y = some-injective i j (sym (r.level_held i g a x.0 l x.1).1 ∙ (r.level_held j h b y.0 l y.1).1)

  -- and a slot that is taken, or on no chain
  pub owns_once : (i j : ℕ) (g h : Hand) (s : ℕ) → get_elem? hs i ≡ some g → get_elem? hs j ≡ some h → Owns g s → Owns h s → i ≡ j
  owns_once i j g h s a b x y = ⊎_elim
      (λ t. ⊎_elim (λ u. some-injective i j (sym (ap r.taker (sym t.2) ∙ (r.taken i g a t.0 t.1).0) ∙ (ap r.taker (sym u.2) ∙ (r.taken j h b u.0 u.1).0)))
      (λ l. absurd (apart t.0 (r.taken i g a t.0 t.1).1 t.2 h (r.loosened j h b s l).2)) y)
      (λ l. ⊎_elim (λ u. absurd (apart u.0 (r.taken j h b u.0 u.1).1 u.2 g (r.loosened i g a s l).2))
      (λ m. some-injective i j (sym (r.loosened i g a s l).0 ∙ (r.loosened j h b s m).0)) y) x
    where
      apart : (due : Job) → IsWork w due → (slot_of due) ≡ s → (f : Hand) → IsLoose z w f s → ⊥
      apart due t e f loose = never loose.0 (sym t.free ∙ ap w.word e ∙ loose.1)

  -- a slot of a seat's own is not on
  pub owned_off : ((s : ℕ) → on s ≡ true → (word : Word) × (w.word s ≡ std.Some word)) → (id : ℕ) (h : Hand) (s : ℕ) → get_elem? hs id ≡ some h → Owns h s → on s ≡ false
  owned_off used id h s at own = ⊎_elim (λ t. taken_off t.0 (r.taken id h at t.0 t.1).1 t.2 (on s) refl) (λ l. (r.loosened id h at s l).1) own
    where
      taken_off : (due : Job) → IsWork w due → (slot_of due) ≡ s → (b : Bool) → on s ≡ b → on s ≡ false
      taken_off due t e true is = let u = used s is in absurd (never u.0 (sym t.free ∙ ap w.word e ∙ u.1))
      taken_off due t e false is = is

  module _ (id : ℕ) (h : Hand) (at : get_elem? hs id ≡ some h) where
    taken_back : (g : Hand) → g.taken ≡ h.taken → (s i : ℕ) → r.taker s ≡ some i → (f : Hand) × (due : Job) × (get_elem? (set hs id g) i ≡ some f) × (f.taken ≡ Some due) × ((slot_of due) ≡ s)
    taken_back g same s i is = let t = r.taken_by s i is in by_eq i id
        (λ same_id. (g, t.1, subst (λ (j : ℕ). get_elem? (set hs id g) j ≡ some g) (sym same_id) (set_at hs id h g at), same ∙ ap (λ (f : Hand). f.taken) (some-injective h t.0 (sym at ∙ (ap (λ j. get_elem? hs j) (sym same_id) ∙ t.2))) ∙ t.3, t.4))
        (λ apart. (t.0, t.1, set_else hs id i g apart ∙ t.2, t.3, t.4))

    loose_back : (g : Hand) → g.loose ≡ h.loose → (s i : ℕ) → r.loose s ≡ some i → (f : Hand) × (get_elem? (set hs id g) i ≡ some f) × (f.loose ≡ Some s)
    loose_back g same s i is = let t = r.loose_by s i is in by_eq i id
        (λ same_id. (g, subst (λ (j : ℕ). get_elem? (set hs id g) j ≡ some g) (sym same_id) (set_at hs id h g at), same ∙ ap (λ (f : Hand). f.loose) (some-injective h t.0 (sym at ∙ (ap (λ j. get_elem? hs j) (sym same_id) ∙ t.1))) ∙ t.2))
        (λ apart. (t.0, set_else hs id i g apart ∙ t.1, t.2))

    -- a step that changes neither turns nor slots
    pub hands_it : (g : Hand) → g.levels ≡ h.levels → g.free ≡ h.free → g.taken ≡ h.taken → g.loose ≡ h.loose → ((n : Walk) → g.walk ≡ Some n → HasLevel g n.level) → Tables free_slots z w on free_turn turn home (set hs id g)
    hands_it g same_levels same_free same_taken same_loose walk = record {
      free_now = r.free_now;
      free_holder = r.free_holder;
      holder = r.holder;
      taker = r.taker;
      loose = r.loose;
      free_is = r.free_is;
      free_home = r.free_home;
      free_held = each_set (FreeHeld r.free_holder free_turn r.free_now) hs id g (λ i f apart there. r.free_held i f there) (λ list its. r.free_held id h at list (sym same_free ∙ its));
      level_home = r.level_home;
      level_held = each_set (LevelHeld r.holder turn) hs id g (λ i f apart there. r.level_held i f there) (λ k l its. r.level_held id h at k l (ap (λ xs. get_elem? xs k) (sym same_levels) ∙ its));
      taken = each_set (TakenBy w r.taker) hs id g (λ i f apart there. r.taken i f there) (λ b its. let t = r.taken id h at b (sym same_taken ∙ its) in (t.0, t.1, subst (λ xs. Stands xs (level_of z (word_of b))) (sym same_levels) t.2));
      taken_by = taken_back g same_taken;
      loosened = each_set (Loosened w on r.loose) hs id g (λ i f apart there. r.loosened i f there) (λ s its. let t = r.loosened id h at s (sym same_loose ∙ its) in (t.0, t.1, (t.2.0, t.2.1, subst (λ xs. Stands xs (level_of z t.2.0)) (sym same_levels) t.2.2)));
      loose_by = loose_back g same_loose;
      high = r.high;
      complete = r.complete;
      walking = each_set Walking hs id g (λ i f apart there. r.walking i f there) walk;
    }

    -- a level's turn is taken
    pub takes_level : (l new : ℕ) → l < levels z → turn l ≡ 0 → new ≢ 0 → Tables free_slots z w on free_turn (put_at turn l new) home (set hs id (with_level l h))
    takes_level l new lt is_free nonzero = record {
      free_now = r.free_now;
      free_holder = r.free_holder;
      holder = put_at r.holder l (some id);
      taker = r.taker;
      loose = r.loose;
      free_is = r.free_is;
      free_home = r.free_home;
      free_held = each_set (FreeHeld r.free_holder free_turn r.free_now) hs id (with_level l h) (λ i g apart there. r.free_held i g there) (r.free_held id h at);
      level_home = λ m below zero_turn. by_eq m l
          (λ is. absurd (nonzero (sym (ap (λ b. cond b new (turn m)) (eq-eqb m l is)) ∙ zero_turn)))
          (λ apart. put_at-other r.holder l m (some id) apart ∙ r.level_home m below (sym (put_at-other turn l m new apart) ∙ zero_turn));
      level_held = each_set (LevelHeld (put_at r.holder l (some id)) (put_at turn l new)) hs id (with_level l h) (λ i g apart there k m its. still i m (r.level_held i g there k m its)) own;
      taken = each_set (TakenBy w r.taker) hs id (with_level l h) (λ i g apart there. r.taken i g there) (λ b its. let t = r.taken id h at b its in (t.0, t.1, (suc t.2.0, t.2.1)));
      taken_by = taken_back (with_level l h) refl;
      loosened = each_set (Loosened w on r.loose) hs id (with_level l h) (λ i g apart there. r.loosened i g there) (λ s its. let t = r.loosened id h at s its in (t.0, t.1, (t.2.0, t.2.1, (suc t.2.2.0, t.2.2.1))));
      loose_by = loose_back (with_level l h) refl;
      high = r.high;
      complete = r.complete;
      walking = each_set Walking hs id (with_level l h) (λ i g apart there. r.walking i g there) (λ n its. let t = r.walking id h at n its in (suc t.0, t.1));
    }
      where
        still : (i m : ℕ) → (m < levels z) × (r.holder m ≡ some i) × (turn m ≢ 0) → (m < levels z) × (put_at r.holder l (some id) m ≡ some i) × (put_at turn l new m ≢ 0)
        still i m p =
            let off : m ≢ l = λ e. p.2 (ap turn e ∙ is_free) in
            (p.0, put_at-other r.holder l m (some id) off ∙ p.1, (λ zero_turn. p.2 (sym (put_at-other turn l m new off) ∙ zero_turn)))

        own : LevelHeld (put_at r.holder l (some id)) (put_at turn l new) id (with_level l h)
        own zero m there = subst (λ (n : ℕ). (n < levels z) × (put_at r.holder l (some id) n ≡ some id) × (put_at turn l new n ≢ 0)) (some-injective l m there) (lt, put_at-same r.holder l (some id), (λ zero_turn. nonzero (sym (put_at-same turn l new) ∙ zero_turn)))
        own (suc k) m there = still id m (r.level_held id h at k m there)

    -- and put back: nothing of the level is taken, on no chain, or walked
    pub puts_level : (l : ℕ) → HasLevel h l → ((b : Job) → h.taken ≡ Some b → level_of z (word_of b) ≢ l) → ((s : ℕ) (word : Word) → h.loose ≡ Some s → w.word s ≡ std.Some word → level_of z word ≢ l) → ((n : Walk) → h.walk ≡ Some n → n.level ≢ l)
        → Tables free_slots z w on free_turn (put_at turn l 0) home (set hs id (record h { levels = without_level l h.levels }))
    puts_level l level off_taken off_loose off_walk =
        let g : Hand = record h { levels = without_level l h.levels } in
        let held_by : r.holder l ≡ some id = (r.level_held id h at level.0 l level.1).1 in record {
          free_now = r.free_now;
          free_holder = r.free_holder;
          holder = put_at r.holder l none;
          taker = r.taker;
          loose = r.loose;
          free_is = r.free_is;
          free_home = r.free_home;
          free_held = each_set (FreeHeld r.free_holder free_turn r.free_now) hs id g (λ i f apart there. r.free_held i f there) (r.free_held id h at);
          level_home = λ m below zero_turn. by_eq m l (λ is. ap (λ b. cond b none (r.holder m)) (eq-eqb m l is)) (λ apart. put_at-other r.holder l m none apart ∙ r.level_home m below (sym (put_at-other turn l m 0 apart) ∙ zero_turn));
          level_held = each_set (LevelHeld (put_at r.holder l none) (put_at turn l 0)) hs id g
              (λ i f apart there k m its. let p = r.level_held i f there k m its in still i m (λ e. apart (some-injective i id (sym p.1 ∙ (ap r.holder e ∙ held_by)))) p)
              (λ k m its. let o = turn_kept l h.levels k m its in still id m o.0 (r.level_held id h at o.1.0 m o.1.1));
          taken = each_set (TakenBy w r.taker) hs id g (λ i f apart there. r.taken i f there)
              (λ b its. let t = r.taken id h at b its in (t.0, t.1, kept_turn l h.levels t.2.0 (level_of z (word_of b)) t.2.1 (off_taken b its)));
          taken_by = taken_back g refl;
          loosened = each_set (Loosened w on r.loose) hs id g (λ i f apart there. r.loosened i f there)
              (λ s its. let t = r.loosened id h at s its in (t.0, t.1, (t.2.0, t.2.1, kept_turn l h.levels t.2.2.0 (level_of z t.2.0) t.2.2.1 (off_loose s t.2.0 its t.2.1))));
          loose_by = loose_back g refl;
          high = r.high;
          complete = r.complete;
          walking = each_set Walking hs id g (λ i f apart there. r.walking i f there) (λ n its. let t = r.walking id h at n its in kept_turn l h.levels t.0 n.level t.1 (off_walk n its));
        }
      where
        still : (i m : ℕ) → m ≢ l → (m < levels z) × (r.holder m ≡ some i) × (turn m ≢ 0) → (m < levels z) × (put_at r.holder l none m ≡ some i) × (put_at turn l 0 m ≢ 0)
        still i m off p = (p.0, put_at-other r.holder l m none off ∙ p.1, (λ zero_turn. p.2 (sym (put_at-other turn l m 0 off) ∙ zero_turn)))

    -- the free list is taken
    pub takes_free : (new : ℕ) (home' : Home) → free_turn ≡ 0 → new ≢ 0 → Tables free_slots z w on new turn home' (set hs id (record h { free = Some r.free_now }))
    takes_free new home' is_free nonzero =
        let g : Hand = record h { free = Some r.free_now } in record {
          free_now = r.free_now;
          free_holder = some id;
          holder = r.holder;
          taker = r.taker;
          loose = r.loose;
          free_is = r.free_is;
          free_home = λ zero_turn. absurd (nonzero zero_turn);
          free_held = each_set (FreeHeld (some id) new r.free_now) hs id g (λ i f apart there list its. absurd ((r.free_held i f there list its).1 is_free)) (λ list its. (refl, nonzero, sym (some_same r.free_now list its)));
          level_home = r.level_home;
          level_held = each_set (LevelHeld r.holder turn) hs id g (λ i f apart there. r.level_held i f there) (r.level_held id h at);
          taken = each_set (TakenBy w r.taker) hs id g (λ i f apart there. r.taken i f there) (r.taken id h at);
          taken_by = taken_back g refl;
          loosened = each_set (Loosened w on r.loose) hs id g (λ i f apart there. r.loosened i f there) (r.loosened id h at);
          loose_by = loose_back g refl;
          high = r.high;
          complete = r.complete;
          walking = each_set Walking hs id g (λ i f apart there. r.walking i f there) (r.walking id h at);
        }

    -- the free list is put back as it is
    pub puts_back : (list : List ℕ) (home' : Home) (x : S) → h.free ≡ Some list → (free_slots x).slots ≡ list → (free_slots x).room ≡ z.slots → home' 1 ≡ some (some (Some x)) → Tables free_slots z w on 0 turn home' (set hs id (record h { free = None }))
    puts_back list home' x has gives roomy there_now =
        let g : Hand = record h { free = None } in
        let mine = r.free_held id h at list has in record {
          free_now = r.free_now;
          free_holder = none;
          holder = r.holder;
          taker = r.taker;
          loose = r.loose;
          free_is = r.free_is;
          free_home = λ zero_turn. (refl, x, there_now, gives ∙ mine.2, roomy);
          free_held = each_set (FreeHeld none 0 r.free_now) hs id g (λ i f apart there l its. absurd (apart (some-injective i id (sym (r.free_held i f there l its).0 ∙ mine.0)))) (λ l its. absurd (never l its));
          level_home = r.level_home;
          level_held = each_set (LevelHeld r.holder turn) hs id g (λ i f apart there. r.level_held i f there) (r.level_held id h at);
          taken = each_set (TakenBy w r.taker) hs id g (λ i f apart there. r.taken i f there) (r.taken id h at);
          taken_by = taken_back g refl;
          loosened = each_set (Loosened w on r.loose) hs id g (λ i f apart there. r.loosened i f there) (r.loosened id h at);
          loose_by = loose_back g refl;
          high = r.high;
          complete = r.complete;
          walking = each_set Walking hs id g (λ i f apart there. r.walking i f there) (r.walking id h at);
        }

    -- the free list is put back without its first slot, which is taken for what is due
    pub puts_free : (due : Job) (rest : List ℕ) (home' : Home) (x : S) → h.free ≡ Some ((slot_of due) ∷ rest) → h.taken ≡ None → IsToDo w due → HasLevel h (level_of z (word_of due)) → z.slots ≡ w.limit
        → (free_slots x).slots ≡ rest → (free_slots x).room ≡ z.slots → home' 1 ≡ some (some (Some x)) → Tables free_slots z w on 0 turn home' (set hs id (taking due h))
    puts_free due rest home' x list none_taken is_due level slots gives roomy there_now =
        let g : Hand = taking due h in
        let mine = r.free_held id h at ((slot_of due) ∷ rest) list in
        let now : r.free_now ≡ (slot_of due) ∷ rest = sym mine.2 in
        let first : get_elem? r.free_now 0 ≡ some (slot_of due) = ap (λ l. get_elem? l 0) now in
        let slot = r.free_is.free 0 (slot_of due) first in
        let later : (k s : ℕ) → get_elem? rest k ≡ some s → get_elem? r.free_now (suc k) ≡ some s = λ k s e. ap (λ l. get_elem? l (suc k)) now ∙ e in
        let apart_slot : (k s : ℕ) → get_elem? rest k ≡ some s → s ≢ (slot_of due) = λ k s e is. let o = r.free_is.once (suc k) 0 s (later k s e) (first ∙ ap some (sym is)) in omega (arith, o) in record {
          free_now = rest;
          free_holder = none;
          holder = r.holder;
          taker = put_at r.taker (slot_of due) (some id);
          loose = r.loose;
          free_is = record {
            free = λ k s e. let f = r.free_is.free (suc k) s (later k s e) in (f.0, f.1, put_at-other r.taker (slot_of due) s (some id) (apart_slot k s e) ∙ f.2);
            once = λ i j s a b. let o = r.free_is.once (suc i) (suc j) s (later i s a) (later j s b) in omega (arith, o);
            all = λ s lt free none_now. by_eq s (slot_of due)
                (λ is. absurd (some-ne-none id (sym (put_at-same r.taker (slot_of due) (some id)) ∙ (ap (put_at r.taker (slot_of due) (some id)) (sym is) ∙ none_now))))
                (λ apart. let st = r.free_is.all s lt free (sym (put_at-other r.taker (slot_of due) s (some id) apart) ∙ none_now) in
                behind s apart st.0 (ap (λ l. get_elem? l st.0) (sym now) ∙ st.1));
          };
          free_home = λ zero_turn. (refl, x, there_now, gives, roomy);
          free_held = each_set (FreeHeld none 0 rest) hs id g (λ i f apart there l its. absurd (apart (some-injective i id (sym (r.free_held i f there l its).0 ∙ mine.0)))) (λ l its. absurd (never l its));
          level_home = r.level_home;
          level_held = each_set (LevelHeld r.holder turn) hs id g (λ i f apart there. r.level_held i f there) (r.level_held id h at);
          taken = each_set (TakenBy w (put_at r.taker (slot_of due) (some id))) hs id g
              (λ i f apart there b its. let t = r.taken i f there b its in
              let off : (slot_of b) ≢ (slot_of due) = λ e. some-ne-none i (sym t.0 ∙ (ap r.taker e ∙ slot.2)) in (put_at-other r.taker (slot_of due) (slot_of b) (some id) off ∙ t.0, t.1, t.2))
              (λ b its. subst (λ (b : Job). (put_at r.taker (slot_of due) (some id) (slot_of b) ≡ some id) × IsWork w b × HasLevel g (level_of z (word_of b))) (some_same due b its)
              (put_at-same r.taker (slot_of due) (some id), record { fits = is_due; free = slot.1; within = subst (λ n. (slot_of due) < n) slots slot.0 }, level));
          taken_by = λ s i is. by_eq s (slot_of due)
              (λ is_it. (g, due, subst (λ (j : ℕ). get_elem? (set hs id g) j ≡ some g) (some-injective id i (sym (put_at-same r.taker (slot_of due) (some id)) ∙ (ap (put_at r.taker (slot_of due) (some id)) (sym is_it) ∙ is))) (set_at hs id h g at), refl, sym is_it))
              (λ apart. let t = r.taken_by s i (sym (put_at-other r.taker (slot_of due) s (some id) apart) ∙ is) in
              let off : i ≢ id = λ e. never t.1 (sym none_taken ∙ (ap (λ (f : Hand). f.taken) (some-injective h t.0 (sym at ∙ (ap (λ j. get_elem? hs j) (sym e) ∙ t.2))) ∙ t.3)) in
              (t.0, t.1, set_else hs id i g off ∙ t.2, t.3, t.4));
          loosened = each_set (Loosened w on r.loose) hs id g (λ i f apart there. r.loosened i f there) (r.loosened id h at);
          loose_by = loose_back g refl;
          high = r.high;
          complete = r.complete;
          walking = each_set Walking hs id g (λ i f apart there. r.walking i f there) (r.walking id h at);
        }
      where
        behind : (s : ℕ) → s ≢ (slot_of due) → (k : ℕ) → get_elem? ((slot_of due) ∷ rest) k ≡ some s → Stands rest s
        behind s apart zero e = absurd (apart (sym (some-injective (slot_of due) s e)))
        behind s apart (suc k) e = (k, e)

    -- its first slot is taken for what is due, and the rest of it stays in hand
    pub takes_held : (due : Job) (rest : List ℕ) → h.free ≡ Some ((slot_of due) ∷ rest) → h.taken ≡ None → IsToDo w due → HasLevel h (level_of z (word_of due)) → z.slots ≡ w.limit
        → Tables free_slots z w on free_turn turn home (set hs id (record h { free = Some rest; taken = Some due; link = None }))
    takes_held due rest list none_taken is_due level slots =
        let g : Hand = record h { free = Some rest; taken = Some due; link = None } in
        let mine = r.free_held id h at ((slot_of due) ∷ rest) list in
        let now : r.free_now ≡ (slot_of due) ∷ rest = sym mine.2 in
        let first : get_elem? r.free_now 0 ≡ some (slot_of due) = ap (λ l. get_elem? l 0) now in
        let slot = r.free_is.free 0 (slot_of due) first in
        let later : (k s : ℕ) → get_elem? rest k ≡ some s → get_elem? r.free_now (suc k) ≡ some s = λ k s e. ap (λ l. get_elem? l (suc k)) now ∙ e in
        let apart_slot : (k s : ℕ) → get_elem? rest k ≡ some s → s ≢ (slot_of due) = λ k s e is. let o = r.free_is.once (suc k) 0 s (later k s e) (first ∙ ap some (sym is)) in omega (arith, o) in record {
          free_now = rest;
          free_holder = r.free_holder;
          holder = r.holder;
          taker = put_at r.taker (slot_of due) (some id);
          loose = r.loose;
          free_is = record {
            free = λ k s e. let f = r.free_is.free (suc k) s (later k s e) in (f.0, f.1, put_at-other r.taker (slot_of due) s (some id) (apart_slot k s e) ∙ f.2);
            once = λ i j s a b. let o = r.free_is.once (suc i) (suc j) s (later i s a) (later j s b) in omega (arith, o);
            all = λ s lt free none_now. by_eq s (slot_of due)
                (λ is. absurd (some-ne-none id (sym (put_at-same r.taker (slot_of due) (some id)) ∙ (ap (put_at r.taker (slot_of due) (some id)) (sym is) ∙ none_now))))
                (λ apart. let st = r.free_is.all s lt free (sym (put_at-other r.taker (slot_of due) s (some id) apart) ∙ none_now) in
                behind s apart st.0 (ap (λ l. get_elem? l st.0) (sym now) ∙ st.1));
          };
          free_home = λ zero_turn. absurd (mine.1 zero_turn);
          free_held = each_set (FreeHeld r.free_holder free_turn rest) hs id g
              (λ i f apart there l its. absurd (apart (some-injective i id (sym (r.free_held i f there l its).0 ∙ mine.0)))) (λ l its. (mine.0, mine.1, sym (some_same rest l its)));
          level_home = r.level_home;
          level_held = each_set (LevelHeld r.holder turn) hs id g (λ i f apart there. r.level_held i f there) (r.level_held id h at);
          taken = each_set (TakenBy w (put_at r.taker (slot_of due) (some id))) hs id g
              (λ i f apart there b its. let t = r.taken i f there b its in
              let off : (slot_of b) ≢ (slot_of due) = λ e. some-ne-none i (sym t.0 ∙ (ap r.taker e ∙ slot.2)) in (put_at-other r.taker (slot_of due) (slot_of b) (some id) off ∙ t.0, t.1, t.2))
              (λ b its. subst (λ (b : Job). (put_at r.taker (slot_of due) (some id) (slot_of b) ≡ some id) × IsWork w b × HasLevel g (level_of z (word_of b))) (some_same due b its)
              (put_at-same r.taker (slot_of due) (some id), record { fits = is_due; free = slot.1; within = subst (λ n. (slot_of due) < n) slots slot.0 }, level));
          taken_by = λ s i is. by_eq s (slot_of due)
              (λ is_it. (g, due, subst (λ (j : ℕ). get_elem? (set hs id g) j ≡ some g) (some-injective id i (sym (put_at-same r.taker (slot_of due) (some id)) ∙ (ap (put_at r.taker (slot_of due) (some id)) (sym is_it) ∙ is))) (set_at hs id h g at), refl, sym is_it))
              (λ apart. let t = r.taken_by s i (sym (put_at-other r.taker (slot_of due) s (some id) apart) ∙ is) in
              let off : i ≢ id = λ e. never t.1 (sym none_taken ∙ (ap (λ (f : Hand). f.taken) (some-injective h t.0 (sym at ∙ (ap (λ j. get_elem? hs j) (sym e) ∙ t.2))) ∙ t.3)) in
              (t.0, t.1, set_else hs id i g off ∙ t.2, t.3, t.4));
          loosened = each_set (Loosened w on r.loose) hs id g (λ i f apart there. r.loosened i f there) (r.loosened id h at);
          loose_by = loose_back g refl;
          high = r.high;
          complete = r.complete;
          walking = each_set Walking hs id g (λ i f apart there. r.walking i f there) (r.walking id h at);
        }
      where
        behind : (s : ℕ) → s ≢ (slot_of due) → (k : ℕ) → get_elem? ((slot_of due) ∷ rest) k ≡ some s → Stands rest s
        behind s apart zero e = absurd (apart (sym (some-injective (slot_of due) s e)))
        behind s apart (suc k) e = (k, e)

    -- what is due is stored: the slot is in use then, and on no chain
    pub stores_it : (due : Job) (new : Content) (word : Word) → h.taken ≡ Some due → h.loose ≡ None → on (slot_of due) ≡ false → 3 ≤ (slot_of due) → level_of z word ≡ level_of z (word_of due)
        → new.word (slot_of due) ≡ std.Some word → ((t : ℕ) → t ≢ (slot_of due) → new.word t ≡ w.word t)
        → ((i : ℕ) (g : Hand) (b : Job) → i ≢ id → get_elem? hs i ≡ some g → g.taken ≡ Some b → level_of z (word_of b) ≢ level_of z (word_of due) → slot_of b ≢ slot_of due → IsWork w b → IsWork new b)
        → Tables free_slots z new on free_turn turn home (set hs id (storing due h))
    stores_it due new word is none_loose off above same_level here others still =
        let g : Hand = storing due h in
        let mine = r.taken id h at due is in
        let not_loose : r.loose (slot_of due) ≡ none = unowned mine.1 (r.loose (slot_of due)) refl in record {
          free_now = r.free_now;
          free_holder = r.free_holder;
          holder = r.holder;
          taker = put_at r.taker (slot_of due) none;
          loose = put_at r.loose (slot_of due) (some id);
          free_is = record {
            free = λ k s there. let f = r.free_is.free k s there in
                let away : s ≢ (slot_of due) = λ e. some-ne-none id (sym mine.0 ∙ ap r.taker (sym e) ∙ f.2) in
                (f.0, others s away ∙ f.1, put_at-other r.taker (slot_of due) s none away ∙ f.2);
            once = r.free_is.once;
            all = λ s lt none_there free. by_eq s (slot_of due)
                (λ e. absurd (never word (sym none_there ∙ ap new.word e ∙ here)))
                (λ ne. r.free_is.all s lt (sym (others s ne) ∙ none_there) (sym (put_at-other r.taker (slot_of due) s none ne) ∙ free));
          };
          free_home = r.free_home;
          free_held = each_set (FreeHeld r.free_holder free_turn r.free_now) hs id g (λ i f apart there. r.free_held i f there) (r.free_held id h at);
          level_home = r.level_home;
          level_held = each_set (LevelHeld r.holder turn) hs id g (λ i f apart there. r.level_held i f there) (r.level_held id h at);
          taken = each_set (TakenBy new (put_at r.taker (slot_of due) none)) hs id g
              (λ i f apart there b its. let t = r.taken i f there b its in
              let other_slot : (slot_of b) ≢ (slot_of due) = λ e. apart (some-injective i id (sym t.0 ∙ ap r.taker e ∙ mine.0)) in
              let other_var : level_of z (word_of b) ≢ level_of z (word_of due) = λ e. apart (one_hand i id f h (level_of z (word_of due)) there at (subst (HasLevel f) e t.2) mine.2) in
              (put_at-other r.taker (slot_of due) (slot_of b) none other_slot ∙ t.0, still i f b apart there its other_var other_slot t.1, t.2))
              (λ b its. absurd (never b its));
          taken_by = λ s i is_taken. by_eq s (slot_of due)
              (λ e. absurd (some-ne-none i (sym is_taken ∙ ap (put_at r.taker (slot_of due) none) e ∙ put_at-same r.taker (slot_of due) none)))
              (λ ne.
              let t = r.taken_by s i (sym (put_at-other r.taker (slot_of due) s none ne) ∙ is_taken) in
              let apart : i ≢ id = λ e. ne (sym t.4 ∙ ap (λ (b : Job). (slot_of b)) (some_same t.1 due (sym t.3 ∙ ap (λ (g : Hand). g.taken) (some-injective t.0 h (sym t.2 ∙ ap (λ j. get_elem? hs j) e ∙ at)) ∙ is))) in
              (t.0, t.1, set_else hs id i g apart ∙ t.2, t.3, t.4));
          loosened = each_set (Loosened new on (put_at r.loose (slot_of due) (some id))) hs id g
              (λ i f apart there s its. let t = r.loosened i f there s its in
              let away : s ≢ (slot_of due) = λ e. never t.2.0 (sym mine.1.free ∙ ap w.word (sym e) ∙ t.2.1) in
              (put_at-other r.loose (slot_of due) s (some id) away ∙ t.0, t.1, (t.2.0, others s away ∙ t.2.1, t.2.2)))
              (λ s its. subst (λ (t : ℕ). (put_at r.loose (slot_of due) (some id) t ≡ some id) × (on t ≡ false) × IsLoose z new g t) (some_same (slot_of due) s its)
              (put_at-same r.loose (slot_of due) (some id), off, (word, here, subst (HasLevel h) (sym same_level) mine.2)));
          loose_by = λ s i is_loose. by_eq s (slot_of due)
              (λ e. (g, subst (λ (j : ℕ). get_elem? (set hs id g) j ≡ some g) (some-injective id i (sym (put_at-same r.loose (slot_of due) (some id)) ∙ ap (put_at r.loose (slot_of due) (some id)) (sym e) ∙ is_loose)) (set_at hs id h g at), ap Some (sym e)))
              (λ ne. let t = r.loose_by s i (sym (put_at-other r.loose (slot_of due) s (some id) ne) ∙ is_loose) in
              let apart : i ≢ id = λ e. never s (sym none_loose ∙ ap (λ (g : Hand). g.loose) (some-injective h t.0 (sym at ∙ ap (λ j. get_elem? hs j) (sym e) ∙ t.1)) ∙ t.2) in
              (t.0, set_else hs id i g apart ∙ t.1, t.2));
          high = λ s i its. by_eq s (slot_of due) (λ e. subst (λ t. 3 ≤ t) (sym e) above) (λ ne. r.high s i (sym (put_at-other r.loose (slot_of due) s (some id) ne) ∙ its));
          complete = λ s o le its. by_eq s (slot_of due)
              (λ e. inr (id, ap (put_at r.loose (slot_of due) (some id)) e ∙ put_at-same r.loose (slot_of due) (some id)))
              (λ ne. ⊎_elim inl (λ c. inr (c.0, put_at-other r.loose (slot_of due) s (some id) ne ∙ c.1)) (r.complete s o le (sym (others s ne) ∙ its)));
          walking = each_set Walking hs id g (λ i f apart there. r.walking i f there) (r.walking id h at);
        }
      where
        unowned : IsWork w due → (o : Option ℕ) → r.loose (slot_of due) ≡ o → r.loose (slot_of due) ≡ none
        unowned t none e = e
        unowned t (some i) e = let b = r.loose_by (slot_of due) i e in let l = r.loosened i b.0 b.1 (slot_of due) b.2 in absurd (never l.2.0 (sym t.free ∙ l.2.1))

    -- a head takes the slot
    pub pushes_it : (s : ℕ) → h.loose ≡ Some s → Tables free_slots z w (put_at on s true) free_turn turn home (set hs id (pushing h))
    pushes_it s is =
        let g : Hand = pushing h in
        let mine = r.loosened id h at s is in record {
          free_now = r.free_now;
          free_holder = r.free_holder;
          holder = r.holder;
          taker = r.taker;
          loose = put_at r.loose s none;
          free_is = r.free_is;
          free_home = r.free_home;
          free_held = each_set (FreeHeld r.free_holder free_turn r.free_now) hs id g (λ i f apart there. r.free_held i f there) (r.free_held id h at);
          level_home = r.level_home;
          level_held = each_set (LevelHeld r.holder turn) hs id g (λ i f apart there. r.level_held i f there) (r.level_held id h at);
          taken = each_set (TakenBy w r.taker) hs id g (λ i f apart there. r.taken i f there) (r.taken id h at);
          taken_by = taken_back g refl;
          loosened = each_set (Loosened w (put_at on s true) (put_at r.loose s none)) hs id g
              (λ i f apart there t its. let l = r.loosened i f there t its in
              let away : t ≢ s = λ e. apart (some-injective i id (sym l.0 ∙ ap r.loose e ∙ mine.0)) in
              (put_at-other r.loose s t none away ∙ l.0, put_at-other on s t true away ∙ l.1, l.2))
              (λ t its. absurd (never t its));
          loose_by = λ t i is_loose. by_eq t s
              (λ e. absurd (some-ne-none i (sym is_loose ∙ ap (put_at r.loose s none) e ∙ put_at-same r.loose s none)))
              (λ ne. let b = r.loose_by t i (sym (put_at-other r.loose s t none ne) ∙ is_loose) in
              let apart : i ≢ id = λ e. ne (some_same t s (sym b.2 ∙ ap (λ (g : Hand). g.loose) (some-injective b.0 h (sym b.1 ∙ ap (λ j. get_elem? hs j) e ∙ at)) ∙ is)) in
              (b.0, set_else hs id i g apart ∙ b.1, b.2));
          high = λ t i its. by_eq t s (λ e. absurd (some-ne-none i (sym its ∙ ap (put_at r.loose s none) e ∙ put_at-same r.loose s none))) (λ ne. r.high t i (sym (put_at-other r.loose s t none ne) ∙ its));
          complete = λ t o le its. by_eq t s
              (λ e. inl (ap (put_at on s true) e ∙ put_at-same on s true))
              (λ ne. ⊎_elim (λ a. inl (put_at-other on s t true ne ∙ a)) (λ c. inr (c.0, put_at-other r.loose s t none ne ∙ c.1)) (r.complete t o le its));
          walking = each_set Walking hs id g (λ i f apart there. r.walking i f there) (λ n its. absurd (never n its));
        }

    -- a slot is taken off its chain, with its level's turn in hand
    pub loosens_it : (s : ℕ) (word : Word) → h.loose ≡ None → on s ≡ true → 3 ≤ s → w.word s ≡ std.Some word → HasLevel h (level_of z word) → Tables free_slots z w (put_at on s false) free_turn turn home (set hs id (loosening s h))
    loosens_it s word none_loose is_on above its_word level =
        let g : Hand = loosening s h in record {
          free_now = r.free_now;
          free_holder = r.free_holder;
          holder = r.holder;
          taker = r.taker;
          loose = put_at r.loose s (some id);
          free_is = r.free_is;
          free_home = r.free_home;
          free_held = each_set (FreeHeld r.free_holder free_turn r.free_now) hs id g (λ i f apart there. r.free_held i f there) (r.free_held id h at);
          level_home = r.level_home;
          level_held = each_set (LevelHeld r.holder turn) hs id g (λ i f apart there. r.level_held i f there) (r.level_held id h at);
          taken = each_set (TakenBy w r.taker) hs id g (λ i f apart there. r.taken i f there) (r.taken id h at);
          taken_by = taken_back g refl;
          loosened = each_set (Loosened w (put_at on s false) (put_at r.loose s (some id))) hs id g
              (λ i f apart there t its. let l = r.loosened i f there t its in
              let away : t ≢ s = λ e. true≢false (sym is_on ∙ ap on (sym e) ∙ l.1) in
              (put_at-other r.loose s t (some id) away ∙ l.0, put_at-other on s t false away ∙ l.1, l.2))
              (λ t its. subst (λ (t : ℕ). (put_at r.loose s (some id) t ≡ some id) × (put_at on s false t ≡ false) × IsLoose z w g t) (some_same s t its)
              (put_at-same r.loose s (some id), put_at-same on s false, (word, its_word, level)));
          loose_by = λ t i is_loose. by_eq t s
              (λ e. (g, subst (λ (j : ℕ). get_elem? (set hs id g) j ≡ some g) (some-injective id i (sym (put_at-same r.loose s (some id)) ∙ ap (put_at r.loose s (some id)) (sym e) ∙ is_loose)) (set_at hs id h g at), ap Some (sym e)))
              (λ ne. let b = r.loose_by t i (sym (put_at-other r.loose s t (some id) ne) ∙ is_loose) in
              let apart : i ≢ id = λ e. never t (sym none_loose ∙ ap (λ (g : Hand). g.loose) (some-injective h b.0 (sym at ∙ ap (λ j. get_elem? hs j) (sym e) ∙ b.1)) ∙ b.2) in
              (b.0, set_else hs id i g apart ∙ b.1, b.2));
          high = λ t i its. by_eq t s (λ e. subst (λ u. 3 ≤ u) (sym e) above) (λ ne. r.high t i (sym (put_at-other r.loose s t (some id) ne) ∙ its));
          complete = λ t o le its. by_eq t s
              (λ e. inr (id, ap (put_at r.loose s (some id)) e ∙ put_at-same r.loose s (some id)))
              (λ ne. ⊎_elim (λ a. inl (put_at-other on s t false ne ∙ a)) (λ c. inr (c.0, put_at-other r.loose s t (some id) ne ∙ c.1)) (r.complete t o le its));
          walking = each_set Walking hs id g (λ i f apart there. r.walking i f there) (λ n its. absurd (never n its));
        }

    -- the word of a slot on no chain is rewritten: both levels' turns are in hand, and no seat has a slot taken
    pub rewrites_it : (s : ℕ) (new : Content) (word : Word) → h.loose ≡ Some s → new.word s ≡ std.Some word → ((t : ℕ) → t ≢ s → new.word t ≡ w.word t) → HasLevel h (level_of z word)
        → ((i : ℕ) (g : Hand) → get_elem? hs i ≡ some g → g.taken ≡ None) → Tables free_slots z new on free_turn turn home hs
    rewrites_it s new word is here others level none_taken =
        let mine = r.loosened id h at s is in record {
          free_now = r.free_now;
          free_holder = r.free_holder;
          holder = r.holder;
          taker = r.taker;
          loose = r.loose;
          free_is = record {
            free = λ k t there. let f = r.free_is.free k t there in (f.0, others t (λ e. never mine.2.0 (sym f.1 ∙ ap w.word e ∙ mine.2.1)) ∙ f.1, f.2);
            once = r.free_is.once;
            all = λ t lt none_there free. by_eq t s (λ e. absurd (never word (sym none_there ∙ ap new.word e ∙ here))) (λ ne. r.free_is.all t lt (sym (others t ne) ∙ none_there) free);
          };
          free_home = r.free_home;
          free_held = r.free_held;
          level_home = r.level_home;
          level_held = r.level_held;
          taken = λ i g there b its. absurd (never b (sym (none_taken i g there) ∙ its));
          taken_by = r.taken_by;
          loosened = λ i f there t its. let l = r.loosened i f there t its in (
            l.0,
            l.1,
            by_eq t s
                (λ e. let same : i ≡ id = some-injective i id (sym l.0 ∙ ap r.loose e ∙ mine.0) in
                let same_hand : h ≡ f = some-injective h f (sym at ∙ ap (λ j. get_elem? hs j) (sym same) ∙ there) in
                (word, ap new.word e ∙ here, subst (λ (y : Hand). HasLevel y (level_of z word)) same_hand level))
                (λ ne. (l.2.0, others t ne ∙ l.2.1, l.2.2)),
          );
          loose_by = r.loose_by;
          high = r.high;
          complete = λ t o le its. by_eq t s
              (λ e. inr (id, ap r.loose e ∙ mine.0)) (λ ne. r.complete t o le (sym (others t ne) ∙ its));
          walking = r.walking;
        }

    -- a slot on no chain is freed, with the free list in hand
    pub frees_it : (s : ℕ) (new : Content) (list : List ℕ) → h.loose ≡ Some s → h.free ≡ Some list → s < z.slots → new.word s ≡ None → ((t : ℕ) → t ≢ s → new.word t ≡ w.word t)
        → ((i : ℕ) (g : Hand) → get_elem? hs i ≡ some g → g.taken ≡ None) → Tables free_slots z new on free_turn turn home (set hs id (freeing s list h))
    frees_it s new list is free below here others none_taken =
        let g : Hand = freeing s list h in
        let own = r.loosened id h at s is in
        let mine = r.free_held id h at list free in
        let in_list : (k t : ℕ) → get_elem? list k ≡ some t → get_elem? r.free_now k ≡ some t = λ k t e. ap (λ l. get_elem? l k) (sym mine.2) ∙ e in
        let not_taken : (t : ℕ) → r.taker t ≡ none = λ t. by_taker t (r.taker t) refl in
        let not_s : (k t : ℕ) → get_elem? list k ≡ some t → t ≢ s = λ k t e same. never own.2.0 (sym (r.free_is.free k t (in_list k t e)).1 ∙ ap w.word same ∙ own.2.1) in record {
          free_now = s ∷ list;
          free_holder = r.free_holder;
          holder = r.holder;
          taker = r.taker;
          loose = put_at r.loose s none;
          free_is = record {
            free = λ k t e. at_either k t e not_taken (λ k t e. let f = r.free_is.free k t (in_list k t e) in (f.0, others t (not_s k t e) ∙ f.1, f.2));
            once = λ j k t a b. once j k t a b not_s (λ j k t a b. r.free_is.once j k t (in_list j t a) (in_list k t b));
            all = λ t lt word none_now. by_eq t s
                (λ e. (0, ap some (sym e)))
                (λ ne. let st = r.free_is.all t lt (sym (others t ne) ∙ word) none_now in (suc st.0, ap (λ l. get_elem? l st.0) mine.2 ∙ st.1));
          };
          free_home = λ zero_turn. absurd (mine.1 zero_turn);
          free_held = each_set (FreeHeld r.free_holder free_turn (s ∷ list)) hs id g
              (λ i f apart there l its. absurd (apart (some-injective i id (sym (r.free_held i f there l its).0 ∙ mine.0)))) (λ l its. (mine.0, mine.1, sym (some_same (s ∷ list) l its)));
          level_home = r.level_home;
          level_held = each_set (LevelHeld r.holder turn) hs id g (λ i f apart there. r.level_held i f there) (r.level_held id h at);
          taken = each_set (TakenBy new r.taker) hs id g (λ i f apart there b its. absurd (never b (sym (none_taken i f there) ∙ its))) (λ b its. absurd (never b (sym (none_taken id h at) ∙ its)));
          taken_by = taken_back g refl;
          loosened = each_set (Loosened new on (put_at r.loose s none)) hs id g
              (λ i f apart there t its. let l = r.loosened i f there t its in
              let away : t ≢ s = λ e. apart (some-injective i id (sym l.0 ∙ ap r.loose e ∙ own.0)) in
              (put_at-other r.loose s t none away ∙ l.0, l.1, (l.2.0, others t away ∙ l.2.1, l.2.2)))
              (λ t its. absurd (never t its));
          loose_by = λ t i is_loose. by_eq t s
              (λ e. absurd (some-ne-none i (sym is_loose ∙ ap (put_at r.loose s none) e ∙ put_at-same r.loose s none)))
              (λ ne. let b = r.loose_by t i (sym (put_at-other r.loose s t none ne) ∙ is_loose) in
              let apart : i ≢ id = λ e. ne (some_same t s (sym b.2 ∙ ap (λ (g : Hand). g.loose) (some-injective b.0 h (sym b.1 ∙ ap (λ j. get_elem? hs j) e ∙ at)) ∙ is)) in
              (b.0, set_else hs id i g apart ∙ b.1, b.2));
          high = λ t i its. by_eq t s (λ e. absurd (some-ne-none i (sym its ∙ ap (put_at r.loose s none) e ∙ put_at-same r.loose s none))) (λ ne. r.high t i (sym (put_at-other r.loose s t none ne) ∙ its));
          complete = λ t o le its. by_eq t s
              (λ e. absurd (never o (sym here ∙ ap new.word (sym e) ∙ its)))
              (λ ne. ⊎_elim inl (λ c. inr (c.0, put_at-other r.loose s t none ne ∙ c.1)) (r.complete t o le (sym (others t ne) ∙ its)));
          walking = each_set Walking hs id g (λ i f apart there. r.walking i f there) (r.walking id h at);
        }
      where
        by_taker : (t : ℕ) (o : Option ℕ) → r.taker t ≡ o → r.taker t ≡ none
        by_taker t none e = e
        by_taker t (some i) e = let b = r.taken_by t i e in absurd (never b.1 (sym (none_taken i b.0 b.2) ∙ b.3))

        at_either : (k t : ℕ) → get_elem? (s ∷ list) k ≡ some t → ((t : ℕ) → r.taker t ≡ none) → ((k t : ℕ) → get_elem? list k ≡ some t → (t < z.slots) × (new.word t ≡ None) × (r.taker t ≡ none)) → (t < z.slots) × (new.word t ≡ None) × (r.taker t ≡ none)
        at_either zero t e not_taken later = subst (λ (x : ℕ). (x < z.slots) × (new.word x ≡ None) × (r.taker x ≡ none)) (some-injective s t e) (below, here, not_taken s)
        at_either (suc k) t e not_taken later = later k t e

        once : (j k t : ℕ) → get_elem? (s ∷ list) j ≡ some t → get_elem? (s ∷ list) k ≡ some t → ((k t : ℕ) → get_elem? list k ≡ some t → t ≢ s) → ((j k t : ℕ) → get_elem? list j ≡ some t → get_elem? list k ≡ some t → j ≡ k) → j ≡ k
        once zero zero t a b not_s rest = refl
        once zero (suc k) t a b not_s rest = absurd (not_s k t b (sym (some-injective s t a)))
        once (suc j) zero t a b not_s rest = absurd (not_s j t a (sym (some-injective s t b)))
        once (suc j) (suc k) t a b not_s rest = ap suc (rest j k t a b)

  -- the free list is empty and in hand: each slot is in use, or another seat has taken it, and what is due here denotes what none of these denotes
  pub record IsFull (due : Job) : Type 0 where
    pub all : (s : ℕ) → s < z.slots → ((word : Word) × (w.word s ≡ std.Some word)) ⊎ ((id : ℕ) × (h : Hand) × (b : Job) × (get_elem? hs id ≡ some h) × (h.taken ≡ Some b) × ((slot_of b) ≡ s))
    pub apart_used : (s : ℕ) → w.function s ≡ Some (job_function w due) → ⊥
    pub apart_taken : (id : ℕ) (h : Hand) (b : Job) → get_elem? hs id ≡ some h → h.taken ≡ Some b → job_function w due ≡ job_function w b → ⊥

  pub full_is : IsSound w → w.half ≡ None → (id : ℕ) (h : Hand) (due : Job) → get_elem? hs id ≡ some h → h.free ≡ Some [] → h.taken ≡ None → HasLevel h (level_of z (word_of due)) → IsToDo w due → IsFull due
  full_is sound settled id h due at empty none_taken level is = record {
    all = λ s lt. by_word s lt (w.word s) refl;
    apart_used = unknown_job w sound settled due is;
    apart_taken = λ i g b there its same.
        let t = r.taken i g there b its in
        let away : i ≢ id = λ e. never b (sym none_taken ∙ ap (λ (x : Hand). x.taken) (some-injective h g (sym at ∙ ap (λ j. get_elem? hs j) (sym e) ∙ there)) ∙ its) in
        jobs_apart w sound z settled due b is t.1.fits (λ e. away (one_hand i id g h (level_of z (word_of due)) there at (subst (HasLevel g) (sym e) t.2) level)) same;
  }
    where
      by_taker : (s : ℕ) → s < z.slots → w.word s ≡ None → (o : Option ℕ) → r.taker s ≡ o → ((word : Word) × (w.word s ≡ std.Some word)) ⊎ ((id : ℕ) × (h : Hand) × (b : Job) × (get_elem? hs id ≡ some h) × (h.taken ≡ Some b) × ((slot_of b) ≡ s))
      by_taker s lt free none is_none =
          let stands = r.free_is.all s lt free is_none in
          let list = (r.free_held id h at [] empty).2 in
          absurd (some-ne-none s (sym stands.1 ∙ ap (λ l. get_elem? l stands.0) (sym list)))
      by_taker s lt free (some i) is_some = inr (let t = r.taken_by s i is_some in (i, t.0, t.1, t.2, t.3, t.4))

      by_word : (s : ℕ) → s < z.slots → (o : std.Option Word) → w.word s ≡ o → ((word : Word) × (w.word s ≡ std.Some word)) ⊎ ((id : ℕ) × (h : Hand) × (b : Job) × (get_elem? hs id ≡ some h) × (h.taken ≡ Some b) × ((slot_of b) ≡ s))
      by_word s lt std.None e = by_taker s lt e (r.taker s) refl
      by_word s lt (std.Some word) e = inl (word, e)
