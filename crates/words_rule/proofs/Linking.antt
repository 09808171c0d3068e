-- Steps on the chains: next words, node words, heads; a slot is taken off; what is absent.
use Rattle.std.proofs.Common.{◌≡◌, ◌+◌, arith, ◌≢◌, ℕ, suc, ◌<◌, ◌≤◌, inl, inr, ⊎_elim, Bool, true, false, List, [], ◌∷◌, ◌++◌, ◌*◌, ◌/◌, ◌%◌, ◌^◌, pow_pos, set, Some, None, refl, sym, ap, ◌∙◌, subst, true≢false}
use Rattle.std.proofs.Math.Nat.{mul-lt-mul_of_pos_right, div-lt_iff_lt-mul}
use Rattle.edge_bits.specs.Mixing.{scattered, spread}
use Rattle.std.specs.Prelude as std
use mathlib.Core.Option.{some}
use lib.ListN.{get_elem?}
use Rattle.edge_bits.specs.declared.words.Word.{Word}
use Rattle.edge_bits.specs.Words.{unpack_of}
use Rattle.node_store.specs.Changes.{put_at}
use Rattle.words_rule.specs.declared.view.Link.{Link}
use Rattle.words_rule.specs.declared.view.Walk.{Walk}
use Rattle.words_rule.specs.declared.view.Hand.{Hand}
use Rattle.words_rule.specs.Layout.{Shape, head_bits, heads, head_of}
use Rattle.words_rule.specs.Chains.{Lists, Along, Knows}
use Rattle.words_rule.specs.Hands.{level_of, level_if, level_in, Owns, Linked, linking, pushing, loosening}
use Rattle.words_rule.proofs.Lists.{each_set}
use Rattle.words_rule.proofs.Handling.{never, some_same}
use Rattle.words_rule.proofs.Chaining.{put_here, put_else, same_or, apart, stores_link, stores_word, pushes, others_know, loads_head, knows_link, knows_word}
use Rattle.words_rule.proofs.Unlinking.{unlinks_first, unlinks_later}

-- there are heads, so each word has one of them
pub head_within : (z : Shape) (bits : ℕ) → head_of z bits < heads z
unfolding scattered
head_within z bits =
    let m : ℕ = (spread bits + spread bits / 2 ^ 32) % 2 ^ 64 * 14029467366897019727 in
    let x : ℕ = m % 2 ^ 64 / 2 ^ 32 in
    let few : x < 2 ^ 32 = small m in
    let p : ℕ = heads z in
    let h : x * p < 2 ^ 32 * p = mul-lt-mul_of_pos_right few (pow_pos (head_bits 18 z.slots)) in
    (div-lt_iff_lt-mul {k = 2 ^ 32} {x = x * p} {y = p} (omega arith)).1 (subst (λ y. x * p < y) (omega arith) h)
  where
    small : (m : ℕ) → m % 2 ^ 64 / 2 ^ 32 < 2 ^ 32
    small m = omega arith

module _ (z : Shape) (node next head : ℕ → ℕ) (on : ℕ → Bool) (chain : ℕ → List ℕ) (hs : List Hand) (r : Linked z node next head on chain hs) where
  abbrev HasLink : (ℕ → ℕ) → ℕ → Hand → Type 0
  HasLink nx i g = (k : Link) → g.link ≡ Some k → Owns g k.slot → nx k.slot ≡ k.link

  abbrev HasWalk : (ℕ → ℕ) → (ℕ → ℕ) → (ℕ → Bool) → ℕ → Hand → Type 0
  HasWalk nd nx o i g = (n : Walk) → g.walk ≡ Some n → (n.head < heads z) × Knows nx (head_of z) (level_in z) nd o n.head n.level n.link n.rest

  abbrev IsWhole : (ℕ → List ℕ) → ℕ → Hand → Type 0
  IsWhole c i g = (n : Walk) → g.walk ≡ Some n → n.whole ≡ true → c n.head ≡ n.rest

  -- the hand alone changes
  pub hand_links : (id : ℕ) (g : Hand) → HasLink next id g → HasWalk node next on id g → IsWhole chain id g → Linked z node next head on chain (set hs id g)
  hand_links id g link walk whole = record {
    chains = r.chains;
    fits = r.fits;
    used = r.used;
    links = each_set (HasLink next) hs id g (λ i f apart there. r.links i f there) link;
    walks = each_set (HasWalk node next on) hs id g (λ i f apart there. r.walks i f there) walk;
    wholes = each_set (IsWhole chain) hs id g (λ i f apart there. r.wholes i f there) whole;
  }

  -- a next word is stored at a slot of this seat's own, which is on no chain
  pub links_it : (id : ℕ) (h : Hand) (s x : ℕ) → get_elem? hs id ≡ some h → on s ≡ false → ((i : ℕ) (g : Hand) → i ≢ id → get_elem? hs i ≡ some g → Owns g s → ⊥)
      → Linked z node (put_at next s x) head on chain (set hs id (linking s x h))
  links_it id h s x at off others =
      let g : Hand = linking s x h in record {
        chains = stores_link (heads z) head next (head_of z) (level_in z) node on chain r.chains s x off;
        fits = r.fits;
        used = r.used;
        links = each_set (HasLink (put_at next s x)) hs id g
            (λ i f apart there k its own. put_else next s k.slot x (λ e. others i f apart there (subst (Owns f) e own)) ∙ r.links i f there k its own)
            (λ k its own. let e : record { slot = s; link = x } ≡ k = some_same (record { slot = s; link = x }) k its in
            subst (λ (k : Link). put_at next s x k.slot ≡ k.link) e (put_here next s x));
        walks = each_set (HasWalk node (put_at next s x) on) hs id g (λ i f apart there. still i f (r.walks i f there)) (still id g (r.walks id h at));
        wholes = each_set (IsWhole chain) hs id g (λ i f apart there. r.wholes i f there) (r.wholes id h at);
      }
    where
      still : (i : ℕ) (f : Hand) → HasWalk node next on i f → HasWalk node (put_at next s x) on i f
      still i f walk n its = let k = walk n its in (k.0, knows_link next (head_of z) (level_in z) node on n.head n.level n.link n.rest k.1 s x off)

  -- a node word is stored at a slot on no chain: a new one, a rewritten or a freed one
  pub words_it : (s bits : ℕ) → bits < 18446744073709551616 → on s ≡ false → Linked z (put_at node s bits) next head on chain hs
  words_it s bits small off = record {
    chains = stores_word (heads z) head next (head_of z) (level_in z) node on chain r.chains s bits off;
    fits = λ t. ⊎_elim (λ same. subst (λ x. x < 18446744073709551616) (sym (ap (put_at node s bits) same ∙ put_here node s bits)) small) (λ ne. subst (λ x. x < 18446744073709551616) (sym (put_else node s t bits ne)) (r.fits t)) (same_or t s);
    used = λ t is. let u = r.used t is in (u.0, u.1, ap unpack_of (put_else node s t bits (apart on s t off is)) ∙ u.2);
    links = r.links;
    walks = λ i f there n its. let k = r.walks i f there n its in (k.0, knows_word next (head_of z) (level_in z) node on n.head n.level n.link n.rest k.1 s bits off);
    wholes = r.wholes;
  }

  -- a head takes a slot of this seat's own: other seats know chains for other levels, and none of them the whole
  pub heads_it : (id : ℕ) (h : Hand) (s link : ℕ) (word : Word) → get_elem? hs id ≡ some h → h.loose ≡ Some s → h.link ≡ Some (record { slot = s; link = link }) → on s ≡ false → 3 ≤ s → unpack_of (node s) ≡ std.Some word
      → head_of z (node s) < heads z → head (head_of z (node s)) ≡ link
      → ((i : ℕ) (g : Hand) → i ≢ id → get_elem? hs i ≡ some g → (n : Walk) → g.walk ≡ Some n → (level_of z word ≢ n.level) × (n.whole ≡ false))
      → Linked z node next (put_at head (head_of z (node s)) (suc s)) (put_at on s true) (put_at chain (head_of z (node s)) (s ∷ chain (head_of z (node s)))) (set hs id (pushing h))
  heads_it id h s link word at loose linked off high its_word lt found others =
      let g : Hand = pushing h in
      let to : head (head_of z (node s)) ≡ next s = found ∙ sym (r.links id h at (record { slot = s; link = link }) linked (inr loose)) in record {
        chains = pushes (heads z) head next (head_of z) (level_in z) node on chain r.chains s off lt to;
        fits = r.fits;
        used = λ t is. ⊎_elim (λ (same : t ≡ s). subst (λ (u : ℕ). (3 ≤ u) × (word : Word) × (unpack_of (node u) ≡ std.Some word)) (sym same) (high, word, its_word)) (λ ne. r.used t (sym (put_else on s t true ne) ∙ is)) (same_or t s);
        links = each_set (HasLink next) hs id g (λ i f apart there. r.links i f there) (λ k its. absurd (never k its));
        walks = each_set (HasWalk node next (put_at on s true)) hs id g
            (λ i f apart there n its. let k = r.walks i f there n its in (
              k.0,
              others_know (heads z) head next (head_of z) (level_in z) node on chain r.chains s off lt to n.head n.level n.link n.rest
                  (λ e. (others i f apart there n its).0 (ap (level_if z) (sym its_word) ∙ e)) k.1,
            ))
            (λ n its. absurd (never n its));
        wholes = each_set (IsWhole (put_at chain (head_of z (node s)) (s ∷ chain (head_of z (node s))))) hs id g
            (λ i f apart there n its whole. absurd (true≢false (sym whole ∙ (others i f apart there n its).1))) (λ n its. absurd (never n its));
      }

  -- the first of a chain is taken off: nobody else knows a chain
  module _ (id : ℕ) (h : Hand) (n : Walk) (s : ℕ) (ss : List ℕ) (at : get_elem? hs id ≡ some h) (walk : h.walk ≡ Some n) (whole : n.whole ≡ true)
      (others : (i : ℕ) (g : Hand) → i ≢ id → get_elem? hs i ≡ some g → g.walk ≡ None) where
    off_used : (t : ℕ) → put_at on s false t ≡ true → (3 ≤ t) × (word : Word) × (unpack_of (node t) ≡ std.Some word)
    off_used t is = ⊎_elim (λ same. absurd (true≢false (sym is ∙ ap (put_at on s false) same ∙ put_here on s false))) (λ ne. r.used t (sym (put_else on s t false ne) ∙ is)) (same_or t s)

    no_walk : (i : ℕ) (f : Hand) (m : Walk) → i ≢ id → get_elem? hs i ≡ some f → f.walk ≡ Some m → ⊥
    no_walk i f m apart there its = never m (sym (others i f apart there) ∙ its)

    pub unheads_it : n.rest ≡ s ∷ ss → Linked z node next (put_at head n.head (next s)) (put_at on s false) (put_at chain n.head ss) (set hs id (loosening s h))
    unheads_it rest =
        let is : chain n.head ≡ s ∷ ss = r.wholes id h at n walk whole ∙ rest in record {
          chains = unlinks_first (heads z) head next (head_of z) node on chain r.chains n.head s (r.walks id h at n walk).0 ss is;
          fits = r.fits;
          used = off_used;
          links = each_set (HasLink next) hs id (loosening s h) (λ i f apart there. r.links i f there) (λ k its. absurd (never k its));
          walks = each_set (HasWalk node next (put_at on s false)) hs id (loosening s h) (λ i f apart there m its. absurd (no_walk i f m apart there its)) (λ m its. absurd (never m its));
          wholes = each_set (IsWhole (put_at chain n.head ss)) hs id (loosening s h) (λ i f apart there m its. absurd (no_walk i f m apart there its)) (λ m its. absurd (never m its));
        }

    -- another: the next word of the one before it leads past it
    pub unlinks_it : (p : ℕ) (front : List ℕ) → n.rest ≡ front ++ p ∷ s ∷ ss → ((i : ℕ) (g : Hand) (t : ℕ) → i ≢ id → get_elem? hs i ≡ some g → Owns g t → on t ≡ false)
        → Linked z node (put_at next p (next s)) head (put_at on s false) (put_at chain n.head (front ++ p ∷ ss)) (set hs id (loosening s h))
    unlinks_it p front rest owned =
        let is : chain n.head ≡ front ++ p ∷ s ∷ ss = r.wholes id h at n walk whole ∙ rest in
        let p_on : on p ≡ true = (r.chains.only n.head p (r.walks id h at n walk).0 (subst (λ (l : List ℕ). Lists l p) (sym is) (there_p front))).0 in record {
          chains = unlinks_later (heads z) head next (head_of z) node on chain r.chains n.head s (r.walks id h at n walk).0 p front ss is;
          fits = r.fits;
          used = off_used;
          links = each_set (HasLink (put_at next p (next s))) hs id (loosening s h)
              (λ i f apart there k its own. put_else next p k.slot (next s) (λ e. true≢false (sym p_on ∙ ap on (sym e) ∙ owned i f k.slot apart there own)) ∙ r.links i f there k its own) (λ k its. absurd (never k its));
          walks = each_set (HasWalk node (put_at next p (next s)) (put_at on s false)) hs id (loosening s h) (λ i f apart there m its. absurd (no_walk i f m apart there its)) (λ m its. absurd (never m its));
          wholes = each_set (IsWhole (put_at chain n.head (front ++ p ∷ ss))) hs id (loosening s h) (λ i f apart there m its. absurd (no_walk i f m apart there its)) (λ m its. absurd (never m its));
        }
      where
        there_p : (front : List ℕ) → Lists (front ++ p ∷ s ∷ ss) p
        there_p [] = inl refl
        there_p (t ∷ front) = inr (there_p front)

  -- a head is loaded by who has the turn of a level: all of its chain is known; under the order hold nobody pushes
  pub head_loaded : (id : ℕ) (g : Hand) (n : Walk) → HasLink next id g → g.walk ≡ Some n → n.head < heads z → n.link ≡ head n.head → n.rest ≡ chain n.head → Linked z node next head on chain (set hs id g)
  head_loaded id g n link walk lt link_is rest_is = hand_links id g link
      (λ m its. subst (λ (m : Walk). (m.head < heads z) × Knows next (head_of z) (level_in z) node on m.head m.level m.link m.rest) (some_same n m (sym walk ∙ its))
      (lt, subst (λ (y : ℕ × List ℕ). Knows next (head_of z) (level_in z) node on n.head n.level y.0 y.1) (λ i. (sym link_is i, sym rest_is i)) (loads_head (heads z) head next (head_of z) (level_in z) node on chain r.chains n.head n.level lt)))
      (λ m its _. subst (λ (m : Walk). chain m.head ≡ m.rest) (some_same n m (sym walk ∙ its)) (sym rest_is))

  -- the load of the next word of any slot of the walk leads to the slot behind it, whatever others put before the walk meanwhile
  pub next_is : (id : ℕ) (h : Hand) (n : Walk) (front : List ℕ) (s : ℕ) (ss : List ℕ) → get_elem? hs id ≡ some h → h.walk ≡ Some n → n.rest ≡ front ++ s ∷ ss → Along next (next s) ss × (on s ≡ true)
  next_is id h n front s ss at walk rest =
      let k = (r.walks id h at n walk).1 in (behind n.link front (subst (Along next n.link) rest k.along), k.all_on s (subst (λ (y : List ℕ). Lists y s) (sym rest) (there front)))
    where
      behind : (link : ℕ) (front : List ℕ) → Along next link (front ++ s ∷ ss) → Along next (next s) ss
      behind link [] a = a.1
      behind link (t ∷ front) a = behind (next t) front a.1

      there : (front : List ℕ) → Lists (front ++ s ∷ ss) s
      there [] = inl refl
      there (t ∷ front) = inr (there front)

  -- none of the slots of a walk has the word: then none that is on has it
  pub absent_on : (id : ℕ) (h : Hand) (n : Walk) (w : ℕ) → get_elem? hs id ≡ some h → h.walk ≡ Some n → head_of z w ≡ n.head → level_in z w ≡ n.level → ((s : ℕ) → Lists n.rest s → node s ≢ w) → (s : ℕ) → on s ≡ true → node s ≢ w
  absent_on id h n w at walk there level none_there s is same =
      let k = (r.walks id h at n walk).1 in none_there s (k.mine s is (ap (head_of z) same ∙ there) (ap (level_in z) same ∙ level)) same
