-- Steps on turns, heads, links and the free list, with the clauses of a seat's steps.
use Rattle.std.proofs.Common.{◌≡◌, ◌≢◌, ⊎_elim, inl, inr, ℕ, zero, suc, ◌<◌, ◌≤◌, ◌==◌, cond, Bool, true, false, List, [], ◌∷◌, set, get_or, eqb-true, Some, None, refl, ap, sym, ◌∙◌, subst, arith}
use Rattle.std.specs.Prelude as std
use mathlib.Core.Option.{some}
use lib.ListN.{get_elem?}
use lib.Seq.{set-get_or}
use prog.Atomic.{either}
use Rattle.atomic_table.specs.Table.{State, Me, keeps, Allows}
use Rattle.step_store.specs.Chains as steps
use Rattle.step_store.specs.declared.hand.Taken.{Taken}
use Rattle.step_store.specs.declared.hand.Link as declared
use Rattle.step_store.specs.Knowing as knowing
use Rattle.step_store.specs.Knowing.{Knowledge, IsChain}
use Rattle.step_store.proofs.Chaining.{once_short}
use Rattle.words_rule.specs.declared.cell.Cell.{Cell}
use Rattle.words_rule.specs.declared.view.Held.{Held}
use Rattle.words_rule.specs.declared.view.Share.TheVariants as shares
use Rattle.words_rule.specs.declared.view.Walk.{Walk}
use Rattle.words_rule.specs.declared.view.SeenWord.{SeenWord}
use Rattle.words_rule.specs.declared.view.View.{View}
use Rattle.words_rule.specs.Shapes.{shape_in}
use Rattle.words_rule.specs.Layout.{Shape, heads, words_of, turn_at, next_at, head_at}
use Rattle.words_rule.specs.Chains.{Along, Once}
use Rattle.words_rule.specs.Hands.{HasLevel, Stands, Owns, without_level}
use Rattle.words_rule.specs.Rule.{Rule, hands_in}
use Rattle.words_rule.specs.Plays.{HasLoaded, LeadsOn}
use Rattle.words_rule.specs.Known.{Own, noted_bits, taken_of, link_of, known_of}
use Rattle.words_rule.proofs.Layouts.{here_head, here_next}
use Rattle.words_rule.proofs.Linking.{next_is}
use Rattle.words_rule.proofs.Handed.{handed, hand_at, parts_walk}
use Rattle.words_rule.proofs.Stepping.{shape_is}
use Rattle.words_rule.proofs.Tabling.{stays, takes_turn, gives_turn, takes_free_list, stores_next}
use Rattle.words_rule.proofs.Storing.{pushes_noted}
use Rattle.words_rule.proofs.NodeLoads.{lists_back}
use Rattle.words_rule.proofs.Draws.{one_still}
use Rattle.free_list.specs.FreeSlots.{FreeSlots}

pub stands_at : (l : List ℕ) (s : ℕ) → steps.Lists l s → Stands l s
stands_at [] s h = absurd h
stands_at (x ∷ xs) s h = ⊎_elim (λ e. (0, ap some e)) (λ later. let k = stands_at xs s later in (suc k.0, k.1)) h

pub without_same : (l : ℕ) (xs : List ℕ) → without_level l xs ≡ knowing.without_level l xs
without_same l [] = refl
without_same l (x ∷ xs) = ap (λ (ys : List ℕ). cond (x == l) ys (x ∷ ys)) (without_same l xs)

-- an option is empty where its image is
pub none_back : {A B : Type 0} (f : A → B) (o : std.Option A) → std.option_map f o ≡ None → o ≡ None
none_back f None e = refl
none_back f (Some x) e = cc

pub some_back : {A B : Type 0} (f : A → B) (o : std.Option A) (y : B) → std.option_map f o ≡ Some y → (x : A) × (o ≡ Some x) × (f x ≡ y)
some_back f (Some x) y e = (x, refl, (let same : f x ≡ y = cc in same))
some_back f None y e = cc

some_bits : (a b : ℕ) → Some a ≡ Some b → a ≡ b
some_bits a b e = cc

no_some : {A : Type 0} (x : A) → None ≡ Some x → ⊥
no_some x e = cc

-- only the hand changes
pub record OnlyHand (v u : View) : Type 0 where
  pub draws : u.draws ≡ v.draws
  pub shares : u.shares ≡ v.shares
  pub counts : u.counts ≡ v.counts
  pub known : u.known ≡ v.known

pub same_view : {v u : View} → u ≡ v → OnlyHand v u
same_view e = record { draws = ap (λ (x : View). x.draws) e; shares = ap (λ (x : View). x.shares) e; counts = ap (λ (x : View). x.counts) e; known = ap (λ (x : View). x.known) e }

module _ {S : Type 0} (board : S → List (std.Option Cell)) (free_slots : S → FreeSlots) (memo : S → List ℕ) where
  abbrev TheRule : State (std.Option S) View → Type 0
  TheRule = Rule board free_slots memo

  abbrev Sat : Type 0
  Sat = Me (std.Option S) View

  -- take_turn: the clauses taken and missed
  abbrev pub TookTurn : Own → ℕ → Sat → ℕ → Sat → Type 0
  TookTurn o l m n m' =
      (n ≡ 0 → known_of m'.0 o ≡ knowing.handed (known_of m.0 o) (record (known_of m.0 o).hand { levels = l ∷ (known_of m.0 o).hand.levels })) × (n ≢ 0 → known_of m'.0 o ≡ known_of m.0 o) × (m'.1 ≡ m.1) × OnlyHand m.0 m'.0

  pub step_take_turn : (slots id : ℕ) (me : Sat) (o : Own) (l new : ℕ) → me.0.draws.live ≡ true → l < knowing.turns (known_of me.0 o).view → new ≢ 0
      → Allows TheRule slots id me (turn_at l) (λ n. either (n == 0) new n) (TookTurn o l me)
  step_take_turn slots id me o l new live inside nonzero s r long at small = let x = takes_turn board free_slots memo slots id me l new live inside nonzero s r long at small in let told = x.4 in let n : ℕ = get_or s.words (turn_at l) 0 in (
    x.0,
    x.1,
    x.2,
    x.3,
    (
      (λ hit. ap (λ (x : Sat). known_of x.0 o) (told.0 hit)),
      (λ miss. ap (λ (x : Sat). known_of x.0 o) (told.1 miss)),
      either_way n told (λ hit. ap (λ (x : Sat). x.1) (told.0 hit)) (λ miss. ap (λ (x : Sat). x.1) (told.1 miss)),
      either_way n told
          (λ hit. record { draws = ap (λ (x : Sat). x.0.draws) (told.0 hit); shares = ap (λ (x : Sat). x.0.shares) (told.0 hit); counts = ap (λ (x : Sat). x.0.counts) (told.0 hit); known = ap (λ (x : Sat). x.0.known) (told.0 hit) })
          (λ miss. same_view (ap (λ (x : Sat). x.0) (told.1 miss))),
    ),
  )
    where
      either_way : {P T : Type 0} (n : ℕ) → T → (n ≡ 0 → P) → (n ≢ 0 → P) → P
      either_way zero t hit miss = hit refl
      either_way (suc n) t hit miss = miss (λ e. omega (arith, e))

  -- give_turn
  abbrev pub GaveTurn : Own → ℕ → Sat → ℕ → Sat → Type 0
  GaveTurn o l m n m' = (known_of m'.0 o ≡ knowing.handed (known_of m.0 o) (record (known_of m.0 o).hand { levels = knowing.without_level l (known_of m.0 o).hand.levels; walk = None })) × (m'.1 ≡ m.1) × OnlyHand m.0 m'.0

  pub step_give_turn : (slots id : ℕ) (me : Sat) (o : Own) (l : ℕ) → me.0.draws.live ≡ true → l < knowing.turns (known_of me.0 o).view → knowing.HasLevel (known_of me.0 o).hand l
      → ((known_of me.0 o).hand.taken ≡ None) × ((known_of me.0 o).hand.loose ≡ None) → Allows TheRule slots id me (turn_at l) (λ _. 0) (GaveTurn o l me)
  step_give_turn slots id me o l live inside has calm s r long at small =
      let x = gives_turn board free_slots memo slots id me l live inside (stands_at me.0.hand.levels l has) (λ b its. absurd (no_some b (sym (none_back taken_of me.0.hand.taken calm.0) ∙ its))) calm.1 s r long at small in let told = x.4 in (
        x.0,
        x.1,
        x.2,
        x.3,
        (
          ap (λ (x : Sat). known_of x.0 o) told ∙ ap (λ (ls : List ℕ). knowing.handed (known_of me.0 o) (record (known_of me.0 o).hand { levels = ls; walk = None })) (without_same l me.0.hand.levels),
          ap (λ (x : Sat). x.1) told,
          record { draws = ap (λ (x : Sat). x.0.draws) told; shares = ap (λ (x : Sat). x.0.shares) told; counts = ap (λ (x : Sat). x.0.counts) told; known = ap (λ (x : Sat). x.0.known) told },
        ),
      )

  -- take_free: the clauses taken and missed; what is taken is the list
  abbrev pub TookFree : Own → Sat → ℕ → Sat → Type 0
  TookFree o m n m' =
      (n ≡ 0 → (list : List ℕ) × (known_of m'.0 o ≡ knowing.handed (known_of m.0 o) (record (known_of m.0 o).hand { free = Some list })) × ((x : S) × ((free_slots x).slots ≡ list) × (m'.1 ≡ (1, Some x) ∷ m.1)))
      × (n ≢ 0 → known_of m'.0 o ≡ known_of m.0 o)

  pub step_take_free : (slots id : ℕ) (me : Sat) (o : Own) (new : ℕ) → me.0.draws.live ≡ true → new ≢ 0
      → Allows TheRule slots id me 3 (λ n. either (n == 0) new n) (TookFree o me)
  step_take_free slots id me o new live nonzero s r long at small = let x = takes_free_list board free_slots memo slots id me new live nonzero s r long at small in let told = x.4 in (
    x.0,
    x.1,
    x.2,
    x.3,
    (
      (λ hit. let t = told.0 hit in ((free_slots t.0).slots, ap (λ (x : Sat). known_of x.0 o) t.1, (t.0, refl, ap (λ (x : Sat). x.1) t.1))),
      (λ miss. ap (λ (x : Sat). known_of x.0 o) (told.1 miss)),
    ),
  )

  -- store_next
  abbrev pub StoredNext : Own → ℕ → ℕ → Sat → ℕ → Sat → Type 0
  StoredNext o q x m n m' = (known_of m'.0 o ≡ knowing.handed (known_of m.0 o) (record (known_of m.0 o).hand { link = Some (record { slot = q; next = x }) })) × (m'.1 ≡ m.1)

  owns_back : (me : Sat) (o : Own) (q : ℕ) → knowing.Owns (known_of me.0 o).hand q → Owns me.0.hand q
  owns_back me o q own = ⊎_elim
      (λ (t : (y : Taken) × ((known_of me.0 o).hand.taken ≡ Some y) × (y.slot ≡ q)).
      let j = some_back taken_of me.0.hand.taken t.0 t.1 in inl (j.0, j.1, ap (λ (y : Taken). y.slot) j.2 ∙ t.2))
      (λ l. inr l) own

  pub step_store_next : (slots id : ℕ) (me : Sat) (o : Own) (q x : ℕ) → me.0.draws.live ≡ true → knowing.Owns (known_of me.0 o).hand q → q < (known_of me.0 o).view.slots
      → Allows TheRule slots id me (next_at (shape_in me.0.draws) q) (λ _. x) (StoredNext o q x me)
  step_store_next slots id me o q x live own inside s r long at small = let y = stores_next board free_slots memo slots id me q x live (owns_back me o q own) inside s r long at small in let told = y.4 in
      (y.0, y.1, y.2, y.3, (ap (λ (y : Sat). known_of y.0 o) told, ap (λ (y : Sat). y.1) told))

  -- load_head
  abbrev pub LoadedHead : ℕ → ℕ → Sat → ℕ → Sat → Type 0
  LoadedHead = HasLoaded {S = std.Option S}

  pub first : (next : ℕ → ℕ) (link : ℕ) (ss : List ℕ) → Along next link ss → link ≡ steps.link_to ss
  first next link [] a = a
  first next link (x ∷ xs) a = a.0

  pub once_on : (l : List ℕ) → Once l → steps.Once l
  once_on [] h = h
  once_on (x ∷ xs) h = ((λ again. h.0 (lists_back xs x again)), once_on xs h.1)

  pub step_load_head : (slots id : ℕ) (me : Sat) (head level : ℕ) → me.0.draws.live ≡ true → me.0.shares.op ≡ shares.Held → HasLevel me.0.hand level → head < heads (shape_in me.0.draws)
      → Allows TheRule slots id me (head_at (shape_in me.0.draws) head) (λ n. n) (LoadedHead head level me)
  step_load_head slots id me head level live share has inside s r long at small =
      let v = me.0 in
      let z = r.shape in
      let p = r.parts in
      let home = λ (k : ℕ). get_elem? s.homes k in
      let ws = words_of z s.words in
      let shape = shape_is board free_slots memo z ws home s.views p id v at live in
      let below : head < heads z = subst (λ (y : Shape). head < heads y) (sym shape) inside in
      let word : ℕ = head_at (shape_in v.draws) head in
      let n : ℕ = get_or s.words word 0 in
      let head_is : ws.head head ≡ n = here_head z s.words 0 head below ∙ ap (λ (y : Shape). get_or s.words (head_at y head) 0) shape in
      let walk : Walk = record { head = head; level = level; link = n; rest = p.chain head; whole = false } in
      let w : View = handed v (record v.hand { walk = Some walk }) in
      let each : (q : ℕ) → steps.Lists (p.chain head) q → (3 ≤ q) × (q < v.draws.slots) = λ q there.
      let u = p.linked.used q (p.linked.chains.only head q below (lists_back (p.chain head) q there)).0 in (u.0, subst (λ (y : Shape). q < y.slots) shape (p.sound.within q (u.1, u.2))) in (
        w,
        keeps,
        tt,
        subst (λ (l : List ℕ). TheRule (record { words = l; homes = s.homes; views = set s.views id w })) (sym (set-get_or s.words word 0)) (record {
          shape = z;
          wide = r.wide;
          long = r.long;
          parts = parts_walk board free_slots memo z ws home s.views p id v at walk (inl share) live has below (sym head_is) refl (λ is. absurd (false_true is));
          one = one_still z ws.order ws.node ws.count s.views id v w at refl r.one;
        }),
        (
          p.chain head,
          refl,
          sym head_is ∙ first ws.next (ws.head head) (p.chain head) (p.linked.chains.along head below),
          record { each = each; few = once_short (p.chain head) v.draws.slots (once_on (p.chain head) (p.linked.chains.once head below)) (λ q there. (each q there).1) },
        ),
      )
    where
      false_true : false ≡ true → ⊥
      false_true e = cc

  -- load_next
  abbrev pub LoadedNext : ℕ → Sat → ℕ → Sat → Type 0
  LoadedNext q m n m' = (m' ≡ m) × LeadsOn q m n

  pub step_load_next : (slots id : ℕ) (me : Sat) (q : ℕ) → me.0.draws.live ≡ true → q < me.0.draws.slots
      → Allows TheRule slots id me (next_at (shape_in me.0.draws) q) (λ x. x) (LoadedNext q me)
  step_load_next slots id me q live inside s r long at small =
      let v = me.0 in
      let z = r.shape in
      let p = r.parts in
      let home = λ (k : ℕ). get_elem? s.homes k in
      let ws = words_of z s.words in
      let shape = shape_is board free_slots memo z ws home s.views p id v at live in
      let below : q < z.slots = subst (λ (y : Shape). q < y.slots) (sym shape) inside in
      let word : ℕ = next_at (shape_in v.draws) q in
      let next_word : ws.next q ≡ get_or s.words word 0 = here_next z s.words 0 q below ∙ ap (λ (y : Shape). get_or s.words (next_at y q) 0) shape in (
        v,
        keeps,
        tt,
        stays board free_slots memo s word id me r at,
        (
          refl,
          (λ k front behind its rest.
              let a = next_is z ws.node ws.next ws.head p.on p.chain (hands_in s.views) p.linked id v.hand k front q behind (hand_at board free_slots memo z ws home s.views p id v at) its rest in
              sym next_word ∙ first ws.next (ws.next q) behind a.0),
        ),
      )

  -- push_head
  abbrev pub PushedHead : Own → ℕ → Sat → ℕ → Sat → Type 0
  PushedHead o link m n m' =
      (n ≡ link → known_of m'.0 o ≡ knowing.handed (known_of m.0 o) (record (known_of m.0 o).hand { loose = None; link = None; walk = None })) × (n ≢ link → known_of m'.0 o ≡ known_of m.0 o)

  noted_at : (l : List SeenWord) (q b : ℕ) → noted_bits l q ≡ Some b → (k : ℕ) × (get_elem? l k ≡ some (record { slot = q; bits = b }))
  noted_at [] q b e = absurd (no_some b e)
  noted_at (note ∷ l) q b e = by (note.slot == q) refl (noted_at l q b)
    where
      by : (c : Bool) → (note.slot == q) ≡ c → (noted_bits l q ≡ Some b → (k : ℕ) × (get_elem? l k ≡ some (record { slot = q; bits = b }))) → (k : ℕ) × (get_elem? (note ∷ l) k ≡ some (record { slot = q; bits = b }))
      by true is later =
          let same : note.bits ≡ b = some_bits note.bits b (sym (ap (λ x. cond x (Some note.bits) (noted_bits l q)) is) ∙ e) in
          (0, ap (λ (y : ℕ × ℕ). some (record { slot = y.0; bits = y.1 })) (λ i. (eqb-true note.slot q is i, same i)))
      by false is later = let k = later (sym (ap (λ x. cond x (Some note.bits) (noted_bits l q)) is) ∙ e) in (suc k.0, k.1)

  pub step_push_head : (slots id : ℕ) (me : Sat) (o : Own) (head q link : ℕ) → me.0.draws.live ≡ true → me.0.shares.op ≡ shares.Held → (known_of me.0 o).hand.loose ≡ Some q
      → (known_of me.0 o).hand.link ≡ Some (record { slot = q; next = link }) → ((bits : ℕ) × ((known_of me.0 o).word q ≡ Some bits) × (head ≡ steps.head_of (known_of me.0 o).heads bits))
      → Allows TheRule slots id me (head_at (shape_in me.0.draws) head) (λ n. either (n == link) (suc q) n) (PushedHead o link me)
  step_push_head slots id me o head q link live share loose linked noted =
      let v = me.0 in
      let k = noted_at v.known.words q noted.0 noted.1 in
      let j = some_back link_of v.hand.link (record { slot = q; next = link }) linked in
      let it : v.hand.link ≡ Some (record { slot = q; link = link }) = j.1 ∙ ap (λ (y : declared.Link). Some (record { slot = y.slot; link = y.next })) j.2 in
      subst (λ (h : ℕ). Allows TheRule slots id me (head_at (shape_in v.draws) h) (λ n. either (n == link) (suc q) n) (PushedHead o link me)) (sym noted.2)
      (λ s r long at small. let x = pushes_noted board free_slots memo slots id me q link noted.0 k.0 live loose it (inl share) k.1 s r long at small in let told = x.4 in (
        x.0,
        x.1,
        x.2,
        x.3,
        (
          (λ hit. ap (λ (x : Sat). known_of x.0 o) (told.0 hit)),
          (λ miss. ap (λ (x : Sat). known_of x.0 o) (told.1 miss)),
        ),
      ))
