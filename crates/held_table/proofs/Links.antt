-- What the steps on heads and links of a table with one holder leave.
use Rattle.std.proofs.Common.{◌≡◌, ◌⊎◌, inl, inr, ℕ, suc, ◌<◌, ◌≤◌, Bool, true, false, List, [], ◌∷◌, ◌++◌, length, set, length-set, Option, Some, None, refl, ap, sym, ◌∙◌, subst, arith}
use Rattle.std.specs.Prelude.{option_map, slice_index}
use Rattle.std.proofs.lemmas.Bool.{cases_eq, cases_lt}
use Rattle.std.proofs.lemmas.List.{get_or_past}
use Rattle.edge_bits.specs.declared.words.Word.{Word}
use Rattle.node_store.specs.Changes.{put_at}
use Rattle.node_store.proofs.Rewriting.{put_at-same, put_at-other}
use Rattle.node_slots.specs.Stores.{slots}
use Rattle.step_store.specs.declared.hand.Chain.{Chain}
use Rattle.step_store.specs.declared.hand.Link.{Link}
use Rattle.step_store.specs.Chains.{Along, Chains, Lists, head_of, link_to}
use Rattle.step_store.specs.Knowing.{Walk}
use Rattle.step_store.proofs.Chaining.{along_kept, along_list, pushes, stores_link}
use Rattle.step_store.proofs.Passing.{none_some, some_same}
use Rattle.step_store.proofs.Tables.{set_at}
use Rattle.held_table.specs.declared.table.HeldTable.{HeldTable}
use Rattle.held_table.specs.Tables.{IsTable, chain_in, plain_of, walk_of}
use Rattle.held_table.proofs.Tables.{beyond, chain_known, few, head_within, next_link, none_from, walk_is, within}
use Rattle.held_table.proofs.Unlinking.{unlinks_first, unlinks_later}

-- a slot that stands before another is in the list
pub listed_before : (before s : ℕ) (l front behind : List ℕ) → l ≡ front ++ before ∷ s ∷ behind → Lists l before
listed_before before s l front behind is = subst (λ (x : List ℕ). Lists x before) (sym is) (here front)
  where
    here : (front : List ℕ) → Lists (front ++ before ∷ s ∷ behind) before
    here [] = inl refl
    here (x ∷ xs) = inr (here xs)

-- what stands before a slot, with the one before it
pub one_more : (before s : ℕ) (front behind : List ℕ) → (front ++ before ∷ []) ++ s ∷ behind ≡ front ++ before ∷ s ∷ behind
one_more before s [] behind = refl
one_more before s (x ∷ xs) behind = ap (λ (l : List ℕ). x ∷ l) (one_more before s xs behind)

-- the slot is off its chain
module _ (t : HeldTable) (i : IsTable t) (s : ℕ) (calm : t.loose ≡ None) (n : Walk) (walk : option_map (walk_of t) t.walk ≡ Some n) where
  abbrev at : (c : Chain) × (t.walk ≡ Some c) × (n ≡ walk_of t c)
  at = walk_is t t.walk n walk

  rest_is : n.rest ≡ chain_in t at.0.head
  rest_is = ap (λ (x : Walk). x.rest) at.2

  off_complete : (on : ℕ → Bool) → on ≡ put_at i.chained.on s false → (y : ℕ) (word : Word) → 3 ≤ y → slots (plain_of t) y ≡ Some word → (on y ≡ true) ⊎ (Some s ≡ Some y)
  off_complete on is y word high used = elim (cases_eq y s) [
    | inl e ↦ inr (ap (λ (z : ℕ). Some z) (sym e))
    | inr ne ↦ elim (i.chained.complete y word high used) [
      | inl here ↦ inl (ap (λ (f : ℕ → Bool). f y) is ∙ put_at-other i.chained.on s y false ne ∙ here)
      | inr loose ↦ absurd (none_some y (sym calm ∙ loose))
    ]
  ]

  still_on : (y : ℕ) → put_at i.chained.on s false y ≡ true → i.chained.on y ≡ true
  still_on y on = elim (cases_eq y s) [
    | inl e ↦ absurd (let f : put_at i.chained.on s false y ≡ false = ap (put_at i.chained.on s false) e ∙ put_at-same i.chained.on s false in let c : true ≡ false = sym on ∙ f in cc)
    | inr ne ↦ sym (put_at-other i.chained.on s y false ne) ∙ on
  ]

  pub unlinks_head : (u : HeldTable) (head link : ℕ) (behind : List ℕ) → n.head ≡ head → n.rest ≡ s ∷ behind → link ≡ link_to behind → u ≡ record t { heads = u.heads; loose = Some s; renewed = None; link = None; walk = None } → u.heads.items ≡ set t.heads.items head link → IsTable u
  unlinks_head u head link behind head_is rest link_is same items =
      let v : HeldTable = record t { heads = u.heads; loose = Some s; renewed = None; link = None; walk = None } in
      let m : ℕ = length t.heads.items in
      let chain_is : chain_in t head ≡ s ∷ behind = ap (chain_in t) (sym head_is ∙ ap (λ (x : Walk). x.head) at.2) ∙ sym rest_is ∙ rest in
      let lt : head < m = head_within t i head s [] behind chain_is in
      let known : i.chained.chain head ≡ s ∷ behind = sym (chain_known t i head lt) ∙ chain_is in
      let next : slice_index t.nexts.items s ≡ link = next_link t i head s [] behind chain_is ∙ sym link_is in
      let there = i.chained.chains.only head s lt (subst (λ (l : List ℕ). Lists l s) (sym known) (inl refl)) in
      let used = i.chained.on_used s there.0 in
      let cut = unlinks_first m (slice_index t.heads.items) (slice_index t.nexts.items) (head_of m) (slice_index t.words.items) i.chained.on i.chained.chain i.chained.chains head s lt behind known in
      let heads_are : put_at (slice_index t.heads.items) head (slice_index t.nexts.items s) ≡ slice_index u.heads.items = ap (put_at (slice_index t.heads.items) head) next ∙ sym (ap (λ (l : List ℕ). slice_index l) items ∙ set_at t.heads.items head link lt) in
      let many : length u.heads.items ≡ m = ap (λ (l : List ℕ). length l) items ∙ length-set t.heads.items head link in
      subst IsTable (sym same) (record {
        sound = i.sound;
        words = record {
          as_many = i.words.as_many;
          as_many_nexts = i.words.as_many_nexts;
          as_many_counts = i.words.as_many_counts;
          as_many_pins = i.words.as_many_pins;
          some_heads = subst (λ x. 0 < x) (sym many) i.words.some_heads;
          few_heads = subst (λ x. x < 4294967296) (sym many) i.words.few_heads;
          fits = i.words.fits;
        };
        free = record { list = i.free.list; first = i.free.first; below = i.free.below; beyond = i.free.beyond; room = i.free.room };
        chained = record {
          on = put_at i.chained.on s false;
          chain = put_at i.chained.chain head behind;
          chains = subst (λ (y : ℕ × (ℕ → ℕ)). Chains y.0 y.1 (slice_index t.nexts.items) (head_of y.0) (slice_index t.words.items) (put_at i.chained.on s false) (put_at i.chained.chain head behind)) (λ j. (sym many j, heads_are j)) cut;
          on_used = λ y on. i.chained.on_used y (still_on y on);
          complete = off_complete (put_at i.chained.on s false) refl;
          loose = λ y is. subst (λ (z : ℕ). (put_at i.chained.on s false z ≡ false) × (3 ≤ z) × (word : Word) × (slots (plain_of t) z ≡ Some word)) (some_same s y is) (put_at-same i.chained.on s false, used.0, used.1, used.2);
          link = λ x is. absurd (none_some x is);
        };
      })

  pub unlinks_next : (u : HeldTable) (before link : ℕ) (front behind : List ℕ) → n.rest ≡ front ++ before ∷ s ∷ behind → link ≡ link_to behind → u ≡ record t { nexts = u.nexts; loose = Some s; renewed = None; link = None; walk = None } → u.nexts.items ≡ set t.nexts.items before link → (before < t.limit) × IsTable u
  unlinks_next u before link front behind rest link_is same items =
      let v : HeldTable = record t { nexts = u.nexts; loose = Some s; renewed = None; link = None; walk = None } in
      let m : ℕ = length t.heads.items in
      let head : ℕ = at.0.head in
      let chain_is : chain_in t head ≡ front ++ before ∷ s ∷ behind = sym rest_is ∙ rest in
      let lt : head < m = head_within t i head before front (s ∷ behind) chain_is in
      let known : i.chained.chain head ≡ front ++ before ∷ s ∷ behind = sym (chain_known t i head lt) ∙ chain_is in
      let next : slice_index t.nexts.items s ≡ link = next_link t i head s (front ++ before ∷ []) behind (chain_is ∙ sym (one_more before s front behind)) ∙ sym link_is in
      let there = i.chained.chains.only head s lt (subst (λ (l : List ℕ). Lists l s) (sym known) (in_it front)) in
      let used = i.chained.on_used s there.0 in
      let first = i.chained.chains.only head before lt (subst (λ (l : List ℕ). Lists l before) (sym known) (first_in front)) in
      let first_used = i.chained.on_used before first.0 in
      let inside : before < t.limit = within t i before first_used.1 first_used.2 in
      let cut = unlinks_later m (slice_index t.heads.items) (slice_index t.nexts.items) (head_of m) (slice_index t.words.items) i.chained.on i.chained.chain i.chained.chains head s lt before front behind known in
      let nexts_are : put_at (slice_index t.nexts.items) before (slice_index t.nexts.items s) ≡ slice_index u.nexts.items = ap (put_at (slice_index t.nexts.items) before) next ∙ sym (ap (λ (l : List ℕ). slice_index l) items ∙ set_at t.nexts.items before link (let k = i.words.as_many_nexts in omega (arith, inside, k))) in (
        inside,
        subst IsTable (sym same) (record {
          sound = i.sound;
          words = record {
            as_many = i.words.as_many;
            as_many_nexts = ap (λ (l : List ℕ). length l) items ∙ length-set t.nexts.items before link ∙ i.words.as_many_nexts;
            as_many_counts = i.words.as_many_counts;
            as_many_pins = i.words.as_many_pins;
            some_heads = i.words.some_heads;
            few_heads = i.words.few_heads;
            fits = i.words.fits;
          };
          free = record { list = i.free.list; first = i.free.first; below = i.free.below; beyond = i.free.beyond; room = i.free.room };
          chained = record {
            on = put_at i.chained.on s false;
            chain = put_at i.chained.chain head (front ++ before ∷ behind);
            chains = subst (λ (f : ℕ → ℕ). Chains m (slice_index t.heads.items) f (head_of m) (slice_index t.words.items) (put_at i.chained.on s false) (put_at i.chained.chain head (front ++ before ∷ behind))) nexts_are cut;
            on_used = λ y on. i.chained.on_used y (still_on y on);
            complete = off_complete (put_at i.chained.on s false) refl;
            loose = λ y is. subst (λ (z : ℕ). (put_at i.chained.on s false z ≡ false) × (3 ≤ z) × (word : Word) × (slots (plain_of t) z ≡ Some word)) (some_same s y is) (put_at-same i.chained.on s false, used.0, used.1, used.2);
            link = λ x is. absurd (none_some x is);
          };
        }),
      )
    where
      in_it : (front : List ℕ) → Lists (front ++ before ∷ s ∷ behind) s
      in_it [] = inr (inl refl)
      in_it (x ∷ xs) = inr (in_it xs)

      first_in : (front : List ℕ) → Lists (front ++ before ∷ s ∷ behind) before
      first_in [] = inl refl
      first_in (x ∷ xs) = inr (first_in xs)

-- the head of the chain that is walked
pub front_inside : (t : HeldTable) (i : IsTable t) (s head : ℕ) (n : Walk) (behind : List ℕ) → option_map (walk_of t) t.walk ≡ Some n → n.head ≡ head → n.rest ≡ s ∷ behind → head < length t.heads.items
front_inside t i s head n behind walk head_is rest =
    let w = walk_is t t.walk n walk in
    head_within t i head s [] behind (ap (chain_in t) (sym head_is ∙ ap (λ (x : Walk). x.head) w.2) ∙ sym (ap (λ (x : Walk). x.rest) w.2) ∙ rest)

-- a link is stored in a slot that is on no chain
module _ (t u : HeldTable) (i : IsTable t) (s x : ℕ) (loose : t.loose ≡ Some s) (same : u ≡ record t { nexts = u.nexts; link = Some (record { slot = s; next = x }) }) (items : u.nexts.items ≡ set t.nexts.items s x) where
  off : (i.chained.on s ≡ false) × (s < t.limit)
  off = let l = i.chained.loose s loose in (l.0, within t i s l.2 l.3)

  pub own_inside : s < length t.nexts.items
  own_inside = let o = off.1 in let m = i.words.as_many_nexts in omega (arith, o, m)

  nexts_are : slice_index u.nexts.items ≡ put_at (slice_index t.nexts.items) s x
  nexts_are = ap (λ (l : List ℕ). slice_index l) items ∙ set_at t.nexts.items s x own_inside

  pub links : IsTable u
  links = subst IsTable (sym same) (record {
    sound = i.sound;
    words = record {
      as_many = i.words.as_many;
      as_many_nexts = ap (λ (l : List ℕ). length l) items ∙ length-set t.nexts.items s x ∙ i.words.as_many_nexts;
      as_many_counts = i.words.as_many_counts;
      as_many_pins = i.words.as_many_pins;
      some_heads = i.words.some_heads;
      few_heads = i.words.few_heads;
      fits = i.words.fits;
    };
    free = record { list = i.free.list; first = i.free.first; below = i.free.below; beyond = i.free.beyond; room = i.free.room };
    chained = record {
      on = i.chained.on;
      chain = i.chained.chain;
      chains = subst (λ (f : ℕ → ℕ). Chains (length t.heads.items) (slice_index t.heads.items) f (head_of (length t.heads.items)) (slice_index t.words.items) i.chained.on i.chained.chain) (sym nexts_are)
          (stores_link (length t.heads.items) (slice_index t.heads.items) (slice_index t.nexts.items) (head_of (length t.heads.items)) (slice_index t.words.items) i.chained.on i.chained.chain i.chained.chains s x off.0);
      on_used = i.chained.on_used;
      complete = i.chained.complete;
      loose = i.chained.loose;
      link = λ y is. subst (λ (z : Link). slice_index u.nexts.items z.slot ≡ z.next) (some_same (record { slot = s; next = x }) y is) (ap (λ (f : ℕ → ℕ). f s) nexts_are ∙ put_at-same (slice_index t.nexts.items) s x);
    };
  })

  -- no chain is another by it
  pub same_chain : (h : ℕ) → chain_in u h ≡ chain_in t h
  same_chain h = subst (λ (v : HeldTable). chain_in v h ≡ chain_in t h) (sym same) (elim (cases_lt h (length t.heads.items)) [
    | inl lt ↦ (
        let along = along_kept (slice_index t.nexts.items) i.chained.on s x (slice_index t.heads.items h) (i.chained.chain h) off.0 (λ y is. (i.chained.chains.only h y lt is).0) (i.chained.chains.along h lt) in
        along_list (slice_index u.nexts.items) (slice_index t.heads.items h) (i.chained.chain h) t.limit (subst (λ (f : ℕ → ℕ). Along f (slice_index t.heads.items h) (i.chained.chain h)) (sym nexts_are) along) (few t i h lt) ∙ sym (chain_known t i h lt))
    | inr le ↦ none_from (slice_index u.nexts.items) t.limit (slice_index t.heads.items h) (get_or_past t.heads.items h 0 le) ∙ sym (beyond t i h le)
  ])

  pub same_walk : (o : Option Chain) → option_map (walk_of u) o ≡ option_map (walk_of t) o
  same_walk None = refl
  same_walk (Some c) = ap (λ (l : List ℕ). Some (record { head = c.head; level = c.level; rest = l })) (same_chain c.head)

-- the slot is put before the others of its head
pub pushes_slot : (t u : HeldTable) (i : IsTable t) (h s link : ℕ) → t.loose ≡ Some s → t.link ≡ Some (record { slot = s; next = link }) → slice_index t.heads.items h ≡ link → h ≡ head_of (length t.heads.items) (slice_index t.words.items s) → h < length t.heads.items
    → u ≡ record t { heads = u.heads; loose = None; renewed = None; link = None; walk = None } → u.heads.items ≡ set t.heads.items h (suc s) → IsTable u
pushes_slot t u i h s link loose linked found head_is lt same items =
    let n : ℕ = length t.heads.items in
    let c = i.chained.chains in
    let l = i.chained.loose s loose in
    let head : slice_index u.heads.items ≡ put_at (slice_index t.heads.items) h (suc s) = ap (λ (l : List ℕ). slice_index l) items ∙ set_at t.heads.items h (suc s) lt in
    let next : slice_index t.nexts.items s ≡ link = i.chained.link (record { slot = s; next = link }) linked in
    let pushed = pushes n (slice_index t.heads.items) (slice_index t.nexts.items) (head_of n) (slice_index t.words.items) i.chained.on i.chained.chain c s l.0 (subst (λ x. x < n) head_is lt)
    (ap (slice_index t.heads.items) (sym head_is) ∙ found ∙ sym next) in
    let many : length u.heads.items ≡ n = ap (λ (l : List ℕ). length l) items ∙ length-set t.heads.items h (suc s) in
    let head2 : put_at (slice_index t.heads.items) (head_of n (slice_index t.words.items s)) (suc s) ≡ slice_index u.heads.items = ap (λ (x : ℕ). put_at (slice_index t.heads.items) x (suc s)) (sym head_is) ∙ sym head in
    subst IsTable (sym same) (record {
      sound = i.sound;
      words = record {
        as_many = i.words.as_many;
        as_many_nexts = i.words.as_many_nexts;
        as_many_counts = i.words.as_many_counts;
        as_many_pins = i.words.as_many_pins;
        some_heads = subst (λ x. 0 < x) (sym many) i.words.some_heads;
        few_heads = subst (λ x. x < 4294967296) (sym many) i.words.few_heads;
        fits = i.words.fits;
      };
      free = record { list = i.free.list; first = i.free.first; below = i.free.below; beyond = i.free.beyond; room = i.free.room };
      chained = record {
        on = put_at i.chained.on s true;
        chain = put_at i.chained.chain (head_of n (slice_index t.words.items s)) (s ∷ i.chained.chain (head_of n (slice_index t.words.items s)));
        chains = subst (λ (y : ℕ × (ℕ → ℕ)). Chains y.0 y.1 (slice_index t.nexts.items) (head_of y.0) (slice_index t.words.items) (put_at i.chained.on s true) (put_at i.chained.chain (head_of n (slice_index t.words.items s)) (s ∷ i.chained.chain (head_of n (slice_index t.words.items s)))))
            (λ j. (sym many j, head2 j)) pushed;
        on_used = λ y on. elim (cases_eq y s) [
          | inl e ↦ subst (λ (z : ℕ). (3 ≤ z) × (word : Word) × (slots (plain_of t) z ≡ Some word)) (sym e) (l.1, l.2, l.3)
          | inr ne ↦ i.chained.on_used y (sym (put_at-other i.chained.on s y true ne) ∙ on)
        ];
        complete = λ y word high is. inl (elim (cases_eq y s) [
          | inl e ↦ ap (put_at i.chained.on s true) e ∙ put_at-same i.chained.on s true
          | inr ne ↦ put_at-other i.chained.on s y true ne ∙ elim (i.chained.complete y word high is) [
            | inl on ↦ on
            | inr other ↦ absurd (ne (some_same y s (sym other ∙ loose)))
          ]
        ]);
        loose = λ y is. absurd (none_some y is);
        link = λ y is. absurd (none_some y is);
      };
    })
