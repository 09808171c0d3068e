-- Slots that are linked again, and gathered.
use Rattle.std.proofs.Common.{◌≡◌, ◌≢◌, ℕ, zero, suc, ◌+◌, ◌-◌, ◌<◌, ◌≤◌, ◌⊎◌, inl, inr, Bool, true, false, cond, List, length, get_or, set, Option, Some, None, refl, ap, sym, ◌∙◌, subst, arith}
use Rattle.std.specs.Prelude.{◌^◌, ◌==◌, ◌||◌, IfNone, IfSome}
use Rattle.std.proofs.lemmas.Bool.{cases_eq, cases_lt, eqb-true, ne_eqb}
use Rattle.std.proofs.lemmas.List.{get_or-set_same, get_or-set_other}
use Rattle.edge_bits.specs.declared.words.Word.{Word}
use Rattle.edge_bits.specs.declared.words.Word.TheVariants.{Inner, Leaf}
use Rattle.held_slots.specs.declared.notes.Cursor.{Cursor}
use Rattle.held_slots.specs.Linked.{AreLinked, HasNode, IsExact, IsNextNode, Leads, LeadsThrough, chain_of, led_to, variable_in, variable_of}
use Rattle.held_slots.specs.Notes.{link_in}
use Rattle.held_slots.specs.SlotSets.{Gathered, IsNext, has, is_gathered, is_same}
use Rattle.held_slots.proofs.Lasting.{linked_on, never, same_here, variable_is, node_is}

-- a set of a variable's slots
module _ (word : ℕ → Option Word) (g : Gathered) (exact : IsExact word g) (v : ℕ) (is : g.variable ≡ Some v) where
  pub in_set : (s : ℕ) → HasNode word v s → has g.slots s ≡ true
  in_set s h = exact s ∙ ap (λ o. is_same o (variable_of (word s))) is ∙ ap (is_same (Some v)) (variable_is word v s h) ∙ same_here v

  pub out_of_set : (s : ℕ) → has g.slots s ≡ true → HasNode word v s
  out_of_set s inside = by_variable (variable_of (word s)) refl
    where
      by_variable : (o : Option ℕ) → variable_of (word s) ≡ o → HasNode word v s
      by_variable None at = never (sym inside ∙ exact s ∙ ap (λ p. is_same p (variable_of (word s))) is ∙ ap (is_same (Some v)) at)
      by_variable (Some u) at =
          let e : (v == u) ≡ true = sym (ap (is_same (Some v)) at) ∙ ap (λ p. is_same p (variable_of (word s))) (sym is) ∙ sym (exact s) ∙ inside in
          node_is word v s (at ∙ ap (λ w. Some w) (sym (eqb-true v u e)))

  absent : (s : ℕ) → has g.slots s ≡ false → HasNode word v s → ⊥
  absent s missing h = never (sym (in_set s h) ∙ missing)

  -- the next member is the next slot with a node of the variable
  pub found : (from : ℕ) (next : Option ℕ) → IsNext (has g.slots) from next → IfSome next (λ s. (from ≤ s) × HasNode word v s)
  found from None n = _
  found from (Some s) n = (n.0, out_of_set s n.1)

  pub least : (from : ℕ) (next : Option ℕ) → IsNext (has g.slots) from next → IfSome next (λ s. (t : ℕ) → from ≤ t → t < s → HasNode word v t → ⊥)
  least from None n = _
  least from (Some s) n = λ t le lt h. absent t (n.2 t le lt) h

  pub nowhere : (from : ℕ) (next : Option ℕ) → IsNext (has g.slots) from next → IfNone next ((t : ℕ) → from ≤ t → HasNode word v t → ⊥)
  nowhere from None n = λ t le h. absent t (n t le) h
  nowhere from (Some s) n = _

  -- a link to the next member
  pub led : (chain : ℕ → ℕ) (limit from link : ℕ) → ((s : ℕ) → has g.slots s ≡ true → (s < limit) × (chain s ≡ v)) → IsNext (has g.slots) from (led_to link) → Leads word chain limit v from link
  led chain limit from link inside next = record {
    none = λ z s le h. absent s (subst (λ k. IsNext (has g.slots) from (led_to k)) z next s le) h;
    some = λ t e. (
        let n = subst (λ k. IsNext (has g.slots) from (led_to k)) e next in
        let i = inside t n.1 in
        (n.0, i.0, i.1, λ s le lt h. absent s (n.2 s le lt) h));
  }

pub same_is : (o : Option ℕ) (v : ℕ) → is_same o (Some v) ≡ true → o ≡ Some v
same_is None v e = cc
same_is (Some u) v e = ap (λ w. Some w) (eqb-true u v e)

pub or_first : (a b : Bool) → (a || b) ≡ false → a ≡ false
or_first true b e = e
or_first false b e = refl

pub or_second : (a b : Bool) → (a || b) ≡ false → b ≡ false
or_second true b e = never e
or_second false b e = e

pub or_none : (a b : Bool) → a ≡ false → b ≡ false → (a || b) ≡ false
or_none true b e f = e
or_none false b e f = f

pub or_swapped : (a b : Bool) → (a || b) ≡ (b || a)
or_swapped true true = refl
or_swapped true false = refl
or_swapped false true = refl
or_swapped false false = refl

-- the slots of a variable that was gathered are linked again
module _ (word : ℕ → Option Word) (older newer : Gathered) (exact : IsExact word newer) (v : ℕ) (is : newer.variable ≡ Some v) (few : v < 2 ^ 15)
    (links links' firsts : List ℕ) (first : ℕ) (stale : Bool) (cursor : Cursor) (are : AreLinked word (is_gathered older newer) links firsts stale cursor)
    (long : length links' ≡ length links) (below : (s : ℕ) → has newer.slots s ≡ true → s < length links') (variables : length firsts ≡ 2 ^ 15)
    (start : IsNext (has newer.slots) 0 (led_to first)) (next : (s : ℕ) → has newer.slots s ≡ true → IsNext (has newer.slots) (suc s) (led_to (get_or links' s 0)))
    (others : (s : ℕ) → has newer.slots s ≡ false → get_or links' s 0 ≡ get_or links s 0) (after : Gathered) (none : after.variable ≡ None) where
  abbrev chain : ℕ → ℕ
  chain s = cond (has newer.slots s) v (cond (are.chain s == v) (2 ^ 15) (are.chain s))

  member : (s : ℕ) → has newer.slots s ≡ true → chain s ≡ v
  member s inside = ap (λ b. cond b v (cond (are.chain s == v) (2 ^ 15) (are.chain s))) inside

  other : (s : ℕ) → has newer.slots s ≡ false → chain s ≡ cond (are.chain s == v) (2 ^ 15) (are.chain s)
  other s out = ap (λ b. cond b v (cond (are.chain s == v) (2 ^ 15) (are.chain s))) out

  -- a variable that is not gathered now was not before, or is this one
  was_apart : (u : ℕ) → is_gathered older after u ≡ false → u ≢ v → is_gathered older newer u ≡ false
  was_apart u apart ne = or_none (is_same older.variable (Some u)) (is_same newer.variable (Some u)) (or_first (is_same older.variable (Some u)) (is_same after.variable (Some u)) apart)
      (ap (λ o. is_same o (Some u)) is ∙ ne_eqb v u (λ e. ne (sym e)))

  -- a slot of another chain is not in the set
  out : (s u : ℕ) → are.chain s ≡ u → u < 2 ^ 15 → is_gathered older newer u ≡ false → u ≢ v → has newer.slots s ≡ false
  out s u own small apart ne = elim (are.own s (subst (λ k. k < 2 ^ 15) (sym own) small) (ap (is_gathered older newer) own ∙ apart)) [
    | inl h ↦ exact s ∙ ap (λ o. is_same o (variable_of (word s))) is ∙ ap (is_same (Some v)) (variable_is word (are.chain s) s h) ∙ ne_eqb v (are.chain s) (λ e. ne (sym (e ∙ own)))
    | inr (on, free) ↦ exact s ∙ ap (λ o. is_same o (variable_of (word s))) is ∙ ap (λ w. is_same (Some v) (variable_of w)) free
  ]

  kept : (s u : ℕ) → are.chain s ≡ u → u < 2 ^ 15 → is_gathered older newer u ≡ false → u ≢ v → chain s ≡ u
  kept s u own small apart ne = other s (out s u own small apart ne) ∙ ap (λ b. cond b (2 ^ 15) (are.chain s)) (ne_eqb (are.chain s) v (λ e. ne (sym own ∙ e))) ∙ own

  carried : (u from link : ℕ) → u < 2 ^ 15 → is_gathered older newer u ≡ false → u ≢ v → Leads word are.chain (length links) u from link → Leads word chain (length links') u from link
  carried u from link small apart ne l = record {
    none = l.none;
    some = λ t e. (let o = l.some t e in (o.0, (let lt = o.1 in omega (arith, lt, long)), kept t u o.2 small apart ne, o.3));
  }

  own_led : (from link : ℕ) → IsNext (has newer.slots) from (led_to link) → Leads word chain (length links') v from link
  own_led from link n = led word newer exact v is chain (length links') from link (λ s inside. (below s inside, member s inside)) n

  pub linked_again : AreLinked word (is_gathered older after) links' (set firsts v first) stale (record { var = v; from = 0; link = first })
  linked_again = record {
    chain = chain;
    first = λ u small apart. elim (cases_eq u v) [
      | inl e ↦ subst (λ w. Leads word chain (length links') w 0 (get_or (set firsts v first) w 0)) (sym e)
          (subst (Leads word chain (length links') v 0) (sym (get_or-set_same firsts v first 0 (omega (arith, few, variables)))) (own_led 0 first start))
      | inr ne ↦ subst (Leads word chain (length links') u 0) (sym (get_or-set_other firsts v u first 0 ne))
          (carried u 0 (get_or firsts u 0) small (was_apart u apart ne) ne (are.first u small (was_apart u apart ne)))
    ];
    next = λ s lt small apart. by_set s lt small apart (has newer.slots s) refl;
    stands = λ apart. own_led 0 first start;
    own = λ s small apart. own_by_set s small apart (has newer.slots s) refl;
  }
    where
      -- the chain of a slot that is not in the set
      was : (s : ℕ) → has newer.slots s ≡ false → chain s < 2 ^ 15 → (chain s ≡ are.chain s) × (are.chain s ≢ v)
      was s outside small = elim (cases_eq (are.chain s) v) [
        | inl e ↦ absurd (
            let gone : chain s ≡ 2 ^ 15 = other s outside ∙ ap (λ b. cond b (2 ^ 15) (are.chain s)) (ap (λ k. k == v) e ∙ same_here v) in
            omega (arith, gone, small))
        | inr ne ↦ (other s outside ∙ ap (λ b. cond b (2 ^ 15) (are.chain s)) (ne_eqb (are.chain s) v ne), ne)
      ]

      by_set : (s : ℕ) → s < length links' → chain s < 2 ^ 15 → is_gathered older after (chain s) ≡ false → (b : Bool) → has newer.slots s ≡ b → Leads word chain (length links') (chain s) (suc s) (get_or links' s 0)
      by_set s lt small apart true inside = subst (λ w. Leads word chain (length links') w (suc s) (get_or links' s 0)) (sym (member s inside)) (own_led (suc s) (get_or links' s 0) (next s inside))
      by_set s lt small apart false outside =
          let w = was s outside small in
          let few_was : are.chain s < 2 ^ 15 = subst (λ k. k < 2 ^ 15) w.0 small in
          let apart_was = was_apart (are.chain s) (ap (is_gathered older after) (sym w.0) ∙ apart) w.1 in
          subst (λ u. Leads word chain (length links') u (suc s) (get_or links' s 0)) (sym w.0)
          (subst (Leads word chain (length links') (are.chain s) (suc s)) (sym (others s outside))
          (carried (are.chain s) (suc s) (get_or links s 0) few_was apart_was w.1 (are.next s (omega (arith, lt, long)) few_was apart_was)))

      own_by_set : (s : ℕ) → chain s < 2 ^ 15 → is_gathered older after (chain s) ≡ false → (b : Bool) → has newer.slots s ≡ b → HasNode word (chain s) s ⊎ ((stale ≡ true) × (word s ≡ None))
      own_by_set s small apart true inside = inl (subst (λ u. HasNode word u s) (sym (member s inside)) (out_of_set word newer exact v is s inside))
      own_by_set s small apart false outside =
          let w = was s outside small in
          subst (λ u. HasNode word u s ⊎ ((stale ≡ true) × (word s ≡ None))) (sym w.0)
          (are.own s (subst (λ k. k < 2 ^ 15) w.0 small) (was_apart (are.chain s) (ap (is_gathered older after) (sym w.0) ∙ apart) w.1))

-- none is gathered
pub none_exact : (word : ℕ → Option Word) (g : Gathered) → g.variable ≡ None → ((s : ℕ) → has g.slots s ≡ false) → IsExact word g
none_exact word g none empty s = empty s ∙ ap (λ o. is_same o (variable_of (word s))) (sym none)

-- more are gathered
pub fewer_linked : (word : ℕ → Option Word) (older newer after : Gathered) (links firsts : List ℕ) (stale : Bool) (cursor : Cursor) → newer.variable ≡ None
    → AreLinked word (is_gathered older newer) links firsts stale cursor → AreLinked word (is_gathered older after) links firsts stale cursor
fewer_linked word older newer after links firsts stale cursor none are =
    let fewer : (v : ℕ) → is_gathered older after v ≡ false → is_gathered older newer v ≡ false = λ v apart. or_none (is_same older.variable (Some v)) (is_same newer.variable (Some v))
    (or_first (is_same older.variable (Some v)) (is_same after.variable (Some v)) apart) (ap (λ o. is_same o (Some v)) none) in
    linked_on word word (is_gathered older newer) (is_gathered older after) fewer (λ v s apart h. h) links firsts stale stale cursor are (λ s few apart. are.own s few (fewer (are.chain s) apart))

-- the two sets in each other's place
pub swapped_linked : (word : ℕ → Option Word) (older newer : Gathered) (links firsts : List ℕ) (stale : Bool) (cursor : Cursor) → AreLinked word (is_gathered older newer) links firsts stale cursor
    → AreLinked word (is_gathered newer older) links firsts stale cursor
swapped_linked word older newer links firsts stale cursor are =
    let fewer : (v : ℕ) → is_gathered newer older v ≡ false → is_gathered older newer v ≡ false = λ v apart. or_swapped (is_same older.variable (Some v)) (is_same newer.variable (Some v)) ∙ apart in
    linked_on word word (is_gathered older newer) (is_gathered newer older) fewer (λ v s apart h. h) links firsts stale stale cursor are (λ s few apart. are.own s few (fewer (are.chain s) apart))

-- a walk along the members that has passed a number
abbrev pub IsPast : Option ℕ → ℕ → Type 0
IsPast next s = IfSome next (λ slot. s < slot)

-- how far it is from the end
abbrev pub left_from : ℕ → Option ℕ → ℕ
left_from limit (Some slot) = suc (limit - slot)
left_from limit None = 0

-- a walk goes on behind a slot of its chain
pub walked_linked : (word : ℕ → Option Word) (gathered : ℕ → Bool) (links firsts : List ℕ) (stale : Bool) (cursor : Cursor) (are : AreLinked word gathered links firsts stale cursor)
    → (v slot link : ℕ) → v < 2 ^ 15 → slot < length links → are.chain slot ≡ v → gathered v ≡ false → link ≡ get_or links slot 0 → AreLinked word gathered links firsts stale (record { var = v; from = slot + 1; link = link })
walked_linked word gathered links firsts stale cursor are v slot link few lt own apart is = record {
  chain = are.chain;
  first = are.first;
  next = are.next;
  stands = λ _. (
      let behind : suc slot ≡ slot + 1 = omega arith in
      subst (λ f. Leads word are.chain (length links) v f link) behind
      (subst (Leads word are.chain (length links) v (suc slot)) (sym is)
      (subst (λ u. Leads word are.chain (length links) u (suc slot) (get_or links slot 0)) own (are.next slot lt (omega (arith, own, few)) (ap gathered own ∙ apart)))));
  own = are.own;
}

-- a node of the variable from a place on is not before the slot that the link leads to
pub ahead_of : (word : ℕ → Option Word) (chain : ℕ → ℕ) (limit v from link : ℕ) → Leads word chain limit v from link → (s : ℕ) → from ≤ s → HasNode word v s → (0 < link) × (link ≤ suc s)
ahead_of word chain limit v from link l s le h = by_link link refl
  where
    by_link : (n : ℕ) → link ≡ n → (0 < link) × (link ≤ suc s)
    by_link zero e = absurd (l.none e s le h)
    by_link (suc t) e = elim (cases_lt s t) [
      | inl lt ↦ absurd ((l.some t e).3 s le lt h)
      | inr ge ↦ (omega (arith, e), omega (arith, e, ge))
    ]

-- along the links of a variable that is not gathered
pub through : (word : ℕ → Option Word) (gathered : ℕ → Bool) (links firsts : List ℕ) (stale : Bool) (cursor : Cursor) → AreLinked word gathered links firsts stale cursor
    → (notes : List ℕ) (limit v link : ℕ) → length links ≡ limit → v < 2 ^ 15 → gathered v ≡ false → get_or firsts v 0 ≡ link → ((s : ℕ) → get_or links s 0 ≡ link_in (get_or notes s 0)) → LeadsThrough word notes limit v link
through word gathered links firsts stale cursor are notes limit v link long few apart is same = record {
  chain = are.chain;
  first = subst (λ n. Leads word are.chain n v 0 link) long (subst (Leads word are.chain (length links) v 0) is (are.first v few apart));
  next = λ s lt own. subst (λ n. Leads word are.chain n v (suc s) (link_in (get_or notes s 0))) long
      (subst (Leads word are.chain (length links) v (suc s)) (same s)
      (subst (λ u. Leads word are.chain (length links) u (suc s) (get_or links s 0)) own (are.next s (omega (arith, lt, long)) (omega (arith, own, few)) (ap gathered own ∙ apart))));
}

pub leads_wider : (word : ℕ → Option Word) (chain : ℕ → ℕ) (reach limit v from link : ℕ) → reach ≤ limit → Leads word chain reach v from link → Leads word chain limit v from link
leads_wider word chain reach limit v from link le l = record {
  none = l.none;
  some = λ t e. (let o = l.some t e in (o.0, (let lt = o.1 in omega (arith, lt, le)), o.2, o.3));
}

-- a slot of its own variable's chain has its node
pub own_node : (word : ℕ → Option Word) (s : ℕ) → chain_of word s < 2 ^ 15 → HasNode word (chain_of word s) s
own_node word s few = by_word (word s) refl
  where
    by_word : (o : Option Word) → word s ≡ o → HasNode word (chain_of word s) s
    by_word None at = absurd (let e = ap variable_in at in omega (arith, e, few))
    by_word (Some (Leaf x)) at = absurd (let e = ap variable_in at in omega (arith, e, few))
    by_word (Some (Inner node)) at = (node, at, sym (ap variable_in at))

-- the next member of a set that is of this variable
pub next_member : (word : ℕ → Option Word) (g : Gathered) → IsExact word g → (v : ℕ) → is_same g.variable (Some v) ≡ true → (from : ℕ) (next : Option ℕ) → IsNext (has g.slots) from next → IsNextNode word v from next
next_member word g exact v of from next n =
    let is = same_is g.variable v of in
    record { found = found word g exact v is from next n; least = least word g exact v is from next n; none = nowhere word g exact v is from next n }
