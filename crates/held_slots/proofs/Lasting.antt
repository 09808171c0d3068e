-- Links last where nodes are made, changed and freed of variables that are gathered, and where any are freed.
use Rattle.std.proofs.Common.{◌≡◌, ◌≢◌, ℕ, ◌<◌, ◌⊎◌, inl, inr, Bool, true, false, List, Option, Some, None, refl, ap, sym, ◌∙◌, subst}
use Rattle.std.specs.Prelude.{◌^◌, ◌||◌}
use Rattle.std.proofs.lemmas.Bool.{cases_eq, eq-eqb}
use Rattle.edge_bits.specs.declared.words.Word.{Word}
use Rattle.edge_bits.specs.declared.words.Word.TheVariants.{Inner, Leaf}
use Rattle.held_slots.specs.declared.notes.Cursor.{Cursor}
use Rattle.held_slots.specs.Linked.{AreLinked, HasNode, IsChangedAt, IsExact, IsLinkedTo, Leads, variable_of}
use Rattle.held_slots.specs.Notes.{Chain, Notes}
use Rattle.held_slots.specs.SlotSets.{Gathered, IsPut, has, is_gathered, is_same}

-- a node and its variable
pub variable_is : (word : ℕ → Option Word) (v s : ℕ) → HasNode word v s → variable_of (word s) ≡ Some v
variable_is word v s h = ap variable_of h.1 ∙ ap (λ u. Some u) h.2

pub node_is : (word : ℕ → Option Word) (v s : ℕ) → variable_of (word s) ≡ Some v → HasNode word v s
node_is word v s is = by_word (word s) refl is
  where
    by_word : (o : Option Word) → word s ≡ o → variable_of o ≡ Some v → HasNode word v s
    by_word None at h = cc
    by_word (Some (Leaf x)) at h = cc
    by_word (Some (Inner node)) at h = (node, at, (let e : Some node.var ≡ Some v = h in cc))

pub one_variable : (word : ℕ → Option Word) (v u s : ℕ) → HasNode word v s → variable_of (word s) ≡ Some u → v ≡ u
one_variable word v u s h is = let e : Some v ≡ Some u = sym (variable_is word v s h) ∙ is in cc

pub same_here : (v : ℕ) → is_same (Some v) (Some v) ≡ true
same_here v = eq-eqb v v refl

pub never : {A : Type 0} → true ≡ false → A
never e = cc

-- the variables that are not gathered now were not before, and their nodes were nodes of theirs
module _ (word new : ℕ → Option Word) (gathered now : ℕ → Bool) (fewer : (v : ℕ) → now v ≡ false → gathered v ≡ false) (back : (v s : ℕ) → now v ≡ false → HasNode new v s → HasNode word v s) where
  pub leads_on : (chain : ℕ → ℕ) (reach v from link : ℕ) → now v ≡ false → Leads word chain reach v from link → Leads new chain reach v from link
  leads_on chain reach v from link apart l = record {
    none = λ z s le h. l.none z s le (back v s apart h);
    some = λ t is. (let o = l.some t is in (o.0, o.1, o.2, λ s le lt h. o.3 s le lt (back v s apart h)));
  }

  pub linked_on : (links firsts : List ℕ) (stale after : Bool) (cursor : Cursor) (are : AreLinked word gathered links firsts stale cursor)
      → ((s : ℕ) → are.chain s < 2 ^ 15 → now (are.chain s) ≡ false → HasNode new (are.chain s) s ⊎ ((after ≡ true) × (new s ≡ None))) → AreLinked new now links firsts after cursor
  linked_on links firsts stale after cursor are own = record {
    chain = are.chain;
    first = λ v few apart. leads_on are.chain _ v 0 _ apart (are.first v few (fewer v apart));
    next = λ s lt few apart. leads_on are.chain _ (are.chain s) _ _ apart (are.next s lt few (fewer (are.chain s) apart));
    stands = λ apart. leads_on are.chain _ cursor.var cursor.from cursor.link apart (are.stands (fewer cursor.var apart));
    own = own;
  }

-- a slot that is gathered, or not, as its word says
pub exact_put : (word new : ℕ → Option Word) (slot : ℕ) (now : Option ℕ) (g h : Gathered) → IsExact word g → IsPut slot now g h → IsChangedAt word new slot → variable_of (new slot) ≡ now → IsExact new h
exact_put word new slot now g h exact put changed is s = elim (cases_eq s slot) [
  | inl e ↦ ap (has h.slots) e ∙ put.here ∙ ap (is_same g.variable) (sym is) ∙ ap (λ t. is_same g.variable (variable_of (new t))) (sym e) ∙ ap (λ v. is_same v (variable_of (new s))) (sym put.variable)
  | inr ne ↦ put.others s ne ∙ exact s ∙ ap (λ w. is_same g.variable (variable_of w)) (sym (changed s ne)) ∙ ap (λ v. is_same v (variable_of (new s))) (sym put.variable)
]

-- the sets after a slot was put: none is of another variable
pub same_gathered : (slot : ℕ) (now : Option ℕ) (older newer older' newer' : Gathered) → IsPut slot now older older' → IsPut slot now newer newer' → (v : ℕ) → is_gathered older' newer' v ≡ is_gathered older newer v
same_gathered slot now older newer older' newer' a b v = ap (λ o. is_same o (Some v) || is_same newer'.variable (Some v)) a.variable ∙ ap (λ o. is_same older.variable (Some v) || is_same o (Some v)) b.variable

-- one slot's word changes, and the slot is put
module _ (word new : ℕ → Option Word) (slot : ℕ) (now : Option ℕ) (changed : IsChangedAt word new slot) (now_is : variable_of (new slot) ≡ now) (c : Chain) (linked : IsLinkedTo word c)
    (o n : Gathered) (older : IsPut slot now c.older o) (newer : IsPut slot now c.newer n) where
  fewer : (v : ℕ) → is_gathered o n v ≡ false → is_gathered c.older c.newer v ≡ false
  fewer v apart = sym (same_gathered slot now c.older c.newer o n older newer v) ∙ apart

  elsewhere : (v s : ℕ) → s ≢ slot → HasNode new v s → HasNode word v s
  elsewhere v s ne h = (h.0, sym (changed s ne) ∙ h.1, h.2)

  still : (v s : ℕ) → s ≢ slot → HasNode word v s → HasNode new v s
  still v s ne h = (h.0, changed s ne ∙ h.1, h.2)

  with_sets : (stale : Bool) → ((on : c.linked ≡ true) → AreLinked new (is_gathered o n) c.links c.firsts stale c.cursor) → IsLinkedTo new (record c { stale = stale; older = o; newer = n })
  with_sets stale links on =
      let are = linked on in
      (links on, exact_put word new slot now c.older o are.1 older changed now_is, exact_put word new slot now c.newer n are.2 newer changed now_is)

  -- a node of a variable that is gathered is there now
  made : (var : ℕ) → now ≡ Some var → is_gathered c.older c.newer var ≡ true
      → ((a : ℕ) → a < 2 ^ 15 → is_gathered c.older c.newer a ≡ false → HasNode word a slot ⊎ ((c.stale ≡ true) × (word slot ≡ None)) → ⊥) → IsLinkedTo new (record c { stale = c.stale; older = o; newer = n })
  made var is in_set none_own = with_sets c.stale (λ on. (
      let are = (linked on).0 in
      linked_on word new (is_gathered c.older c.newer) (is_gathered o n) fewer
      (λ v s apart h. elim (cases_eq s slot) [
        | inl e ↦ (
            let v_is : v ≡ var = one_variable new v var slot (subst (HasNode new v) e h) (now_is ∙ is) in
            never (sym in_set ∙ ap (is_gathered c.older c.newer) (sym v_is) ∙ fewer v apart))
        | inr ne ↦ elsewhere v s ne h
      ])
      c.links c.firsts c.stale c.stale c.cursor are
      (λ s few apart. elim (cases_eq s slot) [
        | inl e ↦ absurd (none_own (are.chain s) few (fewer (are.chain s) apart) (subst (λ t. HasNode word (are.chain s) t ⊎ ((c.stale ≡ true) × (word t ≡ None))) e (are.own s few (fewer (are.chain s) apart))))
        | inr ne ↦ elim (are.own s few (fewer (are.chain s) apart)) [
          | inl h ↦ inl (still (are.chain s) s ne h)
          | inr (stale, none) ↦ inr (stale, changed s ne ∙ none)
        ]
      ])))

  pub moved_linked : (was var : ℕ) → variable_of (word slot) ≡ Some was → now ≡ Some var → is_gathered c.older c.newer was ≡ true → is_gathered c.older c.newer var ≡ true
      → IsLinkedTo new (record c { stale = c.stale; older = o; newer = n })
  moved_linked was var was_is is was_in var_in = made var is var_in (λ a few apart own. elim own [
    | inl h ↦ (
        let same : a ≡ was = one_variable word a was slot h was_is in
        never (sym was_in ∙ ap (is_gathered c.older c.newer) (sym same) ∙ apart))
    | inr (stale, none) ↦ (let e : None ≡ Some was = sym (ap variable_of none) ∙ was_is in cc)
  ])

  pub added_linked : (var : ℕ) → (word slot ≡ None) ⊎ (variable_of (word slot) ≡ Some var) → now ≡ Some var → is_gathered c.older c.newer var ≡ true → c.stale ≡ false
      → IsLinkedTo new (record c { stale = c.stale; older = o; newer = n })
  added_linked var was is var_in fresh = made var is var_in (λ a few apart own. elim own [
    | inl h ↦ elim was [
      | inl none ↦ (let e : None ≡ Some a = sym (ap variable_of none) ∙ variable_is word a slot h in cc)
      | inr same ↦ (
          let a_is : a ≡ var = one_variable word a var slot h same in
          never (sym var_in ∙ ap (is_gathered c.older c.newer) (sym a_is) ∙ apart))
    ]
    | inr (stale, none) ↦ never (sym stale ∙ fresh)
  ])

  pub freed_linked : (was : Option ℕ) (stale : Bool) → variable_of (word slot) ≡ was → new slot ≡ None → (c.stale ≡ true → stale ≡ true) → ((a : ℕ) → was ≡ Some a → is_gathered c.older c.newer a ≡ false → stale ≡ true)
      → IsLinkedTo new (record c { stale = stale; older = o; newer = n })
  freed_linked was stale was_is none rises risen = with_sets stale (λ on. (
      let are = (linked on).0 in
      linked_on word new (is_gathered c.older c.newer) (is_gathered o n) fewer
      (λ v s apart h. elim (cases_eq s slot) [
        | inl e ↦ (let e1 : None ≡ Some v = sym (ap variable_of none) ∙ variable_is new v slot (subst (HasNode new v) e h) in cc)
        | inr ne ↦ elsewhere v s ne h
      ])
      c.links c.firsts c.stale stale c.cursor are
      (λ s few apart. (
      let gone : s ≡ slot → new s ≡ None = λ e. ap new e ∙ none in
      elim (are.own s few (fewer (are.chain s) apart)) [
        | inl h ↦ elim (cases_eq s slot) [
          | inl e ↦ inr (risen (are.chain s) (sym was_is ∙ ap (λ t. variable_of (word t)) (sym e) ∙ variable_is word (are.chain s) s h) (fewer (are.chain s) apart), gone e)
          | inr ne ↦ inl (still (are.chain s) s ne h)
        ]
        | inr (on_stale, gone_before) ↦ inr (
          rises on_stale,
          (elim (cases_eq s slot) [
            | inl e ↦ gone e
            | inr ne ↦ changed s ne ∙ gone_before
          ]),
        )
      ]))))

-- the notes from which a free slot is put have a flag of their own
pub freed_notes : (word new : ℕ → Option Word) (slot : ℕ) → IsChangedAt word new slot → new slot ≡ None → (old m : Notes) (stale : Bool) → m ≡ record old { chain = record old.chain { stale = stale } } → IsLinkedTo word old.chain
    → (o n : Gathered) → IsPut slot None m.chain.older o → IsPut slot None m.chain.newer n → (was : Option ℕ) → variable_of (word slot) ≡ was → (old.chain.stale ≡ true → stale ≡ true)
    → ((a : ℕ) → was ≡ Some a → is_gathered old.chain.older old.chain.newer a ≡ false → stale ≡ true) → IsLinkedTo new (record m.chain { older = o; newer = n })
freed_notes word new slot changed none old m stale is linked o n = subst (λ (x : Notes). IsPut slot None x.chain.older o → IsPut slot None x.chain.newer n → (was : Option ℕ) → variable_of (word slot) ≡ was → (old.chain.stale ≡ true → stale ≡ true)
    → ((a : ℕ) → was ≡ Some a → is_gathered old.chain.older old.chain.newer a ≡ false → stale ≡ true) → IsLinkedTo new (record x.chain { older = o; newer = n })) (sym is)
    (λ older newer was was_is rises risen. freed_linked word new slot None changed (ap variable_of none) old.chain linked o n older newer was stale was_is none rises risen)
