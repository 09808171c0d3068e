-- A store of which some slots were freed, or count words written.
use Rattle.std.proofs.Common.{◌≡◌, ◌≢◌, ℕ, zero, suc, ◌+◌, ◌<◌, ◌≤◌, ◌==◌, ◌||◌, Bool, true, false, inl, inr, List, length, get_or, set, Option, Some, None, refl, ap, sym, ◌∙◌, subst, arith}
use Rattle.std.specs.Prelude.{if◌then◌else◌}
use Rattle.std.proofs.lemmas.Bool.{cases_eq, cases_lt, eq-eqb}
use Rattle.std.proofs.lemmas.List.{length-set, get_or_past, get_or-set_same, get_or-set_other}
use Rattle.edge_bits.specs.declared.edges.Edge.{Edge}
use Rattle.edge_bits.specs.declared.edges.Kind.{Kind}
use Rattle.edge_bits.specs.declared.edges.Kind.TheVariants.{Bdd, Add, Zdd}
use Rattle.edge_bits.specs.declared.words.Node.{Node}
use Rattle.edge_bits.specs.declared.words.Word.{Word}
use Rattle.edge_bits.specs.declared.words.Word.TheVariants.{Inner, Leaf}
use Rattle.edge_bits.specs.Words.{unpack_of}
use Rattle.edge_bits.specs.Reading.{plain}
use Rattle.function_laws.specs.Kinds.{Denoted, ValueOf, values_of, flipped}
use Rattle.node_store.specs.Views.{levels, IsVariable, IsBeyond, IsBelow, CanMake, Denotes, Is, values_at}
use Rattle.computed_cache.specs.Entries.{Kept, kept_at, names, without}
use Rattle.node_store.proofs.MemoLaws.{MemoHolds-carried}
use Rattle.node_slots.specs.Slots.{node_of, word_function, function_at_most}
use Rattle.node_slots.specs.Stores.{Plain, slots, longest, content_of, plain_view, HasNoFree, IsUnknown, AreHolds, IsNode, IsStore}
use Rattle.node_slots.specs.Counts.{IsUnnamed}
use Rattle.node_slots.specs.declared.plain_store.Refused.{Refused}
use Rattle.node_slots.proofs.Reading.{at_word}

-- the store with other words, count words, flags and entries of the computed table, and another call refused
abbrev pub changed : Plain → List ℕ → List ℕ → List ℕ → List ℕ → Bool → Option Refused → List ℕ → Plain
changed p ws cs marks pins on d memo = record p { words = ws; counts = cs; marks = marks; pins = pins; sweeping = on; due = d; memo = memo }

module _ (p : Plain) (ws cs marks pins : List ℕ) (on : Bool) (d : Option Refused) (memo : List ℕ) where
  abbrev q : Plain
  q = changed p ws cs marks pins on d memo

  variable : (k : Kind) (v : ℕ) → IsVariable k (plain_view q) v → IsVariable k (plain_view p) v
  variable Bdd v h = h
  variable Add v h = h
  variable Zdd v h = h

  variable_too : (k : Kind) (v : ℕ) → IsVariable k (plain_view p) v → IsVariable k (plain_view q) v
  variable_too Bdd v h = h
  variable_too Add v h = h
  variable_too Zdd v h = h

  beyond : (k : Kind) (v : ℕ) → IsBeyond k (plain_view q) v → IsBeyond k (plain_view p) v
  beyond Bdd v h = h
  beyond Add v h = h
  beyond Zdd v h = h

  levels_same : (k : Kind) → levels k (plain_view q) ≡ levels k (plain_view p)
  levels_same Bdd = refl
  levels_same Add = refl
  levels_same Zdd = refl

  below : (k : Kind) (v : ℕ) (f : ℕ → ValueOf k) → IsBelow k (plain_view p) v f → IsBelow k (plain_view q) v f
  below k v f h = λ u un. h u (variable k u un)

  -- an edge whose slot denotes what it did
  values_same : (k : Kind) (e : Edge) → content_of q e.index ≡ content_of p e.index → values_at k (plain_view q) e ≡ values_at k (plain_view p) e
  values_same k e same = ap (λ o. values_of k (flipped e.complement o)) same

  is_same : (k : Kind) (e : Edge) → content_of q e.index ≡ content_of p e.index → Is k (plain_view p) e → Is k (plain_view q) e
  is_same k e same h = subst (λ f. Denotes k (plain_view q) e f) (sym (values_same k e same)) (record {
    is = ap (flipped e.complement) same ∙ h.is;
    beyond = λ v b. h.beyond v (beyond k v b);
    fits = h.fits;
  })

  can_make : (k : Kind) (v : ℕ) (hi lo : Edge) → content_of q hi.index ≡ content_of p hi.index → content_of q lo.index ≡ content_of p lo.index → CanMake k (plain_view p) v hi lo → CanMake k (plain_view q) v hi lo
  can_make k v hi lo hi_same lo_same m = record {
    in_range = variable_too k v m.in_range;
    hi_is = is_same k hi hi_same m.hi_is;
    lo_is = is_same k lo lo_same m.lo_is;
    hi_below = rw (values_same k hi hi_same) (below k v (values_at k (plain_view p) hi) m.hi_below);
    lo_below = rw (values_same k lo lo_same) (below k v (values_at k (plain_view p) lo) m.lo_below);
  }

  -- slots that stay, and denote what they did whatever the paths' length
  module _ (Stays : ℕ → Type 0) (same : (m s : ℕ) → Stays s → function_at_most (slots q) m s ≡ function_at_most (slots p) m s) where
    content_same : (s : ℕ) → Stays s → content_of q s ≡ content_of p s
    content_same s stays = same (suc (longest p)) s stays

    node_same : (k : Kind) (node : Node) → Stays node.hi → Stays node.lo.index → IsNode k p node → IsNode k q node
    node_same k node hi lo n = record {
      can_make = can_make k node.var (plain node.hi) node.lo (content_same node.hi hi) (content_same node.lo.index lo) n.can_make;
      proper = rw (values_same k (plain node.hi) (content_same node.hi hi), values_same k node.lo (content_same node.lo.index lo)) n.proper;
      regular = rw (values_same k (plain node.hi) (content_same node.hi hi)) n.regular;
    }

    -- the slots with words are among those that stay, and so are their children
    pub IsStore-remaining : IsStore p → ((s : ℕ) (word : Word) → slots q s ≡ Some word → slots p s ≡ Some word)
        → ((s : ℕ) (node : Node) → slots q s ≡ Some (Inner node) → Stays node.hi × Stays node.lo.index)
        → ((s : ℕ) (f : Denoted) → content_of q s ≡ Some f → Stays s)
        → ((s : ℕ) → s < 5 + length p.variable_levels → slots q s ≡ slots p s)
        → length ws ≡ length p.words → AreHolds q
        → ((r : Refused) → d ≡ Some r → HasNoFree q) → ((f : Denoted) → (plain_view q).due ≡ Some f → IsUnknown q f)
        → ((i : ℕ) (kept : Kept) → kept_at memo i ≡ Some kept → (kept_at p.memo i ≡ Some kept) × Stays kept.key.f.index × Stays kept.key.g.index × Stays kept.key.h.index × Stays kept.edge.index) → IsStore q
    IsStore-remaining st kept named present first words holds refused missing entries = record {
      ordered = record {
        within = λ k v vn. rw (levels_same k) (st.ordered.within k v (variable k v vn));
        alone = λ k u v un vn. st.ordered.alone k u v (variable k u un) (variable k v vn);
      };
      permanent = record {
        constants = λ s lt. first s (omega arith) ∙ st.permanent.constants s lt;
        projections = λ v lt. first (5 + v) (omega arith) ∙ st.permanent.projections v lt;
      };
      canonical = record {
        nodes = λ s node is. (let n = st.canonical.nodes s node (kept s (Inner node) is) in let c = named s node is in (n.0, node_same n.0 node c.0 c.1 n.1));
        leaves = λ s x is. st.canonical.leaves s x (kept s (Leaf x) is);
        apart = λ s t f hs ht. st.canonical.apart s t f (sym (content_same s (present s f hs)) ∙ hs) (sym (content_same t (present t f ht)) ∙ ht);
      };
      variables_stand = st.variables_stand;
      elements_stand = st.elements_stand;
      few_variables = st.few_variables;
      few_elements = st.few_elements;
      room = (let r = st.room in omega arith);
      few_words = (let f = st.few_words in omega arith);
      holds = holds;
      refused = refused;
      missing = missing;
      remembered = λ i entry h. (
          let e = entries i entry h in
          MemoHolds-carried (record { vars = refl; elements = refl; level = refl; content = λ s f stays is. content_same s stays ∙ is }) entry.key entry.edge e.1 e.2 e.3 e.4 (st.remembered i entry e.0));
    }

-- a store with other count words and flags
pub held_store : (p : Plain) → IsStore p → (cs marks pins : List ℕ) (on : Bool) → AreHolds (record p { counts = cs; marks = marks; pins = pins; sweeping = on }) → IsStore (record p { counts = cs; marks = marks; pins = pins; sweeping = on })
held_store p st cs marks pins on holds =
    IsStore-remaining p p.words cs marks pins on p.due p.memo (λ s. Unit {0}) (λ m s _. refl) st (λ s word is. is) (λ s node is. (tt, tt)) (λ s f h. tt) (λ s lt. refl) refl holds st.refused st.missing (λ i entry h. (h, tt, tt, tt, tt))

-- a store where a sweep begins, and no answer is remembered
pub swept_store : (p : Plain) → IsStore p → (marks memo : List ℕ) (on : Bool) → AreHolds (record p { marks = marks; sweeping = on; memo = memo }) → ((i : ℕ) → kept_at memo i ≡ None)
    → IsStore (record p { marks = marks; sweeping = on; memo = memo })
swept_store p st marks memo on holds empty =
    IsStore-remaining p p.words p.counts marks p.pins on p.due memo (λ s. Unit {0}) (λ m s _. refl) st (λ s word is. is) (λ s node is. (tt, tt)) (λ s f h. tt) (λ s lt. refl) refl holds st.refused st.missing
    (λ i entry h. absurd (let bad : None ≡ Some entry = sym (empty i) ∙ h in cc))

-- an entry that was not dropped does not name the slot
not_forgotten : (slot : ℕ) (o : Option Kept) (entry : Kept) → without slot o ≡ Some entry
    → (o ≡ Some entry) × (entry.key.f.index ≢ slot) × (entry.key.g.index ≢ slot) × (entry.key.h.index ≢ slot) × (entry.edge.index ≢ slot)
not_forgotten slot None entry h = cc
not_forgotten slot (Some kept) entry h = by_name (names slot kept) refl
  where
    four : (a b c d : Bool) → (a || b || c || d) ≡ false → (a ≡ false) × (b ≡ false) × (c ≡ false) × (d ≡ false)
    four true b c d e = cc
    four false true c d e = cc
    four false false true d e = cc
    four false false false true e = cc
    four false false false false e = (refl, refl, refl, refl)

    apart : (i : ℕ) → (i == slot) ≡ false → i ≢ slot
    apart i differ same = let yes = eq-eqb i slot same in let bad : true ≡ false = sym yes ∙ differ in cc

    by_name : (b : Bool) → names slot kept ≡ b
        → (Some kept ≡ Some entry) × (entry.key.f.index ≢ slot) × (entry.key.g.index ≢ slot) × (entry.key.h.index ≢ slot) × (entry.edge.index ≢ slot)
    by_name true named = let bad : None ≡ Some entry = ap (λ b. if b then None else Some kept) (sym named) ∙ h in cc
    by_name false named =
        let same : Some kept ≡ Some entry = ap (λ b. if b then None else Some kept) (sym named) ∙ h in
        let one : kept ≡ entry = cc in
        let n = four (kept.key.f.index == slot) (kept.key.g.index == slot) (kept.key.h.index == slot) (kept.edge.index == slot) named in (
          same,
          subst (λ (x : Kept). x.key.f.index ≢ slot) one (apart kept.key.f.index n.0),
          subst (λ (x : Kept). x.key.g.index ≢ slot) one (apart kept.key.g.index n.1),
          subst (λ (x : Kept). x.key.h.index ≢ slot) one (apart kept.key.h.index n.2),
          subst (λ (x : Kept). x.edge.index ≢ slot) one (apart kept.edge.index n.3),
        )

-- a slot that no node names is freed
module _ (p : Plain) (slot : ℕ) (cs memo : List ℕ) (within : slot < length p.words) (high : 3 ≤ slot) (unnamed : IsUnnamed p slot) where
  abbrev pub freed : Plain
  freed = changed p (set p.words slot 0) cs p.marks p.pins p.sweeping None memo

  pub slot_gone : slots freed slot ≡ None
  slot_gone = ap unpack_of (get_or-set_same p.words slot 0 0 within)

  pub slot_other : (s : ℕ) → s ≢ slot → slots freed s ≡ slots p s
  slot_other s ne = ap unpack_of (get_or-set_other p.words slot s 0 0 ne)

  word_same : (m s : ℕ) → 3 ≤ s → s ≢ slot → ((t : ℕ) → t ≢ slot → function_at_most (slots freed) m t ≡ function_at_most (slots p) m t)
      → (o : Option Word) → slots p s ≡ o → function_at_most (slots freed) (suc m) s ≡ function_at_most (slots p) (suc m) s
  word_same m s le ne rec None is =
      at_word (slots freed) m s le ∙ ap (word_function (function_at_most (slots freed) m)) (slot_other s ne ∙ is)
      ∙ sym (at_word (slots p) m s le ∙ ap (word_function (function_at_most (slots p) m)) is)
  word_same m s le ne rec (Some (Leaf x)) is =
      at_word (slots freed) m s le ∙ ap (word_function (function_at_most (slots freed) m)) (slot_other s ne ∙ is)
      ∙ sym (at_word (slots p) m s le ∙ ap (word_function (function_at_most (slots p) m)) is)
  word_same m s le ne rec (Some (Inner node)) is =
      let apart = unnamed s node is in
      at_word (slots freed) m s le ∙ ap (word_function (function_at_most (slots freed) m)) (slot_other s ne ∙ is)
      ∙ ap (λ o. node_of node.var o (flipped node.lo.complement (function_at_most (slots freed) m node.lo.index))) (rec node.hi apart.0)
      ∙ ap (λ o. node_of node.var (function_at_most (slots p) m node.hi) (flipped node.lo.complement o)) (rec node.lo.index apart.1)
      ∙ sym (at_word (slots p) m s le ∙ ap (word_function (function_at_most (slots p) m)) is)

  pub function_same : (m s : ℕ) → s ≢ slot → function_at_most (slots freed) m s ≡ function_at_most (slots p) m s
  unfolding function_at_most
  function_same zero s ne = refl
  function_same (suc m) zero ne = refl
  function_same (suc m) (suc zero) ne = refl
  function_same (suc m) (suc (suc zero)) ne = refl
  function_same (suc m) (suc (suc (suc s))) ne = word_same m (suc (suc (suc s))) (omega arith) ne (λ t. function_same m t) (slots p (suc (suc (suc s)))) refl

  pub content_gone : content_of freed slot ≡ None
  content_gone = at_word (slots freed) (longest p) slot high ∙ ap (word_function (function_at_most (slots freed) (longest p))) slot_gone

  pub IsStore-freed : IsStore p → 5 + length p.variable_levels ≤ slot → AreHolds freed → ((i : ℕ) → kept_at memo i ≡ without slot (kept_at p.memo i)) → IsStore freed
  IsStore-freed st permanent holds forgotten =
      IsStore-remaining p (set p.words slot 0) cs p.marks p.pins p.sweeping None memo (λ s. s ≢ slot) function_same st kept
      (λ s node is. unnamed s node (kept s (Inner node) is))
      (λ s f h same. (let e : None ≡ Some f = sym content_gone ∙ ap (content_of freed) (sym same) ∙ h in cc))
      (λ s lt. slot_other s (omega (arith, lt, permanent)))
      (length-set p.words slot 0) holds (λ r is. cc) (λ f due. cc) (λ i entry h. not_forgotten slot (kept_at p.memo i) entry (sym (forgotten i) ∙ h))
    where
      kept : (s : ℕ) (word : Word) → slots freed s ≡ Some word → slots p s ≡ Some word
      kept s word is = elim (cases_eq s slot) [
        | inl same ↦ absurd (let e : None ≡ Some word = sym slot_gone ∙ ap (slots freed) (sym same) ∙ is in cc)
        | inr ne ↦ sym (slot_other s ne) ∙ is
      ]

-- a slot with a word is one of the slots
pub used_within : (p : Plain) (s : ℕ) → (slots p s ≡ None → ⊥) → s < length p.words
used_within p s used = elim (cases_lt s (length p.words)) [
  | inl lt ↦ lt
  | inr ge ↦ absurd (used (ap unpack_of (get_or_past p.words s 0 ge)))
]

-- the count word that was written
pub count_written : (counts new : List ℕ) (slot word : ℕ) → slot < length counts → new ≡ set counts slot word → get_or new slot 0 ≡ word
count_written counts new slot word within is = ap (λ cs. get_or cs slot 0) is ∙ get_or-set_same counts slot word 0 within
