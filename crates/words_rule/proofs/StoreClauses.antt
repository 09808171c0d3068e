-- A free slot is taken for a word that is wanted, and the word is stored there, with the clauses of a seat's steps.
use Rattle.std.proofs.Common.{◌≡◌, ◌≢◌, inl, ℕ, ◌<◌, true, List, ◌∷◌, Some, None, refl, ap, sym, ◌∙◌, subst}
use Rattle.std.specs.Prelude as std
use mathlib.Core.Option.{Option, some}
use lib.ListN.{get_elem?}
use Rattle.atomic_table.specs.Table.{State, Me, rest, Allows}
use Rattle.edge_bits.specs.declared.words.Word.{Word}
use Rattle.edge_bits.specs.declared.words.Word.TheVariants.{Inner, Leaf}
use Rattle.edge_bits.specs.Reading.{plain}
use Rattle.edge_bits.specs.Words.{unpack_of, pack_of}
use Rattle.function_laws.specs.Kinds.{ValueOf}
use Rattle.node_store.specs.Contents.{Content}
use Rattle.node_store.specs.Views.{IsProper}
use Rattle.node_slots.proofs.Answering.{value_fits}
use Rattle.step_store.specs.Chains as steps
use Rattle.step_store.specs.Knowing as knowing
use Rattle.step_store.specs.Knowing.{Knowledge, IsWanted, MayStore}
use Rattle.words_rule.specs.declared.cell.Cell.{Cell}
use Rattle.words_rule.specs.declared.view.Held.{Held}
use Rattle.words_rule.specs.declared.view.Share.TheVariants as shares
use Rattle.words_rule.specs.declared.view.Job.{Job}
use Rattle.words_rule.specs.declared.view.Job.TheVariants.{OfNode, OfLeaf}
use Rattle.words_rule.specs.declared.view.Walk.{Walk}
use Rattle.words_rule.specs.declared.view.View.{View}
use Rattle.words_rule.specs.Views.{orders_of}
use Rattle.words_rule.specs.Shapes.{shape_in}
use Rattle.words_rule.specs.Layout.{Shape, Words, words_of, head_of, content_of}
use Rattle.words_rule.specs.Chains.{Lists}
use Rattle.words_rule.specs.Dues.{slot_of, word_of, IsToDo}
use Rattle.words_rule.specs.Hands.{HasLevel, level_of}
use Rattle.words_rule.specs.Rule.{Parts, Rule}
use Rattle.words_rule.specs.Plays.{HasTaken}
use Rattle.words_rule.specs.Known.{Own, taken_of, known_of}
use Rattle.words_rule.proofs.Packing.{packs_back}
use Rattle.words_rule.proofs.Stepping.{shape_is}
use Rattle.words_rule.proofs.Handed.{hand_at, settled_by, parts_no_node, parts_no_leaf}
use Rattle.words_rule.proofs.Tabling.{takes_slot}
use Rattle.words_rule.proofs.Narrowing.{can_up, values_same}
use Rattle.words_rule.proofs.Meeting.{word_stands, narrow}
use Rattle.words_rule.proofs.NodeLoads.{lists_on, walk_in}
use Rattle.words_rule.proofs.HandClauses.{stands_at, none_back}
use Rattle.free_list.specs.FreeSlots.{FreeSlots}

some_job : (a b : Job) → Some a ≡ Some b → a ≡ b
some_job a b e = cc

-- what a wanted word is to be made of, in a slot
abbrev pub job_for : (k : Knowledge) (slot : ℕ) (word : Word) → MayStore k.view word → Job
job_for k slot (Inner node) may = OfNode (record { slot = slot; kind = may.0; var = node.var; hi = plain node.hi; lo = node.lo })
job_for k slot (Leaf x) may = OfLeaf (record { slot = slot; value = x })

pub job_slot : (k : Knowledge) (slot : ℕ) (word : Word) (may : MayStore k.view word) → slot_of (job_for k slot word may) ≡ slot
job_slot k slot (Inner node) may = refl
job_slot k slot (Leaf x) may = refl

pub job_word : (k : Knowledge) (slot : ℕ) (word : Word) (may : MayStore k.view word) → word_of (job_for k slot word may) ≡ word
job_word k slot (Inner node) may = refl
job_word k slot (Leaf x) may = refl

pub level_is_turn : (v : View) (o : Own) (word : Word) → level_of (shape_in v.draws) word ≡ knowing.turn_of (known_of v o).view word
level_is_turn v o (Inner node) = refl
level_is_turn v o (Leaf x) = refl

module _ {S : Type 0} (board : S → List (std.Option Cell)) (free_slots : S → FreeSlots) (memo : S → List ℕ) where
  abbrev PartsOf : Shape → Words → (ℕ → Option (Option (std.Option S))) → List View → Type 0
  PartsOf = Parts board free_slots memo

  abbrev TheRule : State (std.Option S) View → Type 0
  TheRule = Rule board free_slots memo

  abbrev Sat : Type 0
  Sat = Me (std.Option S) View

  module _ (z : Shape) (ws : Words) (home : ℕ → Option (Option (std.Option S))) (vs : List View) (r : PartsOf z ws home vs) (id : ℕ) (v : View) (at : get_elem? vs id ≡ some v)
      (live : v.draws.live ≡ true) (share : v.shares.op ≡ shares.Held) (orders_noted : orders_of v.known ≡ r.orders) (o : Own) where
    abbrev w : Content
    w = content_of z ws.node r.orders r.function r.half

    abbrev K : Knowledge
    K = known_of v o

    -- what is wanted is due
    pub wanted_due : (slot bits : ℕ) (word : Word) (wanted : IsWanted K bits word) → bits < 18446744073709551616 → v.hand.loose ≡ None → IsToDo w (job_for K slot word wanted.may)
    wanted_due slot bits word wanted small none_loose =
        let a = wanted.absent in
        let shape = shape_is board free_slots memo z ws home vs r id v at live in
        let m = walk_in v.hand.walk a.walk a.is in
        let head : head_of z bits ≡ m.0.head = ap (λ (y : Shape). head_of y bits) shape ∙ sym a.head ∙ ap (λ (n : knowing.Walk). n.head) (sym m.2) in
        let level : level_of z word ≡ m.0.level = ap (λ (y : Shape). level_of y word) shape ∙ level_is_turn v o word ∙ sym a.level ∙ ap (λ (n : knowing.Walk). n.level) (sym m.2) in
        let others : (s : ℕ) → Lists m.0.rest s → ws.node s ≢ bits = λ s there same.
        let b = a.others s (subst (λ (n : knowing.Walk). steps.Lists n.rest s) m.2 (lists_on m.0.rest s there)) in
        b.2 (sym (word_stands board free_slots memo z ws home vs r id v at live share orders_noted o s b.0 b.1).0 ∙ same) in
        by word wanted.may a.reads m.0 m.1 head level others
      where
        by : (word : Word) (may : MayStore K.view word) → unpack_of bits ≡ Some word → (m : Walk) → v.hand.walk ≡ Some m → head_of z bits ≡ m.head → level_of z word ≡ m.level → ((s : ℕ) → Lists m.rest s → ws.node s ≢ bits) → IsToDo w (job_for K slot word may)
        by (Inner node) may reads m walk head level others =
            let n = narrow board free_slots memo z ws home vs r id v at live share orders_noted o in
            let c = may.1 in record {
              can = can_up n may.0 node.var (plain node.hi) node.lo c;
              plain = refl;
              proper = subst (λ (y : (ℕ → ValueOf may.0) × (ℕ → ValueOf may.0)). IsProper may.0 y.0 y.1)
                  (λ i. (sym (values_same n may.0 (plain node.hi) c.hi_is) i, sym (values_same n may.0 node.lo c.lo_is) i)) may.2;
              absent = parts_no_node board free_slots memo z ws home vs r id v at m bits node walk none_loose small reads head level others;
              way = inl (settled_by board free_slots memo z ws home vs r id v at share);
            }
        by (Leaf x) may reads m walk head level others = record {
          value = value_fits x may;
          absent = parts_no_leaf board free_slots memo z ws home vs r id v at m bits x walk none_loose small reads head level others;
        }

  -- take_slot
  pub step_take_slot : (slots id : ℕ) (me : Sat) (o : Own) (slot bits : ℕ) (list : List ℕ) (x : S) (word : Word) → me.0.draws.live ≡ true → me.0.shares.op ≡ shares.Held → me.1 ≡ (1, Some x) ∷ rest me.1
      → (known_of me.0 o).hand.free ≡ Some (slot ∷ list) → (free_slots x).slots ≡ list → (free_slots x).room ≡ me.0.draws.slots → ((known_of me.0 o).hand.taken ≡ None) × ((known_of me.0 o).hand.loose ≡ None) → bits < 18446744073709551616 → (wanted : IsWanted (known_of me.0 o) bits word)
      → Allows TheRule slots id me 3 (λ _. 0) (λ _ m. HasTaken bits slot me m)
  step_take_slot slots id me o slot bits list x word live share has free gave roomy calm small wanted s r long at below =
      let v = me.0 in
      let K : Knowledge = known_of v o in
      let job : Job = job_for K slot word wanted.may in
      let slot_is : slot_of job ≡ slot = job_slot K slot word wanted.may in
      let word_is : word_of job ≡ word = job_word K slot word wanted.may in
      let y = takes_slot board free_slots memo slots id me job list x live has (inl share) (free ∙ ap (λ (q : ℕ). Some (q ∷ list)) (sym slot_is)) (none_back taken_of v.hand.taken calm.0)
      (subst (λ (l : ℕ). HasLevel v.hand l) (sym (level_is_turn v o word) ∙ ap (level_of (shape_in v.draws)) (sym word_is)) (stands_at v.hand.levels (knowing.turn_of K.view word) wanted.turn)) gave roomy
      (λ t r at. wanted_due r.shape (words_of r.shape t.words) (λ (k : ℕ). get_elem? t.homes k) t.views r.parts id v at live share (r.parts.ordered.shared id v at share) o slot bits word wanted small calm.1)
      s r long at below in
      let told = y.4 in
      let packs : pack_of (word_of job) ≡ bits = ap pack_of word_is ∙ sym (packs_back bits word small wanted.absent.reads) in (
        y.0,
        y.1,
        y.2,
        y.3,
        record {
          job = job;
          is = told;
          slot_is = slot_is;
          packs = packs;
          reads = wanted.absent.reads ∙ ap Some (sym word_is);
          within = (let p = r.parts in
              let home = λ (k : ℕ). get_elem? s.homes k in
              let shape = shape_is board free_slots memo r.shape (words_of r.shape s.words) home s.views p id v at live in
              let now = (p.tables.free_held id v.hand (hand_at board free_slots memo r.shape (words_of r.shape s.words) home s.views p id v at) (slot ∷ list) free).2 in
              subst (λ (z : Shape). slot < z.slots) shape (p.tables.free_is.free 0 slot (ap (λ (l : List ℕ). get_elem? l 0) (sym now))).0);
        },
      )
