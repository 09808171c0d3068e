-- The store of a word in the slot that was taken for it, with the clauses of a seat's step.
use Rattle.std.proofs.Common.{◌≡◌, ◌≢◌, ◌⊎◌, inl, inr, ℕ, zero, suc, ◌<◌, ◌==◌, ◌&&◌, cond, Bool, true, false, List, ◌∷◌, set, eqb-true, eq-eqb, Some, None, refl, ap, sym, ◌∙◌, subst, arith}
use Rattle.std.specs.Prelude as std
use Rattle.std.specs.Prelude.{if◌then◌else◌}
use mathlib.Core.Option.{Option, some}
use lib.ListN.{get_elem?}
use Rattle.atomic_table.specs.Table.{State, Me, keeps, Allows}
use Rattle.edge_bits.specs.declared.edges.Edge.{Edge}
use Rattle.edge_bits.specs.declared.edges.Kind.{Kind}
use Rattle.edge_bits.specs.declared.words.Word.{Word}
use Rattle.edge_bits.specs.Reading.{plain}
use Rattle.edge_bits.specs.Words.{unpack_of, pack_of}
use Rattle.function_laws.specs.Kinds.{Denoted, function_of}
use Rattle.function_laws.specs.SessionEntries.{Each}
use Rattle.node_store.specs.Contents.{Content, view_of, top_of, top_of_word}
use Rattle.node_store.specs.Changes.{put_at}
use Rattle.node_store.proofs.Rewriting.{put_at-same}
use Rattle.node_store.specs.Views.{Grown, Is, node_values, values_at}
use Rattle.node_store.specs.ViewLaws.{Denotes-node}
use Rattle.node_store.proofs.Parting.{same_kind}
use Rattle.step_store.specs.declared.hand.Taken.{Taken}
use Rattle.step_store.specs.Knowing.{Knowledge, HasWord}
use Rattle.words_rule.specs.declared.cell.Cell.{Cell}
use Rattle.words_rule.specs.declared.view.Held.{Held}
use Rattle.words_rule.specs.declared.view.SeenWord.{SeenWord}
use Rattle.words_rule.specs.declared.view.Share.TheVariants as shares
use Rattle.words_rule.specs.declared.view.Due.{Due}
use Rattle.words_rule.specs.declared.view.Job.{Job}
use Rattle.words_rule.specs.declared.view.Job.TheVariants.{OfNode, OfLeaf}
use Rattle.words_rule.specs.declared.view.View.{View}
use Rattle.words_rule.specs.Views.{orders_of}
use Rattle.words_rule.specs.Shapes.{shape_in}
use Rattle.words_rule.specs.Layout.{Shape, Words, words_of, node_at, content_of}
use Rattle.words_rule.specs.Dues.{slot_of, word_of, due_function, job_function, IsDue, IsWork}
use Rattle.words_rule.specs.Hands.{storing}
use Rattle.words_rule.specs.Kept.{whole_of}
use Rattle.words_rule.specs.Seen.{StandsSo}
use Rattle.words_rule.specs.OneSession.{storing_node}
use Rattle.words_rule.specs.Rule.{Parts, Rule}
use Rattle.words_rule.specs.Loads.{IsSeatOf, TakenReads, StoredNode}
use Rattle.words_rule.specs.Known.{with_made, Own, denoted_in, noted_bits, noted_function, word_in, met_in, noted_content, taken_of, known_of}
use Rattle.words_rule.proofs.Layouts.{set_node}
use Rattle.words_rule.proofs.Lists.{set_at, each_map}
use Rattle.words_rule.proofs.Jobs.{function_here}
use Rattle.words_rule.proofs.Stepping.{shape_is}
use Rattle.words_rule.proofs.Handed.{handed, hand_at, parts_store, stored_function, stored_orders}
use Rattle.words_rule.proofs.Storing.{noting_slot, edge_at, parts_notes, notes_orders, notes_function}
use Rattle.words_rule.proofs.Tabling.{after_word, set_set}
use Rattle.words_rule.proofs.Narrowing.{Narrow, is_up, node_values_same}
use Rattle.words_rule.proofs.Meeting.{no_hold, word_stands, content_true, narrow, decoded}
use Rattle.words_rule.proofs.OneSessions.{one_told, parts_told, told_node}
use Rattle.words_rule.proofs.Working.{parts_work}
use Rattle.words_rule.proofs.Standing.{stands_more}
use Rattle.words_rule.proofs.HandClauses.{some_back}
use Rattle.free_list.specs.FreeSlots.{FreeSlots}

never : (word : Word) → ◌≡◌ {A = std.Option Word} None (Some word) → ⊥
never word e = cc

some_word : (a b : Word) → Some a ≡ Some b → a ≡ b
some_word a b e = cc

some_denoted : (a b : Denoted) → Some a ≡ Some b → a ≡ b
some_denoted a b e = cc

module _ {S : Type 0} (board : S → List (std.Option Cell)) (free_slots : S → FreeSlots) (memo : S → List ℕ) where
  abbrev PartsOf : Shape → Words → (ℕ → Option (Option (std.Option S))) → List View → Type 0
  PartsOf = Parts board free_slots memo

  abbrev TheRule : State (std.Option S) View → Type 0
  TheRule = Rule board free_slots memo

  abbrev Sat : Type 0
  Sat = Me (std.Option S) View

  module _ (z : Shape) (ws : Words) (home : ℕ → Option (Option (std.Option S))) (vs : List View) (r : PartsOf z ws home vs) (id : ℕ) (v : View) (at : get_elem? vs id ≡ some v)
      (live : v.draws.live ≡ true) (share : v.shares.op ≡ shares.Held) (orders_noted : orders_of v.known ≡ r.orders) (o : Own)
      (job : Job) (bits : ℕ) (small : bits < 18446744073709551616) (is : v.hand.taken ≡ Some job) (none_loose : v.hand.loose ≡ None) (reads : unpack_of bits ≡ Some (word_of job)) where
    abbrev w : Content
    w = content_of z ws.node r.orders r.function r.half

    abbrev K : Knowledge
    K = known_of v o

    abbrev slot : ℕ
    slot = slot_of job

    abbrev jf : Denoted
    jf = job_function w job

    abbrev ws' : Words
    ws' = record ws { node = put_at ws.node slot bits }

    abbrev v1 : View
    v1 = handed v (storing job v.hand)

    abbrev note : SeenWord
    note = record { slot = slot; bits = bits }

    abbrev pub v2 : View
    v2 = noting_slot v1 note (edge_at slot (whole_of z jf))

    abbrev K' : Knowledge
    K' = known_of v2 (with_made o slot)

    work : IsWork w job
    work = (r.tables.taken id v.hand (hand_at board free_slots memo z ws home vs r id v at) job is).1

    unnoted : Each (λ (note : SeenWord). note.slot ≢ slot) v.known.words
    unnoted = each_map (StandsSo ws.node v) (λ (note : SeenWord). note.slot ≢ slot)
        (λ note st same. no_hold board free_slots memo z ws home vs r id v at live share orders_noted o (st.1 (ap unpack_of (sym st.0 ∙ ap ws.node same) ∙ work.free)))
        v.known.words ((r.seen id v at).words (inl share))

    abbrev p1 : PartsOf z ws' home (set vs id v1)
    p1 = parts_store board free_slots memo z ws home vs r id v at job bits small is none_loose unnoted reads

    at1 : get_elem? (set vs id v1) id ≡ some v1
    at1 = set_at vs id v v1 at

    function_at_slot : p1.function slot ≡ Some jf
    function_at_slot = ap (λ (g : ℕ → std.Option Denoted). g slot) (stored_function board free_slots memo z ws home vs r id v at job bits small is none_loose unnoted reads) ∙ function_here w job

    note_stands : StandsSo ws'.node v1 note
    note_stands = (put_at-same ws.node slot bits, λ free. absurd (never (word_of job) (sym free ∙ reads)))

    abbrev vs2 : List View
    vs2 = set (set vs id v1) id v2

    p2 : PartsOf z ws' home vs2
    p2 = parts_notes board free_slots memo z ws' home (set vs id v1) p1 id v1 at1 note (edge_at slot (whole_of z jf)) note_stands (jf, function_at_slot, refl)

    at2 : get_elem? vs2 id ≡ some v2
    at2 = set_at (set vs id v1) id v1 v2 at1

    orders2 : orders_of v2.known ≡ p2.orders
    unfolding p2
    orders2 = orders_noted ∙ sym (stored_orders board free_slots memo z ws home vs r id v at job bits small is none_loose unnoted reads)
        ∙ sym (notes_orders board free_slots memo z ws' home (set vs id v1) p1 id v1 at1 note (edge_at slot (whole_of z jf)) note_stands (jf, function_at_slot, refl))

    function2 : p2.function slot ≡ Some jf
    unfolding p2
    function2 = ap (λ (g : ℕ → std.Option Denoted). g slot) (notes_function board free_slots memo z ws' home (set vs id v1) p1 id v1 at1 note (edge_at slot (whole_of z jf)) note_stands (jf, function_at_slot, refl)) ∙ function_at_slot

    content_decoded : denoted_in v.draws.vars (whole_of z jf) ≡ jf
    content_decoded = ap (λ n. denoted_in n (whole_of z jf)) (ap (λ (y : Shape). y.variables) (sym (shape_is board free_slots memo z ws home vs r id v at live)))
        ∙ decoded board free_slots memo z ws' home vs2 p2 id v2 at2 live share orders2 (with_made o slot) slot jf function2

    here : (slot == slot) ≡ true
    here = eq-eqb slot slot refl

    pub content_here : K'.view.content slot ≡ Some jf
    content_here = ap (λ c. met_in v.draws.vars (cond c (Some bits) (noted_bits v.known.words slot)) (cond (c && true) (Some (whole_of z jf)) (noted_function v.known.seen slot))) here ∙ ap Some content_decoded

    -- what was met is another slot
    other : (t b : ℕ) → K.word t ≡ Some b → (slot == t) ≡ false
    other t b noted = by (slot == t) refl
      where
        by : (c : Bool) → (slot == t) ≡ c → (slot == t) ≡ false
        by false e = e
        by true e =
            let u = word_stands board free_slots memo z ws home vs r id v at live share orders_noted o t b noted in
            absurd (never u.1 (sym work.free ∙ ap (λ x. unpack_of (ws.node x)) (eqb-true slot t e) ∙ ap unpack_of u.0 ∙ u.2))

    words_kept : (t b : ℕ) → K.word t ≡ Some b → K'.word t ≡ Some b
    words_kept t b noted = ap (λ c. cond c (Some bits) (noted_bits v.known.words t)) (other t b noted) ∙ noted

    grown : Grown K.view K'.view
    grown = record {
      vars = refl;
      elements = refl;
      slots = refl;
      level = refl;
      content = λ t g its. (let c = content_true board free_slots memo z ws home vs r id v at live share orders_noted o t g its in
          ap (λ c. met_in v.draws.vars (cond c (Some bits) (noted_bits v.known.words t)) (cond (c && true) (Some (whole_of z jf)) (noted_function v.known.seen t))) (other t c.0 c.1) ∙ its);
      top = λ t g its. (let c = content_true board free_slots memo z ws home vs r id v at live share orders_noted o t g its in tops t c.0 c.1);
      made = λ t its. still t its (t == slot);
      fulls = omega arith;
      counts = refl;
      generations = refl;
      holds = refl;
      wants = λ its. its;
    }
      where
        tops : (t b : ℕ) → K.word t ≡ Some b → top_of (noted_content v2) t ≡ top_of (noted_content v) t
        tops zero b its = refl
        tops (suc zero) b its = refl
        tops (suc (suc zero)) b its = refl
        tops (suc (suc (suc t))) b its = ap (λ (x : std.Option ℕ). top_of_word (orders_of v.known) (word_in x)) (words_kept (suc (suc (suc t))) b its ∙ sym its)

        still : (t : ℕ) → o.made t ≡ true → (c : Bool) → cond c true (o.made t) ≡ true
        still t its true = refl
        still t its false = its

    has_word : HasWord K.view K'.view slot (word_of job)
    has_word = by job work content_here
      where
        n : Narrow K.view (view_of w)
        n = narrow board free_slots memo z ws home vs r id v at live share orders_noted o

        one_kind : (due : Due) → IsDue w due → (k : Kind) → Is k (view_of w) due.hi → due_function w due ≡ function_of k (node_values k (view_of w) due.var due.hi due.lo)
        one_kind due is_due k his =
            let same : due.kind ≡ k = same_kind due.kind k (values_at due.kind (view_of w) due.hi) (values_at k (view_of w) due.hi) (some_denoted _ _ (sym is_due.can.hi_is.is ∙ his.is)) in
            subst (λ (j : Kind). due_function w due ≡ function_of j (node_values j (view_of w) due.var due.hi due.lo)) same refl

        by : (job : Job) → IsWork w job → K'.view.content slot ≡ Some (job_function w job) → HasWord K.view K'.view slot (word_of job)
        by (OfNode due) wk content = λ k can.
            let plain_hi : due.hi ≡ plain due.hi.index = ap (λ c. record { index = due.hi.index; complement = c }) wk.fits.plain in
            let up : Is k (view_of w) (plain due.hi.index) = is_up n k (plain due.hi.index) can.hi_is in
            let function : due_function w due ≡ function_of k (node_values k K.view due.var (plain due.hi.index) due.lo) =
            one_kind due wk.fits k (subst (λ (e : Edge). Is k (view_of w) e) (sym plain_hi) up) ∙ ap (λ (e : Edge). function_of k (node_values k (view_of w) due.var e due.lo)) plain_hi
            ∙ ap (function_of k) (node_values_same n k due.var (plain due.hi.index) due.lo can.hi_is can.lo_is) in
            Denotes-node k can K'.view (plain slot) (content ∙ ap Some function) grown
        by (OfLeaf leaf) wk content = record { is = content; beyond = λ u h k b. refl; fits = λ k. wk.fits.value }

    pub stored_clauses : o.fulls < 18446744073709551616 → StoredNode K K' slot bits
    stored_clauses few = record {
      grows = record { grown = grown; room = refl; words = words_kept; heads = refl };
      hand = refl;
      noted = ap (λ c. cond c (Some bits) (noted_bits v.known.words slot)) here;
      stored = λ word its. subst (HasWord K.view K'.view slot) (some_word (word_of job) word (sym reads ∙ its)) has_word;
      made = λ t its. by t (t == slot) refl its;
      fulls = refl;
      due = refl;
      stands = λ st. stands_more board free_slots memo z ws' home vs2 p2 id v2 at2 live share orders2 (with_made o slot) K st grown refl few;
    }
      where
        by : (t : ℕ) (c : Bool) → (t == slot) ≡ c → cond (t == slot) true (o.made t) ≡ true → (o.made t ≡ true) ⊎ (slot ≡ t)
        by t true e its = inr (sym (eqb-true t slot e))
        by t false e its = inl (sym (ap (λ c. cond c true (o.made t)) e) ∙ its)

    pub stored_parts : PartsOf z ws' home (set vs id v2)
    stored_parts = subst (λ (l : List View). PartsOf z ws' home l) (set_set vs id v1 v2) p2

  -- store_node
  abbrev pub StoredSlot : Own → ℕ → ℕ → Sat → ℕ → Sat → Type 0
  StoredSlot o slot bits m n m' = (m'.1 ≡ m.1) × IsSeatOf m.0 m'.0 × (m'.0.work ≡ record m.0.work { made = slot ∷ m.0.work.made }) × (m'.0.stored ≡ storing_node slot bits m.0.stored) × StoredNode (known_of m.0 o) (known_of m'.0 (with_made o slot)) slot bits

  pub step_store_node : (slots id : ℕ) (me : Sat) (o : Own) (job : Job) (bits : ℕ) → me.0.draws.live ≡ true → me.0.shares.op ≡ shares.Held → me.0.hand.taken ≡ Some job → (known_of me.0 o).hand.loose ≡ None
      → bits < 18446744073709551616 → slot_of job < me.0.draws.slots → unpack_of bits ≡ Some (word_of job) → o.fulls < 18446744073709551616
      → Allows TheRule slots id me (node_at (shape_in me.0.draws) (slot_of job)) (λ _. bits) (StoredSlot o (slot_of job) bits me)
  step_store_node slots id me o job bits live share taken none_loose fits inside reads few s r long at small =
      let v = me.0 in
      let z = r.shape in
      let p = r.parts in
      let home = λ (k : ℕ). get_elem? s.homes k in
      let ws = words_of z s.words in
      let shape = shape_is board free_slots memo z ws home s.views p id v at live in
      let below : slot_of job < z.slots = subst (λ (y : Shape). slot_of job < y.slots) (sym shape) inside in
      let on : orders_of v.known ≡ p.orders = p.ordered.shared id v at share in
      let u : View = v2 z ws home s.views p id v at live share on o job bits fits taken none_loose reads in
      let made : View = record u { work = record v.work { made = slot_of job ∷ v.work.made } } in
      let w : View = record made { stored = storing_node (slot_of job) bits v.stored } in
      let ws1 : Words = record ws { node = put_at ws.node (slot_of job) bits } in
      let stored = stored_parts z ws home s.views p id v at live share on o job bits fits taken none_loose reads in (
        w,
        keeps,
        tt,
        subst (λ (i : ℕ). TheRule (record { words = set s.words i bits; homes = s.homes; views = set s.views id w })) (ap (λ (y : Shape). node_at y (slot_of job)) shape)
            (after_word board free_slots memo s r (node_at z (slot_of job)) bits (set s.views id w) s.homes ws1 refl (set_node z s.words bits (slot_of job) below r.wide)
            (parts_told board free_slots memo z ws1 home s.views id v made at
            (subst (λ (l : List View). PartsOf z ws1 home l) (set_set s.views id u made) (parts_work board free_slots memo z ws1 home (set s.views id u) stored id u (set_at s.views id v u at) made.work)) w.stored)
            (one_told board free_slots memo z ws home s.views p r.one id v w at live refl ws.order ws1.node ws.count (λ are. told_node z ws.order ws.node ws.count v.stored are (slot_of job) bits))),
        (refl, record { draws = refl; shares = refl; counts = refl; orders = refl }, refl, refl, stored_clauses z ws home s.views p id v at live share on o job bits fits taken none_loose reads few),
      )

  -- store_node, by what the hand has taken as the step asks for it
  pub step_store_taken : (slots id : ℕ) (me : Sat) (o : Own) (slot bits : ℕ) → me.0.draws.live ≡ true → me.0.shares.op ≡ shares.Held → (known_of me.0 o).hand.taken ≡ Some (record { slot = slot; bits = bits }) → (known_of me.0 o).hand.loose ≡ None
      → bits < 18446744073709551616 → slot < (known_of me.0 o).view.slots → TakenReads me.0 → o.fulls < 18446744073709551616
      → Allows TheRule slots id me (node_at (shape_in me.0.draws) slot) (λ _. bits) (StoredSlot o slot bits me)
  step_store_taken slots id me o slot bits live share taken none_loose fits inside reads few =
      let j = some_back taken_of me.0.hand.taken (record { slot = slot; bits = bits }) taken in
      let slot_is : slot_of j.0 ≡ slot = ap (λ (t : Taken). t.slot) j.2 in
      let bits_is : pack_of (word_of j.0) ≡ bits = ap (λ (t : Taken). t.bits) j.2 in
      subst (λ (q : ℕ). Allows TheRule slots id me (node_at (shape_in me.0.draws) q) (λ _. bits) (StoredSlot o q bits me)) slot_is
      (step_store_node slots id me o j.0 bits live share j.1 none_loose fits (subst (λ (q : ℕ). q < me.0.draws.slots) (sym slot_is) inside) (ap unpack_of (sym bits_is) ∙ reads j.0 j.1) few)
