-- Loads of the holder of the order: a node word that it knows, and a head, which tells the whole of its chain.
use Rattle.std.proofs.Common.{◌≡◌, ⊎_elim, inl, inr, ℕ, ◌<◌, ◌≤◌, true, List, [], ◌∷◌, set, get_or, Some, None, refl, ap, sym, ◌∙◌, subst, arith}
use Rattle.std.specs.Prelude as std
use mathlib.Core.Logic.{dite}
use mathlib.Core.Option.{none, some, some-injective}
use native.Mathlib.Decide.{ℕ_discrete}
use lib.ListN.{get_elem?}
use lib.Seq.{set-get_or}
use Rattle.atomic_table.specs.Table.{State, Me, carried_after, step, keeps, Allows}
use Rattle.edge_bits.specs.declared.words.Word.{Word}
use Rattle.edge_bits.specs.Words.{unpack_of}
use Rattle.step_store.specs.Chains as steps
use Rattle.step_store.proofs.Chaining.{once_short}
use Rattle.words_rule.specs.declared.cell.Cell.{Cell}
use Rattle.words_rule.specs.declared.view.Hand.{Hand}
use Rattle.words_rule.specs.declared.view.Hold.TheVariants.{Holding}
use Rattle.words_rule.specs.declared.view.View.{View}
use Rattle.words_rule.specs.declared.view.Walk.{Walk}
use Rattle.words_rule.specs.Chains.{Lists}
use Rattle.words_rule.specs.Hands.{HasLevel}
use Rattle.words_rule.specs.HeldContents.{KnowsAll, held_bits, held_content}
use Rattle.words_rule.specs.HolderPlays.{HasLoadedWhole, held_loaded, whole_loaded}
use Rattle.words_rule.specs.Layout.{Shape, head_at, head_of, heads, node_at, words_of}
use Rattle.words_rule.specs.Rule.{Rule}
use Rattle.words_rule.specs.Shapes.{shape_in}
use Rattle.words_rule.proofs.HandClauses.{first, once_on}
use Rattle.words_rule.proofs.Handed.{handed, parts_walk}
use Rattle.words_rule.proofs.HolderKnows.{bits_are, word_same}
use Rattle.words_rule.proofs.Layouts.{here_head, here_node}
use Rattle.words_rule.proofs.Lists.{map_at}
use Rattle.words_rule.proofs.NodeLoads.{lists_back}
use Rattle.words_rule.proofs.Rewrites.{nobody_shares}
use Rattle.words_rule.proofs.Stepping.{shape_is}
use Rattle.words_rule.proofs.Tabling.{stays}
use Rattle.words_rule.proofs.Draws.{one_still}
use Rattle.words_rule.proofs.OneLoads.{finds_told}
use Rattle.free_list.specs.FreeSlots.{FreeSlots}

lists_on : (l : List ℕ) (s : ℕ) → Lists l s → steps.Lists l s
lists_on [] s h = h
lists_on (x ∷ xs) s h = ⊎_elim (λ e. inl e) (λ later. inr (lists_on xs s later)) h

module _ {S : Type 0} (board : S → List (std.Option Cell)) (free_slots : S → FreeSlots) (memo : S → List ℕ) where
  abbrev TheRule : State (std.Option S) View → Type 0
  TheRule = Rule board free_slots memo

  abbrev Sat : Type 0
  Sat = Me (std.Option S) View

  pub loads_held : (slots id word : ℕ) (me : Sat) (q : ℕ) → word ≡ node_at (shape_in me.0.draws) q → me.0.draws.live ≡ true → me.0.shares.order ≡ Holding → KnowsAll me.0 → q < me.0.draws.slots
      → Allows TheRule slots id me word (λ n. n) (held_loaded (step slots word 0 0 none) me)
  loads_held slots id word me q is live holding k inside = subst (λ (i : ℕ). Allows TheRule slots id me i (λ n. n) (held_loaded (step slots i 0 0 none) me)) (sym is)
      (λ s r long at small.
      let v = me.0 in
      let z = r.shape in
      let p = r.parts in
      let home = λ (k : ℕ). get_elem? s.homes k in
      let ws = words_of z s.words in
      let shape = shape_is board free_slots memo z ws home s.views p id v at live in
      let below : q < z.slots = subst (λ (y : Shape). q < y.slots) (sym shape) inside in
      let i : ℕ = node_at (shape_in v.draws) q in
      let n : ℕ = get_or s.words i 0 in
      let found : n ≡ held_bits v q = ap (λ (y : Shape). get_or s.words (node_at y q) 0) (sym shape) ∙ sym (here_node z s.words 0 q below) ∙ bits_are board free_slots memo z ws home s.views p id v at live holding k q below in
      (v, keeps, tt, stays board free_slots memo s i id me r at, (refl, (λ j same. found ∙ ap (held_bits v) (let e : q ≡ j = omega (arith, same) in e)), finds_told board free_slots memo s r id me.0 at live i)))

  -- who holds the order is the only one with a slot on no chain
  loose_alone : (s : State (std.Option S) View) (r : TheRule s) (id : ℕ) (v : View) → get_elem? s.views id ≡ some v → v.shares.order ≡ Holding → (t i : ℕ) → r.parts.tables.loose t ≡ some i → v.hand.loose ≡ Some t
  loose_alone s r id v at holding t i is =
      let p = r.parts in
      let home = λ (k : ℕ). get_elem? s.homes k in
      let ws = words_of r.shape s.words in
      let b = p.tables.loose_by t i is in
      let m = map_at (λ (u : View). u.hand) s.views i b.0 b.1 in
      let is_loose : m.0.hand.loose ≡ Some t = ap (λ (h : Hand). h.loose) m.2 ∙ b.2 in
      dite (ℕ_discrete i id)
      (λ same. ap (λ (y : View). y.hand.loose) (some-injective v m.0 (sym at ∙ (ap (λ j. get_elem? s.views j) (sym same) ∙ m.1))) ∙ is_loose)
      (λ apart. absurd (nobody_shares board free_slots memo r.shape ws home s.views p id v at holding i m.0 apart m.1 ((p.tied i m.0 m.1).taken (λ idle. never t (sym idle.1 ∙ is_loose)))))
    where
      never : (t : ℕ) → ◌≡◌ {A = std.Option ℕ} None (Some t) → ⊥
      never t e = cc

  loads_chain : (slots id : ℕ) (me : Sat) (head level : ℕ) → me.0.draws.live ≡ true → me.0.shares.order ≡ Holding → KnowsAll me.0 → HasLevel me.0.hand level → head < heads (shape_in me.0.draws)
      → Allows TheRule slots id me (head_at (shape_in me.0.draws) head) (λ n. n) (HasLoadedWhole head level me)
  loads_chain slots id me head level live holding k has inside s r long at small =
      let v = me.0 in
      let z = r.shape in
      let p = r.parts in
      let home = λ (k : ℕ). get_elem? s.homes k in
      let ws = words_of z s.words in
      let shape = shape_is board free_slots memo z ws home s.views p id v at live in
      let below : head < heads z = subst (λ (y : Shape). head < heads y) (sym shape) inside in
      let word : ℕ = head_at (shape_in v.draws) head in
      let n : ℕ = get_or s.words word 0 in
      let chain : List ℕ = p.chain head in
      let head_is : ws.head head ≡ n = here_head z s.words 0 head below ∙ ap (λ (y : Shape). get_or s.words (head_at y head) 0) shape in
      let walk : Walk = record { head = head; level = level; link = n; rest = chain; whole = true } in
      let w : View = handed v (record v.hand { walk = Some walk }) in
      let same_word : (q : ℕ) → (held_content v).word q ≡ unpack_of (ws.node q) = word_same board free_slots memo z ws home s.views p id v at live holding k in
      let used : (q : ℕ) → steps.Lists chain q → (3 ≤ q) × (y : Word) × (unpack_of (ws.node q) ≡ Some y) = λ q there. p.linked.used q (p.linked.chains.only head q below (lists_back chain q there)).0 in
      let each : (q : ℕ) → steps.Lists chain q → (3 ≤ q) × (q < v.draws.slots) = λ q there. let u = used q there in (u.0, subst (λ (y : Shape). q < y.slots) shape (p.sound.within q (u.1, u.2))) in (
        w,
        keeps,
        tt,
        subst (λ (l : List ℕ). TheRule (record { words = l; homes = s.homes; views = set s.views id w })) (sym (set-get_or s.words word 0)) (record {
          shape = z;
          wide = r.wide;
          long = r.long;
          parts = parts_walk board free_slots memo z ws home s.views p id v at walk (inr holding) live has below (sym head_is) refl (λ _. holding);
          one = one_still z ws.order ws.node ws.count s.views id v w at refl r.one;
        }),
        (
          chain,
          refl,
          sym head_is ∙ first board free_slots memo ws.next (ws.head head) chain (p.linked.chains.along head below),
          record {
            chained = record { each = each; few = once_short chain v.draws.slots (once_on board free_slots memo chain (p.linked.chains.once head below)) (λ q there. (each q there).1) };
            used = λ q there. let u = used q there in (u.1, same_word q ∙ u.2);
            all = λ q word high its head_same level_same.
                let its_word : unpack_of (ws.node q) ≡ Some word = sym (same_word q) ∙ its in
                let inside_q : q < z.slots = p.sound.within q (word, its_word) in
                let of_head : head_of z (ws.node q) ≡ head = (λ i. head_of (shape i) (bits_are board free_slots memo z ws home s.views p id v at live holding k q inside_q i)) ∙ sym head_same in
                ⊎_elim
                (λ is_on. inr (lists_on chain q (subst (λ (h : ℕ). Lists (p.chain h) q) of_head (p.linked.chains.listed q is_on).1)))
                (λ (l : (i : ℕ) × (p.tables.loose q ≡ some i)). inl (loose_alone s r id v at holding q l.0 l.1))
                (p.tables.complete q word high its_word);
          },
        ),
      )

  pub loads_whole : (slots id word : ℕ) (me : Sat) (head level : ℕ) → word ≡ head_at (shape_in me.0.draws) head → me.0.draws.live ≡ true → me.0.shares.order ≡ Holding → KnowsAll me.0 → HasLevel me.0.hand level → head < heads (shape_in me.0.draws)
      → Allows TheRule slots id me word (λ n. n) (whole_loaded level (step slots word 0 0 none) me)
  loads_whole slots id word me head level is live holding k has inside = subst (λ (w : ℕ). Allows TheRule slots id me w (λ n. n) (whole_loaded level (step slots w 0 0 none) me)) (sym is)
      (λ s r long at small.
      let x = loads_chain slots id me head level live holding k has inside s r long at small in
      let n : ℕ = get_or s.words (head_at (shape_in me.0.draws) head) 0 in (
        x.0,
        x.1,
        x.2,
        x.3,
        (
          ap (λ (y : Sat). y.0.draws) x.4.1,
          ap (λ (y : Sat). y.1) x.4.1,
          (λ h same. subst (λ (j : ℕ). HasLoadedWhole j level me n (x.0, carried_after me.1 x.1)) (let e : head ≡ h = omega (arith, same) in e) x.4),
        ),
      ))
