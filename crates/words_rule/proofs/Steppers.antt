-- What each step leaves of a seat with an operation share.
use Rattle.std.proofs.Common.{◌≡◌, ◌++◌, ⊎_elim, inl, inr, ℕ, suc, ◌+◌, ◌<◌, ◌≤◌, ◌==◌, cond, Bool, true, false, true≢false, List, [], ◌∷◌, Some, None, option_map, refl, ap, sym, ◌∙◌, subst, arith, eqb-true, ◌^◌}
use Rattle.std.specs.Prelude as std
use Rattle.atomic_table.specs.Seated.{TableId}
use Rattle.atomic_table.specs.Table.{rest, turned}
use Rattle.edge_bits.specs.Words.{unpack_of, pack_of}
use Rattle.node_store.specs.Views.{Grown, IsBeyond, IsFunction, IsKey, node_values, values_at}
use Rattle.node_store.proofs.MemoLaws.{Carries-grown, MemoHolds-edge}
use Rattle.step_store.specs.declared.hand.Taken.{Taken}
use Rattle.step_store.specs.declared.job.Job as steps
use Rattle.step_store.specs.declared.job.Job.TheVariants as jobs
use Rattle.node_store.specs.Views as views
use Rattle.step_store.specs.Chains.{Lists, link_to}
use Rattle.step_store.specs.Knowing as knowing
use Rattle.step_store.specs.Knowing.{Knowledge, IsChain, Stands, Walk}
use Rattle.words_rule.specs.declared.seat.Guard.{Guard}
use Rattle.words_rule.specs.declared.seat.Pass.{Pass}
use Rattle.words_rule.specs.declared.view.Hand.{Hand}
use Rattle.words_rule.specs.declared.view.Job.{Job}
use Rattle.words_rule.specs.declared.view.Telling.{Telling}
use Rattle.words_rule.specs.declared.view.View.{View}
use Rattle.words_rule.specs.declared.view.Work.{Work}
use Rattle.words_rule.specs.Dues.{word_of}
use Rattle.words_rule.specs.Hands as hands
use Rattle.words_rule.specs.Hands.{IsIdle, linking, pushing, with_level, without_level}
use Rattle.words_rule.specs.Known.{Own, denoted_in, hand_of, is_among, known_of, own_of, taken_of, with_made, link_of, noted_bits, walk_of}
use Rattle.words_rule.specs.Loads.{IsSeatOf, LearntMemo, LoadedNode, StoredNode, TakenReads}
use Rattle.words_rule.specs.Passes.{me, view, in_hand, IsLiveOf, IsPassOf}
use Rattle.words_rule.specs.Plays.{HasLoaded, HasTaken, LeadsOn}
use Rattle.words_rule.specs.Remembered.{AreAnswers}
use Rattle.words_rule.specs.Steppers.{IsOperating, LiesWithin, is_there, knows, out_of, due_at, kind_at}
use Rattle.words_rule.specs.Walkers.{besides_of}
use Rattle.words_rule.proofs.HandClauses.{none_back, some_back}
use Rattle.words_rule.proofs.Memos.{stands_handed}
use Rattle.words_rule.proofs.Narrowing.{Narrow, is_up}
use Rattle.words_rule.proofs.Remembering.{entries_carried}
use Rattle.words_rule.proofs.NodeLoads.{walk_in}
use Rattle.words_rule.specs.declared.view.SeenWord.{SeenWord}
use mathlib.Core.Option.{some}
use lib.ListN.{get_elem?}
use Rattle.edge_bits.specs.declared.edges.Edge.{Edge}
use Rattle.edge_bits.specs.declared.edges.Kind.{Kind}
use Rattle.edge_bits.specs.declared.edges.Kind.TheVariants.{Bdd, Add, Zdd}
use Rattle.function_laws.specs.Kinds.{ValueOf, function_of}
use Rattle.function_laws.specs.Values.{constant}
use Rattle.node_store.specs.ViewLaws.{Apart-beyond}
use Rattle.node_store.specs.KindLaws.{Lacks-joined, flipped-some}
use Rattle.node_store.specs.Memo.{MemoHolds}
use Rattle.computed_cache.specs.declared.Key.{Key}
use Rattle.computed_cache.specs.Entries.{IsInRange, Kept, kept_at, places}
use Rattle.words_rule.specs.Kept.{whole_of}
use Rattle.words_rule.specs.Shapes.{shape_in}
use Rattle.words_rule.proofs.Decoding.{Beyond, decodes}
use Rattle.words_rule.proofs.FreeClauses.{due_of}
use Rattle.std.proofs.Math.Nat.{min-le_right}
use Rattle.std.proofs.lemmas.Bool.{cases_eq}
use Rattle.words_rule.specs.declared.seat.OpShare.{OpShare}
use Rattle.words_rule.specs.Tallies.{counts_after}
use Rattle.words_rule.specs.Views.{known_after, told_of}
use Rattle.free_list.specs.FreeSlots.{FreeSlots, slots_in}

some_bits : (a b : ℕ) → Some a ≡ Some b → a ≡ b
some_bits a b e = cc

no_bits : (b : ℕ) → ◌≡◌ {A = std.Option ℕ} None (Some b) → ⊥
no_bits b e = cc

-- a seat that drew a place
abbrev pub drawn : ℕ → Telling → View → View
drawn n x v = record v { draws = told_of v.draws n x; known = known_after v.known x; counts = counts_after x.change v.draws.cells v.draws.rows v.counts }

-- at one table, with the same rows and counts
pub besides_same : (i j : TableId) (v u : View) → j ≡ i → u.draws ≡ v.draws → u.shares ≡ v.shares → u.counts ≡ v.counts → besides_of j u ≡ besides_of i v
besides_same i j v u table draws shares counts = λ k. record {
  words = (table k).words;
  slots = (table k).slots;
  views_name = (table k).views_name;
  atom = (table k).atom;
  block = (table k).block;
  offset = (table k).offset;
  slot_names = (table k).slot_names;
  draws = draws k;
  shares = shares k;
  counts = counts k;
}

-- what is so of a seat with an operation share is so whatever it stored and was refused, and whatever room there is
pub stands_own : (v : View) (o p : Own) → p.fulls < 18446744073709551616 → Stands (known_of v o) → Stands (known_of v p)
stands_own v o p few s =
    let back : Narrow (known_of v p).view (known_of v o).view = record { vars = refl; elements = refl; level = refl; content = λ t f is. is; top = λ t f is. refl } in record {
      permanent = (let a = s.permanent in record { one = a.one; empty = a.empty; base = a.base; add_zero = a.add_zero; add_one = a.add_one; one_top = a.one_top; empty_top = a.empty_top; base_top = a.base_top; add_zero_top = a.add_zero_top; add_one_top = a.add_one_top });
      projections = λ u lt. (let a = s.projections u lt in record { denotes = record { is = a.denotes.is; beyond = a.denotes.beyond; fits = a.denotes.fits }; top = a.top });
      canonical = λ j e f is its same. s.canonical j e f (is_up back j e is) (is_up back j f its) same;
      within = s.within;
      few_variables = s.few_variables;
      few_elements = s.few_elements;
      few_slots = s.few_slots;
      some_heads = s.some_heads;
      few_heads = s.few_heads;
      few_fulls = few;
      never_wants = s.never_wants;
    }

-- answers hold whatever it stored and was refused
pub answers_own : (v : View) (o p : Own) (words : List ℕ) → AreAnswers (known_of v o).view words → AreAnswers (known_of v p).view words
answers_own v o p words hold = entries_carried (known_of v o).view (known_of v p).view words (record { vars = refl; elements = refl; level = refl; content = λ s f these is. is }) hold

-- a turn that is left is one that was there
pub less_turns : (l : ℕ) (xs : List ℕ) (m : ℕ) → Lists (without_level l xs) m → Lists xs m
less_turns l [] m there = there
less_turns l (x ∷ xs) m there = by (x == l) there (λ h. less_turns l xs m h)
  where
    by : (c : Bool) → Lists (cond c (without_level l xs) (x ∷ without_level l xs)) m → (Lists (without_level l xs) m → Lists xs m) → Lists (x ∷ xs) m
    by true h more = inr (more h)
    by false h more = ⊎_elim (λ e. inl e) (λ later. inr (more later)) h

-- a chain's first link is 0, or one more than a slot of the table
pub link_few : (slots : ℕ) (chain : List ℕ) → IsChain slots chain → link_to chain ≤ slots
link_few slots [] is = omega arith
link_few slots (s ∷ chain) is = let lt = (is.each s (inl refl)).1 in omega (arith, lt)

-- and so is a later one's
pub behind_few : (slots : ℕ) (front : List ℕ) (s : ℕ) (behind : List ℕ) → IsChain slots (front ++ s ∷ behind) → link_to behind ≤ slots
behind_few slots front s [] is = omega arith
behind_few slots front s (t ∷ behind) is = let lt = (is.each t (there front)).1 in omega (arith, lt)
  where
    there : (front : List ℕ) → Lists (front ++ s ∷ t ∷ behind) t
    there [] = inr (inl refl)
    there (x ∷ front) = inr (there front)

-- the parts of a list around one of its slots
pub parted : (l : List ℕ) (s : ℕ) → Lists l s → (front behind : List ℕ) × (l ≡ front ++ s ∷ behind)
parted [] s there = absurd there
parted (x ∷ xs) s there = ⊎_elim (λ e. ([], xs, ap (λ (y : ℕ). y ∷ xs) e)) (λ later. let p = parted xs s later in (x ∷ p.0, p.1, ap (λ (y : List ℕ). x ∷ y) p.2)) there

-- with the same work, and as many variables, what it knows of itself is the same
pub own_same : (v u : View) (room : ℕ) → u.work ≡ v.work → u.draws ≡ v.draws → own_of u room ≡ own_of v room
own_same v u room work draws = λ k. record { made = is_among (work k).made; fulls = (work k).fulls; due = option_map (denoted_in (draws k).vars) (work k).due; room = room }

-- what it has in hand is of the table still, as it learns
pub within_grown : (a b : Knowledge) → Grown a.view b.view → b.hand ≡ a.hand → LiesWithin a → LiesWithin b
within_grown a b grown hand w = record {
  turn = λ l there. (let lt = w.turn l (subst (λ (h : knowing.Hand). Lists h.levels l) hand there) in let v = grown.vars in let e = grown.elements in omega (arith, lt, v, e));
  taken = λ t its. (let lt = w.taken t (ap (λ (h : knowing.Hand). h.taken) (sym hand) ∙ its) in let s = grown.slots in omega (arith, lt, s));
  loose = λ s its. (let lt = w.loose s (ap (λ (h : knowing.Hand). h.loose) (sym hand) ∙ its) in let e = grown.slots in omega (arith, lt, e));
  walk = λ n its. subst (λ (x : ℕ). IsChain x n.rest) (sym grown.slots) (w.walk n (ap (λ (h : knowing.Hand). h.walk) (sym hand) ∙ its));
}

module _ {S : Type 0} (free_slots : S → FreeSlots) (memo : S → List ℕ) (g : Guard S) (p q : Pass S) (list table : std.Option S) (room : ℕ) (i : IsOperating free_slots memo g p list table room) where
  abbrev K : Knowledge
  K = knows (view p) room

  -- what it knows and has in hand changes, and what it stored and was refused, and what is known of that
  pub grown_on : (room' : ℕ) → IsPassOf g q → IsSeatOf (view p) (view q) → (o : Own) → own_of (view q) room' ≡ o → (list' table' : std.Option S) → LiesWithin (known_of (view q) o) → TakenReads (view q)
      → (view q).hand.free ≡ option_map (slots_in free_slots) list' → ((x : S) → list' ≡ Some x → (free_slots x).room ≡ (view p).draws.slots) → (view q).hand.memo ≡ is_there table' → Stands (known_of (view q) o)
      → ((x : S) → table' ≡ Some x → AreAnswers (known_of (view q) o).view (memo x)) → in_hand q ≡ out_of 1 list' ++ out_of 2 table' → IsOperating free_slots memo g q list' table' room'
  grown_on room' at seat o same list' table' within reads list_is roomy table_is stands answers out = record {
    own = (at, ap (λ d. d.live) seat.draws ∙ i.own.1);
    share = ap (λ x. x.op) seat.shares ∙ i.share;
    stands = subst (λ (x : Own). Stands (known_of (view q) x)) (sym same) stands;
    within = subst (λ (x : Own). LiesWithin (known_of (view q) x)) (sym same) within;
    reads = reads;
    list_is = list_is;
    roomy = λ x there. roomy x there ∙ ap (λ d. d.slots) (sym seat.draws);
    table_is = table_is;
    answers = λ x there. subst (λ (y : Own). AreAnswers (known_of (view q) y).view (memo x)) (sym same) (answers x there);
    out = out;
  }

  -- only what it has in hand changes, and to this
  pub hand_on : IsPassOf g q → (h : Hand) → view q ≡ record (view p) { hand = h } → (list' table' : std.Option S) → LiesWithin (knowing.handed K (hand_of h)) → TakenReads (record (view p) { hand = h }) → h.free ≡ option_map (slots_in free_slots) list' → ((x : S) → list' ≡ Some x → (free_slots x).room ≡ (view p).draws.slots) → h.memo ≡ is_there table'
      → ((x : S) → table' ≡ Some x → AreAnswers K.view (memo x)) → in_hand q ≡ out_of 1 list' ++ out_of 2 table' → IsOperating free_slots memo g q list' table' room
  hand_on at h is list' table' within reads list_is roomy table_is answers out =
      grown_on room at
      (record { draws = ap (λ (v : View). v.draws) is; shares = ap (λ (v : View). v.shares) is; counts = ap (λ (v : View). v.counts) is; orders = ap (λ (v : View). record { variables = v.known.variable_order; elements = v.known.element_order }) is })
      (own_of (view q) room) refl list' table'
      (subst (λ (v : View). LiesWithin (knows v room)) (sym is) within) (subst TakenReads (sym is) reads) (ap (λ (v : View). v.hand.free) is ∙ list_is) roomy (ap (λ (v : View). v.hand.memo) is ∙ table_is)
      (subst (λ (v : View). Stands (knows v room)) (sym is) (stands_handed K (hand_of h) i.stands)) (λ x there. subst (λ (v : View). AreAnswers (knows v room).view (memo x)) (sym is) (answers x there)) out

  -- nothing changes
  pub same_on : IsPassOf g q → me q ≡ me p → IsOperating free_slots memo g q list table room
  same_on at is = hand_on at (view p).hand (ap (λ m. m.0) is) list table i.within i.reads i.list_is i.roomy i.table_is i.answers (ap (λ m. m.1) is ∙ i.out)

  pub turn_taken_on : IsPassOf g q → in_hand q ≡ in_hand p → (l : ℕ) → l < knowing.turns K.view → (b : Bool) → (b ≡ true → view q ≡ record (view p) { hand = with_level l (view p).hand }) → (b ≡ false → view q ≡ view p)
      → IsOperating free_slots memo g q list table room
  turn_taken_on at out l lt true taken missed = hand_on at (with_level l (view p).hand) (taken refl) list table
      (record { turn = λ m there. ⊎_elim (λ e. subst (λ (x : ℕ). x < knowing.turns K.view) e lt) (λ later. i.within.turn m later) there; taken = i.within.taken; loose = i.within.loose; walk = i.within.walk })
      i.reads i.list_is i.roomy i.table_is i.answers (out ∙ i.out)
  turn_taken_on at out l lt false taken missed = hand_on at (view p).hand (missed refl) list table i.within i.reads i.list_is i.roomy i.table_is i.answers (out ∙ i.out)

  pub turn_given_on : IsPassOf g q → in_hand q ≡ in_hand p → (l : ℕ) → view q ≡ record (view p) { hand = record (view p).hand { levels = without_level l (view p).hand.levels; walk = None } } → IsOperating free_slots memo g q list table room
  turn_given_on at out l is = hand_on at (record (view p).hand { levels = without_level l (view p).hand.levels; walk = None }) is list table
      (record { turn = λ m there. i.within.turn m (less_turns l (view p).hand.levels m there); taken = i.within.taken; loose = i.within.loose; walk = λ n its. absurd (no_walk n its) })
      i.reads i.list_is i.roomy i.table_is i.answers (out ∙ i.out)
    where
      no_walk : (n : Walk) → None ≡ Some n → ⊥
      no_walk n e = cc

  pub head_loaded_on : IsPassOf g q → (head level n : ℕ) → HasLoaded head level (me p) n (me q) → IsOperating free_slots memo g q list table room
  head_loaded_on at head level n loaded =
      hand_on at _ (ap (λ m. m.0) loaded.1) list table
      (record { turn = i.within.turn; taken = i.within.taken; loose = i.within.loose; walk = λ m its. subst (λ (y : List ℕ). IsChain (view p).draws.slots y) (walked m its) loaded.3 })
      i.reads i.list_is i.roomy i.table_is i.answers (ap (λ m. m.1) loaded.1 ∙ i.out)
    where
      walked : (m : Walk) → Some (record { head = head; level = level; rest = loaded.0 }) ≡ Some m → loaded.0 ≡ m.rest
      walked m e = let same : ◌≡◌ {A = Walk} (record { head = head; level = level; rest = loaded.0 }) m = cc in ap (λ (x : Walk). x.rest) same

  pub node_loaded_on : IsPassOf g q → in_hand q ≡ in_hand p → IsSeatOf (view p) (view q) → (view q).hand ≡ (view p).hand → (view q).work ≡ (view p).work → (slot n : ℕ) → LoadedNode K (known_of (view q) (own_of (view p) room)) slot n
      → IsOperating free_slots memo g q list table room
  node_loaded_on at out seat hand work slot n loaded =
      let o = own_of (view p) room in
      let g = loaded.learns.kept.grown in
      grown_on room at seat o (own_same (view p) (view q) room work seat.draws) list table (within_grown K (known_of (view q) o) g loaded.hand i.within)
      (λ job its. i.reads job (ap (λ (h : Hand). h.taken) (sym hand) ∙ its)) (ap (λ (h : Hand). h.free) hand ∙ i.list_is) i.roomy (ap (λ (h : Hand). h.memo) hand ∙ i.table_is) (loaded.stands i.stands)
      (λ x there. entries_carried K.view (known_of (view q) o).view (memo x) (Carries-grown g) (i.answers x there)) (out ∙ i.out)

  pub list_taken_on : IsPassOf g q → list ≡ None → (x : S) → view q ≡ record (view p) { hand = record (view p).hand { free = Some (free_slots x).slots } } → in_hand q ≡ (1, None) ∷ in_hand p → (free_slots x).room ≡ (view p).draws.slots → IsOperating free_slots memo g q (Some x) table room
  list_taken_on at none x is out roomy = hand_on at _ is (Some x) table (record { turn = i.within.turn; taken = i.within.taken; loose = i.within.loose; walk = i.within.walk }) i.reads refl (λ y its. ap (λ (t : S). (free_slots t).room) (sym (some_list x y its)) ∙ roomy) i.table_is i.answers
      (out ∙ ap (λ (y : List (ℕ × std.Option S)). (1, None) ∷ y) (i.out ∙ ap (λ (y : std.Option S). out_of 1 y ++ out_of 2 table) none))
    where
      some_list : (a b : S) → Some a ≡ Some b → a ≡ b
      some_list a b e = cc

  -- the first slot of the list in hand
  pub slot_told : (x : S) → list ≡ Some x → (slot : ℕ) (left : List ℕ) → (free_slots x).slots ≡ slot ∷ left → (view p).hand.free ≡ Some (slot ∷ left)
  slot_told x there slot left is = i.list_is ∙ ap (option_map (slots_in free_slots)) there ∙ ap Some is

  -- the free list goes back without the slot that is taken
  pub slot_taken_on : IsPassOf g q → (x : S) → list ≡ Some x → (bits slot : ℕ) → HasTaken bits slot (me p) (me q) → IsOperating free_slots memo g q None table room
  slot_taken_on at x there bits slot took = hand_on at _ (ap (λ m. m.0) took.is) None table
      (record { turn = i.within.turn; taken = λ t its. subst (λ (y : Taken). y.slot < (view p).draws.slots) (some_taken (taken_of took.job) t its) (subst (λ (y : ℕ). y < (view p).draws.slots) (sym took.slot_is) took.within); loose = i.within.loose; walk = i.within.walk })
      (λ job its. let same = some_job took.job job its in subst (λ (y : Job). unpack_of (pack_of (word_of y)) ≡ Some (word_of y)) same (ap unpack_of took.packs ∙ took.reads))
      refl (λ y its. absurd (no_list y its)) i.table_is i.answers (ap (λ m. m.1) took.is ∙ ap rest (i.out ∙ ap (λ (y : std.Option S). out_of 1 y ++ out_of 2 table) there))
    where
      some_taken : (a b : Taken) → Some a ≡ Some b → a ≡ b
      some_taken a b e = cc

      some_job : (a b : Job) → Some a ≡ Some b → a ≡ b
      some_job a b e = cc

      no_list : (y : S) → None ≡ Some y → ⊥
      no_list y e = cc

  -- the free list goes back empty, and what was due is noted
  pub empty_given_on : IsPassOf g q → (x : S) → list ≡ Some x → (work : Work) → work.made ≡ (view p).work.made → work.fulls < 18446744073709551616 → view q ≡ record (view p) { hand = record (view p).hand { free = None }; work = work } → in_hand q ≡ rest (in_hand p)
      → IsOperating free_slots memo g q None table room
  empty_given_on at x there work made few is out =
      let v : View = record (view p) { hand = record (view p).hand { free = None }; work = work } in
      let o = own_of v room in
      grown_on room at
      (record { draws = ap (λ (v : View). v.draws) is; shares = ap (λ (v : View). v.shares) is; counts = ap (λ (v : View). v.counts) is; orders = ap (λ (v : View). record { variables = v.known.variable_order; elements = v.known.element_order }) is })
      o (ap (λ (v : View). own_of v room) is) None table
      (subst (λ (v : View). LiesWithin (known_of v o)) (sym is) (record { turn = i.within.turn; taken = i.within.taken; loose = i.within.loose; walk = i.within.walk }))
      (subst TakenReads (sym is) i.reads) (ap (λ (v : View). v.hand.free) is) (λ y its. absurd (no_list y its)) (ap (λ (v : View). v.hand.memo) is ∙ i.table_is)
      (subst (λ (v : View). Stands (known_of v o)) (sym is) (stands_own v (own_of (view p) room) o few (stands_handed K (hand_of v.hand) i.stands)))
      (λ x there. subst (λ (v : View). AreAnswers (known_of v o).view (memo x)) (sym is) (answers_own v (own_of (view p) room) o (memo x) (i.answers x there)))
      (out ∙ ap rest (i.out ∙ ap (λ (y : std.Option S). out_of 1 y ++ out_of 2 table) there))
    where
      no_list : (y : S) → None ≡ Some y → ⊥
      no_list y e = cc

  pub node_stored_on : IsPassOf g q → in_hand q ≡ in_hand p → IsSeatOf (view p) (view q) → (slot bits : ℕ) → (view q).work ≡ record (view p).work { made = slot ∷ (view p).work.made } → slot < (view p).draws.slots → StoredNode K (known_of (view q) (with_made (own_of (view p) room) slot)) slot bits
      → IsOperating free_slots memo g q list table room
  node_stored_on at out seat slot bits work inside stored =
      let o = with_made (own_of (view p) room) slot in
      let g = stored.grows.grown in
      grown_on room at seat o (own_same (record (view p) { work = record (view p).work { made = slot ∷ (view p).work.made } }) (view q) room work seat.draws) list table
      (within_grown (knowing.handed K (record K.hand { taken = None; loose = Some slot })) (known_of (view q) o) g stored.hand
      (record { turn = i.within.turn; taken = λ t its. absurd (no_taken t its); loose = λ s its. subst (λ (y : ℕ). y < (view p).draws.slots) (some_slot slot s its) inside; walk = i.within.walk }))
      (λ job its. absurd (no_job job (sym (none_back taken_of (view q).hand.taken (ap (λ h. h.taken) stored.hand)) ∙ its)))
      (ap (λ h. h.free) stored.hand ∙ i.list_is) i.roomy (ap (λ h. h.memo) stored.hand ∙ i.table_is) (stored.stands i.stands)
      (λ x there. entries_carried K.view (known_of (view q) o).view (memo x) (Carries-grown g) (i.answers x there)) (out ∙ i.out)
    where
      no_taken : (t : Taken) → None ≡ Some t → ⊥
      no_taken t e = cc

      no_job : (t : Job) → None ≡ Some t → ⊥
      no_job t e = cc

      some_slot : (a b : ℕ) → Some a ≡ Some b → a ≡ b
      some_slot a b e = cc

  pub link_stored_on : IsPassOf g q → in_hand q ≡ in_hand p → (slot link : ℕ) → view q ≡ record (view p) { hand = linking slot link (view p).hand } → IsOperating free_slots memo g q list table room
  link_stored_on at out slot link is = hand_on at _ is list table (record { turn = i.within.turn; taken = i.within.taken; loose = i.within.loose; walk = i.within.walk }) i.reads i.list_is i.roomy i.table_is i.answers (out ∙ i.out)

  pub head_pushed_on : IsPassOf g q → in_hand q ≡ in_hand p → view q ≡ record (view p) { hand = pushing (view p).hand } → IsOperating free_slots memo g q list table room
  head_pushed_on at out is = hand_on at _ is list table (record { turn = i.within.turn; taken = i.within.taken; loose = λ s its. absurd (no_slot s its); walk = λ n its. absurd (no_walk n its) }) i.reads i.list_is i.roomy i.table_is i.answers (out ∙ i.out)
    where
      no_slot : (s : ℕ) → None ≡ Some s → ⊥
      no_slot s e = cc

      no_walk : (n : Walk) → None ≡ Some n → ⊥
      no_walk n e = cc

  -- the computed table is taken, and the slot of the free list brought before its own
  pub memo_taken_on : IsPassOf g q → (x : S) → table ≡ None → LearntMemo (own_of (view p) room) (memo x) (view p) (view q) → in_hand q ≡ turned ((2, None) ∷ in_hand p) → IsOperating free_slots memo g q list (Some x) room
  memo_taken_on at x none learnt out =
      let o = own_of (view p) room in
      let g = learnt.learns.kept.grown in
      grown_on room at learnt.seat o (own_same (view p) (view q) room learnt.work learnt.seat.draws) list (Some x)
      (within_grown (knowing.handed K (hand_of (record (view p).hand { memo = true }))) (known_of (view q) o) g (ap hand_of learnt.hand) (record { turn = i.within.turn; taken = i.within.taken; loose = i.within.loose; walk = i.within.walk }))
      (λ job its. i.reads job (ap (λ (h : Hand). h.taken) (sym learnt.hand) ∙ its)) (ap (λ (h : Hand). h.free) learnt.hand ∙ i.list_is) i.roomy (ap (λ (h : Hand). h.memo) learnt.hand) (learnt.stands i.stands)
      (λ y there. subst (λ (z : S). AreAnswers (known_of (view q) o).view (memo z)) (some_same x y there) learnt.holds) (out ∙ ap (λ (y : List (ℕ × std.Option S)). y ++ (2, None) ∷ []) (i.out ∙ ap (λ (y : std.Option S). out_of 1 list ++ out_of 2 y) none ∙ nothing_behind list))
    where
      some_same : (a b : S) → Some a ≡ Some b → a ≡ b
      some_same a b e = cc

      nothing_behind : (o : std.Option S) → out_of 1 o ++ [] ≡ out_of 1 o
      nothing_behind None = refl
      nothing_behind (Some y) = refl

  -- before it is put back its slot is brought before the free list's
  pub memo_first : (x : S) → table ≡ Some x → turned (in_hand p) ≡ (2, None) ∷ out_of 1 list
  memo_first x there = ap turned (i.out ∙ ap (λ (y : std.Option S). out_of 1 list ++ out_of 2 y) there) ∙ by list
    where
      by : (o : std.Option S) → turned (out_of 1 o ++ (2, None) ∷ []) ≡ (2, None) ∷ out_of 1 o
      by None = refl
      by (Some y) = refl

  pub memo_given_on : IsPassOf g q → view q ≡ record (view p) { hand = record (view p).hand { memo = false } } → in_hand q ≡ out_of 1 list → IsOperating free_slots memo g q list None room
  memo_given_on at is out = hand_on at _ is list None (record { turn = i.within.turn; taken = i.within.taken; loose = i.within.loose; walk = i.within.walk }) i.reads i.list_is i.roomy refl (λ x there. absurd (no_one x there)) (out ∙ sym (nothing_behind list))
    where
      no_one : (x : S) → None ≡ Some x → ⊥
      no_one x e = cc

      nothing_behind : (o : std.Option S) → out_of 1 o ++ [] ≡ out_of 1 o
      nothing_behind None = refl
      nothing_behind (Some y) = refl

  -- what lies in hand, or the room beside it, is another
  pub content_on : (list' table' : std.Option S) (room' : ℕ) → option_map (slots_in free_slots) list' ≡ option_map (slots_in free_slots) list → ((x : S) → list' ≡ Some x → (free_slots x).room ≡ (view p).draws.slots) → is_there table' ≡ is_there table → out_of 1 list' ++ out_of 2 table' ≡ out_of 1 list ++ out_of 2 table
      → ((x : S) → table' ≡ Some x → AreAnswers K.view (memo x)) → IsOperating free_slots memo g p list' table' room'
  content_on list' table' room' lists roomy tables outs answers =
      let o = own_of (view p) room' in record {
        own = i.own;
        share = i.share;
        stands = stands_own (view p) (own_of (view p) room) o i.stands.few_fulls i.stands;
        within = record { turn = i.within.turn; taken = i.within.taken; loose = i.within.loose; walk = i.within.walk };
        reads = i.reads;
        list_is = i.list_is ∙ sym lists;
        roomy = roomy;
        table_is = i.table_is ∙ sym tables;
        answers = λ x there. answers_own (view p) (own_of (view p) room) o (memo x) (answers x there);
        out = i.out ∙ sym outs;
      }

  -- it drew the place of a call
  pub drawn_on : (n : ℕ) (x : Telling) → IsPassOf g q → in_hand q ≡ in_hand p → view q ≡ drawn n x (view p) → IsOperating free_slots memo g q list table room
  drawn_on n x at out is = record {
    own = (at, ap (λ (u : View). u.draws.live) is ∙ i.own.1);
    share = ap (λ (u : View). u.shares.op) is ∙ i.share;
    stands = subst (λ (u : View). Stands (knows u room)) (sym is) i.stands;
    within = subst (λ (u : View). LiesWithin (knows u room)) (sym is) i.within;
    reads = subst TakenReads (sym is) i.reads;
    list_is = ap (λ (u : View). u.hand.free) is ∙ i.list_is;
    roomy = λ y there. i.roomy y there ∙ ap (λ (u : View). u.draws.slots) (sym is);
    table_is = ap (λ (u : View). u.hand.memo) is ∙ i.table_is;
    answers = λ y there. subst (λ (u : View). AreAnswers (knows u room).view (memo y)) (sym is) (i.answers y there);
    out = out ∙ i.out;
  }

  pub same_view_on : IsPassOf g q → in_hand q ≡ in_hand p → view q ≡ view p → IsOperating free_slots memo g q list table room
  same_view_on at out is = hand_on at (view p).hand is list table i.within i.reads i.list_is i.roomy i.table_is i.answers (out ∙ i.out)

  -- the link behind a slot of the chain is 0, or one more than a slot of the table
  pub next_few : (slot n : ℕ) → (k : Walk) × (K.hand.walk ≡ Some k) × Lists k.rest slot → LeadsOn slot (me p) n → n ≤ (view p).draws.slots
  next_few slot n on leads =
      let m = walk_in (view p).hand.walk on.0 on.1 in
      let parts = parted on.0.rest slot on.2 in
      let is = leads m.0 parts.0 parts.1 m.1 (ap (λ (x : Walk). x.rest) m.2 ∙ parts.2) in
      let few = behind_few (view p).draws.slots parts.0 slot parts.1 (subst (IsChain (view p).draws.slots) parts.2 (i.within.walk on.0 on.1)) in omega (arith, is, few)

  pub memo_put_on : (x y : S) → table ≡ Some x → AreAnswers K.view (memo y) → IsOperating free_slots memo g p list (Some y) room
  memo_put_on x y there hold =
      content_on list (Some y) room refl i.roomy (ap is_there (sym there)) (ap (λ (z : std.Option S). out_of 1 list ++ out_of 2 z) (sym there)) (λ z is. subst (λ (a : S). AreAnswers K.view (memo a)) (some_same y z is) hold)
    where
      some_same : (a b : S) → Some a ≡ Some b → a ≡ b
      some_same a b e = cc

-- what is a seat's own, as its view has it
pub owns_back : (h : Hand) (s : ℕ) → knowing.Owns (hand_of h) s → hands.Owns h s
owns_back h s own = ⊎_elim
    (λ (t : (x : Taken) × ((hand_of h).taken ≡ Some x) × (x.slot ≡ s)). let b = some_back taken_of h.taken t.0 t.1 in inl (b.0, b.1, ap (λ (x : Taken). x.slot) b.2 ∙ t.2))
    (λ loose. inr loose) own

pub owned_within : (k : Knowledge) → LiesWithin k → (s : ℕ) → knowing.Owns k.hand s → s < k.view.slots
owned_within k w s own = ⊎_elim (λ (t : (x : Taken) × (k.hand.taken ≡ Some x) × (x.slot ≡ s)). subst (λ (y : ℕ). y < k.view.slots) t.2 (w.taken t.0 t.1)) (λ loose. w.loose s loose) own

pub link_back : (h : Hand) (s link : ℕ) → (hand_of h).link ≡ Some (record { slot = s; next = link }) → h.link ≡ Some (record { slot = s; link = link })
link_back h s link is =
    let b = some_back link_of h.link (record { slot = s; next = link }) is in
    b.1 ∙ ap Some (λ k. record { slot = (b.2 k).slot; link = (b.2 k).next })

-- a word that was noted stands among the notes
pub noted_there : (l : List SeenWord) (s b : ℕ) → noted_bits l s ≡ Some b → (k : ℕ) × (get_elem? l k ≡ some (record { slot = s; bits = b }))
noted_there [] s b e = absurd (no_bits b e)
noted_there (note ∷ l) s b e = by (note.slot == s) refl (λ k. noted_there l s b k)
  where
    by : (c : Bool) → (note.slot == s) ≡ c → (noted_bits l s ≡ Some b → (k : ℕ) × (get_elem? l k ≡ some (record { slot = s; bits = b }))) → (k : ℕ) × (get_elem? (note ∷ l) k ≡ some (record { slot = s; bits = b }))
    by true is later = let same : note.bits ≡ b = some_bits note.bits b (sym (ap (λ x. cond x (Some note.bits) (noted_bits l s)) is) ∙ e) in
        (0, ap some (λ i. record { slot = eqb-true note.slot s is i; bits = same i }))
    by false is later = let k = later (sym (ap (λ x. cond x (Some note.bits) (noted_bits l s)) is) ∙ e) in (suc k.0, k.1)

-- what the store of a node leaves, as the seat knows itself then
pub stored_same : (v u : View) (room slot bits : ℕ) → u.work ≡ record v.work { made = slot ∷ v.work.made } → u.draws ≡ v.draws → StoredNode (knows v room) (known_of u (with_made (own_of v room) slot)) slot bits → StoredNode (knows v room) (knows u room) slot bits
stored_same v u room slot bits work draws stored =
    subst (λ (o : Own). StoredNode (knows v room) (known_of u o) slot bits) (sym (own_same (record v { work = record v.work { made = slot ∷ v.work.made } }) u room work draws)) stored

-- the function that was due is had back from its whole list
kind_of_function : (k : Kind) (f : ℕ → ValueOf k) → kind_at (Some (function_of k f)) ≡ k
kind_of_function Bdd f = refl
kind_of_function Add f = refl
kind_of_function Zdd f = refl

pub due_same : (w : views.View) (job : steps.Job) (may : knowing.MayMake w job) → due_at w job ≡ due_of w job may
due_same w (jobs.Node v hi lo) may = ap (λ (k : Kind). function_of k (node_values k w v hi lo)) (ap kind_at may.1.hi_is.is ∙ kind_of_function may.0 (values_at may.0 w hi))
due_same w (jobs.Leaf x) may = refl

pub due_own : (v : View) (o p : Own) (job : steps.Job) → due_at (known_of v o).view job ≡ due_at (known_of v p).view job
due_own v o p (jobs.Node u hi lo) = refl
due_own v o p (jobs.Leaf x) = refl

pub due_decoded : (v : View) (o : Own) (job : steps.Job) (may : knowing.MayMake (known_of v o).view job) → denoted_in v.draws.vars (whole_of (shape_in v.draws) (due_of (known_of v o).view job may)) ≡ due_of (known_of v o).view job may
due_decoded v o (jobs.Leaf x) may = decodes (shape_in v.draws) Add (constant x) (λ u h k b. refl)
due_decoded v o (jobs.Node u hi lo) may =
    let w = (known_of v o).view in
    let can = may.1 in
    decodes (shape_in v.draws) may.0 (node_values may.0 w u hi lo) (λ x h. let beyond = there may.0 x h in Lacks-joined may.0 x u (values_at may.0 w hi) (values_at may.0 w lo) (Apart-beyond may.0 w x u beyond can.in_range) (can.hi_is.beyond x beyond) (can.lo_is.beyond x beyond))
  where
    there : (k : Kind) (x : ℕ) → Beyond (shape_in v.draws) k x → IsBeyond k (known_of v o).view x
    there Bdd x h = h
    there Add x h = h
    there Zdd x h = h

pub risen_few : (n : ℕ) → knowing.risen n < 18446744073709551616
risen_few n = let le = min-le_right (n + 1) 18446744073709551615 in omega (arith, le)

-- a key's edges, and an answer, are slots of the table
edge_small : (k : Knowledge) → Stands k → (e : Edge) → IsFunction k.view e → e.index < 8388608
edge_small k stands e is =
    let f = flipped-some e.complement (k.view.content e.index) (function_of is.0 (values_at is.0 k.view e)) is.1.is in
    let lt = stands.within e.index f.0 f.1 in let few = stands.few_slots in omega (arith, lt, few)

pub key_small : (k : Knowledge) → Stands k → (key : Key) → IsKey k.view key → IsInRange key
key_small k stands key is =
    let least = is.least in let most = is.most in
    let f = edge_small k stands key.f is.f in let g = edge_small k stands key.g is.g in let h = edge_small k stands key.h is.h in
    record { some = omega (arith, least); few = omega (arith, most); f = omega (arith, f); g = omega (arith, g); h = omega (arith, h) }

pub answer_small : (k : Knowledge) → Stands k → (key : Key) (e : Edge) → MemoHolds k.view key e → e.index < 2 ^ 23
answer_small k stands key e holds = let lt = edge_small k stands e (MemoHolds-edge k.view stands.permanent key e holds) in omega (arith, lt)

-- what stands under a key holds
pub answer_holds : (w : views.View) (words : List ℕ) (key : Key) (place : ℕ) (o : std.Option Edge) → AreAnswers w words → std.IfSome o (λ e. kept_at words place ≡ Some (record { key = key; edge = e })) → std.IfSome o (λ e. MemoHolds w key e)
answer_holds w words key place None all is = is
answer_holds w words key place (Some e) all is = all.1 place (record { key = key; edge = e }) is

-- an answer that is put stands beside those that stood there
pub answers_put : (w : views.View) (old new : List ℕ) (key : Key) (e : Edge) (place : ℕ) → AreAnswers w old → places new ≡ places old → kept_at new place ≡ Some (record { key = key; edge = e }) → ((j : ℕ) → (j ≡ place → ⊥) → kept_at new j ≡ kept_at old j)
    → MemoHolds w key e → AreAnswers w new
answers_put w old new key e place all room here others holds = (
  subst (λ (n : ℕ). 0 < n) (sym room) all.0,
  λ j kept is. elim (cases_eq j place) [
    | inl at ↦ (
        let put : Some (record { key = key; edge = e }) ≡ Some kept = sym here ∙ ap (kept_at new) (sym at) ∙ is in
        let one : record { key = key; edge = e } ≡ kept = cc in
        subst (λ (x : Kept). MemoHolds w x.key x.edge) one holds)
    | inr ne ↦ all.1 j kept (sym (others j ne) ∙ is)
  ],
)

pub not_some : {A : Type 0} (o : std.Option A) → std.is_some o ≡ false → o ≡ None
not_some None e = refl
not_some (Some x) e = absurd (true≢false e)

-- a seat that took an operation share, with nothing in hand
pub first_stepper : {S : Type 0} (free_slots : S → FreeSlots) (memo : S → List ℕ) (g : Guard S) (s : OpShare S) (room : ℕ) → IsLiveOf g s.pass × IsIdle (view s.pass).hand → ((o : Own) → o.fulls < 18446744073709551616 → Stands (known_of (view s.pass) o)) → (view s.pass).work.fulls < 18446744073709551616
    → ((view s.pass).hand.levels ≡ []) × ((view s.pass).hand.free ≡ None) × ((view s.pass).hand.link ≡ None) × ((view s.pass).hand.memo ≡ false) → in_hand s.pass ≡ [] → IsOperating free_slots memo g s.pass None None room
first_stepper free_slots memo g s room is stands few idle empty = record {
  own = is.0;
  share = s.held;
  stands = stands (own_of (view s.pass) room) few;
  within = record {
    turn = λ l there. absurd (subst (λ (x : List ℕ). Lists x l) idle.0 there);
    taken = λ t its. absurd (nothing (sym (ap (std.option_map taken_of) is.1.0) ∙ its));
    loose = λ t its. absurd (nothing (sym is.1.1 ∙ its));
    walk = λ n its. absurd (nothing (sym (ap (std.option_map walk_of) is.1.2) ∙ its));
  };
  reads = λ job its. absurd (nothing (sym is.1.0 ∙ its));
  list_is = idle.1;
  roomy = λ x there. absurd (nothing there);
  table_is = idle.3;
  answers = λ x there. absurd (nothing there);
  out = empty;
}
  where
    nothing : {A : Type 0} {x : A} → None ≡ Some x → ⊥
    nothing e = cc
