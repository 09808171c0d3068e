-- What each step leaves of a seat with both holds.
use Rattle.std.proofs.Common.{◌≡◌, ◌≢◌, ◌⊎◌, ◌++◌, ⊎_elim, inl, inr, ℕ, zero, suc, ◌+◌, ◌-◌, ◌^◌, ◌<◌, ◌≤◌, ◌==◌, cond, Bool, true, false, List, [], ◌∷◌, Some, None, length, option_map, refl, ap, sym, ◌∙◌, subst, arith, eqb-true}
use Rattle.std.specs.Prelude as std
use Rattle.std.specs.Prelude.{if◌then◌else◌}
use Rattle.std.specs.List.{range_with_len}
use Rattle.std.proofs.lemmas.Bool.{cases_eq, cases_lt}
use mathlib.Core.Logic.{dite}
use native.Mathlib.Decide.{ℕ_discrete}
use Rattle.computed_cache.specs.Entries.{kept_at, places}
use Rattle.edge_bits.specs.declared.words.Node.{Node}
use Rattle.edge_bits.specs.declared.words.Word.{Word}
use Rattle.edge_bits.specs.declared.words.Word.TheVariants.{Inner, Leaf}
use Rattle.edge_bits.specs.Permanent.{first_element}
use Rattle.edge_bits.specs.Words.{unpack_of}
use Rattle.edge_bits.specs.declared.edges.Kind.{Kind}
use Rattle.function_laws.specs.declared.orders.Order.{Order}
use Rattle.function_laws.specs.declared.orders.Order.TheVariants.{Variables, Elements}
use Rattle.function_laws.specs.Sizes.{Orders, in_order}
use Rattle.std.proofs.lemmas.List.Edits.{length-swap}
use Rattle.hold_store.specs.Held as held
use Rattle.hold_store.specs.Held.{Knowledge}
use Rattle.node_store.specs.Contents.{Content, IsUsed, view_of}
use Rattle.node_store.specs.Changes.{exchanged, put_at}
use Rattle.node_store.proofs.Rewriting.{put_at-same, put_at-other}
use Rattle.step_store.specs.Chains.{Lists, Once, link_to}
use Rattle.step_store.specs.Knowing as knowing
use Rattle.step_store.specs.Knowing.{IsChain}
use Rattle.step_store.proofs.Chaining.{once_short}
use Rattle.words_holder.specs.declared.holder.Due.{Due}
use Rattle.words_holder.specs.declared.holder.HolderRest.{HolderRest}
use Rattle.words_holder.specs.declared.holder.SeatRest.{SeatRest}
use Rattle.words_holder.specs.declared.holder.Lent.{Lent}
use Rattle.words_holder.specs.Holders.{HoldsTable, IsHolderAt, IsWholeWalk, dues_in, hand_of, home_of, knows, pending_of, rest_of}
use Rattle.words_rule.specs.declared.seat.Guard.{Guard}
use Rattle.words_rule.specs.declared.seat.Pass.{Pass}
use Rattle.words_rule.specs.declared.view.Draws.{Draws}
use Rattle.words_rule.specs.declared.view.Hand.{Hand}
use Rattle.words_rule.specs.declared.view.Link.{Link}
use Rattle.words_rule.specs.declared.view.Stored.{Stored}
use Rattle.words_rule.specs.declared.view.View.{View}
use Rattle.words_rule.specs.declared.view.Walk.{Walk}
use Rattle.free_list.specs.FreeSlots.{FreeSlots}
use Rattle.words_rule.specs.Exchanges.{position}
use Rattle.words_rule.specs.Hands.{freeing, level_of, linking, loosening, pushing, with_level, without_level}
use Rattle.words_rule.specs.HeldContents.{KnowsAll, held_bits, held_content, or_zero}
use Rattle.words_rule.specs.HolderPlays.{AreFreeSlots, CanUnlink, IsAtFront, IsBehind, HasAdded, HasExchanged, HasFound, HasFreed, HasLoadedWhole, HasPinned, HasRenewed, HasRewritten, IsHolderStill, IsWholeChain}
use Rattle.words_rule.specs.Known.{link_of, noted_bits, walk_of, word_in}
use Rattle.words_rule.specs.Layout.{heads, levels}
use Rattle.words_rule.specs.Passes.{me, view, in_hand, IsLiveOf, IsPassOf}
use Rattle.words_rule.specs.Plays.{LeadsOn}
use Rattle.words_rule.specs.Shapes.{shape_in}
use Rattle.words_rule.specs.Views.{orders_of}
use Rattle.words_rule.proofs.HandClauses.{none_back, some_back, stands_at}
use Rattle.words_rule.proofs.HolderHands.{knows_handed}
use Rattle.words_rule.proofs.Steppers.{behind_few, less_turns, parted}
use Rattle.words_rule.proofs.NodeLoads.{walk_in}

-- the levels are numbered as the holder's trait numbers them
pub level_same : (v : View) → KnowsAll v → (word : Word) → level_of (shape_in v.draws) word ≡ knowing.turn_of (view_of (held_content v)) word
level_same v k (Inner node) = ap (λ (n : ℕ). cond (std.nat_lt node.var first_element) node.var (n + (node.var - first_element))) (sym k.long.0)
level_same v k (Leaf x) = λ i. sym k.long.0 i + sym k.long.1 i

pub turns_same : (v : View) → KnowsAll v → knowing.turns (view_of (held_content v)) ≡ levels (shape_in v.draws)
turns_same v k = λ i. k.long.0 i + k.long.1 i + 1

-- a slot in use is one of the table
pub used_within : (v : View) → KnowsAll v → (s : ℕ) → IsUsed (held_content v) s → s < v.draws.slots
used_within v k s used = k.sound.within s used

-- a slot that is pinned is in use
pub pinned_within : (v : View) → KnowsAll v → (s : ℕ) → (held_content v).pinned s ≡ true → s < v.draws.slots
pinned_within v k s pinned = by ((held_content v).word s) refl
  where
    by : (o : std.Option Word) → (held_content v).word s ≡ o → s < v.draws.slots
    by (Some word) is = k.sound.within s (word, is)
    by None is = absurd (differ (sym pinned ∙ k.sound.unpinned s is))
      where
        differ : true ≡ false → ⊥
        differ e = cc

-- what a step that only changes these leaves of the rest
pub rest_same : (v u : View) → u.draws ≡ v.draws → u.counts.raised ≡ v.counts.raised → u.counts.owed ≡ v.counts.owed → u.counts.above ≡ v.counts.above → u.counts.generations ≡ v.counts.generations → u.known.told_variables ≡ v.known.told_variables → u.known.told_elements ≡ v.known.told_elements
    → rest_of u ≡ rest_of v
rest_same v u draws raised owed above generations variables elements = λ i. record { draws = draws i; raised = raised i; owed = owed i; above = above i; generations = generations i; told_variables = variables i; told_elements = elements i }

pub rest_still : (v u : View) → IsHolderStill v u → rest_of u ≡ rest_of v
rest_still v u s = rest_same v u s.draws (ap (λ c. c.raised) s.counts) (ap (λ c. c.owed) s.counts) (ap (λ c. c.above) s.counts) (ap (λ c. c.generations) s.counts) (ap (λ o. o.variables) s.told) (ap (λ o. o.elements) s.told)

-- free slots of another store with the same words
pub free_same : (w new : Content) (list : List ℕ) → new.limit ≡ w.limit → new.word ≡ w.word → AreFreeSlots w list → AreFreeSlots new list
free_same w new list limit word f = record {
  free = λ s there. (let at = f.free s there in (subst (λ (n : ℕ). s < n) (sym limit) at.0, ap (λ (g : ℕ → std.Option Word). g s) word ∙ at.1));
  once = f.once;
  all = λ s lt none. f.all s (subst (λ (n : ℕ). s < n) limit lt) (ap (λ (g : ℕ → std.Option Word). g s) (sym word) ∙ none);
}

no_word : (word : Word) → ◌≡◌ {A = std.Option Word} (Some word) None → ⊥
no_word word e = cc

-- the first of them got a word
pub free_added : (w new : Content) (slot : ℕ) (word : Word) (list : List ℕ) → new.limit ≡ w.limit → new.word ≡ put_at w.word slot (Some word) → AreFreeSlots w (slot ∷ list) → AreFreeSlots new list
free_added w new slot word list limit is f = record {
  free = λ s there. (let at = f.free s (inr there) in (subst (λ (n : ℕ). s < n) (sym limit) at.0, ap (λ (g : ℕ → std.Option Word). g s) is ∙ put_at-other w.word slot s (Some word) (λ e. f.once.0 (subst (Lists list) e there)) ∙ at.1));
  once = f.once.1;
  all = λ s lt none. dite (ℕ_discrete s slot)
      (λ e. absurd (no_word word (sym (put_at-same w.word slot (Some word)) ∙ ap (put_at w.word slot (Some word)) (sym e) ∙ ap (λ (g : ℕ → std.Option Word). g s) (sym is) ∙ none)))
      (λ ne. ⊎_elim (λ e. absurd (ne (sym e))) (λ there. there) (f.all s (subst (λ (n : ℕ). s < n) limit lt) (sym (put_at-other w.word slot s (Some word) ne) ∙ ap (λ (g : ℕ → std.Option Word). g s) (sym is) ∙ none)));
}

-- a slot in use got another word
pub free_rewritten : (w new : Content) (slot : ℕ) (was word : Word) (list : List ℕ) → w.word slot ≡ Some was → new.limit ≡ w.limit → new.word ≡ put_at w.word slot (Some word) → AreFreeSlots w list → AreFreeSlots new list
free_rewritten w new slot was word list used limit is f = record {
  free = λ s there. (let at = f.free s there in (subst (λ (n : ℕ). s < n) (sym limit) at.0, ap (λ (g : ℕ → std.Option Word). g s) is ∙ put_at-other w.word slot s (Some word) (λ e. no_word was (sym used ∙ ap w.word (sym e) ∙ at.1)) ∙ at.1));
  once = f.once;
  all = λ s lt none. dite (ℕ_discrete s slot)
      (λ e. absurd (no_word word (sym (put_at-same w.word slot (Some word)) ∙ ap (put_at w.word slot (Some word)) (sym e) ∙ ap (λ (g : ℕ → std.Option Word). g s) (sym is) ∙ none)))
      (λ ne. f.all s (subst (λ (n : ℕ). s < n) limit lt) (sym (put_at-other w.word slot s (Some word) ne) ∙ ap (λ (g : ℕ → std.Option Word). g s) (sym is) ∙ none));
}

-- a slot in use was freed
pub free_freed : (w new : Content) (slot : ℕ) (was : Word) (list : List ℕ) → w.word slot ≡ Some was → slot < w.limit → new.limit ≡ w.limit → new.word ≡ put_at w.word slot None → AreFreeSlots w list → AreFreeSlots new (slot ∷ list)
free_freed w new slot was list used inside limit is f = record {
  free = λ s there. ⊎_elim
      (λ e. subst (λ (x : ℕ). (x < new.limit) × (new.word x ≡ None)) e (subst (λ (n : ℕ). slot < n) (sym limit) inside, ap (λ (g : ℕ → std.Option Word). g slot) is ∙ put_at-same w.word slot None))
      (λ later. let at = f.free s later in (subst (λ (n : ℕ). s < n) (sym limit) at.0, ap (λ (g : ℕ → std.Option Word). g s) is ∙ put_at-other w.word slot s None (λ e. no_word was (sym used ∙ ap w.word (sym e) ∙ at.1)) ∙ at.1)) there;
  once = ((λ again. no_word was (sym used ∙ (f.free slot again).1)), f.once);
  all = λ s lt none. dite (ℕ_discrete s slot)
      (λ e. inl (sym e))
      (λ ne. inr (f.all s (subst (λ (n : ℕ). s < n) limit lt) (sym (put_at-other w.word slot s None ne) ∙ ap (λ (g : ℕ → std.Option Word). g s) (sym is) ∙ none)));
}

-- before that the list is shorter than there are slots
pub free_room : (w : Content) (slot : ℕ) (was : Word) (list : List ℕ) → w.word slot ≡ Some was → slot < w.limit → AreFreeSlots w list → length list < w.limit
free_room w slot was list used inside f = let short = once_short (slot ∷ list) w.limit ((λ again. no_word was (sym used ∙ (f.free slot again).1)), f.once) (λ s there. ⊎_elim (λ e. subst (λ (x : ℕ). x < w.limit) e inside) (λ later. (f.free s later).0) there) in omega (arith, short)

-- with these order words due
abbrev pub with_pending : View → List ℕ → Stored → View
with_pending v l x = record v { known = record v.known { pending = l }; stored = x }

pub knows_pending : (v : View) (l : List ℕ) (x : Stored) → KnowsAll v → KnowsAll (with_pending v l x)
knows_pending v l x k = record { sound = k.sound; long = k.long; noted = k.noted; beyond = k.beyond; aged = k.aged; zeros = k.zeros; own = k.own; once = k.once }

pub exchanged_long : (orders : Orders) (order : Order) (level : ℕ) → length (in_order (exchanged orders order level) order) ≡ length (in_order orders order)
exchanged_long orders Variables level = length-swap orders.variables level (level + 1)
exchanged_long orders Elements level = length-swap orders.elements level (level + 1)

-- a seat comes to hold this
pub held_on : (v u : View) (list : FreeSlots) (table : List ℕ) (due : std.Option Due) → HoldsTable v list table due → u.draws ≡ v.draws → u.shares ≡ v.shares → KnowsAll u → (h : Hand) → u.hand ≡ h → (list' : FreeSlots) (due' : std.Option Due)
    → h.taken ≡ None → h.memo ≡ true → h.free ≡ Some list'.slots → list'.room ≡ v.draws.slots → AreFreeSlots (held_content u) list'.slots
    → ((l : ℕ) → Lists h.levels l → l < levels (shape_in v.draws))
    → ((s : ℕ) → h.loose ≡ Some s → s < v.draws.slots)
    → ((n : Walk) → h.walk ≡ Some n → IsWholeWalk v.draws n)
    → u.known.pending ≡ dues_in (shape_in v.draws) due'
    → ((d : Due) → due' ≡ Some d → d.level < length (in_order (orders_of u.known) d.order))
    → HoldsTable u list' table due'
held_on v u list table due i draws shares know h hand list' due' taken memo_is list_is roomy free_is turn loose walk pending due_within = record {
  order = ap (λ x. x.order) shares ∙ i.order;
  full = ap (λ x. x.full) shares ∙ i.full;
  alone = (ap (λ x. x.op) shares ∙ i.alone.0, ap (λ x. x.walk) shares ∙ i.alone.1);
  knows_all = know;
  taken = ap (λ (x : Hand). x.taken) hand ∙ taken;
  memo_is = ap (λ (x : Hand). x.memo) hand ∙ memo_is;
  blank = i.blank;
  list_is = ap (λ (x : Hand). x.free) hand ∙ list_is;
  roomy = roomy ∙ ap (λ (d : Draws). d.slots) (sym draws);
  free_is = free_is;
  turn = λ l there. subst (λ (d : Draws). l < levels (shape_in d)) (sym draws) (turn l (subst (λ (x : Hand). Lists x.levels l) hand there));
  loose = λ s its. subst (λ (d : Draws). s < d.slots) (sym draws) (loose s (ap (λ (x : Hand). x.loose) (sym hand) ∙ its));
  walk = λ n its. subst (λ (d : Draws). IsWholeWalk d n) (sym draws) (walk n (ap (λ (x : Hand). x.walk) (sym hand) ∙ its));
  pending = pending ∙ ap (λ (d : Draws). dues_in (shape_in d) due') (sym draws);
  due_within = due_within;
}

-- only what it has in hand changes, and to this
pub handed_on : (v : View) (h : Hand) (list : FreeSlots) (table : List ℕ) (due : std.Option Due) → HoldsTable v list table due → (list' : FreeSlots) → h.taken ≡ None → h.memo ≡ true → h.free ≡ Some list'.slots → list'.room ≡ v.draws.slots → AreFreeSlots (held_content v) list'.slots
    → ((l : ℕ) → Lists h.levels l → l < levels (shape_in v.draws))
    → ((s : ℕ) → h.loose ≡ Some s → s < v.draws.slots)
    → ((n : Walk) → h.walk ≡ Some n → IsWholeWalk v.draws n)
    → HoldsTable (record v { hand = h }) list' table due
handed_on v h list table due i list' taken memo_is list_is roomy free_is turn loose walk = held_on v (record v { hand = h }) list table due i refl refl (knows_handed v h i.knows_all) h refl list' due taken memo_is list_is roomy free_is turn loose walk i.pending i.due_within

module _ {S : Type 0} (g : Guard S) (p q : Pass S) (list : FreeSlots) (table : List ℕ) (due : std.Option Due) (i : IsHolderAt g p list table due) where
  abbrev V : View
  V = view p

  -- the seat comes to hold this, at the same table
  pub rebuilt : IsPassOf g q → (u : View) → view q ≡ u → u.draws ≡ V.draws → (list' : FreeSlots) (due' : std.Option Due) → HoldsTable u list' table due' → in_hand q ≡ (1, None) ∷ (2, None) ∷ [] → IsHolderAt g q list' table due'
  rebuilt at u is draws list' due' has out = record {
    own = (at, ap (λ (v : View). v.draws.live) is ∙ ap (λ (d : Draws). d.live) draws ∙ i.own.1);
    has = subst (λ (v : View). HoldsTable v list' table due') (sym is) has;
    out = out;
  }

  -- at the same table
  pub home_on : IsPassOf g q → rest_of (view q) ≡ rest_of V → (q.seat.table_id.views_name ≡ p.seat.table_id.views_name) × (home_of q.seat.table_id (view q) ≡ home_of p.seat.table_id V)
  home_on at same = let here = at ∙ sym i.own.0 in (ap (λ t. t.views_name) here, (λ j. record { words = (here j).words; slots = (here j).slots; views_name = (here j).views_name; atom = (here j).atom; block = (here j).block; offset = (here j).offset; slot_names = (here j).slot_names; seat = same j }))

  -- nothing changes
  pub same_on : IsPassOf g q → me q ≡ me p → IsHolderAt g q list table due
  same_on at is = rebuilt at V (ap (λ m. m.0) is) refl list due i.has (ap (λ m. m.1) is ∙ i.out)

  pub same_view_on : IsPassOf g q → in_hand q ≡ in_hand p → view q ≡ V → IsHolderAt g q list table due
  same_view_on at out is = rebuilt at V is refl list due i.has (out ∙ i.out)

  pub turn_taken_on : IsPassOf g q → in_hand q ≡ in_hand p → (l : ℕ) → l < knowing.turns (view_of (held_content V)) → (b : Bool) → (b ≡ true → view q ≡ record V { hand = with_level l V.hand }) → (b ≡ false → view q ≡ V) → IsHolderAt g q list table due
  turn_taken_on at out l lt true taken missed = let h = i.has in rebuilt at _ (taken refl) refl list due
      (handed_on V (with_level l V.hand) list table due h list h.taken h.memo_is h.list_is h.roomy h.free_is (λ m there. ⊎_elim (λ e. subst (λ (x : ℕ). x < levels (shape_in V.draws)) e (subst (λ (n : ℕ). l < n) (turns_same V h.knows_all) lt)) (λ later. h.turn m later) there) h.loose h.walk) (out ∙ i.out)
  turn_taken_on at out l lt false taken missed = same_view_on at out (missed refl)

  pub turn_given_on : IsPassOf g q → in_hand q ≡ in_hand p → (l : ℕ) → view q ≡ record V { hand = record V.hand { levels = without_level l V.hand.levels; walk = None } } → IsHolderAt g q list table due
  turn_given_on at out l is = let h = i.has in rebuilt at _ is refl list due
      (handed_on V (record V.hand { levels = without_level l V.hand.levels; walk = None }) list table due h list h.taken h.memo_is h.list_is h.roomy h.free_is (λ m there. h.turn m (less_turns l V.hand.levels m there)) h.loose (λ n its. absurd (no_walk n its))) (out ∙ i.out)
    where
      no_walk : (n : Walk) → None ≡ Some n → ⊥
      no_walk n e = cc

  pub head_loaded_on : IsPassOf g q → (head level n : ℕ) → head < heads (shape_in V.draws) → HasLoadedWhole head level (me p) n (me q) → IsHolderAt g q list table due
  head_loaded_on at head level n inside loaded = let h = i.has in rebuilt at _ (ap (λ m. m.0) loaded.1) refl list due
      (handed_on V (record V.hand { walk = Some (record { head = head; level = level; link = n; rest = loaded.0; whole = true }) }) list table due h list h.taken h.memo_is h.list_is h.roomy h.free_is h.turn h.loose
      (λ m its. subst (IsWholeWalk V.draws) (walked m its) (refl, inside, loaded.3.chained))) (ap (λ m. m.1) loaded.1 ∙ i.out)
    where
      walked : (m : Walk) → Some (record { head = head; level = level; link = n; rest = loaded.0; whole = true }) ≡ Some m → record { head = head; level = level; link = n; rest = loaded.0; whole = true } ≡ m
      walked m e = cc

  pub loosened_on : IsPassOf g q → in_hand q ≡ in_hand p → (slot : ℕ) → slot < V.draws.slots → view q ≡ record V { hand = loosening slot V.hand } → IsHolderAt g q list table due
  loosened_on at out slot inside is = let h = i.has in rebuilt at _ is refl list due
      (handed_on V (loosening slot V.hand) list table due h list h.taken h.memo_is h.list_is h.roomy h.free_is h.turn (λ s its. subst (λ (x : ℕ). x < V.draws.slots) (some_slot slot s its) inside) (λ n its. absurd (no_walk n its))) (out ∙ i.out)
    where
      no_walk : (n : Walk) → None ≡ Some n → ⊥
      no_walk n e = cc

      some_slot : (a b : ℕ) → Some a ≡ Some b → a ≡ b
      some_slot a b e = cc

  pub link_stored_on : IsPassOf g q → in_hand q ≡ in_hand p → (slot link : ℕ) → view q ≡ record V { hand = linking slot link V.hand } → IsHolderAt g q list table due
  link_stored_on at out slot link is = let h = i.has in rebuilt at _ is refl list due
      (handed_on V (linking slot link V.hand) list table due h list h.taken h.memo_is h.list_is h.roomy h.free_is h.turn h.loose h.walk) (out ∙ i.out)

  pub head_pushed_on : IsPassOf g q → in_hand q ≡ in_hand p → view q ≡ record V { hand = pushing V.hand } → IsHolderAt g q list table due
  head_pushed_on at out is = let h = i.has in rebuilt at _ is refl list due
      (handed_on V (pushing V.hand) list table due h list h.taken h.memo_is h.list_is h.roomy h.free_is h.turn (λ s its. absurd (no_slot s its)) (λ n its. absurd (no_walk n its))) (out ∙ i.out)
    where
      no_slot : (s : ℕ) → None ≡ Some s → ⊥
      no_slot s e = cc

      no_walk : (n : Walk) → None ≡ Some n → ⊥
      no_walk n e = cc

  -- a step that changes no word and nothing in hand
  pub kept_on : IsPassOf g q → in_hand q ≡ in_hand p → (view q).draws ≡ V.draws → (view q).shares ≡ V.shares → (view q).hand ≡ V.hand → (view q).known.pending ≡ V.known.pending → orders_of (view q).known ≡ orders_of V.known → (held_content (view q)).word ≡ (held_content V).word → KnowsAll (view q)
      → IsHolderAt g q list table due
  kept_on at out draws shares hand pending orders word know = let h = i.has in rebuilt at (view q) refl draws list due
      (held_on V (view q) list table due h draws shares know V.hand hand list due h.taken h.memo_is h.list_is h.roomy
      (free_same (held_content V) (held_content (view q)) list.slots (ap (λ (d : Draws). d.slots) draws) word h.free_is) h.turn h.loose h.walk (pending ∙ h.pending)
      (λ d its. subst (λ (o : Orders). d.level < length (in_order o d.order)) (sym orders) (h.due_within d its))) (out ∙ i.out)

  pub found_on : IsPassOf g q → in_hand q ≡ in_hand p → (slot n : ℕ) → HasFound slot n V (view q) → IsHolderAt g q list table due
  found_on at out slot n f = kept_on at out (ap (λ (v : View). v.draws) f.is) (ap (λ (v : View). v.shares) f.is) (ap (λ (v : View). v.hand) f.is) (ap (λ (v : View). v.known.pending) f.is) (ap (λ (v : View). orders_of v.known) f.is) (ap (λ (v : View). λ s. word_in (noted_bits v.known.words s)) f.is) f.knows

  pub renewed_on : IsPassOf g q → in_hand q ≡ in_hand p → (slot n : ℕ) → HasRenewed slot n V (view q) → IsHolderAt g q list table due
  renewed_on at out slot n f = kept_on at out (ap (λ (v : View). v.draws) f.is) (ap (λ (v : View). v.shares) f.is) (ap (λ (v : View). v.hand) f.is) (ap (λ (v : View). v.known.pending) f.is) (ap (λ (v : View). orders_of v.known) f.is) (ap (λ (v : View). λ s. word_in (noted_bits v.known.words s)) f.is) f.knows

  pub pinned_on : IsPassOf g q → in_hand q ≡ in_hand p → (slot : ℕ) (pinned : Bool) (pins : List ℕ) (word : ℕ) → HasPinned slot pinned pins word V (view q) → IsHolderAt g q list table due
  pinned_on at out slot pinned pins word f = kept_on at out (ap (λ (v : View). v.draws) f.is) (ap (λ (v : View). v.shares) f.is) (ap (λ (v : View). v.hand) f.is) (ap (λ (v : View). v.known.pending) f.is) (ap (λ (v : View). orders_of v.known) f.is) (ap (λ (v : View). λ s. word_in (noted_bits v.known.words s)) f.is) f.knows

  pub rewritten_on : IsPassOf g q → in_hand q ≡ in_hand p → (node : Node) (slot bits : ℕ) → (was : Word) → (held_content V).word slot ≡ Some was → HasRewritten node slot bits V (view q) → IsHolderAt g q list table due
  rewritten_on at out node slot bits was used r = let h = i.has in rebuilt at (view q) refl r.still.draws list due
      (held_on V (view q) list table due h r.still.draws r.still.shares r.knows V.hand r.hand list due h.taken h.memo_is h.list_is h.roomy
      (free_rewritten (held_content V) (held_content (view q)) slot was _ list.slots used (ap (λ (w : Content). w.limit) r.content) (ap (λ (w : Content). w.word) r.content) h.free_is) h.turn h.loose h.walk (r.still.pending ∙ h.pending)
      (λ d its. subst (λ (o : Orders). d.level < length (in_order o d.order)) (sym (ap (λ (w : Content). w.orders) r.content)) (h.due_within d its))) (out ∙ i.out)

  -- the free list as the caller sees it, where it was given out
  pub lent_told : (b : Bool) (l : List ℕ) → (if b then V.hand.free else None) ≡ Some l → (b ≡ true) × (V.hand.free ≡ Some l) × (list.slots ≡ l)
  lent_told true l is = (refl, is, same list.slots l (sym i.has.list_is ∙ is))
    where
      same : (x y : List ℕ) → Some x ≡ Some y → x ≡ y
      same x y e = cc
  lent_told false l is = absurd (differ is)
    where
      differ : ◌≡◌ {A = std.Option (List ℕ)} None (Some l) → ⊥
      differ e = cc

  pub added_on : IsPassOf g q → in_hand q ≡ in_hand p → (left : FreeSlots) → (k : Kind) (node : Node) (slot bits : ℕ) → slot < V.draws.slots → list.slots ≡ slot ∷ left.slots → left.room ≡ list.room → HasAdded k node left.slots slot bits V (view q)
      → IsHolderAt g q left table due
  added_on at out left k node slot bits inside first room r = let h = i.has in rebuilt at (view q) refl r.still.draws left due
      (held_on V (view q) list table due h r.still.draws r.still.shares r.knows (record V.hand { free = Some left.slots; loose = Some slot; link = None }) r.hand left due h.taken h.memo_is refl
      (room ∙ h.roomy)
      (free_added (held_content V) (held_content (view q)) slot _ left.slots (ap (λ (w : Content). w.limit) r.content) (ap (λ (w : Content). w.word) r.content) (subst (AreFreeSlots (held_content V)) first h.free_is))
      h.turn (λ s its. subst (λ (n : ℕ). n < V.draws.slots) (some_slot slot s its) inside) h.walk (r.still.pending ∙ h.pending)
      (λ d its. subst (λ (o : Orders). d.level < length (in_order o d.order)) (sym (ap (λ (w : Content). w.orders) r.content)) (h.due_within d its)))
      (out ∙ i.out)
    where
      some_slot : (a b : ℕ) → Some a ≡ Some b → a ≡ b
      some_slot a b e = cc

  pub freed_on : IsPassOf g q → in_hand q ≡ in_hand p → (more : FreeSlots) → (slot : ℕ) (was : Word) → (held_content V).word slot ≡ Some was → slot < V.draws.slots → more.slots ≡ slot ∷ list.slots → more.room ≡ list.room → HasFreed list.slots slot V (view q)
      → IsHolderAt g q more table due
  freed_on at out more slot was used inside first room r = let h = i.has in rebuilt at (view q) refl r.still.draws more due
      (held_on V (view q) list table due h r.still.draws r.still.shares r.knows (freeing slot list.slots V.hand) r.hand more due h.taken h.memo_is (ap Some (sym first))
      (room ∙ h.roomy)
      (subst (AreFreeSlots (held_content (view q))) (sym first) (free_freed (held_content V) (held_content (view q)) slot was list.slots used inside (ap (λ (w : Content). w.limit) r.content) (ap (λ (w : Content). w.word) r.content) h.free_is))
      h.turn (λ s its. absurd (no_slot s its)) h.walk (r.still.pending ∙ h.pending)
      (λ d its. subst (λ (o : Orders). d.level < length (in_order o d.order)) (sym (ap (λ (w : Content). w.orders) r.content)) (h.due_within d its)))
      (out ∙ i.out)
    where
      no_slot : (s : ℕ) → None ≡ Some s → ⊥
      no_slot s e = cc

  -- the orders are exchanged, and this word is due
  pub exchanged_on : IsPassOf g q → in_hand q ≡ in_hand p → (order : Order) (level : ℕ) (u : View) → HasExchanged order level V u → level + 1 < length (in_order (orders_of V.known) order) → (pending : List ℕ) (x : Stored) → pending ≡ position (shape_in V.draws) order (level + 1) ∷ []
      → view q ≡ with_pending u pending x → IsHolderAt g q list table (Some (record { order = order; level = level + 1 }))
  exchanged_on at out order level u r lt pending x left is = let h = i.has in rebuilt at _ is r.draws list (Some (record { order = order; level = level + 1 }))
      (held_on V (with_pending u pending x) list table due h r.draws r.shares (knows_pending u pending x r.knows) V.hand r.hand list (Some (record { order = order; level = level + 1 })) h.taken h.memo_is h.list_is h.roomy
      (free_same (held_content V) (held_content u) list.slots (ap (λ (w : Content). w.limit) r.content) (ap (λ (w : Content). w.word) r.content) h.free_is) h.turn h.loose h.walk left
      (λ d its. subst (λ (e : Due). e.level < length (in_order (orders_of u.known) e.order)) (some_due _ d its)
      (subst (λ (n : ℕ). level + 1 < n) (sym (ap (λ (w : Content). length (in_order w.orders order)) r.content ∙ exchanged_long (orders_of V.known) order level)) lt))) (out ∙ i.out)
    where
      some_due : (a b : Due) → Some a ≡ Some b → a ≡ b
      some_due a b e = cc

  pub due_stored_on : IsPassOf g q → in_hand q ≡ in_hand p → (pending : List ℕ) (x : Stored) → pending ≡ [] → view q ≡ with_pending V pending x → IsHolderAt g q list table None
  due_stored_on at out pending x none is = let h = i.has in rebuilt at _ is refl list None
      (held_on V (with_pending V pending x) list table due h refl refl (knows_pending V pending x h.knows_all) V.hand refl list None h.taken h.memo_is h.list_is h.roomy h.free_is h.turn h.loose h.walk none (λ d its. absurd (no_due d its))) (out ∙ i.out)
    where
      no_due : (d : Due) → None ≡ Some d → ⊥
      no_due d e = cc

  -- a link along the chain that it knows
  pub next_few : (slot n : ℕ) → (k : knowing.Walk) × (option_map walk_of V.hand.walk ≡ Some k) × Lists k.rest slot → LeadsOn slot (me p) n → n ≤ V.draws.slots
  next_few slot n on leads =
      let m = walk_in V.hand.walk on.0 on.1 in
      let parts = parted m.0.rest slot (subst (λ (r : List ℕ). Lists r slot) (sym (ap (λ (x : knowing.Walk). x.rest) m.2)) on.2) in
      subst (λ (x : ℕ). x ≤ V.draws.slots) (sym (leads m.0 parts.0 parts.1 m.1 parts.2)) (behind_few V.draws.slots parts.0 slot parts.1 (subst (IsChain V.draws.slots) parts.2 (i.has.walk m.0 m.1).2))

  -- each slot of it is one of the table
  pub walk_within : (k : knowing.Walk) → option_map walk_of V.hand.walk ≡ Some k → (s : ℕ) → Lists k.rest s → s < V.draws.slots
  walk_within k is s there = let m = walk_in V.hand.walk k is in ((i.has.walk m.0 m.1).2.each s (subst (λ (r : List ℕ). Lists r s) (sym (ap (λ (x : knowing.Walk). x.rest) m.2)) there)).1

  -- a slot may be taken off it
  pub can_unlink : (slot : ℕ) → V.hand.loose ≡ None → (word : Word) → (held_content V).word slot ≡ Some word → Lists V.hand.levels (knowing.turn_of (view_of (held_content V)) word) → CanUnlink V slot
  can_unlink slot calm word has turn = record { loose = calm; word = word; has = has; turn = stands_at V.hand.levels _ (subst (Lists V.hand.levels) (sym (level_same V i.has.knows_all word)) turn) }

  -- the computed table lost its answers
  pub cleared_on : (blank : List ℕ) → ((j : ℕ) → kept_at blank j ≡ None) → places blank ≡ places table → IsHolderAt g p list blank due
  cleared_on blank none same = let h = i.has in record {
    own = i.own;
    has = record {
      order = h.order;
      full = h.full;
      alone = h.alone;
      knows_all = h.knows_all;
      taken = h.taken;
      memo_is = h.memo_is;
      blank = (subst (λ (n : ℕ). 0 < n) (sym same) h.blank.0, none);
      list_is = h.list_is;
      roomy = h.roomy;
      free_is = h.free_is;
      turn = h.turn;
      loose = h.loose;
      walk = h.walk;
      pending = h.pending;
      due_within = h.due_within;
    };
    out = i.out;
  }

  -- the slot is the first of the whole chain that it knows, or stands behind another there
  pub front_told : (lent : Lent) (head slot link : ℕ) → held.IsFront (knows V None due lent) head slot → ((n : knowing.Walk) (behind : List ℕ) → option_map walk_of V.hand.walk ≡ Some n → n.rest ≡ slot ∷ behind → link ≡ link_to behind) → (head < heads (shape_in V.draws)) × IsAtFront V head slot link
  front_told lent head slot link f links =
      let m = walk_in V.hand.walk f.0 f.2 in
      let w = i.has.walk m.0 m.1 in
      let is : m.0.head ≡ head = ap (λ (x : knowing.Walk). x.head) m.2 ∙ f.3 in
      (subst (λ (x : ℕ). x < heads (shape_in V.draws)) is w.1, (m.0, f.1, m.1, w.0, is, ap (λ (x : knowing.Walk). x.rest) m.2 ∙ f.4, links f.0 f.1 f.2 f.4))

  pub behind_told : (lent : Lent) (before slot link : ℕ) → held.StandsBefore (knows V None due lent) before slot → ((n : knowing.Walk) (front behind : List ℕ) → option_map walk_of V.hand.walk ≡ Some n → n.rest ≡ front ++ slot ∷ behind → link ≡ link_to behind) → (before < V.draws.slots) × IsBehind V before slot link
  behind_told lent before slot link f links =
      let m = walk_in V.hand.walk f.0 f.3 in
      let w = i.has.walk m.0 m.1 in
      let rest : m.0.rest ≡ f.1 ++ before ∷ slot ∷ f.2 = ap (λ (x : knowing.Walk). x.rest) m.2 ∙ f.4 in
      ((w.2.each before (subst (λ (l : List ℕ). Lists l before) (sym rest) (listed f.1))).1, (m.0, f.1, f.2, m.1, w.0, rest, links f.0 (f.1 ++ before ∷ []) f.2 f.3 (f.4 ∙ more f.1)))
    where
      listed : (front : List ℕ) → Lists (front ++ before ∷ slot ∷ f.2) before
      listed [] = inl refl
      listed (x ∷ front) = inr (listed front)

      more : (front : List ℕ) → front ++ before ∷ slot ∷ f.2 ≡ (front ++ before ∷ []) ++ slot ∷ f.2
      more [] = refl
      more (x ∷ front) = ap (λ (l : List ℕ). x ∷ l) (more front)

  pub first_within : (slot : ℕ) (left : List ℕ) → list.slots ≡ slot ∷ left → slot < V.draws.slots
  first_within slot left is = (i.has.free_is.free slot (subst (λ (l : List ℕ). Lists l slot) (sym is) (inl refl))).0

  -- all from this one on are on the list
  pub beyond_told : (n : ℕ) → (freed : List ℕ) × (list.slots ≡ freed ++ range_with_len n (list.room - n)) → (s : ℕ) → n ≤ s → (held_content V).word s ≡ None
  beyond_told n all s le = elim (cases_lt s V.draws.slots) [
    | inl lt ↦ (i.has.free_is.free s (subst (λ (l : List ℕ). Lists l s) (sym all.1) (behind all.0 (range_with_len n (list.room - n)) (in_range n (list.room - n) s le (let r = i.has.roomy in omega (arith, r, lt, le)))))).1
    | inr ge ↦ ap word_in (i.has.knows_all.beyond s ge)
  ]
    where
      in_range : (from n s : ℕ) → from ≤ s → s < from + n → Lists (range_with_len from n) s
      in_range from zero s le lt = absurd (omega (arith, le, lt))
      in_range from (suc n) s le lt = dite (ℕ_discrete from s) (λ e. inl e) (λ ne. inr (in_range (from + 1) n s (omega (arith, le, ne)) (omega (arith, lt))))

      behind : (front l : List ℕ) → Lists l s → Lists (front ++ l) s
      behind [] l on = on
      behind (x ∷ front) l on = inr (behind front l on)

  pub push_room : (slot : ℕ) (was : Word) → (held_content V).word slot ≡ Some was → slot < V.draws.slots → length list.slots < list.room
  push_room slot was used inside = subst (λ (m : ℕ). length list.slots < m) (sym i.has.roomy) (free_room (held_content V) slot was list.slots used inside i.has.free_is)

-- the first slot was taken off a list
pub taken_off : (o : std.Option ℕ) (old new : List ℕ) (slot : ℕ) (left : List ℕ) → std.IfSome o (λ s. old ≡ s ∷ new) → std.IfNone o ((old ≡ []) × (new ≡ [])) → old ≡ slot ∷ left → (old ≡ slot ∷ new) × (left ≡ new)
taken_off (Some s) old new slot left some none is = (cc, cc)
taken_off None old new slot left some none is = absurd (let e : [] ≡ slot ∷ left = sym none.0 ∙ is in cc)

-- what the first of a list tells of the list in hand
pub first_some : (o : std.Option ℕ) (f : List ℕ) (free : std.Option (List ℕ)) → free ≡ Some f → std.IfSome o (λ slot. (list : List ℕ) × (f ≡ slot ∷ list)) → std.IfSome o (λ slot. (list : List ℕ) × (free ≡ Some (slot ∷ list)))
first_some (Some slot) f free is h = (h.0, is ∙ ap Some h.1)
first_some None f free is h = h

pub first_none : (o : std.Option ℕ) (f : List ℕ) (free : std.Option (List ℕ)) → free ≡ Some f → std.IfNone o (f ≡ []) → std.IfNone o (free ≡ Some [])
first_none (Some slot) f free is h = h
first_none None f free is h = is ∙ ap Some h
