-- What a search for a word and its store leave.
use Rattle.std.proofs.Common.{◌≡◌, ◌⊎◌, ℕ, ◌+◌, ◌<◌, ◌≤◌, inl, inr, true, List, [], ◌∷◌, Option, Some, None, ℤ, refl, ap, sym, ◌∙◌, subst, arith, cond, eq-eqb}
use Rattle.std.specs.Prelude.{IfNone, IfSome}
use Rattle.edge_bits.specs.declared.edges.Edge.{Edge}
use Rattle.edge_bits.specs.declared.edges.Kind.{Kind}
use Rattle.edge_bits.specs.declared.edges.Kind.TheVariants.{Add}
use Rattle.edge_bits.specs.declared.words.Word.{Word}
use Rattle.edge_bits.specs.declared.words.Word.TheVariants.{Inner, Leaf}
use Rattle.edge_bits.specs.Reading.{plain}
use Rattle.edge_bits.specs.Words.{unpack_of}
use Rattle.function_laws.specs.Kinds.{Denoted, ValueOf, function_of}
use Rattle.function_laws.specs.Values.{constant}
use Rattle.node_store.specs.Views.{View, Denotes, Grown, IsInner, IsLeafOf, IsProper, Rose, node_values, values_at, logic_one, logic_zero, number, no_member, only_base}
use Rattle.node_store.specs.ViewLaws.{Is-grown, values_at-grown}
use Rattle.node_store.proofs.Parting.{same_kind}
use Rattle.node_slots.proofs.Adding.{CanMake-grown, node_values-grown}
use Rattle.step_store.specs.declared.job.Job.{Job}
use Rattle.step_store.specs.declared.job.Job.TheVariants as jobs
use Rattle.step_store.specs.declared.hand.Link.{Link}
use Rattle.step_store.specs.declared.hand.Taken.{Taken}
use Rattle.step_store.specs.Chains.{head_of}
use Rattle.step_store.specs.Knowing.{Grows, Hand, HasLevel, HasWalked, HasWord, IsDue, IsFound, IsWanted, Knowledge, Learns, MayMake, MayStore, Meets, Placed, Walk, handed, idle, risen, turn_of, with_turn, without_level, word_of}
use Rattle.step_store.proofs.Passing.{some_same}
use Rattle.step_store.proofs.Learning.{grows_learns, grows_trans, learns_same}

-- a leaf behind the first three slots is a number's
leaf_high : (w : View) (k : Kind) (e : Edge) (f : ℕ → ValueOf k) (x : ℤ) → IsLeafOf k e f x → 3 ≤ e.index → Denotes k w e f → Denotes Add w e (constant x)
leaf_high w _ _ _ _ logic_one le d = absurd (omega (arith, le))
leaf_high w _ _ _ _ logic_zero le d = absurd (omega (arith, le))
leaf_high w _ _ _ _ (number e x) le d = d
leaf_high w _ _ _ _ no_member le d = absurd (omega (arith, le))
leaf_high w _ _ _ _ only_base le d = absurd (omega (arith, le))

-- a slot that was met denotes what its word says
pub has_word : (w : View) (k : Knowledge) (s bits : ℕ) (word : Word) → Grown w k.view → 3 ≤ s → Meets k s bits word → HasWord w k.view s word
has_word w k s bits (Leaf x) g high m = let i = m.opens (plain s) refl m.is.0 m.is.1 in leaf_high k.view m.is.0 (plain s) (values_at m.is.0 k.view (plain s)) x i.leaf high m.is.1
has_word w k s bits (Inner node) g high m = λ j can.
    let i : Kind = m.is.0 in
    let n : IsInner i k.view (plain s) (values_at i k.view (plain s)) node.var (plain node.hi) node.lo = m.opens (plain s) refl i m.is.1 in
    let here : Denotes i k.view (plain s) (node_values i k.view node.var (plain node.hi) node.lo) = subst (λ f. Denotes i k.view (plain s) f) n.splits.is m.is.1 in
    let one : i ≡ j = same_kind i j (values_at i k.view (plain node.hi)) (values_at j k.view (plain node.hi)) (some_same _ _ (sym n.splits.hi_is.is ∙ (Is-grown j g can.hi_is).is)) in
    subst (λ f. Denotes j k.view (plain s) f) (node_values-grown j g can) (subst (λ (j : Kind). Denotes j k.view (plain s) (node_values j k.view node.var (plain node.hi) node.lo)) one here)

has_word-back : (a b c : View) (s : ℕ) (word : Word) → Grown a b → HasWord b c s word → HasWord a c s word
has_word-back a b c s (Leaf x) g h = h
has_word-back a b c s (Inner node) g h = λ k can. subst (λ f. Denotes k c (plain s) f) (node_values-grown k g can) (h k (CanMake-grown k g can))

due_back : (a b c : View) (job : Job) → Grown a b → IsDue b c job → IsDue a c job
due_back a b c (jobs.Leaf x) g h = h
due_back a b c (jobs.Node v hi lo) g h = λ k can. h k (CanMake-grown k g can) ∙ ap (λ (f : ℕ → ValueOf k). Some (function_of k f)) (node_values-grown k g can)

pub may_make-grown : (a b : View) (job : Job) → Grown a b → MayMake a job → MayMake b job
may_make-grown a b (jobs.Leaf x) g m = m
may_make-grown a b (jobs.Node v hi lo) g m = (m.0, CanMake-grown m.0 g m.1)

pub may_store-grown : (a b : View) (word : Word) → Grown a b → MayStore a word → MayStore b word
may_store-grown a b (Leaf x) g m = m
may_store-grown a b (Inner node) g m =
    let c = m.1 in (m.0, CanMake-grown m.0 g c, subst (λ (y : (ℕ → ValueOf m.0) × (ℕ → ValueOf m.0)). IsProper m.0 y.0 y.1) (λ i. (sym (values_at-grown m.0 g c.hi_is) i, sym (values_at-grown m.0 g c.lo_is) i)) m.2)

turn_of-grown : (a b : View) (word : Word) → Grown a b → turn_of b word ≡ turn_of a word
turn_of-grown a b (Inner node) g = ap (λ (n : ℕ). turn_of (record a { vars = n }) (Inner node)) g.vars
turn_of-grown a b (Leaf x) g = ap₂ (λ (n m : ℕ). n + m) g.vars g.elements
  where
    ap₂ : (f : ℕ → ℕ → ℕ) {a b c d : ℕ} → a ≡ b → c ≡ d → f a c ≡ f b d
    ap₂ f p q = λ i. f (p i) (q i)

-- a word that was found
pub found_placed : (old k : Knowledge) (job : Job) (bits s : ℕ) → Learns old k → unpack_of bits ≡ Some (word_of job) → IsFound k bits s → Placed old k job (Some s)
found_placed old k job bits s learns reads found = record {
  grows = grows_learns learns;
  slot = (subst (λ n. s < n) learns.kept.grown.slots found.1, has_word old.view k s bits (word_of job) learns.kept.grown found.0 (found.2 (word_of job) reads));
  made = λ t h. inl (sym (ap (λ (f : ℕ → _). f t) learns.kept.made) ∙ h);
  full = tt;
  still_due = learns.kept.due;
}

-- what was learned before
pub placed_learns : {a b c : Knowledge} (job : Job) (o : Option ℕ) → Learns a b → Placed b c job o → Placed a c job o
placed_learns {a} {b} {c} job o l p = record {
  grows = grows_trans (grows_learns l) p.grows;
  slot = some_map o p.slot;
  made = λ s h. ⊎_map s (p.made s h);
  full = none_map o p.full;
  still_due = due_map o p.still_due;
}
  where
    some_map : (o : Option ℕ) → IfSome o (λ s. (s < b.view.slots) × HasWord b.view c.view s (word_of job)) → IfSome o (λ s. (s < a.view.slots) × HasWord a.view c.view s (word_of job))
    some_map None h = tt
    some_map (Some s) h = (subst (λ n. s < n) l.kept.grown.slots h.0, has_word-back a.view b.view c.view s (word_of job) l.kept.grown h.1)

    ⊎_map : (s : ℕ) → (b.view.made s ≡ true) ⊎ (o ≡ Some s) → (a.view.made s ≡ true) ⊎ (o ≡ Some s)
    ⊎_map s (inl h) = inl (sym (ap (λ (f : ℕ → _). f s) l.kept.made) ∙ h)
    ⊎_map s (inr h) = inr h

    none_map : (o : Option ℕ) → IfNone o (Rose b.view c.view × IsDue b.view c.view job) → IfNone o (Rose a.view c.view × IsDue a.view c.view job)
    none_map None h = ((λ few. subst (λ n. n < c.view.fulls) l.kept.fulls (h.0 few)), due_back a.view b.view c.view job l.kept.grown h.1)
    none_map (Some s) h = tt

    due_map : (o : Option ℕ) → IfSome o (λ s. c.view.due ≡ b.view.due) → IfSome o (λ s. c.view.due ≡ a.view.due)
    due_map None h = tt
    due_map (Some s) h = h ∙ l.kept.due

-- what moved in hand afterwards
pub placed_handed : (a b c : Knowledge) (h : Hand) (job : Job) (o : Option ℕ) → c ≡ handed b h → Placed a b job o → Placed a c job o
placed_handed a b c h job o is p = subst (λ (x : Knowledge). Placed a x job o) (sym is) (record { grows = record { grown = p.grows.grown; room = p.grows.room; words = p.grows.words; heads = p.grows.heads }; slot = p.slot; made = p.made; full = p.full; still_due = p.still_due })

-- a word that was stored
pub store_placed : (old k new last : Knowledge) (h i : Hand) (job : Job) (bits slot : ℕ) → k ≡ handed old h → Grows k new → slot < old.view.slots → unpack_of bits ≡ Some (word_of job)
    → ((word : Word) → unpack_of bits ≡ Some word → HasWord k.view new.view slot word) → ((s : ℕ) → new.view.made s ≡ true → (k.view.made s ≡ true) ⊎ (slot ≡ s)) → new.view.due ≡ k.view.due → last ≡ handed new i
    → Placed old last job (Some slot)
store_placed old k new last h i job bits slot first grows within reads has made due is =
    placed_handed old new last i job (Some slot) is
    (placed_learns job (Some slot) (learns_same old k h first) (record {
      grows = grows;
      slot = (subst (λ (x : Knowledge). slot < x.view.slots) (sym first) within, has (word_of job) reads);
      made = λ s m. some_made s (made s m);
      full = tt;
      still_due = due;
    }))
  where
    some_made : (s : ℕ) → (k.view.made s ≡ true) ⊎ (slot ≡ s) → (k.view.made s ≡ true) ⊎ (Some slot ≡ Some s)
    some_made s (inl m) = inl m
    some_made s (inr e) = inr (ap (λ (x : ℕ). Some x) e)

rises : (n : ℕ) → n < 18446744073709551616 → (n ≤ risen n) × (risen n + 1 < 18446744073709551616 → n < risen n)
rises n few = (omega (arith, few), λ h. omega (arith, few, h))

-- a word for which no slot is free
pub empty_placed : (old new : Knowledge) (h : Hand) (d : Option Denoted) (job : Job) → old.view.fulls < 18446744073709551616 → new ≡ record old { view = record old.view { fulls = risen old.view.fulls; due = d }; hand = h }
    → IsDue old.view new.view job → Placed old new job None
empty_placed old new h d job few is due = subst (λ (x : Knowledge). IsDue old.view x.view job → Placed old x job None) (sym is) (λ due. record {
  grows = record {
    grown = record { vars = refl; elements = refl; slots = refl; level = refl; content = λ s f h. h; top = λ s f h. refl; made = λ s h. h; fulls = (rises old.view.fulls few).0; counts = refl; generations = refl; holds = refl; wants = λ h. h };
    room = refl;
    words = λ s b w. w;
    heads = refl;
  };
  slot = tt;
  made = λ s m. inl m;
  full = ((rises old.view.fulls few).1, due);
  still_due = tt;
}) due

-- what is wanted stays wanted with the free list in hand
pub wanted_free : (old k : Knowledge) (list : Option (List ℕ)) (bits : ℕ) (word : Word) → k ≡ handed old (record old.hand { free = list }) → IsWanted old bits word → IsWanted k bits word
wanted_free old k list bits word is w = subst (λ (x : Knowledge). IsWanted x bits word) (sym is) (record {
  absent = record { walk = w.absent.walk; is = w.absent.is; reads = w.absent.reads; head = w.absent.head; level = w.absent.level; others = w.absent.others };
  may = w.may;
  turn = w.turn;
})

-- what a walk found nowhere is wanted
pub walked_wanted : (old k : Knowledge) (head level bits : ℕ) (word : Word) → Learns old k → unpack_of bits ≡ Some word → MayStore old.view word → level ≡ turn_of old.view word → head ≡ head_of old.heads bits
    → HasLevel k.hand level → HasWalked k head level bits → IsWanted k bits word
walked_wanted old k head level bits word learns reads may level_is head_is has w =
    let turn : level ≡ turn_of k.view word = level_is ∙ sym (turn_of-grown old.view k.view word learns.kept.grown) in record {
      absent = record {
        walk = w.walk;
        is = w.is;
        reads = reads;
        head = w.head_is ∙ head_is ∙ ap (λ (n : ℕ). head_of n bits) (sym learns.heads);
        level = w.level_is ∙ turn;
        others = w.others;
      };
      may = may_store-grown old.view k.view word learns.kept.grown may;
      turn = subst (HasLevel k.hand) turn has;
    }

-- the hand through a store
pub store_hand : (level : ℕ) (walk : Option Walk) (list : Option (List ℕ)) (t : Option Taken) (l : Option Link) (o : Option ℕ) (h0 h1 h2 h3 h4 : Hand) → h0 ≡ record (with_turn level walk) { free = list } → h1 ≡ record h0 { free = None; taken = t; link = None }
    → h2 ≡ record h1 { link = l } → h3 ≡ record h2 { taken = None; loose = o } → h4 ≡ record h3 { loose = None; link = None; walk = None } → h4 ≡ record h0 { free = None; walk = None }
store_hand level walk list t l o h0 h1 h2 h3 h4 e0 e1 e2 e3 e4 =
    e4 ∙ ap (λ (h : Hand). record h { loose = None; link = None; walk = None }) e3 ∙ ap (λ (h : Hand). record h { taken = None; loose = None; link = None; walk = None }) e2
    ∙ ap (λ (h : Hand). record h { taken = None; loose = None; link = None; walk = None }) e1 ∙ ap (λ (h : Hand). record h { free = None; taken = None; loose = None; link = None; walk = None }) e0
    ∙ sym (ap (λ (h : Hand). record h { free = None; walk = None }) e0)

-- and through an answer that no slot is free, or a store behind it
pub add_hand : (level : ℕ) (walk : Option Walk) (list : Option (List ℕ)) (w : Option Walk) (h0 h1 h2 : Hand) → h0 ≡ with_turn level walk → h1 ≡ record h0 { free = list } → h2 ≡ record h1 { free = None; walk = w } → h2 ≡ record h0 { walk = h2.walk }
add_hand level walk list w h0 h1 h2 e0 e1 e2 =
    let all : h2 ≡ record h0 { free = None; walk = w } = e2 ∙ ap (λ (h : Hand). record h { free = None; walk = w }) e1 in
    let free : record h0 { free = None; walk = w } ≡ record h0 { walk = w } = ap (λ (h : Hand). record h { free = None; walk = w }) e0 ∙ sym (ap (λ (h : Hand). record h { walk = w }) e0) in
    all ∙ free ∙ ap (λ (o : Option Walk). record h0 { walk = o }) (sym (ap (λ (h : Hand). h.walk) (all ∙ free)))

pub turn_hand : (level : ℕ) (walk : Option Walk) (h0 h1 : Hand) → h0 ≡ with_turn level walk → h1 ≡ record h0 { walk = h1.walk } → h1 ≡ with_turn level h1.walk
turn_hand level walk h0 h1 e0 e1 = e1 ∙ ap (λ (h : Hand). record h { walk = h1.walk }) e0

pub idle_again : (level : ℕ) (walk : Option Walk) (h0 h1 : Hand) → h0 ≡ with_turn level walk → h1 ≡ record h0 { levels = without_level level h0.levels; walk = None } → h1 ≡ idle
idle_again level walk h0 h1 e0 e1 = e1 ∙ ap (λ (h : Hand). record h { levels = without_level level h.levels; walk = None }) e0 ∙ ap (λ (l : List ℕ). record idle { levels = l }) (ap (λ b. cond b [] (level ∷ [])) (eq-eqb level level refl))
