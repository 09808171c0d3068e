-- What a sift noted stays so: each kind of step keeps the place at which a function was somebody's.
use Rattle.std.proofs.Common.{◌≡◌, ◌≢◌, ◌⊎◌, ℕ, zero, suc, ◌<◌, ◌≤◌, Bool, true, false, not, List, [], ◌∷◌, ◌++◌, length, set, refl, ap, sym, subst, ◌∙◌, inl, inr, arith, length-append}
use Rattle.std.specs.Prelude.{take, drop, All}
use Rattle.std.proofs.lemmas.List.{take-append-le, drop-append-le, take-append-drop, take_all, append_assoc}
use mathlib.Core.Logic.{dite}
use mathlib.Core.Option.{some, some-injective, some-ne-none}
use native.Mathlib.Decide.{ℕ_discrete}
use lib.ListN.{get_elem?}
use Rattle.atomic_table.proofs.Lists.{set_else}
use Rattle.function_laws.specs.declared.history.Function.{Function}
use Rattle.function_laws.specs.declared.history.Function.TheVariants.{Bdd, Add, Zdd}
use Rattle.function_laws.specs.declared.history.Call.{Call}
use Rattle.function_laws.specs.declared.history.Reply.{Reply}
use Rattle.function_laws.specs.declared.history.Entry.{Entry}
use Rattle.function_laws.specs.Functions.{not_of}
use Rattle.function_laws.specs.Lists.{truth}
use Rattle.function_laws.proofs.BridgeLemmas.{not_of-list_of}
use Rattle.function_laws.proofs.ListLemmas.{list_of-same, list_of-truth}
use Rattle.function_laws.specs.Histories.{table_after}
use Rattle.function_laws.specs.SessionEntries.{Each, entries_of, entry}
use Rattle.function_laws.specs.Tables.{Table, Sizes, opening}
use Rattle.function_laws.proofs.SessionEntryLemmas.{entries_other}
use Rattle.seat_guard.specs.declared.view.Held.{Held}
use Rattle.seat_guard.specs.declared.view.Counts.{Counts}
use Rattle.seat_guard.specs.declared.view.View.{View}
use Rattle.function_laws.specs.SiftEntries.{AreOne, IsOfCell, IsOfRow}
use Rattle.function_laws.specs.Widening.{at_sizes}
use Rattle.seat_guard.specs.Finds.{carried_by}
use Rattle.seat_guard.specs.Sifted.{FirstGains, Gains, IsAtPlace, IsPlaced, IsRaised, LastLoses, Loses, OwesLast, Sifts}
use Rattle.seat_guard.specs.Moves.{HasNoted}
use Rattle.seat_guard.proofs.Lists.{at_end, each_set, set_at, each_map, each_at}

pub drop_all : (log : List Entry) → drop (length log) log ≡ []
drop_all [] = refl
drop_all (x ∷ log) = drop_all log

at_below : (l : List Entry) (i : ℕ) (f : Entry) → get_elem? l i ≡ some f → i < length l
at_below [] i f there = absurd (some-ne-none f (sym there))
at_below (x ∷ l) zero f there = omega arith
at_below (x ∷ l) (suc i) f there = let b = at_below l i f there in omega (arith, b)

-- the entries of a longer history
module _ (start : Sizes) (log : List Entry) (e : Entry) where
  -- a last entry that took a function away, below the place
  low_stays : (j : ℕ) (f : Function) → j ≤ length log → LastLoses start (take j log) f → LastLoses start (take j (log ++ e ∷ [])) f
  low_stays j f le l = subst (λ (es : List Entry). LastLoses start es f) (sym (take-append-le j log (e ∷ []) le)) l

  first_stays : (j : ℕ) (f : Function) → j ≤ length log → FirstGains start (take j log) (drop j log) f → FirstGains start (take j (log ++ e ∷ [])) (drop j (log ++ e ∷ [])) f
  first_stays j f le g = subst (λ (y : List Entry × List Entry). FirstGains start y.0 y.1 f) (λ i. (sym (take-append-le j log (e ∷ []) le) i, sym (drop-append-le j log (e ∷ []) le) i)) (record {
    before = g.before;
    entry = g.entry;
    behind = g.behind ++ e ∷ [];
    are = ap (λ (es : List Entry). es ++ e ∷ []) g.are ∙ append_assoc g.before (g.entry ∷ g.behind) (e ∷ []);
    first = g.first;
    function = g.function;
    one = g.one;
    gains = g.gains;
  })

  -- of the views, only the raised slots matter
  lasts : (vs ws : List View) (j : ℕ) (f : Function) → j ≤ length log
      → (IsRaised start (drop j log) vs f → IsAtPlace start (log ++ e ∷ []) ws j f) → IsAtPlace start log vs j f → IsAtPlace start (log ++ e ∷ []) ws j f
  lasts vs ws j f le raised (inl (inl a)) = inl (inl (subst (λ (es : List Entry). IsOfRow (table_after (opening start) es) f ⊎ IsOfCell (table_after (opening start) es) f) (sym (take-append-le j log (e ∷ []) le)) a))
  lasts vs ws j f le raised (inl (inr (inl b))) = inl (inr (inl (low_stays j f le b)))
  lasts vs ws j f le raised (inl (inr (inr c))) = inl (inr (inr (first_stays j f le c)))
  lasts vs ws j f le raised (inr d) = raised d

-- a step that draws nothing, and lets nothing go that was raised
pub quiet : (start : Sizes) (log : List Entry) (vs ws : List View) (j : ℕ) (f : Function) → (IsRaised start (drop j log) vs f → IsRaised start (drop j log) ws f) → IsAtPlace start log vs j f → IsAtPlace start log ws j f
quiet start log vs ws j f raised (inl a) = inl a
quiet start log vs ws j f raised (inr d) = inr (raised d)

pub itself : (f : Function) → AreOne f f
itself (Bdd f) = inl refl
itself (Add f) = refl
itself (Zdd p) = refl

-- what is one with a second, which is one with a third, is one with the third
twice_not : (b : Bool) → not (not b) ≡ b
twice_not true = refl
twice_not false = refl

back : (f : List Bool) → not_of (not_of f) ≡ f
back f = not_of-list_of (length f) (λ k. not (truth f k)) ∙ list_of-same (length f) (λ k. not (not (truth f k))) (truth f) (λ k lt. twice_not (truth f k)) ∙ list_of-truth f

one_both : (f g h : Function) → AreOne f g → AreOne g h → AreOne f h
one_both (Bdd f) (Bdd g) (Bdd h) (inl a) (inl b) = inl (a ∙ b)
one_both (Bdd f) (Bdd g) (Bdd h) (inl a) (inr b) = inr (a ∙ b)
one_both (Bdd f) (Bdd g) (Bdd h) (inr a) (inl b) = inr (a ∙ ap not_of b)
one_both (Bdd f) (Bdd g) (Bdd h) (inr a) (inr b) = inl (a ∙ ap not_of b ∙ back h)
one_both (Bdd f) (Bdd g) (Add h) a b = let z : Bdd g ≡ Add h = b in cc
one_both (Bdd f) (Bdd g) (Zdd h) a b = let z : Bdd g ≡ Zdd h = b in cc
one_both (Bdd f) (Add g) h a b = let z : Bdd f ≡ Add g = a in cc
one_both (Bdd f) (Zdd g) h a b = let z : Bdd f ≡ Zdd g = a in cc
one_both (Add f) g h a b = subst (λ (x : Function). AreOne x h) (sym a) b
one_both (Zdd f) g h a b = subst (λ (x : Function). AreOne x h) (sym a) b

-- so it is placed where that is
one_placed : (start : Sizes) (log : List Entry) (vs : List View) (own : List Entry) (most : ℕ) (f g : Function) → AreOne f g → IsPlaced (IsAtPlace start log vs) own most g → IsPlaced (IsAtPlace start log vs) own most f
one_placed start log vs own most f g one p = record { place = p.place; within = p.within; later = p.later; is = by p.is }
  where
    by : IsAtPlace start log vs p.place g → IsAtPlace start log vs p.place f
    by (inl (inl (inl row))) = inl (inl (inl (row.0, row.1, row.2, row.3, one_both f g row.2 one row.4)))
    by (inl (inl (inr cell))) = inl (inl (inr (cell.0, cell.1, cell.2, one_both f g cell.1 one cell.3)))
    by (inl (inr (inl l))) = inl (inr (inl (record { before = l.before; entry = l.entry; behind = l.behind; are = l.are; last = l.last; function = l.function; one = one_both f g l.function one l.one; loses = l.loses })))
    by (inl (inr (inr l))) = inl (inr (inr (record { before = l.before; entry = l.entry; behind = l.behind; are = l.are; first = l.first; function = l.function; one = one_both f g l.function one l.one; gains = l.gains })))
    by (inr d) = inr (record { id = d.id; view = d.view; at = d.at; live = d.live; none_behind = d.none_behind; index = d.index; held = d.held; raised = d.raised; one = one_both f g (at_sizes start d.held.function) one d.one })

module _ (start : Sizes) (log : List Entry) (vs : List View) (r : Sifts start log vs) where
  abbrev one_live : ℕ → View → Type 0
  one_live id v = (i : ℕ) (u : View) → get_elem? vs i ≡ some u → u.draws.live ≡ true → u.draws.session ≡ v.draws.session → i ≡ id

  abbrev StaysRaised : View → View → Type 0
  StaysRaised v w = (k : ℕ) (held : Held) → get_elem? v.counts.raised k ≡ some held → (m : ℕ) × (get_elem? w.counts.raised m ≡ some held)

  moved : (id : ℕ) (v w : View) → get_elem? vs id ≡ some v → w.draws.live ≡ v.draws.live → w.draws.session ≡ v.draws.session → StaysRaised v w → (j : ℕ) (f : Function) → IsRaised start (drop j log) vs f → IsRaised start (drop j log) (set vs id w) f
  moved id v w at live session raised j f d = dite (ℕ_discrete d.id id)
      (λ same. let is : d.view ≡ v = some-injective d.view v (sym d.at ∙ (ap (λ (i : ℕ). get_elem? vs i) same ∙ at)) in
      let k = raised d.index d.held (ap (λ (u : View). get_elem? u.counts.raised d.index) (sym is) ∙ d.raised) in record {
        id = id;
        view = w;
        at = set_at vs id v w at;
        live = live ∙ (ap (λ (u : View). u.draws.live) (sym is) ∙ d.live);
        none_behind = ap (λ (s : ℕ). entries_of s (drop j log)) (session ∙ ap (λ (u : View). u.draws.session) (sym is)) ∙ d.none_behind;
        index = k.0;
        held = d.held;
        raised = k.1;
        one = d.one;
      })
      (λ apart. record { id = d.id; view = d.view; at = set_else vs id d.id w apart ∙ d.at; live = d.live; none_behind = d.none_behind; index = d.index; held = d.held; raised = d.raised; one = d.one })

  pub stays_placed : (id : ℕ) (v w : View) → get_elem? vs id ≡ some v → w.draws.live ≡ v.draws.live → w.draws.session ≡ v.draws.session → StaysRaised v w
      → (own : List Entry) (most : ℕ) (f : Function) → IsPlaced (IsAtPlace start log vs) own most f → IsPlaced (IsAtPlace start log (set vs id w)) own most f
  stays_placed id v w at live session raised own most f p = record { place = p.place; within = p.within; later = p.later; is = quiet start log vs (set vs id w) p.place f (moved id v w at live session raised p.place f) p.is }

  -- a seat's step that draws nothing: what it raised stays raised, it notes no more, and owes no more
  pub steps_quiet : (id : ℕ) (v w : View) → get_elem? vs id ≡ some v → w.draws.live ≡ v.draws.live → w.draws.session ≡ v.draws.session
      → ((k : ℕ) (held : Held) → get_elem? v.counts.raised k ≡ some held → (m : ℕ) × (get_elem? w.counts.raised m ≡ some held))
      → (w.draws.live ≡ true → Each (IsPlaced (IsAtPlace start log (set vs id w)) (entries_of w.draws.session log) (length log)) w.counts.above)
      → (w.draws.live ≡ true → Each (OwesLast start log w.draws.session) w.counts.owed)
      → Sifts start log (set vs id w)
  steps_quiet id v w at live session raised above owed = record {
    carried = λ i e there. each_map (IsPlaced (IsAtPlace start log vs) (entries_of e.session (take i log)) i) (IsPlaced (IsAtPlace start log (set vs id w)) (entries_of e.session (take i log)) i) (stays_placed id v w at live session raised (entries_of e.session (take i log)) i) (carried_by e.call) (r.carried i e there);
    noted = each_set (λ i (u : View). u.draws.live ≡ true → Each (IsPlaced (IsAtPlace start log (set vs id w)) (entries_of u.draws.session log) (length log)) u.counts.above) vs id w
        (λ i u apart there l. each_map (IsPlaced (IsAtPlace start log vs) (entries_of u.draws.session log) (length log)) (IsPlaced (IsAtPlace start log (set vs id w)) (entries_of u.draws.session log) (length log)) (stays_placed id v w at live session raised (entries_of u.draws.session log) (length log)) u.counts.above (r.noted i u there l))
        above;
    owes = each_set (λ i (u : View). u.draws.live ≡ true → Each (OwesLast start log u.draws.session) u.counts.owed) vs id w (λ i u apart there. r.owes i u there) owed;
  }

  -- a seat's step that changes nothing of its counts
  pub steps_same : (id : ℕ) (v w : View) → get_elem? vs id ≡ some v → w.draws.live ≡ v.draws.live → w.draws.session ≡ v.draws.session → w.counts ≡ v.counts → Sifts start log (set vs id w)
  steps_same id v w at live session same =
      let raised : StaysRaised v w = λ k held is. (k, ap (λ (c : Counts). get_elem? c.raised k) same ∙ is) in
      steps_quiet id v w at live session raised
      (λ l. subst (λ (y : ℕ × Counts). Each (IsPlaced (IsAtPlace start log (set vs id w)) (entries_of y.0 log) (length log)) y.1.above) (λ i. (sym session i, sym same i))
      (each_map (IsPlaced (IsAtPlace start log vs) (entries_of v.draws.session log) (length log)) (IsPlaced (IsAtPlace start log (set vs id w)) (entries_of v.draws.session log) (length log)) (stays_placed id v w at live session raised (entries_of v.draws.session log) (length log)) v.counts.above (r.noted id v at (sym live ∙ l))))
      (λ l. subst (λ (y : ℕ × Counts). Each (OwesLast start log y.0) y.1.owed) (λ i. (sym session i, sym same i)) (r.owes id v at (sym live ∙ l)))

  -- A call draws its place. What was raised is what its entry adds, and what it owes then is what its entry takes away; what it carries was noted.
  pub draws_sifted : (id : ℕ) (v w : View) (call : Call) (reply : Reply) (table : Table) → get_elem? vs id ≡ some v → v.draws.live ≡ true → one_live id v
      → table_after (opening start) log ≡ table → w.draws.live ≡ v.draws.live → w.draws.session ≡ v.draws.session → w.counts.above ≡ []
      → Each (λ (held : Held). Gains table v.draws.session call reply (at_sizes start held.function)) v.counts.raised
      → Each (λ (held : Held). Loses table v.draws.session call (at_sizes start held.function)) w.counts.owed
      → Each (HasNoted v.counts) (carried_by call)
      → Sifts start (log ++ entry (length log) v.draws.session call reply ∷ []) (set vs id w)
  draws_sifted id v w call reply table at live one leaves w_live w_session none_above gains loses carries = record {
    carried = λ i f there. either_entry i f (at_end log e f i there);
    noted = each_set (λ i (u : View). u.draws.live ≡ true → Each (IsPlaced (IsAtPlace start (log ++ e ∷ []) (set vs id w)) (entries_of u.draws.session (log ++ e ∷ [])) (length (log ++ e ∷ []))) u.counts.above) vs id w
        (λ i u apart there l.
        let away : e.session ≢ u.draws.session = λ same. apart (one i u there l (sym same)) in
        each_map (IsPlaced (IsAtPlace start log vs) (entries_of u.draws.session log) (length log)) (IsPlaced (IsAtPlace start (log ++ e ∷ []) (set vs id w)) (entries_of u.draws.session (log ++ e ∷ [])) (length (log ++ e ∷ [])))
        (λ f p. let le = p.within in let t = stays (entries_of u.draws.session log) (length log) f p le in record {
          place = t.place;
          within = let x = t.within in omega (arith, x, len);
          later = subst (λ (es : List Entry). All (λ (y : Entry). y.place < t.place) es) (sym (entries_other log u.draws.session e away)) t.later;
          is = t.is;
        }) u.counts.above (r.noted i u there l))
        (λ l. subst (λ (fs : List Function). Each (IsPlaced (IsAtPlace start (log ++ e ∷ []) (set vs id w)) (entries_of w.draws.session (log ++ e ∷ [])) (length (log ++ e ∷ []))) fs) (sym none_above) tt);
    owes = each_set (λ i (u : View). u.draws.live ≡ true → Each (OwesLast start (log ++ e ∷ []) u.draws.session) u.counts.owed) vs id w
        (λ i u apart there l. let away : e.session ≢ u.draws.session = λ same. apart (one i u there l (sym same)) in
        each_map (OwesLast start log u.draws.session) (OwesLast start (log ++ e ∷ []) u.draws.session) (λ held o. let k = o.0 in (
          record {
            before = k.before;
            entry = k.entry;
            behind = k.behind ++ e ∷ [];
            are = ap (λ (es : List Entry). es ++ e ∷ []) k.are ∙ append_assoc k.before (k.entry ∷ k.behind) (e ∷ []);
            last = entries_other k.behind k.entry.session e (λ same. away (same ∙ o.1)) ∙ k.last;
            function = k.function;
            one = k.one;
            loses = k.loses;
          },
          o.1,
          o.2,
        )) u.counts.owed (r.owes i u there l))
        (λ l. each_map (λ (held : Held). Loses table v.draws.session call (at_sizes start held.function)) (OwesLast start (log ++ e ∷ []) w.draws.session) (λ held g. (
          record {
            before = log;
            entry = e;
            behind = [];
            are = refl;
            last = refl;
            function = at_sizes start held.function;
            one = itself (at_sizes start held.function);
            loses = subst (λ (t : Table). Loses t v.draws.session call (at_sizes start held.function)) (sym leaves) g;
          },
          sym w_session,
          refl,
        )) w.counts.owed loses);
  }
    where
      e : Entry
      e = entry (length log) v.draws.session call reply

      len : length (log ++ e ∷ []) ≡ suc (length log)
      len = length-append log (e ∷ []) ∙ omega arith

      -- what was raised is added by this entry, where its session had none behind the place
      comes : (j : ℕ) (f : Function) → j ≤ length log → IsRaised start (drop j log) vs f → IsAtPlace start (log ++ e ∷ []) (set vs id w) j f
      comes j f le d = dite (ℕ_discrete d.id id)
          (λ same. let is : d.view ≡ v = some-injective d.view v (sym d.at ∙ (ap (λ (i : ℕ). get_elem? vs i) same ∙ at)) in
          inl (inr (inr (subst (λ (y : List Entry × List Entry). FirstGains start y.0 y.1 f) (λ i. (sym (take-append-le j log (e ∷ []) le) i, sym (drop-append-le j log (e ∷ []) le) i)) (record {
            before = drop j log;
            entry = e;
            behind = [];
            are = refl;
            first = ap (λ (u : View). entries_of u.draws.session (drop j log)) (sym is) ∙ d.none_behind;
            function = at_sizes start d.held.function;
            one = d.one;
            gains = subst (λ (t : Table). Gains t v.draws.session call reply (at_sizes start d.held.function)) (sym (ap (table_after (opening start)) (take-append-drop j log) ∙ leaves))
                (each_at (λ (held : Held). Gains table v.draws.session call reply (at_sizes start held.function)) v.counts.raised d.index d.held gains (ap (λ (u : View). get_elem? u.counts.raised d.index) (sym is) ∙ d.raised));
          })))))
          (λ apart. inr (record {
            id = d.id;
            view = d.view;
            at = set_else vs id d.id w apart ∙ d.at;
            live = d.live;
            none_behind = ap (entries_of d.view.draws.session) (drop-append-le j log (e ∷ []) le)
                ∙ (entries_other (drop j log) d.view.draws.session e (λ same. apart (one d.id d.view d.at d.live (sym same))) ∙ d.none_behind);
            index = d.index;
            held = d.held;
            raised = d.raised;
            one = d.one;
          }))

      stays : (own : List Entry) (most : ℕ) (f : Function) → (p : IsPlaced (IsAtPlace start log vs) own most f) → p.place ≤ length log → IsPlaced (IsAtPlace start (log ++ e ∷ []) (set vs id w)) own most f
      stays own most f p le = record { place = p.place; within = p.within; later = p.later; is = lasts start log e vs (set vs id w) p.place f le (comes p.place f le) p.is }

      either_entry : (i : ℕ) (f : Entry) → (get_elem? log i ≡ some f) ⊎ ((i ≡ length log) × (e ≡ f)) → Each (IsPlaced (IsAtPlace start (log ++ e ∷ []) (set vs id w)) (entries_of f.session (take i (log ++ e ∷ []))) i) (carried_by f.call)
      either_entry i f (inl was) =
          let low : i < length log = at_below log i f was in
          each_map (IsPlaced (IsAtPlace start log vs) (entries_of f.session (take i log)) i) (IsPlaced (IsAtPlace start (log ++ e ∷ []) (set vs id w)) (entries_of f.session (take i (log ++ e ∷ []))) i)
          (λ g p. let x = p.within in subst (λ (es : List Entry). IsPlaced (IsAtPlace start (log ++ e ∷ []) (set vs id w)) (entries_of f.session es) i g) (sym (take-append-le i log (e ∷ []) (omega (arith, low))))
          (stays (entries_of f.session (take i log)) i g p (omega (arith, x, low)))) (carried_by f.call) (r.carried i f was)
      either_entry i f (inr new) = subst (λ (y : ℕ × Entry). Each (IsPlaced (IsAtPlace start (log ++ e ∷ []) (set vs id w)) (entries_of y.1.session (take y.0 (log ++ e ∷ []))) y.0) (carried_by y.1.call)) (λ k. (sym new.0 k, new.1 k))
          (each_map (HasNoted v.counts) (IsPlaced (IsAtPlace start (log ++ e ∷ []) (set vs id w)) (entries_of v.draws.session (take (length log) (log ++ e ∷ []))) (length log))
          (λ g n. let p = one_placed start log vs (entries_of v.draws.session log) (length log) g n.1 n.3 (each_at (IsPlaced (IsAtPlace start log vs) (entries_of v.draws.session log) (length log)) v.counts.above n.0 n.1 (r.noted id v at live) n.2) in
          subst (λ (es : List Entry). IsPlaced (IsAtPlace start (log ++ e ∷ []) (set vs id w)) (entries_of v.draws.session es) (length log) g) (sym (take-append-le (length log) log (e ∷ []) (omega arith) ∙ take_all (length log) log (omega arith)))
          (stays (entries_of v.draws.session log) (length log) g p p.within)) (carried_by call) carries)
