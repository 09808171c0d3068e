-- What is known once all sessions came back.
use Rattle.std.proofs.Common.{◌≡◌, ℕ, ◌+◌, ◌≤◌, List, [], ◌∷◌, map, length, refl, ap, sym, subst, ◌∙◌, arith}
use mathlib.Core.Logic.{dite}
use native.Mathlib.Decide.{dec_lt}
use lib.ListN.{get_elem?}
use Rattle.atomic_table.proofs.Lists.{at_map}
use Rattle.function_laws.specs.declared.history.Entry.{Entry}
use Rattle.function_laws.specs.Tables.{Sizes, Table, opening}
use Rattle.function_laws.specs.Histories.{IsLegal, IsLegalFrom, after_entry, table_after}
use Rattle.function_laws.specs.EntryOrders.{EachWith, opening_orders}
use Rattle.seat_guard.specs.Finds.{Finds}
use Rattle.seat_guard.specs.Sifted.{ArePlaced, IsHadAt}
use Rattle.function_laws.specs.SessionEntries.{Each, IsByPlace, entries_of}
use Rattle.function_laws.proofs.PlaceOrder.{one_order}
use Rattle.seat_guard.specs.declared.view.Gone.{Gone}
use Rattle.seat_guard.specs.declared.view.Draws.{Draws}
use Rattle.seat_guard.specs.Notes.{IsNotedIn}
use Rattle.seat_guard.specs.Views.{sizes_for}
use Rattle.seat_guard.specs.Rule.{AllBack, RowsStand, Whole}
use Rattle.seat_guard.proofs.Lists.{each_map}
use Rattle.dd_session.specs.Managing.{AreAll, IsHistoryOf, Managed, Seen, gone_as}

-- a history's places rise
legal_high : (es : List Entry) (n : ℕ) (t : Table) → IsLegalFrom n t es → Each (λ (f : Entry). n ≤ f.place) es
legal_high [] n t legal = tt
legal_high (e ∷ es) n t legal = (let at = legal.0 in omega (arith, at), each_map (λ (f : Entry). n + 1 ≤ f.place) (λ (f : Entry). n ≤ f.place) (λ f le. omega (arith, le)) es (legal_high es (n + 1) (after_entry t e) legal.2))

legal_rises : (es : List Entry) (n : ℕ) (t : Table) → IsLegalFrom n t es → IsByPlace es
legal_rises [] n t legal = tt
legal_rises (e ∷ es) n t legal = (
  each_map (λ (f : Entry). n + 1 ≤ f.place) (λ (f : Entry). e.place ≤ f.place) (λ f le. let at = legal.0 in omega (arith, at, le)) es (legal_high es (n + 1) (after_entry t e) legal.2),
  legal_rises es (n + 1) (after_entry t e) legal.2,
)

-- two whole histories of the same sessions are one
pub one_log : (d : Draws) (start : Sizes) (n m : ℕ) → AllBack d → (a : Whole n start d.given d.gone) (b : Whole m start d.given d.gone) → a.log ≡ b.log
one_log d start n m back a b = one_order b.log a.log 0 (opening start) b.legal (legal_rises a.log 0 (opening start) a.legal) (λ p. dite (dec_lt p d.given)
    (λ below. let c = back p below in subst (λ (q : ℕ). entries_of q a.log ≡ entries_of q b.log) c.3 (a.each c.0 c.1 c.2 ∙ sym (b.each c.0 c.1 c.2)))
    (λ above. a.beyond p (omega (arith, above)) ∙ sym (b.beyond p (omega (arith, above)))))

-- all that were given came back
pub all_back : (m : Managed) (d : Draws) (sessions : List Seen) → d.given ≡ m.sessions → d.gone ≡ map gone_as sessions → AreAll m sessions → AllBack d
all_back m d sessions given gone all p below = let c = all.covered p (omega (arith, below, given)) in
    (c.0, gone_as c.1, ap (λ (l : List Gone). get_elem? l c.0) gone ∙ at_map gone_as sessions c.0 c.1 c.2, c.3)

pub history_of : (m : Managed) (d : Draws) (n k : ℕ) (sessions : List Seen) → d.vars ≡ m.vars → d.elements ≡ m.elements → d.given ≡ m.sessions → d.gone ≡ map gone_as sessions → AreAll m sessions
    → Whole n (sizes_for d.vars d.elements) d.given d.gone → (whole : Whole k (sizes_for d.vars d.elements) d.given d.gone) → (h : IsHistoryOf m sessions n) × (h.log ≡ whole.log)
history_of m d n k sessions vars elements given gone all first whole = (
  record {
    log = whole.log;
    legal = subst (λ (z : Sizes). IsLegal z whole.log) (λ i. sizes_for (vars i) (elements i)) whole.legal;
    count = sym (ap (λ (l : List Entry). length l) (one_log d (sizes_for d.vars d.elements) n k (all_back m d sessions given gone all) first whole)) ∙ first.count;
    found = subst (λ (z : Sizes). EachWith Finds (opening z) (opening_orders z) whole.log) (λ i. sizes_for (vars i) (elements i)) whole.found;
    had = subst (λ (z : Sizes). ArePlaced (IsHadAt z whole.log) whole.log) (λ i. sizes_for (vars i) (elements i)) (whole.placed (all_back m d sessions given gone all));
    each = λ k s at. whole.each k (gone_as s) (ap (λ (l : List Gone). get_elem? l k) gone ∙ at_map gone_as sessions k s at);
    rows = λ k s at. subst (λ (z : Sizes). RowsStand (table_after (opening z) whole.log) (gone_as s)) (λ i. sizes_for (vars i) (elements i)) (whole.rows k (gone_as s) (ap (λ (l : List Gone). get_elem? l k) gone ∙ at_map gone_as sessions k s at));
    known = λ k s at. whole.known k (gone_as s) (ap (λ (l : List Gone). get_elem? l k) gone ∙ at_map gone_as sessions k s at) ∙ (λ i. sizes_for (vars i) (elements i));
    fixed = subst (λ (z : Sizes). (table_after (opening z) whole.log).sizes ≡ z) (λ i. sizes_for (vars i) (elements i)) whole.fixed;
    placed = λ k s at. subst (λ (z : Sizes). Each (IsNotedIn z whole.log s.number) s.placed) (λ i. sizes_for (vars i) (elements i)) (whole.noted k (gone_as s) (ap (λ (l : List Gone). get_elem? l k) gone ∙ at_map gone_as sessions k s at)).placed;
    noted = λ k s at. subst (λ (z : Sizes). Each (IsNotedIn z whole.log s.number) s.noted) (λ i. sizes_for (vars i) (elements i)) (whole.noted k (gone_as s) (ap (λ (l : List Gone). get_elem? l k) gone ∙ at_map gone_as sessions k s at)).noted;
    no_other = λ p other. dite (dec_lt p m.sessions)
        (λ below. let c = all.covered p below in absurd (other c.0 c.1 c.2 c.3))
        (λ above. whole.beyond p (omega (arith, above, given)));
  },
  refl,
)
