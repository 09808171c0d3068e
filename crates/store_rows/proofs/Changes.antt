-- What changes of a store leave of its rows.
use Rattle.std.proofs.Common.{◌≡◌, ℕ, ◌+◌, ◌<◌, ◌≤◌, ◌==◌, Bool, true, false, cond, List, [], ◌∷◌, ◌++◌, Some, None, refl, ap, sym, subst, ◌∙◌, arith, eq-eqb}
use Rattle.std.specs.List.{All}
use Rattle.edge_bits.specs.declared.edges.Edge.{Edge}
use Rattle.edge_bits.specs.declared.edges.Kind.{Kind}
use Rattle.function_laws.specs.declared.history.Name.{Name}
use Rattle.function_laws.specs.Tables.{same_name}
use Rattle.handle_count.specs.declared.rows.Held.{Held}
use Rattle.handle_count.specs.RowMaps.{IsWithOne, RowMap, find_row}
use Rattle.node_slots.specs.Stores.{IsOpening, Plain, count_at, is_held, plain_view}
use Rattle.node_store.specs.ViewLaws.{Denotes-grown, Grown-refl, Is-from, Is-grown}
use Rattle.node_store.specs.Views.{View, Denotes, Grown, Is, values_at}
use Rattle.store_upkeep.specs.Lasting.{IsCounted, Lasts, one_if}
use Rattle.store_upkeep.proofs.Lasting.{counted_denotes, lasts_denotes}
use Rattle.store_rows.specs.RowStores.{Gains, HasRows, HoldsAll, IsLiveAs, IsRowStore, Loses, RowStoreView, Same, edge_in, rows_at, view_of}
use Rattle.store_rows.proofs.Finding.{finds-more, none-given, same_name-eq}
use Rattle.store_rows.proofs.Rows.{live-held}

-- a growing store has the rows, and so has one whose slots are counted otherwise
pub has-grown : (d : RowStoreView) (w : View) → Grown (view_of d) w → HasRows d w
has-grown d w g = record { vars = g.vars; elements = g.elements; slots = g.slots; functions = λ k h f n. Denotes-grown k g n.1 }

pub has-counted : (d : RowStoreView) (q : Plain) → IsCounted d.store q → HasRows d (plain_view q)
has-counted d q same = record {
  vars = ap (λ (w : View). w.vars) same.view;
  elements = ap (λ (w : View). w.elements) same.view;
  slots = ap (λ (w : View). w.slots) same.view;
  functions = λ k h f n. counted_denotes d.store q same k (edge_in d.rows.live h) f n.1;
}

-- and one that was swept, or whose levels were exchanged
pub has-lasting : (d : RowStoreView) (q : Plain) → IsRowStore d → Lasts d.store q → HasRows d (plain_view q)
has-lasting d q is lasts = record {
  vars = lasts.vars;
  elements = lasts.elements;
  slots = lasts.slots;
  functions = λ k h f n. lasts_denotes d.store q lasts k (edge_in d.rows.live h) f (let c = is.counted (edge_in d.rows.live h).index in let some = live-held d.rows.live k h n.0 in omega (arith, c, some)) n.1;
}

-- where the rows are the same
pub has-then : (a b : RowStoreView) (w : View) → Same a b → HasRows b w → HasRows a w
has-then a b w same has = record {
  vars = has.vars ∙ same.has.vars;
  elements = has.elements ∙ same.has.elements;
  slots = has.slots ∙ same.has.slots;
  functions = λ k h f n. subst (λ (l : List Held). Denotes k w (edge_in l h) f) same.live
      (has.functions k h f (subst (λ (l : List Held). IsLiveAs k l h × Denotes k (view_of b) (edge_in l h) f) (sym same.live) (n.0, same.has.functions k h f n)));
}

pub same-then : (a b c : RowStoreView) → Same a b → Same b c → Same a c
same-then a b c first second = record { live = second.live ∙ first.live; has = has-then a b (view_of c) first second.has }

pub same-refl : (d : RowStoreView) → Same d d
same-refl d = record { live = refl; has = has-grown d (view_of d) (Grown-refl (view_of d)) }

pub gains-then : (a b c : RowStoreView) (h : Name) (k : Kind) (e : Edge) → Same a b → Gains b c h k e → Gains a c h k e
gains-then a b c h k e same gains = record {
  found = λ name. gains.found name ∙ ap (λ (l : List Held). cond (same_name name h) (Some (record { name = h; kind = k; edge = e })) (find_row l name)) same.live;
  unused = ap (λ (l : List Held). find_row l h) (sym same.live) ∙ gains.unused;
  has = has-then a b (view_of c) same gains.has;
  is = gains.is;
}

-- what each row holds
holds-each : (v w : View) → ((k : Kind) (e : Edge) → Is k v e → Is k w e) → (live : List Held) → HoldsAll v live → HoldsAll w live
holds-each v w keeps [] all = tt
holds-each v w keeps (x ∷ xs) all = (keeps x.kind x.edge all.0, holds-each v w keeps xs all.1)

holds-counted : (p q : Plain) → IsCounted p q → (live : List Held) → HoldsAll (plain_view p) live → HoldsAll (plain_view q) live
holds-counted p q same = holds-each (plain_view p) (plain_view q) (λ k e is. Is-from k (counted_denotes p q same k e (values_at k (plain_view p) e) is))

holds-lasting : (p q : Plain) → Lasts p q → (live : List Held) → ((k : ℕ) → rows_at k live ≤ count_at p k) → HoldsAll (plain_view p) live → HoldsAll (plain_view q) live
holds-lasting p q lasts [] few all = tt
holds-lasting p q lasts (x ∷ xs) few all = (
  Is-from x.kind (lasts_denotes p q lasts x.kind x.edge (values_at x.kind (plain_view p) x.edge) (let k = x.edge.index in let f = few k in let e : one_if (k == k) ≡ 1 = ap one_if (eq-eqb k k refl) in omega (arith, f, e)) all.0),
  holds-lasting p q lasts xs (λ k. let f = few k in omega (arith, f)) all.1,
)

holds-with : (w : View) (xs ys : List Held) (h : Held) → HoldsAll w (xs ++ ys) → Is h.kind w h.edge → HoldsAll w (xs ++ h ∷ ys)
holds-with w [] ys h all is = (is, all)
holds-with w (x ∷ xs) ys h all is = (all.0, holds-with w xs ys h all.1 is)

holds-without : (w : View) (xs ys : List Held) (h : Held) → HoldsAll w (xs ++ h ∷ ys) → HoldsAll w (xs ++ ys)
holds-without w [] ys h all = all.1
holds-without w (x ∷ xs) ys h all = (all.0, holds-without w xs ys h all.1)

rows-with : (k : ℕ) (xs ys : List Held) (h : Held) → rows_at k (xs ++ h ∷ ys) ≡ rows_at k (xs ++ ys) + one_if (h.edge.index == k)
rows-with k [] ys h = omega arith
rows-with k (x ∷ xs) ys h = let e = rows-with k xs ys h in omega (arith, e)

rows-one : (k : ℕ) (old new : List Held) (h : Held) → IsWithOne old h new → rows_at k new ≡ rows_at k old + one_if (h.edge.index == k)
rows-one k old new h one = ap (rows_at k) one.with_it ∙ rows-with k one.before one.behind h ∙ ap (λ n. n + one_if (h.edge.index == k)) (ap (rows_at k) (sym one.without))

-- the rule lasts

pub rule-new : (vars elements limit : ℕ) (p : Plain) → IsOpening vars elements limit p → ((k : ℕ) → count_at p k ≡ 0) → is_held p ≡ false → IsRowStore (record { store = p; rows = record { live = []; adds = 0; spare = 0 }; made = 0 })
rule-new vars elements limit p new uncounted rest = record { rest = rest; adds = refl; held = tt; counted = uncounted }

pub rule-grown : (d : RowStoreView) (q : Plain) → IsRowStore d → Grown (view_of d) (plain_view q) → IsRowStore (record { store = q; rows = d.rows; made = d.made })
rule-grown d q is grown = record {
  rest = grown.holds ∙ is.rest;
  adds = is.adds;
  held = holds-each (view_of d) (plain_view q) (λ k e here. Is-grown k grown here) d.rows.live is.held;
  counted = λ k. ap (λ (f : ℕ → ℕ). f k) grown.counts ∙ is.counted k;
}

pub rule-added : (d : RowStoreView) (q : Plain) (new : RowMap) (h : Held) → IsRowStore d → IsCounted d.store q → ((k : ℕ) → count_at q k ≡ count_at d.store k + one_if (h.edge.index == k))
    → IsWithOne d.rows.live h new.live → new.adds ≡ d.rows.adds + 1 → Is h.kind (view_of d) h.edge → IsRowStore (record { store = q; rows = new; made = d.made + 1 })
rule-added d q new h is same counts one adds here = record {
  rest = same.holds ∙ is.rest;
  adds = adds ∙ ap (λ n. n + 1) is.adds;
  held = holds-counted d.store q same new.live (subst (HoldsAll (view_of d)) (sym one.with_it) (holds-with (view_of d) one.before one.behind h (subst (HoldsAll (view_of d)) one.without is.held) here));
  counted = λ k. counts k ∙ ap (λ n. n + one_if (h.edge.index == k)) (is.counted k) ∙ sym (rows-one k d.rows.live new.live h one);
}

pub rule-removed : (d : RowStoreView) (q : Plain) (new : RowMap) (h : Held) → IsRowStore d → IsCounted d.store q → ((k : ℕ) → count_at q k + one_if (h.edge.index == k) ≡ count_at d.store k)
    → IsWithOne new.live h d.rows.live → new.adds ≡ d.rows.adds → IsRowStore (record { store = q; rows = new; made = d.made })
rule-removed d q new h is same counts one adds = record {
  rest = same.holds ∙ is.rest;
  adds = adds ∙ is.adds;
  held = holds-counted d.store q same new.live (subst (HoldsAll (view_of d)) (sym one.without) (holds-without (view_of d) one.before one.behind h (subst (HoldsAll (view_of d)) one.with_it is.held)));
  counted = λ k. let a = counts k in let b = is.counted k in let c = rows-one k new.live d.rows.live h one in omega (arith, a, b, c);
}

pub rule-lasting : (d : RowStoreView) (q : Plain) → IsRowStore d → is_held q ≡ false → Lasts d.store q → IsRowStore (record { store = q; rows = d.rows; made = d.made })
rule-lasting d q is rest lasts = record {
  rest = rest;
  adds = is.adds;
  held = holds-lasting d.store q lasts d.rows.live (λ k. let c = is.counted k in omega (arith, c)) is.held;
  counted = λ k. ap (λ (f : ℕ → ℕ). f k) lasts.counts ∙ is.counted k;
}

-- the slot of a row is counted
pub counted-some : (d : RowStoreView) (new : RowMap) (h : Held) → IsRowStore d → IsWithOne new.live h d.rows.live → 0 < count_at d.store h.edge.index
counted-some d new h is one =
    let k = h.edge.index in let b = is.counted k in let c = rows-one k new.live d.rows.live h one in let e : one_if (k == k) ≡ 1 = ap one_if (eq-eqb k k refl) in omega (arith, b, c, e)

-- what a row more, and a row less, leave
pub gained : (d : RowStoreView) (q : Plain) (new : RowMap) (made : ℕ) (h : Name) (k : Kind) (e : Edge) → IsCounted d.store q → IsWithOne d.rows.live (record { name = h; kind = k; edge = e }) new.live
    → All (λ (held : Held). held.name.generation < h.generation) d.rows.live → Is k (view_of d) e → Gains d (record { store = q; rows = new; made = made }) h k e
gained d q new made h k e same one never is =
    let none = none-given d.rows.live h never in record {
      found = finds-more d.rows.live new.live (record { name = h; kind = k; edge = e }) one none;
      unused = none;
      has = has-counted d q same;
      is = Is-from k (counted_denotes d.store q same k e (values_at k (view_of d) e) is);
    }

pub lost : (d : RowStoreView) (q : Plain) (new : RowMap) (made : ℕ) (h : Name) (k : Kind) (e : Edge) → IsCounted d.store q → IsWithOne new.live (record { name = h; kind = k; edge = e }) d.rows.live
    → find_row new.live h ≡ None → Loses d (record { store = q; rows = new; made = made }) h
lost d q new made h k e same one gone = record { found = λ name. by name (same_name name h) refl; has = has-counted d q same }
  where
    more : (name : Name) → find_row d.rows.live name ≡ cond (same_name name h) (Some (record { name = h; kind = k; edge = e })) (find_row new.live name)
    more = finds-more new.live d.rows.live (record { name = h; kind = k; edge = e }) one gone

    by : (name : Name) (b : Bool) → same_name name h ≡ b → find_row new.live name ≡ cond (same_name name h) None (find_row d.rows.live name)
    by name true is = ap (find_row new.live) (same_name-eq name h is) ∙ gone ∙ sym (ap (λ b. cond b None (find_row d.rows.live name)) is)
    by name false is = sym (more name ∙ ap (λ b. cond b (Some (record { name = h; kind = k; edge = e })) (find_row new.live name)) is) ∙ sym (ap (λ b. cond b None (find_row d.rows.live name)) is)
