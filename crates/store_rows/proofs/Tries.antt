-- The tries of a making.
use Rattle.std.proofs.Common.{◌≡◌, inl, inr, ℕ, List, Option, Some, None, Result, Ok, Err, IfOk, ap, refl, sym, subst, ◌∙◌}
use Rattle.std.specs.Prelude.{IsErrOf, OnErr}
use Rattle.edge_bits.specs.declared.edges.Edge.{Edge}
use Rattle.function_laws.specs.declared.history.Name.{Name}
use Rattle.function_laws.specs.declared.making.Making.{Making}
use Rattle.function_laws.specs.Kinds.{Denoted}
use Rattle.function_laws.specs.Makings.{kind_made, taken}
use Rattle.handle_count.specs.declared.rows.Held.{Held}
use Rattle.node_slots.specs.Stores.{HasNoFree, IsStore, Plain, content_of, plain_view, refused_function}
use Rattle.node_slots.specs.declared.plain_store.Refused.{Refused}
use Rattle.node_store.specs.declared.grow.Stop.{Stop}
use Rattle.node_store.specs.declared.grow.Stop.TheVariants as stops
use Rattle.node_store.specs.ViewLaws.{Grown-refl}
use Rattle.node_store.specs.Views.{View, Grown, Is}
use Rattle.node_store.specs.Work.{IsWork}
use Rattle.operator_calls.specs.declared.unmade.Unmade.{Unmade}
use Rattle.operator_calls.specs.Making.{RunsMaking, answer, told_by, unmade, work}
use Rattle.operator_calls.specs.Taking.{CanTakeAll}
use Rattle.store_rows.specs.MadeRows.{CanMake, IsFull, MadeFrom, Tells, by_edges}
use Rattle.store_rows.specs.RowStores.{Gains, IsLiveAs, RowStoreView, Same, differs_in_counts, view_of}
use Rattle.store_rows.proofs.Answering.{answer-counted, answer-is}
use Rattle.store_rows.proofs.Changes.{gains-then, has-grown, has-then, same-refl, same-then}

-- what is due after a refusal is a part of the work which no edge denotes, and each slot has a word
pub full-told : (making : Making Edge (List ℕ) (List (ℕ × Edge))) (v : View) (p : Plain) → IsStore p → IsWork (plain_view p) (work making v) (plain_view p).due → IsFull making v p
full-told making v p st part = by (plain_view p).due refl part
  where
    nothing_due : (r : Option Refused) (f : Denoted) → refused_function (content_of p) r ≡ Some f → p.due ≡ r → HasNoFree p
    nothing_due None f is none = absurd (let z : None ≡ Some f = is in cc)
    nothing_due (Some r) f is due = st.refused r due

    by : (o : Option Denoted) → (plain_view p).due ≡ o → IsWork (plain_view p) (work making v) o → IsFull making v p
    by None none part = elim part.is [ inl e ↦ absurd (let z : None ≡ Some _ = e in cc) | inr e ↦ absurd (let z : None ≡ Some _ = e in cc) ]
    by (Some f) due part = record { function = f; part = part; unknown = st.missing f due; none_free = nothing_due p.due f due refl }

-- what was made
pub nested : (made : Result (Result Edge Unmade) Stop) (one two : Result Edge Unmade) → made ≡ Ok one → one ≡ two → made ≡ Ok two
nested made one two is inner = is ∙ ap (λ (r : Result Edge Unmade). Ok r) inner

-- the same rows in a store that a run let grow
pub same-run : (a b : RowStoreView) → b.rows ≡ a.rows → Grown (view_of a) (view_of b) → Same a b
same-run a b rows grown = record { live = ap (λ r. r.live) rows; has = has-grown a (view_of b) grown }

module _ (a b : RowStoreView) (making : Making Name (List ℕ) (List (ℕ × Name))) (edges : Making Edge (List ℕ) (List (ℕ × Edge))) (named : edges ≡ by_edges a.rows.live making) (made : Result (Result Edge Unmade) Stop)
    (runs : RunsMaking edges (view_of a) (view_of b) made) (rows : b.rows ≡ a.rows) where
  same : Same a b
  same = same-run a b rows runs.grown

  pub edge-is : (e : Edge) → made ≡ Ok (Ok e) → Is (kind_made edges) (view_of b) e
  edge-is e is = answer-is edges (view_of a) (view_of b) e (subst (λ r. IfOk r (told_by edges (view_of a) (view_of b))) is runs.told)

  -- a row was added for what was made
  pub told-made : (c : RowStoreView) (e : Edge) (h : Name) → made ≡ Ok (Ok e) → Gains b c h (kind_made edges) e → differs_in_counts (view_of b) (view_of c) → Tells a c making (Ok (Ok h))
  told-made c e h is gains counts = record {
    from = view_of a;
    has = has-grown a (view_of a) (Grown-refl (view_of a));
    made = (
      e,
      subst (λ (m : Making Edge (List ℕ) (List (ℕ × Edge))). Gains a c h (kind_made m) e) named (gains-then a b c h (kind_made edges) e same gains),
      subst (λ (m : Making Edge (List ℕ) (List (ℕ × Edge))). answer m (view_of a) (view_of c) e) named
          (answer-counted edges (view_of a) (view_of b) (view_of c) e counts (subst (λ r. IfOk r (told_by edges (view_of a) (view_of b))) is runs.told)),
    );
  }

  -- there is none
  pub told-unmade : (why : Unmade) → made ≡ Ok (Err why) → Tells a b making (Ok (Err why))
  told-unmade why is = record {
    from = view_of a;
    has = has-grown a (view_of a) (Grown-refl (view_of a));
    made = (same, subst (λ (m : Making Edge (List ℕ) (List (ℕ × Edge))). unmade m (view_of a) why) named (subst (λ r. IfOk r (told_by edges (view_of a) (view_of b))) is runs.told));
  }

  -- it was refused
  pub told-stopped : (stop : Stop) → (stop ≡ stops.Full → IsFull edges (view_of a) b.store) → Tells a b making (Err stop)
  told-stopped stop full = record {
    same = same;
    from = view_of a;
    has = has-grown a (view_of a) (Grown-refl (view_of a));
    full = λ is. subst (λ (m : Making Edge (List ℕ) (List (ℕ × Edge))). IsFull m (view_of a) b.store) named (full is);
  }

  -- or there was no memory for the row
  pub told-rowless : (c : RowStoreView) → c ≡ b → Tells a c making (Err stops.Memory)
  told-rowless c is = subst (λ (x : RowStoreView). Tells a x making (Err stops.Memory)) (sym is) (told-stopped stops.Memory (λ e. cc))

-- want of memory before all
pub told-before : (a : RowStoreView) (making : Making Name (List ℕ) (List (ℕ × Name))) → Tells a a making (Err stops.Memory)
told-before a making = record { same = same-refl a; from = view_of a; has = has-grown a (view_of a) (Grown-refl (view_of a)); full = λ e. cc }

-- a try after what changed no row
pub can-then : (a b : RowStoreView) (making : Making Name (List ℕ) (List (ℕ × Name))) → Same a b → CanMake a making → CanMake b making
can-then a b making same can =
    subst (λ (z : ℕ × ℕ). CanTakeAll (λ k h. IsLiveAs k b.rows.live h) z.0 z.0 z.1 (taken making)) (λ i. (sym same.has.vars i, sym same.has.elements i))
    (subst (λ (l : List Held). CanTakeAll (λ k h. IsLiveAs k l h) (view_of a).vars (view_of a).vars (view_of a).elements (taken making)) (sym same.live) can)

tells-from : (a b c : RowStoreView) (making : Making Name (List ℕ) (List (ℕ × Name))) (from : View) (told : Result Name Unmade) → Same a b → MadeFrom b c making from told → MadeFrom a c making from told
tells-from a b c making from (Ok h) same made =
    subst (λ (l : List Held). (e : Edge) × Gains a c h (kind_made (by_edges l making)) e × answer (by_edges l making) from (view_of c) e) same.live
    (made.0, gains-then a b c h (kind_made (by_edges b.rows.live making)) made.0 same made.1, made.2)
tells-from a b c making from (Err why) same made = (same-then a b c same made.0, subst (λ (l : List Held). unmade (by_edges l making) from why) same.live made.1)

pub tells-then : (a b c : RowStoreView) (making : Making Name (List ℕ) (List (ℕ × Name))) (result : Result (Result Name Unmade) Stop) → Same a b → Tells b c making result → Tells a c making result
tells-then a b c making (Ok told) same tells = record { from = tells.from; has = has-then a b tells.from same tells.has; made = tells-from a b c making tells.from told same tells.made }
tells-then a b c making (Err stop) same tells = record {
  same = same-then a b c same tells.same;
  from = tells.from;
  has = has-then a b tells.from same tells.has;
  full = λ is. subst (λ (l : List Held). IsFull (by_edges l making) tells.from c.store) same.live (tells.full is);
}

-- what holds of a refusal, where it was refused
pub on-err : {T E : Type 0} (result : Result T E) (stop : E) (P : Type 0) → IsErrOf result stop → OnErr result P → P
on-err (Ok x) stop P is of = absurd (let z : Ok x ≡ Err stop = is in cc)
on-err (Err e) stop P is of = of
