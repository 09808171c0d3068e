-- The tries of an operation.
use Rattle.std.proofs.Common.{◌≡◌, ◌⊎◌, inl, inr, ℕ, Bool, Contains, List, Result, IfOk, ap, ap₂, sym, ◌∙◌}
use Rattle.std.specs.Prelude.{IsErrOf}
use Rattle.edge_bits.specs.declared.edges.Edge.{Edge}
use Rattle.function_laws.specs.declared.history.Function.{Function}
use Rattle.function_laws.specs.Kinds.{Denoted}
use Rattle.function_laws.specs.declared.making.Making.{Making}
use Rattle.node_store.specs.declared.grow.Stop.{Stop}
use Rattle.node_store.specs.declared.grow.Stop.TheVariants as stop
use Rattle.node_store.specs.Views.{View, Grown, Kept}
use Rattle.node_store.specs.Work.{Adds, IsWork}
use Rattle.node_store.specs.WorkLaws.{IsPart-back}
use Rattle.node_slots.specs.Stores.{IsStore}
use Rattle.dead_sweep.specs.declared.sweeping.Swept.{Swept}
use Rattle.dead_sweep.specs.Swept.{IsSwept}
use Rattle.node_slots.specs.Held.{Alone}
use Rattle.node_slots.specs.Wholes.{content_view}
use Rattle.operator_calls.specs.declared.unmade.Unmade.{Unmade}
use Rattle.operator_calls.specs.Making.{RunsMaking, told_by, work}
use Rattle.shared_store.specs.declared.shared.Shared.{Shared}
use Rattle.seat_guard.specs.declared.view.Counts.{Counts}
use Rattle.seat_guard.specs.declared.view.Draws.{Draws}
use Rattle.shared_store.specs.Sharing.{Serving, functions, view_of, whole_in}
use Rattle.shared_store.specs.Storing.{IsListedWork, StoresOnly}
use Rattle.shared_store.proofs.Lasting.{serves-grown}
use Rattle.shared_store.proofs.Ordered.{orders-grown}
use Rattle.shared_store.proofs.Stored.{due-listed, stores-grown}
use Rattle.shared_store.proofs.Storing.{stores-then}
use Rattle.dd_session.specs.Turns.{IsAsked, IsWorkFor, Ran, Tried}

-- a part of the work in the store that has grown is one in the store before
listed-back : (v w : View) (Work : Denoted → Type 0) (f : Function) → Grown v w → IsListedWork w Work f → IsListedWork v Work f
listed-back v w Work f grown is = let work = is.1 in (
  is.0,
  record { kind = work.kind; root = work.root; part = work.part; asked = work.asked; is_part = IsPart-back work.kind grown work.root work.part work.is_part; is = work.is },
  is.2 ∙ ap₂ (λ n m. whole_in n m is.0) grown.vars grown.elements,
)

pub stores-weaker : (P Q : Function → Type 0) (x y : Shared) → ((f : Function) → P f → Q f) → StoresOnly P x y → StoresOnly Q x y
stores-weaker P Q x y weaker stores f c = by (stores f c)
  where
    by : Contains (functions x) f ⊎ P f → Contains (functions x) f ⊎ Q f
    by (inl there) = inl there
    by (inr has) = inr (weaker f has)

module _ {X : Type 0} (Answers : View → View → X → Type 0) (Work : View → Denoted → Type 0) where
  ran_of : (x y : Shared) (made : Result X Stop) → IsStore x.store → IsStore y.store → y.cells.items ≡ x.cells.items → Grown (view_of x) (view_of y) → Adds (Work (view_of x)) (view_of x) (view_of y)
      → IfOk made (Answers (view_of x) (view_of y)) → (IsErrOf made stop.Full → IsWork (view_of y) (Work (view_of x)) (view_of y).due) → Ran Answers Work x y made
  ran_of x y made of of' cells grown adds answer due = let same = orders-grown x.store y.store of of' grown in record {
    store = of;
    grown = grown;
    cells = cells;
    orders_are = λ i. record { variables = same.0 i; elements = same.1 i };
    answer = answer;
    stored = stores-grown x y of of' (Work (view_of x)) grown adds;
    due_is = λ is. let d = due-listed y (Work (view_of x)) (due is) in (d.0, d.1, listed-back (view_of x) (view_of y) (Work (view_of x)) d.0 grown d.2);
  }

  module _ (d : Draws) (c : Counts) where
    -- the first try is the last
    pub tried_once : (x y : Shared) (made : Result X Stop) → (IsErrOf made stop.Full → ⊥) → Serving x d c → Ran Answers Work x y made → Tried d c Answers Work x y made
    tried_once x y made free serves ran = record {
      swept = λ full. absurd (free full);
      from = x;
      serves = serves;
      ran = ran;
      stored = stores-weaker (IsListedWork (view_of x) (Work (view_of x))) (IsWorkFor d c Work) x y (λ f is. (x, serves, ran.store, is)) ran.stored;
    }

    -- after a sweep, which stores nothing
    pub tried_after : (x y z : Shared) (made : Result X Stop) (swept : Swept) → IsSwept Alone (content_view x.store) (content_view y.store) swept → Serving x d c → Serving y d c → StoresOnly (λ _. ⊥) x y → Ran Answers Work y z made → Tried d c Answers Work x z made
    tried_after x y z made swept is before serves none ran = record {
      swept = λ full. (x, before, swept, is);
      from = y;
      serves = serves;
      ran = ran;
      stored = stores-then (IsWorkFor d c Work) x y z (stores-weaker (λ _. ⊥) (IsWorkFor d c Work) x y (λ f is. absurd is) none) (stores-weaker (IsListedWork (view_of y) (Work (view_of y))) (IsWorkFor d c Work) y z (λ f is. (y, serves, ran.store, is)) ran.stored);
    }

-- a making of edges
pub ran_told : (making : Making Edge (List ℕ) (List (ℕ × Edge))) (x y : Shared) (made : Result (Result Edge Unmade) Stop) → IsStore x.store → IsStore y.store → y.cells.items ≡ x.cells.items
    → RunsMaking making (view_of x) (view_of y) made → Ran (told_by making) (work making) x y made
ran_told making x y made of of' cells runs = ran_of (told_by making) (work making) x y made of of' cells runs.grown runs.stored runs.told runs.due

-- what is made of no work is nothing
made_of_none : (x y : Shared) → StoresOnly (IsListedWork (view_of x) (λ _. ⊥)) x y → StoresOnly (λ _. ⊥) x y
made_of_none x y = stores-weaker (IsListedWork (view_of x) (λ _. ⊥)) (λ _. ⊥) x y (λ f is. is.1.asked)

-- what a call that makes nothing leaves
pub asked : (x y : Shared) → IsStore x.store → IsStore y.store → Kept (view_of x) (view_of y) → y.cells.items ≡ x.cells.items → IsAsked x y
asked x y of of' kept cells = let same = orders-grown x.store y.store of of' kept.grown in record {
  serves = λ d c serves. serves-grown x y d c kept.grown cells (λ i. record { variables = same.0 i; elements = same.1 i }) serves;
  stored = made_of_none x y (stores-grown x y of of' (λ _. ⊥) kept.grown (λ s made. inl (sym (ap (λ (f : ℕ → Bool). f s) kept.made) ∙ made)));
}
