-- A frame of an operator of two parts lasts while the store grows.
use Rattle.std.proofs.Common.{◌≡◌, ℕ, arith}
use Rattle.node_store.specs.Views.{View, Grown}
use Rattle.node_store.specs.ViewLaws.{Grown-refl, Grown-trans}
use Rattle.node_store.specs.Splits.{Leads, WaitIs, Waiting}
use Rattle.edge_bits.specs.declared.edges.Edge.{Edge}
use Rattle.node_store.specs.declared.operator.Task.{Task}
use Rattle.node_store.specs.declared.operator.Wait.{Wait}
use Rattle.node_store.specs.declared.operator.Wait.TheVariants.{Only, First, Second, Third, Fourth}
use Rattle.node_store.specs.declared.operator.Frame.{Frame}

module _ (Due : View → Task → Type 0) (Answers : View → Task → Edge → Type 0) (Overflows : View → Task → Type 0)
    (Splits : View → Task → ℕ → Task → Task → Type 0) (Depth : View → Task → ℕ) where
  pub Leads-stays : (v w : View) (root : Task) (task : Task) (f : Frame) → Grown v w
      → Leads Answers Overflows v root f.flip task → Leads Answers Overflows w root f.flip task
  Leads-stays v w root task f m l = record {
    gives = λ x e n. l.gives x e (Grown-trans m n);
    over = λ x n. l.over x (Grown-trans m n);
  }

  pub Waiting-stays : ((v w : View) (t : Task) → Grown v w → Due v t → Due w t)
      → ((v w : View) (t : Task) (e : Edge) → Grown v w → Due v t → Answers v t e → Answers w t e)
      → ((v w : View) (t : Task) (x : ℕ) (a b : Task) → Grown v w → Due v t → Splits v t x a b → Splits w t x a b)
      → ((v w : View) (t : Task) → Grown v w → Due v t → Depth w t ≡ Depth v t)
      → (v w : View) (root : Task) (f : Frame) (child : Task) → Grown v w → Due v root
      → Waiting Due Answers Overflows Splits Depth v root f child → Waiting Due Answers Overflows Splits Depth w root f child
  Waiting-stays due answers splits depth v w root f child m d q = record {
    due = due v w f.task m q.due;
    leads = Leads-stays v w root f.task f m q.leads;
    wait = step f.wait q.wait;
  }
    where
      step : (s : Wait) → WaitIs Due Answers Splits Depth v root f child s → WaitIs Due Answers Splits Depth w root f child s
      step Only h = h
      step (First lo) a = record {
        splits = splits v w f.task f.var child lo m q.due a.splits;
        hi_due = due v w child m a.hi_due;
        lo_due = due v w lo m a.lo_due;
        lo_less = let p = depth v w lo m a.lo_due in let r = depth v w root m d in let l = a.lo_less in omega arith;
      }
      step (Second hi) (t, a) = (
        t,
        record {
          splits = splits v w f.task f.var t child m q.due a.splits;
          hi_due = due v w t m a.hi_due;
          hi_is = answers v w t hi m a.hi_due a.hi_is;
        },
      )
      step (Third a b) h = h
      step (Fourth a b c) h = h

  pub Waiting-overflows : ((w : View) (t : Task) (x : ℕ) (a b : Task) → Due w t → Splits w t x a b → Overflows w a → Overflows w t)
      → ((w : View) (t : Task) (x : ℕ) (a b : Task) → Due w t → Splits w t x a b → Overflows w b → Overflows w t)
      → (w : View) (root : Task) (f : Frame) (child : Task)
      → Waiting Due Answers Overflows Splits Depth w root f child → Overflows w child → Overflows w root
  Waiting-overflows hi lo w root f child q over = q.leads.over w (Grown-refl w) (step f.wait q.wait)
    where
      step : (s : Wait) → WaitIs Due Answers Splits Depth w root f child s → Overflows w f.task
      step Only h = absurd h
      step (First b) a = hi w f.task f.var child b q.due a.splits over
      step (Second e) (t, a) = lo w f.task f.var t child q.due a.splits over
      step (Third a b) h = absurd h
      step (Fourth a b c) h = absurd h
