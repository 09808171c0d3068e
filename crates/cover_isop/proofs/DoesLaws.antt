-- Steps of Morreale's calls, one after another.
use Rattle.std.proofs.Common.{◌≡◌, ℕ, true, inl, inr, Some, Result, Ok, Err, IfOk, refl, ap, sym, ◌∙◌, subst, arith}
use Rattle.std.specs.Prelude.{◌⊎◌, IsErrOf, IsOkAnd}
use Rattle.std.proofs.lemmas.Result.{IfOk-weaker}
use Rattle.edge_bits.specs.declared.edges.Edge.{Edge}
use Rattle.edge_bits.specs.declared.edges.Kind.{Kind}
use Rattle.function_laws.specs.Kinds.{Denoted, ValueOf, function_of}
use Rattle.node_store.specs.Operations.{RunsTo, halts}
use Rattle.node_store.specs.Views.{View, Denotes, Grown, Kept, Rose}
use Rattle.node_store.specs.Work.{Moves, whole}
use Rattle.node_store.specs.WorkLaws.{IsWork-due, Moves-kept, Moves-made}
use Rattle.node_store.specs.declared.grow.Stop.{Stop}
use Rattle.node_store.specs.declared.grow.Stop.TheVariants.{Memory, Full}
use Rattle.node_store.specs.declared.operator.Halt.TheVariants as halt
use Rattle.node_store.proofs.Running.{IsWork-named, Serves-named, told, told_full}
use Rattle.cover_isop.specs.Isops.{Does, HasBounds, isop_work}
use Rattle.cover_isop.specs.IsopLasts.{Isop-both, isop_work-stays}

module _ (l u : Edge) where
  abbrev pub IsopMoved : View → View → Type 0
  IsopMoved v w = Moves (λ x. HasBounds x l u) (isop_work l u) v w

  -- a step after what was done before
  pub after : {X : Type 0} {P : X → Type 0} {a v w : View} {r : Result X Stop} → IsopMoved a v → Does P l u v w r → Does P l u a w r
  after {a = a} {v = v} {w = w} m d = record {
    moved = Isop-both l u a v w m d.moved;
    answer = d.answer;
    memory = λ is. m.grown.wants (d.memory is);
    full = λ is few. (let f = d.full is few in let g = m.grown.fulls in omega (arith, f, g));
    due = d.due;
  }

  pub after_kept : {X : Type 0} {P : X → Type 0} {a v w : View} {r : Result X Stop} → Kept a v → Does P l u v w r → Does P l u a w r
  after_kept {a = a} {v = v} k d = after (Moves-kept (λ x. HasBounds x l u) (isop_work l u) a v k) d

  -- a stop is handed on
  one_stop : {Y : Type 0} (r : Result Y Stop) → r ≡ Err Memory → r ≡ Err Full → ⊥
  one_stop r p q = cc

  pub failed : {X Y : Type 0} {P : X → Type 0} {Q : Y → Type 0} {v w : View} (e : Stop) → Does P l u v w (Err e) → Does Q l u v w (Err e)
  failed Memory d = record { moved = d.moved; answer = tt; memory = λ is. d.memory refl; full = λ is. absurd (one_stop (Err Memory) refl is); due = λ is. absurd (one_stop (Err Memory) refl is) }
  failed Full d = record { moved = d.moved; answer = tt; memory = λ is. absurd (one_stop (Err Full) is refl); full = λ is. d.full refl; due = λ is. d.due refl }

  -- what was answered
  pub answered : {X : Type 0} {P : X → Type 0} {v w : View} (x : X) → IsopMoved v w → P x → Does P l u v w (Ok x)
  answered {X} x m is = record { moved = m; answer = is; memory = λ bad. absurd (never bad); full = λ bad. absurd (never bad); due = λ bad. absurd (never bad) }
    where
      never : {e : Stop} → Ok x ≡ Err e → ⊥
      never bad = cc

  -- a run within, whose work is the call's
  told_memory : (r : Result Edge Stop) → IsErrOf r Memory → IsErrOf (halts r) halt.Memory
  told_memory (Ok e) is = cc
  told_memory (Err Memory) is = refl
  told_memory (Err Full) is = cc

  pub runs_do : {A : Edge → Type 0} {O : Type 0} {W : Denoted → Type 0} {v w : View} (r : Result Edge Stop) → HasBounds v l u → ((F : Denoted) → W F → isop_work l u v F) → RunsTo A O W v w (halts r) → Does A l u v w r
  runs_do {A} {O} {W} {v} {w} r roots more run = record {
    moved = record {
      grown = run.grown;
      work = λ has s here. elim (run.work s here) [ inl old ↦ inl old | inr i ↦ inr (IsWork-named (λ F is. isop_work-stays run.grown F roots.two (more F is)) i) ];
    };
    answer = told A r run.answer;
    memory = λ is. elim (run.memory (told_memory r is)) [ inl never ↦ absurd never | inr may ↦ may ];
    full = λ is. run.full (told_full r is);
    due = λ is. IsWork-named (λ F is. isop_work-stays run.grown F roots.two (more F is)) (run.due (told_full r is));
  }

  -- a run for one function, under the name that it has in an earlier view
  pub value_does : (k : Kind) {O : Type 0} {v a w : View} {value : ℕ → ValueOf k} (named : ℕ → ValueOf k) (r : Result Edge Stop) → HasBounds v l u → HasBounds a l u → Grown v a → isop_work l u v (function_of k named) → value ≡ named
      → RunsTo (λ e. Denotes k w e value) O (λ F. F ≡ function_of k value) a w (halts r) → Does (λ e. Denotes k w e named) l u a w r
  value_does k {O} {v} {a} {w} {value} named r first roots m work same run =
      runs_do r roots (λ F is. subst (isop_work l u a) (sym (is ∙ ap (function_of k) same)) (isop_work-stays m (function_of k named) first.two work))
      (Serves-named (λ e is. subst (Denotes k w e) same is) (λ o. o) (λ F is. is) run)

  -- a node is made that denotes a function of the work
  pub make_does : (k : Kind) {v w : View} (value : ℕ → ValueOf k) (r : Result Edge Stop) → HasBounds v l u → isop_work l u v (function_of k value) → Grown v w
      → ((s : ℕ) → w.made s ≡ true → (v.made s ≡ true) ⊎ IsOkAnd r (λ e. e.index ≡ s)) → IfOk r (λ e. Denotes k w e value)
      → (IsErrOf r Memory → v.may_want_memory ≡ true) → (IsErrOf r Full → Rose v w) → (IsErrOf r Full → w.due ≡ Some (function_of k value))
      → Does (λ e. Denotes k w e value) l u v w r
  make_does k {v} {w} value (Ok e) roots work m made ok memory full due =
      answered e (Moves-made k (λ x. HasBounds x l u) (isop_work l u) v w e value value m made (λ _. isop_work-stays m (function_of k value) roots.two work) whole ok) ok
  make_does k {v} {w} value (Err stop) roots work m made ok memory full due = record {
    moved = record { grown = m; work = λ has s here. elim (made s here) [ inl old ↦ inl old | inr never ↦ absurd never ] };
    answer = tt;
    memory = memory;
    full = full;
    due = λ is. IsWork-due k w (isop_work l u w) value value (isop_work-stays m (function_of k value) roots.two work) whole (due is);
  }

  -- an answer under another name
  pub named : {X : Type 0} {P Q : X → Type 0} {v w : View} {r : Result X Stop} → ((x : X) → P x → Q x) → Does P l u v w r → Does Q l u v w r
  named {P = P} {Q = Q} {r = r} more d = record { moved = d.moved; answer = IfOk-weaker r P Q more d.answer; memory = d.memory; full = d.full; due = d.due }
