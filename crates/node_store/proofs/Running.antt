-- What a run of an operator on a stack promises, and what stays of it around the run.
use Rattle.std.proofs.Common.{◌≡◌, ℕ, Bool, true, Option, Some, inl, inr, Result, Ok, Err, IfOk, refl, ap, sym, ◌∙◌, subst, arith}
use Rattle.std.specs.Prelude.{◌⊎◌, IsErrOf, IsOkAnd}
use Rattle.std.proofs.lemmas.Result.{IfOk-weaker}
use Rattle.edge_bits.specs.declared.edges.Edge.{Edge}
use Rattle.edge_bits.specs.declared.edges.Kind.{Kind}
use Rattle.function_laws.specs.Kinds.{Denoted, ValueOf, function_of, opposite}
use Rattle.node_store.specs.Operations.{Calls, RunsTo, Serves, halts}
use Rattle.node_store.specs.Views.{View, Denotes, Grown, Kept, Rose}
use Rattle.node_store.specs.Stacks.{Scratch}
use Rattle.node_store.specs.ViewLaws.{Grown-refl, Grown-trans}
use Rattle.node_store.specs.Two.{Overflows}
use Rattle.node_store.specs.Work.{Adds, IsWork, Moves, whole}
use Rattle.node_store.specs.WorkLaws.{IsPart-grown, IsWork-due, IsWork-edge, IsWork-grown}
use Rattle.node_store.specs.declared.grow.Stop.{Stop}
use Rattle.node_store.specs.declared.grow.Stop.TheVariants as stop
use Rattle.node_store.specs.declared.operator.Halt.{Halt}
use Rattle.node_store.specs.declared.operator.Halt.TheVariants.{Memory, Full, Overflow}

-- work under another name
pub IsWork-named : {P Q : Denoted → Type 0} → ((f : Denoted) → P f → Q f) → {w : View} {o : Option Denoted} → IsWork w P o → IsWork w Q o
IsWork-named {P} {Q} more {w} {o} i = IsWork-grown (Grown-refl w) P Q more o i

-- what an operator on a call's operands did, by the work at its start
pub runs : {Roots : View → Type 0} {Work : View → Denoted → Type 0} {Q : Denoted → Type 0} {IsAnswer : Edge → Type 0} {IsOver : Type 0} {old new : View} {r : Result Edge Halt}
    → Moves Roots Work old new → Roots old → ((f : Denoted) → Work new f → Q f)
    → IfOk r IsAnswer → (IsErrOf r Overflow → IsOver) → (IsErrOf r Memory → old.may_want_memory ≡ true) → (IsErrOf r Full → Rose old new) → (IsErrOf r Full → IsWork new (Work new) new.due)
    → RunsTo IsAnswer IsOver Q old new r
runs moves roots back answer overflow memory full due = record {
  grown = moves.grown;
  room = tt;
  answer = answer;
  overflow = overflow;
  work = λ s here. elim (moves.work roots s here) [ inl old ↦ inl old | inr i ↦ inr (IsWork-named back i) ];
  memory = λ is. inr (memory is);
  full = full;
  due = λ is. IsWork-named back (due is);
}

-- calls that make nothing, before and after a run
pub Adds-between : (P Q : Denoted → Type 0) → ((f : Denoted) → P f → Q f) → (a b c d : View) → Kept a b → Kept c d → Adds P b c → Adds Q a d
Adds-between P Q more a b c d before after adds s here =
    elim (adds s (ap (λ (x : ℕ → Bool). x s) (sym after.made) ∙ here)) [
      | inl old ↦ inl (ap (λ (x : ℕ → Bool). x s) (sym before.made) ∙ old)
      | inr i ↦ inr (record {
        kind = i.kind;
        root = i.root;
        part = i.part;
        asked = more (function_of i.kind i.root) i.asked;
        is_part = IsPart-grown i.kind after.grown i.root i.part i.is_part;
        is = elim i.is [ inl e ↦ inl (after.grown.content s (function_of i.kind i.part) e) | inr e ↦ inr (after.grown.content s (opposite (function_of i.kind i.part)) e) ];
      })
    ]

pub IsWork-between : (P Q : Denoted → Type 0) → ((f : Denoted) → P f → Q f) → (c d : View) → Kept c d → IsWork c P c.due → IsWork d Q d.due
IsWork-between P Q more c d after i = subst (IsWork d Q) (sym after.due) (IsWork-grown after.grown P Q more c.due i)

-- an answer under another name of its function
pub same_answer : (k : Kind) (w : View) (f g : ℕ → ValueOf k) → f ≡ g → (r : Result Edge Halt) → IfOk r (λ e. Denotes k w e f) → IfOk r (λ e. Denotes k w e g)
same_answer k w f g same r ok = subst (λ h. IfOk r (λ e. Denotes k w e h)) same ok

-- nothing of the scratch changed
pub same_scratch : (old new : Scratch) → new.frames ≡ old.frames → new.free ≡ old.free → new.answers ≡ old.answers → new.marks ≡ old.marks → new ≡ old
same_scratch old new frames free answers marks = rw (frames, free, answers, marks) refl

-- an answer that lasts
pub lasting : (P Q : Edge → Type 0) (r : Result Edge Halt) → ((e : Edge) → P e → Q e) → IfOk r P → IfOk r Q
lasting P Q (Ok e) more ok = more e ok
lasting P Q (Err _) more ok = tt

-- a run after a call that makes nothing
pub after_kept : {IsAnswer : Edge → Type 0} {IsOver : Type 0} {Work : Denoted → Type 0} {old mid new : View} {r : Result Edge Halt}
    → Kept old mid → RunsTo IsAnswer IsOver Work mid new r → RunsTo IsAnswer IsOver Work old new r
after_kept {IsAnswer} {IsOver} {Work} {old} {mid} {new} {r} kept run = record {
  grown = Grown-trans kept.grown run.grown;
  room = tt;
  answer = run.answer;
  overflow = run.overflow;
  work = λ s here. elim (run.work s here) [ inl was ↦ inl (ap (λ (h : ℕ → Bool). h s) (sym kept.made) ∙ was) | inr i ↦ inr i ];
  memory = λ is. elim (run.memory is) [ inl short ↦ absurd short | inr may ↦ inr (kept.grown.wants may) ];
  full = λ is few. (let a = run.full is few in let k = kept.fulls in omega (arith, a, k));
  due = run.due;
}

-- what one call of a store for a function's own node or leaf promises, after a call that makes nothing
pub stored_calls : (k : Kind) (value : ℕ → ValueOf k) (v u w : View) (r : Result Edge Stop) → Kept v u → u.room ≡ v.room → Grown u w → w.room ≡ u.room
    → ((s : ℕ) → w.made s ≡ true → (u.made s ≡ true) ⊎ IsOkAnd r (λ e. e.index ≡ s)) → IfOk r (λ e. Denotes k w e value)
    → (IsErrOf r stop.Memory → u.may_want_memory ≡ true) → (IsErrOf r stop.Full → Rose u w) → (IsErrOf r stop.Full → w.due ≡ Some (function_of k value))
    → Calls k value (λ F. F ≡ function_of k value) v w (halts r)
stored_calls k value v u w r kept first m second made ok memory full due = record {
  grown = Grown-trans kept.grown m;
  room = omega arith;
  answer = by_answer r ok;
  overflow = by_overflow r;
  work = λ s here. by_made r ok s (elim (made s here) [ inl old ↦ inl (ap (λ (h : ℕ → Bool). h s) (sym kept.made) ∙ old) | inr new ↦ inr new ]);
  memory = λ is. inr (kept.grown.wants (by_memory r memory is));
  full = λ is few. (let a = by_full r full is few in let b = kept.fulls in omega (arith, a, b));
  due = λ is. IsWork-due k w (λ F. F ≡ function_of k value) value value refl whole (by_full r due is);
}
  where
    by_answer : (r : Result Edge Stop) → IfOk r (λ e. Denotes k w e value) → IfOk (halts r) (λ e. Denotes k w e value)
    by_answer (Ok e) ok = ok
    by_answer (Err s) ok = tt

    by_made : {P : Type 0} (r : Result Edge Stop) → IfOk r (λ e. Denotes k w e value) → (s : ℕ) → P ⊎ IsOkAnd r (λ e. e.index ≡ s) → P ⊎ IsWork w (λ F. F ≡ function_of k value) (w.content s)
    by_made r ok s (inl old) = inl old
    by_made (Ok e) ok s (inr same) = inr (subst (λ x. IsWork w (λ F. F ≡ function_of k value) (w.content x)) same (IsWork-edge k w (λ F. F ≡ function_of k value) e value value refl whole ok))
    by_made (Err stop) ok s (inr bad) = absurd bad

    by_overflow : (r : Result Edge Stop) → IsErrOf (halts r) Overflow → Overflows k value
    by_overflow (Ok e) is = cc
    by_overflow (Err stop.Memory) is = cc
    by_overflow (Err stop.Full) is = cc

    by_memory : {P : Type 0} (r : Result Edge Stop) → (IsErrOf r stop.Memory → P) → IsErrOf (halts r) Memory → P
    by_memory (Ok e) more is = cc
    by_memory (Err stop.Memory) more is = more refl
    by_memory (Err stop.Full) more is = cc

    by_full : {P : Type 0} (r : Result Edge Stop) → (IsErrOf r stop.Full → P) → IsErrOf (halts r) Full → P
    by_full (Ok e) more is = cc
    by_full (Err stop.Memory) more is = cc
    by_full (Err stop.Full) more is = more refl

-- what an outcome says that is never out of range
pub told : (P : Edge → Type 0) (r : Result Edge Stop) → IfOk (halts r) P → IfOk r P
told P (Ok e) ok = ok
told P (Err s) ok = tt

pub told_full : (r : Result Edge Stop) → IsErrOf r stop.Full → IsErrOf (halts r) Full
told_full (Ok e) is = cc
told_full (Err stop.Memory) is = cc
told_full (Err stop.Full) is = refl

-- an outcome that is never out of range
pub Serves-halts : {A : Edge → Type 0} {O : Type 0} {W : Denoted → Type 0} {S K : Type 0} {v w : View} {answer : Result Edge Halt}
    → (result : Result Edge Stop) → halts result ≡ answer → Serves A O W S K v w answer → Serves A O W S K v w (halts result)
Serves-halts {A} {O} {W} {S} {K} {v} {w} result same s = subst (λ r. Serves A O W S K v w r) (sym same) s

pub Serves-named : {A B : Edge → Type 0} {O P : Type 0} {V W : Denoted → Type 0} {S K : Type 0} {v w : View} {r : Result Edge Halt}
    → ((e : Edge) → A e → B e) → (O → P) → ((f : Denoted) → V f → W f) → Serves A O V S K v w r → Serves B P W S K v w r
Serves-named {A} {B} {r = r} answer over work s = record {
  grown = s.grown;
  room = s.room;
  answer = IfOk-weaker r A B answer s.answer;
  overflow = λ is. over (s.overflow is);
  work = λ i made. elim (s.work i made) [ inl old ↦ inl old | inr is ↦ inr (IsWork-named work is) ];
  memory = s.memory;
  full = s.full;
  due = λ is. IsWork-named work (s.due is);
}

-- a run after a call that made nothing
pub Serves-after : {A : Edge → Type 0} {O : Type 0} {W : Denoted → Type 0} {S K : Type 0} {u v w : View} {r : Result Edge Halt} → Kept u v → Serves A O W S K v w r → Serves A O W S K u w r
Serves-after m s = record {
  grown = Grown-trans m.grown s.grown;
  room = s.room;
  answer = s.answer;
  overflow = s.overflow;
  work = λ i made. elim (s.work i made) [ inl old ↦ inl (ap (λ (x : ℕ → Bool). x i) (sym m.made) ∙ old) | inr is ↦ inr is ];
  memory = λ is. elim (s.memory is) [ inl short ↦ inl short | inr may ↦ inr (m.grown.wants may) ];
  full = λ is few. (let a = s.full is few in let k = m.fulls in omega arith);
  due = s.due;
}

-- an answer for which nothing was made
pub Serves-kept : {A : Edge → Type 0} {O : Type 0} {W : Denoted → Type 0} {S : Type 0} {v w : View} (e : Edge) → Kept v w → A e → Serves A O W S (Unit {0}) v w (Ok e)
Serves-kept e m is = record {
  grown = m.grown;
  room = tt;
  answer = is;
  overflow = λ bad. absurd (never bad);
  work = λ i made. inl (ap (λ (x : ℕ → Bool). x i) (sym m.made) ∙ made);
  memory = λ bad. absurd (never bad);
  full = λ bad. absurd (never bad);
  due = λ bad. absurd (never bad);
}
  where
    never : {x : Edge} {halt : Halt} → Ok x ≡ Err halt → ⊥
    never bad = cc

-- what a run on a scratch that is handed in says of want of memory
pub Serves-memory : {A : Edge → Type 0} {O : Type 0} {W : Denoted → Type 0} {K : Type 0} {v w : View} (r : Result Edge Halt) → Serves A O W ⊥ K v w r → IsErrOf r Memory → v.may_want_memory ≡ true
Serves-memory r s is = elim (s.memory is) [ inl bad ↦ absurd bad | inr may ↦ may ]
