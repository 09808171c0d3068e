-- How the frames of a run change from step to step.
use Rattle.std.proofs.Common.{◌≡◌, ℕ, zero, suc, ◌+◌, ◌-◌, ◌*◌, ◌<◌, ◌≤◌, List, [], ◌∷◌, ◌++◌, length, take, drop, Err, IsErrOf, refl, ap, sym, ◌∙◌, subst, arith}
use Rattle.std.proofs.Math.Nat.{mul-le-mul_left}
use Rattle.std.proofs.lemmas.List.{length-append, length-take, take-append-le, drop-append-le}
use Rattle.node_store.specs.States.{State}
use Rattle.node_store.specs.Steps.{left, Asks, Chain, steps_of, steps_left, steps_of_frames, Running, steps_of_run, Answered}
use Rattle.edge_bits.specs.declared.edges.Edge.{Edge}
use Rattle.node_store.specs.declared.operator.Task.{Task}
use Rattle.node_store.specs.declared.operator.Wait.{Wait}
use Rattle.node_store.specs.declared.operator.Wait.TheVariants.{Only, First, Second, Third, Fourth}
use Rattle.node_store.specs.declared.operator.Frame.{Frame}
use Rattle.node_store.specs.declared.evaluate.Step.TheVariants.{Ask, Answer}

module _ (Due : State → Task → Type 0) (Waits : State → Task → Frame → Task → Type 0) (Depth : State → Task → ℕ) where
  -- a frame more
  pub Chain-push : (w : State) (height : ℕ) (root : Task) (frames : List Frame) (task : Task) (frame : Frame) (child : Task)
      → Chain Due Waits Depth w height root frames task → Asks Due Waits Depth w task frame child
      → Chain Due Waits Depth w height root (frames ++ frame ∷ []) child
  Chain-push w height root [] task frame child last asks =
      let same = last.same in
      let less = asks.less in
      let top : Depth w root ≡ Depth w task = ap (λ t. Depth w t) same in
      let below = last.depth in (
        child,
        (
          record {
            due = subst (λ t. Due w t) (sym same) last.due;
            waits = subst (λ t. Waits w t frame child) (sym same) asks.waits;
            depth = omega arith;
            high = omega arith;
          },
          record { same = refl; due = asks.due; depth = omega arith },
        ),
      )
  Chain-push w height root (f ∷ fs) task frame child (mid, (link, rest)) asks =
      (mid, (link, Chain-push w (height - 1) mid fs task frame child rest asks))

  -- a frame less
  pub Chain-pop : (w : State) (height : ℕ) (root : Task) (frames : List Frame) (frame : Frame) (child : Task)
      → Chain Due Waits Depth w height root (frames ++ frame ∷ []) child
      → (task : Task) × (Chain Due Waits Depth w height root frames task × Waits w task frame child × Due w child)
  Chain-pop w height root [] frame child (mid, (link, last)) =
      let same = last.same in (
        root,
        (
          record { same = refl; due = link.due; depth = link.depth },
          subst (λ t. Waits w root frame t) same link.waits,
          last.due,
        ),
      )
  Chain-pop w height root (f ∷ fs) frame child (mid, (link, rest)) =
      let below = Chain-pop w (height - 1) mid fs frame child rest in
      (below.0, ((mid, (link, below.1.0)), below.1.1, below.1.2))

  -- the frames are no more than the levels
  pub Chain-low : (w : State) (height : ℕ) (root : Task) (frames : List Frame) (task : Task)
      → Chain Due Waits Depth w height root frames task → length frames + Depth w task ≤ height
  Chain-low w height root [] task last = let d = last.depth in omega arith
  Chain-low w height root (f ∷ fs) task (mid, (link, rest)) =
      let below = Chain-low w (height - 1) mid fs task rest in let high = link.high in omega arith

  pub Chain-due : (w : State) (height : ℕ) (root : Task) (frames : List Frame) (task : Task)
      → Chain Due Waits Depth w height root frames task → Due w task
  Chain-due w height root [] task last = last.due
  Chain-due w height root (f ∷ fs) task (mid, (link, rest)) = Chain-due w (height - 1) mid fs task rest

  -- the chain lasts while the store grows
  pub Chain-stays : (v w : State) (height : ℕ) (root : Task) (frames : List Frame) (task : Task)
      → ((t : Task) → Due v t → Due w t)
      → ((t : Task) (f : Frame) (u : Task) → Due v t → Waits v t f u → Waits w t f u)
      → ((t : Task) → Due v t → Depth w t ≡ Depth v t)
      → Chain Due Waits Depth v height root frames task → Chain Due Waits Depth w height root frames task
  Chain-stays v w height root [] task due waits depth last =
      let same = depth task last.due in let d = last.depth in
      record { same = last.same; due = due task last.due; depth = omega arith }
  Chain-stays v w height root (f ∷ fs) task due waits depth (mid, (link, rest)) =
      let same = depth root link.due in let d = link.depth in (
        mid,
        (
          record { due = due root link.due; waits = waits root f mid link.due link.waits; depth = omega arith; high = link.high },
          Chain-stays v w (height - 1) mid fs task due waits depth rest,
        ),
      )

  -- what overflows below overflows above
  pub Chain-overflows : (Overflows : State → Task → Type 0) (w : State) (height : ℕ) (root : Task) (frames : List Frame) (task : Task)
      → ((t : Task) (f : Frame) (u : Task) → Due w t → Waits w t f u → Overflows w u → Overflows w t)
      → Chain Due Waits Depth w height root frames task → Overflows w task → Overflows w root
  Chain-overflows Overflows w height root [] task rises last over = subst (λ t. Overflows w t) (sym last.same) over
  Chain-overflows Overflows w height root (f ∷ fs) task rises (mid, (link, rest)) over =
      rises root f mid link.due link.waits (Chain-overflows Overflows w (height - 1) mid fs task rises rest over)

-- the steps of one frame more
steps-push : (height : ℕ) (frames : List Frame) (frame : Frame)
    → steps_of_frames height (frames ++ frame ∷ []) ≡ steps_of_frames height frames + steps_left (height - length frames) frame
steps-push height [] frame = let e : height - 0 ≡ height = omega arith in rw e (omega arith)
steps-push height (f ∷ fs) frame =
    let below = steps-push (height - 1) fs frame in
    let e : height - 1 - length fs ≡ height - suc (length fs) = omega arith in
    let below2 = rw e at below in
    omega arith

left-le : (w : Wait) → left w ≤ 3
left-le Only = omega arith
left-le (First t) = omega arith
left-le (Second a) = omega arith
left-le (Third a b) = omega arith
left-le (Fourth a b c) = omega arith

some-steps : (height : ℕ) → 1 ≤ steps_of height
unfolding steps_of
some-steps zero = omega arith
some-steps (suc height) = omega arith

-- a pending task costs more than the frame that it becomes
steps-start : (height : ℕ) (n : ℕ) → 0 < height → n ≤ 3 → n * (steps_of (height - 1) + 1) + 1 + steps_of (height - 1) < steps_of height
unfolding steps_of
steps-start zero n high le = absurd (omega arith)
steps-start (suc height) n high le =
    let e : suc height - 1 ≡ height = omega arith in
    rw e (few (steps_of height) n le) where
      few : (x n : ℕ) → n ≤ 3 → n * (x + 1) + 1 + x < 5 * x + 5
      few x zero le = omega arith
      few x (suc zero) le = omega arith
      few x (suc (suc zero)) le = omega arith
      few x (suc (suc (suc zero))) le = omega arith
      few x (suc (suc (suc (suc n)))) le = absurd (omega arith)

-- a frame that asks for fewer tasks
steps-resume : (x m n : ℕ) → m < n → m * (x + 1) + 1 + x < n * (x + 1) + 1
steps-resume x m zero h = absurd (omega arith)
steps-resume x m (suc n) h =
    let k : m ≤ n = omega arith in let le = mul-le-mul_left (x + 1) k in omega (arith, le)

-- an answer in place of a task
pub steps-answered : (height : ℕ) (frames : List Frame) (task : Task) (answer : Edge)
    → steps_of_run height frames (Answer answer) < steps_of_run height frames (Ask task)
steps-answered height frames task answer = let some = some-steps (height - length frames) in omega arith

-- a frame in place of its task
pub steps-called : (height : ℕ) (frames : List Frame) (task : Task) (frame : Frame) (child : Task) → length frames + 1 ≤ height
    → steps_of_run height (frames ++ frame ∷ []) (Ask child) < steps_of_run height frames (Ask task)
steps-called height frames task frame child room =
    let p = steps-push height frames frame in
    let n = length-append frames (frame ∷ []) in
    let e : height - length (frames ++ frame ∷ []) ≡ height - length frames - 1 = omega (arith, n) in
    let q = steps-start (height - length frames) (left frame.wait) (omega arith) (left-le frame.wait) in
    rw e (omega arith)

-- the top frame has its answer
pub steps-done : (height : ℕ) (frames : List Frame) (frame : Frame) (answer edge : Edge)
    → steps_of_run height frames (Answer edge) < steps_of_run height (frames ++ frame ∷ []) (Answer answer)
steps-done height frames frame answer edge = let p = steps-push height frames frame in omega arith

-- the top frame waits for something else
pub steps-turned : (height : ℕ) (frames : List Frame) (frame new : Frame) (answer : Edge) (child : Task) → left new.wait < left frame.wait
    → steps_of_run height (frames ++ new ∷ []) (Ask child) < steps_of_run height (frames ++ frame ∷ []) (Answer answer)
steps-turned height frames frame new answer child fewer =
    let p = steps-push height frames frame in
    let r = steps-push height frames new in
    let n = length-append frames (new ∷ []) in
    let e : height - length (frames ++ new ∷ []) ≡ height - length frames - 1 = omega (arith, n) in
    let q = steps-resume (steps_of (height - length frames - 1)) (left new.wait) (left frame.wait) fewer in
    rw e (omega arith)

module _ (Moves : State → State → Type 0) (Due : State → Task → Type 0) (Answers : State → Task → Edge → Type 0) (Waits : State → Task → Frame → Task → Type 0) (Depth : State → Task → ℕ)
    (due_stays : (v w : State) (t : Task) → Moves v w → Due v t → Due w t)
    (answers_stay : (v w : State) (t : Task) (e : Edge) → Moves v w → Due v t → Answers v t e → Answers w t e)
    (waits_stay : (v w : State) (t : Task) (f : Frame) (u : Task) → Moves v w → Due v t → Waits v t f u → Waits w t f u)
    (depth_stays : (v w : State) (t : Task) → Moves v w → Due v t → Depth w t ≡ Depth v t) where
  stays : (v w : State) (height : ℕ) (root : Task) (frames : List Frame) (task : Task) → Moves v w
      → Chain Due Waits Depth v height root frames task → Chain Due Waits Depth w height root frames task
  stays v w height root frames task m chain = Chain-stays Due Waits Depth v w height root frames task
      (λ t. due_stays v w t m) (λ t f u. waits_stay v w t f u m) (λ t. depth_stays v w t m) chain

  -- the task was answered
  pub Run-answered : (v w : State) (height : ℕ) (root : Task) (frames : List Frame) (task : Task) (answer : Edge)
      → Chain Due Waits Depth v height root frames task → Moves v w → Answers w task answer
      → Running Due Answers Waits Depth w height root frames (Answer answer)
  Run-answered v w height root frames task answer chain m is = (task, (stays v w height root frames task m chain, is))

  -- a frame was made for the task
  pub Run-called : (v w : State) (height : ℕ) (root : Task) (frames : List Frame) (task : Task) (frame : Frame) (child : Task)
      → Chain Due Waits Depth v height root frames task → Moves v w → Asks Due Waits Depth w task frame child
      → Running Due Answers Waits Depth w height root (frames ++ frame ∷ []) (Ask child)
  Run-called v w height root frames task frame child chain m asks =
      Chain-push Due Waits Depth w height root frames task frame child (stays v w height root frames task m chain) asks

  -- there is room for it
  pub Run-room : (v w : State) (height : ℕ) (root : Task) (frames : List Frame) (task : Task) (frame : Frame) (child : Task)
      → Chain Due Waits Depth v height root frames task → Moves v w → Asks Due Waits Depth w task frame child → length frames + 1 ≤ height
  Run-room v w height root frames task frame child chain m asks =
      let low = Chain-low Due Waits Depth w height root frames task (stays v w height root frames task m chain) in
      let less = asks.less in omega arith

  -- the task that the top frame was made for, and the one that it waited for
  pub Run-pop : (w : State) (height : ℕ) (root : Task) (frames : List Frame) (frame : Frame) (answer : Edge)
      → Running Due Answers Waits Depth w height root (frames ++ frame ∷ []) (Answer answer)
      → (p : Task × Task) × (Chain Due Waits Depth w height root frames p.0 × Answered Due Answers Waits w frame answer p.0 p.1)
  Run-pop w height root frames frame answer (child, (chain, is)) =
      let below = Chain-pop Due Waits Depth w height root frames frame child chain in (
        (below.0, child),
        (
          below.1.0,
          record { due = Chain-due Due Waits Depth w height root frames below.0 below.1.0; waits = below.1.1; answers = is },
        ),
      )

  -- what overflows on the way
  pub Run-overflows : (Overflows : State → Task → Type 0)
      → ((w : State) (t : Task) (f : Frame) (u : Task) → Due w t → Waits w t f u → Overflows w u → Overflows w t)
      → (v w : State) (height : ℕ) (root : Task) (frames : List Frame) (task : Task)
      → Chain Due Waits Depth v height root frames task → Moves v w → Overflows w task → Overflows w root
  Run-overflows Overflows rises v w height root frames task chain m over =
      Chain-overflows Due Waits Depth Overflows w height root frames task (rises w) (stays v w height root frames task m chain) over

-- the old frames are below the new ones
pub base_le : {A : Type 0} (n : ℕ) (xs old : List A) → take n xs ≡ old → length old ≡ n → n ≤ length xs
base_le n xs old e l = let k = length-take n xs in let m = ap length e in omega arith

pub take_push : {A : Type 0} (n : ℕ) (xs ys old : List A) → take n xs ≡ old → length old ≡ n → take n (xs ++ ys) ≡ old
take_push n xs ys old e l = take-append-le n xs ys (base_le n xs old e l) ∙ e

pub drop_push : {A : Type 0} (n : ℕ) (xs ys old : List A) → take n xs ≡ old → length old ≡ n → drop n (xs ++ ys) ≡ drop n xs ++ ys
drop_push n xs ys old e l = drop-append-le n xs ys (base_le n xs old e l)

-- the top frame is above the old ones
pub record Popped {A : Type 0} (n : ℕ) (xs ys : List A) (x : A) (old : List A) : Type 0 where
  pub low : n ≤ length ys
  pub old_is : take n ys ≡ old
  pub new_is : drop n xs ≡ drop n ys ++ x ∷ []

pub popped : {A : Type 0} (n : ℕ) (xs ys old : List A) (x : A) → take n xs ≡ old → length old ≡ n → (length xs ≡ n → ⊥) → xs ≡ ys ++ x ∷ []
    → Popped n xs ys x old
popped n xs ys old x e l ne is =
    let low = base_le n xs old e l in
    let more = length-append ys (x ∷ []) in
    let len = ap length is in
    let le : n ≤ length ys = omega arith in
    record {
      low = le;
      old_is = sym (take-append-le n ys (x ∷ []) le) ∙ ap (λ zs. take n zs) (sym is) ∙ e;
      new_is = ap (λ zs. drop n zs) is ∙ drop-append-le n ys (x ∷ []) le;
    }

-- the same error of a result of another type
pub other_err : {A B E : Type 0} (x y : E) → IsErrOf {T = A} {E = E} (Err x) y → IsErrOf {T = B} {E = E} (Err x) y
other_err x y e = let same : x ≡ y = cc in ap Err same
