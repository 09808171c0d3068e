use Rattle.std.proofs.Common.{◌≡◌, List, [], ◌∷◌, ◌++◌, drop, length, ap, sym, ◌∙◌, arith}
use Rattle.std.proofs.lemmas.Grind.{common_steps}
use Rattle.std.proofs.lemmas.List.{length-append, length-drop}
use Rattle.std.proofs.lemmas.Result.{err_from_is_err_and}
use Rattle.node_store.specs.States.{state_of}
use Rattle.node_store.specs.declared.operator.Frame.{Frame}
use Rattle.node_store.proofs.Frames.{Chain-due, Chain-low, Run-answered, Run-called, Run-room, Run-pop, Run-overflows, take_push, drop_push, popped, steps-answered, steps-called, steps-done, steps-turned, other_err}
use Rattle.node_store.proofs.evaluate.run.Goals as goal

pub start-requires-clause-due : goal.start-requires-clause-due
start-requires-clause-due g c =
    let o = g.O.Operator in let m = g.met.O.Operator in let op = c.args.op.now in
    let height = o.depth op (state_of (g.G.Grow.view c.args.store.now) c.args.stack.now) c.args.task in
    let i = c.steps.invariant in
    let base = c.len-base.result in
    let chain = rw c.in-Ask.is at i.runs in
    Chain-due (o.due op) (o.waits op) (o.depth op) _ height _ _ _ chain

pub start-requires-clause-room : goal.start-requires-clause-room
start-requires-clause-room g c =
    let o = g.O.Operator in let m = g.met.O.Operator in let op = c.args.op.now in
    let height = o.depth op (state_of (g.G.Grow.view c.args.store.now) c.args.stack.now) c.args.task in
    let i = c.steps.invariant in
    let base = c.len-base.result in
    let chain = rw c.in-Ask.is at i.runs in
    let low = Chain-low (o.due op) (o.waits op) (o.depth op) _ height _ _ _ chain in
    let a = length-drop base c.steps.stack.frames in
    let r = c.requires.room in
    let x = m.extra_stays op _ _ i.moved in
    omega arith

pub returns-in_err-edge-in-Ask-clause-overflow : goal.returns-in_err-edge-in-Ask-clause-overflow
returns-in_err-edge-in-Ask-clause-overflow g c =
    let o = g.O.Operator in let m = g.met.O.Operator in let op = c.args.op.now in
    let height = o.depth op (state_of (g.G.Grow.view c.args.store.now) c.args.stack.now) c.args.task in
    let i = c.steps.invariant in
    let base = c.len-base.result in
    let chain = rw c.in-Ask.is at i.runs in
    let e = c.in_err-edge-in-Ask.ensures in
    let p = err_from_is_err_and c.from_residual.result c.from_residual.ensures.1 in
    rw (p.1, p.2) (λ is. Run-overflows (o.moves op) (o.due op) (o.answers op) (o.waits op) (o.depth op) (m.due_stays op) (m.answers_stay op) (m.waits_stay op) (m.depth_stays op) (o.overflows op) (m.overflow_rises op) _ _ height _ _ _ chain e.moved (e.overflow (other_err _ _ is)))

pub steps-smaller-in-Done : goal.steps-smaller-in-Done
steps-smaller-in-Done g c =
    let o = g.O.Operator in let m = g.met.O.Operator in let op = c.args.op.now in
    let height = o.depth op (state_of (g.G.Grow.view c.args.store.now) c.args.stack.now) c.args.task in
    let i = c.steps.invariant in
    let base = c.len-base.result in
    rw (c.in-Ask.is, c.in_ok-edge-in-Ask.ensures.frames) (steps-answered height (drop base c.steps.stack.frames) c.in-Ask.task c.in-Done.edge)

pub steps-preserved-in-Done : goal.steps-preserved-in-Done
steps-preserved-in-Done g c =
    let o = g.O.Operator in let m = g.met.O.Operator in let op = c.args.op.now in
    let height = o.depth op (state_of (g.G.Grow.view c.args.store.now) c.args.stack.now) c.args.task in
    let i = c.steps.invariant in
    let base = c.len-base.result in
    let chain = rw c.in-Ask.is at i.runs in
    let e = c.in_ok-edge-in-Ask.ensures in
    let is = rw c.in-Done.is at e.next in
    record {
      moved = m.moves_both op _ _ _ i.moved e.moved;
      old = rw e.frames i.old;
      base = i.base;
      room = (let a = ap length e.frames in let f = e.free in let r = i.room in omega arith);
      runs = rw e.frames (Run-answered (o.moves op) (o.due op) (o.answers op) (o.waits op) (o.depth op) (m.due_stays op) (m.answers_stay op) (m.waits_stay op) (m.depth_stays op) _ _ height _ _ _ _ chain e.moved is);
    }

pub push-requires : goal.push-requires
push-requires g c =
    let o = g.O.Operator in let m = g.met.O.Operator in let op = c.args.op.now in
    let height = o.depth op (state_of (g.G.Grow.view c.args.store.now) c.args.stack.now) c.args.task in
    let i = c.steps.invariant in
    let base = c.len-base.result in
    let chain = rw c.in-Ask.is at i.runs in
    let e = c.in_ok-edge-in-Ask.ensures in
    let asks = rw c.in-Call.is at e.next in
    let room = Run-room (o.moves op) (o.due op) (o.answers op) (o.waits op) (o.depth op) (m.due_stays op) (m.answers_stay op) (m.waits_stay op) (m.depth_stays op) _ _ height _ _ _ _ _ chain e.moved asks in
    let a = length-drop base c.steps.stack.frames in
    let r = c.requires.room in
    let f = e.free in
    omega arith

pub steps-smaller-in-Call : goal.steps-smaller-in-Call
steps-smaller-in-Call g c =
    let o = g.O.Operator in let m = g.met.O.Operator in let op = c.args.op.now in
    let height = o.depth op (state_of (g.G.Grow.view c.args.store.now) c.args.stack.now) c.args.task in
    let i = c.steps.invariant in
    let base = c.len-base.result in
    let old : length c.args.stack.now.frames ≡ base = sym i.base in
    let chain = rw c.in-Ask.is at i.runs in
    let e = c.in_ok-edge-in-Ask.ensures in
    let asks = rw c.in-Call.is at e.next in
    let room = Run-room (o.moves op) (o.due op) (o.answers op) (o.waits op) (o.depth op) (m.due_stays op) (m.answers_stay op) (m.waits_stay op) (m.depth_stays op) _ _ height _ _ _ _ _ chain e.moved asks in
    let items = c.push.ensures.frames ∙ ap (λ (xs : List Frame). xs ++ c.in-Call.frame ∷ []) e.frames in
    rw (c.in-Ask.is, items, drop_push base _ _ _ i.old old) (steps-called height (drop base c.steps.stack.frames) c.in-Ask.task c.in-Call.frame c.in-Call.child room)

pub steps-preserved-in-Call : goal.steps-preserved-in-Call
steps-preserved-in-Call g c =
    let o = g.O.Operator in let m = g.met.O.Operator in let op = c.args.op.now in
    let height = o.depth op (state_of (g.G.Grow.view c.args.store.now) c.args.stack.now) c.args.task in
    let i = c.steps.invariant in
    let base = c.len-base.result in
    let old : length c.args.stack.now.frames ≡ base = sym i.base in
    let chain = rw c.in-Ask.is at i.runs in
    let e = c.in_ok-edge-in-Ask.ensures in
    let asks = rw c.in-Call.is at e.next in
    let items = c.push.ensures.frames ∙ ap (λ (xs : List Frame). xs ++ c.in-Call.frame ∷ []) e.frames in
    let p = c.push.ensures in
    record {
      moved = rw (p.answers, p.marks) (m.moves_both op _ _ _ i.moved e.moved);
      old = rw items (take_push base _ _ _ i.old old);
      base = i.base;
      room = (let a = ap length items in let more = length-append c.steps.stack.frames (c.in-Call.frame ∷ []) in let f = e.free in let free = p.free in let r = i.room in omega arith);
      runs = rw (items, drop_push base _ _ _ i.old old, p.answers, p.marks) (Run-called (o.moves op) (o.due op) (o.answers op) (o.waits op) (o.depth op) (m.due_stays op) (m.answers_stay op) (m.waits_stay op) (m.depth_stays op) _ _ height _ _ _ _ _ chain e.moved asks);
    }

pub resume-requires-clause-waits : goal.resume-requires-clause-waits
resume-requires-clause-waits g c =
    let o = g.O.Operator in let m = g.met.O.Operator in let op = c.args.op.now in
    let height = o.depth op (state_of (g.G.Grow.view c.args.store.now) c.args.stack.now) c.args.task in
    let i = c.steps.invariant in
    let base = c.len-base.result in
    let old : length c.args.stack.now.frames ≡ base = sym i.base in
    let apart : length c.steps.stack.frames ≡ base → ⊥ = λ e. c.if-len-base.false (c.len.ensures ∙ e) in
    let top = c.in-Some.ensures.some in
    let split = popped base c.steps.stack.frames top.0 c.args.stack.now.frames c.in-Some.frame i.old old apart top.1 in
    let run = rw c.in-Answer.is at i.runs in
    let below = Run-pop (o.moves op) (o.due op) (o.answers op) (o.waits op) (o.depth op) (m.due_stays op) (m.answers_stay op) (m.waits_stay op) (m.depth_stays op) _ height _ _ _ _ (rw split.new_is at run) in
    (below.0, below.1.1)

pub resume-requires-clause-room : goal.resume-requires-clause-room
resume-requires-clause-room g c =
    let o = g.O.Operator in let m = g.met.O.Operator in let op = c.args.op.now in
    let height = o.depth op (state_of (g.G.Grow.view c.args.store.now) c.args.stack.now) c.args.task in
    let i = c.steps.invariant in
    let base = c.len-base.result in
    let run = rw c.in-Answer.is at i.runs in
    let low = Chain-low (o.due op) (o.waits op) (o.depth op) _ height _ _ _ run.1.0 in
    let a = length-drop base c.steps.stack.frames in
    let r = c.requires.room in
    let x = m.extra_stays op _ _ i.moved in
    omega arith

pub returns-in_err-edge-in-Answer-clause-overflow : goal.returns-in_err-edge-in-Answer-clause-overflow
returns-in_err-edge-in-Answer-clause-overflow g c =
    let o = g.O.Operator in let m = g.met.O.Operator in let op = c.args.op.now in
    let height = o.depth op (state_of (g.G.Grow.view c.args.store.now) c.args.stack.now) c.args.task in
    let i = c.steps.invariant in
    let base = c.len-base.result in
    let old : length c.args.stack.now.frames ≡ base = sym i.base in
    let apart : length c.steps.stack.frames ≡ base → ⊥ = λ e. c.if-len-base.false (c.len.ensures ∙ e) in
    let top = c.in-Some.ensures.some in
    let split = popped base c.steps.stack.frames top.0 c.args.stack.now.frames c.in-Some.frame i.old old apart top.1 in
    let run = rw c.in-Answer.is at i.runs in
    let below = Run-pop (o.moves op) (o.due op) (o.answers op) (o.waits op) (o.depth op) (m.due_stays op) (m.answers_stay op) (m.waits_stay op) (m.depth_stays op) _ height _ _ _ _ (rw split.new_is at run) in
    let e = c.in_err-edge-in-Answer.ensures in
    let p = err_from_is_err_and c.from_residual-in_err-edge-in-Answer.result c.from_residual-in_err-edge-in-Answer.ensures.1 in
    rw (p.1, p.2) (λ is. Run-overflows (o.moves op) (o.due op) (o.answers op) (o.waits op) (o.depth op) (m.due_stays op) (m.answers_stay op) (m.waits_stay op) (m.depth_stays op) (o.overflows op) (m.overflow_rises op) _ _ height _ _ _ below.1.0 e.moved (e.overflow (other_err _ _ is) _ _ below.1.1.due below.1.1.waits below.1.1.answers))

pub steps-smaller-in-Done-2 : goal.steps-smaller-in-Done-2
steps-smaller-in-Done-2 g c =
    let o = g.O.Operator in let m = g.met.O.Operator in let op = c.args.op.now in
    let height = o.depth op (state_of (g.G.Grow.view c.args.store.now) c.args.stack.now) c.args.task in
    let i = c.steps.invariant in
    let base = c.len-base.result in
    let old : length c.args.stack.now.frames ≡ base = sym i.base in
    let apart : length c.steps.stack.frames ≡ base → ⊥ = λ e. c.if-len-base.false (c.len.ensures ∙ e) in
    let top = c.in-Some.ensures.some in
    let split = popped base c.steps.stack.frames top.0 c.args.stack.now.frames c.in-Some.frame i.old old apart top.1 in
    let e = c.in_ok-edge-in-Answer.ensures in
    let frames = c.drop_top.ensures.top top.0 c.in-Some.frame (e.frames ∙ top.1) in
    rw (c.in-Answer.is, split.new_is, frames) (steps-done height (drop base top.0) c.in-Some.frame c.in-Answer.edge c.in-Done-2.edge)

pub steps-preserved-in-Done-2 : goal.steps-preserved-in-Done-2
steps-preserved-in-Done-2 g c =
    let o = g.O.Operator in let m = g.met.O.Operator in let op = c.args.op.now in
    let height = o.depth op (state_of (g.G.Grow.view c.args.store.now) c.args.stack.now) c.args.task in
    let i = c.steps.invariant in
    let base = c.len-base.result in
    let old : length c.args.stack.now.frames ≡ base = sym i.base in
    let apart : length c.steps.stack.frames ≡ base → ⊥ = λ e. c.if-len-base.false (c.len.ensures ∙ e) in
    let top = c.in-Some.ensures.some in
    let split = popped base c.steps.stack.frames top.0 c.args.stack.now.frames c.in-Some.frame i.old old apart top.1 in
    let run = rw c.in-Answer.is at i.runs in
    let below = Run-pop (o.moves op) (o.due op) (o.answers op) (o.waits op) (o.depth op) (m.due_stays op) (m.answers_stay op) (m.waits_stay op) (m.depth_stays op) _ height _ _ _ _ (rw split.new_is at run) in
    let e = c.in_ok-edge-in-Answer.ensures in
    let d = c.drop_top.ensures in
    let frames = d.top top.0 c.in-Some.frame (e.frames ∙ top.1) in
    let is = rw c.in-Done-2.is at e.next _ _ below.1.1.due below.1.1.waits below.1.1.answers in
    record {
      moved = rw (d.answers, d.marks) (m.moves_both op _ _ _ i.moved e.moved);
      old = rw frames split.old_is;
      base = i.base;
      room = (let a = ap length e.frames in let free = e.free in let p = d.room in let r = i.room in omega arith);
      runs = rw (frames, d.answers, d.marks) (Run-answered (o.moves op) (o.due op) (o.answers op) (o.waits op) (o.depth op) (m.due_stays op) (m.answers_stay op) (m.waits_stay op) (m.depth_stays op) _ _ height _ _ _ _ below.1.0 e.moved is);
    }

pub steps-smaller : goal.steps-smaller
steps-smaller g c =
    let o = g.O.Operator in let m = g.met.O.Operator in let op = c.args.op.now in
    let height = o.depth op (state_of (g.G.Grow.view c.args.store.now) c.args.stack.now) c.args.task in
    let i = c.steps.invariant in
    let base = c.len-base.result in
    let old : length c.args.stack.now.frames ≡ base = sym i.base in
    let apart : length c.steps.stack.frames ≡ base → ⊥ = λ e. c.if-len-base.false (c.len.ensures ∙ e) in
    let top = c.in-Some.ensures.some in
    let split = popped base c.steps.stack.frames top.0 c.args.stack.now.frames c.in-Some.frame i.old old apart top.1 in
    let e = c.in_ok-edge-in-Answer.ensures in
    let frame : Frame = record c.in-Some.frame { wait = c.in-Call-2.wait } in
    let w = c.wait_for.ensures in
    let frames = w.top top.0 c.in-Some.frame (e.frames ∙ top.1) in
    let fewer = rw c.in-Call-2.is at e.fewer in
    rw (c.in-Answer.is, split.new_is, frames, drop_push base _ _ _ split.old_is old) (steps-turned height (drop base top.0) c.in-Some.frame frame c.in-Answer.edge c.in-Call-2.child fewer)

pub steps-preserved : goal.steps-preserved
steps-preserved g c =
    let o = g.O.Operator in let m = g.met.O.Operator in let op = c.args.op.now in
    let height = o.depth op (state_of (g.G.Grow.view c.args.store.now) c.args.stack.now) c.args.task in
    let i = c.steps.invariant in
    let base = c.len-base.result in
    let old : length c.args.stack.now.frames ≡ base = sym i.base in
    let apart : length c.steps.stack.frames ≡ base → ⊥ = λ e. c.if-len-base.false (c.len.ensures ∙ e) in
    let top = c.in-Some.ensures.some in
    let split = popped base c.steps.stack.frames top.0 c.args.stack.now.frames c.in-Some.frame i.old old apart top.1 in
    let run = rw c.in-Answer.is at i.runs in
    let below = Run-pop (o.moves op) (o.due op) (o.answers op) (o.waits op) (o.depth op) (m.due_stays op) (m.answers_stay op) (m.waits_stay op) (m.depth_stays op) _ height _ _ _ _ (rw split.new_is at run) in
    let e = c.in_ok-edge-in-Answer.ensures in
    let frame : Frame = record c.in-Some.frame { wait = c.in-Call-2.wait } in
    let w = c.wait_for.ensures in
    let frames = w.top top.0 c.in-Some.frame (e.frames ∙ top.1) in
    let asks = rw c.in-Call-2.is at e.next _ _ below.1.1.due below.1.1.waits below.1.1.answers in
    record {
      moved = rw (w.answers, w.marks) (m.moves_both op _ _ _ i.moved e.moved);
      old = rw frames (take_push base _ _ _ split.old_is old);
      base = i.base;
      room = (let a = ap length frames in let more = length-append top.0 (frame ∷ []) in let n = ap length top.1 in let more2 = length-append top.0 (c.in-Some.frame ∷ []) in
          let f = w.free in let f2 = e.free in let r = i.room in omega arith);
      runs = rw (frames, drop_push base _ _ _ split.old_is old, w.answers, w.marks) (Run-called (o.moves op) (o.due op) (o.answers op) (o.waits op) (o.depth op) (m.due_stays op) (m.answers_stay op) (m.waits_stay op) (m.depth_stays op) _ _ height _ _ _ _ _ below.1.0 e.moved asks);
    }

pub returns-in_err-edge-in-Answer-clause-moved : goal.returns-in_err-edge-in-Answer-clause-moved
returns-in_err-edge-in-Answer-clause-moved g c = grind (arith, common_steps)

pub returns-in_err-edge-in-Ask-clause-moved : goal.returns-in_err-edge-in-Ask-clause-moved
returns-in_err-edge-in-Ask-clause-moved g c = grind (arith, common_steps)

pub steps-init : goal.steps-init
steps-init g c = grind (arith, common_steps)
