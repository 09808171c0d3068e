use Rattle.std.proofs.Common.{ℕ, Bool, Ok, Err, ap, sym, ◌∙◌, subst}
use Rattle.std.proofs.lemmas.Result.{err_from_is_err_and}
use Rattle.edge_bits.specs.declared.edges.Kind.TheVariants.{Bdd}
use Rattle.function_laws.specs.MorrealeCalls.{Interval}
use Rattle.node_store.specs.Views.{Denotes}
use Rattle.node_store.specs.ViewLaws.{Denotes-grown, Grown-trans, Is-from, Permanent-grown}
use Rattle.cover_isop.specs.Isops.{Does, Shows, cover_in, function_in, high_at, low_at}
use Rattle.cover_isop.specs.IsopLasts.{IsSplit-grown, MorrealeDue-stays, Shows-cover, high_at-grown, low_at-grown}
use Rattle.cover_isop.proofs.DoesLaws.{after, after_kept, answered, failed}
use Rattle.cover_isop.proofs.IsopSteps.{Both-later, High-half, High-left-does, IsHalf-grown, Left-two, Low-half, Low-left-does, Lower-does, Upper-does, Upper-two, function-half, high-half-is, low-half-is, shows-half}
use Rattle.cover_isop.proofs.Rooms.{keeps_both, keeps_none, keeps_same, room-extra, room-vars}
use Rattle.cover_isop.proofs.morreale.third_call.Goals as goal

pub returns-in_err-low_function-clause-does : goal.returns-in_err-low_function-clause-does
returns-in_err-low_function-clause-does g c =
    let l = g.W.Wanted.lower c.args.wanted.now in let u = g.W.Wanted.upper c.args.wanted.now in let t = c.args.task in let x = c.args.var in
    let w = g.G.Grow.view c.sides_of.new.store in let sd = c.sides_of.result in let a = c.sides_of.ensures.sides in let k = c.sides_of.ensures.kept in
    let d = MorrealeDue-stays l u _ w t k.grown c.requires.due in let s = IsSplit-grown k.grown t x c.requires.due.bounds.two c.requires.split in
    let low_half = Low-half l u w t x d s sd a in let high_half = High-half l u w t x d s sd a in
    let f1 = c.in_err-low_function.ensures.does in
    let q = err_from_is_err_and c.from_residual.result c.from_residual.ensures.1 in rw (q.1, q.2) (after_kept l u k (failed l u _ f1))

pub returns-in_err-low_function-clause-scratch : goal.returns-in_err-low_function-clause-scratch
returns-in_err-low_function-clause-scratch g c = c.in_err-low_function.ensures.scratch

pub returns-in_err-high_function-clause-does : goal.returns-in_err-high_function-clause-does
returns-in_err-high_function-clause-does g c =
    let l = g.W.Wanted.lower c.args.wanted.now in let u = g.W.Wanted.upper c.args.wanted.now in let t = c.args.task in let x = c.args.var in
    let w = g.G.Grow.view c.sides_of.new.store in let sd = c.sides_of.result in let a = c.sides_of.ensures.sides in let k = c.sides_of.ensures.kept in
    let d = MorrealeDue-stays l u _ w t k.grown c.requires.due in let s = IsSplit-grown k.grown t x c.requires.due.bounds.two c.requires.split in
    let low_half = Low-half l u w t x d s sd a in let high_half = High-half l u w t x d s sd a in
    let v1 = g.G.Grow.view c.function.new.store in
    let f1 = subst (λ (b : Interval). Does (λ e. Denotes Bdd v1 e (function_in w b)) l u w v1 (Ok c.in_ok-low_function.low_function)) (low-half-is l u w t x d s sd a) c.in_ok-low_function.ensures.does in
    let f2 = c.in_err-high_function.ensures.does in
    let q = err_from_is_err_and c.from_residual-in_err-high_function.result c.from_residual-in_err-high_function.ensures.1 in rw (q.1, q.2) (after_kept l u k (after l u f1.moved (failed l u _ f2)))

pub returns-in_err-high_function-clause-scratch : goal.returns-in_err-high_function-clause-scratch
returns-in_err-high_function-clause-scratch g c = keeps_both c.in_ok-low_function.ensures.scratch c.in_err-high_function.ensures.scratch

pub returns-in_err-low_left-clause-does : goal.returns-in_err-low_left-clause-does
returns-in_err-low_left-clause-does g c =
    let l = g.W.Wanted.lower c.args.wanted.now in let u = g.W.Wanted.upper c.args.wanted.now in let t = c.args.task in let x = c.args.var in
    let w = g.G.Grow.view c.sides_of.new.store in let sd = c.sides_of.result in let a = c.sides_of.ensures.sides in let k = c.sides_of.ensures.kept in
    let d = MorrealeDue-stays l u _ w t k.grown c.requires.due in let s = IsSplit-grown k.grown t x c.requires.due.bounds.two c.requires.split in
    let low_half = Low-half l u w t x d s sd a in let high_half = High-half l u w t x d s sd a in
    let v1 = g.G.Grow.view c.function.new.store in
    let f1 = subst (λ (b : Interval). Does (λ e. Denotes Bdd v1 e (function_in w b)) l u w v1 (Ok c.in_ok-low_function.low_function)) (low-half-is l u w t x d s sd a) c.in_ok-low_function.ensures.does in
    let v2 = g.G.Grow.view c.function-2.new.store in let same = function-half f1.moved.grown high_half.two high_half.other_is ∙ ap (function_in w) (high-half-is l u w t x d s sd a) in
    let f2 = subst (λ (h : ℕ → Bool). Does (λ e. Denotes Bdd v2 e h) l u v1 v2 (Ok c.in_ok-high_function.high_function)) same c.in_ok-high_function.ensures.does in
    let m2 = Grown-trans f1.moved.grown f2.moved.grown in let g0 = Denotes-grown Bdd f2.moved.grown f1.answer in
    let l1 = Low-left-does l u w t x d s sd a v2 m2 c.in_ok-low_function.low_function (Err _) g0 c.in_err-low_left.ensures.runs in
    let q = err_from_is_err_and c.from_residual-in_err-low_left.result c.from_residual-in_err-low_left.ensures.1 in rw (q.1, q.2) (after_kept l u k (after l u f1.moved (after l u f2.moved (failed l u _ l1))))

pub returns-in_err-low_left-clause-scratch : goal.returns-in_err-low_left-clause-scratch
returns-in_err-low_left-clause-scratch g c = keeps_both c.in_ok-low_function.ensures.scratch (keeps_both c.in_ok-high_function.ensures.scratch ((keeps_same c.in_err-low_left.ensures.stack)))

pub returns-in_err-high_left-clause-does : goal.returns-in_err-high_left-clause-does
returns-in_err-high_left-clause-does g c =
    let l = g.W.Wanted.lower c.args.wanted.now in let u = g.W.Wanted.upper c.args.wanted.now in let t = c.args.task in let x = c.args.var in
    let w = g.G.Grow.view c.sides_of.new.store in let sd = c.sides_of.result in let a = c.sides_of.ensures.sides in let k = c.sides_of.ensures.kept in
    let d = MorrealeDue-stays l u _ w t k.grown c.requires.due in let s = IsSplit-grown k.grown t x c.requires.due.bounds.two c.requires.split in
    let low_half = Low-half l u w t x d s sd a in let high_half = High-half l u w t x d s sd a in
    let v1 = g.G.Grow.view c.function.new.store in
    let f1 = subst (λ (b : Interval). Does (λ e. Denotes Bdd v1 e (function_in w b)) l u w v1 (Ok c.in_ok-low_function.low_function)) (low-half-is l u w t x d s sd a) c.in_ok-low_function.ensures.does in
    let v2 = g.G.Grow.view c.function-2.new.store in let same = function-half f1.moved.grown high_half.two high_half.other_is ∙ ap (function_in w) (high-half-is l u w t x d s sd a) in
    let f2 = subst (λ (h : ℕ → Bool). Does (λ e. Denotes Bdd v2 e h) l u v1 v2 (Ok c.in_ok-high_function.high_function)) same c.in_ok-high_function.ensures.does in
    let m2 = Grown-trans f1.moved.grown f2.moved.grown in let g0 = Denotes-grown Bdd f2.moved.grown f1.answer in
    let l1 = Low-left-does l u w t x d s sd a v2 m2 c.in_ok-low_function.low_function (Ok c.in_ok-low_left.low_left) g0 c.in_ok-low_left.ensures.runs in
    let v3 = g.G.Grow.view c.without.new.store in let m3 = Grown-trans m2 l1.moved.grown in let g1 = Denotes-grown Bdd l1.moved.grown f2.answer in
    let l2 = High-left-does l u w t x d s sd a v3 m3 c.in_ok-high_function.high_function (Err _) g1 c.in_err-high_left.ensures.runs in
    let q = err_from_is_err_and c.from_residual-in_err-high_left.result c.from_residual-in_err-high_left.ensures.1 in rw (q.1, q.2) (after_kept l u k (after l u f1.moved (after l u f2.moved (after l u l1.moved (failed l u _ l2)))))

pub returns-in_err-high_left-clause-scratch : goal.returns-in_err-high_left-clause-scratch
returns-in_err-high_left-clause-scratch g c = keeps_both c.in_ok-low_function.ensures.scratch (keeps_both c.in_ok-high_function.ensures.scratch (keeps_both (keeps_same c.in_ok-low_left.ensures.stack) ((keeps_same c.in_err-high_left.ensures.stack))))

pub returns-in_err-lower-clause-does : goal.returns-in_err-lower-clause-does
returns-in_err-lower-clause-does g c =
    let l = g.W.Wanted.lower c.args.wanted.now in let u = g.W.Wanted.upper c.args.wanted.now in let t = c.args.task in let x = c.args.var in
    let w = g.G.Grow.view c.sides_of.new.store in let sd = c.sides_of.result in let a = c.sides_of.ensures.sides in let k = c.sides_of.ensures.kept in
    let d = MorrealeDue-stays l u _ w t k.grown c.requires.due in let s = IsSplit-grown k.grown t x c.requires.due.bounds.two c.requires.split in
    let low_half = Low-half l u w t x d s sd a in let high_half = High-half l u w t x d s sd a in
    let v1 = g.G.Grow.view c.function.new.store in
    let f1 = subst (λ (b : Interval). Does (λ e. Denotes Bdd v1 e (function_in w b)) l u w v1 (Ok c.in_ok-low_function.low_function)) (low-half-is l u w t x d s sd a) c.in_ok-low_function.ensures.does in
    let v2 = g.G.Grow.view c.function-2.new.store in let same = function-half f1.moved.grown high_half.two high_half.other_is ∙ ap (function_in w) (high-half-is l u w t x d s sd a) in
    let f2 = subst (λ (h : ℕ → Bool). Does (λ e. Denotes Bdd v2 e h) l u v1 v2 (Ok c.in_ok-high_function.high_function)) same c.in_ok-high_function.ensures.does in
    let m2 = Grown-trans f1.moved.grown f2.moved.grown in let g0 = Denotes-grown Bdd f2.moved.grown f1.answer in
    let l1 = Low-left-does l u w t x d s sd a v2 m2 c.in_ok-low_function.low_function (Ok c.in_ok-low_left.low_left) g0 c.in_ok-low_left.ensures.runs in
    let v3 = g.G.Grow.view c.without.new.store in let m3 = Grown-trans m2 l1.moved.grown in let g1 = Denotes-grown Bdd l1.moved.grown f2.answer in
    let l2 = High-left-does l u w t x d s sd a v3 m3 c.in_ok-high_function.high_function (Ok c.in_ok-high_left.high_left) g1 c.in_ok-high_left.ensures.runs in
    let v4 = g.G.Grow.view c.without-2.new.store in let m4 = Grown-trans m3 l2.moved.grown in let left = Denotes-grown Bdd l2.moved.grown l1.answer in
    let lo = Lower-does l u w t x d s sd a v4 m4 c.in_ok-low_left.low_left c.in_ok-high_left.high_left (Err _) left l2.answer c.in_err-lower.ensures.runs in
    let q = err_from_is_err_and c.from_residual-in_err-lower.result c.from_residual-in_err-lower.ensures.1 in rw (q.1, q.2) (after_kept l u k (after l u f1.moved (after l u f2.moved (after l u l1.moved (after l u l2.moved (failed l u _ lo))))))

pub returns-in_err-lower-clause-scratch : goal.returns-in_err-lower-clause-scratch
returns-in_err-lower-clause-scratch g c = keeps_both c.in_ok-low_function.ensures.scratch (keeps_both c.in_ok-high_function.ensures.scratch (keeps_both (keeps_same c.in_ok-low_left.ensures.stack) (keeps_both (keeps_same c.in_ok-high_left.ensures.stack) ((keeps_same c.in_err-lower.ensures.stack)))))

pub returns-in_err-upper-clause-does : goal.returns-in_err-upper-clause-does
returns-in_err-upper-clause-does g c =
    let l = g.W.Wanted.lower c.args.wanted.now in let u = g.W.Wanted.upper c.args.wanted.now in let t = c.args.task in let x = c.args.var in
    let w = g.G.Grow.view c.sides_of.new.store in let sd = c.sides_of.result in let a = c.sides_of.ensures.sides in let k = c.sides_of.ensures.kept in
    let d = MorrealeDue-stays l u _ w t k.grown c.requires.due in let s = IsSplit-grown k.grown t x c.requires.due.bounds.two c.requires.split in
    let low_half = Low-half l u w t x d s sd a in let high_half = High-half l u w t x d s sd a in
    let v1 = g.G.Grow.view c.function.new.store in
    let f1 = subst (λ (b : Interval). Does (λ e. Denotes Bdd v1 e (function_in w b)) l u w v1 (Ok c.in_ok-low_function.low_function)) (low-half-is l u w t x d s sd a) c.in_ok-low_function.ensures.does in
    let v2 = g.G.Grow.view c.function-2.new.store in let same = function-half f1.moved.grown high_half.two high_half.other_is ∙ ap (function_in w) (high-half-is l u w t x d s sd a) in
    let f2 = subst (λ (h : ℕ → Bool). Does (λ e. Denotes Bdd v2 e h) l u v1 v2 (Ok c.in_ok-high_function.high_function)) same c.in_ok-high_function.ensures.does in
    let m2 = Grown-trans f1.moved.grown f2.moved.grown in let g0 = Denotes-grown Bdd f2.moved.grown f1.answer in
    let l1 = Low-left-does l u w t x d s sd a v2 m2 c.in_ok-low_function.low_function (Ok c.in_ok-low_left.low_left) g0 c.in_ok-low_left.ensures.runs in
    let v3 = g.G.Grow.view c.without.new.store in let m3 = Grown-trans m2 l1.moved.grown in let g1 = Denotes-grown Bdd l1.moved.grown f2.answer in
    let l2 = High-left-does l u w t x d s sd a v3 m3 c.in_ok-high_function.high_function (Ok c.in_ok-high_left.high_left) g1 c.in_ok-high_left.ensures.runs in
    let v4 = g.G.Grow.view c.without-2.new.store in let m4 = Grown-trans m3 l2.moved.grown in let left = Denotes-grown Bdd l2.moved.grown l1.answer in
    let lo = Lower-does l u w t x d s sd a v4 m4 c.in_ok-low_left.low_left c.in_ok-high_left.high_left (Ok c.in_ok-lower.lower) left l2.answer c.in_ok-lower.ensures.runs in
    let v5 = g.G.Grow.view c.or.new.store in let m5 = Grown-trans m4 lo.moved.grown in
    let up = Upper-does l u w t x d s sd a v5 m5 (Err _) c.in_err-upper.ensures.runs in
    let q = err_from_is_err_and c.from_residual-in_err-upper.result c.from_residual-in_err-upper.ensures.1 in rw (q.1, q.2) (after_kept l u k (after l u f1.moved (after l u f2.moved (after l u l1.moved (after l u l2.moved (after l u lo.moved (failed l u _ up)))))))

pub returns-in_err-upper-clause-scratch : goal.returns-in_err-upper-clause-scratch
returns-in_err-upper-clause-scratch g c = keeps_both c.in_ok-low_function.ensures.scratch (keeps_both c.in_ok-high_function.ensures.scratch (keeps_both (keeps_same c.in_ok-low_left.ensures.stack) (keeps_both (keeps_same c.in_ok-high_left.ensures.stack) (keeps_both (keeps_same c.in_ok-lower.ensures.stack) ((keeps_same c.in_err-upper.ensures.stack))))))

pub returns-clause-does : goal.returns-clause-does
returns-clause-does g c =
    let l = g.W.Wanted.lower c.args.wanted.now in let u = g.W.Wanted.upper c.args.wanted.now in let t = c.args.task in let x = c.args.var in
    let w = g.G.Grow.view c.sides_of.new.store in let sd = c.sides_of.result in let a = c.sides_of.ensures.sides in let k = c.sides_of.ensures.kept in
    let d = MorrealeDue-stays l u _ w t k.grown c.requires.due in let s = IsSplit-grown k.grown t x c.requires.due.bounds.two c.requires.split in
    let low_half = Low-half l u w t x d s sd a in let high_half = High-half l u w t x d s sd a in
    let v1 = g.G.Grow.view c.function.new.store in
    let f1 = subst (λ (b : Interval). Does (λ e. Denotes Bdd v1 e (function_in w b)) l u w v1 (Ok c.in_ok-low_function.low_function)) (low-half-is l u w t x d s sd a) c.in_ok-low_function.ensures.does in
    let v2 = g.G.Grow.view c.function-2.new.store in let same = function-half f1.moved.grown high_half.two high_half.other_is ∙ ap (function_in w) (high-half-is l u w t x d s sd a) in
    let f2 = subst (λ (h : ℕ → Bool). Does (λ e. Denotes Bdd v2 e h) l u v1 v2 (Ok c.in_ok-high_function.high_function)) same c.in_ok-high_function.ensures.does in
    let m2 = Grown-trans f1.moved.grown f2.moved.grown in let g0 = Denotes-grown Bdd f2.moved.grown f1.answer in
    let l1 = Low-left-does l u w t x d s sd a v2 m2 c.in_ok-low_function.low_function (Ok c.in_ok-low_left.low_left) g0 c.in_ok-low_left.ensures.runs in
    let v3 = g.G.Grow.view c.without.new.store in let m3 = Grown-trans m2 l1.moved.grown in let g1 = Denotes-grown Bdd l1.moved.grown f2.answer in
    let l2 = High-left-does l u w t x d s sd a v3 m3 c.in_ok-high_function.high_function (Ok c.in_ok-high_left.high_left) g1 c.in_ok-high_left.ensures.runs in
    let v4 = g.G.Grow.view c.without-2.new.store in let m4 = Grown-trans m3 l2.moved.grown in let left = Denotes-grown Bdd l2.moved.grown l1.answer in
    let lo = Lower-does l u w t x d s sd a v4 m4 c.in_ok-low_left.low_left c.in_ok-high_left.high_left (Ok c.in_ok-lower.lower) left l2.answer c.in_ok-lower.ensures.runs in
    let v5 = g.G.Grow.view c.or.new.store in let m5 = Grown-trans m4 lo.moved.grown in
    let up = Upper-does l u w t x d s sd a v5 m5 (Ok c.in_ok-upper.upper) c.in_ok-upper.ensures.runs in
    let v6 = g.G.Grow.view c.and.new.store in let m6 = Grown-trans m5 up.moved.grown in
    let child = Both-later l u w v6 t x m6 d s c.two.result c.in_ok-lower.lower c.in_ok-upper.upper c.two.ensures.f c.two.ensures.g (Denotes-grown Bdd up.moved.grown lo.answer) up.answer in
    after_kept l u k (after l u f1.moved (after l u f2.moved (after l u l1.moved (after l u l2.moved (after l u lo.moved (answered l u c.two.result up.moved child))))))

pub returns-clause-scratch : goal.returns-clause-scratch
returns-clause-scratch g c = keeps_both c.in_ok-low_function.ensures.scratch (keeps_both c.in_ok-high_function.ensures.scratch (keeps_both (keeps_same c.in_ok-low_left.ensures.stack) (keeps_both (keeps_same c.in_ok-high_left.ensures.stack) (keeps_both (keeps_same c.in_ok-lower.ensures.stack) ((keeps_same c.in_ok-upper.ensures.stack))))))

pub sides_of-requires-clause-two : goal.sides_of-requires-clause-two
sides_of-requires-clause-two g c = c.requires.due.bounds.two

pub sides_of-requires-clause-top : goal.sides_of-requires-clause-top
sides_of-requires-clause-top g c = c.requires.split.top

pub function-requires-clause-half : goal.function-requires-clause-half
function-requires-clause-half g c =
    let l = g.W.Wanted.lower c.args.wanted.now in let u = g.W.Wanted.upper c.args.wanted.now in let t = c.args.task in let x = c.args.var in
    let w = g.G.Grow.view c.sides_of.new.store in let sd = c.sides_of.result in let a = c.sides_of.ensures.sides in let k = c.sides_of.ensures.kept in
    let d = MorrealeDue-stays l u _ w t k.grown c.requires.due in let s = IsSplit-grown k.grown t x c.requires.due.bounds.two c.requires.split in
    Low-half l u w t x d s sd a

pub function-requires-clause-answer : goal.function-requires-clause-answer
function-requires-clause-answer g c =
    let l = g.W.Wanted.lower c.args.wanted.now in let u = g.W.Wanted.upper c.args.wanted.now in let t = c.args.task in let x = c.args.var in
    let w = g.G.Grow.view c.sides_of.new.store in let sd = c.sides_of.result in let a = c.sides_of.ensures.sides in let k = c.sides_of.ensures.kept in
    let d = MorrealeDue-stays l u _ w t k.grown c.requires.due in let s = IsSplit-grown k.grown t x c.requires.due.bounds.two c.requires.split in
    subst (λ (b : Interval). Shows g.W.Wanted.family w (cover_in w b) c.args.low) (sym (low-half-is l u w t x d s sd a))
    (Shows-cover l u _ w t x k.grown c.requires.due.bounds.two g.W.Wanted.family (low_at (g.G.Grow.view c.args.store.now) t x) (low_at w t x) c.args.low (low_at-grown l u _ w t x k.grown c.requires.due.bounds.two) c.requires.low)

pub function-requires-clause-room : goal.function-requires-clause-room
function-requires-clause-room g c = room-extra g.W.Wanted.family _ _ c.args.stack.now c.args.stack.now c.sides_of.ensures.kept.grown c.requires.room (keeps_none c.args.stack.now)

pub function-requires-2-clause-half : goal.function-requires-2-clause-half
function-requires-2-clause-half g c =
    let l = g.W.Wanted.lower c.args.wanted.now in let u = g.W.Wanted.upper c.args.wanted.now in let t = c.args.task in let x = c.args.var in
    let w = g.G.Grow.view c.sides_of.new.store in let sd = c.sides_of.result in let a = c.sides_of.ensures.sides in let k = c.sides_of.ensures.kept in
    let d = MorrealeDue-stays l u _ w t k.grown c.requires.due in let s = IsSplit-grown k.grown t x c.requires.due.bounds.two c.requires.split in
    let v1 = g.G.Grow.view c.function.new.store in
    let f1 = subst (λ (b : Interval). Does (λ e. Denotes Bdd v1 e (function_in w b)) l u w v1 (Ok c.in_ok-low_function.low_function)) (low-half-is l u w t x d s sd a) c.in_ok-low_function.ensures.does in
    IsHalf-grown f1.moved.grown (High-half l u w t x d s sd a)

pub function-requires-2-clause-answer : goal.function-requires-2-clause-answer
function-requires-2-clause-answer g c =
    let l = g.W.Wanted.lower c.args.wanted.now in let u = g.W.Wanted.upper c.args.wanted.now in let t = c.args.task in let x = c.args.var in
    let w = g.G.Grow.view c.sides_of.new.store in let sd = c.sides_of.result in let a = c.sides_of.ensures.sides in let k = c.sides_of.ensures.kept in
    let d = MorrealeDue-stays l u _ w t k.grown c.requires.due in let s = IsSplit-grown k.grown t x c.requires.due.bounds.two c.requires.split in
    let low_half = Low-half l u w t x d s sd a in let high_half = High-half l u w t x d s sd a in
    let v1 = g.G.Grow.view c.function.new.store in
    let f1 = subst (λ (b : Interval). Does (λ e. Denotes Bdd v1 e (function_in w b)) l u w v1 (Ok c.in_ok-low_function.low_function)) (low-half-is l u w t x d s sd a) c.in_ok-low_function.ensures.does in
    shows-half f1.moved.grown g.W.Wanted.family c.args.high high_half.two high_half.other_is
    (subst (λ (b : Interval). Shows g.W.Wanted.family w (cover_in w b) c.args.high) (sym (high-half-is l u w t x d s sd a))
    (Shows-cover l u _ w t x k.grown c.requires.due.bounds.two g.W.Wanted.family (high_at (g.G.Grow.view c.args.store.now) t x) (high_at w t x) c.args.high (high_at-grown l u _ w t x k.grown c.requires.due.bounds.two) c.requires.high))

pub function-requires-2-clause-room : goal.function-requires-2-clause-room
function-requires-2-clause-room g c =
    let e = c.in_ok-low_function.ensures in room-extra g.W.Wanted.family _ _ c.args.stack.now c.function.new.stack (Grown-trans c.sides_of.ensures.kept.grown e.does.moved.grown) c.requires.room e.scratch

pub without-requires-clause-operands : goal.without-requires-clause-operands
without-requires-clause-operands g c =
    let l = g.W.Wanted.lower c.args.wanted.now in let u = g.W.Wanted.upper c.args.wanted.now in let t = c.args.task in let x = c.args.var in
    let w = g.G.Grow.view c.sides_of.new.store in let sd = c.sides_of.result in let a = c.sides_of.ensures.sides in let k = c.sides_of.ensures.kept in
    let d = MorrealeDue-stays l u _ w t k.grown c.requires.due in let s = IsSplit-grown k.grown t x c.requires.due.bounds.two c.requires.split in
    let low_half = Low-half l u w t x d s sd a in let high_half = High-half l u w t x d s sd a in
    let v1 = g.G.Grow.view c.function.new.store in
    let f1 = subst (λ (b : Interval). Does (λ e. Denotes Bdd v1 e (function_in w b)) l u w v1 (Ok c.in_ok-low_function.low_function)) (low-half-is l u w t x d s sd a) c.in_ok-low_function.ensures.does in
    let v2 = g.G.Grow.view c.function-2.new.store in let same = function-half f1.moved.grown high_half.two high_half.other_is ∙ ap (function_in w) (high-half-is l u w t x d s sd a) in
    let f2 = subst (λ (h : ℕ → Bool). Does (λ e. Denotes Bdd v2 e h) l u v1 v2 (Ok c.in_ok-high_function.high_function)) same c.in_ok-high_function.ensures.does in
    let m2 = Grown-trans f1.moved.grown f2.moved.grown in let g0 = Denotes-grown Bdd f2.moved.grown f1.answer in
    Left-two l u w t x d s sd a v2 m2 c.in_ok-low_function.low_function sd.lo.f a.lower.lo_is g0

pub without-requires-clause-permanent : goal.without-requires-clause-permanent
without-requires-clause-permanent g c =
    let l = g.W.Wanted.lower c.args.wanted.now in let u = g.W.Wanted.upper c.args.wanted.now in let t = c.args.task in let x = c.args.var in
    let w = g.G.Grow.view c.sides_of.new.store in let sd = c.sides_of.result in let a = c.sides_of.ensures.sides in let k = c.sides_of.ensures.kept in
    let d = MorrealeDue-stays l u _ w t k.grown c.requires.due in let s = IsSplit-grown k.grown t x c.requires.due.bounds.two c.requires.split in
    let low_half = Low-half l u w t x d s sd a in let high_half = High-half l u w t x d s sd a in
    let v1 = g.G.Grow.view c.function.new.store in
    let f1 = subst (λ (b : Interval). Does (λ e. Denotes Bdd v1 e (function_in w b)) l u w v1 (Ok c.in_ok-low_function.low_function)) (low-half-is l u w t x d s sd a) c.in_ok-low_function.ensures.does in
    let v2 = g.G.Grow.view c.function-2.new.store in let same = function-half f1.moved.grown high_half.two high_half.other_is ∙ ap (function_in w) (high-half-is l u w t x d s sd a) in
    let f2 = subst (λ (h : ℕ → Bool). Does (λ e. Denotes Bdd v2 e h) l u v1 v2 (Ok c.in_ok-high_function.high_function)) same c.in_ok-high_function.ensures.does in
    let m2 = Grown-trans f1.moved.grown f2.moved.grown in let g0 = Denotes-grown Bdd f2.moved.grown f1.answer in
    Permanent-grown m2 d.permanent

pub without-requires-clause-room : goal.without-requires-clause-room
without-requires-clause-room g c =
    let l = g.W.Wanted.lower c.args.wanted.now in let u = g.W.Wanted.upper c.args.wanted.now in let t = c.args.task in let x = c.args.var in
    let w = g.G.Grow.view c.sides_of.new.store in let sd = c.sides_of.result in let a = c.sides_of.ensures.sides in let k = c.sides_of.ensures.kept in
    let d = MorrealeDue-stays l u _ w t k.grown c.requires.due in let s = IsSplit-grown k.grown t x c.requires.due.bounds.two c.requires.split in
    let low_half = Low-half l u w t x d s sd a in let high_half = High-half l u w t x d s sd a in
    let v1 = g.G.Grow.view c.function.new.store in
    let f1 = subst (λ (b : Interval). Does (λ e. Denotes Bdd v1 e (function_in w b)) l u w v1 (Ok c.in_ok-low_function.low_function)) (low-half-is l u w t x d s sd a) c.in_ok-low_function.ensures.does in
    let v2 = g.G.Grow.view c.function-2.new.store in let same = function-half f1.moved.grown high_half.two high_half.other_is ∙ ap (function_in w) (high-half-is l u w t x d s sd a) in
    let f2 = subst (λ (h : ℕ → Bool). Does (λ e. Denotes Bdd v2 e h) l u v1 v2 (Ok c.in_ok-high_function.high_function)) same c.in_ok-high_function.ensures.does in
    let m2 = Grown-trans f1.moved.grown f2.moved.grown in let g0 = Denotes-grown Bdd f2.moved.grown f1.answer in
    room-vars g.W.Wanted.family _ _ l u c.args.stack.now c.function-2.new.stack (Grown-trans k.grown m2) c.requires.due.root c.requires.room (keeps_both c.in_ok-low_function.ensures.scratch c.in_ok-high_function.ensures.scratch)

pub without-requires-2-clause-operands : goal.without-requires-2-clause-operands
without-requires-2-clause-operands g c =
    let l = g.W.Wanted.lower c.args.wanted.now in let u = g.W.Wanted.upper c.args.wanted.now in let t = c.args.task in let x = c.args.var in
    let w = g.G.Grow.view c.sides_of.new.store in let sd = c.sides_of.result in let a = c.sides_of.ensures.sides in let k = c.sides_of.ensures.kept in
    let d = MorrealeDue-stays l u _ w t k.grown c.requires.due in let s = IsSplit-grown k.grown t x c.requires.due.bounds.two c.requires.split in
    let low_half = Low-half l u w t x d s sd a in let high_half = High-half l u w t x d s sd a in
    let v1 = g.G.Grow.view c.function.new.store in
    let f1 = subst (λ (b : Interval). Does (λ e. Denotes Bdd v1 e (function_in w b)) l u w v1 (Ok c.in_ok-low_function.low_function)) (low-half-is l u w t x d s sd a) c.in_ok-low_function.ensures.does in
    let v2 = g.G.Grow.view c.function-2.new.store in let same = function-half f1.moved.grown high_half.two high_half.other_is ∙ ap (function_in w) (high-half-is l u w t x d s sd a) in
    let f2 = subst (λ (h : ℕ → Bool). Does (λ e. Denotes Bdd v2 e h) l u v1 v2 (Ok c.in_ok-high_function.high_function)) same c.in_ok-high_function.ensures.does in
    let m2 = Grown-trans f1.moved.grown f2.moved.grown in let g0 = Denotes-grown Bdd f2.moved.grown f1.answer in
    let l1 = Low-left-does l u w t x d s sd a v2 m2 c.in_ok-low_function.low_function (Ok c.in_ok-low_left.low_left) g0 c.in_ok-low_left.ensures.runs in
    let v3 = g.G.Grow.view c.without.new.store in let m3 = Grown-trans m2 l1.moved.grown in let g1 = Denotes-grown Bdd l1.moved.grown f2.answer in
    Left-two l u w t x d s sd a v3 m3 c.in_ok-high_function.high_function sd.hi.f a.lower.hi_is g1

pub without-requires-2-clause-permanent : goal.without-requires-2-clause-permanent
without-requires-2-clause-permanent g c =
    let l = g.W.Wanted.lower c.args.wanted.now in let u = g.W.Wanted.upper c.args.wanted.now in let t = c.args.task in let x = c.args.var in
    let w = g.G.Grow.view c.sides_of.new.store in let sd = c.sides_of.result in let a = c.sides_of.ensures.sides in let k = c.sides_of.ensures.kept in
    let d = MorrealeDue-stays l u _ w t k.grown c.requires.due in let s = IsSplit-grown k.grown t x c.requires.due.bounds.two c.requires.split in
    let low_half = Low-half l u w t x d s sd a in let high_half = High-half l u w t x d s sd a in
    let v1 = g.G.Grow.view c.function.new.store in
    let f1 = subst (λ (b : Interval). Does (λ e. Denotes Bdd v1 e (function_in w b)) l u w v1 (Ok c.in_ok-low_function.low_function)) (low-half-is l u w t x d s sd a) c.in_ok-low_function.ensures.does in
    let v2 = g.G.Grow.view c.function-2.new.store in let same = function-half f1.moved.grown high_half.two high_half.other_is ∙ ap (function_in w) (high-half-is l u w t x d s sd a) in
    let f2 = subst (λ (h : ℕ → Bool). Does (λ e. Denotes Bdd v2 e h) l u v1 v2 (Ok c.in_ok-high_function.high_function)) same c.in_ok-high_function.ensures.does in
    let m2 = Grown-trans f1.moved.grown f2.moved.grown in let g0 = Denotes-grown Bdd f2.moved.grown f1.answer in
    let l1 = Low-left-does l u w t x d s sd a v2 m2 c.in_ok-low_function.low_function (Ok c.in_ok-low_left.low_left) g0 c.in_ok-low_left.ensures.runs in
    let v3 = g.G.Grow.view c.without.new.store in let m3 = Grown-trans m2 l1.moved.grown in let g1 = Denotes-grown Bdd l1.moved.grown f2.answer in
    Permanent-grown m3 d.permanent

pub without-requires-2-clause-room : goal.without-requires-2-clause-room
without-requires-2-clause-room g c =
    let l = g.W.Wanted.lower c.args.wanted.now in let u = g.W.Wanted.upper c.args.wanted.now in let t = c.args.task in let x = c.args.var in
    let w = g.G.Grow.view c.sides_of.new.store in let sd = c.sides_of.result in let a = c.sides_of.ensures.sides in let k = c.sides_of.ensures.kept in
    let d = MorrealeDue-stays l u _ w t k.grown c.requires.due in let s = IsSplit-grown k.grown t x c.requires.due.bounds.two c.requires.split in
    let low_half = Low-half l u w t x d s sd a in let high_half = High-half l u w t x d s sd a in
    let v1 = g.G.Grow.view c.function.new.store in
    let f1 = subst (λ (b : Interval). Does (λ e. Denotes Bdd v1 e (function_in w b)) l u w v1 (Ok c.in_ok-low_function.low_function)) (low-half-is l u w t x d s sd a) c.in_ok-low_function.ensures.does in
    let v2 = g.G.Grow.view c.function-2.new.store in let same = function-half f1.moved.grown high_half.two high_half.other_is ∙ ap (function_in w) (high-half-is l u w t x d s sd a) in
    let f2 = subst (λ (h : ℕ → Bool). Does (λ e. Denotes Bdd v2 e h) l u v1 v2 (Ok c.in_ok-high_function.high_function)) same c.in_ok-high_function.ensures.does in
    let m2 = Grown-trans f1.moved.grown f2.moved.grown in let g0 = Denotes-grown Bdd f2.moved.grown f1.answer in
    let l1 = Low-left-does l u w t x d s sd a v2 m2 c.in_ok-low_function.low_function (Ok c.in_ok-low_left.low_left) g0 c.in_ok-low_left.ensures.runs in
    let v3 = g.G.Grow.view c.without.new.store in let m3 = Grown-trans m2 l1.moved.grown in let g1 = Denotes-grown Bdd l1.moved.grown f2.answer in
    room-vars g.W.Wanted.family _ _ l u c.args.stack.now c.without.new.stack (Grown-trans k.grown m3) c.requires.due.root c.requires.room (keeps_both c.in_ok-low_function.ensures.scratch (keeps_both c.in_ok-high_function.ensures.scratch ((keeps_same c.in_ok-low_left.ensures.stack))))

pub or-requires-clause-operands : goal.or-requires-clause-operands
or-requires-clause-operands g c =
    let l = g.W.Wanted.lower c.args.wanted.now in let u = g.W.Wanted.upper c.args.wanted.now in let t = c.args.task in let x = c.args.var in
    let w = g.G.Grow.view c.sides_of.new.store in let sd = c.sides_of.result in let a = c.sides_of.ensures.sides in let k = c.sides_of.ensures.kept in
    let d = MorrealeDue-stays l u _ w t k.grown c.requires.due in let s = IsSplit-grown k.grown t x c.requires.due.bounds.two c.requires.split in
    let low_half = Low-half l u w t x d s sd a in let high_half = High-half l u w t x d s sd a in
    let v1 = g.G.Grow.view c.function.new.store in
    let f1 = subst (λ (b : Interval). Does (λ e. Denotes Bdd v1 e (function_in w b)) l u w v1 (Ok c.in_ok-low_function.low_function)) (low-half-is l u w t x d s sd a) c.in_ok-low_function.ensures.does in
    let v2 = g.G.Grow.view c.function-2.new.store in let same = function-half f1.moved.grown high_half.two high_half.other_is ∙ ap (function_in w) (high-half-is l u w t x d s sd a) in
    let f2 = subst (λ (h : ℕ → Bool). Does (λ e. Denotes Bdd v2 e h) l u v1 v2 (Ok c.in_ok-high_function.high_function)) same c.in_ok-high_function.ensures.does in
    let m2 = Grown-trans f1.moved.grown f2.moved.grown in let g0 = Denotes-grown Bdd f2.moved.grown f1.answer in
    let l1 = Low-left-does l u w t x d s sd a v2 m2 c.in_ok-low_function.low_function (Ok c.in_ok-low_left.low_left) g0 c.in_ok-low_left.ensures.runs in
    let v3 = g.G.Grow.view c.without.new.store in let m3 = Grown-trans m2 l1.moved.grown in let g1 = Denotes-grown Bdd l1.moved.grown f2.answer in
    let l2 = High-left-does l u w t x d s sd a v3 m3 c.in_ok-high_function.high_function (Ok c.in_ok-high_left.high_left) g1 c.in_ok-high_left.ensures.runs in
    let v4 = g.G.Grow.view c.without-2.new.store in let m4 = Grown-trans m3 l2.moved.grown in let left = Denotes-grown Bdd l2.moved.grown l1.answer in
    record { first = Is-from Bdd left; second = Is-from Bdd l2.answer }

pub or-requires-clause-permanent : goal.or-requires-clause-permanent
or-requires-clause-permanent g c =
    let l = g.W.Wanted.lower c.args.wanted.now in let u = g.W.Wanted.upper c.args.wanted.now in let t = c.args.task in let x = c.args.var in
    let w = g.G.Grow.view c.sides_of.new.store in let sd = c.sides_of.result in let a = c.sides_of.ensures.sides in let k = c.sides_of.ensures.kept in
    let d = MorrealeDue-stays l u _ w t k.grown c.requires.due in let s = IsSplit-grown k.grown t x c.requires.due.bounds.two c.requires.split in
    let low_half = Low-half l u w t x d s sd a in let high_half = High-half l u w t x d s sd a in
    let v1 = g.G.Grow.view c.function.new.store in
    let f1 = subst (λ (b : Interval). Does (λ e. Denotes Bdd v1 e (function_in w b)) l u w v1 (Ok c.in_ok-low_function.low_function)) (low-half-is l u w t x d s sd a) c.in_ok-low_function.ensures.does in
    let v2 = g.G.Grow.view c.function-2.new.store in let same = function-half f1.moved.grown high_half.two high_half.other_is ∙ ap (function_in w) (high-half-is l u w t x d s sd a) in
    let f2 = subst (λ (h : ℕ → Bool). Does (λ e. Denotes Bdd v2 e h) l u v1 v2 (Ok c.in_ok-high_function.high_function)) same c.in_ok-high_function.ensures.does in
    let m2 = Grown-trans f1.moved.grown f2.moved.grown in let g0 = Denotes-grown Bdd f2.moved.grown f1.answer in
    let l1 = Low-left-does l u w t x d s sd a v2 m2 c.in_ok-low_function.low_function (Ok c.in_ok-low_left.low_left) g0 c.in_ok-low_left.ensures.runs in
    let v3 = g.G.Grow.view c.without.new.store in let m3 = Grown-trans m2 l1.moved.grown in let g1 = Denotes-grown Bdd l1.moved.grown f2.answer in
    let l2 = High-left-does l u w t x d s sd a v3 m3 c.in_ok-high_function.high_function (Ok c.in_ok-high_left.high_left) g1 c.in_ok-high_left.ensures.runs in
    let v4 = g.G.Grow.view c.without-2.new.store in let m4 = Grown-trans m3 l2.moved.grown in let left = Denotes-grown Bdd l2.moved.grown l1.answer in
    Permanent-grown m4 d.permanent

pub or-requires-clause-room : goal.or-requires-clause-room
or-requires-clause-room g c =
    let l = g.W.Wanted.lower c.args.wanted.now in let u = g.W.Wanted.upper c.args.wanted.now in let t = c.args.task in let x = c.args.var in
    let w = g.G.Grow.view c.sides_of.new.store in let sd = c.sides_of.result in let a = c.sides_of.ensures.sides in let k = c.sides_of.ensures.kept in
    let d = MorrealeDue-stays l u _ w t k.grown c.requires.due in let s = IsSplit-grown k.grown t x c.requires.due.bounds.two c.requires.split in
    let low_half = Low-half l u w t x d s sd a in let high_half = High-half l u w t x d s sd a in
    let v1 = g.G.Grow.view c.function.new.store in
    let f1 = subst (λ (b : Interval). Does (λ e. Denotes Bdd v1 e (function_in w b)) l u w v1 (Ok c.in_ok-low_function.low_function)) (low-half-is l u w t x d s sd a) c.in_ok-low_function.ensures.does in
    let v2 = g.G.Grow.view c.function-2.new.store in let same = function-half f1.moved.grown high_half.two high_half.other_is ∙ ap (function_in w) (high-half-is l u w t x d s sd a) in
    let f2 = subst (λ (h : ℕ → Bool). Does (λ e. Denotes Bdd v2 e h) l u v1 v2 (Ok c.in_ok-high_function.high_function)) same c.in_ok-high_function.ensures.does in
    let m2 = Grown-trans f1.moved.grown f2.moved.grown in let g0 = Denotes-grown Bdd f2.moved.grown f1.answer in
    let l1 = Low-left-does l u w t x d s sd a v2 m2 c.in_ok-low_function.low_function (Ok c.in_ok-low_left.low_left) g0 c.in_ok-low_left.ensures.runs in
    let v3 = g.G.Grow.view c.without.new.store in let m3 = Grown-trans m2 l1.moved.grown in let g1 = Denotes-grown Bdd l1.moved.grown f2.answer in
    let l2 = High-left-does l u w t x d s sd a v3 m3 c.in_ok-high_function.high_function (Ok c.in_ok-high_left.high_left) g1 c.in_ok-high_left.ensures.runs in
    let v4 = g.G.Grow.view c.without-2.new.store in let m4 = Grown-trans m3 l2.moved.grown in let left = Denotes-grown Bdd l2.moved.grown l1.answer in
    room-vars g.W.Wanted.family _ _ l u c.args.stack.now c.without-2.new.stack (Grown-trans k.grown m4) c.requires.due.root c.requires.room (keeps_both c.in_ok-low_function.ensures.scratch (keeps_both c.in_ok-high_function.ensures.scratch (keeps_both (keeps_same c.in_ok-low_left.ensures.stack) ((keeps_same c.in_ok-high_left.ensures.stack)))))

pub and-requires-clause-operands : goal.and-requires-clause-operands
and-requires-clause-operands g c =
    let l = g.W.Wanted.lower c.args.wanted.now in let u = g.W.Wanted.upper c.args.wanted.now in let t = c.args.task in let x = c.args.var in
    let w = g.G.Grow.view c.sides_of.new.store in let sd = c.sides_of.result in let a = c.sides_of.ensures.sides in let k = c.sides_of.ensures.kept in
    let d = MorrealeDue-stays l u _ w t k.grown c.requires.due in let s = IsSplit-grown k.grown t x c.requires.due.bounds.two c.requires.split in
    let low_half = Low-half l u w t x d s sd a in let high_half = High-half l u w t x d s sd a in
    let v1 = g.G.Grow.view c.function.new.store in
    let f1 = subst (λ (b : Interval). Does (λ e. Denotes Bdd v1 e (function_in w b)) l u w v1 (Ok c.in_ok-low_function.low_function)) (low-half-is l u w t x d s sd a) c.in_ok-low_function.ensures.does in
    let v2 = g.G.Grow.view c.function-2.new.store in let same = function-half f1.moved.grown high_half.two high_half.other_is ∙ ap (function_in w) (high-half-is l u w t x d s sd a) in
    let f2 = subst (λ (h : ℕ → Bool). Does (λ e. Denotes Bdd v2 e h) l u v1 v2 (Ok c.in_ok-high_function.high_function)) same c.in_ok-high_function.ensures.does in
    let m2 = Grown-trans f1.moved.grown f2.moved.grown in let g0 = Denotes-grown Bdd f2.moved.grown f1.answer in
    let l1 = Low-left-does l u w t x d s sd a v2 m2 c.in_ok-low_function.low_function (Ok c.in_ok-low_left.low_left) g0 c.in_ok-low_left.ensures.runs in
    let v3 = g.G.Grow.view c.without.new.store in let m3 = Grown-trans m2 l1.moved.grown in let g1 = Denotes-grown Bdd l1.moved.grown f2.answer in
    let l2 = High-left-does l u w t x d s sd a v3 m3 c.in_ok-high_function.high_function (Ok c.in_ok-high_left.high_left) g1 c.in_ok-high_left.ensures.runs in
    let v4 = g.G.Grow.view c.without-2.new.store in let m4 = Grown-trans m3 l2.moved.grown in let left = Denotes-grown Bdd l2.moved.grown l1.answer in
    let lo = Lower-does l u w t x d s sd a v4 m4 c.in_ok-low_left.low_left c.in_ok-high_left.high_left (Ok c.in_ok-lower.lower) left l2.answer c.in_ok-lower.ensures.runs in
    let v5 = g.G.Grow.view c.or.new.store in let m5 = Grown-trans m4 lo.moved.grown in
    Upper-two l u w t x d s sd a v5 m5

pub and-requires-clause-permanent : goal.and-requires-clause-permanent
and-requires-clause-permanent g c =
    let l = g.W.Wanted.lower c.args.wanted.now in let u = g.W.Wanted.upper c.args.wanted.now in let t = c.args.task in let x = c.args.var in
    let w = g.G.Grow.view c.sides_of.new.store in let sd = c.sides_of.result in let a = c.sides_of.ensures.sides in let k = c.sides_of.ensures.kept in
    let d = MorrealeDue-stays l u _ w t k.grown c.requires.due in let s = IsSplit-grown k.grown t x c.requires.due.bounds.two c.requires.split in
    let low_half = Low-half l u w t x d s sd a in let high_half = High-half l u w t x d s sd a in
    let v1 = g.G.Grow.view c.function.new.store in
    let f1 = subst (λ (b : Interval). Does (λ e. Denotes Bdd v1 e (function_in w b)) l u w v1 (Ok c.in_ok-low_function.low_function)) (low-half-is l u w t x d s sd a) c.in_ok-low_function.ensures.does in
    let v2 = g.G.Grow.view c.function-2.new.store in let same = function-half f1.moved.grown high_half.two high_half.other_is ∙ ap (function_in w) (high-half-is l u w t x d s sd a) in
    let f2 = subst (λ (h : ℕ → Bool). Does (λ e. Denotes Bdd v2 e h) l u v1 v2 (Ok c.in_ok-high_function.high_function)) same c.in_ok-high_function.ensures.does in
    let m2 = Grown-trans f1.moved.grown f2.moved.grown in let g0 = Denotes-grown Bdd f2.moved.grown f1.answer in
    let l1 = Low-left-does l u w t x d s sd a v2 m2 c.in_ok-low_function.low_function (Ok c.in_ok-low_left.low_left) g0 c.in_ok-low_left.ensures.runs in
    let v3 = g.G.Grow.view c.without.new.store in let m3 = Grown-trans m2 l1.moved.grown in let g1 = Denotes-grown Bdd l1.moved.grown f2.answer in
    let l2 = High-left-does l u w t x d s sd a v3 m3 c.in_ok-high_function.high_function (Ok c.in_ok-high_left.high_left) g1 c.in_ok-high_left.ensures.runs in
    let v4 = g.G.Grow.view c.without-2.new.store in let m4 = Grown-trans m3 l2.moved.grown in let left = Denotes-grown Bdd l2.moved.grown l1.answer in
    let lo = Lower-does l u w t x d s sd a v4 m4 c.in_ok-low_left.low_left c.in_ok-high_left.high_left (Ok c.in_ok-lower.lower) left l2.answer c.in_ok-lower.ensures.runs in
    let v5 = g.G.Grow.view c.or.new.store in let m5 = Grown-trans m4 lo.moved.grown in
    Permanent-grown m5 d.permanent

pub and-requires-clause-room : goal.and-requires-clause-room
and-requires-clause-room g c =
    let l = g.W.Wanted.lower c.args.wanted.now in let u = g.W.Wanted.upper c.args.wanted.now in let t = c.args.task in let x = c.args.var in
    let w = g.G.Grow.view c.sides_of.new.store in let sd = c.sides_of.result in let a = c.sides_of.ensures.sides in let k = c.sides_of.ensures.kept in
    let d = MorrealeDue-stays l u _ w t k.grown c.requires.due in let s = IsSplit-grown k.grown t x c.requires.due.bounds.two c.requires.split in
    let low_half = Low-half l u w t x d s sd a in let high_half = High-half l u w t x d s sd a in
    let v1 = g.G.Grow.view c.function.new.store in
    let f1 = subst (λ (b : Interval). Does (λ e. Denotes Bdd v1 e (function_in w b)) l u w v1 (Ok c.in_ok-low_function.low_function)) (low-half-is l u w t x d s sd a) c.in_ok-low_function.ensures.does in
    let v2 = g.G.Grow.view c.function-2.new.store in let same = function-half f1.moved.grown high_half.two high_half.other_is ∙ ap (function_in w) (high-half-is l u w t x d s sd a) in
    let f2 = subst (λ (h : ℕ → Bool). Does (λ e. Denotes Bdd v2 e h) l u v1 v2 (Ok c.in_ok-high_function.high_function)) same c.in_ok-high_function.ensures.does in
    let m2 = Grown-trans f1.moved.grown f2.moved.grown in let g0 = Denotes-grown Bdd f2.moved.grown f1.answer in
    let l1 = Low-left-does l u w t x d s sd a v2 m2 c.in_ok-low_function.low_function (Ok c.in_ok-low_left.low_left) g0 c.in_ok-low_left.ensures.runs in
    let v3 = g.G.Grow.view c.without.new.store in let m3 = Grown-trans m2 l1.moved.grown in let g1 = Denotes-grown Bdd l1.moved.grown f2.answer in
    let l2 = High-left-does l u w t x d s sd a v3 m3 c.in_ok-high_function.high_function (Ok c.in_ok-high_left.high_left) g1 c.in_ok-high_left.ensures.runs in
    let v4 = g.G.Grow.view c.without-2.new.store in let m4 = Grown-trans m3 l2.moved.grown in let left = Denotes-grown Bdd l2.moved.grown l1.answer in
    let lo = Lower-does l u w t x d s sd a v4 m4 c.in_ok-low_left.low_left c.in_ok-high_left.high_left (Ok c.in_ok-lower.lower) left l2.answer c.in_ok-lower.ensures.runs in
    let v5 = g.G.Grow.view c.or.new.store in let m5 = Grown-trans m4 lo.moved.grown in
    room-vars g.W.Wanted.family _ _ l u c.args.stack.now c.or.new.stack (Grown-trans k.grown m5) c.requires.due.root c.requires.room (keeps_both c.in_ok-low_function.ensures.scratch (keeps_both c.in_ok-high_function.ensures.scratch (keeps_both (keeps_same c.in_ok-low_left.ensures.stack) (keeps_both (keeps_same c.in_ok-high_left.ensures.stack) ((keeps_same c.in_ok-lower.ensures.stack))))))
