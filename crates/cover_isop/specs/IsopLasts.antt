-- What is true of tasks of Morreale's calls stays true while a store grows.
use Rattle.std.proofs.Common.{◌≡◌, ℕ, Bool, true, false, inl, inr, refl, ap, ap₂, sym, ◌∙◌, subst, arith}
use Rattle.edge_bits.specs.declared.edges.Edge.{Edge}
use Rattle.edge_bits.specs.declared.edges.Kind.TheVariants.{Bdd, Zdd}
use Rattle.function_laws.specs.IrredundantCovers.{cover_value}
use Rattle.function_laws.specs.Kinds.{Denoted}
use Rattle.function_laws.specs.MorrealeCalls.{Interval, both_call, high_call, low_call}
use Rattle.node_store.specs.States.{State}
use Rattle.node_store.specs.TwoLaws.{AreTwo-grown}
use Rattle.node_store.specs.Views.{View, AreTwo, Grown, IsTop}
use Rattle.node_store.specs.ViewLaws.{Denotes-grown, Denotes-lasts, IsVariable-back, IsVariable-grown, Permanent-grown, level-grown, top-grown, values_at-grown}
use Rattle.node_store.specs.Work.{Moves}
use Rattle.node_store.specs.WorkLaws.{Moves-both, Moves-none}
use Rattle.node_store.specs.declared.operator.Frame.{Frame}
use Rattle.node_store.specs.declared.operator.Task.{Task}
use Rattle.node_store.specs.declared.operator.Wait.{Wait}
use Rattle.node_store.specs.declared.operator.Wait.TheVariants.{Only, First, Second, Third, Fourth}
use Rattle.cover_isop.specs.CoverLasts.{AreVariables-grown}
use Rattle.cover_isop.specs.Isops.{HasBounds, IsCallIn, IsFurther, IsSplit, MorrealeAnswers, MorrealeDue, MorrealeWaitIs, MorrealeWaits, Shows, both_at, bounds_at, cover_in, function_in, high_at, isop_work, low_at, morreale_depth, morreale_extra, order_in}

module _ {v w : View} (m : Grown v w) where
  pub bounds-grown : {f g : Edge} → AreTwo Bdd v f g → bounds_at w f g ≡ bounds_at v f g
  bounds-grown {f} {g} d = rw (values_at-grown Bdd m d.first, values_at-grown Bdd m d.second) refl

  pub order-grown : order_in w ≡ order_in v
  order-grown = rw (m.vars, m.level) refl

  pub cover-in-grown : (b : Interval) → cover_in w b ≡ cover_in v b
  cover-in-grown b = rw (m.vars, m.elements, m.level) refl

  pub function-in-grown : (b : Interval) → function_in w b ≡ function_in v b
  function-in-grown b = rw (m.vars, m.elements, m.level) refl

  pub call-in-grown : (root b : Interval) → IsCallIn v root b → IsCallIn w root b
  call-in-grown root b c = rw (m.vars, m.elements, m.level) c

  pub HasBounds-grown : {f g : Edge} → HasBounds v f g → HasBounds w f g
  HasBounds-grown {f} {g} d = record {
    variables = λ x below. AreVariables-grown v.vars m d.variables x (rw (sym m.vars) below);
    literals = rw (m.vars, m.elements) d.literals;
    two = AreTwo-grown Bdd m d.two;
  }

  work-grown : {f g : Edge} → AreTwo Bdd v f g → (F : Denoted) → isop_work f g w F ≡ isop_work f g v F
  work-grown {f} {g} d F = rw (m.vars, m.elements, m.level, values_at-grown Bdd m d.first, values_at-grown Bdd m d.second) refl

  pub isop_work-stays : {f g : Edge} (F : Denoted) → AreTwo Bdd v f g → isop_work f g v F → isop_work f g w F
  isop_work-stays {f} {g} F d is = rw (work-grown d F) is

  pub isop_work-back : {f g : Edge} (F : Denoted) → AreTwo Bdd v f g → isop_work f g w F → isop_work f g v F
  isop_work-back {f} {g} F d is = rw (sym (work-grown d F)) is

  pub Shows-grown : (family : Bool) (p : ℕ → Bool) (e : Edge) → Shows family v p e → Shows family w p e
  Shows-grown true p e is = Denotes-grown Zdd m is
  Shows-grown false p e is = Denotes-lasts Bdd m (ap₂ (λ n k. cover_value n k p) (sym m.vars) (sym m.elements)) is

  depth-grown : (t : Task) → AreTwo Bdd v t.f t.g → morreale_depth w t ≡ morreale_depth v t
  depth-grown t d = rw (m.vars, m.level, values_at-grown Bdd m d.first, values_at-grown Bdd m d.second) refl

  pub top_grown : (f g : Edge) (x : ℕ) → AreTwo Bdd v f g → IsTop Bdd v f g x → IsTop Bdd w f g x
  top_grown f g x d t =
      let lx = level-grown m x in let tf = top-grown Bdd m d.first in let tg = top-grown Bdd m d.second in let n = m.vars in
      let a = t.above_f in let b = t.above_g in let c = t.within in
      record {
        in_range = IsVariable-grown Bdd m x t.in_range;
        within = omega arith;
        above_f = omega arith;
        above_g = omega arith;
        touches = elim t.touches [ inl h ↦ inl (omega arith) | inr h ↦ inr (omega arith) ];
      }

  pub IsSplit-grown : (t : Task) (x : ℕ) → AreTwo Bdd v t.f t.g → IsSplit v t x → IsSplit w t x
  IsSplit-grown t x d s = record {
    some = rw (m.vars, values_at-grown Bdd m d.first) s.some;
    not_all = rw (m.vars, values_at-grown Bdd m d.second) s.not_all;
    top = top_grown t.f t.g x d s.top;
    alone = λ u un same. s.alone u (IsVariable-back Bdd m u un) (sym (level-grown m u) ∙ same ∙ level-grown m x);
    depends = rw (values_at-grown Bdd m d.first, values_at-grown Bdd m d.second) s.depends;
    above = λ u un lt. rw (values_at-grown Bdd m d.first, values_at-grown Bdd m d.second) (s.above u (IsVariable-back Bdd m u un) (let a = level-grown m u in let b = level-grown m x in omega (arith, lt, a, b)));
  }

pub MorrealeDue-stays : (lower upper : Edge) (v w : View) (t : Task) → Grown v w → MorrealeDue lower upper v t → MorrealeDue lower upper w t
MorrealeDue-stays lower upper v w t m d = record {
  permanent = Permanent-grown m d.permanent;
  root = HasBounds-grown m d.root;
  bounds = HasBounds-grown m d.bounds;
  call = rw (bounds-grown m d.root.two, bounds-grown m d.bounds.two) (call-in-grown m (bounds_at v lower upper) (bounds_at v t.f t.g) d.call);
}

pub MorrealeAnswers-stay : (family : Bool) (v w : View) (t : Task) (e : Edge) → Grown v w → AreTwo Bdd v t.f t.g → MorrealeAnswers family v t e → MorrealeAnswers family w t e
MorrealeAnswers-stay family v w t e m d is = rw (bounds-grown m d, cover-in-grown m (bounds_at v t.f t.g)) (Shows-grown m family (cover_in v (bounds_at v t.f t.g)) e is)

pub morreale_depth-stays : (v w : View) (t : Task) → Grown v w → AreTwo Bdd v t.f t.g → morreale_depth w t ≡ morreale_depth v t
morreale_depth-stays v w t m d = depth-grown m t d

pub morreale_extra-stays : (family : Bool) (v w : View) → Grown v w → morreale_extra family w ≡ morreale_extra family v
morreale_extra-stays true v w m = m.elements
morreale_extra-stays false v w m = m.vars

module _ (lower upper : Edge) (v w : View) (t : Task) (x : ℕ) (m : Grown v w) (d : AreTwo Bdd v t.f t.g) where
  pub low_at-grown : low_at w t x ≡ low_at v t x
  low_at-grown = ap (λ b. low_call b x) (bounds-grown m d)

  pub high_at-grown : high_at w t x ≡ high_at v t x
  high_at-grown = ap (λ b. high_call b x) (bounds-grown m d)

  pub both_at-grown : both_at w t x ≡ both_at v t x
  both_at-grown =
      ap (λ b. both_call b x (function_in w (low_call b x)) (function_in w (high_call b x))) (bounds-grown m d)
      ∙ ap₂ (both_call (bounds_at v t.f t.g) x) (function-in-grown m (low_at v t x)) (function-in-grown m (high_at v t x))

  pub IsFurther-grown : (a b : Interval) (u : Task) → b ≡ a → IsFurther lower upper v t a u → IsFurther lower upper w t b u
  IsFurther-grown a b u same i = record {
    due = MorrealeDue-stays lower upper v w u m i.due;
    less = (let l = i.less in let p = morreale_depth-stays v w u m i.due.bounds.two in let q = morreale_depth-stays v w t m d in omega (arith, l, p, q));
    is = bounds-grown m i.due.bounds.two ∙ i.is ∙ sym same;
  }

  pub Shows-cover : (family : Bool) (a b : Interval) (e : Edge) → b ≡ a → Shows family v (cover_in v a) e → Shows family w (cover_in w b) e
  Shows-cover family a b e same is = rw (same, cover-in-grown m a) (Shows-grown m family (cover_in v a) e is)

  pub WaitIs-grown : (family : Bool) (child : Task) (wait : Wait) → MorrealeWaitIs family lower upper v t x child wait → MorrealeWaitIs family lower upper w t x child wait
  WaitIs-grown family child Only h = h
  WaitIs-grown family child (First later) h = (IsFurther-grown (low_at v t x) (low_at w t x) child low_at-grown h.0, IsFurther-grown (high_at v t x) (high_at w t x) later high_at-grown h.1)
  WaitIs-grown family child (Second a) h = (IsFurther-grown (high_at v t x) (high_at w t x) child high_at-grown h.0, Shows-cover family (low_at v t x) (low_at w t x) a low_at-grown h.1)
  WaitIs-grown family child (Third a b) h = (
    IsFurther-grown (both_at v t x) (both_at w t x) child both_at-grown h.0,
    Shows-cover family (low_at v t x) (low_at w t x) a low_at-grown h.1,
    Shows-cover family (high_at v t x) (high_at w t x) b high_at-grown h.2,
  )
  WaitIs-grown family child (Fourth a b c) h = h

pub MorrealeWaits-stay : (family : Bool) (lower upper : Edge) (v w : View) (root : Task) (frame : Frame) (child : Task) → Grown v w → MorrealeDue lower upper v root
    → MorrealeWaits family lower upper v root frame child → MorrealeWaits family lower upper w root frame child
MorrealeWaits-stay family lower upper v w root frame child m d i =
    let two = subst (λ (t : Task). AreTwo Bdd v t.f t.g) (sym i.same) d.bounds.two in
    record {
      same = i.same;
      splits = IsSplit-grown m frame.task frame.var two i.splits;
      wait = WaitIs-grown lower upper v w frame.task frame.var m two family child frame.wait i.wait;
    }

-- what an operator of these calls does to a state: it leaves the marks as they are
pub record IsopMoves (lower upper : Edge) (old new : State) : Type 0 where
  pub moves : Moves (λ w. HasBounds w lower upper) (isop_work lower upper) old.view new.view
  pub marks : new.marks ≡ old.marks

pub IsopMoves-none : (lower upper : Edge) (v : State) → IsopMoves lower upper v v
IsopMoves-none lower upper v = record { moves = Moves-none (λ w. HasBounds w lower upper) (isop_work lower upper) v.view; marks = refl }

pub Isop-both : (lower upper : Edge) (u v w : View) → Moves (λ w. HasBounds w lower upper) (isop_work lower upper) u v → Moves (λ w. HasBounds w lower upper) (isop_work lower upper) v w
    → Moves (λ w. HasBounds w lower upper) (isop_work lower upper) u w
Isop-both lower upper = Moves-both (λ w. HasBounds w lower upper) (isop_work lower upper) (λ v w m d. HasBounds-grown m d) (λ v w F m d is. isop_work-stays m F d.two is)

pub IsopMoves-both : (lower upper : Edge) (u v w : State) → IsopMoves lower upper u v → IsopMoves lower upper v w → IsopMoves lower upper u w
IsopMoves-both lower upper u v w p q = record { moves = Isop-both lower upper u.view v.view w.view p.moves q.moves; marks = q.marks ∙ p.marks }
