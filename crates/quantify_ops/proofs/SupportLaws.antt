-- The support of a function, from the marks of a walk over it.
use Rattle.std.proofs.Common.{◌≡◌, ℕ, ◌<◌, ◌≤◌, Bool, true, false, not, ℤ, List, Option, Some, None, length, get_or, set, inl, inr, refl, sym, ap, ◌∙◌, subst, arith}
use Rattle.std.proofs.lemmas.Bool.{and_left, and_right, cases_eq}
use Rattle.std.proofs.lemmas.List.{length-set}
use Rattle.edge_bits.specs.Assignments.{bit}
use Rattle.edge_bits.specs.declared.edges.Edge.{Edge}
use Rattle.edge_bits.specs.declared.edges.Kind.TheVariants.{Bdd}
use Rattle.function_laws.specs.Cubes.{IsSupport, Needs}
use Rattle.function_laws.specs.Values.{IsFree, choice, conjunction, projection, support}
use Rattle.function_laws.proofs.CubeLemmas.{both_true, by_bit, choice-same_part, part-lacks}
use Rattle.function_laws.proofs.SupportLemmas.{IsSupport-from_not, IsSupport-not, IsSupport-same, IsSupport-support, not_free}
use Rattle.function_laws.proofs.ValueLemmas.{IsFree-choice_other}
use Rattle.ite_core.specs.Cofactors.{one_depth}
use Rattle.node_store.specs.Memo.{MemoHolds}
use Rattle.node_store.specs.Remembering.{Remembers, IsBlank}
use Rattle.node_store.specs.Stacks.{Scratch}
use Rattle.node_store.specs.States.{State, state_of}
use Rattle.node_store.specs.Views.{View, Denotes, Grown, Is, IsInner, IsKey, IsLeaf, Kept, bdd_at}
use Rattle.node_store.specs.ViewLaws.{Denotes-flip, Grown-trans, Is-from, Is-grown, Kept-refl, values_at-grown, values_at-is}
use Rattle.node_store.specs.declared.answers.Answer.{Answer}
use Rattle.node_store.specs.declared.operator.Task.{Task}
use Rattle.node_store.proofs.TwoParts.{Lacks-leaf}
use Rattle.quantify_ops.specs.Products.{IsMark, marked_product}
use Rattle.quantify_ops.specs.Supports.{regular_edge, support_key, Covers, HasNoOther, IsFreeWith, IsWalk, NeedsMore, WalkDue, WalkMoves, WaitsForFirst}
use Rattle.quantify_ops.proofs.LiftLaws.{IsInner-grown}
use Rattle.quantify_ops.proofs.ProductLaws.{AreMarks-grown, AreMarks-nothing, marked-marks, marked-product, product-nothing}

-- the edge with no complement depends on the same variables
pub regular_is : (w : View) (e : Edge) → Is Bdd w e → Is Bdd w (regular_edge e)
regular_is w e d = by_complement e.index e.complement d
  where
    by_complement : (i : ℕ) (c : Bool) → Is Bdd w (record { index = i; complement = c }) → Is Bdd w (record { index = i; complement = false })
    by_complement i true d = Is-from Bdd (Denotes-flip d)
    by_complement i false d = d

pub regular_free : (w : View) (e : Edge) → Is Bdd w e → IsFreeWith (bdd_at w e) (bdd_at w (regular_edge e))
regular_free w e d = by_complement e.index e.complement d
  where
    by_complement : (i : ℕ) (c : Bool) → Is Bdd w (record { index = i; complement = c }) → IsFreeWith (bdd_at w (record { index = i; complement = c })) (bdd_at w (record { index = i; complement = false }))
    by_complement i true d = rw (values_at-is Bdd (Denotes-flip d)) (λ v free k b. ap not (free k b))
    by_complement i false d = λ v free. free

pub free_regular : (w : View) (e : Edge) → Is Bdd w e → IsFreeWith (bdd_at w (regular_edge e)) (bdd_at w e)
free_regular w e d = by_complement e.index e.complement d
  where
    by_complement : (i : ℕ) (c : Bool) → Is Bdd w (record { index = i; complement = c }) → IsFreeWith (bdd_at w (record { index = i; complement = false })) (bdd_at w (record { index = i; complement = c }))
    by_complement i true d = rw (values_at-is Bdd (Denotes-flip d)) (λ v free. not_free (bdd_at w (record { index = i; complement = true })) v free)
    by_complement i false d = λ v free. free

Covers-with : (c f a : ℕ → Bool) → IsFreeWith f a → Covers c f → Covers c a
Covers-with c f a same covers v = elim (covers v) [ inl free ↦ inl (same v free) | inr needs ↦ inr needs ]

pub Covers-more : (c d f : ℕ → Bool) → NeedsMore c d → Covers c f → Covers d f
Covers-more c d f more covers v = elim (covers v) [ inl free ↦ inl free | inr needs ↦ inr (more v needs) ]

-- the marks of a walk that has ended
pub Covers-support : (c f : ℕ → Bool) → Covers c f → HasNoOther c f → IsSupport f c
Covers-support c f covers no_other = record {
  needs = λ k v here none. elim (covers v) [ inl free ↦ free | inr needs ↦ let never : true ≡ false = sym here ∙ needs k none in cc ];
  reaches = no_other;
}

pub Covers-regular : (w : View) (e : Edge) (c : ℕ → Bool) → Is Bdd w e → Covers c (bdd_at w (regular_edge e)) → Covers c (bdd_at w e)
Covers-regular w e c d covers = Covers-with c (bdd_at w (regular_edge e)) (bdd_at w e) (free_regular w e d) covers

-- a leaf depends on no variable
pub Covers-leaf : (v w : View) (c : ℕ → Bool) (e : Edge) (z : ℤ) → Grown v w → Is Bdd v e → IsLeaf Bdd w e (bdd_at v e) z → Covers c (bdd_at w e)
Covers-leaf v w c e z m d i = rw (values_at-grown Bdd m d) (λ u. inl (Lacks-leaf Bdd e (bdd_at v e) z i.leaf u))

-- the memo
pub support_is_key : (w : View) (e : Edge) → Is Bdd w e → IsKey w (support_key e)
support_is_key w e d = let r = regular_is w e d in record { least = omega arith; most = omega arith; f = (Bdd, r); g = (Bdd, r); h = (Bdd, r) }

pub support_keeps : (w : View) (f e : Edge) (s : ℕ → Bool) → Is Bdd w f → Denotes Bdd w e s → IsSupport (bdd_at w f) s → MemoHolds w (support_key f) e
support_keeps w f e s d is support = record {
  f = regular_is w f d;
  answer = Is-from Bdd is;
  support = rw (values_at-is Bdd is) (by_complement f.index f.complement d support);
}
  where
    by_complement : (i : ℕ) (c : Bool) → Is Bdd w (record { index = i; complement = c }) → IsSupport (bdd_at w (record { index = i; complement = c })) s
        → IsSupport (bdd_at w (record { index = i; complement = false })) s
    by_complement i true d p = rw (values_at-is Bdd (Denotes-flip d)) (IsSupport-not (bdd_at w (record { index = i; complement = true })) s p)
    by_complement i false d p = p

support_known : (w : View) (f e : Edge) → Is Bdd w f → MemoHolds w (support_key f) e → IsSupport (bdd_at w f) (bdd_at w e)
support_known w f e d h = by_complement f.index f.complement d h.support
  where
    by_complement : (i : ℕ) (c : Bool) → Is Bdd w (record { index = i; complement = c }) → IsSupport (bdd_at w (record { index = i; complement = false })) (bdd_at w e)
        → IsSupport (bdd_at w (record { index = i; complement = c })) (bdd_at w e)
    by_complement i true d p = IsSupport-from_not (bdd_at w (record { index = i; complement = true })) (bdd_at w e) (subst (λ f. IsSupport f (bdd_at w e)) (values_at-is Bdd (Denotes-flip d)) p)
    by_complement i false d p = p

pub support_is : (v : View) (f : Edge) (s : ℕ → Bool) → Is Bdd v f → IsSupport (bdd_at v f) s → s ≡ support v.vars (bdd_at v f)
support_is v f s d p = IsSupport-same (bdd_at v f) s (support v.vars (bdd_at v f)) p (IsSupport-support v.vars (bdd_at v f) d.beyond)

pub support_hit : (v w : View) (f e : Edge) → Grown v w → Is Bdd v f → MemoHolds w (support_key f) e → Denotes Bdd w e (support v.vars (bdd_at v f))
support_hit v w f e m d h =
    let p = rw (values_at-grown Bdd m d) at (support_known w f e (Is-grown Bdd m d) h) in
    subst (λ s. Denotes Bdd w e s) (support_is v f (bdd_at w e) d p) h.answer

-- the walk begins
pub walk_begins : (f : Edge) (s : State) → Is Bdd s.view f → s.view.vars ≤ length s.marks → ((j : ℕ) → get_or s.marks j None ≡ None) → IsBlank s.answers → IsWalk f s
walk_begins f s d room none blank = record {
  root = d;
  room = room;
  marks = AreMarks-nothing s.view s.marks none;
  no_other = λ k h. ap (λ (c : ℕ → Bool). c k) (product-nothing s.marks none);
  knows = λ j a here. absurd (never (sym (blank j) ∙ here));
}
  where
    never : {a : Answer} → None ≡ Some a → ⊥
    never e = cc

-- a mark more
module _ (f : Edge) (s : State) (w : View) (x : ℕ) (m : Grown s.view w) (i : IsWalk f s) (k : IsMark w (w.level x) x) where
  abbrev pub marked : List (Option ℕ)
  marked = set s.marks (w.level x) (Some x)

  within : w.level x < length s.marks
  within = let a = k.within in let b = i.room in let c = m.vars in omega arith

  marked_is : marked_product marked ≡ conjunction (projection x) (marked_product s.marks)
  marked_is = marked-product w (w.level x) x s.marks (AreMarks-grown s.view w s.marks m i.marks) within k

  pub marked_needs : Needs (marked_product marked) x
  marked_needs = subst (λ c. Needs c x) (sym marked_is) (λ j none. and_left (bit j x) (marked_product s.marks j) none)

  pub marked_more : NeedsMore (marked_product s.marks) (marked_product marked)
  marked_more = subst (λ c. NeedsMore (marked_product s.marks) c) (sym marked_is) (λ v needs j none. and_right (bit j x) (marked_product s.marks j) (needs j none))

  pub walk_marked : (IsFree (bdd_at s.view f) x → ⊥) → IsWalk f (record { view = w; answers = s.answers; marks = marked })
  walk_marked depends = record {
    root = Is-grown Bdd m i.root;
    room = let a = i.room in let b = m.vars in let l = length-set s.marks (w.level x) (Some x) in omega (arith, a, b, l);
    marks = marked-marks w (w.level x) x s.marks (AreMarks-grown s.view w s.marks m i.marks) k;
    no_other = rw (values_at-grown Bdd m i.root) (subst (λ c. HasNoOther c (bdd_at s.view f)) (sym marked_is) (λ j h. both_true (bit j x) (marked_product s.marks j)
        (elim (by_bit (bit j x)) [ inl is ↦ is | inr none ↦ absurd (depends (h x none)) ]) (i.no_other j h)));
    knows = λ j a here.
        let known = i.knows j a here in
        (Is-grown Bdd m known.0, rw (values_at-grown Bdd m known.0) (Covers-more (marked_product s.marks) (marked_product marked) (bdd_at s.view a.task.f) marked_more known.1));
  }

-- a node of the walk
module _ (f : Edge) (s : State) (w : View) (t : Task) (x : ℕ) (hi lo : Edge) (d : WalkDue f s t) (m : Kept s.view w) (i : IsInner Bdd w t.f (bdd_at s.view t.f) x hi lo) where
  hi_free : IsFree (bdd_at w hi) x
  hi_free = i.splits.hi_below x i.in_range (omega arith)

  lo_free : IsFree (bdd_at w lo) x
  lo_free = i.splits.lo_below x i.in_range (omega arith)

  node_depends : IsFree (bdd_at s.view f) x → ⊥
  node_depends free = i.proper (choice-same_part x (bdd_at w hi) (bdd_at w lo) hi_free lo_free (subst (λ g. IsFree g x) i.splits.is (d.part x free)))

  pub node_mark : IsMark w (w.level x) x
  node_mark = record { in_range = i.in_range; here = refl; within = i.within; alone = i.alone }

  pub node_walk : IsWalk f (record { view = w; answers = s.answers; marks = marked f s w x m.grown d.walk node_mark })
  node_walk = walk_marked f s w x m.grown d.walk node_mark node_depends

  pub node_moves : WalkMoves f s (record { view = w; answers = s.answers; marks = marked f s w x m.grown d.walk node_mark })
  node_moves = record { kept = m; more = marked_more f s w x m.grown d.walk node_mark; size = length-set s.marks (w.level x) (Some x); walk = λ here. node_walk }

  task_part : IsFreeWith (bdd_at w f) (bdd_at s.view t.f)
  task_part = rw (values_at-grown Bdd m.grown d.walk.root) d.part

  hi_part : IsFreeWith (bdd_at w f) (bdd_at w (regular_edge hi))
  hi_part = λ v free. regular_free w hi i.splits.hi_is v
      (part-lacks x v (choice x (bdd_at w hi) (bdd_at w lo)) (bdd_at w hi) (bdd_at w lo) true refl hi_free lo_free (subst (λ g. IsFree g v) i.splits.is (task_part v free)))

  lo_part : IsFreeWith (bdd_at w f) (bdd_at w (regular_edge lo))
  lo_part = λ v free. regular_free w lo i.splits.lo_is v
      (part-lacks x v (choice x (bdd_at w hi) (bdd_at w lo)) (bdd_at w hi) (bdd_at w lo) false refl hi_free lo_free (subst (λ g. IsFree g v) i.splits.is (task_part v free)))

  parts_cover : (c : ℕ → Bool) → Needs c x → Covers c (bdd_at w (regular_edge hi)) → Covers c (bdd_at w (regular_edge lo)) → Covers c (bdd_at w t.f)
  parts_cover c needs p q = rw (values_at-grown Bdd m.grown d.edge) (subst (λ g. Covers c g) (sym i.splits.is) (λ v. elim (cases_eq x v) [
    | inl same ↦ inr (subst (λ u. Needs c u) same needs)
    | inr apart ↦ elim (Covers-regular w hi c i.splits.hi_is p v) [
      | inl first ↦ elim (Covers-regular w lo c i.splits.lo_is q v) [
        | inl second ↦ inl (IsFree-choice_other (bdd_at w hi) (bdd_at w lo) x v apart first second)
        | inr need ↦ inr need
      ]
      | inr need ↦ inr need
    ]
  ]))

  -- its parts
  module _ (a b : Task) (sa : a.f ≡ regular_edge hi) (sb : b.f ≡ regular_edge lo) (y : State) (is : y ≡ record { view = w; answers = s.answers; marks = marked f s w x m.grown d.walk node_mark }) where
    pub then_due : WalkDue f y a
    then_due = rw is (record { walk = node_walk; edge = rw sa (regular_is w hi i.splits.hi_is); part = rw sa hi_part })

    pub else_due : WalkDue f y b
    else_due = rw is (record { walk = node_walk; edge = rw sb (regular_is w lo i.splits.lo_is); part = rw sb lo_part })

    pub then_less : one_depth y.view a < one_depth y.view t
    then_less = rw (is, sa) (let here = i.here in let in_levels = i.within in let below = i.hi_top in omega arith)

    pub else_less : one_depth y.view b < one_depth y.view t
    else_less = rw (is, sb) (let here = i.here in let in_levels = i.within in let below = i.lo_top in omega arith)

    pub node_waits : WaitsForFirst f y t a b
    node_waits = record {
      child_is = then_due.edge;
      later_due = else_due;
      less = else_less;
      covers = rw (is, sa, sb) (λ c more. parts_cover c (more x (marked_needs f s w x m.grown d.walk node_mark)));
    }

-- a node that was opened, later
pub opened_later : (v w1 w2 : View) (e hi lo : Edge) (x : ℕ) → Grown v w1 → Grown w1 w2 → Is Bdd v e → IsInner Bdd w1 e (bdd_at v e) x hi lo → IsInner Bdd w2 e (bdd_at v e) x hi lo
opened_later v w1 w2 e hi lo x m n d i =
    subst (λ g. IsInner Bdd w2 e g x hi lo) (values_at-grown Bdd (Grown-trans m n) d)
    (IsInner-grown w1 w2 e hi lo x n (Is-grown Bdd m d) (subst (λ g. IsInner Bdd w1 e g x hi lo) (sym (values_at-grown Bdd m d)) i))

pub same_state : (w : View) (stack : Scratch) (answers : List (Option Answer)) (marks : List (Option ℕ)) → stack.answers ≡ answers → stack.marks ≡ marks
    → state_of w stack ≡ record { view = w; answers = answers; marks = marks }
same_state w stack answers marks a m = rw (a, m) refl

-- the store changed, and nothing else
pub walk_kept : (f : Edge) (s : State) (w : View) → Kept s.view w → WalkMoves f s (record { view = w; answers = s.answers; marks = s.marks })
walk_kept f s w m = record {
  kept = m;
  more = λ v n. n;
  size = refl;
  walk = λ i. record {
    root = Is-grown Bdd m.grown i.root;
    room = let vars = m.grown.vars in let room = i.room in omega arith;
    marks = AreMarks-grown s.view w s.marks m.grown i.marks;
    no_other = rw (values_at-grown Bdd m.grown i.root) i.no_other;
    knows = λ j a here. let known = i.knows j a here in (Is-grown Bdd m.grown known.0, rw (values_at-grown Bdd m.grown known.0) known.1);
  };
}

-- a walk that has ended
pub walk_ends : (v : View) (f : Edge) (s : State) (e : Edge) → Grown v s.view → Is Bdd v f → IsWalk f s → e ≡ regular_edge f → Covers (marked_product s.marks) (bdd_at s.view e) → IsSupport (bdd_at v f) (marked_product s.marks)
walk_ends v f s e m d i same covers =
    subst (λ g. IsSupport g (marked_product s.marks)) (values_at-grown Bdd m d)
    (Covers-support (marked_product s.marks) (bdd_at s.view f) (Covers-regular s.view f (marked_product s.marks) (Is-grown Bdd m d) (rw same at covers)) i.no_other)

-- a function more in the table
pub walk_remembers : (f : Edge) (s new : State) (t : Task) (e : Edge) → new.view ≡ s.view → new.marks ≡ s.marks → Remembers s.answers new.answers t e → Is Bdd s.view t.f → Covers (marked_product s.marks) (bdd_at s.view t.f)
    → WalkMoves f s new
walk_remembers f s new t e views marks more d covers = record {
  kept = rw views (Kept-refl s.view);
  more = rw marks (λ v n. n);
  size = ap length marks;
  walk = λ i. record {
    root = rw views i.root;
    room = rw (views, marks) i.room;
    marks = rw (views, marks) i.marks;
    no_other = rw (views, marks) i.no_other;
    knows = rw (views, marks) (λ j a here. elim (more j a here) [
      | inl was ↦ i.knows was.0 a was.1
      | inr same ↦ (rw same d, rw same covers)
    ]);
  };
}
