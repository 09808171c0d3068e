-- The steps of a product, from view to view.
use Rattle.std.proofs.Common.{◌≡◌, ℕ, ◌<◌, Bool, true, false, cond, ◌||◌, Option, Some, ◌⊎◌, inl, inr, refl, ap, ap₂, sym, ◌∙◌, subst, arith}
use Rattle.std.specs.Prelude.{nat_lt}
use Rattle.edge_bits.specs.declared.edges.Edge.{Edge}
use Rattle.edge_bits.specs.declared.edges.Kind.{Kind}
use Rattle.edge_bits.specs.declared.edges.Kind.TheVariants.{Bdd, Add, Zdd}
use Rattle.edge_bits.specs.Reading.{element_of}
use Rattle.computed_cache.specs.declared.Key.{Key}
use Rattle.function_laws.specs.Families.{joined, union}
use Rattle.function_laws.specs.Kinds.{Denoted, ZddFamily, ValueOf, function_of, opposite, values_of}
use Rattle.node_store.specs.Memo.{FamilyHolds, MemoHolds}
use Rattle.node_store.specs.declared.numbers.TheConstants as numbers
use Rattle.node_store.specs.Two.{two_depth, value_of_two}
use Rattle.node_store.specs.TwoLaws.{AreTwo-grown}
use Rattle.node_store.specs.Views.{View, AreTwo, CanMake, Denotes, Grown, IsKey, IsTop, PartsAt, Permanent, family_at, node_values}
use Rattle.node_store.specs.ViewLaws.{Denotes-grown, Grown-trans, IsBelow-grown, IsVariable-grown, Is-from, Is-grown, values_at-grown, values_at-is}
use Rattle.node_store.proofs.TwoParts.{PartsAt-grown}
use Rattle.node_store.specs.Work.{Adds, IsPart, IsWork, Moves, whole}
use Rattle.node_store.specs.WorkLaws.{IsPart-both, IsPart-grown, IsWork-due, Moves-both, Moves-made}
use Rattle.node_store.specs.declared.operator.Task.{Task}
use Rattle.zdd_ops.specs.Products.{AreQuarters, CanPartBoth, IsQuarter, ProductAnswers, ProductDue, ProductSplits, asked_by, product_at, product_key, product_work, quarter, with_element}
use Rattle.zdd_ops.specs.ProductLasts.{IsTop-grown, ProductDue-stays, product-grown, product_work-stays}
use Rattle.zdd_ops.specs.declared.products.Quarters.{Quarters}
use Rattle.zdd_ops.proofs.ProductLaws.{Product-comm, Quarter-is, first_work, whole_is, whole_work, with_below, with_is, with_part, without_below}

-- the parts of a task at the top of both families
pub Top-can : (w : View) (t : Task) (v : ℕ) → AreTwo Zdd w t.f t.g → IsTop Zdd w t.f t.g v → CanPartBoth w t v
Top-can w t v d top = record {
  f = record { edge = d.first; in_range = top.in_range; above = top.above_f; within = top.within };
  g = record { edge = d.second; in_range = top.in_range; above = top.above_g; within = top.within };
}

pub Split-at : (w : View) (t : Task) (v : ℕ) (f1 f0 g1 g0 : Edge) → IsTop Zdd w t.f t.g v → PartsAt Zdd w t.f (family_at w t.f) v f1 f0 → PartsAt Zdd w t.g (family_at w t.g) v g1 g0 → ProductSplits w t v
Split-at w t v f1 f0 g1 g0 top pf pg = record { top = top; f1 = f1; f0 = f0; g1 = g1; g0 = g0; f = pf.splits; g = pg.splits }

pub Quarter-at : (p q : Edge) (w : View) (t : Task) (v : ℕ) (f1 f0 g1 g0 : Edge) → ProductDue p q w t → IsTop Zdd w t.f t.g v → PartsAt Zdd w t.f (family_at w t.f) v f1 f0 → PartsAt Zdd w t.g (family_at w t.g) v g1 g0
    → (b c : Bool) (u : Task) → u.f ≡ cond b f1 f0 → u.g ≡ cond c g1 g0 → IsQuarter p q w t v b c u
unfolding Split-at
Quarter-at p q w t v f1 f0 g1 g0 due top pf pg b c u uf ug = Quarter-is w t v due.two (Split-at w t v f1 f0 g1 g0 top pf pg) p q due pf pg b c u uf ug

-- a task's families are opened again, one after the other
pub Reopened : (p q : Edge) (a b c : View) (t : Task) (v : ℕ) (f1 f0 g1 g0 : Edge) → IsTop Zdd a t.f t.g v → Grown a b → Grown b c → PartsAt Zdd b t.f (family_at b t.f) v f1 f0 → PartsAt Zdd c t.g (family_at c t.g) v g1 g0
    → ProductDue p q a t → (second : Bool) (u : Task) → u.f ≡ f0 → u.g ≡ cond second g1 g0 → IsQuarter p q c t v false second u
Reopened p q a b c t v f1 f0 g1 g0 top m n pf pg due second u uf ug =
    Quarter-at p q c t v f1 f0 g1 g0 (ProductDue-stays p q a c t (Grown-trans m n) due) (IsTop-grown a c (Grown-trans m n) t.f t.g v due.two top)
    (subst (λ h. PartsAt Zdd c t.f h v f1 f0) (sym (values_at-grown Zdd n (Is-grown Zdd m due.two.first))) (PartsAt-grown Zdd n pf)) pg false second u uf ug

-- the memo
module _ (w : View) (f g : Edge) (d : AreTwo Zdd w f g) where
  key_is : (b : Bool) → nat_lt f.index g.index ≡ b → product_key f g ≡ cond b (record { op = numbers.PRODUCT; f = f; g = g; h = f }) (record { op = numbers.PRODUCT; f = g; g = f; h = g })
  key_is true is = rw is refl
  key_is false is = rw is refl

  holds : (e : Edge) (b : Bool) → MemoHolds w (cond b (record { op = numbers.PRODUCT; f = f; g = g; h = f }) (record { op = numbers.PRODUCT; f = g; g = f; h = g })) e
      → Permanent w → Denotes Zdd w e (product_at w (family_at w f) (family_at w g))
  unfolding FamilyHolds
  holds e true h p = h.answer
  holds e false h p = subst (Denotes Zdd w e) (sym (Product-comm w f g p d)) h.answer

  pub Product-hit : (e : Edge) → Permanent w → MemoHolds w (product_key f g) e → Denotes Zdd w e (product_at w (family_at w f) (family_at w g))
  Product-hit e p h = holds e (nat_lt f.index g.index) (subst (λ k. MemoHolds w k e) (key_is (nat_lt f.index g.index) refl) h) p

  kept : (e : Edge) (b : Bool) → Permanent w → Denotes Zdd w e (product_at w (family_at w f) (family_at w g))
      → MemoHolds w (cond b (record { op = numbers.PRODUCT; f = f; g = g; h = f }) (record { op = numbers.PRODUCT; f = g; g = f; h = g })) e
  unfolding FamilyHolds
  kept e true p h = record { f = d.first; g = d.second; answer = h }
  kept e false p h = record { f = d.second; g = d.first; answer = subst (Denotes Zdd w e) (Product-comm w f g p d) h }

  pub Product-kept : (e : Edge) → Permanent w → Denotes Zdd w e (product_at w (family_at w f) (family_at w g)) → MemoHolds w (product_key f g) e
  Product-kept e p h = subst (λ k. MemoHolds w k e) (sym (key_is (nat_lt f.index g.index) refl)) (kept e (nat_lt f.index g.index) p h)

  key_of_two : (b : Bool) → IsKey w (cond b (record { op = numbers.PRODUCT; f = f; g = g; h = f }) (record { op = numbers.PRODUCT; f = g; g = f; h = g }))
  key_of_two true = record { least = omega arith; most = omega arith; f = (Zdd, d.first); g = (Zdd, d.second); h = (Zdd, d.first) }
  key_of_two false = record { least = omega arith; most = omega arith; f = (Zdd, d.second); g = (Zdd, d.first); h = (Zdd, d.second) }

  pub Product-key : IsKey w (product_key f g)
  Product-key = subst (IsKey w) (sym (key_is (nat_lt f.index g.index) refl)) (key_of_two (nat_lt f.index g.index))

pub Product-memo : (p q : Edge) (t : Task) (key : Key) (a w : View) (e : Edge) → Grown a w → key ≡ product_key t.f t.g → ProductDue p q a t → MemoHolds w key e → ProductAnswers w t e
Product-memo p q t key a w e m same d h =
    let later = ProductDue-stays p q a w t m d in Product-hit w t.f t.g later.two e later.permanent (subst (λ k. MemoHolds w k e) same h)

-- a frame stands for the task that was made into it
pub Two-as : {w : View} {t root : Task} → t ≡ root → AreTwo Zdd w root.f root.g → AreTwo Zdd w t.f t.g
Two-as {w} same d = subst (λ (u : Task). AreTwo Zdd w u.f u.g) (sym same) d

pub Due-as : {p q : Edge} {w : View} {t root : Task} → t ≡ root → ProductDue p q w root → ProductDue p q w t
Due-as {p} {q} {w} same d = subst (ProductDue p q w) (sym same) d

pub Less-as : (w : View) (t root u : Task) → t ≡ root → two_depth Zdd w u < two_depth Zdd w t → two_depth Zdd w u < two_depth Zdd w root
Less-as w t root u same less = subst (λ x. two_depth Zdd w u < two_depth Zdd w x) same less

-- a part's answer
pub Answer-is : (p q : Edge) (w : View) (t : Task) (v : ℕ) (b c : Bool) (u : Task) (e : Edge) → IsQuarter p q w t v b c u → ProductAnswers w u e → Denotes Zdd w e (quarter w t v b c)
Answer-is p q w t v b c u e i is = subst (Denotes Zdd w e) (ap₂ (product_at w) i.f i.g) is

pub Product-both : (p q : Edge) (u v w : View) → Moves (λ x. AreTwo Zdd x p q) (product_work p q) u v → Moves (λ x. AreTwo Zdd x p q) (product_work p q) v w → Moves (λ x. AreTwo Zdd x p q) (product_work p q) u w
Product-both p q u v w = Moves-both (λ x. AreTwo Zdd x p q) (product_work p q) (λ x y m d. AreTwo-grown Zdd m d) (product_work-stays p q) u v w

-- nothing was made
pub None-moved : (p q : Edge) (v w : View) → Grown v w → ((s : ℕ) → w.made s ≡ true → (v.made s ≡ true) ⊎ ⊥) → Moves (λ x. AreTwo Zdd x p q) (product_work p q) v w
None-moved p q v w m made = record { grown = m; work = λ roots s h. elim (made s h) [ inl old ↦ inl old | inr never ↦ absurd never ] }

-- a union within, of families whose union is a part of the work
module _ (p q : Edge) (a w : View) (one other : Edge) (root part : ℕ → Bool) (is : union (family_at a one) (family_at a other) ≡ part) (asked : product_work p q a (ZddFamily root)) (of_root : IsPart Zdd a root part) (m : Grown a w) where
  pub Union-work : AreTwo Zdd a p q → (o : Option Denoted) → IsWork w (value_of_two Zdd (λ x y. x || y) one other a) o → IsWork w (product_work p q w) o
  Union-work roots o i = by_kind i.kind i.root i.part i.asked i.is_part i.is
    where
      by_kind : (k : Kind) (r s : ℕ → ValueOf k) → function_of k r ≡ ZddFamily (union (family_at a one) (family_at a other)) → IsPart k w r s
          → (o ≡ Some (function_of k s)) ⊎ (o ≡ Some (opposite (function_of k s))) → IsWork w (product_work p q w) o
      by_kind Zdd r s same is_part told = record {
        kind = Zdd;
        root = root;
        part = s;
        asked = product_work-stays p q a w (ZddFamily root) m roots asked;
        is_part = IsPart-both Zdd w root r s (subst (IsPart Zdd w root) (sym is ∙ sym (ap (λ F. values_of Zdd (Some F)) same)) (IsPart-grown Zdd m root part of_root)) is_part;
        is = told;
      }
      by_kind Bdd r s same is_part told = cc
      by_kind Add r s same is_part told = cc

  pub Union-moved : Adds (value_of_two Zdd (λ x y. x || y) one other a) a w → Moves (λ u. AreTwo Zdd u p q) (product_work p q) a w
  Union-moved adds = record {
    grown = m;
    work = λ roots s h. elim (adds s h) [ inl old ↦ inl old | inr i ↦ inr (Union-work roots (w.content s) i) ];
  }

-- all four parts have their answers
module _ (p q : Edge) (a : View) (t : Task) (v : ℕ) (x : Quarters) (i : AreQuarters p q a t v x) where
  pub Quarters-two : AreTwo Zdd a x.then_then x.then_else
  Quarters-two = record { first = Is-from Zdd i.then_then; second = Is-from Zdd i.then_else }

  First-is : union (family_at a x.then_then) (family_at a x.then_else) ≡ union (quarter a t v true true) (quarter a t v true false)
  First-is = ap₂ union (values_at-is Zdd i.then_then) (values_at-is Zdd i.then_else)

  pub Whole-work : product_work p q a (ZddFamily (asked_by a t))
  Whole-work = whole_work a t v i.due.two i.splits p q i.due

  pub First-work : product_work p q a (ZddFamily (union (quarter a t v true true) (quarter a t v true false)))
  First-work = first_work a t v i.due.two i.splits p q i.due

  pub With-part : IsPart Zdd a (asked_by a t) (with_element a t v)
  With-part = with_part a t v i.due.two i.splits

  pub Whole-later : (b : View) → Grown a b → product_work p q b (ZddFamily (asked_by a t))
  Whole-later b m = product_work-stays p q a b (ZddFamily (asked_by a t)) m i.due.roots Whole-work

  -- the union of the first two
  pub First-moved : (b : View) → Grown a b → Adds (value_of_two Zdd (λ y z. y || z) x.then_then x.then_else a) a b → Moves (λ u. AreTwo Zdd u p q) (product_work p q) a b
  First-moved b m = Union-moved p q a b x.then_then x.then_else (union (quarter a t v true true) (quarter a t v true false)) (union (quarter a t v true true) (quarter a t v true false)) First-is First-work whole m

  pub First-due : (b : View) → Grown a b → (o : Option Denoted) → IsWork b (value_of_two Zdd (λ y z. y || z) x.then_then x.then_else a) o → IsWork b (product_work p q b) o
  First-due b m = Union-work p q a b x.then_then x.then_else (union (quarter a t v true true) (quarter a t v true false)) (union (quarter a t v true true) (quarter a t v true false)) First-is First-work whole m i.due.roots

  -- and of that with the third
  module _ (b : View) (m : Grown a b) (first : Edge) (is : Denotes Zdd b first (union (family_at a x.then_then) (family_at a x.then_else))) where
    pub First-two : AreTwo Zdd b first x.else_then
    First-two = record { first = Is-from Zdd is; second = Is-from Zdd (Denotes-grown Zdd m i.else_then) }

    With-is : union (family_at b first) (family_at b x.else_then) ≡ with_element a t v
    With-is = ap₂ union (values_at-is Zdd is ∙ First-is) (values_at-is Zdd (Denotes-grown Zdd m i.else_then)) ∙ with_is a t v i.due.two i.splits

    later_part : IsPart Zdd b (asked_by a t) (with_element a t v)
    later_part = IsPart-grown Zdd m (asked_by a t) (with_element a t v) With-part

    pub With-moved : (c : View) → Grown b c → Adds (value_of_two Zdd (λ y z. y || z) first x.else_then b) b c → Moves (λ u. AreTwo Zdd u p q) (product_work p q) b c
    With-moved c n = Union-moved p q b c first x.else_then (asked_by a t) (with_element a t v) With-is (Whole-later b m) later_part n

    pub With-due : (c : View) → Grown b c → (o : Option Denoted) → IsWork c (value_of_two Zdd (λ y z. y || z) first x.else_then b) o → IsWork c (product_work p q c) o
    With-due c n = Union-work p q b c first x.else_then (asked_by a t) (with_element a t v) With-is (Whole-later b m) later_part n (AreTwo-grown Zdd m i.due.roots)

    pub With-answer : (c : View) (e : Edge) → Denotes Zdd c e (union (family_at b first) (family_at b x.else_then)) → Denotes Zdd c e (with_element a t v)
    With-answer c e d = subst (Denotes Zdd c e) With-is d

  -- the node of the members with the element and of the others
  module _ (b : View) (m : Grown a b) (hi : Edge) (hi_is : Denotes Zdd b hi (with_element a t v)) where
    lo_is : Denotes Zdd b x.else_else (quarter a t v false false)
    lo_is = Denotes-grown Zdd m i.else_else

    pub Node-can : CanMake Zdd b v hi x.else_else
    Node-can = record {
      in_range = IsVariable-grown Zdd m v i.splits.top.in_range;
      hi_is = Is-from Zdd hi_is;
      lo_is = Is-from Zdd lo_is;
      hi_below = rw (values_at-is Zdd hi_is) (IsBelow-grown Zdd v (with_element a t v) m (with_below a t v i.due.two i.splits));
      lo_below = rw (values_at-is Zdd lo_is) (IsBelow-grown Zdd v (quarter a t v false false) m (without_below a t v i.due.two i.splits));
    }

    pub Node-is : node_values Zdd b v hi x.else_else ≡ asked_by a t
    Node-is = ap₂ (joined (element_of v)) (values_at-is Zdd hi_is) (values_at-is Zdd lo_is) ∙ whole_is a t v i.due.two i.splits

    pub Node-moved : (c : View) (e : Edge) → Grown b c → ((s : ℕ) → c.made s ≡ true → (b.made s ≡ true) ⊎ (e.index ≡ s)) → Denotes Zdd c e (node_values Zdd b v hi x.else_else)
        → Moves (λ u. AreTwo Zdd u p q) (product_work p q) b c
    Node-moved c e n made is = Moves-made Zdd (λ u. AreTwo Zdd u p q) (product_work p q) b c e (asked_by a t) (asked_by a t) n made
        (λ _. Whole-later c (Grown-trans m n)) whole (subst (Denotes Zdd c e) Node-is is)

    pub Node-due : (c : View) → Grown b c → c.due ≡ Some (ZddFamily (node_values Zdd b v hi x.else_else)) → IsWork c (product_work p q c) c.due
    Node-due c n is = IsWork-due Zdd c (product_work p q c) (asked_by a t) (asked_by a t) (Whole-later c (Grown-trans m n)) whole (is ∙ ap (λ f. Some (ZddFamily f)) Node-is)

  pub Node-answer : (c : View) (e : Edge) (f : ℕ → Bool) → Grown a c → f ≡ asked_by a t → Denotes Zdd c e f → ProductAnswers c t e
  Node-answer c e f m same is = subst (Denotes Zdd c e) (same ∙ sym (product-grown a c t.f t.g m i.due.two)) is
