-- Tasks of a product last while the store grows.
use Rattle.std.proofs.Common.{◌≡◌, ℕ, Bool, true, false, inl, inr, refl, sym, ap₂, ◌∙◌, subst, arith}
use Rattle.edge_bits.specs.declared.edges.Edge.{Edge}
use Rattle.edge_bits.specs.declared.edges.Kind.TheVariants.{Zdd}
use Rattle.function_laws.specs.Kinds.{Denoted, part_at}
use Rattle.node_store.specs.Views.{View, AreTwo, Denotes, Grown, Is, IsTop, family_at}
use Rattle.node_store.specs.ViewLaws.{Denotes-grown, Denotes-lasts, IsVariable-grown, Permanent-grown, Splits-grown, level-grown, top-grown, values_at-grown}
use Rattle.node_store.specs.TwoLaws.{AreTwo-grown, two_depth-stays}
use Rattle.node_store.specs.Work.{IsPart}
use Rattle.node_store.specs.WorkLaws.{IsPart-back, IsPart-grown}
use Rattle.node_store.specs.declared.operator.Frame.{Frame}
use Rattle.node_store.specs.declared.operator.Task.{Task}
use Rattle.node_store.specs.declared.operator.Wait.{Wait}
use Rattle.node_store.specs.declared.operator.Wait.TheVariants.{Only, First, Second, Third, Fourth}
use Rattle.zdd_ops.specs.Products.{IsProductOfParts, IsQuarter, IsUnionOf, ProductAnswers, ProductDue, ProductSplits, ProductWaitIs, ProductWaits, product_at, product_work, quarter}

module _ (a b : View) (m : Grown a b) where
  pub product_at-grown : (p q : ℕ → Bool) → product_at b p q ≡ product_at a p q
  product_at-grown p q = rw (m.elements) refl

  part-grown : (e f : Edge) → Is Zdd a e → Is Zdd a f → IsPart Zdd a (family_at a e) (family_at a f) → IsPart Zdd b (family_at b e) (family_at b f)
  part-grown e f de df p = rw (values_at-grown Zdd m de, values_at-grown Zdd m df) (IsPart-grown Zdd m (family_at a e) (family_at a f) p)

  pub IsTop-grown : (f g : Edge) (v : ℕ) → AreTwo Zdd a f g → IsTop Zdd a f g v → IsTop Zdd b f g v
  IsTop-grown f g v d t =
      let lv = level-grown m v in let tf = top-grown Zdd m d.first in let tg = top-grown Zdd m d.second in let n = m.elements in
      let x = t.above_f in let y = t.above_g in let z = t.within in
      record {
        in_range = IsVariable-grown Zdd m v t.in_range;
        within = omega arith;
        above_f = omega arith;
        above_g = omega arith;
        touches = elim t.touches [ inl h ↦ inl (omega arith) | inr h ↦ inr (omega arith) ];
      }

  product_of_parts-grown : (p q : Edge) (r : ℕ → Bool) → AreTwo Zdd a p q → IsProductOfParts p q a r → IsProductOfParts p q b r
  product_of_parts-grown p q r d i = record {
    first = i.first;
    second = i.second;
    f_part = rw (values_at-grown Zdd m d.first) (IsPart-grown Zdd m (family_at a p) i.first i.f_part);
    g_part = rw (values_at-grown Zdd m d.second) (IsPart-grown Zdd m (family_at a q) i.second i.g_part);
    is = i.is ∙ sym (product_at-grown i.first i.second);
  }

pub ProductDue-stays : (p q : Edge) (a b : View) (t : Task) → Grown a b → ProductDue p q a t → ProductDue p q b t
ProductDue-stays p q a b t m d = record {
  permanent = Permanent-grown m d.permanent;
  roots = AreTwo-grown Zdd m d.roots;
  two = AreTwo-grown Zdd m d.two;
  f_part = part-grown a b m p t.f d.roots.first d.two.first d.f_part;
  g_part = part-grown a b m q t.g d.roots.second d.two.second d.g_part;
}

pub product-grown : (a b : View) (f g : Edge) → Grown a b → AreTwo Zdd a f g → product_at b (family_at b f) (family_at b g) ≡ product_at a (family_at a f) (family_at a g)
product-grown a b f g m d = ap₂ (product_at b) (values_at-grown Zdd m d.first) (values_at-grown Zdd m d.second) ∙ product_at-grown a b m (family_at a f) (family_at a g)

pub ProductAnswers-stay : (a b : View) (t : Task) (e : Edge) → Grown a b → AreTwo Zdd a t.f t.g → ProductAnswers a t e → ProductAnswers b t e
ProductAnswers-stay a b t e m d is = rw (product-grown a b t.f t.g m d) (Denotes-grown Zdd m is)

pub ProductSplits-stay : (a b : View) (t : Task) (v : ℕ) → Grown a b → AreTwo Zdd a t.f t.g → ProductSplits a t v → ProductSplits b t v
ProductSplits-stay a b t v m d s = record {
  top = IsTop-grown a b m t.f t.g v d s.top;
  f1 = s.f1;
  f0 = s.f0;
  g1 = s.g1;
  g0 = s.g0;
  f = rw (values_at-grown Zdd m d.first) (Splits-grown Zdd m s.f);
  g = rw (values_at-grown Zdd m d.second) (Splits-grown Zdd m s.g);
}

-- the parts of a task, with their answers
module _ (p q : Edge) (a b : View) (t : Task) (v : ℕ) (m : Grown a b) (d : AreTwo Zdd a t.f t.g) where
  pub quarter-grown : (x y : Bool) → quarter b t v x y ≡ quarter a t v x y
  quarter-grown x y = rw (values_at-grown Zdd m d.first, values_at-grown Zdd m d.second) (product_at-grown a b m (part_at Zdd (family_at a t.f) v x) (part_at Zdd (family_at a t.g) v y))

  pub answer-grown : (x y : Bool) (e : Edge) → Denotes Zdd a e (quarter a t v x y) → Denotes Zdd b e (quarter b t v x y)
  answer-grown x y e is = Denotes-lasts Zdd m (sym (quarter-grown x y)) is

  pub IsQuarter-grown : (x y : Bool) (u : Task) → IsQuarter p q a t v x y u → IsQuarter p q b t v x y u
  IsQuarter-grown x y u i =
      let own = two_depth-stays Zdd a b u m i.due.two in let whole = two_depth-stays Zdd a b t m d in let l = i.less in
      record {
        due = ProductDue-stays p q a b u m i.due;
        less = omega arith;
        f = rw (values_at-grown Zdd m i.due.two.first, values_at-grown Zdd m d.first) i.f;
        g = rw (values_at-grown Zdd m i.due.two.second, values_at-grown Zdd m d.second) i.g;
      }

  ProductWaitIs-grown : (child : Task) (wait : Wait) → ProductWaitIs p q a t v child wait → ProductWaitIs p q b t v child wait
  ProductWaitIs-grown child Only h = h
  ProductWaitIs-grown child (First later) h = (IsQuarter-grown true true child h.0, IsQuarter-grown true false later h.1)
  ProductWaitIs-grown child (Second x) h = (IsQuarter-grown true false child h.0, answer-grown true true x h.1)
  ProductWaitIs-grown child (Third x y) h = (IsQuarter-grown false true child h.0, answer-grown true true x h.1, answer-grown true false y h.2)
  ProductWaitIs-grown child (Fourth x y z) h = (IsQuarter-grown false false child h.0, answer-grown true true x h.1, answer-grown true false y h.2, answer-grown false true z h.3)

pub ProductWaits-stay : (p q : Edge) (a b : View) (root : Task) (frame : Frame) (child : Task) → Grown a b → ProductDue p q a root → ProductWaits p q a root frame child → ProductWaits p q b root frame child
ProductWaits-stay p q a b root frame child m d i =
    let two = subst (λ (t : Task). AreTwo Zdd a t.f t.g) (sym i.same) d.two in
    record {
      same = i.same;
      splits = ProductSplits-stay a b frame.task frame.var m two i.splits;
      wait = ProductWaitIs-grown p q a b frame.task frame.var m two child frame.wait i.wait;
    }

pub product_work-stays : (p q : Edge) (a b : View) (F : Denoted) → Grown a b → AreTwo Zdd a p q → product_work p q a F → product_work p q b F
product_work-stays p q a b F m d (r, is, inl one) = (r, is, inl (product_of_parts-grown a b m p q r d one))
product_work-stays p q a b F m d (r, is, inr two) = (
  r,
  is,
  inr (record {
    one = two.one;
    other = two.other;
    one_is = product_of_parts-grown a b m p q two.one d two.one_is;
    other_is = product_of_parts-grown a b m p q two.other d two.other_is;
    is = two.is;
  }),
)

-- a call's answer and its work, by the operands at its start
pub product-lasts : (p q : Edge) (a b c d : View) (e : Edge) → Grown a b → Grown c d → AreTwo Zdd a p q → Denotes Zdd c e (product_at b (family_at b p) (family_at b q)) → Denotes Zdd d e (product_at a (family_at a p) (family_at a q))
product-lasts p q a b c d e before after two is = Denotes-lasts Zdd after (product-grown a b p q before two) is

pub product_work-back : (p q : Edge) (a w : View) (F : Denoted) → Grown a w → AreTwo Zdd a p q → product_work p q w F → product_work p q a F
product_work-back p q a w F m d (r, is, one_or_two) = (r, is, elim one_or_two [ inl one ↦ inl (parts_back r one) | inr two ↦ inr (both_back two) ])
  where
    parts_back : (r : ℕ → Bool) → IsProductOfParts p q w r → IsProductOfParts p q a r
    parts_back r i = record {
      first = i.first;
      second = i.second;
      f_part = IsPart-back Zdd m (family_at a p) i.first (subst (λ f. IsPart Zdd w f i.first) (values_at-grown Zdd m d.first) i.f_part);
      g_part = IsPart-back Zdd m (family_at a q) i.second (subst (λ f. IsPart Zdd w f i.second) (values_at-grown Zdd m d.second) i.g_part);
      is = i.is ∙ product_at-grown a w m i.first i.second;
    }

    both_back : {r : ℕ → Bool} → IsUnionOf (IsProductOfParts p q w) r → IsUnionOf (IsProductOfParts p q a) r
    both_back two = record { one = two.one; other = two.other; one_is = parts_back two.one two.one_is; other_is = parts_back two.other two.other_is; is = two.is }
