-- Calls for products and quotients, from their start to their end.
use Rattle.std.proofs.Common.{◌≡◌, ◌^◌, Result, Ok, Err, IfOk, ap₂, sym, ◌∙◌, subst}
use Rattle.edge_bits.specs.declared.edges.Edge.{Edge}
use Rattle.edge_bits.specs.declared.edges.Kind.TheVariants.{Zdd}
use Rattle.function_laws.specs.Products.{IsProduct, IsQuotient}
use Rattle.node_store.specs.Views.{View, AreTwo, Denotes, Grown, Permanent, family_at}
use Rattle.node_store.specs.ViewLaws.{values_at-is}
use Rattle.node_store.specs.Work.{whole}
use Rattle.node_store.specs.Operations.{halts}
use Rattle.node_store.specs.declared.grow.Stop.{Stop}
use Rattle.node_store.specs.declared.operator.Halt.{Halt}
use Rattle.node_store.specs.declared.operator.Task.{Task}
use Rattle.zdd_ops.proofs.Members.{product-is}
use Rattle.zdd_ops.specs.Products.{ProductAnswers, ProductDue, product_at}
use Rattle.zdd_ops.specs.ProductLasts.{product-grown}
use Rattle.zdd_ops.specs.Quotients.{QuotientAnswers, QuotientDue, quotient_at}
use Rattle.zdd_ops.specs.QuotientLasts.{quotient_of-grown}
use Rattle.zdd_ops.proofs.ProductLaws.{Is-within}
use Rattle.zdd_ops.proofs.QuotientFamilies.{quotient-is}

-- the task of a product
pub product_root : (w : View) (p q : Edge) (t : Task) → Permanent w → AreTwo Zdd w p q → t.f ≡ p → t.g ≡ q → ProductDue p q w t
product_root w p q t permanent d ef eg = record {
  permanent = permanent;
  roots = d;
  two = record { first = rw ef d.first; second = rw eg d.second };
  f_part = rw ef whole;
  g_part = rw eg whole;
}

pub product_value : (a w : View) (p q : Edge) (t : Task) (e : Edge) → Grown a w → AreTwo Zdd a p q → t.f ≡ p → t.g ≡ q → ProductAnswers w t e → Denotes Zdd w e (product_at a (family_at a p) (family_at a q))
product_value a w p q t e m d ef eg is = subst (Denotes Zdd w e)
    (ap₂ (λ x y. product_at w (family_at w x) (family_at w y)) ef eg ∙ product-grown a w p q m d) is

-- the task of a quotient
pub quotient_root : (w : View) (p q : Edge) (t : Task) → Permanent w → AreTwo Zdd w p q → t.f ≡ p → t.g ≡ q → QuotientDue p q w t
quotient_root w p q t permanent d ef eg = record {
  permanent = permanent;
  roots = d;
  two = record { first = rw ef d.first; second = rw eg d.second };
  f_part = rw ef whole;
  g_part = rw eg whole;
}

pub quotient_value : (a w : View) (p q : Edge) (t : Task) (e : Edge) → Grown a w → AreTwo Zdd a p q → t.f ≡ p → t.g ≡ q → QuotientAnswers w t e → Denotes Zdd w e (quotient_at a (family_at a p) (family_at a q))
quotient_value a w p q t e m d ef eg is = subst (Denotes Zdd w e)
    (ap₂ (λ x y. quotient_at w (family_at w x) (family_at w y)) ef eg ∙ quotient_of-grown a w m p q d) is

-- the members of an answer
pub product_members : (a w : View) (p q : Edge) (r : Result Edge Halt) → AreTwo Zdd a p q → IfOk r (λ e. Denotes Zdd w e (product_at a (family_at a p) (family_at a q))) → IfOk r (λ e. IsProduct (family_at a p) (family_at a q) (family_at w e))
product_members a w p q (Ok e) d is = subst (IsProduct (family_at a p) (family_at a q)) (sym (values_at-is Zdd is))
    (product-is (2 ^ a.elements) (family_at a p) (family_at a q) (Is-within a p (family_at a p) d.first) (Is-within a q (family_at a q) d.second))
product_members a w p q (Err halt) d is = is

pub quotient_members : (a w : View) (p q : Edge) (r : Result Edge Halt) → AreTwo Zdd a p q → IfOk r (λ e. Denotes Zdd w e (quotient_at a (family_at a p) (family_at a q))) → IfOk r (λ e. IsQuotient (family_at a p) (family_at a q) (family_at w e))
quotient_members a w p q (Ok e) d is = subst (IsQuotient (family_at a p) (family_at a q)) (sym (values_at-is Zdd is))
    (quotient-is (2 ^ a.elements) (family_at a p) (family_at a q) (Is-within a q (family_at a q) d.second))
quotient_members a w p q (Err halt) d is = is

-- what holds of an answer holds of it where the outcome is told without an overflow
pub ok_only : (P : Edge → Type 0) (outcome : Result Edge Halt) (result : Result Edge Stop) → halts result ≡ outcome → IfOk outcome P → IfOk result P
ok_only P outcome (Ok e) is holds = subst (λ r. IfOk r P) (sym is) holds
ok_only P outcome (Err stop) is holds = tt
