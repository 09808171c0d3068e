-- Operands that are open.
use Rattle.std.proofs.Common.{◌≡◌, ℕ, Option, Some, None, refl, sym, ◌∙◌, arith}
use Rattle.edge_bits.specs.declared.edges.Edge.{Edge}
use Rattle.edge_bits.specs.declared.edges.Kind.{Kind}
use Rattle.function_laws.specs.Kinds.{ValueOf}
use Rattle.node_store.specs.Operands.{IsOperand, leaf_value}
use Rattle.node_store.specs.Tops.{TopIs, upper_of}
use Rattle.node_store.specs.Views.{View, Grown, Is, IsLeaf, IsTop, Opens, values_at}
use Rattle.node_store.specs.ViewLaws.{Is-grown, IsVariable-back, IsVariable-grown, Splits-grown, level-grown, levels-grown, top-grown, values_at-grown}
use Rattle.node_store.specs.declared.grow.Opened.{Opened}
use Rattle.node_store.specs.declared.grow.Opened.TheVariants.{Inner, Leaf}
use Rattle.node_store.specs.declared.parts.Operand.{Operand}
use Rattle.node_store.specs.declared.parts.Top.{Top}
use Rattle.node_store.proofs.TopLaws.{TopIs-grown, has_level, some_is}

pub Opens-grown : (k : Kind) {v w : View} {e : Edge} (f : ℕ → ValueOf k) → Grown v w → Is k v e → (o : Opened) → Opens k v e f o → Opens k w e f o
Opens-grown k {v} {w} {e} f m d (Inner x hi lo) i =
    let l = level-grown m x in let n = levels-grown k m in let t = top-grown k m d in
    let th = top-grown k m i.splits.hi_is in let tl = top-grown k m i.splits.lo_is in
    let here = i.here in let within = i.within in let hi_top = i.hi_top in let lo_top = i.lo_top in
    record {
      in_range = IsVariable-grown k m x i.in_range;
      splits = Splits-grown k m i.splits;
      proper = rw (values_at-grown k m i.splits.hi_is, values_at-grown k m i.splits.lo_is) i.proper;
      here = omega arith;
      within = omega arith;
      alone = λ u un same. i.alone u (IsVariable-back k m u un) (sym (level-grown m u) ∙ same ∙ l);
      hi_top = omega arith;
      lo_top = omega arith;
    }
Opens-grown k {v} {w} {e} f m d (Leaf x) i = record { leaf = i.leaf; here = top-grown k m d ∙ i.here ∙ sym (levels-grown k m) }

pub IsOperand-grown : (k : Kind) {v w : View} {o : Operand} → Grown v w → IsOperand k v o → IsOperand k w o
IsOperand-grown k {v} {w} {o} m p = record {
  is = Is-grown k m p.is;
  opens = rw (values_at-grown k m p.is) (Opens-grown k (values_at k v o.edge) m p.is o.opened p.opens);
  top = rw (values_at-grown k m p.is) (TopIs-grown k (values_at k v o.edge) m p.is o.top p.top);
}

-- an operand without a top variable is a leaf
pub leaf_of : (k : Kind) (w : View) (o : Operand) → IsOperand k w o → o.top ≡ None → IsLeaf k w o.edge (values_at k w o.edge) (leaf_value o.opened)
leaf_of k w o p none = by_case o.opened p.opens (rw none at p.top)
  where
    by_case : (opened : Opened) → Opens k w o.edge (values_at k w o.edge) opened → TopIs k w o.edge (values_at k w o.edge) None → IsLeaf k w o.edge (values_at k w o.edge) (leaf_value opened)
    by_case (Leaf x) i t = i
    by_case (Inner v hi lo) i (x, leaf) = let a = i.here in let b = i.within in let c = leaf.here in absurd (omega arith)

-- the upper one of two top variables
pub no_upper : (a b : Option Top) → upper_of a b ≡ None → (a ≡ None) × (b ≡ None)
no_upper None None is = (refl, refl)
no_upper None (Some b) is = cc
no_upper (Some a) None is = cc
no_upper (Some a) (Some b) is = cc

pub upper_is : (k : Kind) (w : View) (f g : Operand) → IsOperand k w f → IsOperand k w g → (t : Top) → upper_of f.top g.top ≡ Some t → IsTop k w f.edge g.edge t.var
upper_is k w f g p q t is = some_is k w f.edge g.edge f.top g.top p.top q.top (Some t) (sym is)

pub upper_level : (k : Kind) (w : View) (f g : Operand) → IsOperand k w f → IsOperand k w g → (t : Top) → upper_of f.top g.top ≡ Some t → t.level ≡ w.level t.var
upper_level k w f g p q t is = has_level k w f.edge g.edge f.top g.top p.top q.top (Some t) (sym is)
