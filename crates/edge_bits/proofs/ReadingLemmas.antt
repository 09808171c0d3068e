-- A reading through a node is the choice of its children's readings, and stays with a greater limit.
use Rattle.std.specs.Prelude.{◌≡◌, ℕ, zero, suc, ℤ, Bool, true, false, cond, Option, Some, None, option_map, if◌then◌else◌}
use Rattle.std.proofs.Common.{refl, ap, ◌∙◌}
use Rattle.edge_bits.specs.declared.edges.Edge.{Edge}
use Rattle.edge_bits.specs.declared.words.Node.{Node}
use Rattle.edge_bits.specs.declared.words.Word.{Word}
use Rattle.edge_bits.specs.declared.words.Word.TheVariants.{Inner, Leaf}
use Rattle.edge_bits.specs.Assignments.{bit, set_bit}
use Rattle.edge_bits.specs.Reading.{plain, flipped, bdd_step, read_bdd, zdd_step, element_of, read_zdd}

-- at a node: by the bit of its variable, the opposite after a complemented arc
pub read_bdd-inner : (limit : ℕ) (slots : ℕ → Option Word) (edge : Edge) (node : Node) (f g : ℕ → Bool) (k : ℕ)
    → slots edge.index ≡ Some (Inner node) → read_bdd limit slots (plain node.hi) k ≡ Some (f k) → read_bdd limit slots node.lo k ≡ Some (g k)
    → read_bdd (suc limit) slots edge k ≡ Some (flipped edge.complement (if bit k node.var then f k else g k))
unfolding read_bdd
read_bdd-inner limit slots edge node f g k at then_is else_is =
    ap (λ o. option_map (flipped edge.complement) (bdd_step (λ next. read_bdd limit slots next k) k o)) at
    ∙ ap (option_map (flipped edge.complement)) (by_bit (bit k node.var))
  where
    by_bit : (b : Bool) → read_bdd limit slots (cond b (plain node.hi) node.lo) k ≡ Some (cond b (f k) (g k))
    by_bit true = then_is
    by_bit false = else_is

-- the constant
pub read_bdd-leaf : (limit : ℕ) (slots : ℕ → Option Word) (edge : Edge) (value : ℤ) (k : ℕ)
    → slots edge.index ≡ Some (Leaf value) → read_bdd (suc limit) slots edge k ≡ Some (flipped edge.complement true)
unfolding read_bdd
read_bdd-leaf limit slots edge value k at = ap (λ o. option_map (flipped edge.complement) (bdd_step (λ next. read_bdd limit slots next k) k o)) at

-- what is read stays with a greater limit
mapped : (c : Bool) (o : Option Bool) (x : Bool) → option_map (flipped c) o ≡ Some x → (y : Bool) × ((o ≡ Some y) × (flipped c y ≡ x))
mapped c None x e = cc
mapped c (Some y) x e = (y, (refl, cc))

-- one more step after the same word
step_more : (before after : Edge → Option Bool) (k : ℕ) (o : Option Word) (y : Bool) → ((next : Edge) (z : Bool) → before next ≡ Some z → after next ≡ Some z)
    → bdd_step before k o ≡ Some y → bdd_step after k o ≡ Some y
step_more before after k None y more h = cc
step_more before after k (Some (Leaf value)) y more h = h
step_more before after k (Some (Inner node)) y more h = more (if bit k node.var then plain node.hi else node.lo) y h

pub read_bdd-more : (limit : ℕ) (slots : ℕ → Option Word) (edge : Edge) (k : ℕ) (x : Bool)
    → read_bdd limit slots edge k ≡ Some x → read_bdd (suc limit) slots edge k ≡ Some x
unfolding read_bdd
read_bdd-more zero slots edge k x e = cc
read_bdd-more (suc limit) slots edge k x e =
    let found = mapped edge.complement (bdd_step (λ next. read_bdd limit slots next k) k (slots edge.index)) x e in
    ap (option_map (flipped edge.complement))
    (step_more (λ next. read_bdd limit slots next k) (λ next. read_bdd (suc limit) slots next k) k (slots edge.index) found.0
    (λ next z. read_bdd-more limit slots next k z) found.1.0)
    ∙ ap Some found.1.1

-- of a ZDD: by whether the element is there, which is taken off
pub read_zdd-inner : (limit : ℕ) (slots : ℕ → Option Word) (edge : Edge) (node : Node) (p q : ℕ → Bool) (a : ℕ)
    → slots edge.index ≡ Some (Inner node) → ((b : ℕ) → read_zdd limit slots (plain node.hi) b ≡ Some (p b)) → read_zdd limit slots node.lo a ≡ Some (q a)
    → read_zdd (suc limit) slots edge a ≡ Some (if bit a (element_of node.var) then p (set_bit a (element_of node.var) false) else q a)
unfolding read_zdd
read_zdd-inner limit slots edge node p q a at then_is else_is =
    ap (zdd_step (λ next rest. read_zdd limit slots next rest) a) at ∙ by_bit (bit a (element_of node.var))
  where
    by_bit : (b : Bool) → cond b (read_zdd limit slots (plain node.hi) (set_bit a (element_of node.var) false)) (read_zdd limit slots node.lo a)
        ≡ Some (cond b (p (set_bit a (element_of node.var) false)) (q a))
    by_bit true = then_is (set_bit a (element_of node.var) false)
    by_bit false = else_is
