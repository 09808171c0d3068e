-- Exclusive or by if-then-else.
use Rattle.std.proofs.Common.{◌≡◌, true, Result, refl, subst}
use Rattle.edge_bits.specs.declared.edges.Edge.{Edge}
use Rattle.edge_bits.specs.declared.edges.Kind.TheVariants.{Bdd}
use Rattle.function_laws.specs.Values.{differs, exclusive}
use Rattle.node_store.specs.Edges.{flip_if}
use Rattle.function_laws.specs.Kinds.{BddFunction}
use Rattle.node_store.specs.Operations.{Serves}
use Rattle.node_store.specs.Views.{View, AreTwo, Denotes, bdd_at}
use Rattle.node_store.specs.Two.{value_of_two}
use Rattle.node_store.specs.Three.{AreThree, ite_at, value_of_three}
use Rattle.node_store.specs.declared.operator.Halt.{Halt}
use Rattle.ite_core.proofs.Complements.{Is-flip, flipped-is}

pub xor-operands : (w : View) (f g n : Edge) → n ≡ flip_if true g → AreTwo Bdd w f g → AreThree Bdd w f n g
xor-operands w f g n is d = record { condition = d.first; first = Is-flip w g n is d.second; second = d.second }

pub xor-is : (w : View) (f g n : Edge) → n ≡ flip_if true g → AreTwo Bdd w f g → ite_at Bdd w f n g ≡ exclusive (bdd_at w f) (bdd_at w g)
xor-is w f g n is d = rw (flipped-is w g n is d.second) refl

pub Serves-xor : {S K : Type 0} {r : Result Edge Halt} (v w : View) (f g n : Edge) → n ≡ flip_if true g → AreTwo Bdd v f g
    → Serves (λ e. Denotes Bdd w e (ite_at Bdd v f n g)) ⊥ (value_of_three Bdd f n g v) S K v w r
    → Serves (λ e. Denotes Bdd w e (exclusive (bdd_at v f) (bdd_at v g))) ⊥ (value_of_two Bdd differs f g v) S K v w r
Serves-xor {S} {K} {r} v w f g n is d s = subst (λ x. Serves (λ e. Denotes Bdd w e x) ⊥ (λ h. h ≡ BddFunction x) S K v w r) (xor-is v f g n is d) s
