-- The terminal cases of conjunction.
use Rattle.std.proofs.Common.{◌≡◌, ℕ, ℤ, Bool, true, false, not, ◌&&◌, Some, refl, ap, sym, ◌∙◌, subst}
use Rattle.std.proofs.Math.Bool.{and-false, and-true, and_self}
use Rattle.edge_bits.specs.declared.edges.Edge.{Edge}
use Rattle.edge_bits.specs.declared.edges.Kind.TheVariants.{Bdd}
use Rattle.function_laws.specs.Values.{constant, conjunction}
use Rattle.function_laws.proofs.ValueLemmas.{everywhere}
use Rattle.function_laws.specs.Kinds.{BddFunction, place, flipped, values_of}
use Rattle.node_store.specs.Views.{View, AreTwo, Denotes, IsLeaf, IsLeafOf, NotBothLeaves, Permanent, bdd_at, logic_one, logic_zero}

-- slot 0
pub truth_at : (w : View) → Permanent w → (e : Edge) → e.index ≡ 0 → bdd_at w e ≡ constant (not e.complement)
truth_at w p e zero = ap (λ s. values_of Bdd (flipped e.complement (w.content s))) zero ∙ ap (λ o. values_of Bdd (flipped e.complement o)) p.one ∙ by_complement e.complement
  where
    by_complement : (c : Bool) → values_of Bdd (flipped c (Some (BddFunction (constant true)))) ≡ constant (not c)
    by_complement true = refl
    by_complement false = refl

Answer : View → Edge → Edge → Edge → Type 0
Answer w f g e = Denotes Bdd w e (place (λ a b. a && b) (bdd_at w f) (bdd_at w g))

pub equal_operands : (w : View) (f g : Edge) → f ≡ g → AreTwo Bdd w f g → Denotes Bdd w f (place (λ a b. a && b) (bdd_at w f) (bdd_at w g))
equal_operands w f g same d = subst (λ x. Denotes Bdd w f x)
    (everywhere (bdd_at w f) (conjunction (bdd_at w f) (bdd_at w f)) (λ k. sym (and_self (bdd_at w f k))) ∙ ap (λ e. conjunction (bdd_at w f) (bdd_at w e)) same) d.first

pub first_true : (w : View) → Permanent w → (f g : Edge) → f.index ≡ 0 → f.complement ≡ false → AreTwo Bdd w f g → Denotes Bdd w g (place (λ a b. a && b) (bdd_at w f) (bdd_at w g))
first_true w p f g zero plain d =
    let is : bdd_at w f ≡ constant true = truth_at w p f zero ∙ ap (λ c. constant (not c)) plain in
    subst (λ x. Denotes Bdd w g (conjunction x (bdd_at w g))) (sym is) d.second

pub first_false : (w : View) → Permanent w → (f g : Edge) → f.index ≡ 0 → f.complement ≡ true → AreTwo Bdd w f g → Denotes Bdd w f (place (λ a b. a && b) (bdd_at w f) (bdd_at w g))
first_false w p f g zero flip d =
    let is : bdd_at w f ≡ constant false = truth_at w p f zero ∙ ap (λ c. constant (not c)) flip in
    subst (λ x. Denotes Bdd w f (conjunction x (bdd_at w g))) (sym is) (subst (λ x. Denotes Bdd w f x) is d.first)

pub second_true : (w : View) → Permanent w → (f g : Edge) → g.index ≡ 0 → g.complement ≡ false → AreTwo Bdd w f g → Denotes Bdd w f (place (λ a b. a && b) (bdd_at w f) (bdd_at w g))
second_true w p f g zero plain d =
    let is : bdd_at w g ≡ constant true = truth_at w p g zero ∙ ap (λ c. constant (not c)) plain in
    subst (λ x. Denotes Bdd w f (conjunction (bdd_at w f) x)) (sym is)
    (subst (λ x. Denotes Bdd w f x) (everywhere (bdd_at w f) (conjunction (bdd_at w f) (constant true)) (λ k. sym (and-true (bdd_at w f k)))) d.first)

pub second_false : (w : View) → Permanent w → (f g : Edge) → g.index ≡ 0 → g.complement ≡ true → AreTwo Bdd w f g → Denotes Bdd w g (place (λ a b. a && b) (bdd_at w f) (bdd_at w g))
second_false w p f g zero flip d =
    let is : bdd_at w g ≡ constant false = truth_at w p g zero ∙ ap (λ c. constant (not c)) flip in
    subst (λ x. Denotes Bdd w g (conjunction (bdd_at w f) x)) (sym is)
    (subst (λ x. Denotes Bdd w g x) (is ∙ everywhere (constant false) (conjunction (bdd_at w f) (constant false)) (λ k. sym (and-false (bdd_at w f k)))) d.second)

leaf_index : (f : Edge) (p : ℕ → Bool) (x : ℤ) → IsLeafOf Bdd f p x → f.index ≡ 0
leaf_index _ _ _ logic_one = refl
leaf_index _ _ _ logic_zero = refl

pub not_leaves : (w : View) (f g : Edge) → (f.index ≡ 0 → ⊥) → NotBothLeaves Bdd w f g
not_leaves w f g ne x y i j = ne (leaf_index f (bdd_at w f) x i.leaf)

-- of two constants the first where it is false, else the second
pub first_leaf_false : (w : View) → Permanent w → (f g : Edge) (x : ℤ) → IsLeaf Bdd w f (bdd_at w f) x → f.complement ≡ true → AreTwo Bdd w f g
    → Denotes Bdd w f (place (λ a b. a && b) (bdd_at w f) (bdd_at w g))
first_leaf_false w p f g x i flip d = first_false w p f g (leaf_index f (bdd_at w f) x i.leaf) flip d

pub first_leaf_true : (w : View) → Permanent w → (f g : Edge) (x : ℤ) → IsLeaf Bdd w f (bdd_at w f) x → f.complement ≡ false → AreTwo Bdd w f g
    → Denotes Bdd w g (place (λ a b. a && b) (bdd_at w f) (bdd_at w g))
first_leaf_true w p f g x i plain d = first_true w p f g (leaf_index f (bdd_at w f) x i.leaf) plain d
