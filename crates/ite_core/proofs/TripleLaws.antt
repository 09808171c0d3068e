-- The steps to the normal form of if-then-else.
use Rattle.std.proofs.Common.{◌≡◌, ℕ, ◌-◌, ◌≤◌, Bool, true, false, not, eqb, cond, Option, Some, ◌⊎◌, inl, inr, refl, ap, sym, ◌∙◌, subst, arith}
use Rattle.std.specs.Prelude.{min}
use Rattle.std.proofs.Math.Bool.{beq}
use Rattle.std.proofs.lemmas.Bool.{and_parts, eq-eqb}
use Rattle.edge_bits.specs.declared.edges.Edge.{Edge}
use Rattle.edge_bits.specs.Words.{word_of_edge}
use Rattle.edge_bits.proofs.EdgeLemmas.{words_same}
use Rattle.edge_bits.specs.declared.edges.Kind.TheVariants.{Bdd}
use Rattle.function_laws.specs.Values.{constant, negation, if_then_else}
use Rattle.function_laws.proofs.ValueLemmas.{everywhere}
use Rattle.node_store.specs.Edges.{flip_if, xor}
use Rattle.function_laws.specs.Kinds.{Denoted, BddFunction, values_of, flipped}
use Rattle.node_store.specs.Views.{View, Is, Denotes, Permanent, bdd_at}
use Rattle.node_store.specs.ViewLaws.{Denotes-flip, flipped-not, Denotes-truth, Is-from, values_at-is}
use Rattle.node_store.specs.Three.{AreThree, ite_at, IsFlipped, IsNormal, IsReduced}
use Rattle.node_store.specs.declared.conditional.Reduced.{Reduced}
use Rattle.node_store.specs.declared.conditional.Reduced.TheVariants.{Answer, Normal}
use Rattle.ite_core.specs.Triples.{StandsFor}
use Rattle.ite_core.proofs.Terminals.{truth_at}

-- other operands with the same answer
pub record SameAnswer (w : View) (f g h f2 g2 h2 : Edge) : Type 0 where
  pub three : AreThree Bdd w f2 g2 h2
  pub same : ite_at Bdd w f2 g2 h2 ≡ ite_at Bdd w f g h
  pub depth : w.vars - min (w.top f2.index) (min (w.top g2.index) (w.top h2.index)) ≤ w.vars - min (w.top f.index) (min (w.top g.index) (w.top h.index))

pub SameAnswer-reduced : (w : View) (f g h f2 g2 h2 : Edge) → SameAnswer w f g h f2 g2 h2 → (r : Reduced) → IsReduced Bdd w f2 g2 h2 r → IsReduced Bdd w f g h r
SameAnswer-reduced w f g h f2 g2 h2 s (Answer e) is = subst (λ x. Denotes Bdd w e x) s.same is
SameAnswer-reduced w f g h f2 g2 h2 s (Normal t flip) n =
    let less = s.depth in let more = n.depth in
    record {
      three = n.three;
      same = subst (λ x. IsFlipped Bdd flip x (ite_at Bdd w t.f t.g t.h)) s.same n.same;
      inner = n.inner;
      depth = omega arith;
    }

flipped-is : (w : View) (e : Edge) → Is Bdd w e → bdd_at w (flip_if true e) ≡ negation (bdd_at w e)
flipped-is w e d = values_at-is Bdd (Denotes-flip d)

-- operands of which each stands for the other where it is read
known : (p q r q2 r2 : ℕ → Bool) → ((k : ℕ) → p k ≡ true → q2 k ≡ q k) → ((k : ℕ) → not (p k) ≡ true → r2 k ≡ r k) → if_then_else p q2 r2 ≡ if_then_else p q r
known p q r q2 r2 first second = everywhere (if_then_else p q2 r2) (if_then_else p q r) (λ k. by_condition (p k) (q k) (r k) (q2 k) (r2 k) (first k) (second k))
  where
    by_condition : (c x y x2 y2 : Bool) → (c ≡ true → x2 ≡ x) → (not c ≡ true → y2 ≡ y) → cond c x2 y2 ≡ cond c x y
    by_condition true x y x2 y2 a b = a refl
    by_condition false x y x2 y2 a b = b refl

pub SameAnswer-known : (w : View) (f g h n g2 h2 : Edge) → n ≡ flip_if true f → AreThree Bdd w f g h → StandsFor w f g g2 → StandsFor w n h h2 → SameAnswer w f g h f g2 h2
SameAnswer-known w f g h n g2 h2 is d a b = let negated : bdd_at w n ≡ negation (bdd_at w f) = rw is (flipped-is w f d.condition) in record {
  three = record { condition = d.condition; first = a.is; second = b.is };
  same = known (bdd_at w f) (bdd_at w g) (bdd_at w h) (bdd_at w g2) (bdd_at w h2) a.same (λ k holds. b.same k (ap (λ (x : ℕ → Bool). x k) negated ∙ holds));
  depth = let index : n.index ≡ f.index = ap (λ e. e.index) is in less (w.top f.index) (w.top g.index) (w.top h.index) (w.top g2.index) (w.top h2.index) a.top (rw (sym index) b.top);
}
  where
    less : (p q r q2 r2 : ℕ) → (q2 ≡ q) ⊎ ((q2 ≡ w.vars) × (q ≡ p)) → (r2 ≡ r) ⊎ ((r2 ≡ w.vars) × (r ≡ p)) → w.vars - min p (min q2 r2) ≤ w.vars - min p (min q r)
    less p q r q2 r2 (inl x) (inl y) = rw (x, y) (omega arith)
    less p q r q2 r2 (inl x) (inr y) = let y1 = y.0 in let y2 = y.1 in omega arith
    less p q r q2 r2 (inr x) (inl y) = let x1 = x.0 in let x2 = x.1 in omega arith
    less p q r q2 r2 (inr x) (inr y) = let x1 = x.0 in let x2 = x.1 in let y1 = y.0 in let y2 = y.1 in omega arith

-- the complement of the condition, with the two others exchanged
pub SameAnswer-swapped : (w : View) (f g h n : Edge) → n ≡ flip_if true f → AreThree Bdd w f g h → SameAnswer w f g h n h g
SameAnswer-swapped w f g h n is d = rw is (record {
  three = record { condition = Is-from Bdd (Denotes-flip d.condition); first = d.second; second = d.first };
  same = rw (flipped-is w f d.condition) (everywhere (if_then_else (negation (bdd_at w f)) (bdd_at w h) (bdd_at w g)) (ite_at Bdd w f g h) (λ k. swapped (bdd_at w f k) (bdd_at w g k) (bdd_at w h k)));
  depth = omega arith;
})
  where
    swapped : (c x y : Bool) → cond (not c) y x ≡ cond c x y
    swapped true x y = refl
    swapped false x y = refl

-- both functions complemented
pub IsNormal-flipped : (w : View) (f g h g2 h2 : Edge) (flip : Bool) → (f.index ≡ 0 → ⊥) → g2 ≡ flip_if flip g → h2 ≡ flip_if flip h → AreThree Bdd w f g h → IsNormal Bdd w f g h (record { f = f; g = g2; h = h2 }) flip
IsNormal-flipped w f g h g2 h2 flip inner sg sh d = rw (sg, sh) (by_flip flip)
  where
    both : (c x y : Bool) → cond c (not x) (not y) ≡ not (cond c x y)
    both true x y = refl
    both false x y = refl

    by_flip : (flip : Bool) → IsNormal Bdd w f g h (record { f = f; g = flip_if flip g; h = flip_if flip h }) flip
    by_flip false = record { three = d; same = refl; inner = inner; depth = omega arith }
    by_flip true = record {
      three = record { condition = d.condition; first = Is-from Bdd (Denotes-flip d.first); second = Is-from Bdd (Denotes-flip d.second) };
      same = rw (flipped-is w g d.first, flipped-is w h d.second)
          (everywhere (if_then_else (bdd_at w f) (negation (bdd_at w g)) (negation (bdd_at w h))) (negation (ite_at Bdd w f g h)) (λ k. both (bdd_at w f k) (bdd_at w g k) (bdd_at w h k)));
      inner = inner;
      depth = omega arith;
    }

-- terminal cases
pub true_condition : (w : View) → Permanent w → (f g h : Edge) → f.index ≡ 0 → f.complement ≡ false → AreThree Bdd w f g h → Denotes Bdd w g (ite_at Bdd w f g h)
true_condition w p f g h zero plain d =
    let is : bdd_at w f ≡ constant true = truth_at w p f zero ∙ ap (λ c. constant (not c)) plain in
    subst (λ x. Denotes Bdd w g (if_then_else x (bdd_at w g) (bdd_at w h))) (sym is) d.first

pub false_condition : (w : View) → Permanent w → (f g h : Edge) → f.index ≡ 0 → f.complement ≡ true → AreThree Bdd w f g h → Denotes Bdd w h (ite_at Bdd w f g h)
false_condition w p f g h zero flip d =
    let is : bdd_at w f ≡ constant false = truth_at w p f zero ∙ ap (λ c. constant (not c)) flip in
    subst (λ x. Denotes Bdd w h (if_then_else x (bdd_at w g) (bdd_at w h))) (sym is) d.second

pub equal_functions : (w : View) (f g h : Edge) → g ≡ h → AreThree Bdd w f g h → Denotes Bdd w g (ite_at Bdd w f g h)
equal_functions w f g h same d = subst (λ x. Denotes Bdd w g x)
    (everywhere (bdd_at w g) (if_then_else (bdd_at w f) (bdd_at w g) (bdd_at w g)) (λ k. either_way (bdd_at w f k) (bdd_at w g k)) ∙ ap (λ e. if_then_else (bdd_at w f) (bdd_at w g) (bdd_at w e)) same) d.first
  where
    either_way : (c x : Bool) → x ≡ cond c x x
    either_way true x = refl
    either_way false x = refl

-- what a test of two edges says
beq_true : (b c : Bool) → true ≡ beq b c → b ≡ c
beq_true true true t = refl
beq_true true false t = cc
beq_true false true t = cc
beq_true false false t = refl

pub equal_edges : (g h : Edge) → true ≡ eqb (word_of_edge g) (word_of_edge h) → g ≡ h
equal_edges g h t =
    let both = and_parts (eqb g.index h.index) (beq g.complement h.complement) (sym (t ∙ words_same g h)) in
    let index : g.index ≡ h.index = grind (arith, both.0) in
    let complement = beq_true g.complement h.complement (sym both.1) in
    let pair : record { index = g.index; complement = g.complement } ≡ h = rw (index, complement) refl in pair

pub unequal_edges : (g h : Edge) → false ≡ eqb (word_of_edge g) (word_of_edge h) → g ≡ h → ⊥
unequal_edges g h t same = let no : false ≡ true = t ∙ eq-eqb _ _ (ap word_of_edge same) in cc

pub unlike : (b c : Bool) → not (beq b c) ≡ xor c b
unlike true true = refl
unlike true false = refl
unlike false true = refl
unlike false false = refl

differ : (g h : Edge) → g.index ≡ h.index → (g ≡ h → ⊥) → h.complement ≡ not g.complement
differ g h same ne = by_both g.index h.index g.complement h.complement same ne
  where
    edge : ℕ → Bool → Edge
    edge i c = record { index = i; complement = c }

    by_both : (i j : ℕ) (b c : Bool) → i ≡ j → (edge i b ≡ edge j c → ⊥) → c ≡ not b
    by_both i j true true same ne = absurd (ne (ap (λ x. edge x true) same))
    by_both i j true false same ne = refl
    by_both i j false true same ne = refl
    by_both i j false false same ne = absurd (ne (ap (λ x. edge x false) same))

pub two_constants : (w : View) → Permanent w → (f g h e : Edge) → g.index ≡ 0 → h.index ≡ 0 → (g ≡ h → ⊥) → e ≡ flip_if g.complement f → AreThree Bdd w f g h → Denotes Bdd w e (ite_at Bdd w f g h)
two_constants w p f g h e gz hz ne is d =
    let gs = truth_at w p g gz in
    let hs : bdd_at w h ≡ constant (not (not g.complement)) = truth_at w p h hz ∙ ap (λ c. constant (not c)) (differ g h (gz ∙ sym hz) ne) in
    rw (is, gs, hs) (by_complement g.complement)
  where
    same : (c : Bool) → c ≡ cond c true false
    same true = refl
    same false = refl

    opposite : (c : Bool) → not c ≡ cond c false true
    opposite true = refl
    opposite false = refl

    by_complement : (c : Bool) → Denotes Bdd w (flip_if c f) (if_then_else (bdd_at w f) (constant (not c)) (constant (not (not c))))
    by_complement false = subst (λ x. Denotes Bdd w f x) (everywhere (bdd_at w f) (if_then_else (bdd_at w f) (constant true) (constant false)) (λ k. same (bdd_at w f k))) d.condition
    by_complement true = subst (λ x. Denotes Bdd w (flip_if true f) x) (everywhere (negation (bdd_at w f)) (if_then_else (bdd_at w f) (constant false) (constant true)) (λ k. opposite (bdd_at w f k)))
        (Denotes-flip d.condition)

-- two edges to one slot denote the same, or complements
same_slot : (b c : Bool) (o : Option Denoted) (f g : ℕ → Bool) → flipped b o ≡ Some (BddFunction f) → flipped c o ≡ Some (BddFunction g) → g ≡ cond (xor b c) (negation f) f
same_slot true true o f g p q = ap (values_of Bdd) (sym q ∙ p)
same_slot true false o f g p q = ap (values_of Bdd) (sym q ∙ flipped-not true o f p)
same_slot false true o f g p q = ap (values_of Bdd) (sym q ∙ flipped-not false o f p)
same_slot false false o f g p q = ap (values_of Bdd) (sym q ∙ p)

-- exclusive or, with its operands exchanged
pub SameAnswer-exchanged : (w : View) (f g h n : Edge) → n ≡ flip_if true f → g.index ≡ h.index → (g ≡ h → ⊥) → AreThree Bdd w f g h → SameAnswer w f g h g f n
SameAnswer-exchanged w f g h n is index ne d =
    let top : w.top g.index ≡ w.top h.index = ap w.top index in
    rw is (record {
      three = record { condition = d.first; first = d.condition; second = Is-from Bdd (Denotes-flip d.condition) };
      same = rw (flipped-is w f d.condition, opposite)
          (everywhere (if_then_else (bdd_at w g) (bdd_at w f) (negation (bdd_at w f))) (if_then_else (bdd_at w f) (bdd_at w g) (negation (bdd_at w g))) (λ k. exchanged (bdd_at w f k) (bdd_at w g k)));
      depth = omega arith;
    })
  where
    exchanged : (x y : Bool) → cond y x (not x) ≡ cond x y (not y)
    exchanged true true = refl
    exchanged true false = refl
    exchanged false true = refl
    exchanged false false = refl

    with_other : (c b : Bool) (x y : ℕ → Bool) → b ≡ not c → y ≡ cond (xor c b) (negation x) x → y ≡ negation x
    with_other true b x y p q = rw p at q
    with_other false b x y p q = rw p at q

    opposite : bdd_at w h ≡ negation (bdd_at w g)
    opposite = with_other g.complement h.complement (bdd_at w g) (bdd_at w h) (differ g h index ne)
        (same_slot g.complement h.complement (w.content g.index) (bdd_at w g) (bdd_at w h) d.first.is (subst (λ i. flipped h.complement (w.content i) ≡ Some (BddFunction (bdd_at w h))) (sym index) d.second.is))

-- an edge to the slot of f, where f is true
pub StandsFor-constant : (w : View) → Permanent w → (f g e : Edge) → g.index ≡ f.index → e ≡ record { index = 0; complement = xor f.complement g.complement } → Is Bdd w f → Is Bdd w g → StandsFor w f g e
StandsFor-constant w p f g e same is df dg =
    by_complement (xor f.complement g.complement) is
    (same_slot f.complement g.complement (w.content f.index) (bdd_at w f) (bdd_at w g) df.is (subst (λ i. flipped g.complement (w.content i) ≡ Some (BddFunction (bdd_at w g))) same dg.is))
  where
    by_complement : (x : Bool) → e ≡ record { index = 0; complement = x } → bdd_at w g ≡ cond x (negation (bdd_at w f)) (bdd_at w f) → StandsFor w f g e
    by_complement true is v = rw is (record {
      is = Is-from Bdd (Denotes-truth w p false);
      same = λ k holds. ap (λ (x : ℕ → Bool). x k) (values_at-is Bdd (Denotes-truth w p false)) ∙ sym (ap (λ (x : ℕ → Bool). x k) v ∙ ap not holds);
      top = inr (p.one_top, ap w.top same);
    })
    by_complement false is v = rw is (record {
      is = Is-from Bdd (Denotes-truth w p true);
      same = λ k holds. ap (λ (x : ℕ → Bool). x k) (values_at-is Bdd (Denotes-truth w p true)) ∙ sym (ap (λ (x : ℕ → Bool). x k) v ∙ holds);
      top = inr (p.one_top, ap w.top same);
    })

pub StandsFor-itself : (w : View) (f g : Edge) → Is Bdd w g → StandsFor w f g g
StandsFor-itself w f g d = record { is = d; same = λ k holds. refl; top = inl refl }
