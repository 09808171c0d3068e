-- The upper one of two top variables.
use Rattle.std.proofs.Common.{◌≡◌, ℕ, ◌<◌, ◌≤◌, Bool, true, false, inl, inr, Option, Some, None, IfSome, refl, sym, ◌∙◌, arith}
use Rattle.std.specs.Prelude.{nat_le, if◌then◌else◌}
use Rattle.edge_bits.specs.declared.edges.Edge.{Edge}
use Rattle.edge_bits.specs.declared.edges.Kind.{Kind}
use Rattle.function_laws.specs.Kinds.{ValueOf}
use Rattle.node_store.specs.Views.{View, IsTop, Grown, Is, values_at}
use Rattle.node_store.specs.ViewLaws.{IsVariable-grown, level-grown, levels-grown, top-grown}
use Rattle.node_store.specs.Tops.{TopIs, upper_of}
use Rattle.node_store.specs.declared.parts.Top.{Top}

pub TopIs-grown : (k : Kind) {v w : View} {e : Edge} (f : ℕ → ValueOf k) → Grown v w → Is k v e → (t : Option Top) → TopIs k v e f t → TopIs k w e f t
TopIs-grown k {v} {w} {e} f m d (Some t) p =
    let l = level-grown m t.var in let n = levels-grown k m in let h = top-grown k m d in
    let a = p.level in let b = p.here in let c = p.within in
    record { in_range = IsVariable-grown k m t.var p.in_range; level = omega arith; here = omega arith; within = omega arith }
TopIs-grown k {v} {w} {e} f m d None p = (p.0, record { leaf = p.1.leaf; here = top-grown k m d ∙ p.1.here ∙ sym (levels-grown k m) })

pub some_is : (k : Kind) (w : View) (f g : Edge) (a b : Option Top) → TopIs k w f (values_at k w f) a → TopIs k w g (values_at k w g) b
    → (t : Option Top) → t ≡ upper_of a b → IfSome t (λ t. IsTop k w f g t.var)
some_is k w f g None None p q t is = rw is tt
some_is k w f g None (Some b) p q t is =
    let c = q.within in let d = p.1.here in let e = q.here in
    rw is (record { in_range = q.in_range; within = q.within; above_f = omega arith; above_g = omega arith; touches = inr (omega arith) })
some_is k w f g (Some a) None p q t is =
    let c = p.within in let d = q.1.here in let e = p.here in
    rw is (record { in_range = p.in_range; within = p.within; above_f = omega arith; above_g = omega arith; touches = inl (omega arith) })
some_is k w f g (Some a) (Some b) p q t is = rw is (by_test (nat_le a.level b.level) refl)
  where
    by_test : (c : Bool) → nat_le a.level b.level ≡ c → IsTop k w f g (if c then a else b).var
    by_test true h =
        let le : a.level ≤ b.level = grind (arith, h) in
        let x = p.here in let y = q.here in let u = p.level in let v = q.level in
        record { in_range = p.in_range; within = p.within; above_f = omega arith; above_g = omega arith; touches = inl (omega arith) }
    by_test false h =
        let lt : b.level < a.level = grind (arith, h) in
        let x = p.here in let y = q.here in let u = p.level in let v = q.level in
        record { in_range = q.in_range; within = q.within; above_f = omega arith; above_g = omega arith; touches = inr (omega arith) }

pub has_level : (k : Kind) (w : View) (f g : Edge) (a b : Option Top) → TopIs k w f (values_at k w f) a → TopIs k w g (values_at k w g) b
    → (t : Option Top) → t ≡ upper_of a b → IfSome t (λ t. t.level ≡ w.level t.var)
has_level k w f g None None p q t is = rw is tt
has_level k w f g None (Some b) p q t is = rw is q.level
has_level k w f g (Some a) None p q t is = rw is p.level
has_level k w f g (Some a) (Some b) p q t is = rw is (by_test (nat_le a.level b.level))
  where
    by_test : (c : Bool) → (if c then a else b).level ≡ w.level (if c then a else b).var
    by_test true = p.level
    by_test false = q.level
