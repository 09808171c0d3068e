-- What if-then-else stores is part of its value.
use Rattle.std.proofs.Common.{◌≡◌, ℕ, ◌≤◌, Bool, true, Option, Some, ◌⊎◌, inl, inr, refl, sym, subst}
use Rattle.edge_bits.specs.declared.edges.Edge.{Edge}
use Rattle.computed_cache.specs.declared.Key.{Key}
use Rattle.edge_bits.specs.declared.edges.Kind.{Kind}
use Rattle.edge_bits.specs.declared.edges.Kind.TheVariants.{Bdd, Add, Zdd}
use Rattle.function_laws.specs.Values.{negation}
use Rattle.node_store.specs.Edges.{flip_if}
use Rattle.function_laws.specs.Kinds.{Denoted, BddFunction, ValueOf, function_of}
use Rattle.node_store.specs.Views.{View, Grown, Denotes, IsKey}
use Rattle.node_store.specs.Work.{IsPart, IsWork, Moves}
use Rattle.node_store.specs.WorkLaws.{IsWork-edge, IsWork-due}
use Rattle.node_store.specs.Three.{ite_at, AreThree, ThreeDue, value_of_three, IsPartOrComplement, IsNormal}
use Rattle.node_store.specs.ThreeLaws.{ite_at-grown, IsPartOrComplement-grown}
use Rattle.node_store.specs.Memo.{IteHolds}
use Rattle.node_store.specs.declared.operator.Task.{Task}
use Rattle.node_store.proofs.ComplementWork.{negation-negation, IsWork-negation}
use Rattle.node_store.proofs.ThreeParts.{IsFlipped-answer}

-- what is part of the work because it is a part of the function or of its complement
pub part_of_either : (k : Kind) (w : View) (f g : ℕ → ValueOf k) (o : Option Denoted)
    → ((h : ℕ → ValueOf k) → IsPart k w h g → IsWork w (λ F. F ≡ function_of k h) o) → IsPartOrComplement k w f g → IsWork w (λ F. F ≡ function_of k f) o
part_of_either k w f g o build (inl p) = build f p
part_of_either Bdd w f g o build (inr p) = subst (λ x. IsWork w (λ F. F ≡ BddFunction x) o) (sym (negation-negation f)) (IsWork-negation w (negation f) o (build (negation f) p))
part_of_either Add w f g o build (inr p) = build f p
part_of_either Zdd w f g o build (inr p) = build f p

module _ (k : Kind) (f g h : Edge) where
  later : (v w : View) (t : Task) → ThreeDue k f g h v t → Grown v w → IsPartOrComplement k w (ite_at k w f g h) (ite_at k v t.f t.g t.h)
  later v w t d m = rw (ite_at-grown k m d.roots) (IsPartOrComplement-grown k (ite_at k v f g h) (ite_at k v t.f t.g t.h) m d.part)

  -- a task's value was stored
  pub Three-moved : (v w : View) (t : Task) (e : Edge) → ThreeDue k f g h v t → Grown v w → ((s : ℕ) → w.made s ≡ true → (v.made s ≡ true) ⊎ (e.index ≡ s))
      → Denotes k w e (ite_at k v t.f t.g t.h) → Moves (λ w. AreThree k w f g h) (value_of_three k f g h) v w
  Three-moved v w t e d m made is = record {
    grown = m;
    work = λ roots s here. elim (made s here) [
      | inl old ↦ inl old
      | inr same ↦ inr (subst (λ x. IsWork w (value_of_three k f g h w) (w.content x)) same
          (part_of_either k w (ite_at k w f g h) (ite_at k v t.f t.g t.h) (w.content e.index)
          (λ r p. IsWork-edge k w (λ F. F ≡ function_of k r) e r (ite_at k v t.f t.g t.h) refl p is) (later v w t d m)))
    ];
  }

  -- a task's value was due
  pub Three-refused : (v w : View) (t : Task) → ThreeDue k f g h v t → Grown v w → w.due ≡ Some (function_of k (ite_at k v t.f t.g t.h)) → IsWork w (value_of_three k f g h w) w.due
  Three-refused v w t d m is = part_of_either k w (ite_at k w f g h) (ite_at k v t.f t.g t.h) w.due
      (λ r p. IsWork-due k w (λ F. F ≡ function_of k r) r (ite_at k v t.f t.g t.h) refl p is) (later v w t d m)

-- an answer under the key of the normal form
pub Ite-hit : (k : Kind) (v w : View) (root t : Task) (flip : Bool) (key : Key) (e : Edge) → Grown v w → AreThree k v root.f root.g root.h → IsNormal k v root.f root.g root.h t flip
    → key.f ≡ t.f → key.g ≡ t.g → key.h ≡ t.h → IteHolds k w key e → Denotes k w (flip_if flip e) (ite_at k w root.f root.g root.h)
Ite-hit k v w root t flip key e m d n sf sg sh holds =
    IsFlipped-answer k flip w e (ite_at k w root.f root.g root.h) (ite_at k w t.f t.g t.h)
    (rw (ite_at-grown k m d, ite_at-grown k m n.three) n.same) (rw (sym sf, sym sg, sym sh) holds.answer)

pub IsKey-three : (k : Kind) (w : View) (key : Key) → 1 ≤ key.op → key.op ≤ 62 → AreThree k w key.f key.g key.h → IsKey w key
IsKey-three k w key least most d = record { least = least; most = most; f = (Bdd, d.condition); g = (k, d.first); h = (k, d.second) }
