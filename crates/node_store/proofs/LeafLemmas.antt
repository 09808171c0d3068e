-- A leaf's function depends on no variable.
use Rattle.std.proofs.Common.{◌≡◌, ℕ, zero, suc, true, Some, ℤ, refl, sym, ◌∙◌, subst, arith}
use Rattle.edge_bits.specs.declared.edges.Kind.{Kind}
use Rattle.edge_bits.specs.declared.words.Word.TheVariants.{Leaf}
use Rattle.function_laws.specs.Values.{constant}
use Rattle.function_laws.specs.Families.{empty, base}
use Rattle.function_laws.specs.Kinds.{Denoted, BddFunction, AddFunction, ZddFamily, ValueOf, function_of, Lacks}
use Rattle.function_laws.proofs.LackingParts.{Free, Lacks-Free, own}
use Rattle.node_store.specs.Contents.{Content, IsSound}
use Rattle.node_store.proofs.TwoParts.{base-without}

injective : (f g : Denoted) → Some f ≡ Some g → f ≡ g
injective f g e = cc

module _ (w : Content) (sound : IsSound w) where
  -- as an order has the variable
  pub leaf_free : (s : ℕ) (x : ℤ) (f : Denoted) → w.word s ≡ Some (Leaf x) → w.function s ≡ Some f → (v : ℕ) → Free f v
  leaf_free zero x f word e v = subst (λ g. Free g v) (injective (BddFunction (constant true)) f (sym sound.logic_one ∙ e)) (λ k b. refl)
  leaf_free (suc zero) x f word e v = subst (λ g. Free g v) (injective (ZddFamily empty) f (sym sound.empty_family ∙ e)) (λ a has. refl)
  leaf_free (suc (suc zero)) x f word e v = subst (λ g. Free g v) (injective (ZddFamily base) f (sym sound.base_family ∙ e)) (base-without v)
  leaf_free (suc (suc (suc s))) x f word e v =
      subst (λ g. Free g v) (injective (AddFunction (constant x)) f (sym (sound.leaves (suc (suc (suc s))) x (omega arith) word).0 ∙ e)) (λ k b. refl)

  -- as a node names it
  pub leaf_lacks : (s : ℕ) (x : ℤ) (k : Kind) (f : ℕ → ValueOf k) (v : ℕ) → w.word s ≡ Some (Leaf x) → w.function s ≡ Some (function_of k f) → Lacks k f v
  leaf_lacks s x k f v word h = Lacks-Free k f v (leaf_free s x (function_of k f) word h (own k v))
