-- A sweep of a store in which nothing is held leaves the permanent slots alone.
use Rattle.std.proofs.Common.{◌≡◌, inl, inr, ℕ, zero, suc, ◌+◌, ◌-◌, ◌<◌, ◌≤◌, Bool, true, false, length, Option, Some, None, refl, ap, sym, subst, ◌∙◌, arith}
use Rattle.std.specs.List.{filter, range_with_len}
use Rattle.std.proofs.lemmas.Bool.{cases_lt}
use Rattle.edge_bits.specs.declared.words.Node.{Node}
use Rattle.edge_bits.specs.declared.words.Word.{Word}
use Rattle.edge_bits.specs.declared.words.Word.TheVariants.{Inner, Leaf}
use Rattle.edge_bits.specs.Reading.{IsReached as LeadsTo, itself, then_child, else_child}
use Rattle.function_laws.specs.Sizes.{Orders}
use Rattle.node_store.specs.Contents.{IsPermanent, IsSound, IsUsed, is_used, projection_node}
use Rattle.node_slots.specs.Held.{Alone}
use Rattle.node_slots.specs.Slots.{function_at_most, word_function}
use Rattle.node_slots.specs.Stores.{Plain, IsStore, content_of, count_at, is_held, longest, slots}
use Rattle.node_slots.specs.Wholes.{content_view}
use Rattle.node_slots.proofs.Settling.{settled_sound}
use Rattle.dead_sweep.specs.declared.sweeping.Swept.{Swept}
use Rattle.dead_sweep.specs.Swept.{IsSwept}
use Rattle.shared_store.proofs.Handed.{unpinned}

-- how many numbers of a range pass a test that those below m pass alone
module _ (test : ℕ → Bool) (m : ℕ) (low : (s : ℕ) → s < m → test s ≡ true) (high : (s : ℕ) → m ≤ s → test s ≡ false) where
  none_pass : (a k : ℕ) → m ≤ a → length (filter test (range_with_len a k)) ≡ 0
  none_pass a zero le = refl
  none_pass a (suc k) le = rw (high a le) (none_pass (a + 1) k (omega (arith, le)))

  low_pass : (j a k : ℕ) → a + j ≡ m → j ≤ k → length (filter test (range_with_len a k)) ≡ j
  low_pass zero a k is le = none_pass a k (omega (arith, is))
  low_pass (suc j) a zero is le = absurd (omega (arith, le))
  low_pass (suc j) a (suc k) is le = rw (low a (omega (arith, is))) (ap suc (low_pass j (a + 1) k (omega (arith, is)) (omega (arith, le))))

-- what a slot beyond the first three denotes is told by its word
third_word : (p : Plain) (s : ℕ) → content_of p (suc (suc (suc s))) ≡ word_function (function_at_most (slots p) (longest p)) (slots p (suc (suc (suc s))))
unfolding function_at_most
third_word p s = refl

content_word : (p : Plain) (t s : ℕ) → t ≡ suc (suc (suc s)) → content_of p t ≡ word_function (function_at_most (slots p) (longest p)) (slots p t)
content_word p t s is = subst (λ (u : ℕ). content_of p u ≡ word_function (function_at_most (slots p) (longest p)) (slots p u)) (sym is) (third_word p s)

-- arcs from a permanent slot lead to permanent ones
module _ (p : Plain) (of : IsStore p) where
  sound : IsSound (content_view p)
  sound = settled_sound p of

  some_word : (a b : Word) (o : Option Word) → o ≡ Some a → o ≡ Some b → a ≡ b
  some_word a b o one other = cc

  abbrev node_in : Word → Node → Node
  node_in (Inner node) other = node
  node_in (Leaf x) other = other

  child_permanent : (s : ℕ) (node : Node) → IsPermanent (content_view p) s → slots p s ≡ Some (Inner node) → (v : ℕ) × (node ≡ projection_node v)
  child_permanent s node (inl low) is = let e = some_word (Leaf _) (Inner node) (slots p s) (of.permanent.constants s low) is in cc
  child_permanent s node (inr projection) is =
      (projection.0, sym (ap (λ (w : Word). node_in w node) (some_word (Inner (projection_node projection.0)) (Inner node) (slots p s) projection.2 is)))

  leads_permanent : (from s : ℕ) → IsPermanent (content_view p) from → LeadsTo (slots p) from s → IsPermanent (content_view p) s
  leads_permanent from s start itself = start
  leads_permanent from s start (then_child t node reach is) =
      let c = child_permanent t node (leads_permanent from t start reach) is in inl (rw (c.1) (omega arith))
  leads_permanent from s start (else_child t node reach is) =
      let c = child_permanent t node (leads_permanent from t start reach) is in inl (rw (c.1) (omega arith))

  -- a permanent slot is one of the first
  permanent_low : (s : ℕ) → IsPermanent (content_view p) s → s < 5 + length p.variable_levels
  permanent_low s (inl low) = omega (arith, low)
  permanent_low zero (inr projection) = omega arith
  permanent_low (suc zero) (inr projection) = omega arith
  permanent_low (suc (suc zero)) (inr projection) = omega arith
  permanent_low (suc (suc (suc s))) (inr projection) =
      let v = projection.0 in
      let within : v < length p.variable_levels = (let a = projection.1 in let b = of.variables_stand.as_many in omega (arith, a, b)) in
      let d = sound.denotes (suc (suc (suc s))) (Inner (projection_node v), projection.2) in
      let same : content_of p (5 + v) ≡ content_of p (suc (suc (suc s))) = content_word p (5 + v) (2 + v) (omega arith) ∙ ap (word_function (function_at_most (slots p) (longest p))) (of.permanent.projections v within ∙ sym projection.2) ∙ sym (third_word p s) in
      let one : 5 + v ≡ suc (suc (suc s)) = sound.apart (5 + v) (suc (suc (suc s))) d.0 (same ∙ d.1) d.1 in
      omega (arith, one, within)

module _ (p q : Plain) (of : IsStore p) (of' : IsStore q) (swept : Swept) (is : IsSwept Alone (content_view p) (content_view q) swept) (idle : is_held p ≡ false) (uncounted : (k : ℕ) → count_at p k ≡ 0) where
  vars : length q.variable_levels ≡ length p.variable_levels
  vars = sym of'.variables_stand.as_many ∙ ap (λ (o : Orders). length o.variables) is.orders ∙ of.variables_stand.as_many

  used_low : (s : ℕ) → IsUsed (content_view q) s → s < 5 + length q.variable_levels
  used_low s used =
      let reached = is.left s used in
      let low = permanent_low p of s (leads_permanent p of reached.0 s (elim reached.1 [
        | inl permanent ↦ permanent
        | inr root ↦ absurd (let no_root : is.is_root reached.0 ≡ false = is.zero_before reached.0 (uncounted reached.0) (unpinned p idle reached.0) in let yes_root = root.1 in cc)
      ]) reached.2) in omega (arith, low, vars)

  low_used : (s : ℕ) → s < 5 + length q.variable_levels → is_used (slots q s) ≡ true
  low_used s lt = elim (cases_lt s 5) [
    | inl low ↦ ap is_used (of'.permanent.constants s low)
    | inr from ↦ ap is_used (ap (slots q) (let e : s ≡ 5 + (s - 5) = omega (arith, from) in e) ∙ of'.permanent.projections (s - 5) (omega (arith, lt, from)))
  ]

  high_free : (s : ℕ) → 5 + length q.variable_levels ≤ s → is_used (slots q s) ≡ false
  high_free s le = by (slots q s) refl
    where
      by : (o : Option Word) → slots q s ≡ o → is_used o ≡ false
      by None free = refl
      by (Some word) used = absurd (let low = used_low s (word, used) in omega (arith, low, le))

  pub emptied : swept.in_use ≡ 5 + length p.variable_levels
  emptied = is.in_use ∙ low_pass (λ s. is_used (slots q s)) (5 + length q.variable_levels) low_used high_free (5 + length q.variable_levels) 0 (length q.words) (omega arith) of'.room ∙ ap (λ n. 5 + n) vars
