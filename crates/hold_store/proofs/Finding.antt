-- A word that is on the chain of its head, or nowhere.
use Rattle.std.proofs.Common.{◌≡◌, ℕ, zero, suc, ◌+◌, ◌<◌, ◌≤◌, ⊎_elim, Bool, true, List, [], length, Option, Some, None, refl, ap, sym, ◌∙◌, subst, arith}
use Rattle.std.specs.List.{filter, range_with_len}
use Rattle.edge_bits.specs.Words.{unpack_of}
use Rattle.edge_bits.specs.declared.words.Word.{Word}
use Rattle.node_store.specs.Contents.{Content, is_used, used_slots}
use Rattle.step_store.specs.Chains.{Lists, head_of, link_to}
use Rattle.step_store.proofs.Packing.{packs_back}
use Rattle.hold_store.specs.Held.{AllElse, IsFreeList, IsWhole, Knowledge, LeadsAlong, Stands, level_of_word}
use Rattle.hold_store.proofs.Loosing.{walked}
use Rattle.hold_store.proofs.Passing.{none_some}

module _ (k : Knowledge) (head level : ℕ) (chain : List ℕ) (whole : IsWhole k head level chain) where
  pub leads : (link : ℕ) → link ≡ link_to chain → LeadsAlong (walked k head level chain) link
  leads link is = (record { head = head; level = level; rest = chain }, refl, is, whole.chained)

  pub found_nowhere : Stands k → k.hand.loose ≡ None → (bits : ℕ) → bits < 18446744073709551616 → head ≡ head_of k.heads bits
      → (word : Word) → unpack_of bits ≡ Some word → level ≡ level_of_word k word → AllElse (walked k head level chain) bits
      → (s : ℕ) → 3 ≤ s → k.content.word s ≡ Some word → ⊥
  found_nowhere stands calm bits small head_is word reads level_is else_all s high has =
      let here : unpack_of (k.bits s) ≡ Some word = sym (stands.reads s) ∙ has in
      let same : k.bits s ≡ bits = packs_back (k.bits s) word (stands.fits s) here ∙ sym (packs_back bits word small reads) in
      else_all (record { head = head; level = level; rest = chain }) refl s
      (⊎_elim (λ loose. absurd (none_some s (sym calm ∙ loose))) (λ on. on)
      (whole.all s (record { high = high; word = word; has = has; head_is = head_is ∙ ap (head_of k.heads) (sym same); level_is = level_is })))
      same

-- where each slot is in use, as many are as there are slots
all_pass : (p : ℕ → Bool) (a n : ℕ) → ((s : ℕ) → a ≤ s → s < a + n → p s ≡ true) → length (filter p (range_with_len a n)) ≡ n
all_pass p a zero all = refl
all_pass p a (suc n) all =
    let here : p a ≡ true = all a (omega arith) (omega arith) in
    let rest = all_pass p (a + 1) n (λ s le lt. all s (omega (arith, le)) (omega (arith, lt))) in
    rw here (ap suc rest)

used_if : (o : Option Word) → (o ≡ None → ⊥) → is_used o ≡ true
used_if None some = absurd (some refl)
used_if (Some word) some = refl

pub some_free : (w : Content) (list : List ℕ) → IsFreeList w list → used_slots w < w.limit → list ≡ [] → ⊥
some_free w list free less none =
    let full = all_pass (λ s. is_used (w.word s)) 0 w.limit (λ s le lt. used_if (w.word s) (λ is. subst (λ (l : List ℕ). Lists l s → ⊥) (sym none) (λ on. on) (free.all s (omega (arith, lt)) is))) in
    omega (arith, full, less)
