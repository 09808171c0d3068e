-- A word in the place of another.
use Rattle.std.proofs.Common.{◌≡◌, ◌≢◌, ℕ, zero, suc, ◌+◌, ◌<◌, cond, inl, inr, List, [], ◌∷◌, length, get_or, set, Some, refl, ap, sym, ◌∙◌, subst, arith}
use Rattle.std.specs.List.{count_by}
use Rattle.std.proofs.lemmas.Bool.{cases_eq}
use Rattle.std.proofs.lemmas.List.{length-set, get_or-set_same, get_or-set_other}
use Rattle.edge_bits.specs.declared.words.Word.{Word}
use Rattle.edge_bits.specs.Words.{pack_of, unpack_of}
use Rattle.edge_bits.specs.Reading.{slots_of}
use Rattle.node_store.specs.Contents.{is_node_of as is_node_in}
use Rattle.node_slots.specs.Stores.{is_word}
use Rattle.node_slots.specs.Taking.{ArePacked, AreCounted, AreFree}
use Rattle.node_slots.proofs.Taking.{count_erased, count_put, counted_erased, counted_put, packed_erased, packed_put}

-- what is written twice is what was written last
pub set_twice : (words : List ℕ) (s first last : ℕ) → set (set words s first) s last ≡ set words s last
set_twice [] s first last = refl
set_twice (x ∷ words) zero first last = refl
set_twice (x ∷ words) (suc s) first last = ap (λ xs. x ∷ xs) (set_twice words s first last)

module _ (words : List ℕ) (s bits : ℕ) (old word : Word) (within : s < length words) (was : slots_of words s ≡ Some old) (reads : unpack_of bits ≡ Some word) where
  pub erased_within : s < length (set words s 0)
  erased_within = let l = length-set words s 0 in omega arith

  pub erased_zero : get_or (set words s 0) s 0 ≡ 0
  erased_zero = get_or-set_same words s 0 0 within

  -- as many slots are in use
  pub count_replaced : count_by is_word (set words s bits) ≡ count_by is_word words
  count_replaced =
      ap (count_by is_word) (sym (set_twice words s 0 bits)) ∙ count_put (set words s 0) s bits word erased_within erased_zero reads ∙ count_erased words s old within was

  pub packed_replaced : bits ≡ pack_of word → ArePacked words → ArePacked (set words s bits)
  packed_replaced is packed = subst ArePacked (set_twice words s 0 bits) (packed_put (set words s 0) s bits word erased_within is reads (packed_erased words s within packed))

  -- each variable has the nodes that it had, less the old word's and with the new one's
  pub counted_replaced : (counts less more : List ℕ) → AreCounted words counts
      → length less ≡ length counts → ((v : ℕ) → get_or less v 0 + cond (is_node_in v (Some old)) 1 0 ≡ get_or counts v 0)
      → length more ≡ length less → ((v : ℕ) → get_or more v 0 ≡ get_or less v 0 + cond (is_node_in v (Some word)) 1 0) → AreCounted (set words s bits) more
  counted_replaced counts less more counted all each all' each' =
      subst (λ ws. AreCounted ws more) (set_twice words s 0 bits)
      (counted_put (set words s 0) less more s bits word erased_within erased_zero reads (counted_erased words counts less s old within was counted all each) all' each')

  -- the free slots are those that were
  pub free_replaced : (taken : ℕ) (freed : List ℕ) → s < taken → 0 < bits → (get_or words s 0 ≢ 0) → AreFree words taken freed → AreFree (set words s bits) taken freed
  free_replaced taken freed below some used free = record {
    within = (let w = free.within in let l = length-set words s bits in omega arith);
    beyond = λ t above. (let ne : t ≢ s = omega arith in get_or-set_other words s t bits 0 ne ∙ free.beyond t above);
    freed_are = λ i lt. (
        let f = free.freed_are i lt in
        let ne : get_or freed i 0 ≢ s = λ same. used (ap (λ t. get_or words t 0) (sym same) ∙ f.1) in
        (f.0, get_or-set_other words s (get_or freed i 0) bits 0 ne ∙ f.1));
    once = free.once;
    all = λ t lt zero. elim (cases_eq t s) [
      | inl e ↦ absurd (let h = get_or-set_same words s bits 0 within in let z : get_or (set words s bits) s 0 ≡ 0 = subst (λ x. get_or (set words s bits) x 0 ≡ 0) e zero in omega (arith, h, z, some))
      | inr ne ↦ free.all t lt (sym (get_or-set_other words s t bits 0 ne) ∙ zero)
    ];
  }
