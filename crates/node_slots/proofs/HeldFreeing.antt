-- A held store after a slot was freed.
use Rattle.std.proofs.Common.{false, ◌≡◌, ◌≢◌, ℕ, ◌+◌, ◌<◌, inl, inr, List, length, get_or, set, None, refl, ap, sym, ◌∙◌, subst, arith}
use Rattle.std.specs.Prelude.{◌%◌, ◌^◌}
use Rattle.std.proofs.lemmas.List.{length-set, get_or-set_same, get_or-set_other}
use Rattle.edge_bits.specs.Words.{unpack_of}
use Rattle.function_laws.proofs.ValueLemmas.{everywhere}
use Rattle.handle_count.specs.CountWords.{count_of, generation_of}
use Rattle.node_store.specs.Contents.{IsSound, IsPermanent}
use Rattle.node_store.specs.Changes.{After, CanFree, put_at, without}
use Rattle.node_store.proofs.Freeing.{freed_sound}
use Rattle.node_slots.specs.Stores.{slots, count_at, generation_at, HasPermanent}
use Rattle.node_slots.specs.Held.{Alone, Held, IsHeld, held_view}
use Rattle.node_slots.proofs.Holding.{at_set}
use Rattle.node_slots.proofs.HeldRewriting.{Becomes}
use Rattle.node_slots.proofs.HeldLaws.{after_same, read_put, settle, slots_put}

module _ (q : Held) (is : IsHeld q) (slot : ℕ) (can : CanFree (held_view q) slot) (ws cs : List ℕ) (word : ℕ)
    (written : ws ≡ set q.plain.words slot 0) (recounted : cs ≡ set q.plain.counts slot word)
    (count : count_of word ≡ count_at q.plain slot) (generation : generation_of word ≡ (generation_at q.plain slot + 1) % 2 ^ 32) where
  abbrev new : Held
  new = record { plain = record q.plain { words = ws; counts = cs }; half = q.half; chain = record q.chain { linked = false } }

  within : slot < length q.plain.words
  within = is.sound.within slot can.used

  counted : slot < length q.plain.counts
  counted = let c = is.counted in let w = within in omega (arith, c, w)

  pub other_slot : (s : ℕ) → s ≢ slot → slots new.plain s ≡ slots q.plain s
  other_slot s ne = ap (λ xs. unpack_of (get_or xs s 0)) written ∙ ap unpack_of (get_or-set_other q.plain.words slot s 0 0 ne)

  pub slot_gone : slots new.plain slot ≡ None
  slot_gone = ap (λ xs. unpack_of (get_or xs slot 0)) written ∙ ap unpack_of (get_or-set_same q.plain.words slot 0 0 within)

  permanent_apart : (s : ℕ) → IsPermanent (held_view q) s → s ≢ slot
  permanent_apart s p e = can.spare (subst (IsPermanent (held_view q)) e p)

  counts_same : count_at q.plain ≡ count_at new.plain
  counts_same = everywhere (count_at q.plain) (count_at new.plain) (λ s.
      subst (λ xs. count_at q.plain s ≡ count_of (get_or xs s 0)) (sym recounted)
      (at_set (λ x. count_at q.plain s ≡ count_of x) q.plain.counts slot word s counted (λ e. ap (count_at q.plain) e ∙ sym count) (λ ne. refl)))

  pub freed_view : held_view new ≡ without (held_view q) slot
  freed_view = settle new (without (held_view q) slot) (freed_sound (held_view q) is.sound slot can) is.variables_stand is.elements_stand refl
      (sym (length-set q.plain.words slot 0) ∙ ap length (sym written))
      (slots_put q.plain.words slot 0 within ∙ ap (λ xs s. unpack_of (get_or xs s 0)) (sym written))
      counts_same
      (ap (put_at (generation_at q.plain) slot) (sym generation) ∙ read_put generation_of q.plain.counts slot word counted ∙ ap (λ xs s. generation_of (get_or xs s 0)) (sym recounted))
      refl refl refl refl

  permanent_stays : HasPermanent new.plain
  permanent_stays = record {
    constants = λ s lt. other_slot s (permanent_apart s (inl lt)) ∙ is.permanent.constants s lt;
    projections = λ v lt. (
        let word = is.permanent.projections v lt in
        other_slot (5 + v) (permanent_apart (5 + v) (inr (v, (let a = is.variables_stand.as_many in omega (arith, a, lt)), word))) ∙ word);
  }

  freed_held : IsHeld new
  freed_held =
      let long = ap length written ∙ length-set q.plain.words slot 0 in
      let many = ap length recounted ∙ length-set q.plain.counts slot word in
      record {
        sound = subst IsSound (sym freed_view) (freed_sound (held_view q) is.sound slot can);
        variables_stand = is.variables_stand;
        elements_stand = is.elements_stand;
        permanent = permanent_stays;
        few_variables = is.few_variables;
        few_elements = is.few_elements;
        room = (let r = is.room in omega (arith, r, long));
        counted = many ∙ is.counted ∙ sym long;
        marks_fit = is.marks_fit ∙ sym long;
        pins_fit = is.pins_fit ∙ sym long;
        nothing_due = is.nothing_due;
        forgotten = is.forgotten;
        linked = λ on. cc;
      }

  freed_after : After Alone (without (held_view q) slot) (held_view new)
  freed_after = after_same (without (held_view q) slot) (held_view new) freed_view (freed_sound (held_view q) is.sound slot can)

  pub freed : Becomes (without (held_view q) slot) new
  freed = record { held = freed_held; after = freed_after }
