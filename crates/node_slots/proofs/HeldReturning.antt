-- A store that is handed to its holder, and that he gives back.
use Rattle.std.proofs.Common.{false, ◌≡◌, ℕ, List, Option, Some, None, refl, ap, sym, ◌∙◌, subst}
use Rattle.computed_cache.specs.Entries.{kept_at}
use Rattle.node_store.specs.Contents.{IsSound}
use Rattle.node_slots.specs.declared.held_store.HalfSwap.{HalfSwap}
use Rattle.held_slots.specs.Notes.{Chain, Notes}
use Rattle.node_slots.specs.Stores.{Plain, IsStore, content_of, refused_function}
use Rattle.node_slots.specs.Wholes.{content_view}
use Rattle.node_slots.specs.Held.{IsHeld, pair_in}
use Rattle.node_slots.proofs.Returning.{sound_ordered, sound_settled}
use Rattle.node_slots.proofs.Settling.{settled_sound}

pub handed_over : (p : Plain) → IsStore p → (memo : List ℕ) → ((i : ℕ) → kept_at memo i ≡ None) → (n : Notes) (old : Chain) → n ≡ record { marks = p.marks; pins = p.pins; chain = record old { linked = false } }
    → IsHeld (record { plain = record p { marks = n.marks; pins = n.pins; due = None; memo = memo }; half = None; chain = n.chain })
handed_over p st memo empty n old e = subst (λ x. IsHeld (record { plain = record p { marks = x.marks; pins = x.pins; due = None; memo = memo }; half = None; chain = x.chain })) (sym e) (record {
  sound = settled_sound p st;
  variables_stand = st.variables_stand;
  elements_stand = st.elements_stand;
  permanent = record { constants = st.permanent.constants; projections = st.permanent.projections };
  few_variables = st.few_variables;
  few_elements = st.few_elements;
  room = st.room;
  counted = st.holds.counted;
  marks_fit = st.holds.marks_fit;
  pins_fit = st.holds.pins_fit;
  nothing_due = refl;
  forgotten = empty;
  linked = λ on. cc;
})

-- no swap is half made
pub given_back : (p : Plain) (half : Option HalfSwap) (chain : Chain) → pair_in half ≡ None → IsHeld (record { plain = p; half = half; chain = chain }) → IsStore p
given_back p half chain whole h =
    let sound = subst (λ o. IsSound (record (content_view p) { half = o })) whole h.sound in
    record {
      ordered = sound_ordered p h.variables_stand h.elements_stand h.permanent sound;
      variables_stand = h.variables_stand;
      elements_stand = h.elements_stand;
      permanent = h.permanent;
      canonical = sound_settled p h.variables_stand h.elements_stand h.permanent sound;
      few_variables = h.few_variables;
      few_elements = h.few_elements;
      room = h.room;
      few_words = sound.few_slots;
      holds = record {
        counted = h.counted;
        marks_fit = h.marks_fit;
        pins_fit = h.pins_fit;
        few = sound.few_counts;
        uncounted = sound.uncounted;
        unpinned = sound.unpinned;
      };
      refused = λ r due. (let e : None ≡ Some r = sym h.nothing_due ∙ due in cc);
      missing = λ f due. (let e : None ≡ Some f = ap (λ d. refused_function (content_of p) d) (sym h.nothing_due) ∙ due in cc);
      remembered = λ i kept is. (let e : None ≡ Some kept = sym (h.forgotten i) ∙ is in cc);
    }
