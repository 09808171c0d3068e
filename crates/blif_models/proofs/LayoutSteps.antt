-- The steps of a layout.
use Rattle.std.proofs.Common.{Vec, Global, ◌≡◌, ℕ, zero, suc, ◌+◌, ◌-◌, ◌==◌, ◌<◌, ◌≤◌, true, false, List, [], ◌∷◌, ◌++◌, Some, length, map, drop, get_or, refl, ap, sym, ◌∙◌, subst, arith, append-nil, append_assoc, if◌then◌else◌}
use Rattle.std.specs.Prelude.{All, slice_get}
use Rattle.std.proofs.lemmas.List.{get_or-map, get_or_append_left, get_or_push, length-append, length_push, map-append}
use Rattle.std.proofs.lemmas.List.Elements.{All-append, All-cons, All-head, All-map, All-nil, All-push, All-tail, All-weaker}
use Rattle.std.proofs.lemmas.List.Sums.{sum_by-cons}
use Rattle.blif_models.specs.declared.layout.Frame.{Frame}
use Rattle.blif_models.specs.declared.numbered.NumberedCover.{NumberedCover}
use Rattle.blif_models.specs.declared.numbered.NumberedLatch.{NumberedLatch}
use Rattle.blif_models.specs.declared.numbered.NumberedInstance.{NumberedInstance}
use Rattle.blif_models.specs.declared.numbered.NumberedModel.{NumberedModel}
use Rattle.blif_models.specs.declared.numbered.Entry.{Entry}
use Rattle.blif_models.specs.declared.numbered.Entry.TheVariants as entries
use Rattle.blif_models.specs.declared.numbered.Laid.{Laid}
use Rattle.blif_models.specs.declared.numbered.Laid.TheVariants as laid
use Rattle.blif_models.specs.declared.numbered.Spot.{Spot}
use Rattle.blif_models.specs.Layouts.{Counted, IsRanked, IsTable, Placed, copies_in, cover_laid, covered, latch_laid, latched, laid_within, model_at, no_spot, numbered_cover, numbered_latch, placed_in, spot_at, spots_of, table_within, unless_empty}
use Rattle.blif_models.specs.Unfinished.{AreRanked, IsFrame, IsLayout, LaidIs, entries_left, entry_steps, left_of, onward, steps_left, steps_within, unfinished}
use Rattle.blif_models.proofs.Tables.{spot_kept, spots_kept, within_more}

-- the last of a list

all_front : {X : Type 0} (P : X → Type 0) (xs : List X) (x : X) → All P (xs ++ x ∷ []) → All P xs
all_front P xs x h = λ i d lt. subst P (get_or_append_left xs (x ∷ []) d i lt) (h i d (omega (arith, lt, length_push xs x)))

pub all_end : {X : Type 0} (P : X → Type 0) (xs : List X) (x : X) → All P (xs ++ x ∷ []) → P x
all_end P xs x h = subst P (get_or_push xs x x (length xs) refl) (h (length xs) x (omega (arith, length_push xs x)))

-- the top of a stack

unfinished_last : (models : List NumberedModel) (counted : Counted) (levels : ℕ) (spots : List Spot) (fs : List Frame) (f : Frame)
    → unfinished models counted levels spots (fs ++ f ∷ []) ≡ left_of models counted (levels - length fs) spots f ++ unfinished models counted levels spots fs
unfinished_last models counted levels spots [] f = let same : levels ≡ levels - 0 = omega arith in ap (λ l. left_of models counted l spots f) same ∙ sym (append-nil (left_of models counted (levels - 0) spots f))
unfinished_last models counted levels spots (g ∷ fs) f =
    let same : levels - 1 - length fs ≡ levels - suc (length fs) = omega arith in
    ap (λ (xs : List Placed). xs ++ left_of models counted levels spots g) (unfinished_last models counted (levels - 1) spots fs f)
    ∙ append_assoc (left_of models counted (levels - 1 - length fs) spots f) (unfinished models counted (levels - 1) spots fs) (left_of models counted levels spots g)
    ∙ ap (λ l. left_of models counted l spots f ++ (unfinished models counted (levels - 1) spots fs ++ left_of models counted levels spots g)) same

ranked_front : (rank : ℕ → ℕ) (levels : ℕ) (fs : List Frame) (f : Frame) → AreRanked rank levels (fs ++ f ∷ []) → AreRanked rank levels fs
ranked_front rank levels [] f h = tt
ranked_front rank levels (g ∷ fs) f h = (h.0, ranked_front rank (levels - 1) fs f h.1)

ranked_end : (rank : ℕ → ℕ) (levels : ℕ) (fs : List Frame) (f : Frame) → AreRanked rank levels (fs ++ f ∷ []) → rank f.model ≤ levels - length fs
ranked_end rank levels [] f h = omega (arith, h.0)
ranked_end rank levels (g ∷ fs) f h = omega (arith, ranked_end rank (levels - 1) fs f h.1)

ranked_push : (rank : ℕ → ℕ) (levels : ℕ) (fs : List Frame) (f : Frame) → AreRanked rank levels fs → rank f.model ≤ levels - length fs → AreRanked rank levels (fs ++ f ∷ [])
ranked_push rank levels [] f h le = (omega (arith, le), tt)
ranked_push rank levels (g ∷ fs) f h le = (h.0, ranked_push rank (levels - 1) fs f h.1 (omega (arith, le)))

steps_last : (models : List NumberedModel) (levels : ℕ) (fs : List Frame) (f : Frame) → steps_left models levels (fs ++ f ∷ []) ≡ steps_left models levels fs + (steps_within models (levels - length fs) (entries_left models f) + 1)
steps_last models levels [] f = let same : levels ≡ levels - 0 = omega arith in ap (λ l. 0 + (steps_within models l (entries_left models f) + 1)) same
steps_last models levels (g ∷ fs) f =
    let same : levels - 1 - length fs ≡ levels - suc (length fs) = omega arith in
    omega (arith, steps_last models (levels - 1) fs f, ap (λ l. steps_within models l (entries_left models f)) same)

-- spots that are added change nothing

placed_kept : (spots more : List Spot) (one : Laid) → LaidIs (length spots) one → placed_in (spots ++ more) one ≡ placed_in spots one
placed_kept spots more (laid.Cover cover model place) h = λ j. covered (record { line = cover.line; ins = spots_kept spots more cover.ins h.0 j; name = spot_kept spots more cover.name h.1 j; model = model; place = place })
placed_kept spots more (laid.Latch latch) h = ap2 latch.line (spot_kept spots more latch.input h.0) (spot_kept spots more latch.output h.1)
  where
    ap2 : (line : ℕ) → spot_at (spots ++ more) latch.input ≡ spot_at spots latch.input → spot_at (spots ++ more) latch.output ≡ spot_at spots latch.output → latch_laid (spots ++ more) latch ≡ latch_laid spots latch
    ap2 line e f = λ j. latched (record { line = latch.line; input = e j; output = f j })

all_placed_kept : (spots more : List Spot) (placed : List Laid) → All (LaidIs (length spots)) placed → map (placed_in (spots ++ more)) placed ≡ map (placed_in spots) placed
all_placed_kept spots more [] h = refl
all_placed_kept spots more (one ∷ placed) h = λ j. placed_kept spots more one (All-head (LaidIs (length spots)) one placed h) j ∷ all_placed_kept spots more placed (All-tail (LaidIs (length spots)) one placed h) j

unfinished_kept : (models : List NumberedModel) (counted : Counted) (levels : ℕ) (spots more : List Spot) (fs : List Frame) → All (IsFrame models spots) fs → unfinished models counted levels (spots ++ more) fs ≡ unfinished models counted levels spots fs
unfinished_kept models counted levels spots more [] h = refl
unfinished_kept models counted levels spots more (f ∷ fs) h =
    let here = All-head (IsFrame models spots) f fs h in
    let same = spots_kept spots more f.table.items here.within in
    λ j. unfinished_kept models counted (levels - 1) spots more fs (All-tail (IsFrame models spots) f fs h) j ++ laid_within models counted levels (same j) f.model f.copies f.next (entries_left models f)

laid_more : (spots more : List Spot) (one : Laid) → LaidIs (length spots) one → LaidIs (length (spots ++ more)) one
laid_more spots more (laid.Cover cover model place) h = (within_more spots more cover.ins h.0, omega (arith, h.1, length-append spots more))
laid_more spots more (laid.Latch latch) h = (omega (arith, h.0, length-append spots more), omega (arith, h.1, length-append spots more))

frame_more : (models : List NumberedModel) (spots more : List Spot) (f : Frame) → IsFrame models spots f → IsFrame models (spots ++ more) f
frame_more models spots more f h = record { model = h.model; many = h.many; within = within_more spots more f.table.items h.within }

layout_grown : (models : List NumberedModel) (counted : Counted) (rank : ℕ → ℕ) (levels : ℕ) (whole : List Placed) (spots more : List Spot) (placed : List Laid) (stack : List Frame)
    → IsLayout models counted rank levels whole spots placed stack → IsLayout models counted rank levels whole (spots ++ more) placed stack
layout_grown models counted rank levels whole spots more placed stack h = record {
  frames = All-weaker (IsFrame models spots) (IsFrame models (spots ++ more)) (λ f g. frame_more models spots more f g) stack h.frames;
  ranked = h.ranked;
  within = All-weaker (LaidIs (length spots)) (LaidIs (length (spots ++ more))) (λ one g. laid_more spots more one g) placed h.within;
  whole_is = h.whole_is ∙ (λ j. sym (all_placed_kept spots more placed h.within) j ++ sym (unfinished_kept models counted levels spots more stack h.frames) j);
}

-- one entry is passed

layout_passed : (models : List NumberedModel) (counted : Counted) (rank : ℕ → ℕ) (levels : ℕ) (whole : List Placed) (spots : List Spot) (placed news : List Laid) (fs : List Frame) (f : Frame) (copies : ℕ)
    → left_of models counted (levels - length fs) spots f ≡ map (placed_in spots) news ++ left_of models counted (levels - length fs) spots (onward f copies) → All (LaidIs (length spots)) news
    → IsLayout models counted rank levels whole spots placed (fs ++ f ∷ []) → IsLayout models counted rank levels whole spots (placed ++ news) (fs ++ onward f copies ∷ [])
layout_passed models counted rank levels whole spots placed news fs f copies e new h =
    let here = all_end (IsFrame models spots) fs f h.frames in
    let rest = unfinished models counted levels spots fs in
    let l = levels - length fs in
    let after = left_of models counted l spots (onward f copies) in
    record {
      frames = All-push (IsFrame models spots) fs (onward f copies) (all_front (IsFrame models spots) fs f h.frames) (record { model = here.model; many = here.many; within = here.within });
      ranked = ranked_push rank levels fs (onward f copies) (ranked_front rank levels fs f h.ranked) (ranked_end rank levels fs f h.ranked);
      within = All-append (LaidIs (length spots)) placed news h.within new;
      whole_is = h.whole_is
          ∙ ap (λ (xs : List Placed). map (placed_in spots) placed ++ xs) (unfinished_last models counted levels spots fs f ∙ ap (λ (xs : List Placed). xs ++ rest) e ∙ append_assoc (map (placed_in spots) news) after rest)
          ∙ sym (append_assoc (map (placed_in spots) placed) (map (placed_in spots) news) (after ++ rest))
          ∙ (λ j. sym (map-append (placed_in spots) placed news) j ++ sym (unfinished_last models counted levels spots fs (onward f copies)) j);
    }

-- what the first of some entries is laid out as

nothing : (models : List NumberedModel) (counted : Counted) (l : ℕ) (table : List Spot) (m copies place : ℕ) → laid_within models counted l table m copies place [] ≡ []
unfolding laid_within
nothing models counted zero table m copies place = refl
nothing models counted (suc l) table m copies place = refl

cover_first : (models : List NumberedModel) (counted : Counted) (l : ℕ) (table : List Spot) (m copies place : ℕ) (cover : NumberedCover) (others : List Entry)
    → laid_within models counted l table m copies place (entries.Cover cover ∷ others) ≡ cover_laid table m place cover ∷ laid_within models counted l table m copies (place + 1) others
unfolding laid_within
cover_first models counted zero table m copies place cover others = refl
cover_first models counted (suc l) table m copies place cover others = refl

latch_first : (models : List NumberedModel) (counted : Counted) (l : ℕ) (table : List Spot) (m copies place : ℕ) (latch : NumberedLatch) (others : List Entry)
    → laid_within models counted l table m copies place (entries.Latch latch ∷ others) ≡ latch_laid table latch ∷ laid_within models counted l table m copies (place + 1) others
unfolding laid_within
latch_first models counted zero table m copies place latch others = refl
latch_first models counted (suc l) table m copies place latch others = refl

-- the copy of an instance, through so many levels
abbrev copy_of : List NumberedModel → Counted → ℕ → List Spot → ℕ → NumberedInstance → List Placed
copy_of models counted l table number instance =
    laid_within models counted l (table_within table number instance.model instance.joins (model_at models instance.model).names) instance.model number 0 (model_at models instance.model).entries

instance_first : (models : List NumberedModel) (counted : Counted) (l : ℕ) (table : List Spot) (m copies place : ℕ) (instance : NumberedInstance) (others : List Entry)
    → laid_within models counted (suc l) table m copies place (entries.Instance instance ∷ others)
    ≡ unless_empty counted instance.model (copy_of models counted l table (copies + 1) instance) ++ laid_within models counted (suc l) table m (copies + 1 + copies_in counted instance.model) (place + 1) others
unfolding laid_within
instance_first models counted l table m copies place instance others = refl

pub next_entry : (es : List Entry) (i : ℕ) (e : Entry) → slice_get es i ≡ Some e → drop i es ≡ e ∷ drop (i + 1) es
next_entry [] i e h = cc
next_entry (x ∷ es) zero e h = let same : x ≡ e = cc in ap (λ y. y ∷ es) same
next_entry (x ∷ es) (suc i) e h = let there : suc i + 1 ≡ suc (i + 1) = omega arith in next_entry es i e h ∙ ap (λ n. e ∷ drop n (x ∷ es)) (sym there)

-- places of a table, as spots
same_spot : (spots : List Spot) (table : List ℕ) (n : ℕ) → n < length table → spot_at (spots_of spots table) n ≡ spot_at spots (get_or table n 0)
same_spot spots table n lt = get_or-map (spot_at spots) table n 0 no_spot lt

same_spots : (spots : List Spot) (table ns : List ℕ) → All (λ n. n < length table) ns → map (spot_at (spots_of spots table)) ns ≡ map (spot_at spots) (map (λ n. get_or table n 0) ns)
same_spots spots table [] h = refl
same_spots spots table (n ∷ ns) h = λ j. same_spot spots table n (All-head (λ k. k < length table) n ns h) j ∷ same_spots spots table ns (All-tail (λ k. k < length table) n ns h) j

one_at_least : (inside : NumberedInstance → ℕ) (e : Entry) → 1 ≤ entry_steps inside e
one_at_least inside (entries.Cover cover) = omega arith
one_at_least inside (entries.Latch latch) = omega arith
one_at_least inside (entries.Instance instance) = omega arith

number_within : (count : ℕ) (table : List ℕ) → All (λ n. n < count) table → (ns : List ℕ) → All (λ n. n < length table) ns → All (λ n. n < count) (map (λ n. get_or table n 0) ns)
number_within count table h ns k = All-map (λ n. n < count) (λ n. get_or table n 0) ns (λ i d lt. h (get_or ns i d) 0 (k i d lt))

steps_more : (models : List NumberedModel) (l : ℕ) (e : Entry) (es : List Entry) → steps_within models l es + 1 ≤ steps_within models l (e ∷ es)
unfolding steps_within
steps_more models zero e es = omega (arith, sum_by-cons (entry_steps (λ instance. 0)) e es, one_at_least (λ instance. 0) e)
steps_more models (suc l) e es =
    let inside : NumberedInstance → ℕ = λ instance. steps_within models l (model_at models instance.model).entries + 1 in
    omega (arith, sum_by-cons (entry_steps inside) e es, one_at_least inside e)

steps_instance : (models : List NumberedModel) (l : ℕ) (instance : NumberedInstance) (es : List Entry) → steps_within models (suc l) (entries.Instance instance ∷ es) ≡ steps_within models l (model_at models instance.model).entries + 2 + steps_within models (suc l) es
unfolding steps_within
steps_instance models l instance es =
    let inside : NumberedInstance → ℕ = λ one. steps_within models l (model_at models one.model).entries + 1 in
    omega (arith, sum_by-cons (entry_steps inside) (entries.Instance instance) es)

-- a cover and a latch are laid out, and an empty copy is passed

steps_passed : (models : List NumberedModel) (levels : ℕ) (fs : List Frame) (f : Frame) (copies : ℕ) (e : Entry) → entries_left models f ≡ e ∷ entries_left models (onward f copies)
    → steps_left models levels (fs ++ onward f copies ∷ []) < steps_left models levels (fs ++ f ∷ [])
steps_passed models levels fs f copies e h =
    omega (
      arith,
      steps_last models levels fs f,
      steps_last models levels fs (onward f copies),
      ap (steps_within models (levels - length fs)) h,
      steps_more models (levels - length fs) e (entries_left models (onward f copies)),
    )

pub steps_done : (models : List NumberedModel) (levels : ℕ) (fs : List Frame) (f : Frame) → steps_left models levels fs < steps_left models levels (fs ++ f ∷ [])
steps_done models levels fs f = omega (arith, steps_last models levels fs f)

module _ (models : List NumberedModel) (counted : Counted) (rank : ℕ → ℕ) (levels : ℕ) (whole : List Placed) (spots : List Spot) (placed : List Laid) (fs : List Frame) (f : Frame) where
  pub layout_cover : (cover : NumberedCover) → slice_get (model_at models f.model).entries f.next ≡ Some (entries.Cover cover) → All (λ n. n < length f.table.items) cover.ins → cover.name < length f.table.items
      → IsLayout models counted rank levels whole spots placed (fs ++ f ∷ [])
      → IsLayout models counted rank levels whole spots (placed ++ laid.Cover (numbered_cover f.table.items cover) f.model f.next ∷ []) (fs ++ onward f f.copies ∷ []) × (steps_left models levels (fs ++ onward f f.copies ∷ []) < steps_left models levels (fs ++ f ∷ []))
  layout_cover cover at ins name h =
      let table = f.table.items in
      let here = all_end (IsFrame models spots) fs f h.frames in
      let left = next_entry (model_at models f.model).entries f.next (entries.Cover cover) at in
      let l = levels - length fs in
      let new = laid.Cover (numbered_cover table cover) f.model f.next in
      let same : cover_laid (spots_of spots table) f.model f.next cover ≡ placed_in spots new = λ j. covered (record { line = cover.line; ins = same_spots spots table cover.ins ins j; name = same_spot spots table cover.name name j; model = f.model; place = f.next }) in (
        layout_passed models counted rank levels whole spots placed (new ∷ []) fs f f.copies
            (ap (laid_within models counted l (spots_of spots table) f.model f.copies f.next) left ∙ cover_first models counted l (spots_of spots table) f.model f.copies f.next cover (drop (f.next + 1) (model_at models f.model).entries)
            ∙ ap (λ (one : Placed). one ∷ left_of models counted l spots (onward f f.copies)) same)
            (All-cons (LaidIs (length spots)) new [] (number_within (length spots) table here.within cover.ins ins, here.within cover.name 0 name) (All-nil (LaidIs (length spots)))) h,
        steps_passed models levels fs f f.copies (entries.Cover cover) left,
      )

  pub layout_latch : (latch : NumberedLatch) → slice_get (model_at models f.model).entries f.next ≡ Some (entries.Latch latch) → latch.input < length f.table.items → latch.output < length f.table.items
      → IsLayout models counted rank levels whole spots placed (fs ++ f ∷ [])
      → IsLayout models counted rank levels whole spots (placed ++ laid.Latch (numbered_latch f.table.items latch) ∷ []) (fs ++ onward f f.copies ∷ []) × (steps_left models levels (fs ++ onward f f.copies ∷ []) < steps_left models levels (fs ++ f ∷ []))
  layout_latch latch at input output h =
      let table = f.table.items in
      let here = all_end (IsFrame models spots) fs f h.frames in
      let left = next_entry (model_at models f.model).entries f.next (entries.Latch latch) at in
      let l = levels - length fs in
      let new = laid.Latch (numbered_latch table latch) in
      let same : latch_laid (spots_of spots table) latch ≡ placed_in spots new = λ j. latched (record { line = latch.line; input = same_spot spots table latch.input input j; output = same_spot spots table latch.output output j }) in (
        layout_passed models counted rank levels whole spots placed (new ∷ []) fs f f.copies
            (ap (laid_within models counted l (spots_of spots table) f.model f.copies f.next) left ∙ latch_first models counted l (spots_of spots table) f.model f.copies f.next latch (drop (f.next + 1) (model_at models f.model).entries)
            ∙ ap (λ (one : Placed). one ∷ left_of models counted l spots (onward f f.copies)) same)
            (All-cons (LaidIs (length spots)) new [] (here.within latch.input 0 input, here.within latch.output 0 output) (All-nil (LaidIs (length spots)))) h,
        steps_passed models levels fs f f.copies (entries.Latch latch) left,
      )

-- a frame without entries is left
pub layout_left : (models : List NumberedModel) (counted : Counted) (rank : ℕ → ℕ) (levels : ℕ) (whole : List Placed) (spots : List Spot) (placed : List Laid) (fs : List Frame) (f : Frame)
    → entries_left models f ≡ [] → IsLayout models counted rank levels whole spots placed (fs ++ f ∷ []) → IsLayout models counted rank levels whole spots placed fs
layout_left models counted rank levels whole spots placed fs f none h = record {
  frames = all_front (IsFrame models spots) fs f h.frames;
  ranked = ranked_front rank levels fs f h.ranked;
  within = h.within;
  whole_is = h.whole_is ∙ ap (λ (xs : List Placed). map (placed_in spots) placed ++ xs) (unfinished_last models counted levels spots fs f
      ∙ ap (λ (xs : List Placed). xs ++ unfinished models counted levels spots fs) (ap (λ (es : List Entry). laid_within models counted (levels - length fs) (spots_of spots f.table.items) f.model f.copies f.next es) none
      ∙ nothing models counted (levels - length fs) (spots_of spots f.table.items) f.model f.copies f.next));
}

-- a copy is passed that has no signals, or opened

module _ (models : List NumberedModel) (counted : Counted) (rank : ℕ → ℕ) (levels : ℕ) (whole : List Placed) (spots : List Spot) (placed : List Laid) (fs : List Frame) (f : Frame) (instance : NumberedInstance) (ranks : IsRanked models rank)
    (at : slice_get (model_at models f.model).entries f.next ≡ Some (entries.Instance instance)) (h : IsLayout models counted rank levels whole spots placed (fs ++ f ∷ [])) where
  abbrev copies_after : ℕ
  copies_after = f.copies + 1 + copies_in counted instance.model

  abbrev lower : ℕ
  lower = levels - length (fs ++ onward f copies_after ∷ [])

  higher : levels - length fs ≡ suc lower
  higher = let same : length (fs ++ onward f copies_after ∷ []) ≡ length fs + 1 = length_push fs (onward f copies_after) in omega (arith, same, ranks f.model f.next instance at, ranked_end rank levels fs f h.ranked)

  left : entries_left models f ≡ entries.Instance instance ∷ entries_left models (onward f copies_after)
  left = next_entry (model_at models f.model).entries f.next (entries.Instance instance) at

  abbrev after : List Placed
  after = left_of models counted (levels - length fs) spots (onward f copies_after)

  split : left_of models counted (levels - length fs) spots f ≡ unless_empty counted instance.model (copy_of models counted lower (spots_of spots f.table.items) (f.copies + 1) instance) ++ after
  split =
      ap (laid_within models counted (levels - length fs) (spots_of spots f.table.items) f.model f.copies f.next) left
      ∙ ap (λ l. laid_within models counted l (spots_of spots f.table.items) f.model f.copies f.next (entries.Instance instance ∷ entries_left models (onward f copies_after))) higher
      ∙ instance_first models counted lower (spots_of spots f.table.items) f.model f.copies f.next instance (entries_left models (onward f copies_after))
      ∙ ap (λ l. unless_empty counted instance.model (copy_of models counted lower (spots_of spots f.table.items) (f.copies + 1) instance) ++ left_of models counted l spots (onward f copies_after)) (sym higher)

  pub layout_skip : (get_or counted.signals instance.model 0 == 0) ≡ true
      → IsLayout models counted rank levels whole spots placed (fs ++ onward f (f.copies + 1 + copies_in counted instance.model) ∷ [])
      × (steps_left models levels (fs ++ onward f (f.copies + 1 + copies_in counted instance.model) ∷ []) < steps_left models levels (fs ++ f ∷ []))
  layout_skip none = (
    subst (λ (xs : List Laid). IsLayout models counted rank levels whole spots xs (fs ++ onward f copies_after ∷ [])) (append-nil placed)
        (layout_passed models counted rank levels whole spots placed [] fs f copies_after (split ∙ ap (λ b. (if b then [] else copy_of models counted lower (spots_of spots f.table.items) (f.copies + 1) instance) ++ after) none) (All-nil (LaidIs (length spots))) h),
    steps_passed models levels fs f copies_after (entries.Instance instance) left,
  )

  opened : (table : Vec ℕ Global) → instance.model < length models → length table.items ≡ (model_at models instance.model).names → All (λ n. n < length spots) table.items
      → spots_of spots table.items ≡ table_within (spots_of spots f.table.items) (f.copies + 1) instance.model instance.joins (model_at models instance.model).names → (get_or counted.signals instance.model 0 == 0) ≡ false
      → IsLayout models counted rank levels whole spots placed ((fs ++ onward f (f.copies + 1 + copies_in counted instance.model) ∷ []) ++ record { model = instance.model; next = 0; copies = f.copies + 1; table = table } ∷ [])
      × (steps_left models levels ((fs ++ onward f (f.copies + 1 + copies_in counted instance.model) ∷ []) ++ record { model = instance.model; next = 0; copies = f.copies + 1; table = table } ∷ []) < steps_left models levels (fs ++ f ∷ []))
  opened table within many all_within same some =
      let here = all_end (IsFrame models spots) fs f h.frames in
      let f' : Frame = onward f copies_after in
      let g : Frame = record { model = instance.model; next = 0; copies = f.copies + 1; table = table } in
      let rest = unfinished models counted levels spots fs in
      let inner = left_of models counted lower spots g in
      let copied : unless_empty counted instance.model (copy_of models counted lower (spots_of spots f.table.items) (f.copies + 1) instance) ≡ inner =
      ap (λ b. if b then [] else copy_of models counted lower (spots_of spots f.table.items) (f.copies + 1) instance) some
      ∙ ap (λ (xs : List Spot). laid_within models counted lower xs instance.model (f.copies + 1) 0 (model_at models instance.model).entries) (sym same) in
      let inside = (model_at models instance.model).entries in
      let steps : steps_within models (levels - length fs) (entries_left models f) ≡ steps_within models lower inside + 2 + steps_within models (levels - length fs) (entries_left models f') =
      ap (steps_within models (levels - length fs)) left
      ∙ ap (λ l. steps_within models l (entries.Instance instance ∷ entries_left models f')) higher
      ∙ steps_instance models lower instance (entries_left models f')
      ∙ ap (λ l. steps_within models lower inside + 2 + steps_within models l (entries_left models f')) (sym higher) in (
        record {
          frames = All-push (IsFrame models spots) (fs ++ f' ∷ []) g (All-push (IsFrame models spots) fs f' (all_front (IsFrame models spots) fs f h.frames) (record { model = here.model; many = here.many; within = here.within }))
              (record { model = within; many = many; within = all_within });
          ranked = ranked_push rank levels (fs ++ f' ∷ []) g (ranked_push rank levels fs f' (ranked_front rank levels fs f h.ranked) (ranked_end rank levels fs f h.ranked))
              (let low : rank instance.model ≤ lower = omega (arith, higher, ranks f.model f.next instance at, ranked_end rank levels fs f h.ranked) in low);
          within = h.within;
          whole_is = h.whole_is
              ∙ ap (λ (xs : List Placed). map (placed_in spots) placed ++ xs) (unfinished_last models counted levels spots fs f
              ∙ ap (λ (xs : List Placed). xs ++ rest) (split ∙ ap (λ (xs : List Placed). xs ++ after) copied)
              ∙ append_assoc inner after rest
              ∙ ap (λ (xs : List Placed). inner ++ xs) (sym (unfinished_last models counted levels spots fs f'))
              ∙ sym (unfinished_last models counted levels spots (fs ++ f' ∷ []) g));
        },
        omega (arith, steps, steps_last models levels fs f, steps_last models levels fs f', steps_last models levels (fs ++ f' ∷ []) g),
      )

module _ (models : List NumberedModel) (counted : Counted) (rank : ℕ → ℕ) (levels : ℕ) (whole : List Placed) (spots : List Spot) (placed : List Laid) (fs : List Frame) (f : Frame) (instance : NumberedInstance) (ranks : IsRanked models rank)
    (at : slice_get (model_at models f.model).entries f.next ≡ Some (entries.Instance instance)) (h : IsLayout models counted rank levels whole spots placed (fs ++ f ∷ [])) where
  pub layout_open : (new : List Spot) (table : Vec ℕ Global) → (get_or counted.signals instance.model 0 == 0) ≡ false → instance.model < length models
      → IsTable spots f.table.items (f.copies + 1) instance.model instance.joins (model_at models instance.model).names new table.items
      → IsLayout models counted rank levels whole new placed ((fs ++ onward f (f.copies + 1 + copies_in counted instance.model) ∷ []) ++ record { model = instance.model; next = 0; copies = f.copies + 1; table = table } ∷ [])
      × (steps_left models levels ((fs ++ onward f (f.copies + 1 + copies_in counted instance.model) ∷ []) ++ record { model = instance.model; next = 0; copies = f.copies + 1; table = table } ∷ []) < steps_left models levels (fs ++ f ∷ []))
  layout_open new table some within t =
      let here = all_end (IsFrame models spots) fs f h.frames in
      let grown : IsLayout models counted rank levels whole new placed (fs ++ f ∷ []) = subst (λ (xs : List Spot). IsLayout models counted rank levels whole xs placed (fs ++ f ∷ [])) (sym t.grown) (layout_grown models counted rank levels whole spots t.more placed (fs ++ f ∷ []) h) in
      opened models counted rank levels whole new placed fs f instance ranks at grown table within t.many t.within
      (t.spots ∙ ap (λ (xs : List Spot). table_within xs (f.copies + 1) instance.model instance.joins (model_at models instance.model).names) (sym (ap (λ (xs : List Spot). spots_of xs f.table.items) t.grown ∙ spots_kept spots t.more f.table.items here.within)))
      some
