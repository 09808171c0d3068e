-- What a step of a layout leaves.
use Rattle.std.proofs.Common.{Vec, Global, ◌≡◌, ℕ, zero, suc, None, refl, drop, take, map, ◌≤◌, ◌+◌, ◌==◌, ◌<◌, true, false, List, [], ◌∷◌, ◌++◌, Some, length, get_or, ap, sym, ◌∙◌, subst, append-nil, arith}
use Rattle.std.proofs.lemmas.Bool.Decides.{nat_tests}
use Rattle.std.specs.Prelude.{All, nat_lt, slice_get}
use Rattle.blif_models.specs.declared.layout.Frame.{Frame}
use Rattle.blif_models.specs.declared.layout.Layout.{Layout}
use Rattle.blif_models.specs.declared.numbered.NumberedCover.{NumberedCover}
use Rattle.blif_models.specs.declared.numbered.NumberedLatch.{NumberedLatch}
use Rattle.blif_models.specs.declared.numbered.NumberedInstance.{NumberedInstance}
use Rattle.blif_models.specs.declared.numbered.NumberedJoin.{NumberedJoin}
use Rattle.blif_models.specs.declared.numbered.NumberedModel.{NumberedModel}
use Rattle.blif_models.specs.declared.numbered.Entry.TheVariants as entries
use Rattle.blif_models.specs.declared.numbered.Laid.{Laid}
use Rattle.blif_models.specs.declared.numbered.Laid.TheVariants as laid
use Rattle.blif_models.specs.declared.numbered.Spot.{Spot}
use Rattle.std.proofs.lemmas.List.{get_or_read, length_push, length-map, map-append, take_all, take_more}
use Rattle.std.proofs.lemmas.List.Elements.{All-cons, All-nil, All-push}
use Rattle.std.proofs.lemmas.Option.{get_or_from_slice_get, slice_get_within}
use Rattle.blif_models.specs.declared.numbered.Entry.{Entry}
use Rattle.blif_models.specs.Layouts.{AreNumbered, Counted, EntryIs, IsTable, Placed, copies_in, laid_whole, laid_within, main_table, model_at, no_model, no_spot, numbered_cover, numbered_latch, placed_in, spot, spot_at, spots_of, up_to}
use Rattle.blif_models.specs.Unfinished.{AreFresh, GoesOn, IsFrame, IsLayout, IsNext, IsStart, LaidIs, entries_left, onward, steps_left, unfinished}
use Rattle.blif_models.specs.SpotsApart.{copies_over}
use Rattle.blif_models.proofs.FreshSpots.{fresh_left, fresh_onward, fresh_open, under}
use Rattle.blif_models.proofs.LayoutSteps.{all_end, layout_cover, layout_latch, layout_left, layout_open, layout_skip, next_entry, steps_done}

pub number_is : (n : ℕ) → n ≡ 0 → (n == 0) ≡ true
number_is n e = grind (arith, nat_tests)

pub number_is_not : (n : ℕ) → (n ≡ 0 → ⊥) → (n == 0) ≡ false
number_is_not n e = grind (arith, nat_tests)

layout_moved : (models : List NumberedModel) (counted : Counted) (rank : ℕ → ℕ) (levels : ℕ) (whole : List Placed) (n : ℕ) (spots spots' : List Spot) (placed placed' : List Laid) (stack stack' : List Frame)
    → spots' ≡ spots → placed' ≡ placed → stack' ≡ stack
    → IsLayout models counted rank levels whole spots placed stack × (steps_left models levels stack < n) → IsLayout models counted rank levels whole spots' placed' stack' × (steps_left models levels stack' < n)
layout_moved models counted rank levels whole n spots spots' placed placed' stack stack' e f g h =
    subst (λ (xs : List Frame). IsLayout models counted rank levels whole spots' placed' xs × (steps_left models levels xs < n)) (sym g)
    (subst (λ (xs : List Laid). IsLayout models counted rank levels whole spots' xs stack × (steps_left models levels stack < n)) (sym f)
    (subst (λ (xs : List Spot). IsLayout models counted rank levels whole xs placed stack × (steps_left models levels stack < n)) (sym e) h))

fresh_moved : (models : List NumberedModel) (copies : List ℕ) (most : ℕ) (spots spots' : List Spot) (stack stack' : List Frame) → spots' ≡ spots → stack' ≡ stack → AreFresh models copies most spots stack → AreFresh models copies most spots' stack'
fresh_moved models copies most spots spots' stack stack' e f h = subst (λ (xs : List Spot). AreFresh models copies most xs stack') (sym e) (subst (AreFresh models copies most spots) (sym f) h)

module _ (models : List NumberedModel) (counted : Counted) (old new : Layout) (frame : Frame) where
  next_copies : (entry : Entry) → IsNext models frame entry → copies_over counted.copies (entries_left models frame) ≡ copies_over counted.copies (entry ∷ drop (frame.next + 1) (model_at models frame.model).entries)
  next_copies entry at = ap (copies_over counted.copies) (next_entry (model_at models frame.model).entries frame.next entry at)

  pub goes_skip : (instance : NumberedInstance) (behind : ℕ) → IsNext models frame (entries.Instance instance) → (get_or counted.signals instance.model 0 == 0) ≡ true → behind ≡ frame.copies + 1 + copies_in counted instance.model
      → new.spots.items ≡ old.spots.items → new.laid.items ≡ old.laid.items → new.stack.items ≡ old.stack.items ++ onward frame behind ∷ [] → GoesOn models counted old frame new
  goes_skip instance behind at none is e f g = record {
    spots = ([], e ∙ sym (append-nil old.spots.items));
    layout = λ rank levels whole ranks h.
        layout_moved models counted rank levels whole (steps_left models levels (old.stack.items ++ frame ∷ [])) old.spots.items new.spots.items old.laid.items new.laid.items
        (old.stack.items ++ onward frame (frame.copies + 1 + copies_in counted instance.model) ∷ []) new.stack.items e f (g ∙ ap (λ n. old.stack.items ++ onward frame n ∷ []) is)
        (layout_skip models counted rank levels whole old.spots.items old.laid.items old.stack.items frame instance ranks at h none);
    fresh = λ most enough h.
        let next = next_copies (entries.Instance instance) at in
        fresh_moved models counted.copies most old.spots.items new.spots.items (old.stack.items ++ onward frame behind ∷ []) new.stack.items e g
        (fresh_onward models counted.copies most old.spots.items old.stack.items frame h behind (omega (arith, is)) (omega (arith, is, next)));
  }

  pub goes_open : (instance : NumberedInstance) (behind copy : ℕ) (table : Vec ℕ Global) → IsNext models frame (entries.Instance instance) → (get_or counted.signals instance.model 0 == 0) ≡ false → instance.model < length models
      → behind ≡ frame.copies + 1 + copies_in counted instance.model → copy ≡ frame.copies + 1
      → IsTable old.spots.items frame.table.items copy instance.model instance.joins (model_at models instance.model).names new.spots.items table.items → new.laid.items ≡ old.laid.items
      → new.stack.items ≡ (old.stack.items ++ onward frame behind ∷ []) ++ record { model = instance.model; next = 0; copies = copy; table = table } ∷ [] → GoesOn models counted old frame new
  goes_open instance behind copy table at some within is copy_is t f g = record {
    spots = (t.more, t.grown);
    layout = λ rank levels whole ranks h.
        layout_moved models counted rank levels whole (steps_left models levels (old.stack.items ++ frame ∷ [])) new.spots.items new.spots.items old.laid.items new.laid.items
        ((old.stack.items ++ onward frame (frame.copies + 1 + copies_in counted instance.model) ∷ []) ++ record { model = instance.model; next = 0; copies = frame.copies + 1; table = table } ∷ []) new.stack.items (λ j. new.spots.items) f
        (g ∙ (λ j. (old.stack.items ++ onward frame (is j) ∷ []) ++ record { model = instance.model; next = 0; copies = copy_is j; table = table } ∷ []))
        (layout_open models counted rank levels whole old.spots.items old.laid.items old.stack.items frame instance ranks at h new.spots.items table some within
        (subst (λ n. IsTable old.spots.items frame.table.items n instance.model instance.joins (model_at models instance.model).names new.spots.items table.items) copy_is t));
    fresh = λ most enough h.
        let next = next_copies (entries.Instance instance) at in
        let child : Frame = record { model = instance.model; next = 0; copies = copy; table = table } in
        let mid = fresh_onward models counted.copies most old.spots.items old.stack.items frame h behind (omega (arith, is)) (omega (arith, is, next)) in
        fresh_moved models counted.copies most (old.spots.items ++ t.more) new.spots.items ((old.stack.items ++ onward frame behind ∷ []) ++ child ∷ []) new.stack.items t.grown g
        (fresh_open models counted.copies most old.spots.items t.more old.stack.items (onward frame behind) child instance.model (model_at models instance.model).names within refl mid
        (λ i one there. let low = under models counted.copies most old.spots.items old.stack.items frame h i one there in omega (arith, low, copy_is)) (omega (arith, enough instance.model, is, copy_is)) t.own);
  }

  pub goes_cover : (cover : NumberedCover) → IsNext models frame (entries.Cover cover) → All (λ n. n < length frame.table.items) cover.ins → cover.name < length frame.table.items
      → new.spots.items ≡ old.spots.items → new.laid.items ≡ old.laid.items ++ laid.Cover (numbered_cover frame.table.items cover) frame.model frame.next ∷ [] → new.stack.items ≡ old.stack.items ++ onward frame frame.copies ∷ [] → GoesOn models counted old frame new
  goes_cover cover at ins name e f g = record {
    spots = ([], e ∙ sym (append-nil old.spots.items));
    layout = λ rank levels whole ranks h.
        layout_moved models counted rank levels whole (steps_left models levels (old.stack.items ++ frame ∷ [])) old.spots.items new.spots.items (old.laid.items ++ laid.Cover (numbered_cover frame.table.items cover) frame.model frame.next ∷ []) new.laid.items
        (old.stack.items ++ onward frame frame.copies ∷ []) new.stack.items e f g (layout_cover models counted rank levels whole old.spots.items old.laid.items old.stack.items frame cover at ins name h);
    fresh = λ most enough h.
        let next = next_copies (entries.Cover cover) at in
        fresh_moved models counted.copies most old.spots.items new.spots.items (old.stack.items ++ onward frame frame.copies ∷ []) new.stack.items e g
        (fresh_onward models counted.copies most old.spots.items old.stack.items frame h frame.copies (omega arith) (omega (arith, next)));
  }

  pub goes_latch : (latch : NumberedLatch) → IsNext models frame (entries.Latch latch) → latch.input < length frame.table.items → latch.output < length frame.table.items
      → new.spots.items ≡ old.spots.items → new.laid.items ≡ old.laid.items ++ laid.Latch (numbered_latch frame.table.items latch) ∷ [] → new.stack.items ≡ old.stack.items ++ onward frame frame.copies ∷ [] → GoesOn models counted old frame new
  goes_latch latch at input output e f g = record {
    spots = ([], e ∙ sym (append-nil old.spots.items));
    layout = λ rank levels whole ranks h.
        layout_moved models counted rank levels whole (steps_left models levels (old.stack.items ++ frame ∷ [])) old.spots.items new.spots.items (old.laid.items ++ laid.Latch (numbered_latch frame.table.items latch) ∷ []) new.laid.items
        (old.stack.items ++ onward frame frame.copies ∷ []) new.stack.items e f g (layout_latch models counted rank levels whole old.spots.items old.laid.items old.stack.items frame latch at input output h);
    fresh = λ most enough h.
        let next = next_copies (entries.Latch latch) at in
        fresh_moved models counted.copies most old.spots.items new.spots.items (old.stack.items ++ onward frame frame.copies ∷ []) new.stack.items e g
        (fresh_onward models counted.copies most old.spots.items old.stack.items frame h frame.copies (omega arith) (omega (arith, next)));
  }

  pub goes_back : entries_left models frame ≡ [] → new.spots.items ≡ old.spots.items → new.laid.items ≡ old.laid.items → new.stack.items ≡ old.stack.items → GoesOn models counted old frame new
  goes_back none e f g = record {
    spots = ([], e ∙ sym (append-nil old.spots.items));
    layout = λ rank levels whole ranks h.
        layout_moved models counted rank levels whole (steps_left models levels (old.stack.items ++ frame ∷ [])) old.spots.items new.spots.items old.laid.items new.laid.items old.stack.items new.stack.items e f g
        (layout_left models counted rank levels whole old.spots.items old.laid.items old.stack.items frame none h, steps_done models levels old.stack.items frame);
    fresh = λ most enough h. fresh_moved models counted.copies most old.spots.items new.spots.items old.stack.items new.stack.items e g (fresh_left models counted.copies most old.spots.items old.stack.items frame h);
  }

pub table_moved : (old : List Spot) (outer outer' : List ℕ) (copy model : ℕ) (joins joins' : List NumberedJoin) (names names' : ℕ) (new new' : List Spot) (table : List ℕ) → outer ≡ outer' → joins ≡ joins' → names ≡ names' → new ≡ new'
    → IsTable old outer copy model joins names new table → IsTable old outer' copy model joins' names' new' table
table_moved old outer outer' copy model joins joins' names names' new new' table e f g h t =
    subst (λ (xs : List ℕ). IsTable old xs copy model joins' names' new' table) e
    (subst (λ (xs : List NumberedJoin). IsTable old outer copy model xs names' new' table) f
    (subst (λ n. IsTable old outer copy model joins n new' table) g
    (subst (λ (xs : List Spot). IsTable old outer copy model joins names xs table) h t)))

-- what stands next

pub entries_at : (models : List NumberedModel) (m : ℕ) (read : NumberedModel) → m < length models → read ≡ get_or models m read → (get_or models m read).entries ≡ (model_at models m).entries
entries_at models m read lt is = ap (λ (one : NumberedModel). one.entries) (sym is ∙ get_or_read models m read lt is no_model)

pub names_at : (models : List NumberedModel) (m : ℕ) (read : NumberedModel) → m < length models → read ≡ get_or models m read → (get_or models m read).names ≡ (model_at models m).names
names_at models m read lt is = ap (λ (one : NumberedModel). one.names) (sym is ∙ get_or_read models m read lt is no_model)

pub nothing_next : (es : List Entry) (i : ℕ) → slice_get es i ≡ None → drop i es ≡ []
nothing_next [] zero e = refl
nothing_next [] (suc i) e = refl
nothing_next (x ∷ es) zero e = cc
nothing_next (x ∷ es) (suc i) e = nothing_next es i e

got : (es : List Entry) (i : ℕ) (d : Entry) → i < length es → slice_get es i ≡ Some (get_or es i d)
got [] i d lt = absurd (omega (arith, lt))
got (x ∷ es) zero d lt = refl
got (x ∷ es) (suc i) d lt = got es i d (omega (arith, lt))

got_none : (es : List Entry) (i : ℕ) → length es ≤ i → slice_get es i ≡ None
got_none [] i le = refl
got_none (x ∷ es) zero le = absurd (omega (arith, le))
got_none (x ∷ es) (suc i) le = got_none es i (omega (arith, le))

pub at_next : (es es' : List Entry) (i : ℕ) (read e : Entry) → true ≡ nat_lt i (length es) → read ≡ get_or es i read → es ≡ es' → read ≡ e → slice_get es' i ≡ Some e
at_next es es' i read e within is same known =
    let lt : i < length es = grind (arith, nat_tests) in
    ap (λ (xs : List Entry). slice_get xs i) (sym same) ∙ got es i read lt ∙ ap Some (sym is ∙ known)

pub past_next : (es es' : List Entry) (i : ℕ) → false ≡ nat_lt i (length es) → es ≡ es' → slice_get es' i ≡ None
past_next es es' i past same =
    let le : length es ≤ i = grind (arith, nat_tests) in
    ap (λ (xs : List Entry). slice_get xs i) (sym same) ∙ got_none es i le

pub entry_is : (models : List NumberedModel) (m place : ℕ) (entry : Entry) → AreNumbered models → m < length models → slice_get (model_at models m).entries place ≡ Some entry → EntryIs models (model_at models m).names entry
entry_is models m place entry numbered lt at =
    subst (EntryIs models (model_at models m).names) (get_or_from_slice_get (model_at models m).entries place entry entry at) (numbered m no_model lt place entry (slice_get_within (model_at models m).entries place entry at))

-- a layout begins with the main model's frame

pub up_to_many : (n : ℕ) → length (up_to n) ≡ n
up_to_many zero = refl
up_to_many (suc n) = let more : length (up_to n) + 1 ≡ suc n = omega (arith, up_to_many n) in length_push (up_to n) n ∙ more

up_to_within : (count n : ℕ) → n ≤ count → All (λ k. k < count) (up_to n)
up_to_within count zero le = All-nil (λ k. k < count)
up_to_within count (suc n) le = All-push (λ k. k < count) (up_to n) n (up_to_within count n (omega (arith, le))) (omega (arith, le))

spots_in_order : (spots : List Spot) (n : ℕ) → n ≤ length spots → spots_of spots (up_to n) ≡ take n spots
spots_in_order spots zero le = refl
spots_in_order spots (suc n) le =
    let on : n + 1 ≡ suc n = omega arith in
    map-append (spot_at spots) (up_to n) (n ∷ [])
    ∙ ap (λ (xs : List Spot). xs ++ spot_at spots n ∷ []) (spots_in_order spots n (omega (arith, le)))
    ∙ sym (take_more spots n no_spot (omega (arith, le)))
    ∙ ap (λ k. take k spots) on

main_table_many : (main n : ℕ) → length (main_table main n) ≡ n
main_table_many main n = length-map (up_to n) (spot 0 main) ∙ up_to_many n

pub layout_starts : (models : List NumberedModel) (counted : Counted) (rank : ℕ → ℕ) (levels main : ℕ) (spots : List Spot) (placed : List Laid) (stack : List Frame) → main < length models → rank main ≤ levels
    → spots ≡ main_table main (model_at models main).names → placed ≡ [] → IsStart main (model_at models main).names stack → IsLayout models counted rank levels (laid_whole models counted levels main) spots placed stack
layout_starts models counted rank levels main spots placed stack lt le is none start =
    let n = (model_at models main).names in
    let frame = start.0 in
    let model : frame.model ≡ main = start.2 in
    let table : frame.table.items ≡ up_to n = start.5 in
    let many : length spots ≡ n = ap (λ (xs : List Spot). length xs) is ∙ main_table_many main n in
    let within : n ≤ length spots = omega (arith, many) in
    let all : spots_of spots (up_to n) ≡ main_table main n = spots_in_order spots n within ∙ take_all n spots (omega (arith, many)) ∙ is in
    let is_frame : IsFrame models spots frame = record {
      model = omega (arith, model, lt);
      many = ap (λ (ns : List ℕ). length ns) table ∙ up_to_many n ∙ ap (λ m. (model_at models m).names) (sym model);
      within = subst (λ (ns : List ℕ). All (λ k. k < length spots) ns) (sym table) (up_to_within (length spots) n within);
    } in
    let ranked : rank frame.model ≤ levels = subst (λ m. rank m ≤ levels) (sym model) le in
    let alone : unfinished models counted levels spots (frame ∷ []) ≡ laid_whole models counted levels main =
    λ j. laid_within models counted levels ((ap (spots_of spots) table ∙ all) j) (model j) (start.4 j) (start.3 j) (drop (start.3 j) (model_at models (model j)).entries) in
    subst (λ (xs : List Frame). IsLayout models counted rank levels (laid_whole models counted levels main) spots placed xs) (sym start.1)
    (subst (λ (xs : List Laid). IsLayout models counted rank levels (laid_whole models counted levels main) spots xs (frame ∷ [])) (sym none)
    (record { frames = All-cons (IsFrame models spots) frame [] is_frame (All-nil (IsFrame models spots)); ranked = (ranked, tt); within = All-nil (LaidIs (length spots)); whole_is = sym alone }))

pub frame_of : (models : List NumberedModel) (counted : Counted) (rank : ℕ → ℕ) (levels : ℕ) (whole : List Placed) (spots : List Spot) (placed : List Laid) (stack fs : List Frame) (frame : Frame) → stack ≡ fs ++ frame ∷ []
    → IsLayout models counted rank levels whole spots placed stack → IsFrame models spots frame × IsLayout models counted rank levels whole spots placed (fs ++ frame ∷ [])
frame_of models counted rank levels whole spots placed stack fs frame e h =
    let here : IsLayout models counted rank levels whole spots placed (fs ++ frame ∷ []) = subst (λ (xs : List Frame). IsLayout models counted rank levels whole spots placed xs) e h in
    (all_end (IsFrame models spots) fs frame here.frames, here)

-- and ends where no frame is left
pub layout_ends : (models : List NumberedModel) (counted : Counted) (rank : ℕ → ℕ) (levels : ℕ) (whole : List Placed) (spots : List Spot) (placed : List Laid) (stack : List Frame) → stack ≡ []
    → IsLayout models counted rank levels whole spots placed stack → map (placed_in spots) placed ≡ whole
layout_ends models counted rank levels whole spots placed stack none h =
    sym (h.whole_is ∙ ap (λ (xs : List Frame). map (placed_in spots) placed ++ unfinished models counted levels spots xs) none ∙ append-nil (map (placed_in spots) placed))
