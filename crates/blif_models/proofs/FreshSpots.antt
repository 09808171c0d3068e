-- Spots that are added are new.
use Rattle.std.proofs.Common.{◌≡◌, ℕ, zero, suc, ◌+◌, ◌<◌, ◌≤◌, ◌⊎◌, ⊎_elim, inl, inr, List, [], ◌∷◌, ◌++◌, Some, drop, length, refl, ap, sym, ◌∙◌, subst, arith}
use Rattle.std.specs.Prelude.{slice_get}
use Rattle.std.proofs.lemmas.List.{length-map, length_push, map-append}
use Rattle.std.proofs.lemmas.Option.{slice_get_within}
use Rattle.blif_models.specs.declared.layout.Frame.{Frame}
use Rattle.blif_models.specs.declared.numbered.NumberedModel.{NumberedModel}
use Rattle.blif_models.specs.declared.numbered.Spot.{Spot}
use Rattle.blif_models.specs.Layouts.{AreOwn, main_table, model_at, spot, up_to}
use Rattle.blif_models.specs.SpotsApart.{copies_over}
use Rattle.blif_models.specs.Unfinished.{AreFresh, HaveRoom, entries_left, onward, top_copies}

-- what stands at a place of a longer list
pub last_or_before : {X : Type 0} (xs : List X) (x : X) (i : ℕ) (y : X) → slice_get (xs ++ x ∷ []) i ≡ Some y → (slice_get xs i ≡ Some y) ⊎ ((i ≡ length xs) × (x ≡ y))
last_or_before [] x zero y e = inr (refl, cc)
last_or_before [] x (suc i) y e = cc
last_or_before (k ∷ xs) x zero y e = inl e
last_or_before (k ∷ xs) x (suc i) y e = ⊎_elim (λ before. inl before) (λ last. inr (ap suc last.0, last.1)) (last_or_before xs x i y e)

one_or_other : {X : Type 0} (xs ys : List X) (i : ℕ) (y : X) → slice_get (xs ++ ys) i ≡ Some y → (slice_get xs i ≡ Some y) ⊎ ((k : ℕ) × (i ≡ length xs + k) × (slice_get ys k ≡ Some y))
one_or_other [] ys i y e = inr (i, omega arith, e)
one_or_other (x ∷ xs) ys zero y e = inl e
one_or_other (x ∷ xs) ys (suc i) y e = ⊎_elim (λ before. inl before) (λ later. inr (later.0, omega (arith, later.1), later.2)) (one_or_other xs ys i y e)

-- the spots of one copy

pub none_own : (copy model names : ℕ) → AreOwn copy model names []
none_own copy model names = record { each = λ i one at. cc; once = λ i j one other at there e. cc }

pub own_wider : (copy model names : ℕ) (spots : List Spot) → AreOwn copy model names spots → AreOwn copy model (names + 1) spots
own_wider copy model names spots a = record { each = λ i one at. let is = a.each i one at in (is.0, is.1, omega (arith, is.2)); once = a.once }

pub own_more : (copy model name : ℕ) (spots : List Spot) → AreOwn copy model name spots → AreOwn copy model (name + 1) (spots ++ spot copy model name ∷ [])
own_more copy model name spots a = record {
  each = λ i one at.
      ⊎_elim (λ before. let is = a.each i one before in (is.0, is.1, omega (arith, is.2)))
      (λ last. (sym (ap (λ (s : Spot). s.copy) last.1), sym (ap (λ (s : Spot). s.model) last.1), omega (arith, ap (λ (s : Spot). s.name) last.1))) (last_or_before spots (spot copy model name) i one at);
  once = λ i j one other at there e.
      ⊎_elim
      (λ before.
      ⊎_elim (λ also. a.once i j one other before also e) (λ last. let is = a.each i one before in absurd (omega (arith, is.2, e, ap (λ (s : Spot). s.name) last.1))) (last_or_before spots (spot copy model name) j other there))
      (λ last.
      ⊎_elim (λ before. let is = a.each j other before in absurd (omega (arith, is.2, e, ap (λ (s : Spot). s.name) last.1))) (λ also. last.0 ∙ sym also.0) (last_or_before spots (spot copy model name) j other there))
      (last_or_before spots (spot copy model name) i one at);
}

-- the last of some frames

top_last : (most : ℕ) (fs : List Frame) (f : Frame) → top_copies most (fs ++ f ∷ []) ≡ f.copies
top_last most [] f = refl
top_last most (g ∷ fs) f = top_last g.copies fs f

module _ (models : List NumberedModel) (copies : List ℕ) where
  room_front : (most : ℕ) (fs : List Frame) (f : Frame) → HaveRoom models copies most (fs ++ f ∷ []) → HaveRoom models copies most fs
  room_front most [] f h = tt
  room_front most (g ∷ fs) f h = (h.0, room_front g.copies fs f h.1)

  room_end : (most : ℕ) (fs : List Frame) (f : Frame) → HaveRoom models copies most (fs ++ f ∷ []) → f.copies + copies_over copies (entries_left models f) ≤ top_copies most fs
  room_end most [] f h = h.0
  room_end most (g ∷ fs) f h = room_end g.copies fs f h.1

  room_push : (most : ℕ) (fs : List Frame) (f : Frame) → HaveRoom models copies most fs → f.copies + copies_over copies (entries_left models f) ≤ top_copies most fs → HaveRoom models copies most (fs ++ f ∷ [])
  room_push most [] f h le = (le, tt)
  room_push most (g ∷ fs) f h le = (h.0, room_push g.copies fs f h.1 le)

  module _ (most : ℕ) (spots : List Spot) (fs : List Frame) (f : Frame) (old : AreFresh models copies most spots (fs ++ f ∷ [])) where
    pub under : (i : ℕ) (one : Spot) → slice_get spots i ≡ Some one → one.copy ≤ f.copies
    under i one at = omega (arith, old.low i one at, top_last most fs f)

    -- the frame goes on behind its next entry
    pub fresh_onward : (behind : ℕ) → f.copies ≤ behind → behind + copies_over copies (entries_left models (onward f behind)) ≤ f.copies + copies_over copies (entries_left models f) → AreFresh models copies most spots (fs ++ onward f behind ∷ [])
    fresh_onward behind le room = record {
      one_spot = old.one_spot;
      named = old.named;
      low = λ i one at. omega (arith, under i one at, le, top_last most fs (onward f behind));
      room = room_push most fs (onward f behind) (room_front most fs f old.room) (omega (arith, room, room_end most fs f old.room));
    }

    -- the frame is left
    pub fresh_left : AreFresh models copies most spots fs
    fresh_left = record {
      one_spot = old.one_spot;
      named = old.named;
      low = λ i one at. omega (arith, under i one at, room_end most fs f old.room);
      room = room_front most fs f old.room;
    }

  -- a copy is entered, of which some names get spots
  pub fresh_open : (most : ℕ) (spots more : List Spot) (fs : List Frame) (f child : Frame) (model names : ℕ) → model < length models → names ≡ (model_at models model).names → AreFresh models copies most spots (fs ++ f ∷ []) → ((i : ℕ) (one : Spot) → slice_get spots i ≡ Some one → one.copy < child.copies)
      → child.copies + copies_over copies (entries_left models child) ≤ f.copies → AreOwn child.copies model names more → AreFresh models copies most (spots ++ more) ((fs ++ f ∷ []) ++ child ∷ [])
  fresh_open most spots more fs f child model names there is_names old lower room own = record {
    named = λ i one at.
        ⊎_elim (λ before. old.named i one before)
        (λ later.
        let is = own.each later.0 one later.2 in
        (omega (arith, there, is.1), subst (λ n. one.name < n) (is_names ∙ ap (λ m. (model_at models m).names) (sym is.1)) is.2)) (one_or_other spots more i one at);
    one_spot = λ i j one other at there e.
        ⊎_elim
        (λ before.
        ⊎_elim (λ also. old.one_spot i j one other before also e) (λ later. let low = lower i one before in let is = own.each later.0 other later.2 in absurd (omega (arith, low, is.0, e))) (one_or_other spots more j other there))
        (λ later.
        ⊎_elim (λ before. let low = lower j other before in let is = own.each later.0 one later.2 in absurd (omega (arith, low, is.0, e)))
        (λ also.
        ((own.each later.0 one later.2).1 ∙ sym (own.each also.0 other also.2).1, λ same. let k = own.once later.0 also.0 one other later.2 also.2 same in later.1 ∙ ap (λ n. length spots + n) k ∙ sym also.1))
        (one_or_other spots more j other there)) (one_or_other spots more i one at);
    low = λ i one at.
        ⊎_elim (λ before. let low = lower i one before in omega (arith, low, top_last most (fs ++ f ∷ []) child)) (λ later. let is = own.each later.0 one later.2 in omega (arith, is.0, top_last most (fs ++ f ∷ []) child))
        (one_or_other spots more i one at);
    room = room_push most (fs ++ f ∷ []) child old.room (omega (arith, room, top_last most fs f));
  }

-- the main model's names

up_to_length : (n : ℕ) → length (up_to n) ≡ n
up_to_length zero = refl
up_to_length (suc n) = omega (arith, up_to_length n, length_push (up_to n) n)

main_spot : (main n i : ℕ) (one : Spot) → slice_get (main_table main n) i ≡ Some one → one ≡ spot 0 main i
main_spot main zero i one at = cc
main_spot main (suc n) i one at =
    ⊎_elim (λ before. main_spot main n i one before) (λ last. sym last.1 ∙ ap (spot 0 main) (sym (last.0 ∙ length-map (up_to n) (spot 0 main) ∙ up_to_length n)))
    (last_or_before (main_table main n) (spot 0 main n) i one (ap (λ (xs : List Spot). slice_get xs i) (sym (map-append (spot 0 main) (up_to n) (n ∷ []))) ∙ at))

pub fresh_main : (models : List NumberedModel) (copies : List ℕ) (main n : ℕ) (frame : Frame) → frame.model ≡ main → frame.next ≡ 0 → frame.copies ≡ 0 → main < length models → n ≡ (model_at models main).names
    → AreFresh models copies (copies_over copies (model_at models main).entries) (main_table main n) (frame ∷ [])
fresh_main models copies main n frame e f g lt is = record {
  named = λ i one at.
      let here = main_spot main n i one at in
      let within = slice_get_within (main_table main n) i one at in (
        omega (arith, lt, ap (λ (s : Spot). s.model) here),
        subst (λ k. one.name < k) (is ∙ ap (λ m. (model_at models m).names) (sym (ap (λ (s : Spot). s.model) here)))
            (omega (arith, within, ap (λ (s : Spot). s.name) here, length-map (up_to n) (spot 0 main), up_to_length n)),
      );
  one_spot = λ i j one other at there same.
      let here = main_spot main n i one at in
      let also = main_spot main n j other there in
      (ap (λ (s : Spot). s.model) here ∙ sym (ap (λ (s : Spot). s.model) also), λ alike. sym (ap (λ (s : Spot). s.name) here) ∙ alike ∙ ap (λ (s : Spot). s.name) also);
  low = λ i one at. omega (arith, ap (λ (s : Spot). s.copy) (main_spot main n i one at));
  room = (omega (arith, g, ap (copies_over copies) (λ j. drop (f j) (model_at models (e j)).entries)), tt);
}
