-- A seat with the full hold becomes a holder of its table, with nothing in hand.
use Rattle.std.proofs.Common.{◌≡◌, ℕ, ◌<◌, List, [], ◌∷◌, true, false, Some, None, option_map, refl, ap, sym, ◌∙◌, subst}
use Rattle.std.specs.Prelude as std
use Rattle.atomic_table.specs.Table.{rest}
use Rattle.computed_cache.specs.Entries.{kept_at, places}
use Rattle.hold_store.specs.Held as held
use Rattle.hold_store.specs.declared.holding.HolderRoom.{HolderRoom}
use Rattle.step_store.specs.Chains.{Lists}
use Rattle.words_holder.specs.declared.holder.Due.{Due}
use Rattle.words_holder.specs.declared.holder.Lent.{Lent}
use Rattle.words_holder.specs.Holders.{HoldsTable, IsHolderAt, IsSpareRoom, dues_in, knows, pending_of, rest_of}
use Rattle.words_rule.specs.declared.seat.Guard.{Guard}
use Rattle.words_rule.specs.declared.seat.Pass.{Pass}
use Rattle.words_rule.specs.declared.view.Draws.{Draws}
use Rattle.words_rule.specs.declared.view.Hand.{Hand}
use Rattle.words_rule.specs.declared.view.Hold.TheVariants.{Holding}
use Rattle.words_rule.specs.declared.view.Share.TheVariants.{Nothing}
use Rattle.words_rule.specs.declared.view.View.{View}
use Rattle.words_rule.specs.declared.view.Walk.{Walk}
use Rattle.free_list.specs.FreeSlots.{FreeSlots}
use Rattle.words_rule.specs.Hands.{IsIdle}
use Rattle.words_rule.specs.Holds.{IsUnswapped}
use Rattle.words_rule.specs.Shapes.{shape_in}
use Rattle.words_rule.proofs.HandClauses.{none_back}
use Rattle.words_rule.specs.HolderPlays.{AreFreeSlots, HasLearnt, NotesCounted, NotesStay}
use Rattle.words_rule.specs.HeldContents.{held_content}
use Rattle.words_rule.specs.Known.{link_of, walk_of}
use Rattle.words_rule.specs.Passes.{view, in_hand, IsLiveOf, IsPassOf}
use Rattle.words_rule.proofs.HolderHands.{knows_handed}

-- nothing is given out
abbrev pub nothing_lent : Lent
nothing_lent = record { free = false; memo = false }

-- nothing in hand, as the holder's trait sees it
pub idle_told : (v : View) → v.hand.levels ≡ [] → v.hand.loose ≡ None → v.hand.link ≡ None → v.hand.walk ≡ None → (knows v None None nothing_lent).hand ≡ held.idle
idle_told v levels loose link walk = λ i. record { levels = levels i; free = None; loose = loose i; renewed = None; link = option_map link_of (link i); walk = option_map walk_of (walk i); pending = None; named = None }

-- with the computed table and the free list in hand
abbrev pub with_both : FreeSlots → View → View
with_both list v = record v { hand = record v.hand { memo = true; free = Some list.slots } }

module _ {S : Type 0} (g : Guard S) (p q : Pass S) (learnt : View) (list : FreeSlots) where
  abbrev Old : View
  Old = view p

  -- the full hold, once the store is learnt, and the computed table and the free list are taken
  pub first_on : (table : List ℕ) → IsLiveOf g p → Old.shares.order ≡ Holding → Old.shares.full ≡ Holding → (Old.shares.op ≡ Nothing) × (Old.shares.walk ≡ Nothing) → IsIdle Old.hand → Old.hand.levels ≡ [] → Old.known.pending ≡ [] → HasLearnt Old learnt
      → IsPassOf g q → view q ≡ with_both list learnt → in_hand q ≡ (1, None) ∷ (2, None) ∷ [] → (0 < places table) × ((j : ℕ) → kept_at table j ≡ None) → list.room ≡ learnt.draws.slots → AreFreeSlots (held_content learnt) list.slots → IsHolderAt g q list table None
  first_on table live order full alone idle levels_none pending l at is out blank roomy free = record {
    own = (at, ap (λ (v : View). v.draws.live) is ∙ ap (λ (d : Draws). d.live) l.draws ∙ live.1);
    has = subst (λ (v : View). HoldsTable v list table None) (sym is) (record {
      order = ap (λ x. x.order) l.shares ∙ order;
      full = ap (λ x. x.full) l.shares ∙ full;
      alone = (ap (λ x. x.op) l.shares ∙ alone.0, ap (λ x. x.walk) l.shares ∙ alone.1);
      knows_all = knows_handed learnt (with_both list learnt).hand l.knows;
      taken = ap (λ (h : Hand). h.taken) l.hand ∙ idle.0;
      memo_is = refl;
      blank = blank;
      list_is = refl;
      roomy = roomy;
      free_is = record { free = free.free; once = free.once; all = free.all };
      turn = λ n there. absurd (subst (λ (ls : List ℕ). Lists ls n) (ap (λ (h : Hand). h.levels) l.hand ∙ levels_none) there);
      loose = λ s its. absurd (no_slot s (sym (ap (λ (h : Hand). h.loose) l.hand ∙ idle.1) ∙ its));
      walk = λ n its. absurd (no_walk n (sym (ap (λ (h : Hand). h.walk) l.hand ∙ idle.2) ∙ its));
      pending = ap (λ k. k.pending) l.known ∙ pending;
      due_within = λ d its. absurd (no_due d its);
    });
    out = out;
  }
    where
      no_slot : (s : ℕ) → None ≡ Some s → ⊥
      no_slot s e = cc

      no_walk : (n : Walk) → None ≡ Some n → ⊥
      no_walk n e = cc

      no_due : (d : Due) → None ≡ Some d → ⊥
      no_due d e = cc

  pub first_rest : HasLearnt Old learnt → view q ≡ with_both list learnt → rest_of (view q) ≡ record (rest_of Old) { above = (view q).counts.above }
  first_rest l is = ap rest_of is ∙ rest_now ∙ ap (λ (v : View). record (rest_of Old) { above = v.counts.above }) (sym is)
    where
      rest_now : rest_of learnt ≡ record (rest_of Old) { above = learnt.counts.above }
      rest_now = λ i. record { draws = l.draws i; raised = (l.counts i).raised; owed = (l.counts i).owed; above = learnt.counts.above; generations = (l.counts i).generations; told_variables = (l.known i).told_variables; told_elements = (l.known i).told_elements }

  pub first_noted : HasLearnt Old learnt → view q ≡ with_both list learnt → NotesCounted (view q) × NotesStay Old (view q)
  first_noted l is = subst (λ (v : View). NotesCounted v × NotesStay Old v) (sym is) (l.above, l.stays)

  pub first_idle : IsIdle Old.hand → Old.hand.levels ≡ [] → Old.hand.link ≡ None → HasLearnt Old learnt → view q ≡ with_both list learnt → (knows (view q) None None nothing_lent).hand ≡ held.idle
  first_idle idle levels_none link l is = ap (λ (v : View). (knows v None None nothing_lent).hand) is
      ∙ idle_told (with_both list learnt) (ap (λ (h : Hand). h.levels) l.hand ∙ levels_none) (ap (λ (h : Hand). h.loose) l.hand ∙ idle.1) (ap (λ (h : Hand). h.link) l.hand ∙ link) (ap (λ (h : Hand). h.walk) l.hand ∙ idle.2)

-- a holder with nothing in hand is a seat with the full hold again
module _ {S : Type 0} (g : Guard S) (p q : Pass S) (list : FreeSlots) (table : List ℕ) (due : std.Option Due) (renewed : std.Option ℕ) (lent : Lent)
    (i : IsHolderAt g p list table due) (idle : (knows (view p) renewed due lent).hand ≡ held.idle) where
  pub last_hold : (view p).known.half ≡ None → IsPassOf g q → view q ≡ record (view p) { hand = record (view p).hand { memo = false; free = None } }
      → IsLiveOf g q × ((view q).shares.op ≡ Nothing) × ((view q).shares.walk ≡ Nothing) × IsIdle (view q).hand × IsUnswapped (view q)
  last_hold half at is = (
    (at, ap (λ (v : View). v.draws.live) is ∙ i.own.1),
    ap (λ (v : View). v.shares.op) is ∙ i.has.alone.0,
    ap (λ (v : View). v.shares.walk) is ∙ i.has.alone.1,
    (
      ap (λ (v : View). v.hand.taken) is ∙ i.has.taken,
      ap (λ (v : View). v.hand.loose) is ∙ ap (λ (h : held.Hand). h.loose) idle,
      ap (λ (v : View). v.hand.walk) is ∙ none_back walk_of (view p).hand.walk (ap (λ (h : held.Hand). h.walk) idle),
    ),
    record {
      half = ap (λ (v : View). v.known.half) is ∙ half;
      pending = ap (λ (v : View). v.known.pending) is ∙ i.has.pending ∙ ap (dues_in (shape_in (view p).draws)) (none_back pending_of due (ap (λ (h : held.Hand). h.pending) idle));
    },
  )

-- the room that came with a list
pub spare_room : (n m : ℕ) (room : HolderRoom) → m ≡ n → IsSpareRoom n room → IsSpareRoom m room
spare_room n m room is = subst (λ (k : ℕ). IsSpareRoom k room) (sym is)
