-- What is so of each seat with both holds.
use Rattle.std.proofs.Common.{◌≡◌, inl, inr, ℕ, zero, suc, ◌+◌, ◌*◌, ◌^◌, ◌<◌, ◌≤◌, cond, Bool, true, false, List, Some, None, ap, refl, sym, ◌∙◌, subst, arith, pow_pos, pow_mono}
use Rattle.std.specs.Prelude as std
use Rattle.std.specs.Prelude.{if◌then◌else◌}
use Rattle.std.proofs.lemmas.Bool.{cases_lt}
use Rattle.edge_bits.specs.Words.{unpack_of}
use Rattle.hold_store.specs.Held as held
use Rattle.hold_store.specs.Held.{Stands}
use Rattle.words_holder.specs.declared.holder.Due.{Due}
use Rattle.words_holder.specs.declared.holder.Holder.{Holder}
use Rattle.words_holder.specs.declared.holder.Lent.{Lent}
use Rattle.words_holder.specs.Holders.{HoldsTable, IsHolderAt, knows}
use Rattle.words_rule.specs.declared.view.View.{View}
use Rattle.free_list.specs.FreeSlots.{FreeSlots}
use Rattle.words_rule.specs.HeldContents.{KnowsAll, held_bits, held_content, or_zero}
use Rattle.words_rule.specs.Known.{noted_bits, word_in}
use Rattle.words_rule.specs.Layout.{head_bits}
use Rattle.words_rule.specs.Passes.{view}

-- a slot's word is what its bits are, and a slot of no word has none
reads_as : (o : std.Option ℕ) → word_in o ≡ unpack_of (or_zero o)
reads_as (Some bits) = refl
reads_as None = refl

bits_fit : (v : View) → KnowsAll v → (s : ℕ) → held_bits v s < 18446744073709551616
bits_fit v k s = elim (cases_lt s v.draws.slots) [
  | inl lt ↦ let n = k.noted s lt in subst (λ (x : ℕ). x < 18446744073709551616) (ap or_zero (sym n.1)) n.2
  | inr le ↦ subst (λ (x : ℕ). x < 18446744073709551616) (ap or_zero (sym (k.beyond s le))) (omega arith)
]

few_bits : (k slots : ℕ) → head_bits k slots ≤ 6 + k
unfolding head_bits
few_bits zero slots = omega arith
few_bits (suc k) slots = by (std.nat_lt (2 ^ head_bits k slots * 2) slots) (few_bits k slots)
  where
    by : (b : Bool) → head_bits k slots ≤ 6 + k → cond b (suc (head_bits k slots)) (head_bits k slots) ≤ 6 + suc k
    by true le = omega (arith, le)
    by false le = omega (arith, le)

lent_list : (b : Bool) (free : std.Option (List ℕ)) (xs l : List ℕ) → free ≡ Some xs → (if b then free else None) ≡ Some l → xs ≡ l
lent_list true free xs l is its = cc
lent_list false free xs l is its = cc

-- what is so of each holder
pub seat_stands : (v : View) (list : FreeSlots) (table : List ℕ) (due : std.Option Due) (renewed : std.Option ℕ) (lent : Lent) → HoldsTable v list table due → Stands (knows v renewed due lent)
seat_stands v list table due renewed lent i =
    let few = few_bits 18 v.draws.slots in record {
      sound = i.knows_all.sound;
      reads = λ s. reads_as (noted_bits v.known.words s);
      fits = bits_fit v i.knows_all;
      some_heads = pow_pos (head_bits 18 v.draws.slots);
      few_heads = (let p : 2 ^ head_bits 18 v.draws.slots ≤ 2 ^ 24 = (let le : head_bits 18 v.draws.slots ≤ 24 = omega (arith, few) in pow_mono le) in omega (arith, p));
      free_list = λ l is. (let f = i.free_is in subst (held.IsFreeList (held_content v)) (lent_list lent.free v.hand.free list.slots l i.list_is is) (record { free = f.free; once = f.once; all = f.all }));
    }

pub holder_stands : {S F : Type 0} (h : Holder S F) → IsHolderAt h.guard.now h.pass h.list h.memo h.due → Stands (knows (view h.pass) h.renewed h.due h.lent)
holder_stands h i = seat_stands (view h.pass) h.list h.memo h.due h.renewed h.lent i.has
