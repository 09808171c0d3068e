-- What steps of a table with one holder leave that only move something in hand.
use Rattle.std.proofs.Common.{◌≡◌, ℕ, zero, suc, ◌+◌, List, [], ◌∷◌, ap, sym, ◌∙◌, subst, arith}
use Rattle.step_store.specs.Knowing.{without_level}
use Rattle.hold_store.specs.Held.{down}
use Rattle.hold_store.proofs.Levels.{down_more, down_none, last_goes}
use Rattle.held_table.specs.declared.table.HeldTable.{HeldTable}
use Rattle.held_table.specs.Tables.{IsTable}

-- the words, and all that hangs on them, are as they were
pub moves : (t u : HeldTable) → IsTable t → u ≡ record t { turns = u.turns; has_free = u.has_free; has_memo = u.has_memo; answers = u.answers; walk = u.walk; due = u.due } → IsTable u
moves t u i same = subst IsTable (sym same) (record {
  sound = i.sound;
  words = record { as_many = i.words.as_many; as_many_nexts = i.words.as_many_nexts; as_many_counts = i.words.as_many_counts; as_many_pins = i.words.as_many_pins; some_heads = i.words.some_heads; few_heads = i.words.few_heads; fits = i.words.fits };
  free = record { list = i.free.list; first = i.free.first; below = i.free.below; beyond = i.free.beyond; room = i.free.room };
  chained = record { on = i.chained.on; chain = i.chained.chain; chains = i.chained.chains; on_used = i.chained.on_used; complete = i.chained.complete; loose = i.chained.loose; link = i.chained.link };
})

-- a turn more is in hand
pub one_more : (n level : ℕ) → n ≡ level → down (level + 1) ≡ level ∷ down n
one_more n level e = ap down (omega arith) ∙ down_more level ∙ ap (λ (x : ℕ). level ∷ down x) (sym e)

head_is : (a b : ℕ) (xs ys : List ℕ) → a ∷ xs ≡ b ∷ ys → a ≡ b
head_is a b xs ys e = cc

no_head : (b : ℕ) (ys : List ℕ) → [] ≡ b ∷ ys → ⊥
no_head b ys e = cc

-- the turn that was taken last is that of the level below
pub last_level : (n level : ℕ) (others : List ℕ) → down n ≡ level ∷ others → n ≡ suc level
last_level zero level others e = absurd (no_head level others (sym down_none ∙ e))
last_level (suc m) level others e = ap suc (head_is m level (down m) others (sym (down_more m) ∙ e))

-- a turn less is in hand
pub one_less : (n level : ℕ) (others : List ℕ) → down n ≡ level ∷ others → down level ≡ without_level level (down n)
one_less n level others e = sym (ap (λ (x : ℕ). without_level level (down x)) (last_level n level others e) ∙ last_goes level)
