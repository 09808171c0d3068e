use Rattle.std.proofs.Common.{◌≡◌, ◌<◌, ℕ, ◌∙◌, ◌∷◌, None, Some, false, ap, sym, subst}
use Rattle.atomic_table.specs.Table.{rest}
use Rattle.computed_cache.specs.Entries.{kept_at, places}
use Rattle.words_holder.proofs.Firsts.{last_hold, spare_room}
use Rattle.words_rule.specs.declared.view.View.{View}
use Rattle.words_holder.proofs.holder.Holder.into_hold.Goals as goal

pub of_list-requires : goal.of_list-requires
of_list-requires g c = record { room = spare_room _ _ _ c.requires.own.has.roomy c.requires.room }

pub return_free-requires-clause-hand : goal.return_free-requires-clause-hand
return_free-requires-clause-hand g c = let out = c.requires.own.out in out ∙ ap (λ l. (1, None) ∷ l) (sym (ap rest out))

pub return_free-requires-clause-free : goal.return_free-requires-clause-free
return_free-requires-clause-free g c = c.requires.own.has.list_is ∙ ap (λ l. Some l.slots) (sym c.of_list.ensures.list)

pub return_free-requires-clause-roomy : goal.return_free-requires-clause-roomy
return_free-requires-clause-roomy g c = ap (λ l. l.room) c.of_list.ensures.list ∙ c.requires.own.has.roomy

pub return_memo-requires-clause-hand : goal.return_memo-requires-clause-hand
return_memo-requires-clause-hand g c = let out = c.return_free.ensures.own.1 ∙ ap rest c.requires.own.out in out ∙ ap (λ l. (2, None) ∷ l) (sym (ap rest out))

pub return_memo-requires-clause-has : goal.return_memo-requires-clause-has
return_memo-requires-clause-has g c = ap (λ (v : View). v.hand.memo) c.return_free.ensures.given ∙ c.requires.own.has.memo_is

pub return_memo-requires-clause-blank : goal.return_memo-requires-clause-blank
return_memo-requires-clause-blank g c = subst (λ m. (0 < places m) × ((j : ℕ) → kept_at m j ≡ None)) (sym c.of_memo.ensures.memo) c.requires.own.has.blank

pub returns-clause-own : goal.returns-clause-own
returns-clause-own g c = let s = c.args.self in last_hold s.guard.now s.pass c.return_memo.new.pass s.list s.memo s.due s.renewed s.lent c.requires.own c.requires.idle c.requires.settled c.return_memo.ensures.own.0 (c.return_memo.ensures.given ∙ ap (λ (v : View). record v { hand = record v.hand { memo = false } }) c.return_free.ensures.given)

pub returns-clause-left : goal.returns-clause-left
returns-clause-left g c = c.return_memo.ensures.given ∙ ap (λ (v : View). record v { hand = record v.hand { memo = false } }) c.return_free.ensures.given

pub returns-clause-empty : goal.returns-clause-empty
returns-clause-empty g c = c.return_memo.ensures.own.1 ∙ ap rest (c.return_free.ensures.own.1 ∙ ap rest c.requires.own.out)
