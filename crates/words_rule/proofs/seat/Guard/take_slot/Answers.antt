use Rattle.std.proofs.Common.{rules, ◌≡◌, ◌∷◌, Some, ap, sym, ◌∙◌, arith, subst}
use Rattle.atomic_table.specs.Table.{rest}
use Rattle.words_rule.specs.declared.view.View.{View}
use Rattle.step_store.specs.Knowing.{IsWanted}
use Rattle.words_rule.specs.Known.{known_of}
use Rattle.words_rule.proofs.Calls.{call_take_slot, taken_from}
use Rattle.words_rule.proofs.Keeps.{keeps_number, keeps_sizes, keeps_words}
use Rattle.words_rule.proofs.seat.Guard.take_slot.Goals as goal

pub store-requires : goal.store-requires
store-requires g c = let now = c.exchange.ensures.3 in let view = ap (λ m. m.0) now in (
  search rules,
  (let w = c.args.pass.now.words_are in let s = ap (λ i. i.words) c.requires.own.0 in omega (arith, w, s)),
  call_take_slot g.S.Content.board g.S.Content.free_slots g.S.Content.memo _ _ c.exchange.new.seat.me g.E.Wants.own g.E.Wants.bits c.requires.free.0 (g.S.Content.free_slots c.args.content).slots c.args.content c.requires.wanted.0 (ap (λ v. v.draws.live) view ∙ c.requires.own.1) (ap (λ v. v.shares.op) view ∙ c.requires.share)
      (ap (λ m. m.1) now ∙ ap (λ l. (1, Some c.args.content) ∷ l) (sym (ap (λ m. rest m.1) now))) (ap (λ v. v.hand.free) view ∙ c.requires.free.1) (search rules) (c.requires.roomy ∙ ap (λ v. v.draws.slots) (sym view)) (ap (λ v. v.hand.taken) view ∙ c.requires.calm.0, ap (λ v. v.hand.loose) view ∙ c.requires.calm.1) c.requires.bits
      (subst (λ (v : View). IsWanted (known_of v g.E.Wants.own) g.E.Wants.bits c.requires.wanted.0) (sym view) c.requires.wanted.1),
)

pub invariant_of-pass : goal.invariant_of-pass
invariant_of-pass g c = let p = c.args.pass.now in let d : c.store.new.seat.me.0.draws ≡ p.seat.me.0.draws = let view = ap (λ m. m.0) c.exchange.ensures.3 in ap (λ m. m.0.draws) (c.store.ensures.2 c.requires.free.0 (g.S.Content.free_slots c.args.content).slots (ap (λ v. v.hand.free) view ∙ c.requires.free.1)).is ∙ ap (λ v. v.draws) view in record {
  number_is = keeps_number p.number p.seat.me.0.draws c.store.new.seat.me.0.draws d p.number_is;
  sizes_are = keeps_sizes p.sizes p.seat.me.0.draws c.store.new.seat.me.0.draws d p.sizes_are;
  heads_are = p.heads_are;
  words_are = keeps_words p.seat.table_id c.store.new.seat.table_id p.seat.me.0.draws c.store.new.seat.me.0.draws (c.store.ensures.0 ∙ c.exchange.ensures.0) d p.words_are;
}

pub returns-clause-taken : goal.returns-clause-taken
returns-clause-taken g c = λ slot list free. let now = c.exchange.ensures.3 in taken_from g.S.Content.board g.S.Content.free_slots g.S.Content.memo g.E.Wants.bits slot c.args.pass.now.seat.me c.exchange.new.seat.me c.store.new.seat.me (ap (λ m. m.0) now) (ap (λ m. rest m.1) now)
    (c.store.ensures.2 slot list (ap (λ m. m.0.hand.free) now ∙ free))
