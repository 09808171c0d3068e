use Rattle.std.proofs.Common.{◌+◌, ◌≡◌, None, sym, subst, arith, ◌∙◌, ap}
use Rattle.std.proofs.lemmas.Grind.{common_steps}
use Rattle.node_slots.specs.contracts.plain_store.PlainStore.{the_view}
use Rattle.node_slots.proofs.Remaining.{count_written, held_store, used_within}
use Rattle.node_slots.proofs.Holding.{recounted_holds}
use Rattle.node_slots.specs.Stores.{Plain, count_at, slots}
use Rattle.handle_count.specs.CountWords.{count_of}
use Rattle.node_slots.proofs.plain_store.PlainStore.lower.Goals as goal

pub invariant_of-self : goal.invariant_of-self
invariant_of-self c =
    let p = the_view c.self.inside in
    let used = subst (λ (q : Plain). slots q c.args.slot ≡ None → ⊥) (sym c.self.view_is) c.requires.used in
    held_store p c.self.invariant c.write.new.self p.marks p.pins p.sweeping
    (recounted_holds p c.self.invariant.holds c.args.slot c.lower.result (used_within p c.args.slot used) used
    (let f = c.self.invariant.holds.few c.args.slot in let e = c.lower.ensures.count ∙ ap count_of c.word-word.ensures in omega (arith, f, e))
    c.write.new.self c.write.ensures)

pub write-requires : goal.write-requires
write-requires c =
    let p = the_view c.self.inside in
    let used = subst (λ (q : Plain). slots q c.args.slot ≡ None → ⊥) (sym c.self.view_is) c.requires.used in
    omega (arith, used_within p c.args.slot used, c.self.invariant.holds.counted)

pub returns-clause-count : goal.returns-clause-count
returns-clause-count c =
    let p = the_view c.self.inside in
    let slot = c.args.slot in
    let used = subst (λ (q : Plain). slots q slot ≡ None → ⊥) (sym c.self.view_is) c.requires.used in
    ap (λ w. count_of w + 1) (count_written p.counts c.write.new.self slot c.lower.result (omega (arith, used_within p slot used, c.self.invariant.holds.counted)) c.write.ensures)
    ∙ c.lower.ensures.count ∙ ap count_of c.word-word.ensures ∙ ap (λ q. count_at q slot) c.self.view_is

pub returns-clause-generation : goal.returns-clause-generation
returns-clause-generation c = grind (arith, common_steps)

pub returns-clause-rest : goal.returns-clause-rest
returns-clause-rest c = grind (arith, common_steps)
