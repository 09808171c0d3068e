use Rattle.std.proofs.Common.{false, set, ◌≡◌, ◌≤◌, ◌+◌, suc, None, ◌∙◌, ap, sym, subst, arith}
use Rattle.std.proofs.lemmas.Grind.{common_steps}
use Rattle.std.proofs.lemmas.List.{length-set}
use Rattle.node_slots.specs.Counts.{IsUnnamed}
use Rattle.node_slots.specs.Stores.{Plain, slots, count_at, is_set, content_of, longest, plain_view}
use Rattle.node_slots.specs.contracts.plain_store.PlainStore.{the_view}
use Rattle.node_slots.proofs.Remaining.{IsStore-freed, content_gone, function_same, slot_other, used_within}
use Rattle.node_slots.proofs.Holding.{freed_holds}
use Rattle.handle_count.specs.CountWords.{count_of}
use Rattle.node_slots.proofs.plain_store.PlainStore.free.Goals as goal

pub invariant_of-self : goal.invariant_of-self
invariant_of-self c =
    let p = the_view c.self.inside in
    let slot = c.args.slot in
    let used = subst (λ (q : Plain). slots q slot ≡ None → ⊥) (sym c.self.view_is) c.requires.used in
    let high = subst (λ (q : Plain). 5 + (plain_view q).vars ≤ slot) (sym c.self.view_is) c.requires.not_permanent in
    let unnamed = subst (λ q. IsUnnamed q slot) (sym c.self.view_is) c.requires.not_named in
    let none = subst (λ (q : Plain). count_at q slot ≡ 0) (sym c.self.view_is) c.requires.not_held in
    let unpinned = subst (λ (q : Plain). is_set q.pins slot ≡ false) (sym c.self.view_is) c.requires.not_pinned in
    rw c.free.ensures
    (IsStore-freed p slot c.write.new.self c.forget.new.self (used_within p slot used) (omega (arith, high)) unnamed c.self.invariant high
    (freed_holds p c.self.invariant.holds slot c.next_generation.result (set p.words slot 0) c.write.new.self c.forget.new.self (used_within p slot used) (length-set p.words slot 0) c.write.ensures
    (c.next_generation.ensures.count ∙ ap count_of c.word-word.ensures) none unpinned
    (slot_other p slot c.write.new.self c.forget.new.self (used_within p slot used) (omega (arith, high)) unnamed)) c.forget.ensures.forgotten)

pub returns-clause-content : goal.returns-clause-content
returns-clause-content c =
    let p = the_view c.self.inside in
    let slot = c.args.slot in
    let used = subst (λ (q : Plain). slots q slot ≡ None → ⊥) (sym c.self.view_is) c.requires.used in
    let high = subst (λ (q : Plain). 5 + (plain_view q).vars ≤ slot) (sym c.self.view_is) c.requires.not_permanent in
    let unnamed = subst (λ q. IsUnnamed q slot) (sym c.self.view_is) c.requires.not_named in
    rw c.free.ensures
    (λ s ne. function_same p slot c.write.new.self c.forget.new.self (used_within p slot used) (omega (arith, high)) unnamed (suc (longest p)) s ne ∙ ap (λ q. content_of q s) c.self.view_is)

pub returns-clause-gone : goal.returns-clause-gone
returns-clause-gone c =
    let p = the_view c.self.inside in
    let slot = c.args.slot in
    let used = subst (λ (q : Plain). slots q slot ≡ None → ⊥) (sym c.self.view_is) c.requires.used in
    let high = subst (λ (q : Plain). 5 + (plain_view q).vars ≤ slot) (sym c.self.view_is) c.requires.not_permanent in
    let unnamed = subst (λ q. IsUnnamed q slot) (sym c.self.view_is) c.requires.not_named in
    rw c.free.ensures (content_gone p slot c.write.new.self c.forget.new.self (used_within p slot used) (omega (arith, high)) unnamed)

pub returns-clause-freed : goal.returns-clause-freed
returns-clause-freed c = grind (arith, common_steps)

pub write-requires : goal.write-requires
write-requires c = grind (arith, common_steps)
