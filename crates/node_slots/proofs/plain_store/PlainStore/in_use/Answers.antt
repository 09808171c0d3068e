use Rattle.std.proofs.Common.{◌≡◌, Some, ◌∙◌, ap, sym, subst}
use Rattle.std.specs.List.{count_by}
use Rattle.function_laws.specs.Kinds.{Denoted}
use Rattle.node_slots.specs.Stores.{Plain, IsUnknown, is_word, plain_view}
use Rattle.node_slots.specs.contracts.plain_store.PlainStore.{the_view}
use Rattle.node_store.specs.Contents.{is_used}
use Rattle.node_slots.proofs.Counting.{count_full}
use Rattle.node_slots.proofs.Looking.{count_words}
use Rattle.node_slots.proofs.plain_store.PlainStore.in_use.Goals as goal

pub returns-clause-full : goal.returns-clause-full
returns-clause-full c = λ f due.
    c.in_use.ensures.count ∙ ap (λ (p : Plain). count_by is_word p.words) c.self.view_is
    ∙ count_full (the_view c.self.inside) c.args.self.now c.self.view_is c.self.invariant f due

pub returns-clause-missing : goal.returns-clause-missing
returns-clause-missing c = subst (λ p. (f : Denoted) → (plain_view p).due ≡ Some f → IsUnknown p f) c.self.view_is c.self.invariant.missing

pub returns-clause-of_holder : goal.returns-clause-of_holder
returns-clause-of_holder c =
    c.in_use.ensures.count ∙ ap (λ (p : Plain). count_by is_word p.words) c.self.view_is ∙ sym (count_words c.args.self.now is_used)
