use Rattle.std.proofs.Common.{◌≡◌, Option, Some, None, refl, ap, sym, ◌∙◌, arith}
use Rattle.std.proofs.lemmas.List.{get_or_past}
use Rattle.edge_bits.specs.Words.{unpack_of}
use Rattle.function_laws.specs.Kinds.{Denoted}
use Rattle.node_store.specs.Contents.{IsSound}
use Rattle.node_slots.specs.Stores.{Plain, plain_view, slots}
use Rattle.node_slots.specs.Wholes.{content_view}
use Rattle.shared_store.proofs.heap.HeapStore.used.Goals as goal

pub returns-then-used-limit-clause-beyond : goal.returns-then-used-limit-clause-beyond
returns-then-used-limit-clause-beyond c k from = (unknown ((plain_view c.args.self.now).content k) refl, sound.uncounted k none)
  where
    sound : IsSound (content_view c.args.self.now)
    sound = c.limit-limit.ensures.sound

    none : slots c.args.self.now k ≡ None
    none = ap (λ (p : Plain). slots p k) (sym c.get.ensures) ∙ sym (c.words-used.ensures.words k) ∙ ap unpack_of (get_or_past c.words-used.result.now k 0 (omega (arith, from)))

    unknown : (o : Option Denoted) → (plain_view c.args.self.now).content k ≡ o → (plain_view c.args.self.now).content k ≡ None
    unknown None is = is
    unknown (Some f) is = absurd (let u = sound.used k f is in let z : None ≡ Some u.0 = sym none ∙ u.1 in cc)
