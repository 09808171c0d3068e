use Rattle.std.proofs.Common.{◌≡◌, ap, length, sym, subst}
use Rattle.edge_bits.specs.Words.{unpack_of}
use Rattle.edge_bits.specs.Reading.{slots_of, DenotesBdd, DenotesAdd, DenotesZdd}
use Rattle.edge_bits.specs.declared.edges.Kind.TheVariants.{Bdd, Add, Zdd}
use Rattle.node_store.specs.Views.{Denotes}
use Rattle.node_slots.specs.Stores.{plain_view}
use Rattle.node_slots.specs.contracts.plain_store.PlainStore.{the_view}
use Rattle.node_slots.proofs.Denoting.{bdd_denotes, add_denotes, zdd_denotes}
use Rattle.node_slots.proofs.plain_store.PlainStore.words.Goals as goal
use Rattle.node_slots.proofs.plain_store.PlainStore.words.Goals.{After-words}

-- the slots of what is answered are those of the store
same : (c : After-words) → slots_of c.self.inside.nodes ≡ slots_of c.words.result.now
same c = λ i s. sym (ap unpack_of (c.words.ensures.words s)) i

pub returns-clause-bdd : goal.returns-clause-bdd
returns-clause-bdd c = λ e f d.
    subst (λ slots. DenotesBdd (length c.args.self.now.variable_levels) slots e f) (same c)
    (subst (λ p. Denotes Bdd (plain_view p) e f → DenotesBdd (length p.variable_levels) (slots_of c.self.inside.nodes) e f) c.self.view_is (bdd_denotes (the_view c.self.inside) c.self.invariant e f) d)

pub returns-clause-add : goal.returns-clause-add
returns-clause-add c = λ e f d.
    subst (λ slots. DenotesAdd (length c.args.self.now.variable_levels) slots e f) (same c)
    (subst (λ p. Denotes Add (plain_view p) e f → DenotesAdd (length p.variable_levels) (slots_of c.self.inside.nodes) e f) c.self.view_is (add_denotes (the_view c.self.inside) c.self.invariant e f) d)

pub returns-clause-zdd : goal.returns-clause-zdd
returns-clause-zdd c = λ e f d.
    subst (λ slots. DenotesZdd (length c.args.self.now.element_levels) slots e f) (same c)
    (subst (λ p. Denotes Zdd (plain_view p) e f → DenotesZdd (length p.element_levels) (slots_of c.self.inside.nodes) e f) c.self.view_is (zdd_denotes (the_view c.self.inside) c.self.invariant e f) d)
