use Rattle.std.proofs.Common.{subst, sym, ◌∙◌, ap}
use Rattle.std.specs.Prelude.{◌&&◌, not}
use Rattle.edge_bits.specs.declared.edges.Kind.TheVariants.{Zdd}
use Rattle.function_laws.specs.Kinds.{place}
use Rattle.node_store.specs.Views.{Denotes, family_at}
use Rattle.node_store.specs.ViewLaws.{Denotes-empty}
use Rattle.zdd_ops.proofs.Terminals.{and_not_base, and_not_empty, is_base, is_empty}
use Rattle.zdd_ops.proofs.sets.remaining_leaves.Goals as goal

pub returns-then-index-eq-EMPTY_SLOT : goal.returns-then-index-eq-EMPTY_SLOT
returns-then-index-eq-EMPTY_SLOT c = λ w p d l.
    let h = is_empty w c.args.g l.1.0 l.1.1.leaf (sym c.index.ensures ∙ c.if-index-eq-EMPTY_SLOT.true) in
    subst (Denotes Zdd w c.args.f) (sym (ap (λ q. place (λ a b. a && not b) (family_at w c.args.f) q) h ∙ and_not_empty (family_at w c.args.f))) d.first

pub returns-else-index-eq-EMPTY_SLOT : goal.returns-else-index-eq-EMPTY_SLOT
returns-else-index-eq-EMPTY_SLOT c = λ w p d l.
    let h = is_base w c.args.g l.1.0 l.1.1.leaf (λ is. c.if-index-eq-EMPTY_SLOT.false (c.index.ensures ∙ is)) in
    rw c.empty_family.ensures (subst (Denotes Zdd w _) (sym (ap (λ q. place (λ a b. a && not b) (family_at w c.args.f) q) h.1 ∙ and_not_base w c.args.f l.0.0 l.0.1.leaf)) (Denotes-empty w p))
