use Rattle.std.proofs.Common.{subst, sym, ◌∙◌, ap}
use Rattle.edge_bits.specs.declared.edges.Kind.TheVariants.{Zdd}
use Rattle.node_store.specs.Views.{Denotes}
use Rattle.std.specs.Prelude.{◌||◌}
use Rattle.function_laws.specs.Kinds.{place}
use Rattle.node_store.specs.Views.{family_at}
use Rattle.zdd_ops.proofs.Terminals.{base_or, is_base, is_empty}
use Rattle.zdd_ops.proofs.sets.united_leaves.Goals as goal

pub returns-then-index-eq-EMPTY_SLOT : goal.returns-then-index-eq-EMPTY_SLOT
returns-then-index-eq-EMPTY_SLOT c = λ w p d l.
    subst (Denotes Zdd w c.args.g) (sym (ap (λ h. place (λ a b. a || b) h (family_at w c.args.g)) (is_empty w c.args.f l.0.0 l.0.1.leaf (sym c.index.ensures ∙ c.if-index-eq-EMPTY_SLOT.true)))) d.second

pub returns-else-index-eq-EMPTY_SLOT : goal.returns-else-index-eq-EMPTY_SLOT
returns-else-index-eq-EMPTY_SLOT c = λ w p d l.
    let f = is_base w c.args.f l.0.0 l.0.1.leaf (λ is. c.if-index-eq-EMPTY_SLOT.false (c.index.ensures ∙ is)) in
    subst (Denotes Zdd w c.args.f) (f.1 ∙ sym (ap (λ h. place (λ a b. a || b) h (family_at w c.args.g)) f.1 ∙ base_or w c.args.g l.1.0 l.1.1.leaf)) d.first
