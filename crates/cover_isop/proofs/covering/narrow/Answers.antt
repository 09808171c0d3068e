use Rattle.std.proofs.Common.{refl, arith, ◌%◌, ◌/◌, ◌==◌}
use Rattle.std.proofs.lemmas.Bool.{lt-ltb}
use Rattle.edge_bits.specs.declared.edges.Kind.TheVariants.{Bdd}
use Rattle.node_store.specs.ViewLaws.{Is-from, Is-grown}
use Rattle.ite_core.proofs.CofactorLaws.{literal_from}
use Rattle.cover_isop.proofs.CoverSteps.{Narrow-calls}
use Rattle.cover_isop.proofs.covering.narrow.Goals as goal

pub and-requires-clause-operands : goal.and-requires-clause-operands
and-requires-clause-operands g c =
    let p = c.projection-projection.ensures in record {
      first = Is-grown Bdd p.kept.grown c.requires.operand;
      second = Is-from Bdd (literal_from _ (c.args.element / 2) (c.args.element % 2 == 0) _ _ _ p.projection.denotes refl c.flip_if-literal.ensures);
    }

pub returns-clause-runs : goal.returns-clause-runs
returns-clause-runs g c =
    let p = c.projection-projection.ensures in
    Narrow-calls c.args.vars c.args.element _ _ _ c.args.f c.flip_if-literal.result _ (lt-ltb _ _ (let some = c.if-var-vars.false in omega (arith, some))) p.kept c.requires.operand
    (literal_from _ (c.args.element / 2) (c.args.element % 2 == 0) _ _ _ p.projection.denotes refl c.flip_if-literal.ensures) c.and.ensures.runs
