use Rattle.std.proofs.Common.{rules, subst, sym, ℤ, SFits, w64}
use Rattle.std.proofs.lemmas.Int.{to_z-of_z}
use Rattle.function_laws.specs.declared.making.Making.TheVariants as makings
use Rattle.function_laws.specs.declared.making.BddMaking.TheVariants as bdds
use Rattle.dd_session.specs.MadeRows.{MakesRow, MayMake}
use Rattle.dd_session.proofs.session.Session.at_least.Goals as goal

pub make_row-requires-clause-may : goal.make_row-requires-clause-may
make_row-requires-clause-may g c =
    let fit : SFits w64 c.args.value = search rules in subst (λ (z : ℤ). MayMake c.args.self.now c.args.manager.now (makings.Bdd (bdds.AtLeast c.args.f z))) (sym (to_z-of_z w64 c.args.value fit)) c.requires

pub returns : goal.returns
returns g c =
    let fit : SFits w64 c.args.value = search rules in subst (λ (z : ℤ). MakesRow c.args.self.now c.make_row.new.self (makings.Bdd (bdds.AtLeast c.args.f z)) c.make_row.result) (to_z-of_z w64 c.args.value fit) c.make_row.ensures
