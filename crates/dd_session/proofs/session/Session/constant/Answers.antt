use Rattle.std.proofs.Common.{rules, subst, sym, ℤ, SFits, w64}
use Rattle.std.proofs.lemmas.Int.{to_z-of_z}
use Rattle.function_laws.specs.declared.making.Making.TheVariants as makings
use Rattle.function_laws.specs.declared.making.AddMaking.TheVariants as adds
use Rattle.dd_session.specs.MadeRows.{MakesRow, MayMake}
use Rattle.dd_session.proofs.session.Session.constant.Goals as goal

pub make_row-requires-clause-may : goal.make_row-requires-clause-may
make_row-requires-clause-may g c =
    let fit : SFits w64 c.args.value = search rules in subst (λ (z : ℤ). MayMake c.args.self.now c.args.manager.now (makings.Add (adds.Constant z))) (sym (to_z-of_z w64 c.args.value fit)) c.requires

pub returns : goal.returns
returns g c =
    let fit : SFits w64 c.args.value = search rules in subst (λ (z : ℤ). MakesRow c.args.self.now c.make_row.new.self (makings.Add (adds.Constant z)) c.make_row.result) (to_z-of_z w64 c.args.value fit) c.make_row.ensures
