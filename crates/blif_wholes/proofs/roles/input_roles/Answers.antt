use Rattle.std.proofs.Common.{◌≡◌, ℕ, ◌<◌, List, get_or, length, take, ap, sym, ◌∙◌, subst, arith}
use Rattle.std.proofs.lemmas.List.{length-set, take_all, take_more}
use Rattle.std.proofs.lemmas.Option.{slice_get-get_or}
use Rattle.std.specs.Prelude.{Some, slice_get, slice_set}
use Rattle.blif_wholes.specs.declared.roles.Role.TheVariants as roles
use Rattle.blif_wholes.specs.Roles.{IsRoleIn, role_at}
use Rattle.blif_wholes.proofs.RoleSteps.{next_role}
use Rattle.blif_wholes.proofs.roles.input_roles.Goals as goal

pub loop-input-preserved : goal.loop-input-preserved
loop-input-preserved c =
    let ins = c.args.inputs.now in
    let i = c.loop-input.input in
    let all = c.loop-input.roles.items in
    let inside : i < length ins = c.loop-input-test.true in
    let spot = get_or ins i 0 in
    let role = roles.Input c.in_ok-number_of.field-0 in
    let at : slice_get ins c.in_ok-number_of.field-0 ≡ Some spot = ap (slice_get ins) c.in_ok-number_of.ensures ∙ slice_get-get_or ins i 0 inside in
    let below : spot < length all = let b = c.requires i 0 inside in omega (arith, b, c.loop-input.invariant.many) in
    record {
      many = length-set all spot role ∙ c.loop-input.invariant.many;
      roles = λ covers n.
          subst (λ (told : List ℕ). IsRoleIn ins covers told n (role_at (slice_set all spot role) n)) (sym (take_more ins i 0 inside))
          (next_role ins covers (take i ins) all spot role below at (c.loop-input.invariant.roles covers) n);
    }

pub returns-clause-roles : goal.returns-clause-roles
returns-clause-roles c = λ covers n.
    subst (λ (told : List ℕ). IsRoleIn c.args.inputs.now covers told n (role_at c.loop-input.roles.items n)) (take_all c.loop-input.input c.args.inputs.now c.loop-input-test.false)
    (c.loop-input.invariant.roles covers n)
