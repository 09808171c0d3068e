use Rattle.std.proofs.Common.{◌≡◌, ℕ, ◌+◌, ◌<◌, ◌++◌, ◌∷◌, [], List, append-nil, append_assoc, get_or, length, map, take, ap, sym, ◌∙◌, subst, arith}
use Rattle.std.proofs.lemmas.List.{length-set, map_more}
use Rattle.std.proofs.lemmas.Option.{slice_get-get_or, slice_get-map}
use Rattle.std.specs.Prelude.{Some, option_map, slice_get, slice_set}
use Rattle.blif_wholes.specs.declared.parting.WholeCover.{WholeCover}
use Rattle.blif_wholes.specs.declared.roles.Role.TheVariants as roles
use Rattle.blif_wholes.specs.Roles.{IsRoleIn, role_at}
use Rattle.blif_wholes.proofs.RoleSteps.{next_role}
use Rattle.blif_wholes.proofs.roles.roles_of.Goals as goal

abbrev name_of : WholeCover → ℕ
name_of one = one.cover.name

pub loop-number-init : goal.loop-number-init
loop-number-init c =
    let ins = c.args.inputs.now in
    let names = map name_of c.args.covers.now in
    let told = c.in_ok-roles.ensures in
    record {
      many = sym (c.in_ok-roles.roles.ok).0 ∙ told.many;
      roles = λ n. subst (λ (before : List ℕ). IsRoleIn ins names before n (role_at c.in_ok-roles.roles.items n)) (sym (append-nil ins)) (told.roles names n);
    }

pub loop-number-preserved : goal.loop-number-preserved
loop-number-preserved c =
    let ins = c.args.inputs.now in
    let covers = c.args.covers.now in
    let names = map name_of covers in
    let i = c.loop-number.number in
    let all = c.loop-number.roles.items in
    let inside : i < length covers = c.loop-number-test.true in
    let one = c.index-covers-number.result in
    let spot = one.cover.name in
    let is : one ≡ get_or covers i one = c.index-covers-number.is in
    let role = roles.Cover c.in_ok-number_of.field-0 in
    let at : slice_get names c.in_ok-number_of.field-0 ≡ Some spot =
    ap (slice_get names) c.in_ok-number_of.ensures ∙ slice_get-map name_of covers i ∙ ap (option_map name_of) (slice_get-get_or covers i one inside ∙ ap Some (sym is)) in
    let below : spot < length all = let b = c.requires.covers i one inside in let same = ap name_of is in omega (arith, b, c.loop-number.invariant.many, same) in
    let more : ins ++ map name_of (take (i + 1) covers) ≡ (ins ++ map name_of (take i covers)) ++ spot ∷ [] =
    ap (λ (t : List ℕ). ins ++ t) (map_more name_of covers i one inside) ∙ ap (λ (m : ℕ). ins ++ (map name_of (take i covers) ++ m ∷ [])) (sym (ap name_of is))
    ∙ sym (append_assoc ins (map name_of (take i covers)) (spot ∷ [])) in
    record {
      many = length-set all spot role ∙ c.loop-number.invariant.many;
      roles = λ n.
          subst (λ (told : List ℕ). IsRoleIn ins names told n (role_at (slice_set all spot role) n)) (sym more)
          (next_role ins names (ins ++ map name_of (take i covers)) all spot role below at c.loop-number.invariant.roles n);
    }
