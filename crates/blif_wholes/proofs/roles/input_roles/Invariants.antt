use Rattle.std.proofs.Common.{◌≡◌, ℕ, List, length, take}
use Rattle.blif_wholes.specs.Roles.{IsRoleIn, role_at}
use Rattle.blif_wholes.proofs.roles.input_roles.Given as goal

abbrev pub invariant-loop-input : goal.invariant-loop-input
invariant-loop-input l = record {
  many : length l.roles.items ≡ l.spots;
  roles : (covers : List ℕ) (n : ℕ) → IsRoleIn l.inputs covers (take l.input l.inputs) n (role_at l.roles.items n);
}
