use Rattle.std.proofs.Common.{◌≡◌, ℕ, ◌++◌, length, map, take}
use Rattle.blif_wholes.specs.Roles.{IsRoleIn, role_at}
use Rattle.blif_wholes.proofs.roles.roles_of.Given as goal

abbrev pub invariant-loop-number : goal.invariant-loop-number
invariant-loop-number l = record {
  many : length l.roles.items ≡ l.spots;
  roles : (n : ℕ) → IsRoleIn l.inputs (map (λ one. one.cover.name) l.covers) (l.inputs ++ map (λ one. one.cover.name) (take l.number l.covers)) n (role_at l.roles.items n);
}
