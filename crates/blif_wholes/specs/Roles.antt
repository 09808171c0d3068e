-- What the spots of a whole are.
use Rattle.std.specs.Prelude.{◌≡◌, ℕ, false, List, ◌++◌, Some, get_or, slice_get}
use Rattle.blif_order.specs.Orders.{is_in}
use Rattle.blif_wholes.specs.declared.roles.Role.{Role}
use Rattle.blif_wholes.specs.declared.roles.Role.TheVariants as roles

-- the role is that of a spot among the inputs or the names of covers; it is unknown only if the spot is not among these
abbrev pub IsRoleIn : List ℕ → List ℕ → List ℕ → ℕ → Role → Type 0
IsRoleIn inputs covers told n roles.Unknown = is_in told n ≡ false
IsRoleIn inputs covers told n (roles.Input i) = slice_get inputs i ≡ Some n
IsRoleIn inputs covers told n (roles.Cover c) = slice_get covers c ≡ Some n

abbrev pub IsRoleOf : List ℕ → List ℕ → ℕ → Role → Type 0
IsRoleOf inputs covers n role = IsRoleIn inputs covers (inputs ++ covers) n role

abbrev pub role_at : List Role → ℕ → Role
role_at all n = get_or all n roles.Unknown
