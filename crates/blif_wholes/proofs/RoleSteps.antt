-- One role more.
use Rattle.std.proofs.Common.{◌≡◌, ℕ, ◌<◌, ◌==◌, ◌||◌, ◌≢◌, false, List, [], ◌∷◌, ◌++◌, inl, inr, length, set, get_or-set_other, get_or-set_same, ap, sym, ◌∙◌, subst}
use Rattle.std.specs.Prelude.{◌⊎◌}
use Rattle.std.proofs.lemmas.Bool.{false≢true}
use Rattle.std.proofs.lemmas.List.Folds.{list_any-append}
use Rattle.blif_order.proofs.Walks.{own, same_or_not}
use Rattle.blif_wholes.specs.declared.roles.Role.{Role}
use Rattle.blif_wholes.specs.declared.roles.Role.TheVariants as roles
use Rattle.blif_wholes.specs.Roles.{IsRoleIn, role_at}

-- another spot keeps its role
kept_role : (inputs covers told : List ℕ) (spot n : ℕ) (role : Role) → (spot == n) ≡ false → IsRoleIn inputs covers told n role → IsRoleIn inputs covers (told ++ spot ∷ []) n role
kept_role inputs covers told spot n roles.Unknown apart h = list_any-append (λ k. k == n) told (spot ∷ []) ∙ (λ j. h j || (apart j || false))
kept_role inputs covers told spot n (roles.Input i) apart h = h
kept_role inputs covers told spot n (roles.Cover c) apart h = h

pub next_role : (inputs covers told : List ℕ) (all : List Role) (spot : ℕ) (role : Role) → spot < length all → IsRoleIn inputs covers (told ++ spot ∷ []) spot role → ((n : ℕ) → IsRoleIn inputs covers told n (role_at all n))
    → (n : ℕ) → IsRoleIn inputs covers (told ++ spot ∷ []) n (role_at (set all spot role) n)
next_role inputs covers told all spot role lt here before n = by_cases (same_or_not spot n)
  where
    by_cases : (spot ≡ n) ⊎ ((spot == n) ≡ false) → IsRoleIn inputs covers (told ++ spot ∷ []) n (role_at (set all spot role) n)
    by_cases (inl same) =
        subst (λ k. IsRoleIn inputs covers (told ++ spot ∷ []) k (role_at (set all spot role) k)) same
        (subst (IsRoleIn inputs covers (told ++ spot ∷ []) spot) (sym (get_or-set_same all spot role roles.Unknown lt)) here)
    by_cases (inr apart) =
        let ne : n ≢ spot = λ e. false≢true (sym apart ∙ ap (λ k. spot == k) e ∙ own spot) in
        subst (IsRoleIn inputs covers (told ++ spot ∷ []) n) (sym (get_or-set_other all spot n role roles.Unknown ne)) (kept_role inputs covers told spot n (role_at all n) apart (before n))
