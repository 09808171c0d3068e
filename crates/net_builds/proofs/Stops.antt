-- Refusals of several workers, of which one is told.
use Rattle.std.proofs.Common.{◌≡◌, ◌⊎◌, ℕ, ◌+◌, ◌<◌, inl, inr, List, [], ◌∷◌, length, drop, get_or, Option, Some, None, refl, ap, sym, ◌∙◌, arith, zero, suc}
use Rattle.std.proofs.lemmas.List.Elements.{All-cons, All-nil}
use Rattle.std.proofs.lemmas.Option.{none-some}
use Rattle.net_builds.specs.Shares.{AreBuilt, StopsSome, stop_of, told_first}
use Rattle.net_builds.specs.declared.host.HostRefusal.{HostRefusal}
use Rattle.net_builds.specs.declared.host.HostRefusal.TheVariants as stops
use Rattle.net_builds.specs.declared.sharing.Share.{Share}

module _ {F : Type 0} where
  pub told_right : (a : Option (HostRefusal F)) → told_first a None ≡ a
  told_right None = refl
  told_right (Some first) = refl

  pub told_again : (a b c : Option (HostRefusal F)) → told_first (told_first a b) c ≡ told_first a (told_first b c)
  told_again None b c = refl
  told_again (Some a) None c = refl
  told_again (Some a) (Some stops.Memory) None = refl
  told_again (Some a) (Some stops.Memory) (Some stops.Memory) = refl
  told_again (Some a) (Some stops.Memory) (Some (stops.Full f)) = refl
  told_again (Some a) (Some (stops.Full f)) None = refl
  told_again (Some a) (Some (stops.Full f)) (Some stops.Memory) = refl
  told_again (Some a) (Some (stops.Full f)) (Some (stops.Full h)) = refl

  -- one share more was looked at
  pub told_next : (first : Option (HostRefusal F)) (shares : List (Share F)) (i : ℕ) (d : Share F) → i < length shares
      → told_first (told_first first (get_or shares i d).stop) (stop_of (drop (i + 1) shares)) ≡ told_first first (stop_of (drop i shares))
  told_next first [] i d less = absurd (omega (arith, less))
  told_next first (one ∷ shares) zero d less = told_again first one.stop (stop_of shares)
  told_next first (one ∷ shares) (suc i) d less =
      ap (λ k. told_first (told_first first (get_or shares i d).stop) (stop_of (drop k (one ∷ shares)))) (let same : suc i + 1 ≡ suc (i + 1) = omega arith in same) ∙ told_next first shares i d (omega (arith, less))

  told_none : (a b : Option (HostRefusal F)) → told_first a b ≡ None → (a ≡ None) × (b ≡ None)
  told_none None b is = (refl, is)
  told_none (Some a) None is = absurd (none-some a (sym is))
  told_none (Some a) (Some stops.Memory) is = absurd (none-some stops.Memory (sym is))
  told_none (Some a) (Some (stops.Full f)) is = absurd (none-some a (sym is))

  -- none was refused
  pub none_told : (shares : List (Share F)) → stop_of shares ≡ None → AreBuilt shares
  none_told [] none = All-nil (λ (one : Share F). one.stop ≡ None)
  none_told (one ∷ shares) none =
      let parts = told_none one.stop (stop_of shares) none in
      All-cons (λ (x : Share F). x.stop ≡ None) one shares parts.0 (none_told shares parts.1)

  told_either : (stop : HostRefusal F) (a b : Option (HostRefusal F)) → told_first a b ≡ Some stop → (a ≡ Some stop) ⊎ (b ≡ Some stop)
  told_either stop None b same = inr same
  told_either stop (Some a) None same = inl same
  told_either stop (Some a) (Some stops.Memory) same = inr same
  told_either stop (Some a) (Some (stops.Full f)) same = inl same

  -- what is told is why some worker was refused
  pub some_told : (shares : List (Share F)) (stop : HostRefusal F) → stop_of shares ≡ Some stop → StopsSome shares stop
  some_told [] stop is = absurd (none-some stop is)
  some_told (one ∷ shares) stop is = elim (told_either stop one.stop (stop_of shares) is) [
    | inl here ↦ (one, (0, omega arith, refl), here)
    | inr there ↦ (let rest = some_told shares stop there in (rest.0, (suc rest.1.0, omega (arith, rest.1.1), rest.1.2), rest.2))
  ]
