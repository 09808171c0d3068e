-- The rows of all shares are let go.
use Rattle.std.proofs.Common.{◌≡◌, ℕ, zero, suc, List, [], ◌∷◌, length, get_or, Some, refl, subst, arith}
use Rattle.std.specs.Prelude.{slice_get}
use Rattle.std.proofs.lemmas.Option.{none-some, same_Some}
use Rattle.net_builds.specs.Holdings.{LetsAllGo, names_in}
use Rattle.net_builds.specs.Shares.{AllGo, HasRows, HaveRows}
use Rattle.net_builds.specs.Standings.{Standing}
use Rattle.net_builds.specs.declared.sharing.Share.{Share}

module _ {F : Type 0} where
  pub as_many_rows : (sessions : List Standing) (shares : List (Share F)) → HaveRows sessions shares → length shares ≡ length sessions
  as_many_rows [] [] have = refl
  as_many_rows [] (one ∷ shares) have = absurd have
  as_many_rows (s ∷ sessions) [] have = absurd have
  as_many_rows (s ∷ sessions) (one ∷ shares) have = omega (arith, as_many_rows sessions shares have.1)

  pub rows_of : (sessions : List Standing) (shares : List (Share F)) (i : ℕ) (s : Standing) (d : Share F) → HaveRows sessions shares → slice_get sessions i ≡ Some s → HasRows s (get_or shares i d)
  rows_of [] shares i s d have at = absurd (none-some s at)
  rows_of (x ∷ sessions) [] i s d have at = absurd have
  rows_of (x ∷ sessions) (one ∷ shares) zero s d have at = subst (λ t. HasRows t one) (same_Some x s at) have.0
  rows_of (x ∷ sessions) (one ∷ shares) (suc i) s d have at = rows_of sessions shares i s d have.1 at

  pub all_go : (old new : List Standing) (shares : List (Share F)) → length new ≡ length old → length shares ≡ length old
      → ((i : ℕ) (a b : Standing) (one : Share F) → slice_get old i ≡ Some a → slice_get new i ≡ Some b → slice_get shares i ≡ Some one → LetsAllGo a b (names_in one.outputs.rows.items)) → AllGo old new shares
  all_go [] [] [] long many go = tt
  all_go [] [] (one ∷ shares) long many go = absurd (omega (arith, many))
  all_go [] (b ∷ new) shares long many go = absurd (omega (arith, long))
  all_go (a ∷ old) [] shares long many go = absurd (omega (arith, long))
  all_go (a ∷ old) (b ∷ new) [] long many go = absurd (omega (arith, many))
  all_go (a ∷ old) (b ∷ new) (one ∷ shares) long many go = (go 0 a b one refl refl refl, all_go old new shares (omega (arith, long)) (omega (arith, many)) (λ i x y z. go (suc i) x y z))
