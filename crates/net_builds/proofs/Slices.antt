-- Sessions in a row, of which one is called at a time.
use Rattle.std.proofs.Common.{◌≡◌, ℕ, zero, suc, ◌<◌, false, true, List, [], ◌∷◌, length, map, set, get_or, Some, refl, ap, sym, ◌∙◌, subst, arith, All}
use Rattle.std.specs.Prelude.{slice_get}
use Rattle.std.specs.List.{AllZip}
use Rattle.std.proofs.lemmas.List.{length-set}
use Rattle.std.proofs.lemmas.List.Elements.{All-cons, All-head, All-nil, All-tail}
use Rattle.std.proofs.lemmas.Option.{same_Some}
use Rattle.function_laws.specs.declared.history.Name.{Name}
use Rattle.net_builds.specs.Handings.{HandsOne, Returns}
use Rattle.net_builds.specs.Shares.{IsLiveAt}
use Rattle.net_builds.specs.Standings.{Fetches, IsLive, Posts, Standing}
use Rattle.net_builds.proofs.Gathering.{posted_returns, returns_none}
use Rattle.net_builds.proofs.Pairs.{map_set, zip_set}
use Rattle.net_builds.proofs.StandingLemmas.{still_live}

pub map_all : {X Y : Type 0} (P : Y → Type 0) (f : X → Y) (xs : List X) → All P (map f xs) → All (λ x. P (f x)) xs
map_all P f [] all = All-nil (λ x. P (f x))
map_all P f (x ∷ xs) all = All-cons (λ y. P (f y)) x xs (All-head P (f x) (map f xs) all) (map_all P f xs (All-tail P (f x) (map f xs) all))

pub at_map : {X Y : Type 0} (f : X → Y) (xs : List X) (i : ℕ) (d : X) → i < length xs → slice_get (map f xs) i ≡ Some (f (get_or xs i d))
at_map f [] i d within = absurd (omega (arith, within))
at_map f (x ∷ xs) zero d within = refl
at_map f (x ∷ xs) (suc i) d within = at_map f xs i d (omega (arith, within))

-- what is put in place of itself
pub set_same : {X : Type 0} (xs : List X) (i : ℕ) (x : X) → slice_get xs i ≡ Some x → set xs i x ≡ xs
set_same [] i x at = refl
set_same (y ∷ xs) zero x at = ap (λ z. z ∷ xs) (sym (same_Some y x at))
set_same (y ∷ xs) (suc i) x at = ap (λ ys. y ∷ ys) (set_same xs i x at)

module _ {S : Type 0} (standing : S → Standing) where
  -- one posted
  module _ (cell place giver : ℕ) (sessions : List S) (posted d e : S) (name : Name) (within : giver < length sessions) (posts : Posts cell (standing (get_or sessions giver d)) (standing posted) name place) where
    abbrev mid : List S
    mid = set sessions giver posted

    some : 0 < length mid
    some = omega (arith, within, length-set sessions giver posted)

    -- and a name of the first still lives
    pub live_still : (other : Name) → IsLiveAt (map standing sessions) 0 other → IsLive (standing (get_or mid 0 e)) other
    live_still other live = by sessions giver within posts live
      where
        by : (xs : List S) (i : ℕ) → i < length xs → Posts cell (standing (get_or xs i d)) (standing posted) name place → IsLiveAt (map standing xs) 0 other → IsLive (standing (get_or (set xs i posted) 0 e)) other
        by [] i less is was = absurd (omega (arith, less))
        by (x ∷ xs) zero less is was = still_live (standing x) (standing posted) other (omega (arith, is.adds_are)) (is.kept other) (was (standing x) refl)
        by (x ∷ xs) (suc i) less is was = was (standing x) refl

    -- and the first fetched
    pub hands_one : (last : S) (other to : Name) (fetch : ℕ) → Fetches cell (standing (get_or mid 0 e)) (standing last) other to true fetch → place < fetch
        → HandsOne cell giver (map standing sessions) (map standing (set mid 0 last)) name (record { from = name; to = to; other = other; post = place; fetch = fetch })
    hands_one last other to fetch fetches turn = record {
      from = standing (get_or sessions giver d);
      from_is = at_map standing sessions giver d within;
      posted = standing posted;
      posts = posts;
      first = standing (get_or mid 0 e);
      first_is = ap (λ l. slice_get l 0) (sym (map_set standing sessions giver posted)) ∙ at_map standing mid 0 e some;
      last = standing last;
      fetches = fetches;
      new_is = map_set standing mid 0 last ∙ ap (λ l. set l 0 (standing last)) (map_set standing sessions giver posted);
      turn = turn;
      name_is = refl;
    }

    -- or memory was wanting
    pub posted_back : (last : S) → standing last ≡ standing (get_or mid 0 e) → AllZip (Returns cell false) (map standing sessions) (map standing (set mid 0 last))
    posted_back last same =
        subst (AllZip (Returns cell false) (map standing sessions))
        (sym (map_set standing mid 0 last ∙ ap (set (map standing mid) 0) same ∙ set_same (map standing mid) 0 (standing (get_or mid 0 e)) (at_map standing mid 0 e some) ∙ map_set standing sessions giver posted))
        (zip_set (Returns cell false) (returns_none cell false) (map standing sessions) giver (standing (get_or sessions giver d)) (standing posted) (at_map standing sessions giver d within)
        (posted_returns cell (standing (get_or sessions giver d)) (standing posted) name place posts))

-- a row of sessions has a first one
pub some_map : {S : Type 0} (standing : S → Standing) (sessions : List S) → 0 < length sessions → (s : Standing) × (slice_get (map standing sessions) 0 ≡ Some s)
some_map standing [] some = absurd (omega (arith, some))
some_map standing (s ∷ sessions) some = (standing s, refl)

pub there_is : {X : Type 0} (xs : List X) (i : ℕ) → i < length xs → (x : X) × (slice_get xs i ≡ Some x)
there_is [] i within = absurd (omega (arith, within))
there_is (x ∷ xs) zero within = (x, refl)
there_is (x ∷ xs) (suc i) within = there_is xs i (omega (arith, within))

pub first_set : {X : Type 0} (xs : List X) (x d : X) → 0 < length xs → get_or (set xs 0 x) 0 d ≡ x
first_set [] x d some = absurd (omega (arith, some))
first_set (y ∷ xs) x d some = refl

pub get_set_other : {X : Type 0} (xs : List X) (i j : ℕ) (x : X) → (j ≡ i → ⊥) → slice_get (set xs i x) j ≡ slice_get xs j
get_set_other [] i j x apart = refl
get_set_other (y ∷ xs) zero zero x apart = absurd (apart refl)
get_set_other (y ∷ xs) zero (suc j) x apart = refl
get_set_other (y ∷ xs) (suc i) zero x apart = refl
get_set_other (y ∷ xs) (suc i) (suc j) x apart = get_set_other xs i j x (λ e. apart (ap suc e))
