-- A list of slots that were freed, the last first.
use Rattle.std.proofs.Common.{◌≡◌, ℕ, zero, suc, ◌+◌, ◌-◌, ◌<◌, ◌≤◌, List, [], ◌∷◌, ◌++◌, length, refl, ap, sym, ◌∙◌, arith}
use Rattle.std.specs.Prelude.{slice_index}
use Rattle.std.specs.List.{range_with_len}
use Rattle.free_list.specs.FreeSlots.{free_slots, stacked}

-- one slot more
pub stacked_more : (xs : List ℕ) (s : ℕ) (tail : List ℕ) → stacked (xs ++ s ∷ []) tail ≡ s ∷ stacked xs tail
stacked_more [] s tail = refl
stacked_more (x ∷ xs) s tail = stacked_more xs s (x ∷ tail)

-- the others stand behind them
pub stacked_before : (xs tail : List ℕ) → stacked xs tail ≡ stacked xs [] ++ tail
stacked_before xs tail = before xs [] tail
  where
    before : (xs ys tail : List ℕ) → stacked xs (ys ++ tail) ≡ stacked xs ys ++ tail
    before [] ys tail = refl
    before (x ∷ xs) ys tail = before xs (x ∷ ys) tail

last_split : (xs : List ℕ) (n : ℕ) → length xs ≡ suc n → (front : List ℕ) × (xs ≡ front ++ slice_index xs n ∷ [])
last_split [] n e = absurd (omega (arith, e))
last_split (x ∷ []) zero e = ([], refl)
last_split (x ∷ []) (suc n) e = absurd (omega (arith, e))
last_split (x ∷ y ∷ ys) zero e = absurd (omega (arith, e))
last_split (x ∷ y ∷ ys) (suc n) e = let s = last_split (y ∷ ys) n (omega (arith, e)) in (x ∷ s.0, ap (λ (l : List ℕ). x ∷ l) s.1)

pub last_of : (xs : List ℕ) (n x : ℕ) → length xs ≡ suc n → x ≡ slice_index xs n → (front : List ℕ) × (xs ≡ front ++ x ∷ [])
last_of xs n x long is = let s = last_split xs n long in (s.0, s.1 ∙ ap (λ (z : ℕ). s.0 ++ z ∷ []) (sym is))

pub none_of : (xs : List ℕ) → length xs ≡ 0 → xs ≡ []
none_of [] e = refl
none_of (y ∷ ys) e = absurd (omega (arith, e))

-- nothing is popped off an empty list
pub none_both : (old new : List ℕ) → length old ≡ 0 → length new ≡ 0 → (old ≡ []) × (new ≡ [])
none_both [] [] e f = (refl, refl)
none_both [] (y ∷ ys) e f = cc
none_both (x ∷ xs) new e f = cc

-- the last that was freed is the first
pub first_freed : (freed front : List ℕ) (x next limit : ℕ) → freed ≡ front ++ x ∷ [] → free_slots freed next limit ≡ x ∷ free_slots front next limit
first_freed freed front x next limit is = ap (λ (l : List ℕ). free_slots l next limit) is ∙ stacked_more front x (range_with_len next (limit - next))

-- where none was freed it is the next that was never taken
pub first_next : (freed : List ℕ) (next limit : ℕ) → freed ≡ [] → next < limit → free_slots freed next limit ≡ next ∷ free_slots freed (next + 1) limit
first_next freed next limit none lt =
    let some : limit - next ≡ suc (limit - (next + 1)) = omega (arith, lt) in
    ap (λ (l : List ℕ). free_slots l next limit) none ∙ ap (range_with_len next) some ∙ ap (λ (l : List ℕ). next ∷ free_slots l (next + 1) limit) (sym none)

pub no_first : (freed : List ℕ) (next limit : ℕ) → freed ≡ [] → limit ≤ next → free_slots freed next limit ≡ []
no_first freed next limit none le =
    let zeros : limit - next ≡ 0 = omega (arith, le) in
    ap (λ (l : List ℕ). free_slots l next limit) none ∙ ap (range_with_len next) zeros

length_range : (from n : ℕ) → length (range_with_len from n) ≡ n
length_range from zero = refl
length_range from (suc n) = let l = length_range (from + 1) n in omega (arith, l)

-- how long it is
pub length_free : (freed : List ℕ) (next limit : ℕ) → length (free_slots freed next limit) ≡ length freed + (limit - next)
length_free freed next limit = let r = length_range next (limit - next) in let l = long freed (range_with_len next (limit - next)) in omega (arith, l, r)
  where
    long : (xs tail : List ℕ) → length (stacked xs tail) ≡ length xs + length tail
    long [] tail = omega arith
    long (x ∷ xs) tail = let l = long xs (x ∷ tail) in omega (arith, l)
