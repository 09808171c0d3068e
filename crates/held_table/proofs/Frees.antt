-- The free list of a table with one holder, as slots are taken off it and put before it.
use Rattle.std.proofs.Common.{◌≡◌, ◌⊎◌, inl, inr, ⊎_elim, ℕ, zero, suc, ◌+◌, ◌-◌, ◌<◌, ◌≤◌, Bool, true, false, List, [], ◌∷◌, ◌++◌, length, Option, Some, None, refl, ap, sym, ◌∙◌, subst, arith}
use Rattle.std.specs.Prelude.{IfNone, IfSome, if◌then◌else◌, slice_index, vec_capacity}
use Rattle.std.specs.List.{range_with_len}
use Rattle.edge_bits.specs.declared.words.Word.{Word}
use Rattle.step_store.specs.Chains.{Lists}
use Rattle.step_store.proofs.Chaining.{once_short}
use Rattle.step_store.proofs.Passing.{none_some, some_same}
use Rattle.node_slots.specs.Stores.{slots}
use Rattle.held_table.specs.declared.table.HeldTable.{HeldTable}
use Rattle.held_table.specs.Tables.{IsTable, IsWithoutFirst, free_in, free_list, plain_of, stacked}
use Rattle.held_table.proofs.Tables.{within}

-- one number more on the stack
pub stacked_more : (xs : List ℕ) (s : ℕ) (tail : List ℕ) → stacked (xs ++ s ∷ []) tail ≡ s ∷ stacked xs tail
stacked_more [] s tail = refl
stacked_more (x ∷ xs) s tail = stacked_more xs s (x ∷ tail)

pub listed_more : (xs : List ℕ) (s y : ℕ) → Lists (xs ++ s ∷ []) y → (y ≡ s) ⊎ Lists xs y
listed_more [] s y is = ⊎_elim (λ e. inl (sym e)) (λ none. absurd none) is
listed_more (x ∷ xs) s y is = ⊎_elim (λ e. inr (inl e)) (λ rest. ⊎_elim inl (λ on. inr (inr on)) (listed_more xs s y rest)) is

pub listed_front : (xs : List ℕ) (s y : ℕ) → Lists xs y → Lists (xs ++ s ∷ []) y
listed_front [] s y is = absurd is
listed_front (x ∷ xs) s y is = ⊎_elim inl (λ rest. inr (listed_front xs s y rest)) is

pub listed_last : (xs : List ℕ) (s : ℕ) → Lists (xs ++ s ∷ []) s
listed_last [] s = inl refl
listed_last (x ∷ xs) s = inr (listed_last xs s)

same_head : (a b : ℕ) (xs ys : List ℕ) → a ∷ xs ≡ b ∷ ys → (a ≡ b) × (xs ≡ ys)
same_head a b xs ys e = (cc, cc)

no_head : (b : ℕ) (ys : List ℕ) → [] ≡ b ∷ ys → ⊥
no_head b ys e = cc

-- the last one that was freed is the first of the list
pub takes_freed : (t : HeldTable) (freed : List ℕ) (x s : ℕ) (list : List ℕ) → t.freed.items ≡ freed ++ x ∷ [] → free_in t ≡ s ∷ list → (x ≡ s) × (stacked freed (range_with_len t.next_free (t.limit - t.next_free)) ≡ list)
takes_freed t freed x s list items is =
    let tail : List ℕ = range_with_len t.next_free (t.limit - t.next_free) in
    same_head x s (stacked freed tail) list (sym (stacked_more freed x tail) ∙ ap (λ (l : List ℕ). stacked l tail) (sym items) ∙ is)

-- where none was freed it is the next one that was never taken
next_first : (from n s : ℕ) (list : List ℕ) → range_with_len from n ≡ s ∷ list → (from ≡ s) × (m : ℕ) × (n ≡ suc m) × (range_with_len (from + 1) m ≡ list)
next_first from zero s list e = absurd (no_head s list e)
next_first from (suc m) s list e = let h = same_head from s (range_with_len (from + 1) m) list e in (h.0, m, refl, h.1)

pub takes_next : (t : HeldTable) (s : ℕ) (list : List ℕ) → t.freed.items ≡ [] → free_in t ≡ s ∷ list → (t.next_free ≡ s) × (t.next_free < t.limit) × (range_with_len (t.next_free + 1) (t.limit - (t.next_free + 1)) ≡ list)
takes_next t s list none is =
    let n = next_first t.next_free (t.limit - t.next_free) s list (ap (λ (l : List ℕ). stacked l (range_with_len t.next_free (t.limit - t.next_free))) (sym none) ∙ is) in
    let left = n.2 in
    let less : t.limit - (t.next_free + 1) ≡ n.1 = omega (arith, left) in
    (n.0, omega (arith, left), ap (range_with_len (t.next_free + 1)) less ∙ n.3)

-- the first slot is taken off the list
pub takes_first : (t : HeldTable) (i : IsTable t) (s : ℕ) (list left : List ℕ) (from : ℕ) → free_in t ≡ s ∷ list → IsWithoutFirst t.freed.items t.next_free left from
    → (free_list left from t.limit ≡ list) × (t.next_free ≤ from) × (from ≤ t.limit) × (s < from) × ((y : ℕ) → Lists left y → y < from)
takes_first t i s list left from is (inl (x, items, same)) =
    let f = takes_freed t left x s list items is in
    let below : (y : ℕ) → Lists (left ++ x ∷ []) y → y < t.next_free = λ y on. i.free.below y (subst (λ (l : List ℕ). Lists l y) (sym items) on) in
    let low : s < t.next_free = subst (λ (y : ℕ). y < t.next_free) f.0 (below x (listed_last left x)) in
    let most = i.free.first in (
      ap (λ (n : ℕ). free_list left n t.limit) same ∙ f.1,
      omega (arith, same),
      omega (arith, same, most),
      omega (arith, same, low),
      λ y on. (let b = below y (listed_front left x y on) in omega (arith, same, b)),
    )
takes_first t i s list left from is (inr (none, empty, more)) =
    let f = takes_next t s list none is in
    let here = f.0 in
    let inside = f.1 in (
      ap (λ (n : ℕ). free_list left n t.limit) more ∙ ap (λ (l : List ℕ). free_list l (t.next_free + 1) t.limit) empty ∙ f.2,
      omega (arith, more),
      omega (arith, more, inside),
      omega (arith, more, here),
      λ y on. absurd (subst (λ (l : List ℕ). Lists l y) empty on),
    )

-- a list that is in hand
pub has_list : (has : Bool) (l m : List ℕ) → (if has then Some l else None) ≡ Some m → (has ≡ true) × (l ≡ m)
has_list true l m e = (refl, some_same l m e)
has_list false l m e = absurd (none_some m e)

pub list_now : (has : Bool) (l m : List ℕ) → has ≡ true → l ≡ m → (if has then Some l else None) ≡ Some m
list_now has l m is same = ap (λ (b : Bool). if b then Some l else None) is ∙ ap (λ (x : List ℕ). Some x) same

-- what is popped off an empty list
pub none_of : (old new : List ℕ) → length old ≡ 0 → length new ≡ 0 → (old ≡ []) × (new ≡ [])
none_of [] [] e f = (refl, refl)
none_of [] (y ∷ ys) e f = cc
none_of (x ∷ xs) new e f = cc

-- the first of the list that is in hand
pub tells_first : (t : HeldTable) (list : List ℕ) → (if t.has_free then Some (free_in t) else None) ≡ Some list → (o : Option ℕ) → IfSome o (λ s. (l : List ℕ) × (free_in t ≡ s ∷ l)) → IfSome o (λ s. (l : List ℕ) × ((if t.has_free then Some (free_in t) else None) ≡ Some (s ∷ l)))
tells_first t list has None is = is
tells_first t list has (Some s) is = (is.0, list_now t.has_free (free_in t) (s ∷ is.0) (has_list t.has_free (free_in t) list has).0 is.1)

pub tells_none : (t : HeldTable) (list : List ℕ) → (if t.has_free then Some (free_in t) else None) ≡ Some list → (o : Option ℕ) → IfNone o (free_in t ≡ []) → IfNone o ((if t.has_free then Some (free_in t) else None) ≡ Some [])
tells_none t list has None is = list_now t.has_free (free_in t) [] (has_list t.has_free (free_in t) list has).0 is
tells_none t list has (Some s) is = is

-- the last of a list
last_split : (xs : List ℕ) (n : ℕ) → length xs ≡ suc n → (front : List ℕ) × (xs ≡ front ++ slice_index xs n ∷ [])
last_split [] n long = absurd (omega (arith, long))
last_split (y ∷ []) zero long = ([], refl)
last_split (y ∷ (z ∷ zs)) zero long = absurd (omega (arith, long))
last_split (y ∷ ys) (suc m) long = let r = last_split ys m (omega (arith, long)) in (y ∷ r.0, ap (λ (l : List ℕ). y ∷ l) r.1)

pub last_of : (xs : List ℕ) (n x : ℕ) → length xs ≡ suc n → x ≡ slice_index xs n → (front : List ℕ) × (xs ≡ front ++ x ∷ [])
last_of xs n x long is = let s = last_split xs n long in (s.0, s.1 ∙ ap (λ (z : ℕ). s.0 ++ z ∷ []) (sym is))

pub no_last : (xs : List ℕ) → length xs ≡ 0 → xs ≡ []
no_last [] e = refl
no_last (y ∷ ys) e = absurd (omega (arith, e))

pub first_freed : (freed front : List ℕ) (x next limit : ℕ) → freed ≡ front ++ x ∷ [] → (list : List ℕ) × (free_list freed next limit ≡ x ∷ list)
first_freed freed front x next limit is = (stacked front (range_with_len next (limit - next)), ap (λ (l : List ℕ). free_list l next limit) is ∙ stacked_more front x (range_with_len next (limit - next)))

pub first_next : (freed : List ℕ) (next limit : ℕ) → freed ≡ [] → next < limit → (list : List ℕ) × (free_list freed next limit ≡ next ∷ list)
first_next freed next limit none lt =
    let some : limit - next ≡ suc (limit - suc next) = omega (arith, lt) in
    (range_with_len (next + 1) (limit - suc next), ap (λ (l : List ℕ). free_list l next limit) none ∙ ap (range_with_len next) some)

pub no_first : (freed : List ℕ) (next limit : ℕ) → freed ≡ [] → limit ≤ next → free_list freed next limit ≡ []
no_first freed next limit none le =
    let zeros : limit - next ≡ 0 = omega (arith, le) in
    ap (λ (l : List ℕ). free_list l next limit) none ∙ ap (range_with_len next) zeros

length_stacked : (xs tail : List ℕ) → length xs ≤ length (stacked xs tail)
length_stacked [] tail = omega arith
length_stacked (x ∷ xs) tail = let l = long xs (x ∷ tail) in omega (arith, l)
  where
    long : (xs tail : List ℕ) → length xs + length tail ≤ length (stacked xs tail)
    long [] tail = omega arith
    long (x ∷ xs) tail = let l = long xs (x ∷ tail) in omega (arith, l)

-- a slot in use has room on the list
pub room_for : (t : HeldTable) (i : IsTable t) (s : ℕ) (word : Word) → slots (plain_of t) s ≡ Some word → length t.freed.items < vec_capacity t.freed
room_for t i s word used =
    let f = i.free.list in
    let off : Lists (free_in t) s → ⊥ = λ on. none_some word (sym (f.free s on).1 ∙ used) in
    let below : (y : ℕ) → Lists (s ∷ free_in t) y → y < t.limit = λ y on. ⊎_elim (λ e. subst (λ (x : ℕ). x < t.limit) e (within t i s word used)) (λ rest. let x = f.free y rest in let m = i.words.as_many in omega (arith, x.0, m)) on in
    let few = once_short (s ∷ free_in t) t.limit (off, f.once) below in
    let long = length_stacked t.freed.items (range_with_len t.next_free (t.limit - t.next_free)) in
    let room = i.free.room in
    omega (arith, few, long, room)
