-- What moving one of an order's entries keeps.
use Rattle.std.proofs.Common.{◌≡◌, ℕ, zero, suc, ◌+◌, ◌-◌, ◌<◌, ◌==◌, ◌⊎◌, inl, inr, Bool, true, false, cond, List, [], ◌∷◌, drop, length, take, refl, sym, ◌∙◌, arith, eq-eqb, true≢false}
use Rattle.std.specs.Prelude.{slice_index}
use Rattle.std.specs.List.{insert, remove}
use Rattle.std.proofs.lemmas.List.{length-append, length-drop, length-take}
use Rattle.std.proofs.lemmas.List.Edits.{length-remove}
use Rattle.function_laws.specs.SiftedOrders.{Block, comes_first, default_ones, in_falling_width, is_default, moved, place_of, put_in}
use Rattle.function_laws.proofs.DistinctLemmas.{In, In-append}

-- another order of the same ones
pub record Rearranged (from to : List ℕ) : Type 0 where
  pub as_long : length to ≡ length from
  pub there : (v : ℕ) → In v from → In v to
  pub here : (v : ℕ) → In v to → In v from

pub as_it_is : (order : List ℕ) → Rearranged order order
as_it_is order = record { as_long = refl; there = λ v i. i; here = λ v i. i }

pub rearranged_again : (a b c : List ℕ) → Rearranged a b → Rearranged b c → Rearranged a c
rearranged_again a b c h k = record {
  as_long = k.as_long ∙ h.as_long;
  there = λ v i. k.there v (h.there v i);
  here = λ v i. h.here v (k.here v i);
}

-- beyond the end it comes last
insert_long : (l : List ℕ) (q v : ℕ) → length (insert l q v) ≡ length l + 1
insert_long l q v = omega (arith, length-append (take q l) (v ∷ drop q l), length-take q l, length-drop q l)

insert_keeps : (l : List ℕ) (q v x : ℕ) → (x ≡ v) ⊎ In x l → In x (insert l q v)
insert_keeps l zero v x (inl e) = inl e
insert_keeps l zero v x (inr i) = inr i
insert_keeps [] (suc q) v x (inl e) = inl e
insert_keeps [] (suc q) v x (inr i) = absurd i
insert_keeps (y ∷ ys) (suc q) v x (inl e) = inr (insert_keeps ys q v x (inl e))
insert_keeps (y ∷ ys) (suc q) v x (inr (inl e)) = inl e
insert_keeps (y ∷ ys) (suc q) v x (inr (inr i)) = inr (insert_keeps ys q v x (inr i))

insert_from : (l : List ℕ) (q v x : ℕ) → In x (insert l q v) → (x ≡ v) ⊎ In x l
insert_from l zero v x i = i
insert_from [] (suc q) v x i = i
insert_from (y ∷ ys) (suc q) v x (inl e) = inr (inl e)
insert_from (y ∷ ys) (suc q) v x (inr i) = elim (insert_from ys q v x i) [ inl e ↦ inl e | inr j ↦ inr (inr j) ]

remove_keeps : (l : List ℕ) (p x : ℕ) → In x l → (x ≡ slice_index l p) ⊎ In x (remove l p)
remove_keeps [] p x i = absurd i
remove_keeps (y ∷ ys) zero x i = i
remove_keeps (y ∷ ys) (suc p) x (inl e) = inr (inl e)
remove_keeps (y ∷ ys) (suc p) x (inr i) = elim (remove_keeps ys p x i) [ inl e ↦ inl e | inr j ↦ inr (inr j) ]

remove_from : (l : List ℕ) (p x : ℕ) → p < length l → (x ≡ slice_index l p) ⊎ In x (remove l p) → In x l
remove_from [] p x lt i = absurd (omega arith)
remove_from (y ∷ ys) zero x lt i = i
remove_from (y ∷ ys) (suc p) x lt (inl e) = inr (remove_from ys p x (omega arith) (inl e))
remove_from (y ∷ ys) (suc p) x lt (inr (inl e)) = inl e
remove_from (y ∷ ys) (suc p) x lt (inr (inr i)) = inr (remove_from ys p x (omega arith) (inr i))

pub moved_rearranged : (order : List ℕ) (p q : ℕ) → p < length order → Rearranged order (moved order p q)
moved_rearranged order p q lt = record {
  as_long = insert_long (remove order p) q (slice_index order p) ∙ length-remove order p lt;
  there = λ v i. insert_keeps (remove order p) q (slice_index order p) v (remove_keeps order p v i);
  here = λ v i. remove_from order p v lt (insert_from (remove order p) q (slice_index order p) v i);
}

-- what stands in an order has a place there
pub place_below : (v : ℕ) (order : List ℕ) → In v order → place_of v order < length order
place_below v [] i = absurd i
place_below v (u ∷ us) i = by (u == v) refl (place_below v us)
  where
    by : (b : Bool) → (u == v) ≡ b → (In v us → place_of v us < length us) → cond b 0 (suc (place_of v us)) < suc (length us)
    by true e rest = omega arith
    by false e rest = elim i [ inl same ↦ absurd (true≢false (sym (eq-eqb u v (sym same)) ∙ e)) | inr later ↦ omega (arith, rest later) ]

-- those that are sifted stand in the order
In-take : (x n : ℕ) (l : List ℕ) → In x (take n l) → In x l
In-take x zero l i = absurd i
In-take x (suc n) [] i = absurd i
In-take x (suc n) (y ∷ ys) (inl e) = inl e
In-take x (suc n) (y ∷ ys) (inr i) = inr (In-take x n ys i)

In-drop : (x n : ℕ) (l : List ℕ) → In x (drop n l) → In x l
In-drop x zero l i = i
In-drop x (suc n) [] i = absurd i
In-drop x (suc n) (y ∷ ys) i = inr (In-drop x n ys i)

pub default_stand : (x start : ℕ) (blocks : List Block) (order : List ℕ) → In x (default_ones start blocks order) → In x order
default_stand x start [] order i = absurd i
default_stand x start (b ∷ bs) order i =
    elim (In-append x (cond (is_default b.mode) (take (b.end - start) order) []) (default_ones b.end bs (drop (b.end - start) order)) i) [
      | inl j ↦ front (is_default b.mode) j
      | inr j ↦ In-drop x (b.end - start) order (default_stand x b.end bs (drop (b.end - start) order) j)
    ]
  where
    front : (c : Bool) → In x (cond c (take (b.end - start) order) []) → In x order
    front true j = In-take x (b.end - start) order j
    front false j = absurd j

put_from : (width : ℕ → ℕ) (v x : ℕ) (us : List ℕ) → In x (put_in width v us) → (x ≡ v) ⊎ In x us
put_from width v x [] i = i
put_from width v x (u ∷ us) i = by (comes_first width v u) i (put_from width v x us)
  where
    by : (b : Bool) → In x (cond b (v ∷ (u ∷ us)) (u ∷ put_in width v us)) → (In x (put_in width v us) → (x ≡ v) ⊎ In x us) → (x ≡ v) ⊎ ((x ≡ u) ⊎ In x us)
    by true j rest = j
    by false (inl e) rest = inr (inl e)
    by false (inr j) rest = elim (rest j) [ inl e ↦ inl e | inr k ↦ inr (inr k) ]

pub widest_stand : (width : ℕ → ℕ) (x : ℕ) (vs : List ℕ) → In x (in_falling_width width vs) → In x vs
widest_stand width x [] i = absurd i
widest_stand width x (v ∷ vs) i = elim (put_from width v x (in_falling_width width vs) i) [ inl e ↦ inl e | inr j ↦ inr (widest_stand width x vs j) ]
