-- Whole lists of functions place by place, and when functions with one list are one.
use Rattle.std.proofs.Common.{◌≡◌, ℕ, ◌+◌, ◌-◌, ◌<◌, ◌≤◌, ◌^◌, Bool, true, false, List, length, get_or, ℤ, refl, sym, ap, ap₂, ◌∙◌, arith, subst}
use Rattle.std.proofs.lemmas.Bool.{false≢true}
use Rattle.edge_bits.specs.declared.edges.Kind.{Kind}
use Rattle.edge_bits.specs.declared.edges.Kind.TheVariants as kinds
use Rattle.edge_bits.specs.Assignments.{bit}
use Rattle.edge_bits.specs.Words.{digit}
use Rattle.edge_bits.proofs.AssignmentLemmas.{below_from_bits, digit-bit}
use Rattle.edge_bits.specs.Permanent.{first_element}
use Rattle.function_laws.specs.declared.history.Function.TheVariants.{Bdd, Add, Zdd}
use Rattle.function_laws.specs.Families.{IsWithout}
use Rattle.function_laws.specs.Kinds.{Lacks, ValueOf}
use Rattle.function_laws.specs.Lists.{list_of}
use Rattle.function_laws.proofs.ListLemmas.{get_or-list_of, length-list_of, list_of-same, same-list_of}
use Rattle.function_laws.proofs.ValueLemmas.{everywhere}
use Rattle.function_laws.proofs.WidthLemmas.{same-from_lists}
use Rattle.node_store.specs.Listed.{listed}
use Rattle.node_store.specs.Views.{View, IsBeyond}

-- place by place, on whole lists of any values
pub two_listed : {X Y Z : Type 0} (op : X → Y → Z) (d : X) (b : Y) (size : ℕ) (f : ℕ → X) (g : ℕ → Y)
    → list_of (length (list_of size f)) (λ k. op (get_or (list_of size f) k d) (get_or (list_of size g) k b)) ≡ list_of size (λ k. op (f k) (g k))
two_listed op d b size f g =
    ap (λ n. list_of n (λ k. op (get_or (list_of size f) k d) (get_or (list_of size g) k b))) (length-list_of size f)
    ∙ list_of-same size (λ k. op (get_or (list_of size f) k d) (get_or (list_of size g) k b)) (λ k. op (f k) (g k))
    (λ k below. ap₂ op (get_or-list_of size k f d below) (get_or-list_of size k g b below))

pub one_listed : {X Y : Type 0} (op : X → Y) (d : X) (size : ℕ) (f : ℕ → X) → list_of (length (list_of size f)) (λ k. op (get_or (list_of size f) k d)) ≡ list_of size (λ k. op (f k))
one_listed op d size f =
    ap (λ n. list_of n (λ k. op (get_or (list_of size f) k d))) (length-list_of size f)
    ∙ list_of-same size (λ k. op (get_or (list_of size f) k d)) (λ k. op (f k)) (λ k below. ap op (get_or-list_of size k f d below))

-- the members of a family of m elements are below 2 ^ m
lacking : (p : ℕ → Bool) (e a : ℕ) → IsWithout p e → p a ≡ true → bit a e ≡ false
lacking p e a without member = by_bit (bit a e) refl
  where
    by_bit : (b : Bool) → bit a e ≡ b → b ≡ false
    by_bit true has = absurd (false≢true (sym (without a has) ∙ member))
    by_bit false has = refl

member-below : (m : ℕ) (p : ℕ → Bool) → ((v : ℕ) → first_element + m ≤ v → IsWithout p (v - first_element)) → (a : ℕ) → p a ≡ true → a < 2 ^ m
member-below m p beyond a member = below_from_bits m a (λ i from.
    let without : IsWithout p i = subst (λ e. IsWithout p e) (omega arith) (beyond (first_element + i) (omega arith)) in
    sym (digit-bit a i) ∙ ap digit (lacking p i a without member))

-- families of the first m elements are one if their lists are
same-families : (m : ℕ) (p q : ℕ → Bool) → ((a : ℕ) → p a ≡ true → a < 2 ^ m) → ((a : ℕ) → q a ≡ true → a < 2 ^ m) → list_of (2 ^ m) p ≡ list_of (2 ^ m) q → p ≡ q
same-families m p q below_p below_q same = everywhere p q (λ a. by_members a (p a) (q a) refl refl)
  where
    by_members : (a : ℕ) (b c : Bool) → p a ≡ b → q a ≡ c → p a ≡ q a
    by_members a true c is_b is_c = same-list_of (2 ^ m) p q same a (below_p a is_b)
    by_members a false true is_b is_c = same-list_of (2 ^ m) p q same a (below_q a is_c)
    by_members a false false is_b is_c = is_b ∙ sym is_c

-- what a list was made of
bdd_inside : (f g : List Bool) → Bdd f ≡ Bdd g → f ≡ g
bdd_inside f g e = cc

add_inside : (f g : List ℤ) → Add f ≡ Add g → f ≡ g
add_inside f g e = cc

zdd_inside : (f g : List Bool) → Zdd f ≡ Zdd g → f ≡ g
zdd_inside f g e = cc

-- functions of the store are one if their lists are
pub same-listed : (k : Kind) (w : View) (f g : ℕ → ValueOf k) → ((v : ℕ) → IsBeyond k w v → Lacks k f v) → ((v : ℕ) → IsBeyond k w v → Lacks k g v) → listed k w f ≡ listed k w g → f ≡ g
same-listed kinds.Bdd w f g of_f of_g same = same-from_lists w.vars f g of_f of_g (bdd_inside (list_of (2 ^ w.vars) f) (list_of (2 ^ w.vars) g) same)
same-listed kinds.Add w f g of_f of_g same = same-from_lists w.vars f g of_f of_g (add_inside (list_of (2 ^ w.vars) f) (list_of (2 ^ w.vars) g) same)
same-listed kinds.Zdd w f g of_f of_g same =
    same-families w.elements f g (member-below w.elements f of_f) (member-below w.elements g of_g) (zdd_inside (list_of (2 ^ w.elements) f) (list_of (2 ^ w.elements) g) same)
