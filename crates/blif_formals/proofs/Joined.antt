-- Whether each input is joined, by counting.
use Rattle.std.proofs.Common.{◌≡◌, ℕ, suc, ◌==◌, ◌≤◌, ◌&&◌, ◌||◌, Bool, true, false, not, List, [], ◌∷◌, ◌++◌, filter, length, refl, ap, sym, ◌∙◌, subst, ⊎_elim, arith, if◌then◌else◌}
use Rattle.std.specs.Prelude.{count_by}
use Rattle.std.specs.List.{list_all}
use Rattle.std.proofs.lemmas.Bool.{false≢true, or_right}
use Rattle.std.proofs.lemmas.Bool.Decides.{nat_tests}
use Rattle.std.proofs.lemmas.List.Folds.{list_any-append}
use Rattle.std.proofs.lemmas.List.Sums.{length-filter}
use Rattle.blif_order.specs.Orders.{is_in}
use Rattle.blif_order.proofs.Walks.{or_cases, own, same_number}
use Rattle.blif_formals.specs.declared.interface.Interface.{Interface}
use Rattle.blif_formals.specs.declared.interface.Port.TheVariants as ports
use Rattle.blif_formals.specs.Joining.{IsInterface, is_formal, is_input, is_once, joins_well, port_of}
use Rattle.blif_formals.proofs.Once.{filter_in, in_filter, no_longer, once_filter}

each_in : (p : ℕ → Bool) (ns : List ℕ) (n : ℕ) → list_all p ns ≡ true → is_in ns n ≡ true → p n ≡ true
each_in p [] n e f = absurd (false≢true f)
each_in p (m ∷ ns) n e f = by_cases (p m) refl e (each_in p ns n)
  where
    by_cases : (t : Bool) → p m ≡ t → (t && list_all p ns) ≡ true → (list_all p ns ≡ true → is_in ns n ≡ true → p n ≡ true) → p n ≡ true
    by_cases true g h more = ⊎_elim (λ same. subst (λ k. p k ≡ true) (same_number m n same) g) (more h) (or_cases (m == n) (is_in ns n) f)
    by_cases false g h more = absurd (false≢true h)

lacking : (p : ℕ → Bool) (ns : List ℕ) → list_all p ns ≡ false → (n : ℕ) × (is_in ns n ≡ true) × (p n ≡ false)
lacking p [] e = absurd (false≢true (sym e))
lacking p (m ∷ ns) e = by_cases (p m) refl e (lacking p ns)
  where
    by_cases : (t : Bool) → p m ≡ t → (t && list_all p ns) ≡ false → (list_all p ns ≡ false → (n : ℕ) × (is_in ns n ≡ true) × (p n ≡ false)) → (n : ℕ) × (is_in (m ∷ ns) n ≡ true) × (p n ≡ false)
    by_cases true g h more = let rest = more h in (rest.0, or_right (m == rest.0) (is_in ns rest.0) rest.1, rest.2)
    by_cases false g h more = (m, ap (λ b. b || is_in ns m) (own m), g)

-- among names that are joined once, all inputs are joined where as many inputs are joined as there are
module _ (inputs formals : List ℕ) (apart : is_once inputs ≡ true) (once : is_once formals ≡ true) where
  abbrev joined : List ℕ
  joined = filter (is_in inputs) formals

  few : length joined ≤ length inputs
  few = no_longer joined inputs (once_filter (is_in inputs) formals once) (λ n e. (in_filter (is_in inputs) formals n e).1)

  pub all_joined : (count_by (is_in inputs) formals == length inputs) ≡ list_all (is_in formals) inputs
  all_joined = ap (λ k. k == length inputs) (sym (length-filter (is_in inputs) formals)) ∙ by_cases (list_all (is_in formals) inputs) refl
    where
      by_cases : (t : Bool) → list_all (is_in formals) inputs ≡ t → (length joined == length inputs) ≡ t
      by_cases true e =
          let many : length inputs ≤ length joined = no_longer inputs joined apart (λ n f. filter_in (is_in inputs) formals n (each_in (is_in formals) inputs n e f) f) in
          let le = few in
          grind (arith, nat_tests)
      by_cases false e =
          let one = lacking (is_in formals) inputs e in
          let new : is_in joined one.0 ≡ false = none one.0 one.2 in
          let more : suc (length joined) ≤ length inputs =
          no_longer (one.0 ∷ joined) inputs (λ j. not (new j) && once_filter (is_in inputs) formals once j)
          (λ n f. ⊎_elim (λ same. subst (λ k. is_in inputs k ≡ true) (same_number one.0 n same) one.1) (λ rest. (in_filter (is_in inputs) formals n rest).1) (or_cases (one.0 == n) (is_in joined n) f)) in
          grind (arith, nat_tests)
        where
          none : (n : ℕ) → is_in formals n ≡ false → is_in joined n ≡ false
          none n f = by_test (is_in joined n) refl
            where
              by_test : (t : Bool) → is_in joined n ≡ t → t ≡ false
              by_test true g = sym (in_filter (is_in inputs) formals n g).0 ∙ f
              by_test false g = refl

pub well_joined : (inputs outputs formals : List ℕ) → is_once inputs ≡ true
    → joins_well inputs outputs formals ≡ (list_all (is_in (inputs ++ outputs)) formals && (count_by (is_in inputs) formals == length inputs) && is_once formals)
well_joined inputs outputs formals apart = by_cases (list_all (is_in (inputs ++ outputs)) formals) (is_once formals) refl
  where
    left_false : (b : Bool) → false ≡ (b && false)
    left_false true = refl
    left_false false = refl

    right_true : (b : Bool) → b ≡ (b && true)
    right_true true = refl
    right_true false = refl

    by_cases : (s t : Bool) → is_once formals ≡ t → (s && t && list_all (is_in formals) inputs) ≡ (s && (count_by (is_in inputs) formals == length inputs) && t)
    by_cases false t e = refl
    by_cases true true e = sym (all_joined inputs formals apart e) ∙ right_true (count_by (is_in inputs) formals == length inputs)
    by_cases true false e = left_false (count_by (is_in inputs) formals == length inputs)

-- what a name's port tells
formal_tests : (i : Interface) → IsInterface i → (n : ℕ) → is_formal (port_of i.ports.items n) ≡ is_in (i.inputs ++ i.outputs) n
formal_tests i is n = ap is_formal (is.ports_are n) ∙ by_cases (is_in i.inputs n) (is_in i.outputs n) ∙ sym (list_any-append (λ x. x == n) i.inputs i.outputs)
  where
    by_cases : (s t : Bool) → is_formal (if s then ports.Input else if t then ports.Output else ports.Inner) ≡ (s || t)
    by_cases true t = refl
    by_cases false true = refl
    by_cases false false = refl

input_tests : (i : Interface) → IsInterface i → (n : ℕ) → is_input (port_of i.ports.items n) ≡ is_in i.inputs n
input_tests i is n = ap is_input (is.ports_are n) ∙ by_cases (is_in i.inputs n) (is_in i.outputs n)
  where
    by_cases : (s t : Bool) → is_input (if s then ports.Input else if t then ports.Output else ports.Inner) ≡ s
    by_cases true t = refl
    by_cases false true = refl
    by_cases false false = refl

-- and so it is told by ports whether names are joined well
pub well_by_ports : (i : Interface) → IsInterface i → (formals : List ℕ)
    → joins_well i.inputs i.outputs formals ≡ (list_all (λ n. is_formal (port_of i.ports.items n)) formals && (count_by (λ n. is_input (port_of i.ports.items n)) formals == length i.inputs) && is_once formals)
well_by_ports i is formals =
    well_joined i.inputs i.outputs formals is.once
    ∙ sym (λ j. list_all (λ n. formal_tests i is n j) formals && (count_by (λ n. input_tests i is n j) formals == length i.inputs) && is_once formals)
