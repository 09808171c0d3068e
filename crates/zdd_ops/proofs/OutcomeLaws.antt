-- What comes of the calls on families, by what their names stand for.
use Rattle.std.proofs.Common.{arith, Bool, ◌<◌, ◌==◌, not, true, false, ◌&&◌, ◌||◌, ◌≡◌, ℕ, ◌^◌, Option, Some, ap, ap₂, ◌∙◌}
use Rattle.std.specs.Prelude.{bit_and, bit_or, max, nat_lt}
use Rattle.std.proofs.lemmas.Bool.{lt-ltb}
use Rattle.std.proofs.lemmas.Nat.Bits.{bit_at_above, bit_at_or}
use Rattle.edge_bits.specs.declared.edges.Edge.{Edge}
use Rattle.edge_bits.specs.declared.edges.Kind.TheVariants as kinds
use Rattle.edge_bits.specs.Assignments.{bit, set_bit}
use Rattle.edge_bits.proofs.AssignmentLemmas.{below_from_bits, set_bit-below}
use Rattle.function_laws.specs.declared.history.Name.{Name}
use Rattle.function_laws.specs.declared.history.Call.TheVariants.{Makes}
use Rattle.function_laws.specs.declared.making.Making.TheVariants as makings
use Rattle.function_laws.specs.declared.making.ZddMaking.TheVariants as zdds
use Rattle.function_laws.specs.declared.history.Function.{Function}
use Rattle.function_laws.specs.declared.history.Function.TheVariants.{Zdd}
use Rattle.function_laws.specs.Lists.{any_below, list_of, truth}
use Rattle.function_laws.specs.Families.{base, change, diff, empty, meet, product, quotient, single, subset0, subset1, union}
use Rattle.function_laws.specs.Functions.{diff_of, flip_of, meet_of, off_of, on_of, product_of, quotient_of, union_of}
use Rattle.function_laws.specs.Outcomes.{as_zdd, makes, when, with_one, with_two}
use Rattle.function_laws.specs.Steps.{outcome_of}
use Rattle.function_laws.specs.Tables.{Sizes}
use Rattle.function_laws.proofs.ListLemmas.{all_below-same, any_below-same, length-list_of, list_of-same, truth-list_of}
use Rattle.node_store.specs.Listed.{listed_at}
use Rattle.node_store.specs.Views.{View, family_at}
use Rattle.node_store.proofs.ListedLaws.{two_listed}

-- lists of families of the combinations of m elements
module _ (m : ℕ) (p q : ℕ → Bool) where
  -- a union of two combinations of m elements is one of them
  or-below : (a b : ℕ) → a < 2 ^ m → b < 2 ^ m → bit_or a b < 2 ^ m
  or-below a b ha hb = below_from_bits m (bit_or a b) (λ i from. bit_at_or a b i ∙ ap₂ max (bit_at_above a m i ha from) (bit_at_above b m i hb from))

  on-listed : (e : ℕ) → e < m → on_of (list_of (2 ^ m) p) e ≡ list_of (2 ^ m) (subset1 p e)
  on-listed e within =
      ap (λ n. list_of n (subset1 (truth (list_of (2 ^ m) p)) e)) (length-list_of (2 ^ m) p)
      ∙ list_of-same (2 ^ m) (subset1 (truth (list_of (2 ^ m) p)) e) (subset1 p e)
      (λ a below. ap (λ x. not (bit a e) && x) (truth-list_of (2 ^ m) (set_bit a e true) p (set_bit-below m a e true below within)))

  off-listed : (e : ℕ) → off_of (list_of (2 ^ m) p) e ≡ list_of (2 ^ m) (subset0 p e)
  off-listed e =
      ap (λ n. list_of n (subset0 (truth (list_of (2 ^ m) p)) e)) (length-list_of (2 ^ m) p)
      ∙ list_of-same (2 ^ m) (subset0 (truth (list_of (2 ^ m) p)) e) (subset0 p e) (λ a below. ap (λ x. not (bit a e) && x) (truth-list_of (2 ^ m) a p below))

  flip-listed : (e : ℕ) → e < m → flip_of (list_of (2 ^ m) p) e ≡ list_of (2 ^ m) (change p e)
  flip-listed e within =
      ap (λ n. list_of n (change (truth (list_of (2 ^ m) p)) e)) (length-list_of (2 ^ m) p)
      ∙ list_of-same (2 ^ m) (change (truth (list_of (2 ^ m) p)) e) (change p e)
      (λ a below. truth-list_of (2 ^ m) (set_bit a e (not (bit a e))) p (set_bit-below m a e (not (bit a e)) below within))

  product-listed : product_of (list_of (2 ^ m) p) (list_of (2 ^ m) q) ≡ list_of (2 ^ m) (product (2 ^ m) p q)
  product-listed =
      ap (λ n. list_of n (product n (truth (list_of (2 ^ m) p)) (truth (list_of (2 ^ m) q)))) (length-list_of (2 ^ m) p)
      ∙ list_of-same (2 ^ m) (product (2 ^ m) (truth (list_of (2 ^ m) p)) (truth (list_of (2 ^ m) q))) (product (2 ^ m) p q) (λ a below.
      any_below-same (2 ^ m) (λ b. truth (list_of (2 ^ m) p) b && any_below (2 ^ m) (λ c. truth (list_of (2 ^ m) q) c && (bit_or b c == a)))
      (λ b. p b && any_below (2 ^ m) (λ c. q c && (bit_or b c == a))) (λ b hb.
      ap₂ (λ x y. x && y) (truth-list_of (2 ^ m) b p hb)
      (any_below-same (2 ^ m) (λ c. truth (list_of (2 ^ m) q) c && (bit_or b c == a)) (λ c. q c && (bit_or b c == a))
      (λ c hc. ap (λ x. x && (bit_or b c == a)) (truth-list_of (2 ^ m) c q hc)))))

  quotient-listed : quotient_of (list_of (2 ^ m) p) (list_of (2 ^ m) q) ≡ list_of (2 ^ m) (quotient (2 ^ m) p q)
  quotient-listed =
      ap (λ n. list_of n (quotient n (truth (list_of (2 ^ m) p)) (truth (list_of (2 ^ m) q)))) (length-list_of (2 ^ m) p)
      ∙ list_of-same (2 ^ m) (quotient (2 ^ m) (truth (list_of (2 ^ m) p)) (truth (list_of (2 ^ m) q))) (quotient (2 ^ m) p q) (λ a below.
      ap₂ (λ x y. x && y)
      (any_below-same (2 ^ m) (truth (list_of (2 ^ m) q)) q (λ b hb. truth-list_of (2 ^ m) b q hb))
      (all_below-same (2 ^ m) (λ b. not (truth (list_of (2 ^ m) q) b) || ((bit_and a b == 0) && truth (list_of (2 ^ m) p) (bit_or a b))) (λ b. not (q b) || ((bit_and a b == 0) && p (bit_or a b)))
      (λ b hb. ap₂ (λ x y. not x || ((bit_and a b == 0) && y)) (truth-list_of (2 ^ m) b q hb) (truth-list_of (2 ^ m) (bit_or a b) p (or-below a b below hb)))))

module _ (w : View) (z : Sizes) (cells : ℕ → Option Function) (live : Name → Option Function) where
  element_in_range : z.elements ≡ w.elements → (e : ℕ) → e < w.elements → nat_lt e z.elements ≡ true
  element_in_range elements e within = lt-ltb e z.elements (omega (arith, within, elements))

  pub outcome-empty : z.elements ≡ w.elements → outcome_of z cells live (Makes (makings.Zdd zdds.Empty)) ≡ Some (makes (Zdd (list_of (2 ^ w.elements) empty)))
  outcome-empty elements = ap (λ n. Some (makes (Zdd (list_of (2 ^ n) empty)))) elements

  pub outcome-base : z.elements ≡ w.elements → outcome_of z cells live (Makes (makings.Zdd zdds.Base)) ≡ Some (makes (Zdd (list_of (2 ^ w.elements) base)))
  outcome-base elements = ap (λ n. Some (makes (Zdd (list_of (2 ^ n) base)))) elements

  pub outcome-single : z.elements ≡ w.elements → (e : ℕ) → e < w.elements → outcome_of z cells live (Makes (makings.Zdd (zdds.Single e))) ≡ Some (makes (Zdd (list_of (2 ^ w.elements) (single e))))
  outcome-single elements e within = ap₂ (λ c n. when c (Some (makes (Zdd (list_of (2 ^ n) (single e)))))) (element_in_range elements e within) elements

  module _ (a b : Name) (e d : Edge) (first : live a ≡ Some (listed_at kinds.Zdd w e)) (second : live b ≡ Some (listed_at kinds.Zdd w d)) where
    pub outcome-union : outcome_of z cells live (Makes (makings.Zdd (zdds.Union a b))) ≡ Some (makes (Zdd (list_of (2 ^ w.elements) (union (family_at w e) (family_at w d)))))
    outcome-union =
        ap₂ (λ x y. with_two (as_zdd x) (as_zdd y) (λ f g. makes (Zdd (union_of f g)))) first second
        ∙ ap (λ f. Some (makes (Zdd f))) (two_listed (λ x y. x || y) false false (2 ^ w.elements) (family_at w e) (family_at w d))

    pub outcome-meet : outcome_of z cells live (Makes (makings.Zdd (zdds.Meet a b))) ≡ Some (makes (Zdd (list_of (2 ^ w.elements) (meet (family_at w e) (family_at w d)))))
    outcome-meet =
        ap₂ (λ x y. with_two (as_zdd x) (as_zdd y) (λ f g. makes (Zdd (meet_of f g)))) first second
        ∙ ap (λ f. Some (makes (Zdd f))) (two_listed (λ x y. x && y) false false (2 ^ w.elements) (family_at w e) (family_at w d))

    pub outcome-diff : outcome_of z cells live (Makes (makings.Zdd (zdds.Diff a b))) ≡ Some (makes (Zdd (list_of (2 ^ w.elements) (diff (family_at w e) (family_at w d)))))
    outcome-diff =
        ap₂ (λ x y. with_two (as_zdd x) (as_zdd y) (λ f g. makes (Zdd (diff_of f g)))) first second
        ∙ ap (λ f. Some (makes (Zdd f))) (two_listed (λ x y. x && not y) false false (2 ^ w.elements) (family_at w e) (family_at w d))

    pub outcome-product : outcome_of z cells live (Makes (makings.Zdd (zdds.Product a b))) ≡ Some (makes (Zdd (list_of (2 ^ w.elements) (product (2 ^ w.elements) (family_at w e) (family_at w d)))))
    outcome-product =
        ap₂ (λ x y. with_two (as_zdd x) (as_zdd y) (λ f g. makes (Zdd (product_of f g)))) first second
        ∙ ap (λ f. Some (makes (Zdd f))) (product-listed w.elements (family_at w e) (family_at w d))

    pub outcome-quotient : outcome_of z cells live (Makes (makings.Zdd (zdds.Quotient a b))) ≡ Some (makes (Zdd (list_of (2 ^ w.elements) (quotient (2 ^ w.elements) (family_at w e) (family_at w d)))))
    outcome-quotient =
        ap₂ (λ x y. with_two (as_zdd x) (as_zdd y) (λ f g. makes (Zdd (quotient_of f g)))) first second
        ∙ ap (λ f. Some (makes (Zdd f))) (quotient-listed w.elements (family_at w e) (family_at w d))

  module _ (elements : z.elements ≡ w.elements) (a : Name) (v : ℕ) (e : Edge) (within : v < w.elements) (stands : live a ≡ Some (listed_at kinds.Zdd w e)) where
    pub outcome-subset1 : outcome_of z cells live (Makes (makings.Zdd (zdds.Subset1 a v))) ≡ Some (makes (Zdd (list_of (2 ^ w.elements) (subset1 (family_at w e) v))))
    outcome-subset1 =
        ap₂ (λ c x. when c (with_one (as_zdd x) (λ p. makes (Zdd (on_of p v))))) (element_in_range elements v within) stands
        ∙ ap (λ p. Some (makes (Zdd p))) (on-listed w.elements (family_at w e) (family_at w e) v within)

    pub outcome-subset0 : outcome_of z cells live (Makes (makings.Zdd (zdds.Subset0 a v))) ≡ Some (makes (Zdd (list_of (2 ^ w.elements) (subset0 (family_at w e) v))))
    outcome-subset0 =
        ap₂ (λ c x. when c (with_one (as_zdd x) (λ p. makes (Zdd (off_of p v))))) (element_in_range elements v within) stands
        ∙ ap (λ p. Some (makes (Zdd p))) (off-listed w.elements (family_at w e) (family_at w e) v)

    pub outcome-change : outcome_of z cells live (Makes (makings.Zdd (zdds.Change a v))) ≡ Some (makes (Zdd (list_of (2 ^ w.elements) (change (family_at w e) v))))
    outcome-change =
        ap₂ (λ c x. when c (with_one (as_zdd x) (λ p. makes (Zdd (flip_of p v))))) (element_in_range elements v within) stands
        ∙ ap (λ p. Some (makes (Zdd p))) (flip-listed w.elements (family_at w e) (family_at w e) v within)
