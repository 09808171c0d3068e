-- Each line's function, or its complement, is a part of a root's function.
use Rattle.std.proofs.Common.{◌≡◌, ℕ, zero, suc, ◌+◌, ◌-◌, ◌<◌, ◌≤◌, ◌⊎◌, inl, inr, nat_lt, Bool, true, false, cond, ℤ, pos, negsuc, List, [], ◌∷◌, Some, Contains, length, map, nat_abs, slice_get, eqb, eqb-true, refl, sym, ap, ◌∙◌, subst, arith}
use Rattle.std.specs.Prelude.{◌==◌}
use Rattle.std.proofs.lemmas.Bool.Decides.{nat_tests}
use Rattle.edge_bits.specs.declared.edges.Line.{Line}
use Rattle.diagram_dumps.specs.declared.dump.Dump.{Dump}
use Rattle.diagram_dumps.specs.Dumps.{line_value, root_value}
use Rattle.diagram_dumps.specs.WellMade.{IsWellMade, Numbers, NumbersAll, fresh, numbered}
use Rattle.function_laws.specs.Kinds.{Denoted, BddFunction, opposite}
use Rattle.function_laws.specs.Sizes.{Orders, all_parts, order_of, part_of, parts}
use Rattle.function_laws.specs.SiftedOrders.{place_of}
use Rattle.function_laws.proofs.DistinctLemmas.{In, In-left, In-right, In-append}
use Rattle.function_laws.proofs.PartLaws.{Above, whole_part}
use Rattle.function_laws.proofs.LackingParts.{Free, Free-opposite, opposite-opposite, part-opposite, part_there}
use Rattle.diagram_dumps.specs.Under.{IsUnder, functions_of}
use Rattle.diagram_dumps.proofs.Lines.{signed_value}
use Rattle.diagram_dumps.proofs.Standing.{depends, else_is, free_before, then_is, there}

-- of an index
abbrev pub at_index : Dump → ℕ → Denoted
at_index dump index = BddFunction (line_value dump index)

-- the one is the other, or its complement
abbrev pub IsUpTo : Denoted → Denoted → Type 0
IsUpTo f g = (f ≡ g) ⊎ (f ≡ opposite g)

other_side : (f g : Denoted) → IsUpTo f g → IsUpTo (opposite f) g
other_side f g (inl e) = inr (ap opposite e)
other_side f g (inr e) = inl (ap opposite e ∙ opposite-opposite g)

pub turned : (f g : Denoted) → IsUpTo f g → IsUpTo g f
turned f g (inl e) = inl (sym e)
turned f g (inr e) = inr (sym (opposite-opposite g) ∙ ap opposite (sym e))

pub up_to_twice : (f g h : Denoted) → IsUpTo f g → IsUpTo g h → IsUpTo f h
up_to_twice f g h (inl e) u = subst (λ x. IsUpTo x h) (sym e) u
up_to_twice f g h (inr e) u = subst (λ x. IsUpTo x h) (sym e) (other_side g h u)

pub part_up_to : (f g h : Denoted) (v : ℕ) (b : Bool) → IsUpTo f g → part_of g v b ≡ h → IsUpTo (part_of f v b) h
part_up_to f g h v b (inl e) is = inl (ap (λ x. part_of x v b) e ∙ is)
part_up_to f g h v b (inr e) is = inr (ap (λ x. part_of x v b) e ∙ part-opposite g v b ∙ ap opposite is)

pub free_up_to : (f g : Denoted) (v : ℕ) → IsUpTo f g → Free f v → Free g v
free_up_to f g v (inl e) free = subst (λ x. Free x v) e free
free_up_to f g v (inr e) free =
    subst (λ x. Free x v) (opposite-opposite g) (Free-opposite (opposite g) v (subst (λ x. Free x v) e free))

pub signed_up_to : (dump : Dump) (z : ℤ) → IsUpTo (BddFunction (signed_value dump z)) (at_index dump (nat_abs z))
signed_up_to dump (pos index) = inl refl
signed_up_to dump (negsuc lower) =
    let more : lower + 1 ≡ suc lower = omega arith in
    inr (ap (λ i. opposite (at_index dump i)) more)

-- free of all that stand before it
above_by : (v : ℕ) (f : Denoted) (us : List ℕ) → ((w : ℕ) → place_of w us < place_of v us → Free f w) → Above Free us v f
above_by v f [] free = tt
above_by v f (u ∷ us) free = by_head (eqb u v) refl (λ deeper. above_by v f us deeper)
  where
    first_place : place_of u (u ∷ us) ≡ 0
    first_place = ap (λ b. cond b 0 (suc (place_of u us))) (own u)
      where
        own : (x : ℕ) → eqb x x ≡ true
        own x = grind (arith, nat_tests)

    by_head : (b : Bool) → (u == v) ≡ b → (((w : ℕ) → place_of w us < place_of v us → Free f w) → Above Free us v f) → (u ≡ v) ⊎ (Free f u × Above Free us v f)
    by_head true e rest = inl (eqb-true u v e)
    by_head false e rest =
        let place : place_of v (u ∷ us) ≡ suc (place_of v us) = ap (λ b. cond b 0 (suc (place_of v us))) e in
        inr (free u (omega (arith, first_place, place)), rest (λ w lower. by_next w lower (eqb u w) refl place))
      where
        by_next : (w : ℕ) → place_of w us < place_of v us → (c : Bool) → (u == w) ≡ c → place_of v (u ∷ us) ≡ suc (place_of v us) → Free f w
        by_next w lower true is place =
            let at : place_of w (u ∷ us) ≡ 0 = ap (λ b. cond b 0 (suc (place_of w us))) is in free w (omega (arith, at, place))
        by_next w lower false is place =
            let at : place_of w (u ∷ us) ≡ suc (place_of w us) = ap (λ b. cond b 0 (suc (place_of w us))) is in free w (omega (arith, at, place, lower))

pub Contains-In : (v : ℕ) (us : List ℕ) → Contains us v → In v us
Contains-In v [] (i, inside, here) = absurd (omega (arith, inside))
Contains-In v (u ∷ us) (zero, inside, here) = inl (sym here)
Contains-In v (u ∷ us) (suc i, inside, here) = inr (Contains-In v us (i, omega (arith, inside), here))

-- parts of several functions
pub In-all_parts : (o : Orders) (g h : Denoted) (fs : List Denoted) → In h fs → In g (parts (order_of o h) h) → In g (all_parts o fs)
unfolding all_parts
In-all_parts o g h [] i j = absurd i
In-all_parts o g h (f ∷ fs) (inl e) j = In-left g (parts (order_of o f) f) (all_parts o fs) (subst (λ x. In g (parts (order_of o x) x)) e j)
In-all_parts o g h (f ∷ fs) (inr i) j = In-right g (parts (order_of o f) f) (all_parts o fs) (In-all_parts o g h fs i j)

pub all_parts-In : (o : Orders) (g : Denoted) (fs : List Denoted) → In g (all_parts o fs) → (h : Denoted) × In h fs × In g (parts (order_of o h) h)
unfolding all_parts
all_parts-In o g [] i = absurd i
all_parts-In o g (f ∷ fs) i = elim (In-append g (parts (order_of o f) f) (all_parts o fs) i) [
  | inl j ↦ (f, inl refl, j)
  | inr j ↦ (let r = all_parts-In o g fs j in (r.0, inr r.1, r.2))
]

module _ (dump : Dump) (well : IsWellMade dump) (orders : Orders) (under : IsUnder orders.variables dump) where
  -- the function of an index, or its complement, is a part of one of these
  pub record Shown (fs : List Denoted) (index : ℕ) : Type 0 where
    pub root : ℕ → Bool
    pub asked : In (BddFunction root) fs
    pub part : Denoted
    pub among : In part (parts orders.variables (BddFunction root))
    pub is : IsUpTo part (at_index dump index)

  -- so are the children's of a line that is
  shown_part : (fs : List Denoted) (place : ℕ) (line : Line) (at : slice_get dump.nodes place ≡ Some line) (b : Bool) (index : ℕ)
      → IsUpTo (part_of (at_index dump (place + 2)) line.var b) (at_index dump index) → Shown fs (place + 2) → Shown fs index
  shown_part fs place line at b index child h = record {
    root = h.root;
    asked = h.asked;
    part = part_of h.part line.var b;
    among = part_there orders.variables (BddFunction h.root) h.part line.var b (Contains-In line.var orders.variables (there dump well orders.variables under place line at)) h.among
        (λ free. depends dump well orders.variables under place line at (free_up_to h.part (at_index dump (place + 2)) line.var h.is free))
        (above_by line.var h.part orders.variables (λ w lower.
        free_up_to (at_index dump (place + 2)) h.part w (turned h.part (at_index dump (place + 2)) h.is) (free_before dump well orders.variables under w place line at lower)));
    is = up_to_twice (part_of h.part line.var b) (part_of (at_index dump (place + 2)) line.var b) (at_index dump index)
        (part_up_to h.part (at_index dump (place + 2)) (part_of (at_index dump (place + 2)) line.var b) line.var b h.is refl) child;
  }

  pub then_up_to : (place : ℕ) (line : Line) → slice_get dump.nodes place ≡ Some line → IsUpTo (part_of (at_index dump (place + 2)) line.var true) (at_index dump line.hi)
  then_up_to place line at = inl (ap BddFunction (then_is dump well orders.variables under place line at))

  pub else_up_to : (place : ℕ) (line : Line) → slice_get dump.nodes place ≡ Some line → IsUpTo (part_of (at_index dump (place + 2)) line.var false) (at_index dump (nat_abs line.lo))
  else_up_to place line at =
      subst (λ x. IsUpTo x (at_index dump (nat_abs line.lo))) (sym (ap BddFunction (else_is dump well orders.variables under place line at))) (signed_up_to dump line.lo)

  -- a walk goes through what is shown
  visits : (fs : List Denoted) (next index after : ℕ) → Numbers dump next index after → Shown fs index → (j : ℕ) → next ≤ j → j < after → Shown fs j
  visits fs _ _ _ (numbered low high) shown j from to = absurd (omega arith)
  visits fs _ _ _ (fresh {next} {middle} index line at two first second) shown j from to =
      let back : (index - 2) + 2 ≡ index = omega arith in
      let here : Shown fs ((index - 2) + 2) = subst (Shown fs) (sym back) shown in
      by_test (nat_lt j middle) (nat_lt j index) refl refl
      (visits fs next line.hi middle first (shown_part fs (index - 2) line at true line.hi (then_up_to (index - 2) line at) here) j from)
      (visits fs middle (nat_abs line.lo) index second (shown_part fs (index - 2) line at false (nat_abs line.lo) (else_up_to (index - 2) line at) here) j)
    where
      by_test : (a b : Bool) → nat_lt j middle ≡ a → nat_lt j index ≡ b → (j < middle → Shown fs j) → (middle ≤ j → j < index → Shown fs j) → Shown fs j
      by_test true b e g one two = let lower : j < middle = grind (arith, nat_tests) in one lower
      by_test false true e g one two =
          let upper : middle ≤ j = grind (arith, nat_tests) in let lower : j < index = grind (arith, nat_tests) in two upper lower
      by_test false false e g one two =
          let upper : index ≤ j = grind (arith, nat_tests) in let same : index ≡ j = omega arith in subst (Shown fs) same shown

  abbrev root_function : ℤ → Denoted
  root_function root = BddFunction (root_value dump root)

  shown_root : (fs : List Denoted) (root : ℤ) → In (root_function root) fs → Shown fs (nat_abs root)
  shown_root fs root asked = record {
    root = root_value dump root;
    asked = asked;
    part = root_function root;
    among = whole_part orders.variables (root_function root);
    is = signed_up_to dump root;
  }

  visits_all : (fs : List Denoted) (next : ℕ) (roots : List ℤ) (after : ℕ) → NumbersAll dump next roots after
      → ((f : Denoted) → In f (map root_function roots) → In f fs) → (j : ℕ) → next ≤ j → j < after → Shown fs j
  visits_all fs next [] after same asked j from to = absurd (omega (arith, same))
  visits_all fs next (root ∷ roots) after (middle, first, rest) asked j from to =
      by_test (nat_lt j middle) refl (λ upper. visits_all fs middle roots after rest (λ f i. asked f (inr i)) j upper to)
    where
      by_test : (a : Bool) → nat_lt j middle ≡ a → (middle ≤ j → Shown fs j) → Shown fs j
      by_test true e later = let lower : j < middle = grind (arith, nat_tests) in visits fs next (nat_abs root) middle first (shown_root fs root (asked (root_function root) (inl refl))) j from lower
      by_test false e later = let upper : middle ≤ j = grind (arith, nat_tests) in later upper

  -- each line is
  pub all_shown : (j : ℕ) → 2 ≤ j → j < 2 + length dump.nodes → Shown (functions_of dump) j
  all_shown j from to = visits_all (functions_of dump) 2 dump.roots (2 + length dump.nodes) well.order (λ f i. i) j from to
