-- A node load moves a walk to a child: the value stays, and a variable is passed that was not passed before.
use Rattle.std.proofs.Common.{◌≡◌, ◌≢◌, inl, inr, ℕ, zero, suc, ◌+◌, ◌-◌, ◌<◌, ◌≤◌, ◌^◌, Bool, true, false, cond, ◌||◌, ℤ, pos, List, [], ◌∷◌, length, Some, eqb, eqb-true, get_or, ltb, refl, ap, sym, subst, ◌∙◌, ne_eqb, arith}
use Rattle.std.specs.List.{IsDistinct, AllByRecursion, list_any}
use Rattle.std.proofs.lemmas.Bool.{cases_eq, cases_lt, lt-ltb, le-ltb}
use Rattle.std.proofs.lemmas.Map.Steps.{length-le_from_distinct_below}
use Rattle.std.proofs.lemmas.Nat.Bits.{bit_at-zero, bit_at_above}
use Rattle.edge_bits.specs.Assignments.{bit, set_bit}
use Rattle.edge_bits.specs.Permanent.{base_slot, first_element}
use Rattle.edge_bits.specs.Reading.{element_of}
use Rattle.edge_bits.specs.Words.{digit}
use Rattle.edge_bits.specs.declared.edges.Edge.{Edge}
use Rattle.edge_bits.specs.declared.edges.Kind.{Kind}
use Rattle.edge_bits.specs.declared.edges.Kind.TheVariants.{Bdd, Add, Zdd}
use Rattle.edge_bits.proofs.AssignmentLemmas.{bit-set_other, bit-set_same, same_bits, set_bit-below}
use Rattle.function_laws.specs.Families.{base}
use Rattle.function_laws.specs.Kinds.{Denoted, ZddFamily, AddFunction, ValueOf, Lacks, function_of, joined_at, flipped}
use Rattle.function_laws.specs.SessionEntries.{Each}
use Rattle.function_laws.specs.Values.{assignment_of, constant}
use Rattle.function_laws.proofs.BitLists.{assignment_of-below, bit-assignment_of}
use Rattle.function_laws.proofs.LackingParts.{Free, Free-Lacks, Free-more, Lacks-Free, own, part-function}
use Rattle.node_store.specs.KindLaws.{part-joined}
use Rattle.node_store.specs.declared.grow.Opened.{Opened}
use Rattle.node_store.specs.declared.grow.Opened.TheVariants.{Inner, Leaf}
use Rattle.node_store.specs.Listed.{number_of}
use Rattle.node_store.specs.Views.{View, Opens, Grown, Is, IsLeafOf, IsVariable, function_at, levels, values_at, logic_one, logic_zero, number, no_member, only_base}
use Rattle.node_store.proofs.Parting.{depends, same_kind}
use Rattle.step_store.specs.Walking.{AreNeeded, IsJoined, Tells, name_at, ones}
use Rattle.step_store.proofs.Passing.{some_same}

each_map : {A : Type 0} (P Q : A → Type 0) → ((x : A) → P x → Q x) → (xs : List A) → Each P xs → Each Q xs
each_map P Q h [] all = tt
each_map P Q h (x ∷ xs) all = (h x all.0, each_map P Q h xs all.1)

-- bits that are 1
ones_same : (n j k : ℕ) → ((u : ℕ) → u < n → bit j u ≡ bit k u) → ones n j ≡ ones n k
ones_same zero j k h = refl
ones_same (suc n) j k h =
    let a = ones_same n j k (λ u lt. h u (omega (arith, lt))) in
    let b = ap digit (h n (omega arith)) in omega (arith, a, b)

pub ones_cleared : (n k v : ℕ) → v < n → bit k v ≡ true → ones n (set_bit k v false) + 1 ≡ ones n k
ones_cleared zero k v lt is = absurd (omega (arith, lt))
ones_cleared (suc n) k v lt is = elim (cases_eq v n) [
  | inl e ↦ (
      let a = ones_same n (set_bit k v false) k (λ u below. bit-set_other k v u false (λ (same : u ≡ v). absurd (omega (arith, same, e, below)))) in
      let b : digit (bit (set_bit k v false) n) ≡ 0 = ap digit (ap (bit (set_bit k v false)) (sym e) ∙ bit-set_same k v false) in
      let c : digit (bit k n) ≡ 1 = ap digit (ap (bit k) (sym e) ∙ is) in omega (arith, a, b, c))
  | inr ne ↦ (
      let a = ones_cleared n k v (omega (arith, lt, ne)) is in
      let b : digit (bit (set_bit k v false) n) ≡ digit (bit k n) = ap digit (bit-set_other k v n false (λ (same : n ≡ v). ne (sym same))) in omega (arith, a, b))
]

no_ones : (n k : ℕ) → ones n k ≡ 0 → (u : ℕ) → u < n → bit k u ≡ false
no_ones zero k none u lt = absurd (omega (arith, lt))
no_ones (suc n) k none u lt = elim (cases_eq u n) [
  | inl e ↦ ap (bit k) e ∙ clear (bit k n) (omega (arith, none))
  | inr ne ↦ no_ones n k (omega (arith, none)) u (omega (arith, lt, ne))
]
  where
    clear : (b : Bool) → digit b ≡ 0 → b ≡ false
    clear true e = absurd (omega (arith, e))
    clear false e = refl

zero_bit : (u : ℕ) → bit 0 u ≡ false
zero_bit u = ap (λ (d : ℕ). eqb d 1) (bit_at-zero u)

pub ones_none : (n k : ℕ) → k < 2 ^ n → ones n k ≡ 0 → k ≡ 0
ones_none n k below none = same_bits k 0 (λ u. elim (cases_lt u n) [
  | inl lt ↦ no_ones n k none u lt ∙ sym (zero_bit u)
  | inr le ↦ ap (λ (d : ℕ). eqb d 1) (bit_at_above k n u below le) ∙ sym (zero_bit u)
])

zero_ones : (n : ℕ) → ones n 0 ≡ 0
zero_ones zero = refl
zero_ones (suc n) = let a = zero_ones n in let b : digit (bit 0 n) ≡ 0 = ap digit (zero_bit n) in omega (arith, a, b)

-- how a kind's order has a variable number
named : (k : Kind) (w : View) (v : ℕ) → IsVariable k w v → name_at k (own k v) ≡ v
named Bdd w v i = refl
named Add w v i = refl
named Zdd w v i = let a = i.0 in omega (arith, a)

own_within : (k : Kind) (w : View) (v : ℕ) → IsVariable k w v → own k v < levels k w
own_within Bdd w v i = i.1
own_within Add w v i = i.1
own_within Zdd w v i = let a = i.0 in let b = i.1 in omega (arith, a, b)

-- the value of a node's function is that of the child that the bit chooses, without the bit
child_value : (k : Kind) (v : ℕ) (h l : ℕ → ValueOf k) (rest : ℕ) (b : Bool) → Lacks k h v → Lacks k l v → bit rest (own k v) ≡ b
    → (cond b h l) (cond b (set_bit rest (own k v) false) rest) ≡ joined_at k v h l rest
child_value Bdd v h l rest true hv lv is = hv rest false ∙ sym (ap (λ (b : Bool). cond b (h rest) (l rest)) is)
child_value Bdd v h l rest false hv lv is = sym (ap (λ (b : Bool). cond b (h rest) (l rest)) is)
child_value Add v h l rest true hv lv is = hv rest false ∙ sym (ap (λ (b : Bool). cond b (h rest) (l rest)) is)
child_value Add v h l rest false hv lv is = sym (ap (λ (b : Bool). cond b (h rest) (l rest)) is)
child_value Zdd v h l rest true hv lv is = sym (ap (λ (b : Bool). cond b (h (set_bit rest (element_of v) false)) (l rest)) is)
child_value Zdd v h l rest false hv lv is = sym (ap (λ (b : Bool). cond b (h (set_bit rest (element_of v) false)) (l rest)) is)

-- what a node's function lacks, its children lack
child_lacks : (k : Kind) (v : ℕ) (h l : ℕ → ValueOf k) (b : Bool) (u : ℕ) → Lacks k h v → Lacks k l v → Lacks k (joined_at k v h l) u → Lacks k (cond b h l) u
child_lacks k v h l b u hv lv lacks =
    let g : ℕ → ValueOf k = joined_at k v h l in
    Lacks-Free k (cond b h l) u (subst (λ (f : ℕ → ValueOf k). Free (function_of k f) (own k u)) (part-joined k v h l b hv lv)
    (subst (λ (d : Denoted). Free d (own k u)) (part-function k g v b) (Free-more (function_of k g) (own k u) (own k v) b (Free-Lacks k g u lacks))))

apart_all : (v : ℕ) (path : List ℕ) → Each (λ (t : ℕ). v ≢ t) path → AllByRecursion (λ (y : ℕ). eqb v y ≡ false) path
apart_all v [] all = tt
apart_all v (t ∷ path) all = (ne_eqb v t all.0, apart_all v path all.1)

below_any : (n : ℕ) (l : List ℕ) → Each (λ (u : ℕ). u < n) l → (q : ℕ) → list_any (eqb q) l ≡ true → q < n
below_any n [] all q e = cc
below_any n (x ∷ l) all q e = by (below_any n l all.1 q) (eqb q x) refl
  where
    by : (list_any (eqb q) l ≡ true → q < n) → (b : Bool) → eqb q x ≡ b → q < n
    by rest true is = subst (λ (y : ℕ). y < n) (sym (eqb-true q x is)) all.0
    by rest false is = rest (sym (ap (λ (b : Bool). b || list_any (eqb q) l) is) ∙ e)

-- The walk of a function's value has come to an edge: what it denotes has the same value at the bits that are left, and lacks what was passed.
pub record IsOnWay (k : Kind) (start now : View) (f : ℕ → ValueOf k) (bits : ℕ) (at : Edge) (path : List ℕ) (taken : ℕ) : Type 0 where
  pub is : Is k now at
  pub rest : ℕ
  pub value : values_at k now at rest ≡ f bits
  pub once : IsDistinct eqb path
  pub within : Each (λ (u : ℕ). u < levels k start) path
  pub needed : Each (λ (u : ℕ). Lacks k f (name_at k u) → ⊥) path
  pub lacked : Each (λ (u : ℕ). Lacks k (values_at k now at) (name_at k u)) path
  pub more : (v : ℕ) → Lacks k f v → Lacks k (values_at k now at) v
  pub below : rest < 2 ^ levels k start
  pub others : (u : ℕ) → Each (λ (t : ℕ). u ≢ t) path → bit rest u ≡ bit bits u
  pub count : taken + ones (levels k start) rest ≡ ones (levels k start) bits

pub begins : (k : Kind) (start : View) (bits : ℕ) (at : Edge) → Is k start at → bits < 2 ^ levels k start → IsOnWay k start start (values_at k start at) bits at [] 0
unfolding IsDistinct
begins k start bits at is below = record {
  is = is;
  rest = bits;
  value = refl;
  once = tt;
  within = tt;
  needed = tt;
  lacked = tt;
  more = λ v h. h;
  below = below;
  others = λ u h. refl;
  count = omega arith;
}

levels_same : (k : Kind) (a b : View) → Grown a b → levels k b ≡ levels k a
levels_same Bdd a b g = g.vars
levels_same Add a b g = g.vars
levels_same Zdd a b g = g.elements

pub short : (k : Kind) (start now : View) (f : ℕ → ValueOf k) (bits : ℕ) (at : Edge) (path : List ℕ) (taken : ℕ) → IsOnWay k start now f bits at path taken → length path ≤ levels k start
short k start now f bits at path taken way = length-le_from_distinct_below path (levels k start) way.once (below_any (levels k start) path way.within)

pub passed : (k : Kind) (start now : View) (f : ℕ → ValueOf k) (bits : ℕ) (at : Edge) (path : List ℕ) (taken : ℕ) → IsOnWay k start now f bits at path taken → AreNeeded k start f path
passed k start now f bits at path taken way = record { once = way.once; within = way.within; needed = way.needed }

module _ (k : Kind) (start now next : View) (f : ℕ → ValueOf k) (bits : ℕ) (at hi lo : Edge) (v : ℕ) (path : List ℕ) (taken : ℕ) (b : Bool) (grown : Grown start next) (way : IsOnWay k start now f bits at path taken)
    (node : IsJoined k next (values_at k now at) v hi lo) (chosen : bit bits (own k v) ≡ b) where
  abbrev high : ℕ → ValueOf k
  high = values_at k next hi

  abbrev low : ℕ → ValueOf k
  low = values_at k next lo

  abbrev child : Edge
  child = cond b hi lo

  child_is : values_at k next child ≡ cond b high low
  child_is = by b
    where
      by : (b : Bool) → values_at k next (cond b hi lo) ≡ cond b high low
      by true = refl
      by false = refl

  child_there : Is k next child
  child_there = by b
    where
      by : (b : Bool) → Is k next (cond b hi lo)
      by true = node.hi_is
      by false = node.lo_is

  named_here : name_at k (own k v) ≡ v
  named_here = named k next v node.in_range

  dependent : Lacks k (values_at k now at) v → ⊥
  dependent lacks = depends k v high low node.hi_lacks node.lo_lacks node.proper (subst (λ (g : ℕ → ValueOf k). Lacks k g v) node.is lacks)

  fresh : Each (λ (t : ℕ). own k v ≢ t) path
  fresh = each_map (λ (t : ℕ). Lacks k (values_at k now at) (name_at k t)) (λ (t : ℕ). own k v ≢ t)
      (λ t lacks same. dependent (subst (λ (x : ℕ). Lacks k (values_at k now at) x) (ap (name_at k) (sym same) ∙ named_here) lacks)) path way.lacked

  bit_here : bit way.rest (own k v) ≡ b
  bit_here = way.others (own k v) fresh ∙ chosen

  lacks_more : (u : ℕ) → Lacks k (values_at k now at) u → Lacks k (values_at k next child) u
  lacks_more u lacks = subst (λ (g : ℕ → ValueOf k). Lacks k g u) (sym child_is) (child_lacks k v high low b u node.hi_lacks node.lo_lacks (subst (λ (g : ℕ → ValueOf k). Lacks k g u) node.is lacks))

  lacks_here : Lacks k (values_at k next child) v
  lacks_here = subst (λ (g : ℕ → ValueOf k). Lacks k g v) (sym child_is) (by b)
    where
      by : (b : Bool) → Lacks k (cond b high low) v
      by true = node.hi_lacks
      by false = node.lo_lacks

  abbrev left : ℕ
  left = cond b (set_bit way.rest (own k v) false) way.rest

  inside : own k v < levels k start
  inside = subst (λ (n : ℕ). own k v < n) (levels_same k start next grown) (own_within k next v node.in_range)

  left_below : left < 2 ^ levels k start
  left_below = by b
    where
      by : (b : Bool) → cond b (set_bit way.rest (own k v) false) way.rest < 2 ^ levels k start
      by true = set_bit-below (levels k start) way.rest (own k v) false way.below inside
      by false = way.below

  left_other : (u : ℕ) → u ≢ own k v → bit left u ≡ bit way.rest u
  left_other u ne = by b
    where
      by : (b : Bool) → bit (cond b (set_bit way.rest (own k v) false) way.rest) u ≡ bit way.rest u
      by true = bit-set_other way.rest (own k v) u false ne
      by false = refl

  left_count : (taken + digit b) + ones (levels k start) left ≡ ones (levels k start) bits
  left_count = by b bit_here
    where
      by : (b : Bool) → bit way.rest (own k v) ≡ b → (taken + digit b) + ones (levels k start) (cond b (set_bit way.rest (own k v) false) way.rest) ≡ ones (levels k start) bits
      by true is = let a = ones_cleared (levels k start) way.rest (own k v) inside is in let c = way.count in omega (arith, a, c)
      by false is = let c = way.count in omega (arith, c)

  pub goes_on : IsOnWay k start next f bits (cond b hi lo) (own k v ∷ path) (taken + digit b)
  unfolding IsDistinct
  goes_on = record {
    is = child_there;
    rest = left;
    value = ap (λ (g : ℕ → ValueOf k). g left) child_is ∙ child_value k v high low way.rest b node.hi_lacks node.lo_lacks bit_here ∙ sym (ap (λ (g : ℕ → ValueOf k). g way.rest) node.is) ∙ way.value;
    once = (apart_all (own k v) path fresh, way.once);
    within = (inside, way.within);
    needed = ((λ lacks. dependent (subst (λ (x : ℕ). Lacks k (values_at k now at) x) named_here (way.more (name_at k (own k v)) lacks))), way.needed);
    lacked = (
      subst (λ (x : ℕ). Lacks k (values_at k next child) x) (sym named_here) lacks_here,
      each_map (λ (t : ℕ). Lacks k (values_at k now at) (name_at k t)) (λ (t : ℕ). Lacks k (values_at k next child) (name_at k t)) (λ t lacks. lacks_more (name_at k t) lacks) path way.lacked,
    );
    more = λ u lacks. lacks_more u (way.more u lacks);
    below = left_below;
    others = λ u all. left_other u all.0 ∙ way.others u all.1;
    count = left_count;
  }

-- the value at a leaf
leaf_value : (k : Kind) (w : View) (e : Edge) (g : ℕ → ValueOf k) (x : ℤ) (n rest taken total : ℕ) → w.content base_slot ≡ Some (ZddFamily base) → function_at w e ≡ Some (function_of k g) → rest < 2 ^ n
    → taken + ones n rest ≡ total → IsLeafOf k e g x → cond (eqb e.index base_slot) (cond (ltb taken total) (pos 0) x) x ≡ number_of k (g rest)
leaf_value _ w _ _ _ n rest taken total there is below count logic_one = refl
leaf_value _ w _ _ _ n rest taken total there is below count logic_zero = refl
leaf_value _ w _ _ _ n rest taken total there is below count (number e x) = elim (cases_eq e.index base_slot) [
  | inl same ↦ absurd (no e.complement (sym (ap (λ (s : ℕ). flipped e.complement (w.content s)) same ∙ ap (flipped e.complement) there) ∙ is))
  | inr ne ↦ ap (λ (b : Bool). cond b (cond (ltb taken total) (pos 0) x) x) (ne_eqb e.index base_slot ne)
]
  where
    no : (c : Bool) → flipped c (Some (ZddFamily base)) ≡ Some (AddFunction (constant x)) → ⊥
    no true h = cc
    no false h = cc
leaf_value _ w _ _ _ n rest taken total there is below count no_member = refl
leaf_value _ w _ _ _ n rest taken total there is below count only_base = elim (cases_eq rest 0) [
  | inl none ↦ (
      let z : ones n rest ≡ 0 = ap (ones n) none ∙ zero_ones n in
      ap (λ (b : Bool). cond b (pos 0) (pos 1)) (le-ltb taken total (omega (arith, z, count))) ∙ sym (ap (λ (r : ℕ). pos (digit (eqb r 0))) none))
  | inr some ↦ (
      let z : ones n rest ≡ 0 → ⊥ = λ none. some (ones_none n rest below none) in
      ap (λ (b : Bool). cond b (pos 0) (pos 1)) (lt-ltb taken total (omega (arith, z, count))) ∙ sym (ap (λ (b : Bool). pos (digit b)) (ne_eqb rest 0 some)))
]

pub leaf_here : (k : Kind) (start now : View) (f : ℕ → ValueOf k) (bits : ℕ) (at : Edge) (path : List ℕ) (taken : ℕ) (x : ℤ) → now.content base_slot ≡ Some (ZddFamily base) → (way : IsOnWay k start now f bits at path taken)
    → IsLeafOf k at (values_at k now at) x → cond (eqb at.index base_slot) (cond (ltb taken (ones (levels k start) bits)) (pos 0) x) x ≡ number_of k (f bits)
leaf_here k start now f bits at path taken x there way leaf =
    leaf_value k now at (values_at k now at) x (levels k start) way.rest taken (ones (levels k start) bits) there way.is.is way.below way.count leaf ∙ ap (number_of k) way.value

-- one bit more is counted
pub ones_next : (bits : List Bool) (i : ℕ) (b : Bool) → get_or bits i false ≡ b → ones (i + 1) (assignment_of bits) ≡ ones i (assignment_of bits) + digit b
ones_next bits i b is =
    let next : i + 1 ≡ suc i = omega arith in
    ap (λ (n : ℕ). ones n (assignment_of bits)) next ∙ ap (λ (b : Bool). ones i (assignment_of bits) + digit b) (bit-assignment_of bits i ∙ is)

-- a walk from an edge, after so many node loads
abbrev pub IsWay : View → View → Edge → List Bool → Edge → ℕ → ℕ → Type 0
IsWay start now edge bits at taken count = (k : Kind) × Is k start edge × (length bits ≡ levels k start) × (path : List ℕ) × (length path ≡ count) × IsOnWay k start now (values_at k start edge) (assignment_of bits) at path taken

pub way_begins : (start : View) (edge : Edge) (bits : List Bool) → ((k : Kind) × Is k start edge × (length bits ≡ levels k start)) → IsWay start start edge bits edge 0 0
way_begins start edge bits w = (w.0, w.1, w.2, [], refl, begins w.0 start (assignment_of bits) edge w.1 (subst (λ (n : ℕ). assignment_of bits < 2 ^ n) w.2 (assignment_of-below bits)))

place_own : (k : Kind) (w : View) (v : ℕ) → IsVariable k w v → cond (ltb v first_element) v (v - first_element) ≡ own k v
place_own Bdd w v i = ap (λ (b : Bool). cond b v (v - first_element)) (lt-ltb v first_element i.0)
place_own Add w v i = ap (λ (b : Bool). cond b v (v - first_element)) (lt-ltb v first_element i.0)
place_own Zdd w v i = ap (λ (b : Bool). cond b v (v - first_element)) (le-ltb v first_element i.0)

pub way_on : (start now next : View) (edge : Edge) (bits : List Bool) (at hi lo : Edge) (v taken count : ℕ) (b : Bool) → Grown start next → IsWay start now edge bits at taken count
    → ((k : Kind) → Is k now at → Tells k next at (values_at k now at) (Inner v hi lo)) → get_or bits (cond (ltb v first_element) v (v - first_element)) false ≡ b
    → IsWay start next edge bits (cond b hi lo) (taken + digit b) (count + 1)
way_on start now next edge bits at hi lo v taken count b grown (k, is, fits, path, as_many, way) tells chosen =
    let node : IsJoined k next (values_at k now at) v hi lo = tells k way.is in (
      k,
      is,
      fits,
      own k v ∷ path,
      omega (arith, as_many),
      goes_on k start now next (values_at k start edge) (assignment_of bits) at hi lo v path taken b grown way node
          (bit-assignment_of bits (own k v) ∙ ap (λ (n : ℕ). get_or bits n false) (sym (place_own k next v node.in_range)) ∙ chosen),
    )

pub way_short : (start now : View) (edge : Edge) (bits : List Bool) (at : Edge) (taken count : ℕ) → IsWay start now edge bits at taken count → count ≤ length bits
way_short start now edge bits at taken count (k, is, fits, path, as_many, way) = let s = short k start now (values_at k start edge) (assignment_of bits) at path taken way in omega (arith, s, fits, as_many)

one_kind : (w : View) (e : Edge) (j k : Kind) → Is j w e → Is k w e → j ≡ k
one_kind w e j k a b = same_kind j k (values_at j w e) (values_at k w e) (some_same _ _ (sym a.is ∙ b.is))

pub way_value : (start now next : View) (edge : Edge) (bits : List Bool) (at : Edge) (taken count : ℕ) (x : ℤ) → now.content base_slot ≡ Some (ZddFamily base) → IsWay start now edge bits at taken count
    → ((k : Kind) → Is k now at → Tells k next at (values_at k now at) (Leaf x)) → (k : Kind) → Is k start edge
    → cond (eqb at.index base_slot) (cond (ltb taken (ones (length bits) (assignment_of bits))) (pos 0) x) x ≡ number_of k (values_at k start edge (assignment_of bits))
way_value start now next edge bits at taken count x there (j, is, fits, path, as_many, way) tells k told =
    subst (λ (k : Kind). cond (eqb at.index base_slot) (cond (ltb taken (ones (length bits) (assignment_of bits))) (pos 0) x) x ≡ number_of k (values_at k start edge (assignment_of bits))) (one_kind start edge j k is told)
    (ap (λ (n : ℕ). cond (eqb at.index base_slot) (cond (ltb taken (ones n (assignment_of bits))) (pos 0) x) x) fits
    ∙ leaf_here j start now (values_at j start edge) (assignment_of bits) at path taken x there way (tells j way.is))

pub way_path : (start now : View) (edge : Edge) (bits : List Bool) (at : Edge) (taken count before after : ℕ) → IsWay start now edge bits at taken count → after ≤ before + count + 1 → (k : Kind) → Is k start edge
    → (path : List ℕ) × AreNeeded k start (values_at k start edge) path × (after ≤ before + length path + 1)
way_path start now edge bits at taken count before after (j, is, fits, path, as_many, way) le k told =
    subst (λ (k : Kind). (path : List ℕ) × AreNeeded k start (values_at k start edge) path × (after ≤ before + length path + 1)) (one_kind start edge j k is told)
    (path, passed j start now (values_at j start edge) (assignment_of bits) at path taken way, omega (arith, le, as_many))

-- what opening an edge answers tells a walk enough
pub opens_tells : (k : Kind) (w : View) (e : Edge) (f : ℕ → ValueOf k) (o : Opened) → Opens k w e f o → Tells k w e f o
opens_tells k w e f (Leaf x) is = is.leaf
opens_tells k w e f (Inner v hi lo) is = record {
  in_range = is.in_range;
  hi_is = is.splits.hi_is;
  lo_is = is.splits.lo_is;
  is = is.splits.is;
  hi_lacks = is.splits.hi_below v is.in_range (omega arith);
  lo_lacks = is.splits.lo_below v is.in_range (omega arith);
  proper = is.proper;
}
