-- A numbering, with one slot more.
use Rattle.std.proofs.Common.{◌≡◌, ◌≢◌, ◌⊎◌, inl, inr, ℕ, zero, suc, ◌+◌, ◌-◌, ◌<◌, ◌≤◌, Bool, true, false, cond, List, [], ◌∷◌, ◌++◌, ℤ, Some, length, get_or, set, nat_abs, slice_get, ne_eqb, refl, sym, ap, ◌∙◌, subst, arith}
use Rattle.std.specs.Prelude.{◌==◌}
use Rattle.std.proofs.lemmas.Bool.{cases_eq, cases_lt}
use Rattle.std.proofs.lemmas.List.{get_or-set_other, get_or-set_same, length-set, length_push}
use Rattle.std.proofs.lemmas.List.Sums.{sum_by-set}
use Rattle.std.proofs.lemmas.Option.{none-some, slice_get_within}
use Rattle.edge_bits.specs.declared.edges.Edge.{Edge}
use Rattle.edge_bits.specs.declared.edges.Line.{Line}
use Rattle.edge_bits.specs.declared.words.Node.{Node}
use Rattle.node_slots.specs.Stores.{IsStore, Plain}
use Rattle.diagram_lists.specs.Walks.{Extends, HasLine, IsNumbering, IsOpen, index_of, line_of, next, number, signed_index, unnumbered}
use Rattle.diagram_lists.proofs.Slots.{inside}

pub got_front : {X : Type 0} (xs ys : List X) (i : ℕ) (x : X) → slice_get xs i ≡ Some x → slice_get (xs ++ ys) i ≡ Some x
got_front [] ys i x h = absurd (none-some x h)
got_front (y ∷ xs) ys zero x h = h
got_front (y ∷ xs) ys (suc i) x h = got_front xs ys i x h

pub got_last : {X : Type 0} (xs : List X) (x : X) → slice_get (xs ++ x ∷ []) (length xs) ≡ Some x
got_last [] x = refl
got_last (y ∷ xs) x = got_last xs x

pub Extends-refl : (numbers : List ℕ) (lines : List Line) → Extends numbers numbers lines lines
Extends-refl numbers lines = record { numbers = λ s h. refl; lines = λ i line h. h }

pub Extends-trans : {a b c : List ℕ} {x y z : List Line} → Extends a b x y → Extends b c y z → Extends a c x z
Extends-trans {a} {b} {c} first second = record {
  numbers = λ s h. second.numbers s (subst (λ n. 1 ≤ n) (sym (first.numbers s h)) h) ∙ first.numbers s h;
  lines = λ i line h. second.lines i line (first.lines i line h);
}

-- the magnitude of an index
pub magnitude : (c : Bool) (n : ℕ) → nat_abs (signed_index c n) ≡ n
magnitude false n = refl
magnitude true zero = refl
magnitude true (suc n) = refl

-- of an edge whose slot keeps its number
pub same_index : (old new : List ℕ) (e : Edge) → number new e.index ≡ number old e.index → index_of new e ≡ index_of old e
same_index old new e same = ap (signed_index e.complement) same

same_line : (old new : List ℕ) (node : Node) → number new node.hi ≡ number old node.hi → number new node.lo.index ≡ number old node.lo.index
    → line_of new node ≡ line_of old node
same_line old new node hi lo =
    let made : ℕ → ℤ → Line = λ h l. record { var = node.var; hi = h; lo = l } in
    ap (λ h. made h (index_of new node.lo)) hi ∙ ap (made (number old node.hi)) (same_index old new node.lo lo)

-- a line stays that of its slot
pub HasLine-extended : {p : Plain} {old new : List ℕ} {lines more : List Line} {s : ℕ} → Extends old new lines more → HasLine p old lines s → HasLine p new more s
HasLine-extended {p} {old} {new} {lines} {more} {s} x h =
    let later = h.later in let hi_has = h.hi_has in let lo_has = h.lo_has in
    let here : number new s ≡ number old s = x.numbers s (omega arith) in
    let hi : number new h.node.hi ≡ number old h.node.hi = x.numbers h.node.hi hi_has in
    let lo : number new h.node.lo.index ≡ number old h.node.lo.index = x.numbers h.node.lo.index lo_has in
    let hi_before = h.hi_before in let lo_before = h.lo_before in
    record {
      node = h.node;
      word = h.word;
      is_bdd = h.is_bdd;
      later = omega arith;
      line = ap (λ n. slice_get more (n - 2)) here ∙ x.lines (number old s - 2) (line_of old h.node) h.line ∙ ap (λ l. Some l) (sym (same_line old new h.node hi lo));
      hi_has = omega arith;
      hi_before = omega arith;
      lo_has = omega arith;
      lo_before = omega arith;
    }

-- each number is below the next
pub number_below : (p : Plain) (numbers : List ℕ) (lines : List Line) → IsNumbering p numbers lines → (s : ℕ) → number numbers s < next lines
number_below p numbers lines n s = elim (cases_lt (number numbers s) 1) [
  | inl none ↦ omega arith
  | inr has ↦ elim (n.nodes s has) [
    | inl e ↦ (let one : number numbers s ≡ 1 = ap (number numbers) e ∙ n.constant in omega arith)
    | inr h ↦ (let later = h.later in let fits = slice_get_within lines (number numbers s - 2) (line_of numbers h.node) h.line in omega arith)
  ]
]

-- no other slot's number changes
pub number_other : (numbers : List ℕ) (s v t : ℕ) → t ≢ s → number (set numbers s v) t ≡ number numbers t
number_other numbers s v t ne = get_or-set_other numbers s t v 0 ne

pub left_extends : (numbers : List ℕ) (lines : List Line) (s v : ℕ) (line : Line) → number numbers s ≡ 0 → Extends numbers (set numbers s v) lines (lines ++ line ∷ [])
left_extends numbers lines s v line fresh = record {
  numbers = λ t has. number_other numbers s v t (λ e. let none : number numbers t ≡ 0 = ap (number numbers) e ∙ fresh in omega (arith, none, has));
  lines = λ i l h. got_front lines (line ∷ []) i l h;
}

-- one slot less has no number
unfoldable weight : ℕ → ℕ
weight n = cond (n == 0) 1 0

pub one_fewer : (numbers : List ℕ) (s lower : ℕ) → s < length numbers → number numbers s ≡ 0 → unnumbered (set numbers s (2 + lower)) + 1 ≡ unnumbered numbers
unfolding weight
one_fewer numbers s lower lt fresh =
    let all : unnumbered (set numbers s (2 + lower)) + weight (get_or numbers s 0) ≡ unnumbered numbers + weight (2 + lower) = sum_by-set (λ n. cond (n == 0) 1 0) numbers s (2 + lower) 0 lt in
    let before : weight (get_or numbers s 0) ≡ 1 = ap weight fresh in
    let after : weight (2 + lower) ≡ 0 = ap (λ b. cond b 1 0) (ne_eqb (2 + lower) 0 (λ e. omega (arith, e))) in
    omega (arith, all, before, after)

-- the slot is left, and gets its number and its line
pub left : (p : Plain) → IsStore p → (numbers : List ℕ) (lines : List Line) (s : ℕ) (node : Node) → IsNumbering p numbers lines → IsOpen p numbers s node
    → 1 ≤ number numbers node.hi → 1 ≤ number numbers node.lo.index
    → IsNumbering p (set numbers s (next lines)) (lines ++ line_of numbers node ∷ [])
left p st numbers lines s node n is_open hi lo = record {
  as_many = length-set numbers s (next lines) ∙ n.as_many;
  constant = number_other numbers s (next lines) 0 (λ e. let one = n.constant in let none : number numbers 0 ≡ 0 = ap (number numbers) e ∙ is_open.fresh in omega (arith, one, none)) ∙ n.constant;
  nodes = λ t has. by_slot t has (cases_eq t s);
  each = λ i lt. by_line i lt (cases_eq i (length lines));
  count = (let fewer = one_fewer numbers s (length lines) fits is_open.fresh in
      let all = n.count in
      let long = length_push lines (line_of numbers node) in
      omega (arith, fewer, all, long, length-set numbers s (next lines)));
}
  where
    fits : s < length numbers
    fits = let lt = inside p st s is_open.is_bdd in let as_many = n.as_many in omega arith

    here : number (set numbers s (next lines)) s ≡ next lines
    here = get_or-set_same numbers s (next lines) 0 fits

    more : Extends numbers (set numbers s (next lines)) lines (lines ++ line_of numbers node ∷ [])
    more = left_extends numbers lines s (next lines) (line_of numbers node) is_open.fresh

    own_line : HasLine p (set numbers s (next lines)) (lines ++ line_of numbers node ∷ []) s
    own_line =
        let hi_is : number (set numbers s (next lines)) node.hi ≡ number numbers node.hi = more.numbers node.hi hi in
        let lo_is : number (set numbers s (next lines)) node.lo.index ≡ number numbers node.lo.index = more.numbers node.lo.index lo in
        let hi_low = number_below p numbers lines n node.hi in
        let lo_low = number_below p numbers lines n node.lo.index in
        let back : (next lines) - 2 ≡ length lines = omega arith in
        record {
          node = node;
          word = is_open.word;
          is_bdd = is_open.is_bdd;
          later = omega (arith, here);
          line = ap (λ k. slice_get (lines ++ line_of numbers node ∷ []) (k - 2)) here ∙ ap (slice_get (lines ++ line_of numbers node ∷ [])) back
              ∙ got_last lines (line_of numbers node) ∙ ap (λ l. Some l) (sym (same_line numbers (set numbers s (next lines)) node hi_is lo_is));
          hi_has = omega (arith, hi_is, hi);
          hi_before = omega (arith, hi_is, here, hi_low);
          lo_has = omega (arith, lo_is, lo);
          lo_before = omega (arith, lo_is, here, lo_low);
        }

    by_slot : (t : ℕ) → 1 ≤ number (set numbers s (next lines)) t → (t ≡ s) ⊎ (t ≢ s) → (t ≡ 0) ⊎ HasLine p (set numbers s (next lines)) (lines ++ line_of numbers node ∷ []) t
    by_slot t has (inl e) = inr (subst (HasLine p (set numbers s (next lines)) (lines ++ line_of numbers node ∷ [])) (sym e) own_line)
    by_slot t has (inr ne) =
        let old : 1 ≤ number numbers t = subst (λ k. 1 ≤ k) (number_other numbers s (next lines) t ne) has in
        elim (n.nodes t old) [
          | inl e ↦ inl e
          | inr h ↦ inr (HasLine-extended more h)
        ]

    by_line : (i : ℕ) → i < length (lines ++ line_of numbers node ∷ []) → (i ≡ length lines) ⊎ (i ≢ length lines) → (t : ℕ) × (number (set numbers s (next lines)) t ≡ i + 2)
    by_line i lt (inl e) = (s, (let same : next lines ≡ i + 2 = omega (arith, e) in here ∙ same))
    by_line i lt (inr ne) =
        let long = length_push lines (line_of numbers node) in
        let old = n.each i (omega (arith, lt, long, ne)) in
        let is = old.1 in
        (old.0, more.numbers old.0 (omega (arith, is)) ∙ is)
