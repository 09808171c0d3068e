-- A step of the walk: down to a child, or back from a slot that is left.
use Rattle.std.proofs.Common.{◌≡◌, ◌⊎◌, inl, inr, ℕ, ◌+◌, ◌-◌, ◌*◌, ◌<◌, ◌≤◌, List, [], ◌∷◌, ◌++◌, Some, length, set, nat_abs, slice_get, take, refl, sym, ap, ◌∙◌, subst, arith}
use Rattle.std.proofs.lemmas.List.{get_or-set_same, length_push, same_from_push, take_at}
use Rattle.edge_bits.specs.declared.edges.Kind.TheVariants.{Bdd}
use Rattle.edge_bits.specs.declared.edges.Line.{Line}
use Rattle.edge_bits.specs.declared.words.Node.{Node}
use Rattle.edge_bits.specs.declared.words.Word.TheVariants.{Inner}
use Rattle.edge_bits.specs.Reading.{plain}
use Rattle.diagram_dumps.specs.WellMade.{Numbers, fresh, numbered}
use Rattle.node_store.specs.Views.{Is}
use Rattle.node_slots.specs.Stores.{IsStore, Plain, plain_view, slots, top_in}
use Rattle.diagram_lists.specs.Walks.{Begins, IsMet, IsNumbering, IsOnWay, IsOpen, IsPath, Leads, arrived, at_first, at_top, behind_hi, behind_lo, bottom, by_hi, by_lo, line_of, next, number, steps_left, unnumbered}
use Rattle.diagram_lists.proofs.Numberings.{got_front, got_last, left_extends, magnitude, number_below, number_other, one_fewer}
use Rattle.diagram_lists.proofs.Slots.{inside, one_or_node, stands}

-- an index below the next one is numbered
pub already : (lines : List Line) (from index : ℕ) → 1 ≤ index → index < from → Leads lines from index from
already lines from index low high = λ dump begins. numbered low high

pub Leads-more : (lines : List Line) (line : Line) (from index to : ℕ) → Leads lines from index to → Leads (lines ++ line ∷ []) from index to
Leads-more lines line from index to leads = λ dump begins. leads dump (λ i l h. begins i l (got_front lines (line ∷ []) i l h))

push_nil : (front : List ℕ) (x : ℕ) → [] ≡ front ++ x ∷ [] → ⊥
push_nil [] x e = cc
push_nil (y ∷ front) x e = cc

-- what is left of a stack without its top
pub popped : (front left stack : List ℕ) (top n : ℕ) → stack ≡ front ++ top ∷ [] → left ≡ take n stack → n ≡ length stack - 1 → left ≡ front
popped front left stack top n e rest count =
    let long : n ≡ length front = omega (arith, count, ap (λ (xs : List ℕ). length xs) e, length_push front top) in
    rest ∙ ap (λ m. take m stack) long ∙ ap (take (length front)) e ∙ take_at front (top ∷ []) (length front) refl

module _ (p : Plain) (st : IsStore p) where
  -- the slots on a stack stand one below the other
  pub deep : {numbers : List ℕ} {lines : List Line} {start root : ℕ} (stack : List ℕ) (s from : ℕ) → IsPath p numbers lines start root stack s from → length stack ≤ top_in p s
  deep _ _ _ bottom = omega arith
  deep _ _ _ (by_hi {stack} {front} {s} {from} node e is_open rest) =
      let low = deep front s from rest in
      let below = (stands p st s node is_open.word is_open.is_bdd).hi_lower in
      omega (arith, ap (λ (xs : List ℕ). length xs) e, length_push front s, low, below)
  deep _ _ _ (by_lo {stack} {front} {s} {from} node e is_open has leads rest) =
      let low = deep front s from rest in
      let below = (stands p st s node is_open.word is_open.is_bdd).lo_lower in
      omega (arith, ap (λ (xs : List ℕ). length xs) e, length_push front s, low, below)

  module _ (numbers : List ℕ) (lines : List Line) (n : IsNumbering p numbers lines) where
    -- a child without a number is open
    opens : (child : ℕ) → Is Bdd (plain_view p) (plain child) → number numbers child ≡ 0 → (node : Node) × IsOpen p numbers child node
    opens child d none = elim (one_or_node p st child d) [
      | inl e ↦ absurd (let one : number numbers child ≡ 1 = ap (number numbers) e ∙ n.constant in omega (arith, one, none))
      | inr found ↦ (found.0, record { word = found.1; is_bdd = d; fresh = none })
    ]

    -- the walk's start
    pub sets_out : (root : ℕ) → Is Bdd (plain_view p) (plain root) → number numbers root ≡ 0 → IsOnWay p numbers lines (next lines) root (root ∷ [])
    sets_out root d none = let o = opens root d none in at_top [] root (next lines) o.0 refl o.1 (at_first refl) bottom

    first_of : {node : Node} {from : ℕ} → IsMet numbers lines node from → number numbers node.hi ≡ 0 → from ≡ next lines
    first_of (at_first e) none = e
    first_of (behind_hi has leads) none = absurd (omega (arith, has, none))
    first_of (behind_lo middle has leads also then) none = absurd (omega (arith, has, none))

    hi_led : {node : Node} {from : ℕ} → IsMet numbers lines node from → 1 ≤ number numbers node.hi → number numbers node.lo.index ≡ 0
        → Leads lines from (number numbers node.hi) (next lines)
    hi_led {node} {from} (at_first e) has none =
        subst (λ to. Leads lines from (number numbers node.hi) to) e
        (already lines from (number numbers node.hi) has (let low = number_below p numbers lines n node.hi in omega (arith, low, e)))
    hi_led (behind_hi also leads) has none = leads
    hi_led (behind_lo middle also leads low then) has none = absurd (omega (arith, low, none))

    both_led : {node : Node} {from : ℕ} → IsMet numbers lines node from → 1 ≤ number numbers node.hi → 1 ≤ number numbers node.lo.index
        → (middle : ℕ) × Leads lines from (number numbers node.hi) middle × Leads lines middle (number numbers node.lo.index) (next lines)
    both_led {node} {from} (at_first e) hi lo =
        let hi_low = number_below p numbers lines n node.hi in
        let lo_low = number_below p numbers lines n node.lo.index in (
          from,
          already lines from (number numbers node.hi) hi (omega (arith, hi_low, e)),
          subst (λ to. Leads lines from (number numbers node.lo.index) to) e (already lines from (number numbers node.lo.index) lo (omega (arith, lo_low, e))),
        )
    both_led {node} (behind_hi also leads) hi lo = (next lines, leads, already lines (next lines) (number numbers node.lo.index) lo (number_below p numbers lines n node.lo.index))
    both_led (behind_lo middle also leads low then) hi lo = (middle, leads, then)

    -- the slot on the top is open
    pub open_at : (start root : ℕ) (stack front : List ℕ) (slot : ℕ) → stack ≡ front ++ slot ∷ [] → IsOnWay p numbers lines start root stack → (node : Node) × IsOpen p numbers slot node
    open_at start root stack front slot is (arrived e has leads) = absurd (push_nil front slot (sym e ∙ is))
    open_at start root stack front slot is (at_top other top from node e is_open met path) =
        subst (λ s. (node : Node) × IsOpen p numbers s node) (same_from_push other front top slot (sym e ∙ is)).1 (node, is_open)

    -- there is room on the stack
    low_enough : (start root : ℕ) (stack front : List ℕ) (slot : ℕ) → stack ≡ front ++ slot ∷ [] → IsOnWay p numbers lines start root stack → length stack ≤ length p.variable_levels
    low_enough start root stack front slot is (arrived e has leads) = absurd (push_nil front slot (sym e ∙ is))
    low_enough start root stack front slot is (at_top other top from node e is_open met path) =
        let low = deep other top from path in
        let within = (stands p st top node is_open.word is_open.is_bdd).within in
        omega (arith, ap (λ (xs : List ℕ). length xs) e, length_push other top, low, within)

    pub down_fewer : (start root : ℕ) (stack front : List ℕ) (slot child : ℕ) → stack ≡ front ++ slot ∷ [] → IsOnWay p numbers lines start root stack
        → steps_left p numbers (stack ++ child ∷ []) < steps_left p numbers stack
    down_fewer start root stack front slot child is way =
        let room = low_enough start root stack front slot is way in
        omega (arith, room, length_push stack child)

    -- down to a child
    down_from : (start root : ℕ) (stack front : List ℕ) (top from child : ℕ) (node : Node) → stack ≡ front ++ top ∷ [] → IsOpen p numbers top node
        → IsMet numbers lines node from → IsPath p numbers lines start root front top from
        → number numbers child ≡ 0 → (child ≡ node.hi) ⊎ ((child ≡ node.lo.index) × (1 ≤ number numbers node.hi))
        → IsOnWay p numbers lines start root (stack ++ child ∷ [])
    down_from start root stack front top from child node e is_open met path none (inl is) =
        let at : number numbers node.hi ≡ 0 = ap (number numbers) (sym is) ∙ none in
        let o = opens node.hi (stands p st top node is_open.word is_open.is_bdd).hi_is at in
        subst (λ c. IsOnWay p numbers lines start root (stack ++ c ∷ [])) (sym is)
        (at_top stack node.hi from o.0 refl o.1 (at_first (first_of met at)) (by_hi node e is_open path))
    down_from start root stack front top from child node e is_open met path none (inr (is, has)) =
        let at : number numbers node.lo.index ≡ 0 = ap (number numbers) (sym is) ∙ none in
        let o = opens node.lo.index (stands p st top node is_open.word is_open.is_bdd).lo_is at in
        subst (λ c. IsOnWay p numbers lines start root (stack ++ c ∷ [])) (sym is)
        (at_top stack node.lo.index (next lines) o.0 refl o.1 (at_first refl) (by_lo node e is_open has (hi_led met has at) path))

    -- of one slot there is one node
    one_node : (s t : ℕ) (one other : Node) → slots p s ≡ Some (Inner one) → slots p t ≡ Some (Inner other) → s ≡ t → one ≡ other
    one_node s t one other first second same = let e : Some (Inner one) ≡ Some (Inner other) = sym first ∙ ap (slots p) same ∙ second in cc

    pub down : (start root : ℕ) (stack front : List ℕ) (slot child : ℕ) (node : Node) → stack ≡ front ++ slot ∷ [] → slots p slot ≡ Some (Inner node)
        → number numbers child ≡ 0 → (child ≡ node.hi) ⊎ ((child ≡ node.lo.index) × (1 ≤ number numbers node.hi))
        → IsOnWay p numbers lines start root stack → IsOnWay p numbers lines start root (stack ++ child ∷ [])
    down start root stack front slot child node is word none which (arrived e has leads) = absurd (push_nil front slot (sym e ∙ is))
    down start root stack front slot child node is word none which (at_top other top from own e is_open met path) =
        let same = same_from_push other front top slot (sym e ∙ is) in
        let node_is : node ≡ own = sym (one_node top slot own node is_open.word word same.1) in
        down_from start root stack other top from child own e is_open met path none
        (subst (λ (x : Node). (child ≡ x.hi) ⊎ ((child ≡ x.lo.index) × (1 ≤ number numbers x.hi))) node_is which)

    -- what stands on the stack stays so where a lower slot is left
    open_kept : (top v s : ℕ) (node : Node) → top_in p s < top_in p top → IsOpen p numbers s node → IsOpen p (set numbers top v) s node
    open_kept top v s node lower is_open = record {
      word = is_open.word;
      is_bdd = is_open.is_bdd;
      fresh = number_other numbers top v s (λ e. let same = ap (top_in p) e in omega (arith, same, lower)) ∙ is_open.fresh;
    }

    module _ (top v : ℕ) (line : Line) (none : number numbers top ≡ 0) where
      -- an index that leads on
      leads_kept : (s from to : ℕ) → 1 ≤ number numbers s → Leads lines from (number numbers s) to
          → (1 ≤ number (set numbers top v) s) × Leads (lines ++ line ∷ []) from (number (set numbers top v) s) to
      leads_kept s from to has leads =
          let same : number (set numbers top v) s ≡ number numbers s = (left_extends numbers lines top v line none).numbers s has in
          (omega (arith, same, has), subst (λ i. Leads (lines ++ line ∷ []) from i to) (sym same) (Leads-more lines line from (number numbers s) to leads))

      path_kept : {start root : ℕ} (stack : List ℕ) (s from : ℕ) → top_in p s ≤ top_in p top → IsPath p numbers lines start root stack s from
          → IsPath p (set numbers top v) (lines ++ line ∷ []) start root stack s from
      path_kept _ _ _ lower bottom = bottom
      path_kept _ _ _ lower (by_hi {stack} {front} {s} {from} node e is_open rest) =
          let below = (stands p st s node is_open.word is_open.is_bdd).hi_lower in
          by_hi node e (open_kept top v s node (omega (arith, below, lower)) is_open) (path_kept front s from (omega (arith, below, lower)) rest)
      path_kept _ _ _ lower (by_lo {stack} {front} {s} {from} {to} node e is_open has leads rest) =
          let below = (stands p st s node is_open.word is_open.is_bdd).lo_lower in
          let hi = leads_kept node.hi from to has leads in
          by_lo node e (open_kept top v s node (omega (arith, below, lower)) is_open) hi.0 hi.1 (path_kept front s from (omega (arith, below, lower)) rest)

    -- the slot that is left is numbered
    led : (from : ℕ) (node : Node) → IsMet numbers lines node from → 1 ≤ number numbers node.hi → 1 ≤ number numbers node.lo.index
        → Leads (lines ++ line_of numbers node ∷ []) from (next lines) (next (lines ++ line_of numbers node ∷ []))
    led from node met hi lo = λ dump begins.
        let b = both_led met hi lo in
        let line = line_of numbers node in
        let early : Begins lines dump = λ i l h. begins i l (got_front lines (line ∷ []) i l h) in
        let back : (next lines) - 2 ≡ length lines = omega arith in
        let at : slice_get dump.nodes ((next lines) - 2) ≡ Some line = ap (slice_get dump.nodes) back ∙ begins (length lines) line (got_last lines line) in
        let last : next lines + 1 ≡ next (lines ++ line ∷ []) = omega (arith, length_push lines line) in
        let low : number numbers node.lo.index ≡ nat_abs line.lo = sym (magnitude node.lo.complement (number numbers node.lo.index)) in
        subst (λ to. Numbers dump from (next lines) to) last
        (fresh (next lines) line at (omega arith) (b.1 dump early) (subst (λ i. Numbers dump b.0 i (next lines)) low (b.2 dump early)))

    -- back from it
    back_from : (start root : ℕ) (front : List ℕ) (top from : ℕ) (node : Node) → IsOpen p numbers top node → 1 ≤ number numbers node.hi → 1 ≤ number numbers node.lo.index
        → IsMet numbers lines node from → IsPath p numbers lines start root front top from
        → IsOnWay p (set numbers top (next lines)) (lines ++ line_of numbers node ∷ []) start root front
    back_from start root front top from node is_open hi lo met path = by_path front top from here there refl path
      where
        here : number (set numbers top (next lines)) top ≡ next lines
        here = get_or-set_same numbers top (next lines) 0 (let lt = inside p st top is_open.is_bdd in let as_many = n.as_many in omega arith)

        there : Leads (lines ++ line_of numbers node ∷ []) from (number (set numbers top (next lines)) top) (next (lines ++ line_of numbers node ∷ []))
        there = subst (λ i. Leads (lines ++ line_of numbers node ∷ []) from i (next (lines ++ line_of numbers node ∷ []))) (sym here) (led from node met hi lo)

        by_path : (below : List ℕ) (s started : ℕ) → number (set numbers top (next lines)) s ≡ next lines
            → Leads (lines ++ line_of numbers node ∷ []) started (number (set numbers top (next lines)) s) (next (lines ++ line_of numbers node ∷ []))
            → s ≡ top → IsPath p numbers lines start root below s started
            → IsOnWay p (set numbers top (next lines)) (lines ++ line_of numbers node ∷ []) start root below
        by_path _ _ _ at leads same bottom = arrived refl (omega (arith, at)) leads
        by_path _ _ _ at leads same (by_hi {stack} {front} {s} {from} parent e parent_open rest) =
            let lower = (stands p st s parent parent_open.word parent_open.is_bdd).hi_lower in
            let level : top_in p parent.hi ≡ top_in p top = ap (top_in p) same in
            at_top front s from parent e (open_kept top (next lines) s parent (omega (arith, lower, level)) parent_open) (behind_hi (omega (arith, at)) leads)
            (path_kept top (next lines) (line_of numbers node) is_open.fresh front s from (omega (arith, lower, level)) rest)
        by_path _ _ _ at leads same (by_lo {stack} {front} {s} {from} {to} parent e parent_open has first rest) =
            let lower = (stands p st s parent parent_open.word parent_open.is_bdd).lo_lower in
            let level : top_in p parent.lo.index ≡ top_in p top = ap (top_in p) same in
            let high = leads_kept top (next lines) (line_of numbers node) is_open.fresh parent.hi from to has first in
            at_top front s from parent e (open_kept top (next lines) s parent (omega (arith, lower, level)) parent_open) (behind_lo to high.0 high.1 (omega (arith, at)) leads)
            (path_kept top (next lines) (line_of numbers node) is_open.fresh front s from (omega (arith, lower, level)) rest)

    pub back : (start root : ℕ) (stack front : List ℕ) (slot : ℕ) (node : Node) → stack ≡ front ++ slot ∷ [] → slots p slot ≡ Some (Inner node)
        → 1 ≤ number numbers node.hi → 1 ≤ number numbers node.lo.index → IsOnWay p numbers lines start root stack
        → IsOnWay p (set numbers slot (next lines)) (lines ++ line_of numbers node ∷ []) start root front
    back start root stack front slot node is word hi lo (arrived e has leads) = absurd (push_nil front slot (sym e ∙ is))
    back start root stack front slot node is word hi lo (at_top other top from own e is_open met path) =
        let same = same_from_push other front top slot (sym e ∙ is) in
        let own_is : own ≡ node = one_node top slot own node is_open.word word same.1 in
        let met_is : IsMet numbers lines node from = subst (λ x. IsMet numbers lines x from) own_is met in
        let open_is : IsOpen p numbers top node = subst (IsOpen p numbers top) own_is is_open in
        subst (λ (f : List ℕ). IsOnWay p (set numbers slot (next lines)) (lines ++ line_of numbers node ∷ []) start root f) same.0
        (subst (λ s. IsOnWay p (set numbers s (next lines)) (lines ++ line_of numbers node ∷ []) start root other) same.1
        (back_from start root other top from node open_is hi lo met_is path))

    times_more : (a b c : ℕ) → a + 1 ≡ b → b * c ≡ a * c + c
    times_more a b c e = ap (λ n. n * c) (sym e) ∙ grind arith

    pub back_fewer : (stack front : List ℕ) (slot : ℕ) → stack ≡ front ++ slot ∷ [] → slot < length numbers → number numbers slot ≡ 0
        → steps_left p (set numbers slot (next lines)) front < steps_left p numbers stack
    back_fewer stack front slot is lt none =
        let height = length p.variable_levels + 2 in
        let one = one_fewer numbers slot (length lines) lt none in
        let product = times_more (unnumbered (set numbers slot (next lines))) (unnumbered numbers) height one in
        omega (arith, product, ap (λ (xs : List ℕ). length xs) is, length_push front slot)
