-- Links that lead to the next node of a variable.
use Rattle.std.proofs.Common.{◌≡◌, ℕ, zero, suc, ◌+◌, ◌-◌, ◌<◌, ◌≤◌, nat_eq, inl, inr, List, length, get_or, set, Option, Some, None, refl, ap, sym, ◌∙◌, subst, arith}
use Rattle.std.specs.Prelude.{◌^◌, if◌then◌else◌}
use Rattle.std.proofs.lemmas.Bool.{cases_eq, cases_lt, eq-eqb, ne_eqb}
use Rattle.std.proofs.lemmas.List.{get_or_past, get_or-set_same, get_or-set_other}
use Rattle.edge_bits.specs.declared.words.Node.{Node}
use Rattle.edge_bits.specs.declared.words.Word.{Word}
use Rattle.edge_bits.specs.declared.words.Word.TheVariants.{Inner, Leaf}
use Rattle.edge_bits.specs.Reading.{slots_of}
use Rattle.edge_bits.specs.Words.{unpack_of}
use Rattle.held_slots.specs.Linked.{HasNode, Leads, chain_of, variable_in}

-- beyond the words no slot has a node
pub none_past : (ws : List ℕ) (v s : ℕ) → length ws ≤ s → HasNode (slots_of ws) v s → ⊥
none_past ws v s past h = let e : None ≡ Some (Inner h.0) = sym (ap unpack_of (get_or_past ws s 0 past)) ∙ h.1 in cc

module _ (word : ℕ → Option Word) (chain : ℕ → ℕ) (reach v : ℕ) where
  -- a slot without a node of the variable is passed over
  pub before : (from link : ℕ) → (HasNode word v from → ⊥) → Leads word chain reach v (suc from) link → Leads word chain reach v from link
  before from link empty l = record {
    none = λ z s le h. elim (cases_eq s from) [
      | inl e ↦ empty (subst (HasNode word v) e h)
      | inr ne ↦ l.none z s (omega (arith, le, ne)) h
    ];
    some = λ t is. (
        let o = l.some t is in
        let le = o.0 in (
          omega arith,
          o.1,
          o.2,
          λ s from_le lt h. elim (cases_eq s from) [
            | inl e ↦ empty (subst (HasNode word v) e h)
            | inr ne ↦ o.3 s (omega (arith, from_le, ne)) lt h
          ],
        ));
  }

  -- a slot of the chain is the first from itself on
  pub here : (slot : ℕ) → slot < reach → chain slot ≡ v → Leads word chain reach v slot (slot + 1)
  here slot lt own = record {
    none = λ z. absurd (let e = z in omega arith);
    some = λ t is. (
        let e : t ≡ slot = omega (arith, is) in
        (omega (arith, e), (omega (arith, e, lt)), (ap chain e ∙ own), λ s le below h. absurd (omega (arith, e, le, below))));
  }

  -- the next slot of the chain, where one has no node any more
  pub skip : (from slot link : ℕ) → Leads word chain reach v from (suc slot) → (HasNode word v slot → ⊥) → Leads word chain reach v (suc slot) link → Leads word chain reach v from link
  skip from slot link first empty next =
      let o = first.some slot refl in
      let passed : (s : ℕ) → from ≤ s → s < suc slot → HasNode word v s → ⊥ = λ s le lt h. elim (cases_eq s slot) [
        | inl e ↦ empty (subst (HasNode word v) e h)
        | inr ne ↦ o.3 s le (omega (arith, lt, ne)) h
      ] in
      record {
        none = λ z s le h. elim (cases_lt s (suc slot)) [
          | inl lt ↦ passed s le lt h
          | inr ge ↦ next.none z s ge h
        ];
        some = λ t is. (
            let n = next.some t is in
            let a = n.0 in
            let b = o.0 in (
              omega arith,
              n.1,
              n.2,
              λ s le lt h. elim (cases_lt s (suc slot)) [
                | inl low ↦ passed s le low h
                | inr ge ↦ n.3 s ge lt h
              ],
            ));
      }

  -- what a link that is not 0 leads to
  pub at_link : (from link : ℕ) → Leads word chain reach v from link → 0 < link
      → (from ≤ link - 1) × (link - 1 < reach) × (chain (link - 1) ≡ v) × ((s : ℕ) → from ≤ s → s < link - 1 → HasNode word v s → ⊥)
  at_link from link l lt = l.some (link - 1) (omega (arith, lt))

  pub skip_link : (from link next : ℕ) → Leads word chain reach v from link → 0 < link → (HasNode word v (link - 1) → ⊥) → Leads word chain reach v (suc (link - 1)) next → Leads word chain reach v from next
  skip_link from link next l lt empty on =
      let e : link ≡ suc (link - 1) = omega (arith, lt) in
      skip from (link - 1) next (subst (Leads word chain reach v from) e l) empty on

  -- the way to the end of a chain gets shorter
  pub shorter : (link next : ℕ) → Leads word chain reach v (suc (link - 1)) next → 0 < link → link < 2 ^ 32 → (if nat_eq next 0 then 0 else 2 ^ 32 - next) < (if nat_eq link 0 then 0 else 2 ^ 32 - link)
  shorter link next l lt few = rw (ne_eqb link 0 (λ e. omega (arith, e, lt))) (by_next next refl)
    where
      by_next : (n : ℕ) → next ≡ n → (if nat_eq next 0 then 0 else 2 ^ 32 - next) < 2 ^ 32 - link
      by_next zero e = rw (eq-eqb next 0 e) (omega (arith, few))
      by_next (suc t) e =
          let le = (l.some t e).0 in
          rw (ne_eqb next 0 (λ z. omega (arith, z, e))) (omega (arith, e, le, few, lt))

-- where nothing is linked, behind all words
pub none_yet : (ws : List ℕ) (chain : ℕ → ℕ) (v link : ℕ) → link ≡ 0 → Leads (slots_of ws) chain (length ws) v (length ws) link
none_yet ws chain v link nothing = record {
  none = λ z s le h. none_past ws v s le h;
  some = λ t is. absurd (omega (arith, nothing, is));
}

pub link_small : (word : ℕ → Option Word) (chain : ℕ → ℕ) (reach v from link : ℕ) → Leads word chain reach v from link → reach < 2 ^ 23 → link < 2 ^ 24
link_small word chain reach v from link l few = by_link link refl
  where
    by_link : (n : ℕ) → link ≡ n → link < 2 ^ 24
    by_link zero e = omega (arith, e)
    by_link (suc t) e = let lt = (l.some t e).1 in omega (arith, e, lt, few)

-- A slot is put before those of its node's variable.
module _ (ws : List ℕ) (slot link : ℕ) (firsts new : List ℕ) (within : slot < length ws) (long : length firsts ≡ 2 ^ 15)
    (node : (node : Node) → slots_of ws slot ≡ Some (Inner node) → (node.var < 2 ^ 15) × (link ≡ get_or firsts node.var 0) × (new ≡ set firsts node.var (slot + 1)))
    (no_node : ((node : Node) → slots_of ws slot ≡ Some (Inner node) → ⊥) → new ≡ firsts)
    (first : (v : ℕ) → v < 2 ^ 15 → Leads (slots_of ws) (chain_of (slots_of ws)) (length ws) v (suc slot) (get_or firsts v 0)) where
  unlinked : ((node : Node) → slots_of ws slot ≡ Some (Inner node) → ⊥) → (v : ℕ) → v < 2 ^ 15 → Leads (slots_of ws) (chain_of (slots_of ws)) (length ws) v slot (get_or new v 0)
  unlinked empty v few = subst (λ xs. Leads (slots_of ws) (chain_of (slots_of ws)) (length ws) v slot (get_or xs v 0)) (sym (no_node empty))
      (before (slots_of ws) (chain_of (slots_of ws)) (length ws) v slot (get_or firsts v 0) (λ h. empty h.0 h.1) (first v few))

  pub first_linked : (v : ℕ) → v < 2 ^ 15 → Leads (slots_of ws) (chain_of (slots_of ws)) (length ws) v slot (get_or new v 0)
  first_linked v few = by_word (slots_of ws slot) refl
    where
      by_word : (o : Option Word) → slots_of ws slot ≡ o → Leads (slots_of ws) (chain_of (slots_of ws)) (length ws) v slot (get_or new v 0)
      by_word None is = unlinked (λ n h. let e : None ≡ Some (Inner n) = sym is ∙ h in cc) v few
      by_word (Some (Leaf x)) is = unlinked (λ n h. let e : Some (Leaf x) ≡ Some (Inner n) = sym is ∙ h in cc) v few
      by_word (Some (Inner n)) is =
          let told = node n is in
          subst (λ xs. Leads (slots_of ws) (chain_of (slots_of ws)) (length ws) v slot (get_or xs v 0)) (sym told.2)
          (elim (cases_eq v n.var) [
            | inl e ↦ subst (Leads (slots_of ws) (chain_of (slots_of ws)) (length ws) v slot) (sym (ap (λ u. get_or (set firsts n.var (slot + 1)) u 0) e ∙ get_or-set_same firsts n.var (slot + 1) 0 (let f = told.0 in omega (arith, long, f))))
                (here (slots_of ws) (chain_of (slots_of ws)) (length ws) v slot within (ap variable_in is ∙ sym e))
            | inr ne ↦ subst (Leads (slots_of ws) (chain_of (slots_of ws)) (length ws) v slot) (sym (get_or-set_other firsts n.var v (slot + 1) 0 ne))
                (before (slots_of ws) (chain_of (slots_of ws)) (length ws) v slot (get_or firsts v 0)
                (λ h. let e : Some (Inner n) ≡ Some (Inner h.0) = sym is ∙ h.1 in let same : n ≡ h.0 = cc in ne (sym (ap (λ (x : Node). x.var) same ∙ h.2))) (first v few))
          ])

  pub next_linked : chain_of (slots_of ws) slot < 2 ^ 15 → Leads (slots_of ws) (chain_of (slots_of ws)) (length ws) (chain_of (slots_of ws) slot) (suc slot) link
  next_linked few = by_word (slots_of ws slot) refl
    where
      by_word : (o : Option Word) → slots_of ws slot ≡ o → Leads (slots_of ws) (chain_of (slots_of ws)) (length ws) (chain_of (slots_of ws) slot) (suc slot) link
      by_word None is = absurd (let e = ap variable_in is in omega (arith, e, few))
      by_word (Some (Leaf x)) is = absurd (let e = ap variable_in is in omega (arith, e, few))
      by_word (Some (Inner n)) is =
          let told = node n is in
          subst (λ u. Leads (slots_of ws) (chain_of (slots_of ws)) (length ws) u (suc slot) link) (sym (ap variable_in is))
          (subst (Leads (slots_of ws) (chain_of (slots_of ws)) (length ws) n.var (suc slot)) (sym told.1) (first n.var told.0))
