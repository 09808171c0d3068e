-- The entries of a table as a map.
use Rattle.std.proofs.Common.{◌≡◌, ℕ, suc, ◌<◌, ◌≤◌, Bool, true, false, ◌&&◌, eqb, List, [], ◌∷◌, ◌++◌, length, get_or, map, Some, None, sym, ◌∙◌, ap, refl}
use Rattle.std.proofs.Math.Bool.{beq}
use Rattle.std.proofs.lemmas.Bool.{eq-eqb, eqb-true, and_parts, and_from}
use Rattle.edge_bits.specs.declared.edges.Edge.{Edge}
use Rattle.level_table.specs.declared.table.Entry.{Entry}
use Rattle.level_table.specs.Chains.{IsLatest}
use Rattle.level_table.proofs.Keyed.{AreKeys, key-here, key-later, key_absent, key_found, key-push_other, key-push_here, key_none_on, key_none_first}
use Rattle.level_table.specs.Tables.{IsOf, is_of, slot_at, hash_of, IsAbsent, AreApart}

-- the test of a pair
beq_same : (b c : Bool) → b ≡ c → beq b c ≡ true
beq_same true true e = refl
beq_same true false e = cc
beq_same false true e = cc
beq_same false false e = refl

beq-true : (b c : Bool) → beq b c ≡ true → b ≡ c
beq-true true true t = refl
beq-true true false t = cc
beq-true false true t = cc
beq-true false false t = refl

pub is_of-true : (hi : ℕ) (lo : Edge) (e : Entry) → is_of hi lo e ≡ true → IsOf hi lo e
is_of-true hi lo e t =
    let both = and_parts (eqb e.hi hi) (eqb e.lo.index lo.index && beq e.lo.complement lo.complement) t in
    let edge = and_parts (eqb e.lo.index lo.index) (beq e.lo.complement lo.complement) both.1 in
    let index = eqb-true e.lo.index lo.index edge.0 in
    let complement = beq-true e.lo.complement lo.complement edge.1 in
    let same : record { index = e.lo.index; complement = e.lo.complement } ≡ lo = rw (index, complement) refl in
    (eqb-true e.hi hi both.0, same)

pub same_edge : (a b : Edge) → a ≡ b → (eqb a.index b.index && beq a.complement b.complement) ≡ true
same_edge a b e = and_from (eqb a.index b.index) (beq a.complement b.complement) (eq-eqb a.index b.index (ap (λ (x : Edge). x.index) e)) (beq_same a.complement b.complement (ap (λ (x : Edge). x.complement) e))

pub true_is_of : (hi : ℕ) (lo : Edge) (e : Entry) → IsOf hi lo e → is_of hi lo e ≡ true
true_is_of hi lo e h =
    and_from (eqb e.hi hi) (eqb e.lo.index lo.index && beq e.lo.complement lo.complement) (eq-eqb e.hi hi h.0) (same_edge e.lo lo h.1)

-- the keys of a table's entries are their pairs
abbrev pub of_pair : ℕ × Edge → Entry → Type 0
of_pair p e = IsOf p.0 p.1 e

abbrev pub is_of_pair : ℕ × Edge → Entry → Bool
is_of_pair p e = is_of p.0 p.1 e

abbrev pub pair_of : Entry → ℕ × Edge
pair_of e = (e.hi, e.lo)

abbrev pub slot_of : Entry → ℕ
slot_of e = e.slot

pub pairs : AreKeys of_pair is_of_pair pair_of
pairs = record {
  true_of = λ p e is. true_is_of p.0 p.1 e is;
  of-true = λ p e t. is_of-true p.0 p.1 e t;
  shared = λ p e f is too. (too.0 ∙ sym is.0, too.1 ∙ sym is.1);
  turned = λ e f is. (sym is.0, sym is.1);
}

pub slot-here : (hi : ℕ) (lo : Edge) (e : Entry) (es : List Entry) → IsOf hi lo e → slot_at (e ∷ es) hi lo ≡ Some e.slot
slot-here hi lo = key-here of_pair is_of_pair pair_of slot_of pairs (hi, lo)

pub slot-later : (hi : ℕ) (lo : Edge) (e : Entry) (es : List Entry) → (IsOf hi lo e → ⊥) → slot_at (e ∷ es) hi lo ≡ slot_at es hi lo
slot-later hi lo = key-later of_pair is_of_pair pair_of slot_of pairs (hi, lo)

pub slot_absent : (es : List Entry) (hi : ℕ) (lo : Edge) → IsAbsent es hi lo → slot_at es hi lo ≡ None
slot_absent es hi lo = key_absent of_pair is_of_pair pair_of slot_of pairs es (hi, lo)

pub slot_found : (es : List Entry) (hi : ℕ) (lo : Edge) (k : ℕ) (d : Entry) → AreApart es → k < length es → IsOf hi lo (get_or es k d) → slot_at es hi lo ≡ Some ((get_or es k d).slot)
slot_found es hi lo = key_found of_pair is_of_pair pair_of slot_of pairs es (hi, lo)

pub slot-push_other : (es : List Entry) (e : Entry) (hi : ℕ) (lo : Edge) → (IsOf hi lo e → ⊥) → slot_at (es ++ e ∷ []) hi lo ≡ slot_at es hi lo
slot-push_other es e hi lo = key-push_other of_pair is_of_pair pair_of slot_of pairs es e (hi, lo)

pub slot-push_here : (es : List Entry) (e : Entry) (hi : ℕ) (lo : Edge) → IsAbsent es hi lo → IsOf hi lo e → slot_at (es ++ e ∷ []) hi lo ≡ Some e.slot
slot-push_here es e hi lo = key-push_here of_pair is_of_pair pair_of slot_of pairs es e (hi, lo)

-- a walk over the places whose hash is that of the pair
module _ (hashes : List ℕ) (es : List Entry) (hi : ℕ) (lo : Edge) (are : hashes ≡ map (λ (e : Entry). hash_of e.hi e.lo) es) where
  alike : (p : ℕ × Edge) (e : Entry) → of_pair p e → hash_of e.hi e.lo ≡ hash_of p.0 p.1
  alike p e is = ap (λ h. hash_of h e.lo) is.0 ∙ ap (hash_of p.0) is.1

  pub none_on : (place next : ℕ) → get_or hashes place 0 ≡ hash_of hi lo → IsLatest (λ k. get_or hashes k 0) (get_or hashes place 0) place next
      → ((d : Entry) → IsOf hi lo (get_or es place d) → ⊥) → ((k : ℕ) (d : Entry) → suc place ≤ k → k < length es → IsOf hi lo (get_or es k d) → ⊥)
      → (k : ℕ) (d : Entry) → next ≤ k → k < length es → IsOf hi lo (get_or es k d) → ⊥
  none_on = key_none_on of_pair pair_of (λ p. hash_of p.0 p.1) alike hashes es (hi, lo) are

  pub none_first : (n first : ℕ) → length es ≤ n → IsLatest (λ k. get_or hashes k 0) (hash_of hi lo) n first
      → (k : ℕ) (d : Entry) → first ≤ k → k < length es → IsOf hi lo (get_or es k d) → ⊥
  none_first = key_none_first of_pair pair_of (λ p. hash_of p.0 p.1) alike hashes es (hi, lo) are
