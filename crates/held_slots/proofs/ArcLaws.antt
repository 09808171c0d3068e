-- The arcs to a slot, where one word changes, and where there are none.
use Rattle.std.proofs.Common.{◌≡◌, ◌≢◌, ℕ, suc, ◌+◌, ◌*◌, ◌<◌, ◌≤◌, ◌^◌, ◌⊎◌, inl, inr, Bool, true, false, cond, List, [], ◌∷◌, length, get_or, set, take, Option, Some, None, eqb, eqb-true, eq-eqb, refl, sym, ap, ◌∙◌, subst, arith}
use Rattle.std.specs.Prelude.{◌==◌, nat_lt}
use Rattle.std.specs.List.{sum_by}
use Rattle.std.proofs.lemmas.Bool.{cases_eq, cases_lt, ltb-true, ltb-false}
use Rattle.std.proofs.lemmas.List.{get_or_past, take_all}
use Rattle.std.proofs.lemmas.List.Sums.{sum_by-cons, sum_by-set, sum_by_more, sum_by_more_le, sum_by-take-le}
use Rattle.edge_bits.specs.declared.words.Node.{Node}
use Rattle.edge_bits.specs.declared.words.Word.{Word}
use Rattle.edge_bits.specs.declared.words.Word.TheVariants.{Inner, Leaf}
use Rattle.edge_bits.specs.Words.{unpack_of}
use Rattle.held_slots.specs.Arcs.{AreFirst, Arcs, IsChange, IsNamedIn, IsOf, arcs_in, arcs_of, arcs_to}

abbrev pub flag : Bool → ℕ
flag b = cond b 1 0

not_equal : (a b : ℕ) → a ≢ b → (a == b) ≡ false
not_equal a b ne = at (eqb a b) refl
  where
    at : (c : Bool) → eqb a b ≡ c → c ≡ false
    at true e = absurd (ne (eqb-true a b e))
    at false e = refl

at_most_one : (b : Bool) → cond b 1 0 ≤ 1
at_most_one true = omega arith
at_most_one false = omega arith

-- a word has two arcs at most
pub word_few : (o : Option Word) (s : ℕ) → arcs_of o s ≤ 2
word_few None s = omega arith
word_few (Some (Leaf x)) s = omega arith
word_few (Some (Inner node)) s =
    let a = at_most_one (node.hi == s) in
    let b = at_most_one (node.lo.index == s) in
    omega (arith, a, b)

-- a word that some slot has is counted
pub word_counted : (words : List ℕ) (t s : ℕ) → t < length words → arcs_in s (get_or words t 0) ≤ arcs_to words s
unfolding arcs_to
word_counted words t s within = let e = sum_by_more_le (arcs_in s) words t 0 within in omega (arith, e)

-- so a count fits 32 bits
pub arcs_few : (words : List ℕ) (s : ℕ) → arcs_to words s ≤ 2 * length words
unfolding arcs_to
arcs_few [] s = omega arith
arcs_few (bits ∷ words) s = let a = word_few (unpack_of bits) s in let r = arcs_few words s in let e = sum_by-cons (arcs_in s) bits words in omega (arith, a, r, e)

-- One slot's word changes: the arcs of the old one go, and those of the new one come.
pub arcs_put : (words : List ℕ) (t bits s : ℕ) → t < length words → arcs_to (set words t bits) s + arcs_in s (get_or words t 0) ≡ arcs_to words s + arcs_in s bits
unfolding arcs_to
arcs_put words t bits s within = sum_by-set (arcs_in s) words t bits 0 within

-- the words so far, and the next one
pub arcs_more : (words : List ℕ) (i s : ℕ) → i < length words → sum_by (arcs_in s) (take (i + 1) words) ≡ sum_by (arcs_in s) (take i words) + arcs_in s (get_or words i 0)
arcs_more words i s within = sum_by_more (arcs_in s) words i 0 within

pub so_far_few : (words : List ℕ) (i s : ℕ) → sum_by (arcs_in s) (take i words) ≤ 2 * length words
unfolding arcs_to
so_far_few words i s = let few = arcs_few words s in let part = sum_by-take-le (arcs_in s) words i in omega (arith, few, part)

pub all_counted : (words : List ℕ) (i s : ℕ) → length words ≤ i → sum_by (arcs_in s) (take i words) ≡ arcs_to words s
unfolding arcs_to
all_counted words i s whole = ap (sum_by (arcs_in s)) (take_all i words whole)

names_one : (node : Node) (s : ℕ) → (node.hi ≡ s) ⊎ (node.lo.index ≡ s) → 1 ≤ arcs_of (Some (Inner node)) s
names_one node s (inl e) = let h : flag (node.hi == s) ≡ 1 = ap flag (eq-eqb node.hi s e) in omega (arith, h)
names_one node s (inr e) = let h : flag (node.lo.index == s) ≡ 1 = ap flag (eq-eqb node.lo.index s e) in omega (arith, h)

some_names : (o : Option Word) (s : ℕ) → 1 ≤ arcs_of o s → (node : Node) × (o ≡ Some (Inner node)) × ((node.hi ≡ s) ⊎ (node.lo.index ≡ s))
some_names None s le = absurd (omega (arith, le))
some_names (Some (Leaf x)) s le = absurd (omega (arith, le))
some_names (Some (Inner node)) s le = elim (cases_eq node.hi s) [
  | inl e ↦ (node, refl, inl e)
  | inr ne ↦ elim (cases_eq node.lo.index s) [
    | inl e ↦ (node, refl, inr e)
    | inr me ↦ (
        let a : flag (node.hi == s) ≡ 0 = ap flag (not_equal node.hi s ne) in
        let b : flag (node.lo.index == s) ≡ 0 = ap flag (not_equal node.lo.index s me) in
        absurd (omega (arith, a, b, le)))
  ]
]

-- a sum that is not 0 has a term that is not
some_term : (f : ℕ → ℕ) (xs : List ℕ) → 1 ≤ sum_by f xs → (i : ℕ) × (1 ≤ f (get_or xs i 0))
some_term f [] le = absurd (omega (arith, le))
some_term f (x ∷ xs) le = elim (cases_lt (f x) 1) [
  | inl none ↦ (let e = sum_by-cons f x xs in let r = some_term f xs (omega (arith, le, none, e)) in (suc r.0, r.1))
  | inr one ↦ (0, one)
]

-- a slot is named exactly where its count is not 0
pub some_named : (words : List ℕ) (s : ℕ) → 1 ≤ arcs_to words s → IsNamedIn words s
unfolding arcs_to
some_named words s le =
    let term = some_term (arcs_in s) words le in
    let names = some_names (unpack_of (get_or words term.0 0)) s term.1 in
    (term.0, names.0, names.1, names.2)

pub named_some : (words : List ℕ) (s : ℕ) → IsNamedIn words s → 1 ≤ arcs_to words s
named_some words s (t, node, at, names) = elim (cases_lt t (length words)) [
  | inl lt ↦ (
      let one : 1 ≤ arcs_in s (get_or words t 0) = subst (λ o. 1 ≤ arcs_of o s) (sym at) (names_one node s names) in
      let counted = word_counted words t s lt in
      omega (arith, one, counted))
  | inr ge ↦ absurd (let e : None ≡ Some (Inner node) = sym (ap unpack_of (get_or_past words t 0 ge)) ∙ at in cc)
]

module _ (arcs : Arcs) (words : List ℕ) (slot was : ℕ) (change : IsChange arcs words slot was) (known : arcs.known ≡ true) where
  pub change_within : (s : ℕ) → s < arcs.slots → arcs_in s was ≤ get_or arcs.counts s 0
  change_within s lt =
      let counted = word_counted words slot s change.within in
      let is = change.known known s lt in
      let here : arcs_in s (get_or words slot 0) ≡ arcs_in s was = ap (arcs_in s) change.word in
      omega (arith, counted, is, here)

  module _ (taken : List ℕ) (long : length taken ≡ length arcs.counts) (few : length arcs.counts ≤ arcs.slots) (less : (s : ℕ) → s < arcs.slots → get_or taken s 0 + arcs_in s was ≡ get_or arcs.counts s 0) where
    pub taken_few : (s : ℕ) → get_or taken s 0 + 2 < 2 ^ 32
    taken_few s = elim (cases_lt s arcs.slots) [
      | inl lt ↦ (let l = less s lt in let is = change.known known s lt in let most = arcs_few words s in let short = change.few in omega (arith, l, is, most, short))
      | inr ge ↦ (let none : get_or taken s 0 ≡ 0 = get_or_past taken s 0 (omega (arith, ge, long, few)) in omega (arith, none))
    ]

    pub changed : (bits : ℕ) (counts : List ℕ) → ((s : ℕ) → s < arcs.slots → get_or counts s 0 ≡ get_or taken s 0 + arcs_in s bits) → (s : ℕ) → s < arcs.slots → get_or counts s 0 ≡ arcs_to (set words slot bits) s
    changed bits counts more s lt =
        let m = more s lt in
        let l = less s lt in
        let is = change.known known s lt in
        let put = arcs_put words slot bits s change.within in
        let here : arcs_in s (get_or words slot 0) ≡ arcs_in s was = ap (arcs_in s) change.word in
        omega (arith, m, l, is, put, here)

pub told_named : (arcs : Arcs) (slot : ℕ) → slot < arcs.slots → arcs.known ≡ true → nat_lt 0 (get_or arcs.counts slot 0) ≡ true → (words : List ℕ) → IsOf arcs words → IsNamedIn words slot
told_named arcs slot lt known some words of = let is = of known slot lt in let one = ltb-true 0 (get_or arcs.counts slot 0) some in some_named words slot (omega (arith, is, one))

pub told_unnamed : (arcs : Arcs) (slot : ℕ) → slot < arcs.slots → arcs.known ≡ true → nat_lt 0 (get_or arcs.counts slot 0) ≡ false → (words : List ℕ) → IsOf arcs words → IsNamedIn words slot → ⊥
told_unnamed arcs slot lt known none words of named = let is = of known slot lt in let one = named_some words slot named in let zero = ltb-false 0 (get_or arcs.counts slot 0) none in omega (arith, is, one, zero)

-- words that are the same, but for zeros at the end
no_arcs : (slot bits : ℕ) → bits ≡ 0 → arcs_in slot bits ≡ 0
no_arcs slot bits zero = ap (arcs_in slot) zero

pub same_arcs : (words all : List ℕ) (slot : ℕ) → AreFirst words all → arcs_to words slot ≡ arcs_to all slot
unfolding arcs_to
same_arcs [] [] slot same = refl
same_arcs [] (bits ∷ all) slot same =
    let rest = same_arcs [] all slot (λ s. same (suc s)) in
    let none = no_arcs slot bits (sym (same 0)) in
    let e = sum_by-cons (arcs_in slot) bits all in
    omega (arith, rest, none, e)
same_arcs (bits ∷ words) [] slot same =
    let rest = same_arcs words [] slot (λ s. same (suc s)) in
    let none = no_arcs slot bits (same 0) in
    let e = sum_by-cons (arcs_in slot) bits words in
    omega (arith, rest, none, e)
same_arcs (bits ∷ words) (more ∷ all) slot same =
    let rest = same_arcs words all slot (λ s. same (suc s)) in
    let here : arcs_in slot bits ≡ arcs_in slot more = ap (arcs_in slot) (same 0) in
    let e = sum_by-cons (arcs_in slot) bits words in
    let f = sum_by-cons (arcs_in slot) more all in
    omega (arith, rest, here, e, f)
