-- What is noted of the signals that a gate reads.
use Rattle.std.proofs.Common.{◌≡◌, ◌≢◌, ℕ, ◌+◌, ◌<◌, ◌≤◌, List, [], ◌∷◌, ◌++◌, inl, inr, All, length, take, get_or, refl, sym, ap, subst, ◌∙◌, arith, replicate, zero, suc}
use Rattle.std.specs.Prelude.{◌⊎◌, Bool, true, false, slice_get, slice_index, max, nat_lt}
use Rattle.std.specs.List.{Contains, list_all}
use Rattle.std.proofs.lemmas.Bool.{cases_lt, false≢true, ltb-true}
use Rattle.std.proofs.lemmas.List.Folds.{list_all_at}
use Rattle.std.proofs.lemmas.Option.{get_or_from_slice_get, slice_get-get_or}
use Rattle.std.proofs.Math.ListN.{set}
use Rattle.std.proofs.Math.Nat.{le-max_left, le-max_right, max-eq_left, max-eq_right}
use Rattle.std.proofs.lemmas.List.Elements.{Contains-append_left, Contains-append_right, Contains-push}
use mathlib.Core.Logic.{dite}
use native.Mathlib.Decide.{ℕ_discrete}
use Rattle.std.proofs.lemmas.List.{get_or-set_same, get_or-set_other, get_or-take, get_or_default, length-set, length-take-le, take_more}
use Rattle.cover_nets.specs.declared.net.Net.{Net}
use Rattle.cover_nets.specs.declared.net.Cover.{Cover}
use Rattle.cover_nets.specs.Networks.{IsOrdered}
use Rattle.net_builds.specs.Uses.{IsReader, KnowsReads, Raises}

module _ (signals old last : List ℕ) (reader i noted : ℕ) (within : i < length signals) (below : All (λ signal. signal < length old) signals) (so_far : Raises (take i signals) reader old last)
    (is : noted ≡ max (get_or last (get_or signals i 0) 0) reader) where
  abbrev pub x : ℕ
  x = get_or signals i 0

  x_within : x < length last
  x_within = omega (arith, below i 0 within, so_far.long)

  abbrev pub new : List ℕ
  new = set last x noted

  at_x : (s : ℕ) → s ≡ x → get_or new s 0 ≡ noted
  at_x s e = ap (λ t. get_or new t 0) e ∙ get_or-set_same last x noted 0 x_within

  more : (s : ℕ) → get_or last s 0 ≤ get_or new s 0
  more s = dite (ℕ_discrete s x)
      (λ e. omega (arith, at_x s e, is, le-max_left (get_or last x 0) reader, ap (λ t. get_or last t 0) e))
      (λ apart. omega (arith, get_or-set_other last x s noted 0 apart))

  old_front : (k d : ℕ) → k < i → get_or (take (i + 1) signals) k d ≡ get_or (take i signals) k d
  old_front k d less = get_or-take (i + 1) signals k d (omega (arith, less)) ∙ sym (get_or-take i signals k d less)

  long_front : length (take i signals) ≡ i
  long_front = length-take-le i signals (omega (arith, within))

  long_more : length (take (i + 1) signals) ≡ i + 1
  long_more = length-take-le (i + 1) signals (omega (arith, within))

  same_default : (d : ℕ) → get_or signals i d ≡ x
  same_default d = get_or_default signals i d 0 within

  noted_all : All (λ signal. reader ≤ get_or new signal 0) (take (i + 1) signals)
  noted_all k d less = dite (ℕ_discrete k i)
      (λ e. omega (arith, at_x (get_or (take (i + 1) signals) k d) (get_or-take (i + 1) signals k d (omega (arith, e)) ∙ ap (λ t. get_or signals t d) e ∙ same_default d), is, le-max_right (get_or last x 0) reader))
      (λ apart. let before : k < i = omega (arith, apart, less, long_more) in
      omega (arith, ap (λ s. get_or new s 0) (old_front k d before), more (get_or (take i signals) k d), so_far.noted k d (omega (arith, before, long_front))))

  front_is : take (i + 1) signals ≡ take i signals ++ x ∷ []
  front_is = take_more signals i 0 within

  -- what is as it was has the reader only if it is one of those so far
  carried : (s : ℕ) → get_or new s 0 ≡ get_or last s 0 → (get_or new s 0 ≡ get_or old s 0) ⊎ (Contains (take (i + 1) signals) s × (get_or new s 0 ≡ reader))
  carried s same = by (so_far.changed s)
    where
      by : (get_or last s 0 ≡ get_or old s 0) ⊎ (Contains (take i signals) s × (get_or last s 0 ≡ reader)) → (get_or new s 0 ≡ get_or old s 0) ⊎ (Contains (take (i + 1) signals) s × (get_or new s 0 ≡ reader))
      by (inl e) = inl (same ∙ e)
      by (inr (has, e)) = inr (subst (λ xs. Contains xs s) (sym front_is) (Contains-append_left (take i signals) (x ∷ []) s has), same ∙ e)

  changed_at : (s : ℕ) → (get_or new s 0 ≡ get_or old s 0) ⊎ (Contains (take (i + 1) signals) s × (get_or new s 0 ≡ reader))
  changed_at s = dite (ℕ_discrete s x)
      (λ e. by e (cases_lt (get_or last x 0) reader))
      (λ apart. carried s (get_or-set_other last x s noted 0 apart))
    where
      by : s ≡ x → (get_or last x 0 < reader) ⊎ (reader ≤ get_or last x 0) → (get_or new s 0 ≡ get_or old s 0) ⊎ (Contains (take (i + 1) signals) s × (get_or new s 0 ≡ reader))
      by e (inl less) = inr (
        subst (λ xs. Contains xs s) (sym front_is) (Contains-append_right (take i signals) (x ∷ []) s (subst (λ y. Contains (x ∷ []) y) (sym e) (Contains-push [] x))),
        at_x s e ∙ is ∙ max-eq_right (omega (arith, less)),
      )
      by e (inr more) = carried s (at_x s e ∙ is ∙ max-eq_left more ∙ ap (λ t. get_or last t 0) (sym e))

  -- one signal more is noted
  pub raises-more : Raises (take (i + 1) signals) reader old new
  raises-more = record {
    long = length-set last x noted ∙ so_far.long;
    raised = λ s. omega (arith, so_far.raised s, more s);
    noted = noted_all;
    changed = changed_at;
    others = λ s bound less past.
        let front : All (λ other. other < bound) (take i signals) = λ k d k_less. subst (λ t. t < bound) (old_front k d (omega (arith, k_less, long_front))) (less k d (omega (arith, k_less, long_front, long_more))) in
        let x_less : x < bound = subst (λ t. t < bound) (get_or-take (i + 1) signals i 0 (omega arith)) (less i 0 (omega (arith, long_more))) in
        get_or-set_other last x s noted 0 (λ e. omega (arith, e, x_less, past)) ∙ so_far.others s bound front past;
  }

-- The gate at a place reads signals before it.
pub reads_before : (net : Net) → IsOrdered net → (i : ℕ) (d : Cover) → i < length net.gates → All (λ signal. signal < length net.inputs + i) (get_or net.gates i d).ins
reads_before net ordered i d within k e less =
    let gate = get_or net.gates i d in
    let all = ordered i gate (slice_get-get_or net.gates i d within) in
    by_test k e less (nat_lt (get_or gate.ins k e) (length net.inputs + i)) refl all
  where
    by_test : (k e : ℕ) → k < length (get_or net.gates i d).ins → (b : Bool) → nat_lt (get_or (get_or net.gates i d).ins k e) (length net.inputs + i) ≡ b
        → list_all (λ s. nat_lt s (length net.inputs + i)) (get_or net.gates i d).ins ≡ true → get_or (get_or net.gates i d).ins k e < length net.inputs + i
    by_test k e less true is all = ltb-true _ _ is
    by_test k e less false is all = absurd (false≢true (sym (list_all_at (λ s. nat_lt s (length net.inputs + i)) (get_or net.gates i d).ins k e less is) ∙ all))

-- One gate more was followed.
pub follows-more : (net : Net) (i : ℕ) (d : Cover) (old new : List ℕ) → IsOrdered net → i < length net.gates → KnowsReads net (i + 1) old
    → Raises (get_or net.gates i d).ins (length net.inputs + i) old new → KnowsReads net i new
follows-more net i d old new ordered within so_far raises j gate from at used = dite (ℕ_discrete j i)
    (λ e. subst (λ (g : Cover). All (λ signal. length net.inputs + j ≤ slice_index new signal) g.ins)
    (get_or_from_slice_get net.gates i gate d (ap (slice_get net.gates) (sym e) ∙ at))
    (λ k f less. omega (arith, e, raises.noted k f less)))
    (λ apart.
    let later : i + 1 ≤ j = omega (arith, from, apart) in
    let same = raises.others (length net.inputs + j) (length net.inputs + i) (reads_before net ordered i d within) (omega (arith, later)) in
    λ k f less. omega (arith, so_far j gate later at (λ zero. used (same ∙ zero)) k f less, raises.raised (get_or gate.ins k f)))

-- A reader stays one where notes are raised.
reader-kept : (net : Net) (old new : List ℕ) (signal reader : ℕ) → ((s : ℕ) → slice_index old s ≤ slice_index new s) → IsReader net old signal reader → IsReader net new signal reader
reader-kept net old new signal reader more (j, gate, at, has, used, is) = (j, gate, at, has, (λ zero. used (omega (arith, zero, more (length net.inputs + j)))), is)

-- What is noted is told by who reads it.
pub told-more : (net : Net) (i : ℕ) (d : Cover) (first old new : List ℕ) → i < length net.gates → slice_index old (length net.inputs + i) ≢ 0
    → ((s : ℕ) → slice_index old s ≢ 0 → (slice_index old s ≡ slice_index first s) ⊎ IsReader net old s (slice_index old s))
    → Raises (get_or net.gates i d).ins (length net.inputs + i) old new → (s : ℕ) → slice_index new s ≢ 0 → (slice_index new s ≡ slice_index first s) ⊎ IsReader net new s (slice_index new s)
told-more net i d first old new within used told raises s nonzero = by (raises.changed s)
  where
    was : slice_index new s ≡ slice_index old s → (slice_index old s ≡ slice_index first s) ⊎ IsReader net old s (slice_index old s) → (slice_index new s ≡ slice_index first s) ⊎ IsReader net new s (slice_index new s)
    was same (inl e) = inl (same ∙ e)
    was same (inr reader) = inr (subst (IsReader net new s) (sym same) (reader-kept net old new s (slice_index old s) raises.raised reader))

    by : (slice_index new s ≡ slice_index old s) ⊎ (Contains (get_or net.gates i d).ins s × (slice_index new s ≡ length net.inputs + i)) → (slice_index new s ≡ slice_index first s) ⊎ IsReader net new s (slice_index new s)
    by (inl same) = was same (told s (λ zero. nonzero (same ∙ zero)))
    by (inr (has, is)) = inr (i, get_or net.gates i d, slice_get-get_or net.gates i d within, has, (λ zero. used (omega (arith, zero, raises.raised (length net.inputs + i)))), is)

-- Of a list of zeros whose notes were raised once, what is noted is one of the signals.
pub noted-own : (own last : List ℕ) (count reader : ℕ) → Raises own reader (replicate count 0) last → (s : ℕ) → slice_index last s ≢ 0 → Contains own s
noted-own own last count reader raises s nonzero = by (raises.changed s)
  where
    zeros : (n k : ℕ) → get_or {A = ℕ} (replicate n 0) k 0 ≡ 0
    zeros zero k = refl
    zeros (suc n) zero = refl
    zeros (suc n) (suc k) = zeros n k

    by : (slice_index last s ≡ slice_index (replicate count 0) s) ⊎ (Contains own s × (slice_index last s ≡ reader)) → Contains own s
    by (inl same) = absurd (nonzero (same ∙ zeros count s))
    by (inr (has, is)) = has

-- So at the end.
pub told-own : (net : Net) (own first last : List ℕ) (count reader : ℕ) → Raises own reader (replicate count 0) first
    → ((s : ℕ) → slice_index last s ≢ 0 → (slice_index last s ≡ slice_index first s) ⊎ IsReader net last s (slice_index last s))
    → (s : ℕ) → slice_index last s ≢ 0 → Contains own s ⊎ IsReader net last s (slice_index last s)
told-own net own first last count reader raises told s nonzero = by (told s nonzero)
  where
    by : (slice_index last s ≡ slice_index first s) ⊎ IsReader net last s (slice_index last s) → Contains own s ⊎ IsReader net last s (slice_index last s)
    by (inl same) = inl (noted-own own first count reader raises s (λ zero. nonzero (same ∙ zero)))
    by (inr reader) = inr reader
