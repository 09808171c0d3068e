-- Each kind of step on the phase word keeps its part of the rule.
use Rattle.std.proofs.Common.{◌≡◌, ◌≢◌, ℕ, zero, suc, ◌+◌, ◌*◌, ◌-◌, ◌<◌, ◌≤◌, List, [], ◌∷◌, set, refl, ap, sym, subst, arith}
use mathlib.Core.Option.{some, some-injective, some-ne-none}
use lib.ListN.{get_elem?}
use Rattle.words_rule.specs.declared.view.Share.{Share}
use Rattle.words_rule.specs.declared.view.Share.TheVariants.{Nothing, Held, Owed}
use Rattle.words_rule.specs.declared.view.Hold.{Hold}
use Rattle.words_rule.specs.declared.view.Hold.TheVariants.{Free, Claimed, Holding}
use Rattle.words_rule.specs.declared.view.Shares.{Shares}
use Rattle.words_rule.specs.Tallies.{total}
use Rattle.words_rule.specs.Phase.{Footing, HasBoth, weight, share, bit, hold, op_weight, op_share, walk_weight, walk_share, order_bit, order_hold, full_bit, full_hold, part, Phase, claims, no_shares, with_op, with_walk, with_order, with_full, on, ops_of, walks_of, order_of, full_of}
use Rattle.words_rule.proofs.Lists.{each_set}
use Rattle.words_rule.proofs.Tallying.{total-set, total-has, total-two}

total_le : {A : Type 0} (f g : A → ℕ) (xs : List A) → ((i : ℕ) (x : A) → get_elem? xs i ≡ some x → f x ≤ g x) → total f xs ≤ total g xs
total_le f g [] each = omega arith
total_le f g (x ∷ xs) each = let a = each 0 x refl in let r = total_le f g xs (λ i. each (suc i)) in omega (arith, a, r)

hold_bit : (h : Hold) → hold h ≤ bit h
hold_bit Free = omega arith
hold_bit Claimed = omega arith
hold_bit Holding = omega arith

share_weight : (s : Share) → share s ≤ weight s
share_weight Nothing = omega arith
share_weight Held = omega arith
share_weight Owed = omega arith

module _ (n : ℕ) (xs : List Footing) (r : Phase n xs) where
  bounds : (total op_weight xs ≤ 64) × (total walk_weight xs ≤ 64) × (total full_bit xs ≤ total order_bit xs) × (total order_hold xs ≤ total order_bit xs)
  bounds =
      let a = total_le op_weight part xs (λ i x at. (r.small i x at).0) in
      let b = total_le walk_weight part xs (λ i x at. (r.small i x at).1) in
      let m = r.most in
      (omega (arith, a, m), omega (arith, b, m), total_le full_bit order_bit xs (λ i x at. (r.within i x at).0), total_le order_hold order_bit xs (λ i x _. hold_bit x.shares.order))

  pub ops_is : ops_of n ≡ total op_weight xs
  ops_is = let b = bounds in let fields = r.fields in omega (arith, b, fields)

  pub walks_is : walks_of n ≡ total walk_weight xs
  walks_is = let b = bounds in let fields = r.fields in omega (arith, b, fields)

  pub order_is : order_of n ≡ total order_bit xs
  order_is = let b = bounds in let fields = r.fields in let one = r.one in omega (arith, b, fields, one)

  pub full_is : full_of n ≡ total full_bit xs
  full_is = let b = bounds in let fields = r.fields in let one = r.one in omega (arith, b, fields, one)

  -- a step that changes one view: each total moves by what the view's weight does
  pub moves : (id : ℕ) (v w : Footing) (m : ℕ) → get_elem? xs id ≡ some v → w.parts ≡ v.parts → (op_weight w ≤ v.parts) × (walk_weight w ≤ v.parts)
      → m + (op_weight v + 65536 * walk_weight v + 4294967296 * order_bit v + 8589934592 * full_bit v) ≡ n + (op_weight w + 65536 * walk_weight w + 4294967296 * order_bit w + 8589934592 * full_bit w)
      → total order_bit xs + order_bit w ≤ 1 + order_bit v
      → HasBoth w
      → ((H S : ℕ) → H + order_hold v ≡ total order_hold xs + order_hold w → S + op_share v ≡ total op_share xs + op_share w → 0 < H → S ≡ 0)
      → ((F W : ℕ) → F + full_hold v ≡ total full_hold xs + full_hold w → W + walk_share v ≡ total walk_share xs + walk_share w → 0 < F → W ≡ 0)
      → Phase m (set xs id w)
  moves id v w m at same few word one within apart apart_full =
      let t1 = total-set op_weight xs id v w at in
      let t2 = total-set walk_weight xs id v w at in
      let t3 = total-set order_bit xs id v w at in
      let t4 = total-set full_bit xs id v w at in
      let t5 = total-set part xs id v w at in
      let fields = r.fields in
      let m = r.most in
      let a = few.0 in let b = few.1 in
      record {
        most = omega (arith, m, t5, same);
        small = each_set (λ i (x : Footing). (op_weight x ≤ x.parts) × (walk_weight x ≤ x.parts)) xs id w (λ i x _ here. r.small i x here) (omega (arith, a, same), omega (arith, b, same));
        fields = omega (arith, fields, word, t1, t2, t3, t4);
        one = omega (arith, one, t3);
        within = each_set (λ i x. HasBoth x) xs id w (λ i x _ here. r.within i x here) within;
        apart = apart (total order_hold (set xs id w)) (total op_share (set xs id w)) (total-set order_hold xs id v w at) (total-set op_share xs id v w at);
        apart_full = apart_full (total full_hold (set xs id w)) (total walk_share (set xs id w)) (total-set full_hold xs id v w at) (total-set walk_share xs id v w at);
      }

  still : (h h' s s' hv sv : ℕ) → (0 < h → s ≡ 0) → h' + hv ≡ h + hv → s' + sv ≡ s + sv → 0 < h' → s' ≡ 0
  still h h' s s' hv sv apart e f l = let k = apart (omega (arith, e, l)) in omega (arith, k, f)

  keep_order : (v : Footing) (H S : ℕ) → H + order_hold v ≡ total order_hold xs + order_hold v → S + op_share v ≡ total op_share xs + op_share v → 0 < H → S ≡ 0
  keep_order v H S = still (total order_hold xs) H (total op_share xs) S (order_hold v) (op_share v) r.apart

  keep_full : (v : Footing) (F W : ℕ) → F + full_hold v ≡ total full_hold xs + full_hold v → W + walk_share v ≡ total walk_share xs + walk_share v → 0 < F → W ≡ 0
  keep_full v F W = still (total full_hold xs) F (total walk_share xs) W (full_hold v) (walk_share v) r.apart_full

  -- operation share in: held where neither bit is set, else owed
  pub op_held : (id : ℕ) (v : Footing) → get_elem? xs id ≡ some v → 0 < v.parts → v.shares.op ≡ Nothing → n < 4294967296 → Phase (suc n) (set xs id (on v (with_op v.shares Held n)))
  op_held id v at some_part none_yet free =
      let e : op_weight v ≡ 0 = ap weight none_yet in
      let one = r.one in let fields = r.fields in let b = bounds in let hs = b.3 in let small = r.small id v at in let w = small.1 in
      moves id v (on v (with_op v.shares Held n)) (suc n) at refl (omega (arith, some_part), w) (omega (arith, e)) (omega (arith, one)) (r.within id v at)
      (λ H S eH eS l. absurd (omega (arith, eH, l, fields, free, hs))) (keep_full v)

  pub op_owed : (id : ℕ) (v : Footing) → get_elem? xs id ≡ some v → 0 < v.parts → v.shares.op ≡ Nothing → Phase (suc n) (set xs id (on v (with_op v.shares Owed n)))
  op_owed id v at some_part none_yet =
      let e : op_weight v ≡ 0 = ap weight none_yet in
      let e' : op_share v ≡ 0 = ap share none_yet in
      let one = r.one in let small = r.small id v at in let w = small.1 in
      moves id v (on v (with_op v.shares Owed n)) (suc n) at refl (omega (arith, some_part), w) (omega (arith, e)) (omega (arith, one)) (r.within id v at)
      (λ H S eH eS l. still (total order_hold xs) H (total op_share xs) S (order_hold v) 0 r.apart eH (omega (arith, eS, e')) l) (keep_full v)

  -- the share or its debt is given up
  pub op_out : (id : ℕ) (v : Footing) → get_elem? xs id ≡ some v → op_weight v ≡ 1 → (0 < n) × Phase (n - 1) (set xs id (on v (with_op v.shares Nothing n)))
  op_out id v at has_one =
      let one = r.one in let fields = r.fields in let small = r.small id v at in let w = small.1 in
      let has = total-has op_weight xs id v at in
      let pos : 0 < n = omega (arith, fields, has, has_one) in (
        pos,
        moves id v (on v (with_op v.shares Nothing n)) (n - 1) at refl (omega arith, w) (omega (arith, has_one, pos)) (omega (arith, one)) (r.within id v at)
            (λ H S eH eS l. let k = r.apart (omega (arith, eH, l)) in omega (arith, k, eS)) (keep_full v),
      )

  -- walk share in: held where the full bit is clear, else owed
  pub walk_held : (id : ℕ) (v : Footing) → get_elem? xs id ≡ some v → 0 < v.parts → v.shares.walk ≡ Nothing → n < 8589934592 → Phase (n + 65536) (set xs id (on v (with_walk v.shares Held n)))
  walk_held id v at some_part none_yet free =
      let e : walk_weight v ≡ 0 = ap weight none_yet in
      let one = r.one in let fields = r.fields in let small = r.small id v at in let o = small.0 in
      let f : total full_hold xs ≤ total full_bit xs = total_le full_hold full_bit xs (λ i x _. hold_bit x.shares.full) in
      moves id v (on v (with_walk v.shares Held n)) (n + 65536) at refl (o, omega (arith, some_part)) (omega (arith, e)) (omega (arith, one)) (r.within id v at) (keep_order v)
      (λ F W eF eW l. absurd (omega (arith, eF, l, fields, free, f)))

  pub walk_owed : (id : ℕ) (v : Footing) → get_elem? xs id ≡ some v → 0 < v.parts → v.shares.walk ≡ Nothing → Phase (n + 65536) (set xs id (on v (with_walk v.shares Owed n)))
  walk_owed id v at some_part none_yet =
      let e : walk_weight v ≡ 0 = ap weight none_yet in
      let e' : walk_share v ≡ 0 = ap share none_yet in
      let one = r.one in let small = r.small id v at in let o = small.0 in
      moves id v (on v (with_walk v.shares Owed n)) (n + 65536) at refl (o, omega (arith, some_part)) (omega (arith, e)) (omega (arith, one)) (r.within id v at) (keep_order v)
      (λ F W eF eW l. still (total full_hold xs) F (total walk_share xs) W (full_hold v) 0 r.apart_full eF (omega (arith, eW, e')) l)

  pub walk_out : (id : ℕ) (v : Footing) → get_elem? xs id ≡ some v → walk_weight v ≡ 1 → (65536 ≤ n) × Phase (n - 65536) (set xs id (on v (with_walk v.shares Nothing n)))
  walk_out id v at has_one =
      let one = r.one in let fields = r.fields in let small = r.small id v at in let o = small.0 in
      let has = total-has walk_weight xs id v at in
      let pos : 65536 ≤ n = omega (arith, fields, has, has_one) in (
        pos,
        moves id v (on v (with_walk v.shares Nothing n)) (n - 65536) at refl (o, omega arith) (omega (arith, has_one, pos)) (omega (arith, one)) (r.within id v at) (keep_order v)
            (λ F W eF eW l. let k = r.apart_full (omega (arith, eF, l)) in omega (arith, k, eW)),
      )

  -- the order bit was clear, and is claimed
  pub order_claimed : (id : ℕ) (v : Footing) → get_elem? xs id ≡ some v → v.shares.order ≡ Free → order_of n ≡ 0 → Phase (n + 4294967296) (set xs id (on v (with_order v.shares Claimed n)))
  order_claimed id v at free clear =
      let e : order_bit v ≡ 0 = ap bit free in
      let e' : order_hold v ≡ 0 = ap hold free in
      let within = r.within id v at in
      let none_set : total order_bit xs ≡ 0 = omega (arith, order_is, clear) in
      moves id v (on v (with_order v.shares Claimed n)) (n + 4294967296) at refl (r.small id v at) (omega (arith, e)) (omega (arith, none_set)) (omega (arith, within, e), omega (arith, within, e'))
      (λ H S eH eS l. still (total order_hold xs) H (total op_share xs) S 0 (op_share v) r.apart (omega (arith, eH, e')) eS l) (keep_full v)

  -- the claim becomes a hold once a look finds no operation share
  pub order_held : (id : ℕ) (v : Footing) → get_elem? xs id ≡ some v → v.shares.order ≡ Claimed → ops_of n ≡ 0 → Phase n (set xs id (on v (with_order v.shares Holding n)))
  order_held id v at claimed none_seen =
      let e : order_bit v ≡ 1 = ap bit claimed in
      let e' : order_hold v ≡ 0 = ap hold claimed in
      let within = r.within id v at in
      let one = r.one in
      let no_ops : total op_weight xs ≡ 0 = omega (arith, ops_is, none_seen) in
      let shares : total op_share xs ≤ total op_weight xs = total_le op_share op_weight xs (λ i x _. share_weight x.shares.op) in
      moves id v (on v (with_order v.shares Holding n)) n at refl (r.small id v at) (omega (arith, e)) (omega (arith, one, e)) (omega (arith, within, e), omega (arith, within, e'))
      (λ H S eH eS l. omega (arith, eS, no_ops, shares)) (keep_full v)

  pub order_cleared : (id : ℕ) (v : Footing) → get_elem? xs id ≡ some v → order_bit v ≡ 1 → v.shares.full ≡ Free → (4294967296 ≤ n) × (order_of n ≡ 1) × Phase (n - 4294967296) (set xs id (on v (with_order v.shares Free n)))
  order_cleared id v at set_bit no_full =
      let f : full_bit v ≡ 0 = ap bit no_full in
      let f' : full_hold v ≡ 0 = ap hold no_full in
      let has = total-has order_bit xs id v at in
      let one = r.one in let fields = r.fields in
      let big : 4294967296 ≤ n = omega (arith, fields, has, set_bit) in (
        big,
        omega (arith, order_is, has, set_bit, one),
        moves id v (on v (with_order v.shares Free n)) (n - 4294967296) at refl (r.small id v at) (omega (arith, set_bit, big)) (omega (arith, one, set_bit)) (omega (arith, f), omega (arith, f'))
            (λ H S eH eS l. let k = r.apart (omega (arith, eH, l)) in omega (arith, k, eS)) (keep_full v),
      )

  -- the holder claims the full bit, and has the full hold once a look finds no walk share
  pub full_claimed : (id : ℕ) (v : Footing) → get_elem? xs id ≡ some v → v.shares.order ≡ Holding → v.shares.full ≡ Free → (full_of n ≡ 0) × Phase (n + 8589934592) (set xs id (on v (with_full v.shares Claimed n)))
  full_claimed id v at holding free =
      let e : full_bit v ≡ 0 = ap bit free in
      let e' : full_hold v ≡ 0 = ap hold free in
      let h : order_hold v ≡ 1 = ap hold holding in
      let o : order_bit v ≡ 1 = ap bit holding in
      let one = r.one in
      let moved = total-set full_bit xs id v (on v (with_full v.shares Claimed n)) at in
      let others : total full_bit xs ≡ 0 = let l = total_le full_bit order_bit (set xs id (on v (with_full v.shares Claimed n))) (each_set (λ i (x : Footing). full_bit x ≤ order_bit x) xs id (on v (with_full v.shares Claimed n)) (λ i x _ here. (r.within i x here).0) (omega (arith, o))) in
      let bits = total-set order_bit xs id v (on v (with_full v.shares Claimed n)) at in omega (arith, l, bits, moved, e, one) in (
        omega (arith, full_is, others),
        moves id v (on v (with_full v.shares Claimed n)) (n + 8589934592) at refl (r.small id v at) (omega (arith, e)) (omega (arith, one)) (omega (arith, o), omega (arith, h)) (keep_order v)
            (λ F W eF eW l. still (total full_hold xs) F (total walk_share xs) W 0 (walk_share v) r.apart_full (omega (arith, eF, e')) eW l),
      )

  pub full_held : (id : ℕ) (v : Footing) → get_elem? xs id ≡ some v → v.shares.order ≡ Holding → v.shares.full ≡ Claimed → walks_of n ≡ 0 → Phase n (set xs id (on v (with_full v.shares Holding n)))
  full_held id v at holding claimed none_seen =
      let e : full_bit v ≡ 1 = ap bit claimed in
      let o : order_bit v ≡ 1 = ap bit holding in
      let h : order_hold v ≡ 1 = ap hold holding in
      let one = r.one in
      let no_walks : total walk_weight xs ≡ 0 = omega (arith, walks_is, none_seen) in
      let shares : total walk_share xs ≤ total walk_weight xs = total_le walk_share walk_weight xs (λ i x _. share_weight x.shares.walk) in
      moves id v (on v (with_full v.shares Holding n)) n at refl (r.small id v at) (omega (arith, e)) (omega (arith, one)) (omega (arith, o), omega (arith, h)) (keep_order v)
      (λ F W eF eW l. omega (arith, eW, no_walks, shares))

  -- both holds become claims, and an operation share is held beside them
  pub op_kept : (id : ℕ) (v : Footing) → get_elem? xs id ≡ some v → 0 < v.parts → v.shares.op ≡ Nothing → v.shares.order ≡ Holding → v.shares.full ≡ Holding → Phase (suc n) (set xs id (on v (with_op (claims v.shares) Held n)))
  op_kept id v at some_part none_yet holding full =
      let e : op_weight v ≡ 0 = ap weight none_yet in
      let o : order_bit v ≡ 1 = ap bit holding in
      let h : order_hold v ≡ 1 = ap hold holding in
      let f : full_bit v ≡ 1 = ap bit full in
      let g : full_hold v ≡ 1 = ap hold full in
      let one = r.one in let b = bounds in let small = r.small id v at in
      let most = b.3 in let w = small.1 in
      let few : total full_hold xs ≤ total order_hold xs = total_le full_hold order_hold xs (λ i x there. (r.within i x there).1) in
      moves id v (on v (with_op (claims v.shares) Held n)) (suc n) at refl (omega (arith, some_part), w) (omega (arith, e, o, f)) (omega (arith, one, o)) (omega arith, omega arith)
      (λ H S eH eS l. absurd (omega (arith, eH, l, h, most, one))) (λ F W eF eW l. absurd (omega (arith, eF, l, g, few, most, one)))

  pub full_cleared : (id : ℕ) (v : Footing) → get_elem? xs id ≡ some v → full_bit v ≡ 1 → (8589934592 ≤ n) × Phase (n - 8589934592) (set xs id (on v (with_full v.shares Free n)))
  full_cleared id v at set_bit =
      let one = r.one in let fields = r.fields in
      let has = total-has full_bit xs id v at in
      let big : 8589934592 ≤ n = omega (arith, fields, has, set_bit) in (
        big,
        moves id v (on v (with_full v.shares Free n)) (n - 8589934592) at refl (r.small id v at) (omega (arith, set_bit, big)) (omega (arith, one)) (omega arith, omega arith) (keep_order v)
            (λ F W eF eW l. let k = r.apart_full (omega (arith, eF, l)) in omega (arith, k, eW)),
      )

  -- one view alone holds the order
  pub one_order : (i j : ℕ) (v w : Footing) → j ≢ i → get_elem? xs i ≡ some v → get_elem? xs j ≡ some w → v.shares.order ≡ Holding → w.shares.order ≡ Holding → ⊥
  one_order i j v w apart a b x y =
      let two = total-two order_hold xs i j v w apart a b in let e : order_hold v ≡ 1 = ap hold x in let e' : order_hold w ≡ 1 = ap hold y in
      let h = bounds.3 in let one = r.one in omega (arith, two, e, e', h, one)

  -- who has a share, nobody holds the order beside
  pub excludes : (i j : ℕ) (v w : Footing) → get_elem? xs i ≡ some v → get_elem? xs j ≡ some w → v.shares.op ≡ Held → w.shares.order ≡ Holding → ⊥
  excludes i j v w a b held holding =
      let s = total-has op_share xs i v a in let h = total-has order_hold xs j w b in
      let e : op_share v ≡ 1 = ap share held in let e' : order_hold w ≡ 1 = ap hold holding in
      let k = r.apart (omega (arith, h, e')) in omega (arith, k, s, e)

  -- who has a walk share, nobody has the full hold beside
  pub excludes_full : (i j : ℕ) (v w : Footing) → get_elem? xs i ≡ some v → get_elem? xs j ≡ some w → v.shares.walk ≡ Held → w.shares.full ≡ Holding → ⊥
  excludes_full i j v w a b held holding =
      let s = total-has walk_share xs i v a in let h = total-has full_hold xs j w b in
      let e : walk_share v ≡ 1 = ap share held in let e' : full_hold w ≡ 1 = ap hold holding in
      let k = r.apart_full (omega (arith, h, e')) in omega (arith, k, s, e)

  pub small_word : n < 17179869184
  small_word = let b = bounds in let fields = r.fields in let one = r.one in let f = b.2 in let h = b.3 in omega (arith, b, fields, one, f, h)

pub phase_starts : (x : Footing) → x.parts ≤ 64 → x.shares ≡ no_shares → Phase 0 (x ∷ [])
phase_starts x few is =
    let a : op_weight x ≡ 0 = ap (λ (s : Shares). weight s.op) is in
    let b : walk_weight x ≡ 0 = ap (λ (s : Shares). weight s.walk) is in
    let c : order_bit x ≡ 0 = ap (λ (s : Shares). bit s.order) is in
    let d : full_bit x ≡ 0 = ap (λ (s : Shares). bit s.full) is in
    let e : order_hold x ≡ 0 = ap (λ (s : Shares). hold s.order) is in
    let f : full_hold x ≡ 0 = ap (λ (s : Shares). hold s.full) is in
    record {
      most = omega (arith, few);
      small = λ i y at. only i y at (λ (z : Footing). (op_weight z ≤ z.parts) × (walk_weight z ≤ z.parts)) (omega (arith, a), omega (arith, b));
      fields = omega (arith, a, b, c, d);
      one = omega (arith, c);
      within = λ i y at. only i y at HasBoth (omega (arith, d), omega (arith, f));
      apart = λ l. absurd (omega (arith, l, e));
      apart_full = λ l. absurd (omega (arith, l, f));
    }
  where
    only : (i : ℕ) (y : Footing) → get_elem? (x ∷ []) i ≡ some y → (P : Footing → Type 0) → P x → P y
    only zero y at P p = subst P (some-injective x y at) p
    only (suc i) y at P p = absurd (some-ne-none y (sym at))
