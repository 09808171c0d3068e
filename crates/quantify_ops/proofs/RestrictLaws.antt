-- A restriction, step by step.
use Rattle.std.proofs.Common.{◌≡◌, ℕ, ◌-◌, ◌<◌, ◌≤◌, min, Bool, true, false, not, cond, [], ℤ, Some, ◌⊎◌, inl, inr, refl, sym, ap, ap₂, ◌∙◌, subst, arith}
use Rattle.edge_bits.specs.Permanent.{truth_edge}
use Rattle.edge_bits.specs.declared.edges.Edge.{Edge}
use Rattle.edge_bits.specs.declared.edges.Kind.{Kind}
use Rattle.edge_bits.specs.declared.edges.Kind.TheVariants.{Bdd}
use Rattle.edge_bits.specs.Assignments.{bit}
use Rattle.function_laws.specs.Restrictions.{IsNowhere, IsRestriction}
use Rattle.function_laws.specs.Values.{IsFree, choice, cofactor, constant, exists_all, negation}
use Rattle.function_laws.proofs.BoundedRestriction.{Restricts-from}
use Rattle.function_laws.proofs.CubeLemmas.{by_bit, choice-at}
use Rattle.function_laws.proofs.RestrictionLaws.{IsRestriction-branch, IsRestriction-choice, IsRestriction-constant, IsRestriction-everywhere, IsRestriction-not, IsRestriction-nowhere, IsRestriction-same, somewhere-choice}
use Rattle.function_laws.proofs.SupportLemmas.{not_not}
use Rattle.function_laws.proofs.ValueLemmas.{everywhere}
use Rattle.node_store.specs.Edges.{flip_if}
use Rattle.function_laws.specs.Kinds.{BddFunction, ValueOf}
use Rattle.node_store.specs.Memo.{MemoHolds}
use Rattle.node_store.specs.Splits.{AtSecond, Leads, WaitIs, Waiting}
use Rattle.node_store.specs.Three.{IsFlipped}
use Rattle.node_store.specs.Two.{two_depth}
use Rattle.node_store.specs.TwoLaws.{two_depth-stays}
use Rattle.node_store.specs.Views.{AreTwo, CanMake, Denotes, Grown, Is, IsBelow, IsInner, IsKey, IsLeaf, IsLeafOf, IsVariable, PartsAt, Permanent, View, bdd_at, logic_one, logic_zero, node_values}
use Rattle.node_store.specs.ViewLaws.{Apart-variables, Denotes-flip, Denotes-truth, Grown-refl, Grown-trans, Is-from, Is-grown, IsBelow-inner, Splits-grown, level-grown, top-grown, values_at-grown, values_at-is}
use Rattle.node_store.specs.Work.{whole, IsPart, IsWork, Moves}
use Rattle.node_store.specs.WorkLaws.{IsPart-half, IsWork-due, Moves-made}
use Rattle.node_store.specs.declared.operator.Frame.{Frame}
use Rattle.node_store.specs.declared.operator.Task.{Task}
use Rattle.node_store.specs.declared.operator.Wait.TheVariants.{Only, First, Second}
use Rattle.ite_core.proofs.CofactorLaws.{regular_flipped, regular_is}
use Rattle.ite_core.proofs.Terminals.{truth_at}
use Rattle.node_store.specs.KindLaws.{Lacks-joined, part-joined}
use Rattle.quantify_ops.specs.Quantified.{IsFreeAbove}
use Rattle.quantify_ops.specs.Restricted.{CanBranch, IsLifted, IsPartOfBoth, LeadsLevel, OnlyWaits, RestrictAnswers, RestrictAsks, RestrictDue, RestrictParts, RestrictSplits, RestrictWaits, Restricted, both_cut, both_opposite, both_whole, restrict_key, work_of_restrict}
use Rattle.quantify_ops.specs.RestrictedLasts.{RestrictDue-stays, RestrictParts-stay, operands, work_of_restrict-stays}
use Rattle.quantify_ops.proofs.LiftLaws.{IsInner-grown}

-- what opening a condition tells
leaf_false : (e : Edge) (f : ℕ → Bool) (z : ℤ) → IsLeafOf Bdd e f z → e.complement ≡ true → IsNowhere f
leaf_false _ _ _ logic_one flip = let bad : false ≡ true = flip in cc
leaf_false _ _ _ logic_zero flip = λ k. refl

leaf_true : (e : Edge) (f : ℕ → Bool) (z : ℤ) → IsLeafOf Bdd e f z → e.complement ≡ false → IsNowhere f → ⊥
leaf_true _ _ _ logic_one plain none = let bad : true ≡ false = none 0 in cc
leaf_true _ _ _ logic_zero plain none = let bad : true ≡ false = plain in cc

pub nowhere_leaf : (v w : View) (e : Edge) (z : ℤ) → Grown v w → Is Bdd v e → IsLeaf Bdd w e (bdd_at v e) z → e.complement ≡ true → IsNowhere (bdd_at w e)
nowhere_leaf v w e z m d i flip = rw (values_at-grown Bdd m d) (leaf_false e (bdd_at v e) z i.leaf flip)

pub somewhere_leaf : (v w : View) (e : Edge) (z : ℤ) → Grown v w → Is Bdd v e → IsLeaf Bdd w e (bdd_at v e) z → e.complement ≡ false → IsNowhere (bdd_at w e) → ⊥
somewhere_leaf v w e z m d i plain = rw (values_at-grown Bdd m d) (leaf_true e (bdd_at v e) z i.leaf plain)

pub somewhere_inner : (v w : View) (e hi lo : Edge) (x : ℕ) → Grown v w → Is Bdd v e → IsInner Bdd w e (bdd_at v e) x hi lo → IsNowhere (bdd_at w e) → ⊥
somewhere_inner v w e hi lo x m d i = rw (values_at-grown Bdd m d ∙ i.splits.is)
    (somewhere-choice x (bdd_at w hi) (bdd_at w lo) (i.splits.hi_below x i.in_range (omega arith)) (i.splits.lo_below x i.in_range (omega arith)) i.proper)

-- terminal cases
constant_true : (b : Bool) (f : ℕ → Bool) → (IsNowhere (constant b) → ⊥) → IsRestriction f (constant b) f
constant_true true f some = IsRestriction-everywhere f
constant_true false f some = absurd (some (λ k. refl))

pub known_true : (w : View) → Permanent w → (f c : Edge) → c.index ≡ 0 → Is Bdd w f → (IsNowhere (bdd_at w c) → ⊥) → RestrictAnswers w (record { f = f; g = c; h = f }) f
known_true w p f c zero d some = record {
  answer = d;
  restriction = subst (λ g. IsRestriction (bdd_at w f) g (bdd_at w f)) (sym (truth_at w p c zero)) (constant_true (not c.complement) (bdd_at w f) (subst (λ g. IsNowhere g → ⊥) (truth_at w p c zero) some));
}

-- the condition is the function or its complement
same_index : (w : View) (i : ℕ) (a b : Bool) → Is Bdd w (record { index = i; complement = a }) → (IsNowhere (bdd_at w (record { index = i; complement = a })) → ⊥)
    → IsRestriction (bdd_at w (record { index = i; complement = b })) (bdd_at w (record { index = i; complement = a })) (constant (not (flip_if a (record { index = 0; complement = b })).complement))
same_index w i true true d some = IsRestriction-same (bdd_at w (record { index = i; complement = true })) some
same_index w i false false d some = IsRestriction-same (bdd_at w (record { index = i; complement = false })) some
same_index w i true false d some = rw (values_at-is Bdd (Denotes-flip d))
    (IsRestriction-not (bdd_at w (record { index = i; complement = true })) (bdd_at w (record { index = i; complement = true })) (constant true) some (IsRestriction-same (bdd_at w (record { index = i; complement = true })) some))
same_index w i false true d some = rw (values_at-is Bdd (Denotes-flip d))
    (IsRestriction-not (bdd_at w (record { index = i; complement = false })) (bdd_at w (record { index = i; complement = false })) (constant true) some (IsRestriction-same (bdd_at w (record { index = i; complement = false })) some))

pub known_same : (w : View) → Permanent w → (f c : Edge) → c.index ≡ f.index → Is Bdd w c → (IsNowhere (bdd_at w c) → ⊥)
    → RestrictAnswers w (record { f = f; g = c; h = f }) (flip_if c.complement (record { index = 0; complement = f.complement }))
known_same w p f c same d some =
    let e = flip_if c.complement (record { index = 0; complement = f.complement }) in
    let is = truth_at w p e refl in
    record {
      answer = Is-from Bdd (subst (λ a. Denotes Bdd w a (constant (not e.complement))) (whole_edge e.complement) (Denotes-truth w p (not e.complement)));
      restriction = subst (λ r. IsRestriction (bdd_at w f) (bdd_at w c) r) (sym is)
          (subst (λ i. IsRestriction (bdd_at w (record { index = i; complement = f.complement })) (bdd_at w c) (constant (not e.complement))) same (same_index w c.index c.complement f.complement d some));
    }
  where
    whole_edge : (b : Bool) → truth_edge (not b) ≡ record { index = 0; complement = b }
    whole_edge true = refl
    whole_edge false = refl

pub leaf_answer : (w : View) → Permanent w → (t : Task) → t.f.index ≡ 0 → Is Bdd w t.f → (IsNowhere (bdd_at w t.g) → ⊥) → RestrictAnswers w t t.f
leaf_answer w p t zero d some = record {
  answer = d;
  restriction = rw (truth_at w p t.f zero) (IsRestriction-constant (not t.f.complement) (bdd_at w t.g) some);
}

-- the key
pub IsKey-restrict : (w : View) (f c : Edge) → AreTwo Bdd w f c → IsKey w (restrict_key f c)
IsKey-restrict w f c d = record { least = omega arith; most = omega arith; f = (Bdd, d.first); g = (Bdd, d.second); h = (Bdd, d.first) }

pub restrict_keeps : (w : View) (t : Task) (e : Edge) → AreTwo Bdd w t.f t.g → RestrictAnswers w t e → MemoHolds w (restrict_key t.f t.g) e
restrict_keeps w t e d a = record { f = d.first; condition = d.second; answer = a.answer; restricts = a.restriction }

pub restrict_hit : (w : View) (t : Task) (e : Edge) → MemoHolds w (restrict_key t.f t.g) e → RestrictAnswers w t e
restrict_hit w t e h = record { answer = h.answer; restriction = h.restricts }

-- an answer of the regular function under the lifted condition is one of the task, up to complement
flipped_answer : (w : View) (flip : Bool) (f r c : ℕ → Bool) (e : Edge) → IsFlipped Bdd flip f r → (IsNowhere c → ⊥) → Is Bdd w e → IsRestriction r c (bdd_at w e)
    → Is Bdd w (flip_if flip e) × IsRestriction f c (bdd_at w (flip_if flip e))
flipped_answer w false f r c e is some d p = (d, subst (λ g. IsRestriction g c (bdd_at w e)) is p)
flipped_answer w true f r c e is some d p = (
  Is-from Bdd (Denotes-flip d),
  subst (λ g. IsRestriction f c g) (sym (values_at-is Bdd (Denotes-flip d)))
      (subst (λ g. IsRestriction g c (negation (bdd_at w e))) (everywhere (negation r) f (λ k. ap (λ (h : ℕ → Bool). not (h k)) is ∙ not_not (f k))) (IsRestriction-not r c (bdd_at w e) some p)),
)

-- parts of both, up to complement, and their halves
IsPartOfBoth-flipped : (flip : Bool) (w : View) (f c a g b : ℕ → Bool) → IsFlipped Bdd flip a g → IsPartOfBoth w f c a b → IsPartOfBoth w f c g b
IsPartOfBoth-flipped false w f c a g b is p = subst (λ h. IsPartOfBoth w f c h b) (sym is) p
IsPartOfBoth-flipped true w f c a g b is p = subst (λ h. IsPartOfBoth w f c h b) (sym is) (both_opposite a b p)

IsPartOfBoth-half : (w : View) (v : ℕ) (f c a ah al b bh bl : ℕ → Bool) (which : Bool) → IsVariable Bdd w v → a ≡ choice v ah al → b ≡ choice v bh bl
    → IsBelow Bdd w v ah → IsBelow Bdd w v al → IsBelow Bdd w v bh → IsBelow Bdd w v bl → IsPartOfBoth w f c a b → IsPartOfBoth w f c (cond which ah al) (cond which bh bl)
IsPartOfBoth-half w v f c a ah al b bh bl which vn is_a is_b ah_below al_below bh_below bl_below p =
    subst (λ x. IsPartOfBoth w f c x (cond which bh bl)) (part-joined Bdd v ah al which (ah_below v vn (omega arith)) (al_below v vn (omega arith)))
    (subst (λ y. IsPartOfBoth w f c (cofactor (choice v ah al) v which) y) (part-joined Bdd v bh bl which (bh_below v vn (omega arith)) (bl_below v vn (omega arith)))
    (both_cut (choice v ah al) (choice v bh bl) v which vn (λ u un lt. (free u un lt ah al ah_below al_below, free u un lt bh bl bh_below bl_below))
    (subst (λ x. IsPartOfBoth w f c x (choice v bh bl)) is_a (subst (λ y. IsPartOfBoth w f c a y) is_b p))))
  where
    free : (u : ℕ) → IsVariable Bdd w u → w.level u < w.level v → (h l : ℕ → Bool) → IsBelow Bdd w v h → IsBelow Bdd w v l → IsFree (choice v h l) u
    free u un lt h l hb lb = Lacks-joined Bdd u v h l (Apart-variables Bdd w u v un vn (λ e. let s = ap w.level e in omega arith)) (hb u un (omega arith)) (lb u un (omega arith))

-- from the opened function of a task, and its condition
module _ (f c : Edge) (v w1 w : View) (root t : Task) (r hi lo : Edge) (x : ℕ) (due : RestrictDue f c v root) (regular : r ≡ record { index = root.f.index; complement = false }) (m1 : Grown v w1)
    (i : IsInner Bdd w1 r (bdd_at v r) x hi lo) (m2 : Grown w1 w) (tf : t.f ≡ r) (tg : t.g ≡ root.g) where
  root_later : RestrictDue f c w root
  root_later = RestrictDue-stays f c v w root (Grown-trans m1 m2) due

  regular_later : Is Bdd w t.f
  regular_later = regular_is w root.f t.f (tf ∙ regular) root_later.edge

  inner_later : IsInner Bdd w t.f (bdd_at w t.f) x hi lo
  inner_later =
      let is = regular_is v root.f r regular due.edge in
      rw tf (IsInner-grown w1 w r hi lo x m2 (Is-grown Bdd m1 is) (subst (λ g. IsInner Bdd w1 r g x hi lo) (sym (values_at-grown Bdd m1 is)) i))

  above_free : (level : ℕ) → level ≡ w.level x → IsFreeAbove w level (bdd_at w t.f)
  above_free level is u un lt = let higher : w.level u < w.level x = omega arith in IsBelow-inner Bdd u inner_later higher u un (omega arith)

  pub start_leads : LeadsLevel w root root.f.complement t
  start_leads = record {
    operands = operands f c w root root_later;
    leads = record {
      gives = λ y e late a.
          let p = rw (tg, values_at-grown Bdd late regular_later, values_at-grown Bdd late root_later.condition.edge) at a.restriction in
          let q = flipped_answer y root.f.complement (bdd_at w root.f) (bdd_at w t.f) (bdd_at w root.g) e (regular_flipped w root.f t.f (tf ∙ regular) root_later.edge) root_later.condition.somewhere a.answer p in
          record { answer = q.0; restriction = rw (values_at-grown Bdd late root_later.edge, values_at-grown Bdd late root_later.condition.edge) q.1 };
      over = λ y late bad. bad;
    };
    depth = ap₂ (λ (a b : Edge). w.vars - min (w.top a.index) (w.top b.index)) (tf ∙ regular) tg;
  }

  pub start_due : RestrictDue f c w t
  start_due = record {
    permanent = root_later.permanent;
    roots = root_later.roots;
    edge = regular_later;
    condition = rw tg root_later.condition;
    parts = rw tg (IsPartOfBoth-flipped root.f.complement w (bdd_at w f) (bdd_at w c) (bdd_at w root.f) (bdd_at w t.f) (bdd_at w root.g) (regular_flipped w root.f t.f (tf ∙ regular) root_later.edge) root_later.parts);
  }

  pub start_branch : w.level x ≤ w.top t.g.index → CanBranch f c w t x hi lo
  start_branch above = record { due = start_due; inner = inner_later; above = above }

  -- the same function under the lifted condition
  module _ (b : Task) (e : Edge) (level y : ℕ) (bf : b.f ≡ t.f) (bg : b.g ≡ e) (is_level : level ≡ w.level x) (lifted : IsLifted c w t.g e level) where
    lifted_passes : Leads RestrictAnswers (λ w t. ⊥) w t false b
    lifted_passes = record {
      gives = λ z a late p.
          let q = rw (bf, bg, values_at-grown Bdd late regular_later, values_at-grown Bdd late lifted.now.edge) at p.restriction in record {
            answer = p.answer;
            restriction = rw (values_at-grown Bdd late regular_later, values_at-grown Bdd late start_due.condition.edge) (lifted.serves (bdd_at w t.f) (bdd_at z a) (above_free level is_level) q);
          };
      over = λ z late bad. bad;
    }

    lifted_due : RestrictDue f c w b
    lifted_due = record {
      permanent = root_later.permanent;
      roots = root_later.roots;
      edge = rw bf regular_later;
      condition = rw bg lifted.now;
      parts = rw (bf, bg) (lifted.parts (bdd_at w f) (bdd_at w t.f) (above_free level is_level) start_due.parts);
    }

    lifted_less : two_depth Bdd w b < two_depth Bdd w root
    lifted_less = let depth = start_leads.depth in let here = inner_later.here in let within = inner_later.within in let above = lifted.above in let lower = lifted.lower in rw (sym depth, bf, bg) (omega arith)

    pub start_lifts : RestrictAsks f c w root (record { task = t; var = y; flip = root.f.complement; wait = Only }) b
    start_lifts = record {
      waits = inl (record { only = refl; due = start_due; leads = start_leads.leads; passes = lifted_passes });
      due = lifted_due;
      less = lifted_less;
    }

-- the branches of a task
module _ (f c : Edge) (w : View) (t hi lo : Task) (x : ℕ) (due : RestrictDue f c w t) (s : RestrictParts w t x hi lo) where
  free_f : (b : Bool) → IsFree (cond b (bdd_at w hi.f) (bdd_at w lo.f)) x
  free_f true = s.two.f.hi_below x s.two.in_range (omega arith)
  free_f false = s.two.f.lo_below x s.two.in_range (omega arith)

  free_g : (b : Bool) → IsFree (cond b (bdd_at w hi.g) (bdd_at w lo.g)) x
  free_g true = s.two.g.hi_below x s.two.in_range (omega arith)
  free_g false = s.two.g.lo_below x s.two.in_range (omega arith)

  -- the conditions of both don't hold nowhere
  pub not_both : IsNowhere (bdd_at w hi.g) → IsNowhere (bdd_at w lo.g) → ⊥
  not_both none1 none0 = due.condition.somewhere (subst (λ h. IsNowhere h) (sym s.two.g.is) (λ k. elim (by_bit (bit k x)) [
    | inl is ↦ choice-at x k (bdd_at w hi.g) (bdd_at w lo.g) true is ∙ none1 k
    | inr is ↦ choice-at x k (bdd_at w hi.g) (bdd_at w lo.g) false is ∙ none0 k
  ]))

  pub hi_due : (IsNowhere (bdd_at w hi.g) → ⊥) → RestrictDue f c w hi
  hi_due some = record {
    permanent = due.permanent;
    roots = due.roots;
    edge = s.two.f.hi_is;
    parts = IsPartOfBoth-half w x (bdd_at w f) (bdd_at w c) (bdd_at w t.f) (bdd_at w hi.f) (bdd_at w lo.f) (bdd_at w t.g) (bdd_at w hi.g) (bdd_at w lo.g) true s.two.in_range s.two.f.is s.two.g.is
        s.two.f.hi_below s.two.f.lo_below s.two.g.hi_below s.two.g.lo_below due.parts;
    condition = record {
      edge = s.two.g.hi_is;
      somewhere = some;
      vars = due.condition.vars;
      part = IsPart-half Bdd w x (exists_all (bdd_at w c) due.condition.vars) (bdd_at w t.g) (bdd_at w hi.g) (bdd_at w lo.g) true s.two.in_range s.two.g.is s.two.g.hi_below s.two.g.lo_below due.condition.part;
    };
  }

  pub lo_due : (IsNowhere (bdd_at w lo.g) → ⊥) → RestrictDue f c w lo
  lo_due some = record {
    permanent = due.permanent;
    roots = due.roots;
    edge = s.two.f.lo_is;
    parts = IsPartOfBoth-half w x (bdd_at w f) (bdd_at w c) (bdd_at w t.f) (bdd_at w hi.f) (bdd_at w lo.f) (bdd_at w t.g) (bdd_at w hi.g) (bdd_at w lo.g) false s.two.in_range s.two.f.is s.two.g.is
        s.two.f.hi_below s.two.f.lo_below s.two.g.hi_below s.two.g.lo_below due.parts;
    condition = record {
      edge = s.two.g.lo_is;
      somewhere = some;
      vars = due.condition.vars;
      part = IsPart-half Bdd w x (exists_all (bdd_at w c) due.condition.vars) (bdd_at w t.g) (bdd_at w hi.g) (bdd_at w lo.g) false s.two.in_range s.two.g.is s.two.g.hi_below s.two.g.lo_below due.condition.part;
    };
  }

  -- one alone
  pub hi_answers : (e : Edge) → IsNowhere (bdd_at w lo.g) → RestrictAnswers w hi e → RestrictAnswers w t e
  hi_answers e none a = record {
    answer = a.answer;
    restriction = rw (s.two.f.is, s.two.g.is) (IsRestriction-branch x true (bdd_at w hi.f) (bdd_at w lo.f) (bdd_at w hi.g) (bdd_at w lo.g) (bdd_at w e) (free_f true) (free_g true) none a.restriction);
  }

  pub lo_answers : (e : Edge) → IsNowhere (bdd_at w hi.g) → RestrictAnswers w lo e → RestrictAnswers w t e
  lo_answers e none a = record {
    answer = a.answer;
    restriction = rw (s.two.f.is, s.two.g.is) (IsRestriction-branch x false (bdd_at w hi.f) (bdd_at w lo.f) (bdd_at w hi.g) (bdd_at w lo.g) (bdd_at w e) (free_f false) (free_g false) none a.restriction);
  }

  -- both, and the node of their answers
  module _ (a b : Edge) (is_a : RestrictAnswers w hi a) (is_b : RestrictAnswers w lo b) where
    pub both_node : CanMake Bdd w x a b
    both_node = record {
      in_range = s.two.in_range;
      hi_is = is_a.answer;
      lo_is = is_b.answer;
      hi_below = λ u un le. is_a.restriction.depends_on_no_more u (s.two.f.hi_below u un le);
      lo_below = λ u un le. is_b.restriction.depends_on_no_more u (s.two.f.lo_below u un le);
    }

    pub both_value : (IsNowhere (bdd_at w hi.g) → ⊥) → (IsNowhere (bdd_at w lo.g) → ⊥) → IsRestriction (bdd_at w t.f) (bdd_at w t.g) (node_values Bdd w x a b)
    both_value some1 some0 = rw (s.two.f.is, s.two.g.is)
        (IsRestriction-choice x (bdd_at w hi.f) (bdd_at w lo.f) (bdd_at w hi.g) (bdd_at w lo.g) (bdd_at w a) (bdd_at w b) (free_f true) (free_f false) (free_g true) (free_g false)
        s.apart some1 some0 is_a.restriction is_b.restriction)

-- from here on
only_passes : (f c : Edge) (w : View) (t child other : Task) (x : ℕ) (b : Bool) → RestrictDue f c w t → RestrictParts w t x (cond b child other) (cond b other child) → IsNowhere (bdd_at w other.g)
    → Leads RestrictAnswers (λ w t. ⊥) w t false child
only_passes f c w t child other x b due s none = record {
  gives = λ y e late a. only_answers f c y t child other x b e (RestrictDue-stays f c w y t late due)
      (RestrictParts-stay w y t x (cond b child other) (cond b other child) late (operands f c w t due) s) (rw (values_at-grown Bdd late (other_is b s)) none) a;
  over = λ y late bad. bad;
}
  where
    other_is : (b : Bool) → RestrictParts w t x (cond b child other) (cond b other child) → Is Bdd w other.g
    other_is true s = s.two.g.lo_is
    other_is false s = s.two.g.hi_is

    only_answers : (f c : Edge) (w : View) (t child other : Task) (x : ℕ) (b : Bool) (e : Edge) → RestrictDue f c w t → RestrictParts w t x (cond b child other) (cond b other child) → IsNowhere (bdd_at w other.g)
        → RestrictAnswers w child e → RestrictAnswers w t e
    only_answers f c w t child other x true e due s none a = hi_answers f c w t child other x due s e none a
    only_answers f c w t child other x false e due s none a = lo_answers f c w t other child x due s e none a

-- the frame that waits
only_waits : (f c : Edge) (w : View) (root : Task) (frame : Frame) (child : Task) → frame.wait ≡ Only → RestrictWaits f c w root frame child → OnlyWaits f c w root frame child
only_waits f c w root frame child is (inl q) = q
only_waits f c w root frame child is (inr q) = absurd (rw is at q.wait)

pub only_due : (f c : Edge) (w : View) (root : Task) (frame : Frame) (child : Task) → frame.wait ≡ Only → RestrictWaits f c w root frame child → RestrictDue f c w frame.task
only_due f c w root frame child is q = (only_waits f c w root frame child is q).due

pub only_answer : (f c : Edge) (w : View) (root : Task) (frame : Frame) (child : Task) (e : Edge) → frame.wait ≡ Only → RestrictWaits f c w root frame child → RestrictAnswers w child e → RestrictAnswers w frame.task e
only_answer f c w root frame child e is q a = (only_waits f c w root frame child is q).passes.gives w e (Grown-refl w) a

pub only_leads : (f c : Edge) (w x : View) (root : Task) (frame : Frame) (child : Task) (e : Edge) → frame.wait ≡ Only → RestrictWaits f c w root frame child → Grown w x → RestrictAnswers x frame.task e
    → RestrictAnswers x root (flip_if frame.flip e)
only_leads f c w x root frame child e is q m a = (only_waits f c w root frame child is q).leads.gives x e m a

pub first_waits : (f c : Edge) (w : View) (root : Task) (frame : Frame) (child later : Task) → frame.wait ≡ First later → RestrictWaits f c w root frame child
    → Waiting (RestrictDue f c) RestrictAnswers (λ w t. ⊥) RestrictSplits (two_depth Bdd) w root frame child
first_waits f c w root frame child later is (inl q) = let bad : Only ≡ First later = sym q.only ∙ is in cc
first_waits f c w root frame child later is (inr q) = q

pub second_waits : (f c : Edge) (w : View) (root : Task) (frame : Frame) (child : Task) (hi : Edge) → frame.wait ≡ Second hi → RestrictWaits f c w root frame child
    → Waiting (RestrictDue f c) RestrictAnswers (λ w t. ⊥) RestrictSplits (two_depth Bdd) w root frame child
second_waits f c w root frame child hi is (inl q) = let bad : Only ≡ Second hi = sym q.only ∙ is in cc
second_waits f c w root frame child hi is (inr q) = q

pub second_parts : (f c : Edge) (w : View) (root : Task) (frame : Frame) (child : Task) (hi : Edge) → frame.wait ≡ Second hi → RestrictWaits f c w root frame child
    → (hi_task : Task) × AtSecond (RestrictDue f c) RestrictAnswers RestrictSplits w frame hi child hi_task
second_parts f c w root frame child hi is q =
    subst (λ s. WaitIs (RestrictDue f c) RestrictAnswers RestrictSplits (two_depth Bdd) w root frame child s) is (second_waits f c w root frame child hi is q).wait

-- the branch that is asked for first
module _ (f c : Edge) (v w : View) (root t a b : Task) (x : ℕ) (flip : Bool) (hi lo c1 c0 : Edge) (m : Grown v w) (can : CanBranch f c v t x hi lo) (split : PartsAt Bdd w t.g (bdd_at v t.g) x c1 c0)
    (af : a.f ≡ hi) (ag : a.g ≡ c1) (bf : b.f ≡ lo) (bg : b.g ≡ c0) (leads : LeadsLevel v root flip t) where
  inner : IsInner Bdd w t.f (bdd_at w t.f) x hi lo
  inner = IsInner-grown v w t.f hi lo x m can.due.edge can.inner

  due : RestrictDue f c w t
  due = RestrictDue-stays f c v w t m can.due

  parts : RestrictParts w t x a b
  parts = record {
    two = record {
      in_range = inner.in_range;
      f = rw (af, bf) inner.splits;
      g = rw (ag, bg, values_at-grown Bdd m can.due.condition.edge) split.splits;
    };
    apart = rw (af, bf) inner.proper;
  }

  leads_later : Leads RestrictAnswers (λ w t. ⊥) w root flip t
  leads_later = record { gives = λ y e late is. leads.leads.gives y e (Grown-trans m late) is; over = λ y late bad. bad }

  root_depth : two_depth Bdd w root ≡ w.vars - min (w.top t.f.index) (w.top t.g.index)
  root_depth = two_depth-stays Bdd v w root m leads.operands ∙ sym leads.depth ∙ sym (two_depth-stays Bdd v w t m (operands f c v t can.due))

  above : w.level x ≤ w.top t.g.index
  above = let first = level-grown m x in let second = top-grown Bdd m can.due.condition.edge in let was = can.above in omega arith

  hi_less : two_depth Bdd w a < two_depth Bdd w root
  hi_less =
      let here = inner.here in let lower = inner.hi_top in let within = inner.within in let also = split.hi_top in let at_most = above in
      rw (root_depth, af, ag) (omega arith)

  lo_less : two_depth Bdd w b < two_depth Bdd w root
  lo_less =
      let here = inner.here in let lower = inner.lo_top in let within = inner.within in let also = split.lo_top in let at_most = above in
      rw (root_depth, bf, bg) (omega arith)

  pub asks_else : IsNowhere (bdd_at w a.g) → RestrictAsks f c w root (record { task = t; var = x; flip = flip; wait = Only }) b
  asks_else none = record {
    waits = inl (record { only = refl; due = due; leads = leads_later; passes = only_passes f c w t b a x false due parts none });
    due = lo_due f c w t a b x due parts (not_both f c w t a b x due parts none);
    less = lo_less;
  }

  pub asks_then : IsNowhere (bdd_at w b.g) → RestrictAsks f c w root (record { task = t; var = x; flip = flip; wait = Only }) a
  asks_then none = record {
    waits = inl (record { only = refl; due = due; leads = leads_later; passes = only_passes f c w t a b x true due parts none });
    due = hi_due f c w t a b x due parts (λ none1. not_both f c w t a b x due parts none1 none);
    less = hi_less;
  }

  pub asks_first : (IsNowhere (bdd_at w a.g) → ⊥) → (IsNowhere (bdd_at w b.g) → ⊥) → RestrictAsks f c w root (record { task = t; var = x; flip = flip; wait = First b }) a
  asks_first some1 some0 = record {
    waits = inr (record {
      due = due;
      leads = leads_later;
      wait = record {
        splits = record { parts = parts; hi_somewhere = some1; lo_somewhere = some0 };
        hi_due = hi_due f c w t a b x due parts some1;
        lo_due = lo_due f c w t a b x due parts some0;
        lo_less = lo_less;
      };
    });
    due = hi_due f c w t a b x due parts some1;
    less = hi_less;
  }

-- a task's value is of the work
restricted_value : (f c : Edge) (w : View) (t : Task) (r : ℕ → Bool) → RestrictDue f c w t → IsRestriction (bdd_at w t.f) (bdd_at w t.g) r → work_of_restrict f c w (BddFunction r)
restricted_value f c w t r due is = inl (record {
  a = bdd_at w t.f;
  b = bdd_at w t.g;
  r = r;
  parts = due.parts;
  restriction = is;
  is = refl;
})

module _ (f c : Edge) (v w : View) (t : Task) (r : ℕ → Bool) (due : RestrictDue f c v t) (m : Grown v w) (is : IsRestriction (bdd_at v t.f) (bdd_at v t.g) r) where
  later : work_of_restrict f c w (BddFunction r)
  later = work_of_restrict-stays f c v w (BddFunction r) m due.roots (restricted_value f c v t r due is)

  pub made_answer : (e : Edge) → Denotes Bdd w e r → RestrictAnswers w t e
  made_answer e den = record {
    answer = Is-from Bdd den;
    restriction = rw (values_at-grown Bdd m due.edge, values_at-grown Bdd m due.condition.edge, values_at-is Bdd den) is;
  }

  pub made_moved : (e : Edge) → ((s : ℕ) → w.made s ≡ true → (v.made s ≡ true) ⊎ (e.index ≡ s)) → Denotes Bdd w e r → Moves (λ w. AreTwo Bdd w f c) (work_of_restrict f c) v w
  made_moved e made den = Moves-made Bdd (λ w. AreTwo Bdd w f c) (work_of_restrict f c) v w e r r m made (λ roots. later) whole den

  pub made_due : w.due ≡ Some (BddFunction r) → IsWork w (work_of_restrict f c w) w.due
  made_due due = IsWork-due Bdd w (work_of_restrict f c w) r r later whole due

pub made_none : (f c : Edge) (v w : View) → Grown v w → ((s : ℕ) → w.made s ≡ true → (v.made s ≡ true) ⊎ ⊥) → Moves (λ w. AreTwo Bdd w f c) (work_of_restrict f c) v w
made_none f c v w m made = record { grown = m; work = λ roots s here. elim (made s here) [ inl old ↦ inl old | inr bad ↦ absurd bad ] }

-- the call's own task
none_quantified : (f : ℕ → Bool) → exists_all f [] ≡ f
unfolding exists_all
none_quantified f = refl

pub root_due : (f c : Edge) (w : View) (t : Task) → Permanent w → AreTwo Bdd w f c → t.f ≡ f → t.g ≡ c → (IsNowhere (bdd_at w c) → ⊥) → RestrictDue f c w t
root_due f c w t p d sf sg some = record {
  permanent = p;
  roots = d;
  edge = rw sf d.first;
  parts = rw (sf, sg) both_whole;
  condition = rw sg (record {
    edge = d.second;
    somewhere = some;
    vars = [];
    part = subst (λ h. IsPart Bdd w h (bdd_at w c)) (sym (none_quantified (bdd_at w c))) whole;
  });
}

root_restricted : (v w : View) (f c e : Edge) → Grown v w → AreTwo Bdd v f c → Is Bdd w e → IsRestriction (bdd_at v f) (bdd_at v c) (bdd_at w e) → Restricted v w f c e
root_restricted v w f c e m d is p = record {
  answer = is;
  restricts = Restricts-from v.vars (bdd_at v f) (bdd_at v c) (bdd_at w e) d.first.beyond d.second.beyond (λ x from. is.beyond x (rw m.vars from)) p;
  restriction = p;
}

pub root_false : (v w : View) (f c e : Edge) → Grown v w → Permanent w → AreTwo Bdd v f c → IsNowhere (bdd_at w c) → e ≡ truth_edge false → Restricted v w f c e
root_false v w f c e m p d none same =
    let is : Denotes Bdd w e (constant false) = rw same (Denotes-truth w p false) in
    root_restricted v w f c e m d (Is-from Bdd is) (rw (values_at-is Bdd is) (IsRestriction-nowhere (bdd_at v f) (bdd_at v c) (subst (λ h. IsNowhere h) (values_at-grown Bdd m d.second) none)))

pub root_answer : (v w : View) (f c e : Edge) (t : Task) → Grown v w → AreTwo Bdd v f c → t.f ≡ f → t.g ≡ c → RestrictAnswers w t e → Restricted v w f c e
root_answer v w f c e t m d sf sg a = root_restricted v w f c e m d a.answer (rw (sf, sg, values_at-grown Bdd m d.first, values_at-grown Bdd m d.second) at a.restriction)

-- parts stay parts
pub PartsAt-grown : (k : Kind) {v w : View} {e hi lo : Edge} {f : ℕ → ValueOf k} {x : ℕ} → Grown v w → PartsAt k v e f x hi lo → PartsAt k w e f x hi lo
PartsAt-grown k {v} {w} {e} {hi} {lo} {f} {x} m p =
    let l = level-grown m x in let th = top-grown k m p.splits.hi_is in let tl = top-grown k m p.splits.lo_is in
    let a = p.hi_top in let b = p.lo_top in
    record { splits = Splits-grown k m p.splits; hi_top = omega arith; lo_top = omega arith }
