-- The condition of a restriction, with its top variable quantified.
use Rattle.std.proofs.Common.{◌≡◌, ◌≢◌, ℕ, ◌<◌, ◌≤◌, Bool, true, false, ◌||◌, List, [], ◌∷◌, ◌++◌, Option, inl, inr, sym, ap, ap₂, ◌∙◌, subst, arith}
use Rattle.std.proofs.lemmas.Bool.{cases_eq, cases_lt}
use Rattle.edge_bits.specs.declared.edges.Edge.{Edge}
use Rattle.edge_bits.specs.declared.edges.Kind.TheVariants.{Bdd}
use Rattle.function_laws.specs.Restrictions.{IsNowhere, IsRestriction}
use Rattle.function_laws.specs.Values.{IsFree, cofactor, disjunction, exists_all, exists_one}
use Rattle.function_laws.proofs.CubeLemmas.{choice-same_part}
use Rattle.function_laws.proofs.ExistsLemmas.{exists_all-push}
use Rattle.function_laws.proofs.RestrictionLaws.{IsFree-exists_other, IsFree-exists_own, IsRestriction-lifted, nowhere-exists}
use Rattle.function_laws.proofs.ValueLemmas.{everywhere, cofactor_comm, exists-choice_same, IsFree-cofactor, IsFree-cofactor_other, IsFree-place}
use Rattle.function_laws.specs.Kinds.{Denoted, BddFunction}
use Rattle.node_store.specs.Views.{View, AreTwo, Denotes, Grown, Is, IsInner, Kept, Opens, bdd_at}
use Rattle.node_store.specs.ViewLaws.{Grown-refl, Grown-trans, Is-from, Is-grown, IsBelow-inner, IsVariable-back, IsVariable-grown, Splits-grown, level-grown, top-grown, values_at-grown, values_at-is}
use Rattle.node_store.specs.TwoLaws.{AreTwo-grown}
use Rattle.node_store.specs.Work.{whole, cut, IsPart, IsWork, Adds, Moves}
use Rattle.node_store.specs.WorkLaws.{IsPart-grown, IsWork-grown, Moves-both, Moves-kept}
use Rattle.node_store.specs.declared.grow.Opened.{Opened}
use Rattle.node_store.specs.declared.grow.Opened.TheVariants.{Inner, Leaf}
use Rattle.quantify_ops.specs.QuantifiedLasts.{IsFreeAbove-back}
use Rattle.quantify_ops.specs.Restricted.{IsCondition, IsLifted, IsPartOfBoth, PartsAbove, ServesAbove, both_lifted, work_of_restrict}
use Rattle.quantify_ops.specs.RestrictedLasts.{IsCondition-grown, IsPartOfBoth-back, IsPartOfBoth-grown, work_of_restrict-stays}
use Rattle.quantify_ops.proofs.ProductLaws.{IsWork-part}

-- an opened edge, later
pub IsInner-grown : (v w : View) (e hi lo : Edge) (x : ℕ) → Grown v w → Is Bdd v e → IsInner Bdd v e (bdd_at v e) x hi lo → IsInner Bdd w e (bdd_at w e) x hi lo
IsInner-grown v w e hi lo x m d i =
    let te = top-grown Bdd m d in let th = top-grown Bdd m i.splits.hi_is in let tl = top-grown Bdd m i.splits.lo_is in
    let l = level-grown m x in let vars = m.vars in
    let here = i.here in let within = i.within in let h = i.hi_top in let g = i.lo_top in
    record {
      in_range = IsVariable-grown Bdd m x i.in_range;
      splits = rw (values_at-grown Bdd m d) (Splits-grown Bdd m i.splits);
      proper = rw (values_at-grown Bdd m i.splits.hi_is, values_at-grown Bdd m i.splits.lo_is) i.proper;
      here = omega arith;
      within = omega arith;
      alone = λ u un same. i.alone u (IsVariable-back Bdd m u un) (sym (level-grown m u) ∙ same ∙ level-grown m x);
      hi_top = omega arith;
      lo_top = omega arith;
    }

pub opened : (v w : View) (e : Edge) (o : Opened) → Grown v w → Is Bdd v e → Opens Bdd w e (bdd_at v e) o → Opens Bdd w e (bdd_at w e) o
opened v w e o m d h = subst (λ f. Opens Bdd w e f o) (sym (values_at-grown Bdd m d)) h

-- parts keep their place when a variable on which they depend is quantified
exists-cofactor : (c : ℕ → Bool) (u v : ℕ) (b : Bool) → u ≢ v → exists_one (cofactor c v b) u ≡ cofactor (exists_one c u) v b
exists-cofactor c u v b apart = everywhere (exists_one (cofactor c v b) u) (cofactor (exists_one c u) v b) (λ k. ap₂ (λ x y. x || y) (at true k) (at false k))
  where
    at : (a : Bool) (k : ℕ) → cofactor (cofactor c v b) u a k ≡ cofactor (cofactor c u a) v b k
    at a k = sym (ap (λ (h : ℕ → Bool). h k) (cofactor_comm c u v a b apart))

IsPart-exists : (w : View) (u : ℕ) (f g : ℕ → Bool) → (IsFree g u → ⊥) → IsPart Bdd w f g → IsPart Bdd w (exists_one f u) (exists_one g u)
IsPart-exists w u f _ depends whole = whole
IsPart-exists w u f _ depends (cut g v b vn above p) =
    let apart : u ≢ v = λ same. depends (subst (λ y. IsFree (cofactor g v b) y) (sym same) (IsFree-cofactor g v b)) in
    subst (λ h. IsPart Bdd w (exists_one f u) h) (sym (exists-cofactor g u v b apart))
    (cut (exists_one g u) v b vn (λ y yn lt. free y (above y yn lt)) (IsPart-exists w u f g (λ free. depends (IsFree-cofactor_other g u v b apart free)) p))
  where
    free : (y : ℕ) → IsFree g y → IsFree (exists_one g u) y
    free y absent = elim (cases_eq y u) [
      | inl same ↦ subst (λ z. IsFree (exists_one g u) z) (sym same) (IsFree-exists_own g u)
      | inr apart ↦ IsFree-exists_other g u y apart absent
    ]

-- what is stored, step by step
pub Restrict-both : (f c : Edge) (u v w : View) → Moves (λ w. AreTwo Bdd w f c) (work_of_restrict f c) u v → Moves (λ w. AreTwo Bdd w f c) (work_of_restrict f c) v w
    → Moves (λ w. AreTwo Bdd w f c) (work_of_restrict f c) u w
Restrict-both f c u v w p q = Moves-both (λ w. AreTwo Bdd w f c) (work_of_restrict f c) (λ v w m d. AreTwo-grown Bdd m d) (work_of_restrict-stays f c) u v w p q

pub Restrict-kept : (f c : Edge) (v w : View) → Kept v w → Moves (λ w. AreTwo Bdd w f c) (work_of_restrict f c) v w
Restrict-kept f c v w k = Moves-kept (λ w. AreTwo Bdd w f c) (work_of_restrict f c) v w k

-- what holds above a level, later
pub ServesAbove-grown : (v w : View) (level : ℕ) (d c : Edge) → Grown v w → Is Bdd v d → Is Bdd v c → ServesAbove v level (bdd_at v d) (bdd_at v c) → ServesAbove w level (bdd_at w d) (bdd_at w c)
ServesAbove-grown v w level d c m dd dc serves = rw (values_at-grown Bdd m dd, values_at-grown Bdd m dc) (λ a r free p. serves a r (IsFreeAbove-back level a m free) p)

pub PartsAbove-grown : (v w : View) (level : ℕ) (root d c : Edge) → Grown v w → Is Bdd v root → Is Bdd v d → Is Bdd v c → PartsAbove v level (bdd_at v root) (bdd_at v d) (bdd_at v c)
    → PartsAbove w level (bdd_at w root) (bdd_at w d) (bdd_at w c)
PartsAbove-grown v w level root d c m dr dd dc parts = rw (values_at-grown Bdd m dr, values_at-grown Bdd m dd, values_at-grown Bdd m dc) (λ p a free q.
    IsPartOfBoth-grown v w p (bdd_at v root) a (bdd_at v d) m (parts p a (IsFreeAbove-back level a m free) (IsPartOfBoth-back v w p (bdd_at v root) a (bdd_at v c) m q)))

-- the top variable of a condition is quantified
module _ (f c : Edge) (v w : View) (d hi lo : Edge) (x : ℕ) (roots : AreTwo Bdd v f c) (i : IsCondition c v d) (o : IsInner Bdd v d (bdd_at v d) x hi lo) (m : Grown v w) where
  abbrev step : ℕ → Bool
  step = disjunction (bdd_at v hi) (bdd_at v lo)

  free_hi : IsFree (bdd_at v hi) x
  free_hi = o.splits.hi_below x o.in_range (omega arith)

  free_lo : IsFree (bdd_at v lo) x
  free_lo = o.splits.lo_below x o.in_range (omega arith)

  step_is : exists_one (bdd_at v d) x ≡ step
  step_is = ap (λ h. exists_one h x) o.splits.is ∙ exists-choice_same (bdd_at v hi) (bdd_at v lo) x free_hi free_lo

  abbrev more : List ℕ
  more = i.vars ++ x ∷ []

  step_part : IsPart Bdd v (exists_all (bdd_at v c) more) step
  step_part =
      let depends : IsFree (bdd_at v d) x → ⊥ = λ free. o.proper (choice-same_part x (bdd_at v hi) (bdd_at v lo) free_hi free_lo (subst (λ h. IsFree h x) o.splits.is free)) in
      subst (λ r. IsPart Bdd v r step) (sym (exists_all-push (bdd_at v c) i.vars x))
      (subst (λ h. IsPart Bdd v (exists_one (exists_all (bdd_at v c) i.vars) x) h) step_is (IsPart-exists v x (exists_all (bdd_at v c) i.vars) (bdd_at v d) depends i.part))

  pub step_due : (a : Option Denoted) → IsWork w (λ F. F ≡ BddFunction step) a → IsWork w (work_of_restrict f c w) a
  step_due a j = IsWork-grown (Grown-refl w) (λ F. F ≡ BddFunction (exists_all (bdd_at v c) more)) (work_of_restrict f c w)
      (λ F same. inr (more, same ∙ ap (λ g. BddFunction (exists_all g more)) (sym (values_at-grown Bdd m roots.second)))) a
      (IsWork-part w (exists_all (bdd_at v c) more) step a (IsPart-grown Bdd m (exists_all (bdd_at v c) more) step step_part) j)

  pub step_moved : Adds (λ F. F ≡ BddFunction step) v w → Moves (λ w. AreTwo Bdd w f c) (work_of_restrict f c) v w
  step_moved adds = record { grown = m; work = λ _ s here. elim (adds s here) [ inl old ↦ inl old | inr j ↦ inr (step_due (w.content s) j) ] }

  module _ (e : Edge) (den : Denotes Bdd w e step) where
    pub step_condition : IsCondition c w e
    step_condition = record {
      edge = Is-from Bdd den;
      somewhere = rw (values_at-is Bdd den) (λ none. i.somewhere (nowhere-exists (bdd_at v d) x (subst (λ h. IsNowhere h) (sym step_is) none)));
      vars = more;
      part = rw (values_at-grown Bdd m roots.second, values_at-is Bdd den) (IsPart-grown Bdd m (exists_all (bdd_at v c) more) step step_part);
    }

    pub step_serves : (start : Edge) (level : ℕ) → v.level x < level → Is Bdd v start → ServesAbove v level (bdd_at v d) (bdd_at v start) → ServesAbove w level (bdd_at w e) (bdd_at w start)
    step_serves start level lt is serves = rw (values_at-is Bdd den, values_at-grown Bdd m is) (λ a r free p.
        let back = IsFreeAbove-back level a m free in
        serves a r back (IsRestriction-lifted a (bdd_at v d) r x (back x o.in_range lt) (subst (λ h. IsRestriction a h r) (sym step_is) p)))

    pub step_parts : (start : Edge) (level : ℕ) → v.level x < level → Is Bdd v start → PartsAbove v level (bdd_at v c) (bdd_at v d) (bdd_at v start) → PartsAbove w level (bdd_at w c) (bdd_at w e) (bdd_at w start)
    step_parts start level lt is parts = rw (values_at-is Bdd den, values_at-grown Bdd m is, values_at-grown Bdd m roots.second) (λ p a free q.
        let back = IsFreeAbove-back level a m free in
        IsPartOfBoth-grown v w p (bdd_at v c) a step m (subst (λ h. IsPartOfBoth v p (bdd_at v c) a h) step_is
        (both_lifted a (bdd_at v d) x o.in_range (λ u un above. (back u un (omega arith), IsBelow-inner Bdd u o above u un (omega arith))) (back x o.in_range lt)
        (parts p a back (IsPartOfBoth-back v w p (bdd_at v c) a (bdd_at v start) m q)))))

    -- the next top variable stands lower
    pub step_lower : (y : View) (n : Grown w y) (top : Opened) → Opens Bdd y e (bdd_at w e) top → v.level x < y.top e.index
    step_lower y n (Leaf z) j = let here = j.here in let within = o.within in let vars = m.vars in let vars2 = n.vars in omega arith
    step_lower y n (Inner u a b) j = elim (cases_lt (v.level x) (y.level u)) [
      | inl lt ↦ let here = j.here in omega arith
      | inr le ↦
          let all = Grown-trans m n in
          let un = IsVariable-back Bdd all u j.in_range in
          let higher : v.level u ≤ v.level x = let same = level-grown all u in omega arith in
          let free : IsFree step u = IsFree-place (λ p q. p || q) (bdd_at v hi) (bdd_at v lo) u (o.splits.hi_below u un higher) (o.splits.lo_below u un higher) in
          absurd (j.proper (choice-same_part u (bdd_at y a) (bdd_at y b) (j.splits.hi_below u j.in_range (omega arith)) (j.splits.lo_below u j.in_range (omega arith))
          (subst (λ h. IsFree h u) (sym (values_at-is Bdd den) ∙ j.splits.is) free)))
    ]

    -- the lifted condition, once its top is known
    pub step_lifted : (y : View) (n : Grown w y) (top : Opened) (level : ℕ) → Opens Bdd y e (bdd_at w e) top → v.level x < level → IsLifted c y d e level
    step_lifted y n top level j lt =
        let start = Is-grown Bdd m i.edge in
        let next = step_condition in
        let root = Is-grown Bdd m roots.second in
        let lower = step_lower y n top j in
        let there = top-grown Bdd (Grown-trans m n) i.edge in let here = o.here in
        record {
          now = IsCondition-grown c w y e n root next;
          above = omega arith;
          lower = omega arith;
          serves = ServesAbove-grown w y level e d n next.edge start (step_serves d level lt i.edge (λ a r free p. p));
          parts = PartsAbove-grown w y level c e d n root next.edge start (step_parts d level lt i.edge (λ p a free q. q));
        }
