-- The nodes of rows, and their children.
use Rattle.std.proofs.Common.{◌≡◌, ◌-◌, ℕ, ℤ, arith, Bool, true, false, cond, Some, None, refl, ap, sym, subst, ◌∙◌}
use Rattle.edge_bits.specs.Permanent.{first_element}
use Rattle.edge_bits.specs.declared.edges.Edge.{Edge}
use Rattle.edge_bits.specs.declared.edges.Kind.{Kind}
use Rattle.edge_bits.specs.declared.edges.Kind.TheVariants.{Bdd, Add, Zdd}
use Rattle.function_laws.specs.declared.history.Name.{Name}
use Rattle.function_laws.specs.Kinds.{ValueOf}
use Rattle.node_store.specs.Views.{View, Is, IsInner, IsLeaf, IsVariable, values_at}
use Rattle.store_upkeep.proofs.Lasting.{Denotes-counted}
use Rattle.store_rows.specs.declared.nodes.Top.TheVariants.{Node}
use Rattle.store_rows.specs.Nodes.{IsChild, IsTop, numbered}
use Rattle.store_rows.specs.RowStores.{Gains, IsLiveAs, Names, RowStoreView, Same, differs_in_counts, edge_in, view_of}
use Rattle.store_rows.proofs.Changes.{gains-then}
use Rattle.store_rows.proofs.Rows.{one-kind}
use Rattle.store_rows.proofs.Told.{own_values}

-- where slots are counted otherwise
inner-recounted : (k : Kind) (w : View) (c : ℕ → ℕ) (e : Edge) (f : ℕ → ValueOf k) (v : ℕ) (hi lo : Edge) → IsInner k w e f v hi lo → IsInner k (record w { count = c }) e f v hi lo
inner-recounted Bdd w c e f v hi lo i = record {
  in_range = i.in_range;
  splits = record { hi_is = Denotes-counted Bdd w c hi _ i.splits.hi_is; lo_is = Denotes-counted Bdd w c lo _ i.splits.lo_is; is = i.splits.is; hi_below = i.splits.hi_below; lo_below = i.splits.lo_below };
  proper = i.proper;
  here = i.here;
  within = i.within;
  alone = i.alone;
  hi_top = i.hi_top;
  lo_top = i.lo_top;
}
inner-recounted Add w c e f v hi lo i = record {
  in_range = i.in_range;
  splits = record { hi_is = Denotes-counted Add w c hi _ i.splits.hi_is; lo_is = Denotes-counted Add w c lo _ i.splits.lo_is; is = i.splits.is; hi_below = i.splits.hi_below; lo_below = i.splits.lo_below };
  proper = i.proper;
  here = i.here;
  within = i.within;
  alone = i.alone;
  hi_top = i.hi_top;
  lo_top = i.lo_top;
}
inner-recounted Zdd w c e f v hi lo i = record {
  in_range = i.in_range;
  splits = record { hi_is = Denotes-counted Zdd w c hi _ i.splits.hi_is; lo_is = Denotes-counted Zdd w c lo _ i.splits.lo_is; is = i.splits.is; hi_below = i.splits.hi_below; lo_below = i.splits.lo_below };
  proper = i.proper;
  here = i.here;
  within = i.within;
  alone = i.alone;
  hi_top = i.hi_top;
  lo_top = i.lo_top;
}

inner-counted : (k : Kind) (w x : View) (e : Edge) (f : ℕ → ValueOf k) (v : ℕ) (hi lo : Edge) → differs_in_counts w x → IsInner k w e f v hi lo → IsInner k x e f v hi lo
inner-counted k w x e f v hi lo same i = subst (λ (y : View). IsInner k y e f v hi lo) (sym same) (inner-recounted k w x.count e f v hi lo i)

-- a variable has a number among its own
number-there : (k : Kind) (w : View) (v : ℕ) → IsVariable k w v → (n : ℕ) × (numbered k n ≡ v)
number-there Bdd w v is = (v, refl)
number-there Add w v is = (v, refl)
number-there Zdd w v is = let from = is.0 in (v - first_element, omega (arith, from))

-- the child that is taken denotes a function
pub child-is : (k : Kind) (w : View) (e : Edge) (f : ℕ → ValueOf k) (v : ℕ) (hi lo child : Edge) (taken : Bool) → child ≡ cond taken hi lo → IsInner k w e f v hi lo → Is k w child
child-is k w e f v hi lo child true is i = subst (λ (y : Edge). Is k w y) (sym is) i.splits.hi_is
child-is k w e f v hi lo child false is i = subst (λ (y : Edge). Is k w y) (sym is) i.splits.lo_is

module _ (old : RowStoreView) (w : View) (h : Name) (v : ℕ) (hi lo : Edge)
    (opens : (k : Kind) → IsLiveAs k old.rows.live h → IsInner k w (edge_in old.rows.live h) (values_at k (view_of old) (edge_in old.rows.live h)) v hi lo)
    (l : Kind) (live : IsLiveAs l old.rows.live h) where
  inner-of : (k : Kind) (f : ℕ → ValueOf k) → Names old k h f → IsInner k w (edge_in old.rows.live h) f v hi lo
  inner-of k f names = subst (λ (g : ℕ → ValueOf k). IsInner k w (edge_in old.rows.live h) g v hi lo) (own_values old k h (edge_in old.rows.live h) f refl names) (opens k names.0)

  same-number : (n : ℕ) → numbered l n ≡ v → (k : Kind) → IsLiveAs k old.rows.live h → v ≡ numbered k n
  same-number n is k also = sym is ∙ ap (λ (j : Kind). numbered j n) (one-kind old.rows.live h l k live also)

  pub top-node : (n : ℕ) → numbered l n ≡ v → (k : Kind) (f : ℕ → ValueOf k) → Names old k h f → IsTop k w (edge_in old.rows.live h) f (Node n)
  top-node n is k f names = (hi, lo, subst (λ (x : ℕ). IsInner k w (edge_in old.rows.live h) f x hi lo) (same-number n is k names.0) (inner-of k f names))

  pub child-row : (mid new : RowStoreView) (child : Edge) (name : Name) (taken : Bool) → w ≡ view_of mid → child ≡ cond taken hi lo → Same old mid → Gains mid new name l child
      → differs_in_counts (view_of mid) (view_of new) → IsChild old new h taken (Some name)
  child-row mid new child name taken here chosen same gains counts = (
    l,
    hi,
    lo,
    live,
    subst (λ (x : Edge). Gains old new name l x) chosen (gains-then old mid new name l child same gains),
    λ f names.
        let i = inner-of l f names in
        let n = number-there l w v i.in_range in
        (n.0, inner-counted l (view_of mid) (view_of new) (edge_in old.rows.live h) f (numbered l n.0) hi lo counts (subst (λ (x : View × ℕ). IsInner l x.0 (edge_in old.rows.live h) f x.1 hi lo) (λ j. (here j, sym n.1 j)) i)),
  )

module _ (old : RowStoreView) (w : View) (h : Name) (x : ℤ) (opens : (k : Kind) → IsLiveAs k old.rows.live h → IsLeaf k w (edge_in old.rows.live h) (values_at k (view_of old) (edge_in old.rows.live h)) x) where
  pub leaf-of : (k : Kind) (f : ℕ → ValueOf k) → Names old k h f → IsLeaf k w (edge_in old.rows.live h) f x
  leaf-of k f names = subst (λ (g : ℕ → ValueOf k). IsLeaf k w (edge_in old.rows.live h) g x) (own_values old k h (edge_in old.rows.live h) f refl names) (opens k names.0)

  pub no-child : (new : RowStoreView) (taken : Bool) → w ≡ view_of new → Same old new → IsChild old new h taken None
  no-child new taken here same = (same, λ k f names. (x, subst (λ (y : View). IsLeaf k y (edge_in old.rows.live h) f x) here (leaf-of k f names)))
