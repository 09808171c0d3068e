-- A view that knows less of one store.
use Rattle.std.proofs.Common.{◌≡◌, ℕ, ◌+◌, ◌<◌, ◌≤◌, Some, ap, sym, ◌∙◌, subst, arith}
use Rattle.edge_bits.specs.declared.edges.Edge.{Edge}
use Rattle.edge_bits.specs.declared.edges.Kind.{Kind}
use Rattle.edge_bits.specs.declared.edges.Kind.TheVariants.{Bdd, Add, Zdd}
use Rattle.edge_bits.specs.Permanent.{first_element}
use Rattle.function_laws.specs.Kinds.{Denoted, ValueOf, function_of, joined_at, flipped}
use Rattle.node_store.specs.declared.grow.Opened.{Opened}
use Rattle.node_store.specs.declared.grow.Opened.TheVariants as opened
use Rattle.node_store.specs.KindLaws.{flipped-function, flipped-some}
use Rattle.node_store.specs.Views.{View, levels, IsVariable, IsBeyond, IsBelow, IsProper, Opens, CanMake, Denotes, Is, values_at, node_values}
use Rattle.node_store.specs.ViewLaws.{values_at-is, Is-from}

pub record Narrow (a b : View) : Type 0 where
  pub vars : b.vars ≡ a.vars
  pub elements : b.elements ≡ a.elements
  pub level : b.level ≡ a.level
  pub content : (s : ℕ) (f : Denoted) → a.content s ≡ Some f → b.content s ≡ Some f
  pub top : (s : ℕ) (f : Denoted) → a.content s ≡ Some f → b.top s ≡ a.top s

abbrev pub Has : View → ℕ → Type 0
Has a s = (f : Denoted) × (a.content s ≡ Some f)

module _ {a b : View} (n : Narrow a b) where
  pub variable_up : (k : Kind) (v : ℕ) → IsVariable k a v → IsVariable k b v
  variable_up Bdd v h = (h.0, subst (λ (x : ℕ). v < x) (sym n.vars) h.1)
  variable_up Add v h = (h.0, subst (λ (x : ℕ). v < x) (sym n.vars) h.1)
  variable_up Zdd v h = (h.0, subst (λ (x : ℕ). v < first_element + x) (sym n.elements) h.1)

  pub variable_down : (k : Kind) (v : ℕ) → IsVariable k b v → IsVariable k a v
  variable_down Bdd v h = (h.0, subst (λ (x : ℕ). v < x) n.vars h.1)
  variable_down Add v h = (h.0, subst (λ (x : ℕ). v < x) n.vars h.1)
  variable_down Zdd v h = (h.0, subst (λ (x : ℕ). v < first_element + x) n.elements h.1)

  pub beyond_up : (k : Kind) (v : ℕ) → IsBeyond k a v → IsBeyond k b v
  beyond_up Bdd v h = subst (λ (x : ℕ). x ≤ v) (sym n.vars) h
  beyond_up Add v h = subst (λ (x : ℕ). x ≤ v) (sym n.vars) h
  beyond_up Zdd v h = subst (λ (x : ℕ). first_element + x ≤ v) (sym n.elements) h

  pub beyond_down : (k : Kind) (v : ℕ) → IsBeyond k b v → IsBeyond k a v
  beyond_down Bdd v h = subst (λ (x : ℕ). x ≤ v) n.vars h
  beyond_down Add v h = subst (λ (x : ℕ). x ≤ v) n.vars h
  beyond_down Zdd v h = subst (λ (x : ℕ). first_element + x ≤ v) n.elements h

  pub levels_same : (k : Kind) → levels k b ≡ levels k a
  levels_same Bdd = n.vars
  levels_same Add = n.vars
  levels_same Zdd = n.elements

  pub level_same : (v : ℕ) → b.level v ≡ a.level v
  level_same v = ap (λ (f : ℕ → ℕ). f v) n.level

  pub content_same : (s : ℕ) → Has a s → b.content s ≡ a.content s
  content_same s h = n.content s h.0 h.1 ∙ sym h.1

  pub has_of : (k : Kind) (e : Edge) (f : ℕ → ValueOf k) → Denotes k a e f → Has a e.index
  has_of k e f d = flipped-some e.complement (a.content e.index) (function_of k f) d.is

  pub denotes_up : (k : Kind) (e : Edge) (f : ℕ → ValueOf k) → Denotes k a e f → Denotes k b e f
  denotes_up k e f d = record {
    is = flipped-function k e.complement (a.content e.index) (b.content e.index) f d.is (n.content e.index);
    beyond = λ v h. d.beyond v (beyond_down k v h);
    fits = d.fits;
  }

  pub denotes_down : (k : Kind) (e : Edge) (f : ℕ → ValueOf k) → Has a e.index → Denotes k b e f → Denotes k a e f
  denotes_down k e f h d = record {
    is = ap (flipped e.complement) (sym (content_same e.index h)) ∙ d.is;
    beyond = λ v x. d.beyond v (beyond_up k v x);
    fits = d.fits;
  }

  pub values_same : (k : Kind) (e : Edge) → Is k a e → values_at k b e ≡ values_at k a e
  values_same k e d = values_at-is k (denotes_up k e (values_at k a e) d)

  pub is_up : (k : Kind) (e : Edge) → Is k a e → Is k b e
  is_up k e d = Is-from k (denotes_up k e (values_at k a e) d)

  pub is_down : (k : Kind) (e : Edge) → Has a e.index → Is k b e → Is k a e
  is_down k e h d = Is-from k (denotes_down k e (values_at k b e) h d)

  pub below_up : (k : Kind) (v : ℕ) (f : ℕ → ValueOf k) → IsBelow k a v f → IsBelow k b v f
  below_up k v f h u un le = h u (variable_down k u un) (let x = level_same u in let y = level_same v in omega (arith, x, y, le))

  pub below_down : (k : Kind) (v : ℕ) (f : ℕ → ValueOf k) → IsBelow k b v f → IsBelow k a v f
  below_down k v f h u un le = h u (variable_up k u un) (let x = level_same u in let y = level_same v in omega (arith, x, y, le))

  pub can_up : (k : Kind) (v : ℕ) (hi lo : Edge) → CanMake k a v hi lo → CanMake k b v hi lo
  can_up k v hi lo c = record {
    in_range = variable_up k v c.in_range;
    hi_is = is_up k hi c.hi_is;
    lo_is = is_up k lo c.lo_is;
    hi_below = subst (λ (f : ℕ → ValueOf k). IsBelow k b v f) (sym (values_same k hi c.hi_is)) (below_up k v (values_at k a hi) c.hi_below);
    lo_below = subst (λ (f : ℕ → ValueOf k). IsBelow k b v f) (sym (values_same k lo c.lo_is)) (below_up k v (values_at k a lo) c.lo_below);
  }

  pub node_values_same : (k : Kind) (v : ℕ) (hi lo : Edge) → Is k a hi → Is k a lo → node_values k b v hi lo ≡ node_values k a v hi lo
  node_values_same k v hi lo h l = ap (λ (y : (ℕ → ValueOf k) × (ℕ → ValueOf k)). joined_at k v y.0 y.1) (λ i. (values_same k hi h i, values_same k lo l i))

  -- an edge opens as in the wider view, where its children are known
  abbrev pub Known : Opened → Type 0
  Known (opened.Inner v hi lo) = Has a hi.index × Has a lo.index
  Known (opened.Leaf x) = Unit {0}

  pub opens_down : (k : Kind) (e : Edge) (f : ℕ → ValueOf k) (o : Opened) → Has a e.index → Known o → Opens k b e f o → Opens k a e f o
  opens_down k e f (opened.Leaf x) has known l = record { leaf = l.leaf; here = sym (n.top e.index has.0 has.1) ∙ l.here ∙ levels_same k }
  opens_down k e f (opened.Inner v hi lo) has known i =
      let s = i.splits in
      let dh : Is k a hi = is_down k hi known.0 s.hi_is in
      let dl : Is k a lo = is_down k lo known.1 s.lo_is in
      let eh : values_at k b hi ≡ values_at k a hi = values_same k hi dh in
      let el : values_at k b lo ≡ values_at k a lo = values_same k lo dl in
      let both : (values_at k b hi, values_at k b lo) ≡ (values_at k a hi, values_at k a lo) = λ j. (eh j, el j) in
      let lv = level_same v in record {
        in_range = variable_down k v i.in_range;
        splits = record {
          hi_is = dh;
          lo_is = dl;
          is = s.is ∙ ap (λ (y : (ℕ → ValueOf k) × (ℕ → ValueOf k)). joined_at k v y.0 y.1) both;
          hi_below = subst (λ (f : ℕ → ValueOf k). IsBelow k a v f) eh (below_down k v (values_at k b hi) s.hi_below);
          lo_below = subst (λ (f : ℕ → ValueOf k). IsBelow k a v f) el (below_down k v (values_at k b lo) s.lo_below);
        };
        proper = subst (λ (y : (ℕ → ValueOf k) × (ℕ → ValueOf k)). IsProper k y.0 y.1) both i.proper;
        here = sym (n.top e.index has.0 has.1) ∙ i.here ∙ lv;
        within = (let w = i.within in let l = levels_same k in omega (arith, w, l, lv));
        alone = λ u un same. i.alone u (variable_up k u un) (level_same u ∙ same ∙ sym lv);
        hi_top = (let t = n.top hi.index known.0.0 known.0.1 in let h = i.hi_top in omega (arith, t, h, lv));
        lo_top = (let t = n.top lo.index known.1.0 known.1.1 in let h = i.lo_top in omega (arith, t, h, lv));
      }
