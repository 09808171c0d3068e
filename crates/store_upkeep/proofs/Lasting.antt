-- What an edge denotes lasts.
use Rattle.std.proofs.Common.{◌≡◌, ℕ, ◌<◌, Option, Some, sym, subst, ◌∙◌}
use Rattle.edge_bits.specs.declared.edges.Edge.{Edge}
use Rattle.edge_bits.specs.declared.edges.Kind.{Kind}
use Rattle.edge_bits.specs.declared.edges.Kind.TheVariants.{Bdd, Add, Zdd}
use Rattle.function_laws.specs.Kinds.{Denoted, ValueOf, flipped, function_of}
use Rattle.node_store.specs.KindLaws.{flipped-some}
use Rattle.node_store.specs.Views.{View, Denotes, IsBeyond}
use Rattle.node_slots.specs.Stores.{Plain, content_of, count_at, plain_view}
use Rattle.store_upkeep.specs.Lasting.{IsCounted, Lasts}

-- the numbers of variables and elements are the same, and so is the function of a slot
pub record IsSameAt (a b : View) (s : ℕ) : Type 0 where
  pub vars : b.vars ≡ a.vars
  pub elements : b.elements ≡ a.elements
  pub content : b.content s ≡ a.content s

IsBeyond-back : (k : Kind) (a b : View) → b.vars ≡ a.vars → b.elements ≡ a.elements → (v : ℕ) → IsBeyond k b v → IsBeyond k a v
IsBeyond-back Bdd a b vars elements v h = subst (λ n. IsBeyond Bdd (record a { vars = n }) v) vars h
IsBeyond-back Add a b vars elements v h = subst (λ n. IsBeyond Add (record a { vars = n }) v) vars h
IsBeyond-back Zdd a b vars elements v h = subst (λ n. IsBeyond Zdd (record a { elements = n }) v) elements h

pub Denotes-same : (k : Kind) (a b : View) (e : Edge) (f : ℕ → ValueOf k) → IsSameAt a b e.index → Denotes k a e f → Denotes k b e f
Denotes-same k a b e f same d = record {
  is = subst (λ (o : Option Denoted). flipped e.complement o ≡ Some (function_of k f)) (sym same.content) d.is;
  beyond = λ v h. d.beyond v (IsBeyond-back k a b same.vars same.elements v h);
  fits = d.fits;
}

-- where slots are counted otherwise
pub Denotes-counted : (k : Kind) (v : View) (c : ℕ → ℕ) (e : Edge) (f : ℕ → ValueOf k) → Denotes k v e f → Denotes k (record v { count = c }) e f
Denotes-counted Bdd v c e f d = record { is = d.is; beyond = d.beyond; fits = d.fits }
Denotes-counted Add v c e f d = record { is = d.is; beyond = d.beyond; fits = d.fits }
Denotes-counted Zdd v c e f d = record { is = d.is; beyond = d.beyond; fits = d.fits }

pub counted_denotes : (p q : Plain) → IsCounted p q → (k : Kind) (e : Edge) (f : ℕ → ValueOf k) → Denotes k (plain_view p) e f → Denotes k (plain_view q) e f
counted_denotes p q same k e f d = subst (λ (w : View). Denotes k w e f) (sym same.view) (Denotes-counted k (plain_view p) (count_at q) e f d)

-- through a sweep, a swap or a sift, where its slot is counted
pub lasts_denotes : (p q : Plain) → Lasts p q → (k : Kind) (e : Edge) (f : ℕ → ValueOf k) → 0 < count_at p e.index → Denotes k (plain_view p) e f → Denotes k (plain_view q) e f
lasts_denotes p q lasts k e f some d =
    let s = flipped-some e.complement (content_of p e.index) (function_of k f) d.is in
    Denotes-same k (plain_view p) (plain_view q) e f (record { vars = lasts.vars; elements = lasts.elements; content = lasts.functions e.index s.0 some s.1 ∙ sym s.1 }) d
