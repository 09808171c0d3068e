-- An edge that denotes a function still does, where its slot's function stays.
use Rattle.std.proofs.Common.{◌≡◌, ℕ, pos, false, ◌%◌, ◌^◌, Option, Some, length, refl, ap, sym, subst, ◌∙◌}
use Rattle.std.proofs.Math.Nat.{mod-eq_of_lt}
use Rattle.edge_bits.specs.declared.edges.Edge.{Edge}
use Rattle.edge_bits.specs.declared.edges.Kind.{Kind}
use Rattle.edge_bits.specs.declared.edges.Kind.TheVariants as kinds
use Rattle.function_laws.specs.declared.history.Function.TheVariants.{Bdd, Add, Zdd}
use Rattle.function_laws.specs.Kinds.{Denoted, ValueOf, Fits, Lacks, flipped, function_of, values_of}
use Rattle.function_laws.specs.Lists.{list_of, truth, whole}
use Rattle.function_laws.specs.Tables.{Sizes}
use Rattle.function_laws.specs.Widening.{at_sizes}
use Rattle.function_laws.proofs.ListLemmas.{get_or-list_of, length-list_of, list_of-same}
use Rattle.node_store.specs.KindLaws.{flipped-some}
use Rattle.node_store.specs.Listed.{listed, listed_at}
use Rattle.node_store.specs.Views.{View, Is, IsBeyond, Grown, values_at}
use Rattle.seat_guard.specs.declared.view.Held.{Held}
use Rattle.seat_guard.specs.Known.{sizes_for}
use Rattle.shared_store.specs.Sharing.{IsHeldIn, kind_of}

-- the numbers of variables and elements are the same, and so is the function of a slot
pub record IsSameAt (a b : View) (s : ℕ) : Type 0 where
  pub vars : b.vars ≡ a.vars
  pub elements : b.elements ≡ a.elements
  pub content : b.content s ≡ a.content s

IsBeyond-back : (k : Kind) (a b : View) → b.vars ≡ a.vars → b.elements ≡ a.elements → (v : ℕ) → IsBeyond k b v → IsBeyond k a v
IsBeyond-back kinds.Bdd a b vars elements v h = subst (λ n. IsBeyond kinds.Bdd (record a { vars = n }) v) vars h
IsBeyond-back kinds.Add a b vars elements v h = subst (λ n. IsBeyond kinds.Add (record a { vars = n }) v) vars h
IsBeyond-back kinds.Zdd a b vars elements v h = subst (λ n. IsBeyond kinds.Zdd (record a { elements = n }) v) elements h

values_at-same : (k : Kind) (a b : View) (e : Edge) → IsSameAt a b e.index → values_at k b e ≡ values_at k a e
values_at-same k a b e same = ap (λ (o : Option Denoted). values_of k (flipped e.complement o)) same.content

pub Is-same : (k : Kind) (a b : View) (e : Edge) → IsSameAt a b e.index → Is k a e → Is k b e
Is-same k a b e same is =
    let values : values_at k b e ≡ values_at k a e = values_at-same k a b e same in record {
      is = subst (λ (o : Option Denoted). flipped e.complement o ≡ Some (function_of k (values_of k (flipped e.complement o)))) (sym same.content) is.is;
      beyond = λ v h. subst (λ (f : ℕ → ValueOf k). Lacks k f v) (sym values) (is.beyond v (IsBeyond-back k a b same.vars same.elements v h));
      fits = subst (λ (f : ℕ → ValueOf k). Fits k f) (sym values) is.fits;
    }

listed-same : (k : Kind) (a b : View) (f : ℕ → ValueOf k) → b.vars ≡ a.vars → b.elements ≡ a.elements → listed k b f ≡ listed k a f
listed-same kinds.Bdd a b f vars elements = ap (λ n. Bdd (list_of (2 ^ n) f)) vars
listed-same kinds.Add a b f vars elements = ap (λ n. Add (list_of (2 ^ n) f)) vars
listed-same kinds.Zdd a b f vars elements = ap (λ n. Zdd (list_of (2 ^ n) f)) elements

listed_at-same : (k : Kind) (a b : View) (e : Edge) → IsSameAt a b e.index → listed_at k b e ≡ listed_at k a e
listed_at-same k a b e same = listed-same k a b (values_at k b e) same.vars same.elements ∙ ap (listed k a) (values_at-same k a b e same)

pub IsHeldIn-same : (a b : View) (h : Held) → IsSameAt a b h.edge.index → IsHeldIn a h → IsHeldIn b h
IsHeldIn-same a b h same held = (
  Is-same (kind_of h.function) a b h.edge same held.0,
  listed_at-same (kind_of h.function) a b h.edge same ∙ held.1 ∙ (λ i. at_sizes (sizes_for (sym same.vars i) (sym same.elements i)) h.function),
)

pub kind-listed : (k : Kind) (w : View) (f : ℕ → ValueOf k) → kind_of (listed k w f) ≡ k
kind-listed kinds.Bdd w f = refl
kind-listed kinds.Add w f = refl
kind-listed kinds.Zdd w f = refl

-- a growing store keeps the function of each slot that denotes one
pub IsSameAt-grown : (k : Kind) (a b : View) (e : Edge) → Grown a b → Is k a e → IsSameAt a b e.index
IsSameAt-grown k a b e grown is =
    let s = flipped-some e.complement (a.content e.index) (function_of k (values_at k a e)) is.is in
    record { vars = grown.vars; elements = grown.elements; content = grown.content e.index s.0 s.1 ∙ sym s.1 }

-- what is listed of a view is as it was noted, where the table has the view's variables and elements
pub listed-noted : (k : Kind) (w : View) (f : ℕ → ValueOf k) (z : Sizes) → z.variables ≡ w.vars → z.elements ≡ w.elements → at_sizes z (listed k w f) ≡ listed k w f
listed-noted kinds.Bdd w f z vars elements =
    ap Bdd (ap (λ i. list_of (2 ^ i) (λ k. truth (list_of (2 ^ w.vars) f) (k % length (list_of (2 ^ w.vars) f)))) vars
    ∙ list_of-same (2 ^ w.vars) (λ k. truth (list_of (2 ^ w.vars) f) (k % length (list_of (2 ^ w.vars) f))) f
    (λ k below. ap (λ i. truth (list_of (2 ^ w.vars) f) (k % i)) (length-list_of (2 ^ w.vars) f) ∙ ap (truth (list_of (2 ^ w.vars) f)) (mod-eq_of_lt below) ∙ get_or-list_of (2 ^ w.vars) k f false below))
listed-noted kinds.Add w f z vars elements =
    ap Add (ap (λ i. list_of (2 ^ i) (λ k. whole (list_of (2 ^ w.vars) f) (k % length (list_of (2 ^ w.vars) f)))) vars
    ∙ list_of-same (2 ^ w.vars) (λ k. whole (list_of (2 ^ w.vars) f) (k % length (list_of (2 ^ w.vars) f))) f
    (λ k below. ap (λ i. whole (list_of (2 ^ w.vars) f) (k % i)) (length-list_of (2 ^ w.vars) f) ∙ ap (whole (list_of (2 ^ w.vars) f)) (mod-eq_of_lt below) ∙ get_or-list_of (2 ^ w.vars) k f (pos 0) below))
listed-noted kinds.Zdd w f z vars elements =
    ap Zdd (ap (λ i. list_of (2 ^ i) (truth (list_of (2 ^ w.elements) f))) elements
    ∙ list_of-same (2 ^ w.elements) (truth (list_of (2 ^ w.elements) f)) f (λ k below. get_or-list_of (2 ^ w.elements) k f false below))
