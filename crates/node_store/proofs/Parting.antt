-- A function's variable and parts are told by the function, whatever its kind.
use Rattle.std.proofs.Common.{◌≡◌, ◌≢◌, ℕ, ◌<◌, inl, inr, Bool, true, false, not, ◌&&◌, Some, refl, ap, sym, ◌∙◌, subst, arith}
use Rattle.std.proofs.lemmas.Bool.{cases_lt}
use Rattle.edge_bits.specs.declared.edges.Kind.{Kind}
use Rattle.edge_bits.specs.declared.edges.Kind.TheVariants.{Bdd, Add, Zdd}
use Rattle.edge_bits.specs.Assignments.{bit, set_bit}
use Rattle.edge_bits.specs.Reading.{element_of}
use Rattle.edge_bits.proofs.AssignmentLemmas.{bit-set_same}
use Rattle.function_laws.specs.Families.{empty, subset1, subset0, IsWithout}
use Rattle.function_laws.proofs.ValueLemmas.{everywhere, cofactor-free}
use Rattle.function_laws.specs.Kinds.{ValueOf, function_of, values_of, joined_at, Lacks, part_at, absent_part}
use Rattle.node_store.specs.KindLaws.{values_of-function, part-joined, Lacks-joined}
use Rattle.node_store.specs.Views.{View, IsVariable, IsBelow, IsProper}
use Rattle.node_store.specs.ViewLaws.{Apart-variables}

pub same_kind : (k j : Kind) (f : ℕ → ValueOf k) (g : ℕ → ValueOf j) → function_of k f ≡ function_of j g → k ≡ j
same_kind Bdd Bdd f g e = refl
same_kind Bdd Add f g e = cc
same_kind Bdd Zdd f g e = cc
same_kind Add Bdd f g e = cc
same_kind Add Add f g e = refl
same_kind Add Zdd f g e = cc
same_kind Zdd Bdd f g e = cc
same_kind Zdd Add f g e = cc
same_kind Zdd Zdd f g e = refl

pub same_values : (k : Kind) (f g : ℕ → ValueOf k) → function_of k f ≡ function_of k g → f ≡ g
same_values k f g e = sym (values_of-function k f) ∙ ap (λ x. values_of k (Some x)) e ∙ values_of-function k g

subset1-without : (p : ℕ → Bool) (e : ℕ) → IsWithout p e → subset1 p e ≡ empty
subset1-without p e h = everywhere (subset1 p e) empty (λ a. at (not (bit a e)) (p (set_bit a e true)) (h (set_bit a e true) (bit-set_same a e true)))
  where
    at : (x y : Bool) → y ≡ false → (x && y) ≡ false
    at true y h = h
    at false y h = refl

subset0-without : (p : ℕ → Bool) (e : ℕ) → IsWithout p e → subset0 p e ≡ p
subset0-without p e h = everywhere (subset0 p e) p (λ a. at (bit a e) (p a) (h a))
  where
    at : (x y : Bool) → (x ≡ true → y ≡ false) → (not x && y) ≡ y
    at true y h = sym (h refl)
    at false y h = refl

-- the parts of a function that lacks the variable
pub part-lacking : (k : Kind) (v : ℕ) (f : ℕ → ValueOf k) → Lacks k f v → (part_at k f v true ≡ absent_part k f) × (part_at k f v false ≡ f)
part-lacking Bdd v f h = (cofactor-free f v true h, cofactor-free f v false h)
part-lacking Add v f h = (cofactor-free f v true h, cofactor-free f v false h)
part-lacking Zdd v f h = (subset1-without f (element_of v) h, subset0-without f (element_of v) h)

proper-absent : (k : Kind) (h l : ℕ → ValueOf k) → IsProper k h l → h ≡ absent_part k l → ⊥
proper-absent Bdd h l p e = p e
proper-absent Add h l p e = p e
proper-absent Zdd h l p e = p e

-- a node of proper children depends on its variable
pub depends : (k : Kind) (v : ℕ) (h l : ℕ → ValueOf k) → Lacks k h v → Lacks k l v → IsProper k h l → Lacks k (joined_at k v h l) v → ⊥
depends k v h l ph pl proper lacks =
    let parts = part-lacking k v (joined_at k v h l) lacks in
    let low : l ≡ joined_at k v h l = sym (part-joined k v h l false ph pl) ∙ parts.1 in
    proper-absent k h l proper (sym (part-joined k v h l true ph pl) ∙ parts.0 ∙ ap (absent_part k) (sym low))

module _ (k : Kind) (w : View) (alone : (u v : ℕ) → IsVariable k w u → IsVariable k w v → w.level u ≡ w.level v → u ≡ v) where
  -- a function that lacks all variables down to a level is no node of that level or above
  pub lower : (u v : ℕ) (h l : ℕ → ValueOf k) → IsVariable k w u → IsBelow k w u h → IsBelow k w u l → IsProper k h l
      → IsBelow k w v (joined_at k u h l) → w.level v < w.level u
  lower u v h l hu bh bl proper below = elim (cases_lt (w.level v) (w.level u)) [
    | inl lt ↦ lt
    | inr le ↦ absurd (depends k u h l (bh u hu (omega arith)) (bl u hu (omega arith)) proper (below u hu le))
  ]

  not_above : (u v : ℕ) (h l f g : ℕ → ValueOf k) → IsVariable k w u → IsVariable k w v → IsBelow k w u h → IsBelow k w u l → IsProper k h l
      → IsBelow k w v f → IsBelow k w v g → joined_at k u h l ≡ joined_at k v f g → w.level u < w.level v → ⊥
  not_above u v h l f g hu hv bh bl proper bf bg same lt =
      let ne : u ≢ v = λ e. let x = ap w.level e in omega arith in
      depends k u h l (bh u hu (omega arith)) (bl u hu (omega arith)) proper
      (subst (λ x. Lacks k x u) (sym same) (Lacks-joined k u v f g (Apart-variables k w u v hu hv ne) (bf u hu (omega arith)) (bg u hu (omega arith))))

  pub top_once : (u v : ℕ) (h l f g : ℕ → ValueOf k) → IsVariable k w u → IsVariable k w v → IsBelow k w u h → IsBelow k w u l → IsProper k h l
      → IsBelow k w v f → IsBelow k w v g → IsProper k f g → joined_at k u h l ≡ joined_at k v f g → u ≡ v
  top_once u v h l f g hu hv bh bl ph bf bg pf same = elim (cases_lt (w.level u) (w.level v)) [
    | inl lt ↦ absurd (not_above u v h l f g hu hv bh bl ph bf bg same lt)
    | inr ge ↦ elim (cases_lt (w.level v) (w.level u)) [
      | inl lt ↦ absurd (not_above v u f g h l hv hu bf bg pf bh bl (sym same) lt)
      | inr le ↦ alone u v hu hv (omega arith)
    ]
  ]

pub same_parts : (k : Kind) (v : ℕ) (h l f g : ℕ → ValueOf k) → Lacks k h v → Lacks k l v → Lacks k f v → Lacks k g v
    → joined_at k v h l ≡ joined_at k v f g → (h ≡ f) × (l ≡ g)
same_parts k v h l f g ph pl pf pg same = (
  sym (part-joined k v h l true ph pl) ∙ ap (λ x. part_at k x v true) same ∙ part-joined k v f g true pf pg,
  sym (part-joined k v h l false ph pl) ∙ ap (λ x. part_at k x v false) same ∙ part-joined k v f g false pf pg,
)
