-- What is added stays part of the work while the store grows.
use Rattle.std.proofs.Common.{◌≡◌, ℕ, Bool, true, false, not, cond, Option, Some, None, ◌⊎◌, inl, inr, ap, sym, ◌∙◌, subst, arith}
use Rattle.edge_bits.specs.declared.edges.Edge.{Edge}
use Rattle.edge_bits.specs.declared.edges.Kind.{Kind}
use Rattle.edge_bits.specs.declared.edges.Kind.TheVariants.{Bdd, Add, Zdd}
use Rattle.function_laws.specs.Values.{negation}
use Rattle.function_laws.specs.Kinds.{Denoted, BddFunction, AddFunction, ZddFamily, ValueOf, function_of, joined_at, flipped, opposite}
use Rattle.node_store.specs.KindLaws.{part-joined, Lacks-joined}
use Rattle.node_store.specs.Views.{View, IsVariable, IsBelow, Grown, Kept, Denotes}
use Rattle.node_store.specs.ViewLaws.{Grown-refl, Grown-trans, IsVariable-grown, IsVariable-back, level-grown, flipped-not, Apart-variables}
use Rattle.node_store.specs.Work.{IsPart, whole, cut, IsWork, Moves}

pub IsPart-grown : (k : Kind) {a b : View} → Grown a b → (f g : ℕ → ValueOf k) → IsPart k a f g → IsPart k b f g
IsPart-grown k g f _ whole = whole
IsPart-grown k g f _ (cut h v b vn above p) =
    cut h v b (IsVariable-grown k g v vn) (λ u un lt. above u (IsVariable-back k g u un) (rw (sym (level-grown g u), sym (level-grown g v)) lt)) (IsPart-grown k g f h p)

pub IsPart-back : (k : Kind) {a b : View} → Grown a b → (f g : ℕ → ValueOf k) → IsPart k b f g → IsPart k a f g
IsPart-back k g f _ whole = whole
IsPart-back k g f _ (cut h v b vn above p) =
    cut h v b (IsVariable-back k g v vn) (λ u un lt. above u (IsVariable-grown k g u un) (rw (level-grown g u, level-grown g v) lt)) (IsPart-back k g f h p)

pub IsWork-grown : {a b : View} → Grown a b → (P Q : Denoted → Type 0) → ((f : Denoted) → P f → Q f) → (o : Option Denoted) → IsWork a P o → IsWork b Q o
IsWork-grown g P Q more o i = record {
  kind = i.kind;
  root = i.root;
  part = i.part;
  asked = more (function_of i.kind i.root) i.asked;
  is_part = IsPart-grown i.kind g i.root i.part i.is_part;
  is = i.is;
}

-- the slot of an edge that denotes a part
pub IsWork-edge : (k : Kind) (w : View) (Work : Denoted → Type 0) (e : Edge) (f g : ℕ → ValueOf k) → Work (function_of k f) → IsPart k w f g → Denotes k w e g → IsWork w Work (w.content e.index)
IsWork-edge k w Work e f g asked p d = record { kind = k; root = f; part = g; asked = asked; is_part = p; is = by_complement k e.complement (w.content e.index) g d.is }
  where
    by_complement : (k : Kind) (c : Bool) (o : Option Denoted) (g : ℕ → ValueOf k) → flipped c o ≡ Some (function_of k g)
        → (o ≡ Some (function_of k g)) ⊎ (o ≡ Some (opposite (function_of k g)))
    by_complement k false o g h = inl h
    by_complement Bdd true o g h = inr (flipped-not true o g h)
    by_complement Add true None g h = cc
    by_complement Add true (Some (BddFunction f)) g h = cc
    by_complement Add true (Some (AddFunction f)) g h = cc
    by_complement Add true (Some (ZddFamily f)) g h = cc
    by_complement Zdd true None g h = cc
    by_complement Zdd true (Some (BddFunction f)) g h = cc
    by_complement Zdd true (Some (AddFunction f)) g h = cc
    by_complement Zdd true (Some (ZddFamily f)) g h = cc

pub IsWork-due : (k : Kind) (w : View) (Work : Denoted → Type 0) (f g : ℕ → ValueOf k) → Work (function_of k f) → IsPart k w f g → w.due ≡ Some (function_of k g) → IsWork w Work w.due
IsWork-due k w Work f g asked p d = record { kind = k; root = f; part = g; asked = asked; is_part = p; is = inl d }

-- the halves of a part are parts
pub IsPart-half : (k : Kind) (w : View) (v : ℕ) (f g h l : ℕ → ValueOf k) (b : Bool) → IsVariable k w v → g ≡ joined_at k v h l → IsBelow k w v h → IsBelow k w v l
    → IsPart k w f g → IsPart k w f (cond b h l)
IsPart-half k w v f g h l b vn is hb lb p =
    subst (λ x. IsPart k w f x) (part-joined k v h l b (hb v vn (omega arith)) (lb v vn (omega arith)))
    (cut (joined_at k v h l) v b vn (λ u un lt. Lacks-joined k u v h l (Apart-variables k w u v un vn (λ e. let s = ap w.level e in omega arith)) (hb u un (omega arith)) (lb u un (omega arith)))
    (subst (λ x. IsPart k w f x) is p))

module _ (Roots : View → Type 0) (Work : View → Denoted → Type 0)
    (roots_stay : (v w : View) → Grown v w → Roots v → Roots w)
    (work_stays : (v w : View) (f : Denoted) → Grown v w → Roots v → Work v f → Work w f) where
  pub Moves-both : (u v w : View) → Moves Roots Work u v → Moves Roots Work v w → Moves Roots Work u w
  Moves-both u v w p q = record {
    grown = Grown-trans p.grown q.grown;
    work = λ roots s h. elim (q.work (roots_stay u v p.grown roots) s h) [
      | inl old ↦ elim (p.work roots s old) [
        | inl older ↦ inl older
        | inr i ↦ inr (let was = IsWork-grown q.grown (Work v) (Work w) (λ f a. work_stays v w f q.grown (roots_stay u v p.grown roots) a) (v.content s) i in
            stays v w s q.grown i was)
      ]
      | inr i ↦ inr i
    ];
  }
    where
      stays : (v w : View) (s : ℕ) → Grown v w → IsWork v (Work v) (v.content s) → IsWork w (Work w) (v.content s) → IsWork w (Work w) (w.content s)
      stays v w s g old i = record {
        kind = i.kind;
        root = i.root;
        part = i.part;
        asked = i.asked;
        is_part = i.is_part;
        is = elim i.is [ inl e ↦ inl (g.content s (function_of i.kind i.part) e) | inr e ↦ inr (g.content s (opposite (function_of i.kind i.part)) e) ];
      }

pub Moves-kept : (Roots : View → Type 0) (Work : View → Denoted → Type 0) (v w : View) → Kept v w → Moves Roots Work v w
Moves-kept Roots Work v w m = record { grown = m.grown; work = λ roots s h. let e = ap (λ (x : ℕ → Bool). x s) m.made in inl (sym e ∙ h) }

pub Moves-none : (Roots : View → Type 0) (Work : View → Denoted → Type 0) (v : View) → Moves Roots Work v v
Moves-none Roots Work v = record { grown = Grown-refl v; work = λ roots s h. inl h }

-- an edge was stored that denotes a part of the work
pub Moves-made : (k : Kind) (Roots : View → Type 0) (Work : View → Denoted → Type 0) (v w : View) (e : Edge) (f g : ℕ → ValueOf k)
    → Grown v w → ((s : ℕ) → w.made s ≡ true → (v.made s ≡ true) ⊎ (e.index ≡ s))
    → (Roots v → Work w (function_of k f)) → IsPart k w f g → Denotes k w e g → Moves Roots Work v w
Moves-made k Roots Work v w e f g m made asked p d = record {
  grown = m;
  work = λ roots s h. elim (made s h) [
    | inl old ↦ inl old
    | inr same ↦ inr (subst (λ x. IsWork w (Work w) (w.content x)) same (IsWork-edge k w (Work w) e f g (asked roots) p d))
  ];
}

-- a part of a part
pub IsPart-both : (k : Kind) (w : View) (f g h : ℕ → ValueOf k) → IsPart k w f g → IsPart k w g h → IsPart k w f h
IsPart-both k w f g _ p whole = p
IsPart-both k w f g _ p (cut h v b vn above q) = cut h v b vn above (IsPart-both k w f g h p q)

-- parts of a complement are complements of parts
pub IsPart-not : (w : View) (f g : ℕ → Bool) → IsPart Bdd w f g → IsPart Bdd w (negation f) (negation g)
IsPart-not w f _ whole = whole
IsPart-not w f _ (cut h v b vn above q) = cut (negation h) v b vn (λ u un lt k c. ap not (above u un lt k c)) (IsPart-not w f h q)
