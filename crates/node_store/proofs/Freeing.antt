-- A slot freed that no node names leaves a sound store.
use Rattle.std.proofs.Common.{◌≡◌, ◌≢◌, ℕ, inl, inr, Bool, Option, Some, None, refl, sym, ap, ◌∙◌, subst, arith}
use Rattle.std.proofs.lemmas.Bool.{cases_eq}
use Rattle.edge_bits.specs.declared.words.Node.{Node}
use Rattle.edge_bits.specs.declared.words.Word.{Word}
use Rattle.edge_bits.specs.declared.words.Word.TheVariants.{Inner, Leaf}
use Rattle.function_laws.specs.Kinds.{Denoted, BddFunction, function_of, flipped}
use Rattle.node_store.specs.Contents.{Content, IsSound, IsNodeOf, IsPermanent}
use Rattle.node_store.specs.Changes.{CanFree, without}
use Rattle.node_store.proofs.Rewriting.{put_at-same, put_at-other, IsVariable-same, IsBeyond-same}

module _ (w : Content) (sound : IsSound w) (s : ℕ) (can : CanFree w s) where
  abbrev new : Content
  new = without w s

  word_here : new.word s ≡ None
  word_here = put_at-same w.word s None

  word_other : (t : ℕ) → t ≢ s → new.word t ≡ w.word t
  word_other t ne = put_at-other w.word s t None ne

  function_here : new.function s ≡ None
  function_here = put_at-same w.function s None

  function_other : (t : ℕ) → t ≢ s → new.function t ≡ w.function t
  function_other t ne = put_at-other w.function s t None ne

  -- what is left was there, in another slot
  left : (t : ℕ) (word : Word) → new.word t ≡ Some word → (t ≢ s) × (w.word t ≡ Some word)
  left t word h = elim (cases_eq t s) [
    | inl e ↦ (let c : None ≡ Some word = sym word_here ∙ ap new.word (sym e) ∙ h in cc)
    | inr ne ↦ (ne, sym (word_other t ne) ∙ h)
  ]

  denoted : (t : ℕ) (f : Denoted) → new.function t ≡ Some f → (t ≢ s) × (w.function t ≡ Some f)
  denoted t f h = elim (cases_eq t s) [
    | inl e ↦ (let c : None ≡ Some f = sym function_here ∙ ap new.function (sym e) ∙ h in cc)
    | inr ne ↦ (ne, sym (function_other t ne) ∙ h)
  ]

  kept : (t : ℕ) → t ≢ s → (f : Denoted) → w.function t ≡ Some f → new.function t ≡ Some f
  kept t ne f h = function_other t ne ∙ h

  permanent_apart : (t : ℕ) → IsPermanent w t → t ≢ s
  permanent_apart t p e = can.spare (subst (IsPermanent w) e p)

  flipped_kept : (c : Bool) (t : ℕ) → t ≢ s → (o : Option Denoted) → flipped c (w.function t) ≡ o → flipped c (new.function t) ≡ o
  flipped_kept c t ne o h = ap (flipped c) (function_other t ne) ∙ h

  node_left : (t : ℕ) (node : Node) (f : Denoted) → new.word t ≡ Some (Inner node) → new.function t ≡ Some f → IsNodeOf new node f
  node_left t node f word is =
      let l = left t (Inner node) word in
      let d = denoted t f is in
      let n = sound.nodes t node f l.1 d.1 in
      let u = can.unnamed t node l.1 in
      record {
        kind = n.kind;
        high = n.high;
        low = n.low;
        in_range = IsVariable-same n.kind w new refl node.var n.in_range;
        high_is = kept node.hi u.0 (function_of n.kind n.high) n.high_is;
        low_is = flipped_kept node.lo.complement node.lo.index u.1 (Some (function_of n.kind n.low)) n.low_is;
        is = n.is;
        high_lacks = n.high_lacks;
        low_lacks = n.low_lacks;
        proper = n.proper;
      }

  pub freed_sound : IsSound new
  freed_sound = record {
    variables = sound.variables;
    elements = sound.elements;
    few_variables = sound.few_variables;
    few_elements = sound.few_elements;
    within = λ t u. let l = left t u.0 u.1 in sound.within t (u.0, l.1);
    few_slots = sound.few_slots;
    denotes = λ t u.
        let l = left t u.0 u.1 in
        let d = sound.denotes t (u.0, l.1) in
        (d.0, kept t l.0 d.0 d.1);
    used = λ t f h. let d = denoted t f h in let u = sound.used t f d.1 in (u.0, word_other t d.0 ∙ u.1);
    constants = λ t lt. word_other t (permanent_apart t (inl lt)) ∙ sound.constants t lt;
    logic_one = function_other 0 (permanent_apart 0 (inl (omega arith))) ∙ sound.logic_one;
    empty_family = function_other 1 (permanent_apart 1 (inl (omega arith))) ∙ sound.empty_family;
    base_family = function_other 2 (permanent_apart 2 (inl (omega arith))) ∙ sound.base_family;
    projections = λ v lt. let p = sound.projections v lt in (p.0, word_other p.0 (permanent_apart p.0 (inr (v, lt, p.1))) ∙ p.1);
    nodes = node_left;
    leaves = λ t x le word.
        let l = left t (Leaf x) word in
        let h = sound.leaves t x le l.1 in
        (function_other t l.0 ∙ h.0, h.1);
    apart = λ t u f h i. sound.apart t u f (denoted t f h).1 (denoted u f i).1;
    regular = λ t f h. sound.regular t f (denoted t (BddFunction f) h).1;
    of_store = λ t k f h. let o = sound.of_store t k f (denoted t (function_of k f) h).1 in ((λ v b. o.0 v (IsBeyond-same k w new refl v b)), o.1);
    ordered = λ t node k f word h u hu lt. sound.ordered t node k f (left t (Inner node) word).1 (denoted t (function_of k f) h).1 u (IsVariable-same k new w refl u hu) lt;
    few_counts = sound.few_counts;
    uncounted = λ t none. elim (cases_eq t s) [
      | inl e ↦ ap w.count e ∙ can.uncounted
      | inr ne ↦ sound.uncounted t (sym (word_other t ne) ∙ none)
    ];
    unpinned = λ t none. elim (cases_eq t s) [
      | inl e ↦ ap w.pinned e ∙ can.unpinned
      | inr ne ↦ sound.unpinned t (sym (word_other t ne) ∙ none)
    ];
  }
