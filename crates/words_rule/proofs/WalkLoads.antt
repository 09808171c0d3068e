-- The load of a node word in a walk, in the middle of a swap too, with the clauses of a walk's step.
use Rattle.std.proofs.Common.{◌≡◌, ℕ, not, Bool, true, false, Some, ap, sym, ◌∙◌, subst}
use Rattle.edge_bits.specs.declared.edges.Edge.{Edge}
use Rattle.edge_bits.specs.declared.edges.Kind.{Kind}
use Rattle.edge_bits.specs.declared.edges.Kind.TheVariants.{Bdd, Add, Zdd}
use Rattle.edge_bits.specs.declared.words.Node.{Node}
use Rattle.edge_bits.specs.declared.words.Word.{Word}
use Rattle.edge_bits.specs.declared.words.Word.TheVariants.{Inner, Leaf}
use Rattle.edge_bits.specs.Reading.{plain}
use Rattle.function_laws.specs.Values.{negation, choice, IsFree}
use Rattle.function_laws.proofs.ValueLemmas.{everywhere, place_one}
use Rattle.function_laws.specs.Kinds.{Denoted, ValueOf, function_of, joined_at, Lacks, flipped}
use Rattle.node_store.specs.Edges.{flip_if}
use Rattle.node_store.specs.declared.grow.Opened.{Opened}
use Rattle.node_store.specs.declared.grow.Opened.TheVariants as opened
use Rattle.node_store.specs.Contents.{Content, IsSound, view_of, opened_of}
use Rattle.node_store.specs.Views as views
use Rattle.node_store.specs.Views.{IsVariable, IsBeyond, IsProper, Denotes, Is, Kept, values_at, node_values}
use Rattle.node_store.specs.ViewLaws.{values_at-is, Is-from, Denotes-flip}
use Rattle.node_store.proofs.Parting.{same_kind, same_values}
use Rattle.node_slots.proofs.Flips.{unflip, not-injective}
use Rattle.step_store.specs.Walking.{Tells, IsJoined}
use Rattle.words_rule.proofs.Narrowing.{Narrow, Known, variable_down, is_down, values_same}
use Rattle.words_rule.proofs.Opened.{at_edge, leaf_at, opens_leaf}

abbrev pub levelless : Content → views.View
levelless w = record (view_of w) { level = λ _. 0; top = λ _. 0 }

some_values : (k : Kind) (f g : ℕ → ValueOf k) → Some (function_of k f) ≡ Some (function_of k g) → f ≡ g
some_values k f g e = same_values k f g (let same : function_of k f ≡ function_of k g = cc in same)

module _ (w : Content) (sound : IsSound w) where
  abbrev V : views.View
  V = view_of w

  abbrev U : views.View
  U = levelless w

  beyond_to : (k : Kind) (v : ℕ) → IsBeyond k U v → IsBeyond k V v
  beyond_to Bdd v h = h
  beyond_to Add v h = h
  beyond_to Zdd v h = h

  beyond_from : (k : Kind) (v : ℕ) → IsBeyond k V v → IsBeyond k U v
  beyond_from Bdd v h = h
  beyond_from Add v h = h
  beyond_from Zdd v h = h

  variable_from : (k : Kind) (v : ℕ) → IsVariable k V v → IsVariable k U v
  variable_from Bdd v h = h
  variable_from Add v h = h
  variable_from Zdd v h = h

  pub denotes_from : (k : Kind) (e : Edge) (f : ℕ → ValueOf k) → Denotes k V e f → Denotes k U e f
  denotes_from k e f d = record { is = d.is; beyond = λ v h. d.beyond v (beyond_to k v h); fits = d.fits }

  pub denotes_to : (k : Kind) (e : Edge) (f : ℕ → ValueOf k) → Denotes k U e f → Denotes k V e f
  denotes_to k e f d = record { is = d.is; beyond = λ v h. d.beyond v (beyond_from k v h); fits = d.fits }

  -- a node's children, of the kind of its function
  record JoinedOf (k : Kind) (node : Node) (f : Denoted) : Type 0 where
    in_range : IsVariable k V node.var
    hi_is : Is k V (plain node.hi)
    lo_is : Is k V node.lo
    hi_lacks : Lacks k (values_at k V (plain node.hi)) node.var
    lo_lacks : Lacks k (values_at k V node.lo) node.var
    proper : IsProper k (values_at k V (plain node.hi)) (values_at k V node.lo)
    is : f ≡ function_of k (node_values k V node.var (plain node.hi) node.lo)

  joined_made : (s : ℕ) (node : Node) (f : Denoted) → w.word s ≡ Some (Inner node) → w.function s ≡ Some f → (k : Kind) × JoinedOf k node f
  joined_made s node f word is =
      let n = sound.nodes s node f word is in
      let k : Kind = n.kind in
      let dh : Denotes k V (plain node.hi) n.high = at_edge w sound (plain node.hi) k n.high n.high_is in
      let dl : Denotes k V node.lo n.low = at_edge w sound node.lo k n.low n.low_is in
      let eh : values_at k V (plain node.hi) ≡ n.high = values_at-is k dh in
      let el : values_at k V node.lo ≡ n.low = values_at-is k dl in (
        k,
        record {
          in_range = n.in_range;
          hi_is = Is-from k dh;
          lo_is = Is-from k dl;
          hi_lacks = subst (λ (x : ℕ → ValueOf k). Lacks k x node.var) (sym eh) n.high_lacks;
          lo_lacks = subst (λ (x : ℕ → ValueOf k). Lacks k x node.var) (sym el) n.low_lacks;
          proper = subst (λ (y : (ℕ → ValueOf k) × (ℕ → ValueOf k)). IsProper k y.0 y.1) (λ i. (sym eh i, sym el i)) n.proper;
          is = n.is ∙ ap (λ (y : (ℕ → ValueOf k) × (ℕ → ValueOf k)). function_of k (joined_at k node.var y.0 y.1)) (λ i. (sym eh i, sym el i));
        },
      )

  joined_as : (s : ℕ) (node : Node) (k : Kind) (f : ℕ → ValueOf k) → w.word s ≡ Some (Inner node) → w.function s ≡ Some (function_of k f) → JoinedOf k node (function_of k f)
  joined_as s node k f word is =
      let x = joined_made s node (function_of k f) word is in
      subst (λ (j : Kind). JoinedOf j node (function_of k f)) (sym (same_kind k x.0 f (node_values x.0 V node.var (plain node.hi) node.lo) x.1.is)) x.1

  tells_node : (k : Kind) (c : Bool) (node : Node) (g : Denoted) → JoinedOf k node g → (f : ℕ → ValueOf k) → flipped c (Some g) ≡ Some (function_of k f) → IsJoined k U f node.var (flip_if c (plain node.hi)) (flip_if c node.lo)
  tells_node k false node g n f turn = record {
    in_range = variable_from k node.var n.in_range;
    hi_is = denotes_from k (plain node.hi) (values_at k V (plain node.hi)) n.hi_is;
    lo_is = denotes_from k node.lo (values_at k V node.lo) n.lo_is;
    is = sym (some_values k _ f (sym (ap Some n.is) ∙ turn));
    hi_lacks = n.hi_lacks;
    lo_lacks = n.lo_lacks;
    proper = n.proper;
  }
  tells_node Add true node g n f turn = let e = ap (λ (x : Denoted). flipped true (Some x)) (sym n.is) ∙ turn in cc
  tells_node Zdd true node g n f turn = let e = ap (λ (x : Denoted). flipped true (Some x)) (sym n.is) ∙ turn in cc
  tells_node Bdd true node g n f turn =
      let high = values_at Bdd V (plain node.hi) in let low = values_at Bdd V node.lo in
      let dh : Denotes Bdd V (flip_if true (plain node.hi)) (negation high) = Denotes-flip n.hi_is in
      let dl : Denotes Bdd V (flip_if true node.lo) (negation low) = Denotes-flip n.lo_is in
      let eh : values_at Bdd V (flip_if true (plain node.hi)) ≡ negation high = values_at-is Bdd dh in
      let el : values_at Bdd V (flip_if true node.lo) ≡ negation low = values_at-is Bdd dl in
      let e : flipped true (Some (function_of Bdd (node_values Bdd V node.var (plain node.hi) node.lo))) ≡ Some (function_of Bdd f) = ap (λ (x : Denoted). flipped true (Some x)) (sym n.is) ∙ turn in
      let whole : f ≡ choice node.var (negation high) (negation low) = sym (some_values Bdd _ f e) ∙ place_one not high low node.var in
      let not_free : (h : ℕ → Bool) → IsFree h node.var → IsFree (negation h) node.var = λ h free k b. ap not (free k b) in record {
        in_range = n.in_range;
        hi_is = denotes_from Bdd (flip_if true (plain node.hi)) (values_at Bdd V (flip_if true (plain node.hi))) (Is-from Bdd dh);
        lo_is = denotes_from Bdd (flip_if true node.lo) (values_at Bdd V (flip_if true node.lo)) (Is-from Bdd dl);
        is = rw (eh, el) whole;
        hi_lacks = rw eh (not_free high n.hi_lacks);
        lo_lacks = rw el (not_free low n.lo_lacks);
        proper = rw (eh, el) (λ e. n.proper (everywhere high low (λ x. not-injective (high x) (low x) (ap (λ (g : ℕ → Bool). g x) e))));
      }

  -- what a word tells of an edge to its slot, in the middle of a swap too
  pub tells_word : (k : Kind) (e : Edge) (word : Word) → Is k V e → w.word e.index ≡ Some word → Tells k U e (values_at k V e) (opened_of word e.complement)
  tells_word k e word d is = by word is
    where
      by : (word : Word) → w.word e.index ≡ Some word → Tells k U e (values_at k V e) (opened_of word e.complement)
      by (Leaf x) is =
          let f = values_at k V e in
          let u = unflip k e.complement (w.function e.index) f d.is in
          let l = leaf_at w sound e.index x k u.inner is u.is in
          (opens_leaf w sound k e.complement e.index f u.inner x l.0 l.1 (ap (flipped e.complement) (sym u.is) ∙ d.is)).leaf
      by (Inner node) is =
          let f = values_at k V e in
          let u = unflip k e.complement (w.function e.index) f d.is in
          tells_node k e.complement node (function_of k u.inner) (joined_as e.index node k u.inner is u.is) f (ap (flipped e.complement) (sym u.is) ∙ d.is)

-- and so in a view that knows the children
pub tells_down : {a b : views.View} (n : Narrow a b) (k : Kind) (e : Edge) (f : ℕ → ValueOf k) (o : Opened) → Known n o → Tells k b e f o → Tells k a e f o
tells_down {a} {b} n k e f (opened.Leaf x) known t = t
tells_down {a} {b} n k e f (opened.Inner v hi lo) known t =
    let dh : Is k a hi = is_down n k hi known.0 t.hi_is in
    let dl : Is k a lo = is_down n k lo known.1 t.lo_is in
    let eh : values_at k b hi ≡ values_at k a hi = values_same n k hi dh in
    let el : values_at k b lo ≡ values_at k a lo = values_same n k lo dl in record {
      in_range = variable_down n k v t.in_range;
      hi_is = dh;
      lo_is = dl;
      is = t.is ∙ ap (λ (y : (ℕ → ValueOf k) × (ℕ → ValueOf k)). joined_at k v y.0 y.1) (λ i. (eh i, el i));
      hi_lacks = subst (λ (x : ℕ → ValueOf k). Lacks k x v) eh t.hi_lacks;
      lo_lacks = subst (λ (x : ℕ → ValueOf k). Lacks k x v) el t.lo_lacks;
      proper = subst (λ (y : (ℕ → ValueOf k) × (ℕ → ValueOf k)). IsProper k y.0 y.1) (λ i. (eh i, el i)) t.proper;
    }
