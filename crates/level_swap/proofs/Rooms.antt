-- A store after some nodes of the upper variable were found or stored, and what a swap has still to store.
use Rattle.std.proofs.Common.{◌≡◌, ◌≢◌, ℕ, suc, ◌+◌, ◌<◌, ◌≤◌, ◌⊎◌, inl, inr, Option, Some, None, refl, sym, ap, ◌∙◌, subst, arith}
use Rattle.std.proofs.lemmas.Bool.{cases_eq}
use Rattle.edge_bits.specs.declared.edges.Edge.{Edge}
use Rattle.edge_bits.specs.declared.edges.Kind.{Kind}
use Rattle.edge_bits.specs.declared.words.Node.{Node}
use Rattle.edge_bits.specs.declared.words.Word.{Word}
use Rattle.edge_bits.specs.declared.words.Word.TheVariants.{Inner}
use Rattle.function_laws.specs.declared.orders.Order.{Order}
use Rattle.function_laws.specs.Kinds.{Denoted, ValueOf, function_of, Lacks}
use Rattle.node_store.specs.Views.{function_at}
use Rattle.node_store.specs.Contents.{Content, IsSound, view_of, used_slots, is_used}
use Rattle.node_store.specs.Changes.{After, with_node, put_at}
use Rattle.node_store.proofs.Parting.{same_kind, same_values}
use Rattle.node_store.proofs.Rewriting.{put_at-same, put_at-other}
use Rattle.level_swap.proofs.SlotCounts.{count_put}
use Rattle.level_swap.proofs.SoundEdges.{turned, at_slot, Lacks-turned}
use Rattle.level_swap.proofs.Steps.{used_same}

pub some_inner : (m n : Node) → Some (Inner m) ≡ Some (Inner n) → m ≡ n
some_inner m n e = cc

pub some_same : (o : Option Denoted) (f g : Denoted) → o ≡ Some f → o ≡ Some g → f ≡ g
some_same o f g a b = cc

pub no_word : (o : Option Word) (word : Word) → o ≡ None → o ≡ Some word → ⊥
no_word o word a b = cc

-- lacking a variable, whatever kind a function is said to be of
pub lacks_same : (j k : Kind) (f : ℕ → ValueOf j) (g : ℕ → ValueOf k) (v : ℕ) → function_of j f ≡ function_of k g → Lacks k g v → Lacks j f v
lacks_same j k f g v e h = at j (same_kind j k f g e) f e
  where
    at : (j : Kind) → j ≡ k → (f : ℕ → ValueOf j) → function_of j f ≡ function_of k g → Lacks j f v
    at j jk = subst (λ j. (f : ℕ → ValueOf j) → function_of j f ≡ function_of k g → Lacks j f v) (sym jk) (λ f e. subst (λ x. Lacks k x v) (sym (same_values k f g e)) h)

-- Further nodes of the upper variable, that lack the lower one, came to stand where no word stood; nothing else changed but counts.
pub record Extends (others : (ℕ → ℕ) → (ℕ → ℕ) → Type 0) (upper lower : ℕ) (w x : Content) (n : ℕ) : Type 0 where
  pub orders : x.orders ≡ w.orders
  pub limit : x.limit ≡ w.limit
  pub generation : x.generation ≡ w.generation
  pub marked : x.marked ≡ w.marked
  pub pinned : x.pinned ≡ w.pinned
  pub sweeping : x.sweeping ≡ w.sweeping
  pub half : x.half ≡ w.half
  pub counts : others w.count x.count
  pub sound : IsSound x
  pub word : (s : ℕ) (word : Word) → w.word s ≡ Some word → x.word s ≡ Some word
  pub function : (s : ℕ) (f : Denoted) → w.function s ≡ Some f → x.function s ≡ Some f
  pub fresh : (s : ℕ) (node : Node) → x.word s ≡ Some (Inner node) → (w.word s ≡ Some (Inner node))
      ⊎ ((w.word s ≡ None) × (node.var ≡ upper) × ((k : Kind) (f : ℕ → ValueOf k) → x.function s ≡ Some (function_of k f) → Lacks k f lower))
  pub few : used_slots x ≤ used_slots w + n

pub extends_after : (others : (ℕ → ℕ) → (ℕ → ℕ) → Type 0) (upper lower : ℕ) (w x : Content) → Order → After others w x → Extends others upper lower w x 0
extends_after others upper lower w x order a = record {
  orders = a.orders;
  limit = a.limit;
  generation = a.generation;
  marked = a.marked;
  pinned = a.pinned;
  sweeping = a.sweeping;
  half = a.half;
  counts = a.counts;
  sound = a.sound;
  word = λ s word h. ap (λ (y : ℕ → Option Word). y s) a.word ∙ h;
  function = λ s f h. ap (λ (y : ℕ → Option Denoted). y s) a.function ∙ h;
  fresh = λ s node h. inl (sym (ap (λ (y : ℕ → Option Word). y s) a.word) ∙ h);
  few = (let u = used_same others w x a order in omega (arith, u));
}

-- a slot's function before, where the slot was in use
pub function_before : (others : (ℕ → ℕ) → (ℕ → ℕ) → Type 0) (upper lower : ℕ) (w x : Content) (n : ℕ) → IsSound w → Extends others upper lower w x n → (s : ℕ) (word : Word) (f : Denoted)
    → w.word s ≡ Some word → x.function s ≡ Some f → w.function s ≡ Some f
function_before others upper lower w x n sound e s word f h is =
    let d = sound.denotes s (word, h) in d.1 ∙ ap Some (some_same (x.function s) d.0 f (e.function s d.0 d.1) is)

pub extends_then : (others : (ℕ → ℕ) → (ℕ → ℕ) → Type 0) → ((a b c : ℕ → ℕ) → others a b → others b c → others a c) → (upper lower : ℕ) (u v w : Content) (m n l : ℕ)
    → Extends others upper lower u v m → Extends others upper lower v w n → m + n ≡ l → Extends others upper lower u w l
extends_then others both upper lower u v w m n l p q total = record {
  orders = q.orders ∙ p.orders;
  limit = q.limit ∙ p.limit;
  generation = q.generation ∙ p.generation;
  marked = q.marked ∙ p.marked;
  pinned = q.pinned ∙ p.pinned;
  sweeping = q.sweeping ∙ p.sweeping;
  half = q.half ∙ p.half;
  counts = both u.count v.count w.count p.counts q.counts;
  sound = q.sound;
  word = λ s word h. q.word s word (p.word s word h);
  function = λ s f h. q.function s f (p.function s f h);
  fresh = λ s node h. elim (q.fresh s node h) [
    | inl before ↦ elim (p.fresh s node before) [
      | inl first ↦ inl first
      | inr (none, var, lacks) ↦ inr (none, var, (λ k f is. lacks k f (function_before others upper lower v w n p.sound q s (Inner node) (function_of k f) before is)))
    ]
    | inr (none, var, lacks) ↦ inr (none_first s (u.word s) refl none, var, lacks)
  ];
  few = (let a = p.few in let b = q.few in omega (arith, a, b, total));
}
  where
    none_first : (s : ℕ) (o : Option Word) → u.word s ≡ o → v.word s ≡ None → u.word s ≡ None
    none_first s None is none = is
    none_first s (Some word) is none = absurd (no_word (v.word s) word none (p.word s word is))

-- what an addition leaves
module _ (others : (ℕ → ℕ) → (ℕ → ℕ) → Type 0) (upper lower : ℕ) (k : Kind) (w x : Content) (order : Order) (e : Edge) (g : ℕ → ValueOf k) (lacks : Lacks k g lower)
    (denotes : function_at (view_of x) e ≡ Some (function_of k g)) where
  abbrev Way : Type 0
  Way = After others w x ⊎ ((node : Node) × (f : Denoted) × (w.word e.index ≡ None) × (e.index < w.limit) × (node.var ≡ upper) × After others (with_node w e.index node f) x)

  there : x.function e.index ≡ Some (function_of k (turned k e.complement g))
  there = at_slot k e.complement (x.function e.index) g denotes

  stored_extends : IsSound w → (node : Node) (f : Denoted) → w.word e.index ≡ None → e.index < w.limit → node.var ≡ upper → After others (with_node w e.index node f) x → Extends others upper lower w x 1
  stored_extends sound node f none lt var a = record {
    orders = a.orders;
    limit = a.limit;
    generation = a.generation;
    marked = a.marked;
    pinned = a.pinned;
    sweeping = a.sweeping;
    half = a.half;
    counts = a.counts;
    sound = a.sound;
    word = λ s word h. word_at s ∙ put_at-other w.word e.index s (Some (Inner node)) (elsewhere s word h) ∙ h;
    function = λ s h is. let u = sound.used s h is in ap (λ (y : ℕ → Option Denoted). y s) a.function ∙ put_at-other w.function e.index s (Some f) (elsewhere s u.0 u.1) ∙ is;
    fresh = λ s other h. elim (cases_eq s e.index) [
      | inl same ↦ inr (
        ap w.word same ∙ none,
        ap (λ (n : Node). n.var) (sym (some_inner node other (sym (put_at-same w.word e.index (Some (Inner node))) ∙ ap (put_at w.word e.index (Some (Inner node))) (sym same) ∙ sym (word_at s) ∙ h))) ∙ var,
        (λ j h is. lacks_same j k h (turned k e.complement g) lower (some_same (x.function s) (function_of j h) (function_of k (turned k e.complement g)) is (ap x.function same ∙ there)) (Lacks-turned k e.complement g lower lacks)),
      )
      | inr ne ↦ inl (sym (put_at-other w.word e.index s (Some (Inner node)) ne) ∙ sym (word_at s) ∙ h)
    ];
    few = (let u = used_more in omega (arith, u));
  }
    where
      word_at : (s : ℕ) → x.word s ≡ put_at w.word e.index (Some (Inner node)) s
      word_at s = ap (λ (y : ℕ → Option Word). y s) a.word

      elsewhere : (s : ℕ) (word : Word) → w.word s ≡ Some word → s ≢ e.index
      elsewhere s word h same = no_word (w.word e.index) word none (ap w.word (sym same) ∙ h)

      used_more : used_slots x ≡ suc (used_slots w)
      used_more = used_same others (with_node w e.index node f) x a order ∙ count_put is_used w.word e.index (Inner node) 0 w.limit (omega arith) (omega (arith, lt)) (ap is_used none) refl

  pub added_extends : IsSound w → Way → Extends others upper lower w x 1
  added_extends sound (inl a) = let h = extends_after others upper lower w x order a in record {
    orders = h.orders;
    limit = h.limit;
    generation = h.generation;
    marked = h.marked;
    pinned = h.pinned;
    sweeping = h.sweeping;
    half = h.half;
    counts = h.counts;
    sound = h.sound;
    word = h.word;
    function = h.function;
    fresh = h.fresh;
    few = (let f = h.few in omega (arith, f));
  }
  added_extends sound (inr (node, f, none, lt, var, a)) = stored_extends sound node f none lt var a
