-- What the words of a sound whole store denote is the map of functions that its holder knows, in the middle of a swap too.
use Rattle.std.proofs.Common.{◌≡◌, ℕ, zero, suc, ◌≤◌, true, length, Option, Some, None, refl, sym, ap, ◌∙◌, arith}
use Rattle.edge_bits.specs.declared.edges.Kind.{Kind}
use Rattle.edge_bits.specs.declared.edges.Kind.TheVariants.{Bdd, Add, Zdd}
use Rattle.edge_bits.specs.declared.words.Node.{Node}
use Rattle.edge_bits.specs.declared.words.Word.{Word}
use Rattle.edge_bits.specs.declared.words.Word.TheVariants.{Inner}
use Rattle.function_laws.specs.Values.{constant}
use Rattle.function_laws.specs.Families.{empty, base}
use Rattle.function_laws.specs.Kinds.{Denoted, BddFunction, AddFunction, ZddFamily, ValueOf, function_of}
use Rattle.function_laws.proofs.ValueLemmas.{everywhere}
use Rattle.node_store.specs.Views.{IsVariable, levels}
use Rattle.node_store.specs.Contents.{Content, IsSound, view_of}
use Rattle.node_slots.specs.Slots.{word_function, function_at_most}
use Rattle.node_slots.specs.Solutions.{IsSolution, IsSolved}
use Rattle.node_slots.proofs.Reading.{at_word}
use Rattle.node_slots.proofs.Bridge.{denoted-by}
use Rattle.node_slots.proofs.Solving.{all_of, in-all, length-all}

module _ (w : Content) (sound : IsSound w) where
  sound_solved : (s : ℕ) (node : Node) → 3 ≤ s → w.word s ≡ Some (Inner node) → IsSolved (λ k v. IsVariable k (view_of w) v) w.function s node
  sound_solved s node le word =
      let d = sound.denotes s (Inner node, word) in
      let n = sound.nodes s node d.0 word d.1 in
      record {
        kind = n.kind;
        high = n.high;
        low = n.low;
        in_range = n.in_range;
        high_is = n.high_is;
        low_is = n.low_is;
        high_lacks = n.high_lacks;
        low_lacks = n.low_lacks;
        proper = n.proper;
        is = λ f h. (let e : Some d.0 ≡ Some f = sym d.1 ∙ h in let same : d.0 ≡ f = cc in sym same ∙ n.is);
      }

  sound_solution : IsSolution (λ k v. IsVariable k (view_of w) v) w.word w.function
  sound_solution = record {
    logic_one = sound.logic_one;
    empty_family = sound.empty_family;
    base_family = sound.base_family;
    used = λ s f le h. sound.used s f h;
    leaves = λ s x f le word h. (let e : Some (AddFunction (constant x)) ≡ Some f = sym (sound.leaves s x le word).0 ∙ h in cc);
    nodes = sound_solved;
  }

  no_word : (s : ℕ) → w.function s ≡ None → w.word s ≡ None
  no_word s none = by_word (w.word s) refl
    where
      by_word : (o : Option Word) → w.word s ≡ o → o ≡ None
      by_word None is = refl
      by_word (Some word) is = absurd (let d = sound.denotes s (word, is) in let e : None ≡ Some d.0 = sym none ∙ d.1 in cc)

  none_denoted : (n s : ℕ) → w.function s ≡ None → function_at_most w.word (suc n) s ≡ None
  none_denoted n zero none = absurd (let e : None ≡ Some (BddFunction (constant true)) = sym none ∙ sound.logic_one in cc)
  none_denoted n (suc zero) none = absurd (let e : None ≡ Some (ZddFamily empty) = sym none ∙ sound.empty_family in cc)
  none_denoted n (suc (suc zero)) none = absurd (let e : None ≡ Some (ZddFamily base) = sym none ∙ sound.base_family in cc)
  none_denoted n (suc (suc (suc s))) none =
      at_word w.word n (suc (suc (suc s))) (omega arith) ∙ ap (word_function (function_at_most w.word n)) (no_word (suc (suc (suc s))) none)

  module _ (n : ℕ) (variables : length w.orders.variables ≤ n) (elements : length w.orders.elements ≤ n) where
    few_levels : (k : Kind) → levels k (view_of w) ≤ n
    few_levels Bdd = variables
    few_levels Add = variables
    few_levels Zdd = elements

    by_kind : (k : Kind) (s : ℕ) (f : ℕ → ValueOf k) → w.function s ≡ Some (function_of k f) → function_at_most w.word (suc n) s ≡ Some (function_of k f)
    by_kind k s f h =
        denoted-by (λ j v. IsVariable j (view_of w) v) w.word w.function sound_solution n (all_of k (view_of w)) (let l = length-all k (view_of w) in let few = few_levels k in omega (arith, l, few)) s k f h
        (λ u un none. absurd (none (in-all k (view_of w) u un)))

    at_slot : (s : ℕ) (o : Option Denoted) → w.function s ≡ o → function_at_most w.word (suc n) s ≡ o
    at_slot s None is = none_denoted n s is
    at_slot s (Some (BddFunction f)) is = by_kind Bdd s f is
    at_slot s (Some (AddFunction f)) is = by_kind Add s f is
    at_slot s (Some (ZddFamily f)) is = by_kind Zdd s f is

    -- read out of the words by paths of one word more than either order has levels
    pub words_denote : function_at_most w.word (suc n) ≡ w.function
    words_denote = everywhere (function_at_most w.word (suc n)) w.function (λ s. at_slot s (w.function s) refl)
