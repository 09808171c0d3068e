-- The signals of a network of multiplexers, line by line: which names have come, and which have not.
use Rattle.std.proofs.Common.{◌≡◌, ℕ, ◌+◌, ◌<◌, ◌≤◌, ◌^◌, true, false, List, [], ◌∷◌, ◌++◌, length, map, Some, None, inl, inr, refl, ap, sym, ◌∙◌, subst, arith}
use Rattle.std.specs.Prelude.{◌⊎◌}
use Rattle.std.specs.Str.{bytes_eq}
use Rattle.std.proofs.lemmas.Bool.{cases_eq, false_from_ne_true, or_from, or_left, or_right}
use Rattle.std.proofs.lemmas.List.Folds.{list_any-append}
use Rattle.std.proofs.lemmas.Option.{same_Some}
use Rattle.std.proofs.lemmas.Slice.Eq.{bytes_eq-Decides}
use Rattle.job_words.specs.Text.{Word, is_among}
use Rattle.blif_dump.specs.Names.{called, naming_of, node_name, place_in, prefix_for}
use Rattle.blif_net.proofs.NamesApart.{Kind, among_map, kind_of, map_among, no_node, nodes_apart, one_name, same_place, stands, stands_at}
use Rattle.blif_wholes.proofs.Alone.{among_got}
use Rattle.blif_wholes.proofs.Words.{among_front}

-- among words and one more
pub own_true : (xs : List Word) (y z : Word) → z ≡ y → is_among (xs ++ y ∷ []) z ≡ true
own_true xs y z e = list_any-append (bytes_eq z) xs (y ∷ []) ∙ or_right (is_among xs z) (is_among (y ∷ []) z) (or_left (bytes_eq z y) false ((bytes_eq-Decides z y).1 e))

pub more_false : (xs : List Word) (y z : Word) → is_among xs z ≡ false → (z ≡ y → ⊥) → is_among (xs ++ y ∷ []) z ≡ false
more_false xs y z h apart =
    list_any-append (bytes_eq z) xs (y ∷ [])
    ∙ or_from (is_among xs z) (is_among (y ∷ []) z) h (or_from (bytes_eq z y) false (false_from_ne_true (bytes_eq z y) (λ t. apart ((bytes_eq-Decides z y).0 t))) refl)

abbrev pub node_of : List Word → List Word → ℕ → Word
node_of inputs outputs index = node_name (prefix_for (inputs ++ outputs)) index

abbrev pub word_of : List Word → List Word → Word → Word
word_of inputs outputs name = called (naming_of inputs outputs) name

-- Inputs, nodes below `next` and outputs that stand first below `place` have come, and the others have not.
pub record Known (inputs outputs signals : List Word) (next place : ℕ) : Type 0 where
  pub inputs_in : (name : Word) → is_among inputs name ≡ true → is_among signals (word_of inputs outputs name) ≡ true
  pub nodes_in : (index : ℕ) → 1 ≤ index → index < next → is_among signals (node_of inputs outputs index) ≡ true
  pub nodes_fresh : (index : ℕ) → next ≤ index → index < 2 ^ 64 → is_among signals (node_of inputs outputs index) ≡ false
  pub outputs_in : (name : Word) (p : ℕ) → place_in inputs name ≡ None → place_in outputs name ≡ Some p → p < place → is_among signals (word_of inputs outputs name) ≡ true
  pub outputs_fresh : (name : Word) (p : ℕ) → place_in inputs name ≡ None → place_in outputs name ≡ Some p → place ≤ p → is_among signals (word_of inputs outputs name) ≡ false

pub input_among : (inputs outputs : List Word) (name : Word) → is_among inputs name ≡ true → is_among (inputs ++ outputs) name ≡ true
input_among inputs outputs name h = among_front inputs outputs name h

pub output_among : (inputs outputs : List Word) (name : Word) → is_among outputs name ≡ true → is_among (inputs ++ outputs) name ≡ true
output_among inputs outputs name h = list_any-append (bytes_eq name) inputs outputs ∙ or_right (is_among inputs name) (is_among outputs name) h

pub among_placed : (names : List Word) (name : Word) (place : ℕ) → place_in names name ≡ Some place → is_among names name ≡ true
among_placed names name place e = among_got names place name (stands_at names name place e)

at_most : (j n : ℕ) → j < n + 1 → (j < n) ⊎ (j ≡ n)
at_most j n h = by_kind (cases_eq j n)
  where
    by_kind : (j ≡ n) ⊎ (j ≡ n → ⊥) → (j < n) ⊎ (j ≡ n)
    by_kind (inl e) = inr e
    by_kind (inr apart) = inl (omega (arith, h, apart))

module _ (inputs outputs : List Word) (few_inputs : length inputs < 2 ^ 64) (few_outputs : length outputs < 2 ^ 64) where
  -- a name is no node's, and no other name's
  pub name_no_node : (name : Word) (index : ℕ) → is_among (inputs ++ outputs) name ≡ true → index < 2 ^ 64 → word_of inputs outputs name ≡ node_of inputs outputs index → ⊥
  name_no_node name index h small e = no_node inputs outputs few_inputs few_outputs name (word_of inputs outputs name) index (kind_of inputs outputs name h) h small e

  pub same_name : (name other : Word) → is_among (inputs ++ outputs) name ≡ true → is_among (inputs ++ outputs) other ≡ true → word_of inputs outputs name ≡ word_of inputs outputs other → name ≡ other
  same_name name other h k e =
      one_name inputs outputs few_inputs few_outputs name other (word_of inputs outputs other)
      (subst (λ (t : Word). Kind inputs outputs name t) e (kind_of inputs outputs name h)) (kind_of inputs outputs other k) h k

  -- what has come before the first line
  pub known_at_start : Known inputs outputs (map (word_of inputs outputs) inputs) 1 0
  known_at_start = record {
    inputs_in = λ name h. map_among (word_of inputs outputs) inputs name h;
    nodes_in = λ index low high. absurd (omega (arith, low, high));
    nodes_fresh = λ index low small. false_from_ne_true (is_among (map (word_of inputs outputs) inputs) (node_of inputs outputs index))
        (λ t. let found = among_map (word_of inputs outputs) inputs (node_of inputs outputs index) t in
        name_no_node found.0 index (input_among inputs outputs found.0 found.1) small (sym found.2));
    outputs_in = λ name p none at below. absurd (omega (arith, below));
    outputs_fresh = λ name p none at low. false_from_ne_true (is_among (map (word_of inputs outputs) inputs) (word_of inputs outputs name))
        (λ t. let found = among_map (word_of inputs outputs) inputs (word_of inputs outputs name) t in
        let same : name ≡ found.0 = same_name name found.0 (output_among inputs outputs name (among_placed outputs name p at)) (input_among inputs outputs found.0 found.1) found.2 in
        let place = stands inputs 0 found.0 found.1 in
        let wrong : Some place.0 ≡ None = sym place.1 ∙ ap (place_in inputs) (sym same) ∙ none in cc);
  }

  -- one more node
  pub known_node : (signals : List Word) (next place : ℕ) → next < 2 ^ 64 → Known inputs outputs signals next place → Known inputs outputs (signals ++ node_of inputs outputs next ∷ []) (next + 1) place
  known_node signals next place small known = record {
    inputs_in = λ name h. among_front signals (node_of inputs outputs next ∷ []) (word_of inputs outputs name) (known.inputs_in name h);
    nodes_in = λ index low high. by_kind index low (at_most index next high);
    nodes_fresh = λ index low fits. more_false signals (node_of inputs outputs next) (node_of inputs outputs index) (known.nodes_fresh index (omega (arith, low)) fits)
        (λ e. let same : index ≡ next = nodes_apart (prefix_for (inputs ++ outputs)) index next fits small e in omega (arith, same, low));
    outputs_in = λ name p none at below. among_front signals (node_of inputs outputs next ∷ []) (word_of inputs outputs name) (known.outputs_in name p none at below);
    outputs_fresh = λ name p none at low. more_false signals (node_of inputs outputs next) (word_of inputs outputs name) (known.outputs_fresh name p none at low)
        (λ e. name_no_node name next (output_among inputs outputs name (among_placed outputs name p at)) small e);
  }
    where
      by_kind : (index : ℕ) → 1 ≤ index → (index < next) ⊎ (index ≡ next) → is_among (signals ++ node_of inputs outputs next ∷ []) (node_of inputs outputs index) ≡ true
      by_kind index low (inl below) = among_front signals (node_of inputs outputs next ∷ []) (node_of inputs outputs index) (known.nodes_in index low below)
      by_kind index low (inr same) = own_true signals (node_of inputs outputs next) (node_of inputs outputs index) (ap (node_of inputs outputs) same)

  -- an output at its first place
  pub known_output : (signals : List Word) (next place : ℕ) (name : Word) → place_in inputs name ≡ None → place_in outputs name ≡ Some place → Known inputs outputs signals next place
      → Known inputs outputs (signals ++ word_of inputs outputs name ∷ []) next (place + 1)
  known_output signals next place name none at known = record {
    inputs_in = λ other h. among_front signals (word_of inputs outputs name ∷ []) (word_of inputs outputs other) (known.inputs_in other h);
    nodes_in = λ index low high. among_front signals (word_of inputs outputs name ∷ []) (node_of inputs outputs index) (known.nodes_in index low high);
    nodes_fresh = λ index low fits. more_false signals (word_of inputs outputs name) (node_of inputs outputs index) (known.nodes_fresh index low fits) (λ e. name_no_node name index named fits (sym e));
    outputs_in = λ other p no_input there below. by_kind other p no_input there (at_most p place below);
    outputs_fresh = λ other p no_input there low. more_false signals (word_of inputs outputs name) (word_of inputs outputs other) (known.outputs_fresh other p no_input there (omega (arith, low)))
        (λ e. let same : other ≡ name = same_name other name (output_among inputs outputs other (among_placed outputs other p there)) named e in
        let one : p ≡ place = same_Some p place (sym there ∙ ap (place_in outputs) same ∙ at) in omega (arith, one, low));
  }
    where
      named : is_among (inputs ++ outputs) name ≡ true
      named = output_among inputs outputs name (among_placed outputs name place at)

      by_kind : (other : Word) (p : ℕ) → place_in inputs other ≡ None → place_in outputs other ≡ Some p → (p < place) ⊎ (p ≡ place)
          → is_among (signals ++ word_of inputs outputs name ∷ []) (word_of inputs outputs other) ≡ true
      by_kind other p no_input there (inl below) = among_front signals (word_of inputs outputs name ∷ []) (word_of inputs outputs other) (known.outputs_in other p no_input there below)
      by_kind other p no_input there (inr same) =
          own_true signals (word_of inputs outputs name) (word_of inputs outputs other)
          (ap (word_of inputs outputs) (same_place outputs other name place (there ∙ ap (λ t. Some t) same) at))

  -- a place at which no output is defined
  pub known_onward : (signals : List Word) (next place : ℕ) → ((name : Word) → place_in inputs name ≡ None → place_in outputs name ≡ Some place → ⊥) → Known inputs outputs signals next place
      → Known inputs outputs signals next (place + 1)
  known_onward signals next place nothing known = record {
    inputs_in = known.inputs_in;
    nodes_in = known.nodes_in;
    nodes_fresh = known.nodes_fresh;
    outputs_in = λ name p none at below. by_kind name p none at (at_most p place below);
    outputs_fresh = λ name p none at low. known.outputs_fresh name p none at (omega (arith, low));
  }
    where
      by_kind : (name : Word) (p : ℕ) → place_in inputs name ≡ None → place_in outputs name ≡ Some p → (p < place) ⊎ (p ≡ place) → is_among signals (word_of inputs outputs name) ≡ true
      by_kind name p none at (inl below) = known.outputs_in name p none at below
      by_kind name p none at (inr same) = absurd (nothing name none (at ∙ ap (λ t. Some t) same))
