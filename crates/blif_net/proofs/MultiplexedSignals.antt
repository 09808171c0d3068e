-- The circuit of a dump can be written: its names are plain and differ, and each cover reads inputs and covers before it.
use Rattle.std.proofs.Common.{◌≡◌, ◌≢◌, ℕ, suc, ◌+◌, ◌<◌, ◌≤◌, ◌^◌, ◌||◌, Bool, true, false, List, [], ◌∷◌, ◌++◌, ℤ, pos, negsuc, codes, length, map, nat_abs, Option, Some, None, refl, ap, sym, ◌∙◌, subst, arith, append_assoc, append-nil, length-append}
use Rattle.std.specs.Prelude.{slice_get}
use Rattle.std.specs.List.{AllPairs, list_all}
use Rattle.std.specs.Str.{bytes_eq}
use Rattle.std.proofs.lemmas.Bool.{and_from, and_parts, both_ways, cond-false, eq-eqb, eqb-true, false_from_ne_true, or_right}
use Rattle.std.proofs.lemmas.List.{length-map, map-append}
use Rattle.std.proofs.lemmas.Option.{get_or_from_slice_get, slice_get-get_or, slice_get_within}
use Rattle.std.proofs.lemmas.Slice.Eq.{bytes_eq-Decides}
use Rattle.edge_bits.specs.declared.edges.Line.{Line}
use Rattle.edge_bits.specs.declared.limits.TheConstants.{MOST_SIGNALS}
use Rattle.job_words.specs.Text.{Word, is_among}
use Rattle.diagram_dumps.specs.declared.dump.Dump.{Dump}
use Rattle.diagram_dumps.specs.WellMade.{IsWritable}
use Rattle.diagram_dumps.proofs.Walks.{AreLines, are_earlier, are_lines}
use Rattle.blif_models.specs.Circuits.{Cover, defined_in, is_signal, some_again}
use Rattle.blif_net.specs.CoverTexts.{is_literal}
use Rattle.blif_net.specs.Dumped.{AreNames, is_name}
use Rattle.blif_dump.specs.Multiplexers.{is_due, literal_for, name_at}
use Rattle.blif_dump.specs.Names.{called, naming_of, place_in, prefix_for}
use Rattle.blif_wholes.proofs.Alone.{among_got, get_front}
use Rattle.blif_net.proofs.KnownSignals.{Known, among_placed, input_among, known_at_start, known_node, known_onward, known_output, node_of, output_among, same_name, word_of}
use Rattle.blif_net.proofs.MultiplexedLines.{circuit_for, constant_cover, cover_at, cover_if, node_cover, node_covers, output_cover, output_covers}
use Rattle.blif_net.proofs.NamesApart.{among_map, kind_of, kind_plain, node_plain, stands, stands_at}
use Rattle.blif_dump.proofs.Variables.{variable_within}
use Rattle.blif_net.proofs.WrittenCircuits.{AreNextCovers, IsNextCover, IsWritable as IsWritableCircuit}
use Rattle.blif_net.proofs.Written.{is_plain_word}

-- covers behind covers
next_behind : (signals : List Word) (front back : List Cover) → AreNextCovers signals front → AreNextCovers (signals ++ defined_in front) back → AreNextCovers signals (front ++ back)
next_behind signals [] back h k = subst (λ (t : List Word). AreNextCovers t back) (append-nil signals) k
next_behind signals (cover ∷ front) back h k =
    (h.0, next_behind (signals ++ cover.name ∷ []) front back h.1 (subst (λ (t : List Word). AreNextCovers t back) (sym (append_assoc signals (cover.name ∷ []) (defined_in front))) k))

literal_is : (index : ℤ) → is_literal (literal_for index) ≡ true
literal_is (pos index) = refl
literal_is (negsuc below) = refl

-- the item behind others
pub behind_front : {X : Type 0} (front back : List X) (x : X) → slice_get (front ++ x ∷ back) (length front) ≡ Some x
behind_front [] back x = refl
behind_front (y ∷ front) back x = behind_front front back x

root_within : (front back : List ℤ) (root : ℤ) (after : ℕ) → AreLines (front ++ root ∷ back) after → (1 ≤ nat_abs root) × (nat_abs root < after)
root_within [] back root after h = (h.0, h.1)
root_within (other ∷ front) back root after h = root_within front back root after h.2

-- what is due at a place
due_parts : (input output : Option ℕ) (place : ℕ) → is_due input output place ≡ true → (input ≡ None) × (output ≡ Some place)
due_parts (Some first) output place h = absurd (both_ways false refl h)
due_parts None None place h = absurd (both_ways false refl h)
due_parts None (Some first) place h = (refl, ap (λ t. Some t) (eqb-true first place h))

pub due_there : (place : ℕ) → is_due None (Some place) place ≡ true
due_there place = eq-eqb place place refl

pub name_there : (names : List Word) (name : Word) (place : ℕ) → place_in names name ≡ Some place → name_at names place ≡ name
name_there names name place e = get_or_from_slice_get names place name [] (stands_at names name place e)

-- of names that are all of a kind
all_written : (p : Word → Bool) (w : Word → Word) (names : List Word) → ((name : Word) → is_among names name ≡ true → p (w name) ≡ true) → list_all p (map w names) ≡ true
all_written p w [] h = refl
all_written p w (name ∷ names) h =
    and_from (p (w name)) (list_all p (map w names)) (h name (own name names)) (all_written p w names (λ other among. h other (later name names other among)))
  where
    own : (name : Word) (names : List Word) → is_among (name ∷ names) name ≡ true
    own name names = ap (λ b. b || is_among names name) ((bytes_eq-Decides name name).1 refl)

    later : (name : Word) (names : List Word) (other : Word) → is_among names other ≡ true → is_among (name ∷ names) other ≡ true
    later name names other h = or_right (bytes_eq other name) (is_among names other) h

named_in : (names : List Word) (name : Word) → list_all is_name names ≡ true → is_among names name ≡ true → is_name name ≡ true
named_in [] name h among = absurd (both_ways false refl among)
named_in (x ∷ names) name h among = by_cases (bytes_eq name x) refl (λ all e. named_in names name all e)
  where
    own : (is_name x ≡ true) × (list_all is_name names ≡ true)
    own = and_parts (is_name x) (list_all is_name names) h

    by_cases : (b : Bool) → bytes_eq name x ≡ b → (list_all is_name names ≡ true → is_among names name ≡ true → is_name name ≡ true) → is_name name ≡ true
    by_cases true e later = subst (λ (t : Word). is_name t ≡ true) (sym ((bytes_eq-Decides name x).0 e)) own.0
    by_cases false e later = later own.1 (sym (ap (λ b. b || is_among names name) e) ∙ among)

-- how many covers there are
node_count : (inputs outputs : List Word) (index : ℕ) (lines : List Line) → length (node_covers (naming_of inputs outputs) inputs index lines) ≡ length lines
node_count inputs outputs index [] = refl
node_count inputs outputs index (line ∷ lines) = ap suc (node_count inputs outputs (index + 1) lines)

one_at_most : (due : Bool) (cover : Cover) → length (cover_if due cover) ≤ 1
one_at_most true cover = omega arith
one_at_most false cover = omega arith

output_count : (inputs outputs : List Word) (place : ℕ) (roots : List ℤ) → length (output_covers (naming_of inputs outputs) outputs place roots) ≤ length roots
output_count inputs outputs place [] = omega arith
output_count inputs outputs place (root ∷ roots) =
    let naming = naming_of inputs outputs in
    let name = name_at outputs place in
    let here = cover_at naming place name root in
    let one = one_at_most (is_due (place_in inputs name) (place_in outputs name) place) (output_cover naming.front (called naming name) root) in
    omega (arith, one, output_count inputs outputs (place + 1) roots, length-append here (output_covers naming outputs (place + 1) roots))

-- the inputs differ as they are written
inputs_apart : (inputs outputs front back : List Word) → length inputs < 2 ^ 64 → length outputs < 2 ^ 64 → AllPairs (λ name other. name ≢ other) inputs → inputs ≡ front ++ back
    → some_again (map (word_of inputs outputs) front) (map (word_of inputs outputs) back) ≡ false
inputs_apart inputs outputs front [] few few' once all = refl
inputs_apart inputs outputs front (name ∷ back) few few' once all =
    let w = word_of inputs outputs in
    let at : slice_get inputs (length front) ≡ Some name = ap (λ (t : List Word). slice_get t (length front)) all ∙ behind_front front back name in
    let own : is_among inputs name ≡ true = among_got inputs (length front) name at in
    let fresh : is_among (map w front) (w name) ≡ false = false_from_ne_true (is_among (map w front) (w name)) (λ t.
    let found = among_map w front (w name) t in
    let place = stands front 0 found.0 found.1 in
    let there : slice_get front place.0 ≡ Some found.0 = stands_at front found.0 place.0 place.1 in
    let low : place.0 < length front = slice_get_within front place.0 found.0 there in
    let here : slice_get inputs place.0 ≡ Some found.0 = ap (λ (t : List Word). slice_get t place.0) all ∙ get_front front (name ∷ back) place.0 found.0 there in
    let same : name ≡ found.0 = same_name inputs outputs few few' name found.0 (input_among inputs outputs name own) (input_among inputs outputs found.0 (among_got inputs place.0 found.0 here)) found.2 in
    once place.0 (length front) [] low (slice_get_within inputs (length front) name at)
    (get_or_from_slice_get inputs place.0 found.0 [] here ∙ sym same ∙ sym (get_or_from_slice_get inputs (length front) name [] at))) in
    cond-false (is_among (map w front) (w name)) true (some_again (map w front ++ w name ∷ []) (map w back)) fresh
    ∙ ap (λ (t : List Word). some_again t (map w back)) (sym (map-append w front (name ∷ [])))
    ∙ inputs_apart inputs outputs (front ++ name ∷ []) back few few' once (all ∙ sym (append_assoc front (name ∷ []) back))

module _ (dump : Dump) (inputs outputs : List Word) (writable : IsWritable dump) (named : AreNames dump inputs outputs) (few : length inputs + (length dump.nodes + 1) + length outputs ≤ MOST_SIGNALS) where
  pub few_inputs : length inputs < 2 ^ 64
  few_inputs = omega (arith, few)

  pub few_outputs : length outputs < 2 ^ 64
  few_outputs = omega (arith, few)

  small_index : (index : ℕ) → index < 2 + length dump.nodes → index < 2 ^ 64
  small_index index low = omega (arith, few, low)

  name_is : (name : Word) → is_among (inputs ++ outputs) name ≡ true → is_plain_word (word_of inputs outputs name) ≡ true
  name_is name h = kind_plain inputs outputs few_inputs few_outputs name (word_of inputs outputs name) (kind_of inputs outputs name h) (named_in (inputs ++ outputs) name named.names h)

  input_at : (v : ℕ) → v < dump.nvars → slice_get inputs v ≡ Some (name_at inputs v)
  input_at v low = slice_get-get_or inputs v [] (omega (arith, low, named.as_many_inputs))

  -- the constant
  constant_next : IsNextCover (map (word_of inputs outputs) inputs) (constant_cover (prefix_for (inputs ++ outputs)))
  constant_next = record {
    reads = refl;
    fresh = (known_at_start inputs outputs few_inputs few_outputs).nodes_fresh 1 (omega arith) (small_index 1 (omega arith));
    ins_plain = refl;
    name_plain = node_plain (inputs ++ outputs) 1 (small_index 1 (omega arith));
    output = true;
    rows = (record { many = refl; literals = refl; output_is = refl }, tt);
  }

  -- a node line
  node_next : (signals : List Word) (index place : ℕ) (line : Line) → slice_get dump.nodes place ≡ Some line → index ≡ place + 2 → Known inputs outputs signals index 0
      → IsNextCover signals (node_cover (prefix_for (inputs ++ outputs)) (word_of inputs outputs (name_at inputs line.var)) index line)
  node_next signals index place line at e known =
      let within = slice_get_within dump.nodes place line at in
      let earlier = are_earlier dump writable.well_made place line at within in
      let var = name_at inputs line.var in
      let var_in : is_among inputs var ≡ true = among_got inputs line.var var (input_at line.var (variable_within dump writable place line at)) in
      let hi = node_of inputs outputs line.hi in
      let lo = node_of inputs outputs (nat_abs line.lo) in
      let hi_in = known.nodes_in line.hi earlier.0 (omega (arith, e, earlier.1)) in
      let lo_in = known.nodes_in (nat_abs line.lo) earlier.2 (omega (arith, e, earlier.3)) in
      record {
        reads = and_from (is_among signals (word_of inputs outputs var)) (list_all (is_among signals) (hi ∷ lo ∷ [])) (known.inputs_in var var_in)
            (and_from (is_among signals hi) (list_all (is_among signals) (lo ∷ [])) hi_in (and_from (is_among signals lo) true lo_in refl));
        fresh = known.nodes_fresh index (omega arith) (small_index index (omega (arith, e, within)));
        ins_plain = and_from (is_plain_word (word_of inputs outputs var)) (list_all is_plain_word (hi ∷ lo ∷ [])) (name_is var (input_among inputs outputs var var_in))
            (and_from (is_plain_word hi) (list_all is_plain_word (lo ∷ [])) (node_plain (inputs ++ outputs) line.hi (small_index line.hi (omega (arith, earlier.1, within))))
            (and_from (is_plain_word lo) true (node_plain (inputs ++ outputs) (nat_abs line.lo) (small_index (nat_abs line.lo) (omega (arith, earlier.3, within)))) refl));
        name_plain = node_plain (inputs ++ outputs) index (small_index index (omega (arith, e, within)));
        output = true;
        rows = (
          record { many = refl; literals = refl; output_is = refl },
          (record { many = refl; literals = and_from (is_literal (literal_for line.lo)) true (literal_is line.lo) refl; output_is = refl }, tt),
        );
      }

  -- node lines, and what has come behind them
  nodes_next : (index : ℕ) (front lines : List Line) (signals : List Word) → dump.nodes ≡ front ++ lines → index ≡ length front + 2 → Known inputs outputs signals index 0
      → AreNextCovers signals (node_covers (naming_of inputs outputs) inputs index lines)
      × Known inputs outputs (signals ++ defined_in (node_covers (naming_of inputs outputs) inputs index lines)) (2 + length dump.nodes) 0
  nodes_next index front [] signals all e known =
      let last : index ≡ 2 + length dump.nodes = omega (arith, e, ap length (all ∙ append-nil front)) in (
        tt,
        subst (λ (t : List Word). Known inputs outputs t (2 + length dump.nodes) 0) (sym (append-nil signals)) (subst (λ (n : ℕ). Known inputs outputs signals n 0) last known),
      )
  nodes_next index front (line ∷ lines) signals all e known =
      let at : slice_get dump.nodes (length front) ≡ Some line = ap (λ (t : List Line). slice_get t (length front)) all ∙ behind_front front lines line in
      let within = slice_get_within dump.nodes (length front) line at in
      let own = node_of inputs outputs index in
      let rest = nodes_next (index + 1) (front ++ line ∷ []) lines (signals ++ own ∷ []) (all ∙ sym (append_assoc front (line ∷ []) lines)) (omega (arith, e, length-append front (line ∷ [])))
      (known_node inputs outputs few_inputs few_outputs signals index 0 (small_index index (omega (arith, e, within))) known) in (
        (node_next signals index (length front) line at e known, rest.0),
        subst (λ (t : List Word). Known inputs outputs t (2 + length dump.nodes) 0) (append_assoc signals (own ∷ []) (defined_in (node_covers (naming_of inputs outputs) inputs (index + 1) lines))) rest.1,
      )

  -- an output at its first place
  output_next : (signals : List Word) (place : ℕ) (name : Word) (root : ℤ) → (1 ≤ nat_abs root) × (nat_abs root < 2 + length dump.nodes) → place_in inputs name ≡ None → place_in outputs name ≡ Some place
      → Known inputs outputs signals (2 + length dump.nodes) place → IsNextCover signals (output_cover (prefix_for (inputs ++ outputs)) (word_of inputs outputs name) root)
  output_next signals place name root within none at known =
      let node = node_of inputs outputs (nat_abs root) in
      record {
        reads = and_from (is_among signals node) true (known.nodes_in (nat_abs root) within.0 within.1) refl;
        fresh = known.outputs_fresh name place none at (omega arith);
        ins_plain = and_from (is_plain_word node) true (node_plain (inputs ++ outputs) (nat_abs root) (small_index (nat_abs root) within.1)) refl;
        name_plain = name_is name (output_among inputs outputs name (among_placed outputs name place at));
        output = true;
        rows = (record { many = refl; literals = and_from (is_literal (literal_for root)) true (literal_is root) refl; output_is = refl }, tt);
      }

  -- what covers leave, behind these signals
  record Leaves (signals : List Word) (covers : List Cover) (place : ℕ) : Type 0 where
    next : AreNextCovers signals covers
    known : Known inputs outputs (signals ++ defined_in covers) (2 + length dump.nodes) place

  outputs_next : (place : ℕ) (front roots : List ℤ) (signals : List Word) → dump.roots ≡ front ++ roots → place ≡ length front → Known inputs outputs signals (2 + length dump.nodes) place
      → Leaves signals (output_covers (naming_of inputs outputs) outputs place roots) (length dump.roots)
  outputs_next place front [] signals all e known =
      let last : place ≡ length dump.roots = omega (arith, e, ap length (all ∙ append-nil front)) in
      record {
        next = tt;
        known = subst (λ (t : List Word). Known inputs outputs t (2 + length dump.nodes) (length dump.roots)) (sym (append-nil signals)) (subst (λ (n : ℕ). Known inputs outputs signals (2 + length dump.nodes) n) last known);
      }
  outputs_next place front (root ∷ roots) signals all e known =
      by_due (is_due (place_in inputs (name_at outputs place)) (place_in outputs (name_at outputs place)) place) refl
      (λ more k. outputs_next (place + 1) (front ++ root ∷ []) roots more (all ∙ sym (append_assoc front (root ∷ []) roots)) (omega (arith, e, length-append front (root ∷ []))) k)
    where
      by_due : (b : Bool) → is_due (place_in inputs (name_at outputs place)) (place_in outputs (name_at outputs place)) place ≡ b
          → ((more : List Word) → Known inputs outputs more (2 + length dump.nodes) (place + 1) → Leaves more (output_covers (naming_of inputs outputs) outputs (place + 1) roots) (length dump.roots))
          → Leaves signals (cover_at (naming_of inputs outputs) place (name_at outputs place) root ++ output_covers (naming_of inputs outputs) outputs (place + 1) roots) (length dump.roots)
      by_due true due onward =
          let name = name_at outputs place in
          let parts = due_parts (place_in inputs name) (place_in outputs name) place due in
          let own = word_of inputs outputs name in
          let within = root_within front roots root (2 + length dump.nodes) (subst (λ (t : List ℤ). AreLines t (2 + length dump.nodes)) all (are_lines dump writable.well_made)) in
          let left = onward (signals ++ own ∷ []) (known_output inputs outputs few_inputs few_outputs signals (2 + length dump.nodes) place name parts.0 parts.1 known) in
          subst (λ (b : Bool). Leaves signals (cover_if b (output_cover (prefix_for (inputs ++ outputs)) own root) ++ output_covers (naming_of inputs outputs) outputs (place + 1) roots) (length dump.roots)) (sym due)
          (record {
            next = (output_next signals place name root within parts.0 parts.1 known, left.next);
            known = subst (λ (t : List Word). Known inputs outputs t (2 + length dump.nodes) (length dump.roots))
                (append_assoc signals (own ∷ []) (defined_in (output_covers (naming_of inputs outputs) outputs (place + 1) roots))) left.known;
          })
      by_due false due onward =
          let name = name_at outputs place in
          subst (λ (b : Bool). Leaves signals (cover_if b (output_cover (prefix_for (inputs ++ outputs)) (word_of inputs outputs name) root) ++ output_covers (naming_of inputs outputs) outputs (place + 1) roots) (length dump.roots)) (sym due)
          (onward signals (known_onward inputs outputs few_inputs few_outputs signals (2 + length dump.nodes) place
          (λ other none at.
          let same : other ≡ name = sym (name_there outputs other place at) in
          both_ways (is_due (place_in inputs name) (place_in outputs name) place) due
          (ap (λ o. is_due o (place_in outputs name) place) (ap (place_in inputs) (sym same) ∙ none) ∙ ap (λ o. is_due None o place) (ap (place_in outputs) (sym same) ∙ at) ∙ due_there place)) known))

  all_next : Leaves (map (word_of inputs outputs) inputs) (circuit_for (naming_of inputs outputs) dump inputs outputs).covers (length dump.roots)
  all_next =
      let ins = map (word_of inputs outputs) inputs in
      let one = node_of inputs outputs 1 in
      let nodes = node_covers (naming_of inputs outputs) inputs 2 dump.nodes in
      let outs = output_covers (naming_of inputs outputs) outputs 0 dump.roots in
      let start = known_node inputs outputs few_inputs few_outputs ins 1 0 (small_index 1 (omega arith)) (known_at_start inputs outputs few_inputs few_outputs) in
      let inner = nodes_next 2 [] dump.nodes (ins ++ one ∷ []) refl (omega arith) start in
      let last = outputs_next 0 [] dump.roots ((ins ++ one ∷ []) ++ defined_in nodes) refl refl inner.1 in
      let all : ((ins ++ one ∷ []) ++ defined_in nodes) ++ defined_in outs ≡ ins ++ one ∷ defined_in (nodes ++ outs) =
      append_assoc (ins ++ one ∷ []) (defined_in nodes) (defined_in outs) ∙ ap (λ (t : List Word). (ins ++ one ∷ []) ++ t) (sym (map-append (λ (cover : Cover). cover.name) nodes outs))
      ∙ append_assoc ins (one ∷ []) (defined_in (nodes ++ outs)) in
      record {
        next = (constant_next, next_behind (ins ++ one ∷ []) nodes outs inner.0 last.next);
        known = subst (λ (t : List Word). Known inputs outputs t (2 + length dump.nodes) (length dump.roots)) all last.known;
      }

  -- each output is a signal
  output_in : (name : Word) → is_among outputs name ≡ true → is_signal (circuit_for (naming_of inputs outputs) dump inputs outputs) (word_of inputs outputs name) ≡ true
  output_in name h = by_place (place_in inputs name) refl
    where
      by_place : (o : Option ℕ) → place_in inputs name ≡ o → is_signal (circuit_for (naming_of inputs outputs) dump inputs outputs) (word_of inputs outputs name) ≡ true
      by_place (Some place) e = all_next.known.inputs_in name (among_placed inputs name place e)
      by_place None e =
          let found = stands outputs 0 name h in
          all_next.known.outputs_in name found.0 e found.1 (omega (arith, slice_get_within outputs found.0 name (stands_at outputs name found.0 found.1), named.as_many_outputs))

  pub can_be_written : IsWritableCircuit (codes "dd") (circuit_for (naming_of inputs outputs) dump inputs outputs)
  can_be_written =
      let w = word_of inputs outputs in
      let nodes = node_covers (naming_of inputs outputs) inputs 2 dump.nodes in
      let outs = output_covers (naming_of inputs outputs) outputs 0 dump.roots in
      let ins_many = length-map inputs w in
      let outs_many = length-map outputs w in
      let covers_many = length-append nodes outs in
      let nodes_many = node_count inputs outputs 2 dump.nodes in
      let roots_many = output_count inputs outputs 0 dump.roots in
      record {
        name_plain = refl;
        inputs_plain = all_written is_plain_word w inputs (λ name h. name_is name (input_among inputs outputs name h));
        outputs_plain = all_written is_plain_word w outputs (λ name h. name_is name (output_among inputs outputs name h));
        apart = inputs_apart inputs outputs [] inputs few_inputs few_outputs named.once refl;
        next = all_next.next;
        named = all_written (is_signal (circuit_for (naming_of inputs outputs) dump inputs outputs)) w outputs output_in;
        few_inputs = omega (arith, ins_many, named.few, named.as_many_inputs);
        few_signals = omega (arith, ins_many, covers_many, nodes_many, roots_many, named.as_many_outputs, few);
        few_outputs = omega (arith, outs_many, few);
        some = omega (arith, outs_many, named.as_many_outputs, named.some);
      }
