-- The names of a text's network are names for a listing of its outputs' functions.
use Rattle.std.proofs.Common.{◌≡◌, ◌≢◌, ℕ, zero, suc, ◌<◌, Bool, true, List, [], ◌∷◌, ◌++◌, ℤ, get_or, length, map, slice_get, Some, refl, sym, ap, ◌∙◌, subst, arith}
use Rattle.std.specs.List.{AllPairs, list_all, position_or_len}
use Rattle.std.specs.Str.{bytes_eq}
use Rattle.std.proofs.lemmas.List.{length-map}
use Rattle.std.proofs.lemmas.Option.{same_Some, slice_get-get_or, slice_get_within}
use Rattle.edge_bits.specs.Assignments.{bit}
use Rattle.diagram_dumps.specs.declared.listings.Listing.{Listing}
use Rattle.diagram_dumps.specs.Agreement.{AreSame, IsSame}
use Rattle.diagram_dumps.specs.Dumps.{root_value}
use Rattle.diagram_dumps.specs.Listings.{IsListing, dump_of}
use Rattle.cover_nets.specs.declared.net.Net.{Net}
use Rattle.cover_nets.specs.declared.net.Output.{Output}
use Rattle.cover_nets.specs.Bounds.{IsBounded}
use Rattle.cover_nets.specs.Networks.{signal_value}
use Rattle.blif_models.specs.Circuits.{Circuit, defined_in}
use Rattle.blif_text.specs.Text.{Word, joined_lines}
use Rattle.blif_text.proofs.Marks.{words_are_plain}
use Rattle.blif_wholes.specs.Defined.{Once}
use Rattle.blif_wholes.specs.Networks.{IsNetOf}
use Rattle.blif_wholes.proofs.Alone.{Alone, alone, place_once}
use Rattle.blif_net.specs.Circuits.{circuit_of}
use Rattle.blif_net.specs.Dumped.{AreNames, NetworksHaveNames, is_name}
use Rattle.blif_net.specs.Faults.{fault_of}
use Rattle.blif_net.proofs.Bounds.{bounded}
use Rattle.blif_net.proofs.ListedRoots.{one_root, one_variable}
use Rattle.blif_net.proofs.NamedWholes.{circuit_named}
use Rattle.blif_net.proofs.NetValues.{input_gives}
use Rattle.blif_net.proofs.OneNet.{output_named, outputs_alike}
use Rattle.blif_net.proofs.Sound.{buildable}

apart_from : (names : List Word) → Once names → AllPairs (λ name other. name ≢ other) names
apart_from names once i j d before lt = λ e.
    let first = place_once names i (get_or names i d) once (slice_get-get_or names i d (omega (arith, before, lt))) in
    let second = place_once names j (get_or names j d) once (slice_get-get_or names j d lt) in
    let same = ap (λ (z : Word). position_or_len (bytes_eq z) names) e in
    omega (arith, first, second, same, before)

-- the output of a name
output_of : (outputs : List Output) (i : ℕ) (name : Word) → slice_get (map (λ (output : Output). output.name) outputs) i ≡ Some name → (output : Output) × (slice_get outputs i ≡ Some output) × (output.name ≡ name)
output_of [] i name e = cc
output_of (output ∷ outputs) zero name e = (output, refl, same_Some output.name name e)
output_of (output ∷ outputs) (suc i) name e = output_of outputs i name e

-- functions one for one
module _ (n : ℕ) (value : ℤ → ℕ → Bool) (given : Output → ℕ → Bool) where
  as_many : (roots : List ℤ) (outputs : List Output) → AreSame n (map value roots) (map given outputs) → length outputs ≡ length roots
  as_many [] [] same = refl
  as_many [] (output ∷ outputs) same = absurd same
  as_many (root ∷ roots) [] same = absurd same
  as_many (root ∷ roots) (output ∷ outputs) same = ap suc (as_many roots outputs same.1)

  same_at : (roots : List ℤ) (outputs : List Output) (i : ℕ) (root : ℤ) (output : Output) → AreSame n (map value roots) (map given outputs) → slice_get roots i ≡ Some root → slice_get outputs i ≡ Some output → IsSame n (value root) (given output)
  same_at [] outputs i root output same at there = cc
  same_at (first ∷ roots) [] i root output same at there = absurd same
  same_at (first ∷ roots) (one ∷ outputs) zero root output same at there =
      subst (λ (t : ℤ). IsSame n (value t) (given output)) (same_Some first root at) (subst (λ (t : Output). IsSame n (value first) (given t)) (same_Some one output there) same.0)
  same_at (first ∷ roots) (one ∷ outputs) (suc i) root output same at there = same_at roots outputs i root output same.1 at there

-- Of a network of a circuit in which no two signals have one name, and a listing.
module _ (circuit : Circuit) (net : Net) (h : IsNetOf circuit net) (apart : Alone circuit.inputs (defined_in circuit.covers)) (order : List ℕ) (listing : Listing)
    (is : IsListing order (map (λ (output : Output). signal_value net output.signal) net.outputs) listing) where
  as_given : (i : ℕ) (root : ℤ) (output : Output) → slice_get listing.roots i ≡ Some root → slice_get net.outputs i ≡ Some output → IsSame (length order) (root_value (dump_of listing) root) (signal_value net output.signal)
  as_given i root output at there = same_at (length order) (root_value (dump_of listing)) (λ (one : Output). signal_value net one.signal) listing.roots net.outputs i root output is.roots at there

  -- outputs of one name have one root
  root_once : (i j : ℕ) (name : Word) (root other : ℤ) → slice_get (map (λ (output : Output). output.name) net.outputs) i ≡ Some name → slice_get (map (λ (output : Output). output.name) net.outputs) j ≡ Some name
      → slice_get listing.roots i ≡ Some root → slice_get listing.roots j ≡ Some other → root ≡ other
  root_once i j name root other named again at there =
      let first = output_of net.outputs i name named in
      let second = output_of net.outputs j name again in
      one_root (dump_of listing) (is.writable).well_made order is.under i root at j other there
      (λ k low. as_given i root first.0 at first.1 k low ∙ outputs_alike circuit net h apart i j k first.0 second.0 first.1 second.1 (first.2 ∙ sym second.2) ∙ sym (as_given j other second.0 there second.1 k low))

  -- an output whose name is an input's has the root of that variable
  root_of_input : (i v k : ℕ) (name : Word) (root : ℤ) → length order ≡ length net.inputs → slice_get (map (λ (output : Output). output.name) net.outputs) i ≡ Some name → slice_get listing.roots i ≡ Some root
      → slice_get net.inputs v ≡ Some name → root_value (dump_of listing) root k ≡ bit k v
  root_of_input i v k name root wide named at input =
      let found = output_of net.outputs i name named in
      let low : v < length order = omega (arith, wide, slice_get_within net.inputs v name input) in
      let signal = (output_named (circuit.inputs ++ defined_in h.arranged) circuit.outputs net.outputs i found.0 h.names h.signals found.1).0 in
      let own : slice_get circuit.inputs v ≡ Some name = ap (λ (names : List Word). slice_get names v) (sym h.inputs) ∙ input in
      one_variable (dump_of listing) (is.writable).well_made order is.under i root at v low
      (λ m below. as_given i root found.0 at found.1 m below ∙ input_gives circuit net h apart m v name own (found.0).signal (signal ∙ ap Some found.2)) k

net_names : (circuit : Circuit) (net : Net) (order : List ℕ) (listing : Listing) → IsNetOf circuit net → Alone circuit.inputs (defined_in circuit.covers) → list_all is_name (circuit.inputs ++ circuit.outputs) ≡ true → IsBounded net
    → length order ≡ length net.inputs → IsListing order (map (λ (output : Output). signal_value net output.signal) net.outputs) listing → AreNames (dump_of listing) net.inputs (map (λ (output : Output). output.name) net.outputs)
net_names circuit net order listing h apart names small wide is =
    let many = as_many (length order) (root_value (dump_of listing)) (λ (output : Output). signal_value net output.signal) listing.roots net.outputs is.roots in
    let own : length listing.order ≡ length order = ap length is.order_is in
    record {
      few = omega (arith, own, is.few_variables);
      as_many_inputs = omega (arith, own, wide);
      as_many_outputs = length-map net.outputs (λ (output : Output). output.name) ∙ many;
      some = omega (arith, many, small.some);
      names = (λ j. list_all is_name (h.inputs j ++ h.names j)) ∙ names;
      once = subst (AllPairs (λ name other. name ≢ other)) (sym h.inputs) (apart_from circuit.inputs apart.inputs);
      one_root = root_once circuit net h apart order listing is;
      projected = λ i v k name root named at input. root_of_input circuit net h apart order listing is i v k name root wide named at input;
    }

pub networks_have_names : NetworksHaveNames
unfolding fault_of
networks_have_names text net order listing h wide is =
    let lines = joined_lines text in
    net_names (circuit_of lines) net order listing h.net_of (alone (circuit_of lines) (buildable lines (words_are_plain text) h.faultless).sound) (circuit_named lines h.faultless) (bounded text net h) wide is
