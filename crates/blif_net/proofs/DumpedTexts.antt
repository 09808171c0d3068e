-- The text of a dump is that of its networks.
use Rattle.std.proofs.Common.{◌≡◌, ℕ, ◌+◌, ◌<◌, ◌≤◌, Bool, true, false, cond, List, [], ◌∷◌, ◌++◌, codes, length, map, Some, refl, ap, sym, ◌∙◌, subst, arith}
use Rattle.std.specs.Prelude.{option_map, slice_get}
use Rattle.std.specs.Str.{bytes_eq}
use Rattle.std.proofs.lemmas.Bool.{both_ways, false_from_ne_true, or_from}
use Rattle.std.proofs.lemmas.Option.{same_Some, slice_get-get_or, slice_get-map, slice_get_within}
use Rattle.std.proofs.lemmas.Slice.Eq.{bytes_eq-Decides}
use Rattle.edge_bits.specs.declared.limits.TheConstants.{MOST_SIGNALS}
use Rattle.job_words.specs.Text.{Word, is_among}
use Rattle.diagram_dumps.specs.declared.dump.Dump.{Dump}
use Rattle.diagram_dumps.specs.WellMade.{IsWritable}
use Rattle.blif_models.specs.Circuits.{Circuit, Cover, defined_in, some_again}
use Rattle.cover_nets.specs.declared.net.Net.{Net}
use Rattle.blif_text.specs.Text.{joined_lines}
use Rattle.blif_net.specs.Circuits.{circuit_of}
use Rattle.blif_net.specs.Faults.{fault_of}
use Rattle.blif_wholes.specs.Networks.{IsNetOf}
use Rattle.blif_wholes.proofs.Alone.{Alone}
use Rattle.blif_wholes.specs.Defined.{Once}
use Rattle.blif_net.proofs.OneNet.{output_named}
use Rattle.blif_wholes.proofs.Words.{among_front}
use Rattle.blif_net.specs.Dumped.{AreNames, IsDumped, IsNetOfDump}
use Rattle.blif_dump.specs.Multiplexers.{multiplexers, name_at}
use Rattle.blif_dump.specs.Names.{naming_of}
use Rattle.blif_net.proofs.DumpValues.{output_gives}
use Rattle.blif_net.proofs.KnownSignals.{own_true, word_of}
use Rattle.blif_net.proofs.MultiplexedLines.{circuit_for, text-circuit}
use Rattle.blif_net.proofs.MultiplexedSignals.{can_be_written}
use Rattle.blif_net.proofs.WrittenCircuits.{AreNextCovers, IsWritable as IsWritableCircuit, as_placed, placed}
use Rattle.blif_net.proofs.WrittenNets.{next_placed, text_reads}

-- a signal that has come is not defined later
later_fresh : (signals : List Word) (covers : List Cover) (z : Word) → AreNextCovers signals covers → is_among signals z ≡ true → is_among (defined_in covers) z ≡ false
later_fresh signals [] z h among = refl
later_fresh signals (cover ∷ covers) z h among =
    or_from (bytes_eq z cover.name) (is_among (defined_in covers) z)
    (false_from_ne_true (bytes_eq z cover.name) (λ t. both_ways (is_among signals cover.name) (h.0).fresh (subst (λ (w : Word). is_among signals w ≡ true) ((bytes_eq-Decides z cover.name).0 t) among)))
    (later_fresh (signals ++ cover.name ∷ []) covers z h.1 (among_front signals (cover.name ∷ []) z among))

covers_once : (signals : List Word) (covers : List Cover) → AreNextCovers signals covers → Once (defined_in covers)
covers_once signals [] h = tt
covers_once signals (cover ∷ covers) h =
    (later_fresh (signals ++ cover.name ∷ []) covers cover.name h.1 (own_true signals cover.name cover.name refl), covers_once (signals ++ cover.name ∷ []) covers h.1)

-- words of which none stands again
record Apart (before words : List Word) : Type 0 where
  once : Once words
  fresh : (z : Word) → is_among before z ≡ true → is_among words z ≡ false

words_apart : (before words : List Word) → some_again before words ≡ false → Apart before words
words_apart before [] h = record { once = tt; fresh = λ z among. refl }
words_apart before (word ∷ words) h = by_cases (is_among before word) refl (λ e. words_apart (before ++ word ∷ []) words e)
  where
    by_cases : (b : Bool) → is_among before word ≡ b → (some_again (before ++ word ∷ []) words ≡ false → Apart (before ++ word ∷ []) words) → Apart before (word ∷ words)
    by_cases true e rest = absurd (both_ways true (sym (ap (λ b. cond b true (some_again (before ++ word ∷ []) words)) e) ∙ h) refl)
    by_cases false e rest =
        let left = rest (sym (ap (λ b. cond b true (some_again (before ++ word ∷ []) words)) e) ∙ h) in
        record {
          once = (left.fresh word (own_true before word word refl), left.once);
          fresh = λ z among. or_from (bytes_eq z word) (is_among words z)
              (false_from_ne_true (bytes_eq z word) (λ t. both_ways (is_among before word) e (subst (λ (w : Word). is_among before w ≡ true) ((bytes_eq-Decides z word).0 t) among)))
              (left.fresh z (among_front before (word ∷ []) z among));
        }

-- no two signals of a circuit that can be written have one name
alone_written : (name : Word) (circuit : Circuit) → IsWritableCircuit name circuit → Alone circuit.inputs (defined_in (placed 4 circuit.covers))
alone_written name circuit h =
    let next = next_placed circuit.inputs 4 circuit.covers h.next in
    record {
      inputs = (words_apart [] circuit.inputs h.apart).once;
      covers = covers_once circuit.inputs (placed 4 circuit.covers) next;
      apart = λ z among. later_fresh circuit.inputs (placed 4 circuit.covers) z next among;
    }

-- the network of the text has the names and the functions of the dump
net_is : (dump : Dump) (inputs outputs : List Word) (net : Net) → IsWritable dump → AreNames dump inputs outputs → length inputs + (length dump.nodes + 1) + length outputs ≤ MOST_SIGNALS
    → IsNetOf (as_placed (circuit_for (naming_of inputs outputs) dump inputs outputs)) net → IsNetOfDump dump inputs outputs net
net_is dump inputs outputs net writable named few h = record {
  inputs_are = h.inputs;
  outputs_are = h.names;
  values = λ i k output root got there.
      let w = word_of inputs outputs in
      let circuit = circuit_for (naming_of inputs outputs) dump inputs outputs in
      let o = output_named (map w inputs ++ defined_in h.arranged) (map w outputs) net.outputs i output h.names h.signals got in
      let name = name_at outputs i in
      let within : i < length outputs = omega (arith, slice_get_within dump.roots i root there, named.as_many_outputs) in
      let at : slice_get outputs i ≡ Some name = slice_get-get_or outputs i [] within in
      let same : output.name ≡ w name = same_Some output.name (w name) (sym o.1 ∙ slice_get-map w outputs i ∙ ap (option_map w) at) in
      let alone = alone_written (codes "dd") circuit (can_be_written dump inputs outputs writable named few) in
      output_gives dump inputs outputs writable named net h alone k i name root at there output.signal (o.0 ∙ ap (λ (z : Word). Some z) same);
}

pub dumped : (dump : Dump) (inputs outputs : List Word) → IsWritable dump → AreNames dump inputs outputs → length inputs + (length dump.nodes + 1) + length outputs ≤ MOST_SIGNALS
    → IsDumped dump inputs outputs (multiplexers dump inputs outputs)
dumped dump inputs outputs writable named few =
    let circuit = circuit_for (naming_of inputs outputs) dump inputs outputs in
    let text = text-circuit dump inputs outputs in
    let reads = text_reads (codes "dd") circuit (can_be_written dump inputs outputs writable named few) in
    let declared : circuit_of (joined_lines (multiplexers dump inputs outputs)) ≡ as_placed circuit = ap (λ (t : List ℕ). circuit_of (joined_lines t)) text ∙ reads.1 in
    record {
      faultless = ap fault_of text ∙ reads.0;
      networks = λ net is. net_is dump inputs outputs net writable named few (subst (λ (c : Circuit). IsNetOf c net) declared is.net_of);
    }
