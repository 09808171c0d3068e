-- Texts without a fault declare no more than a text may, and so their networks are bounded.
use Rattle.std.proofs.Common.{◌≡◌, ℕ, ◌+◌, List, ◌++◌, length, get_or, sym, ◌∙◌, ap, arith, length-append}
use Rattle.std.proofs.lemmas.Option.{slice_get_within, slice_get-get_or}
use Rattle.std.proofs.lemmas.List.{length-map}
use Rattle.std.proofs.lemmas.List.Sorted.{length_permutation}
use Rattle.cover_nets.specs.declared.net.Net.{Net}
use Rattle.cover_nets.specs.declared.net.Output.{Output}
use Rattle.cover_nets.specs.Bounds.{IsBounded}
use Rattle.blif_models.specs.Circuits.{Circuit, Cover, defined_in}
use Rattle.blif_text.specs.Text.{joined_lines}
use Rattle.blif_text.proofs.Marks.{words_are_plain}
use Rattle.blif_wholes.specs.Networks.{IsNetOf}
use Rattle.blif_net.specs.Circuits.{circuit_of}
use Rattle.blif_net.specs.Faults.{fault_of}
use Rattle.blif_net.specs.Networks.{IsBlifText}
use Rattle.blif_net.specs.Sound.{IsBuildable}
use Rattle.blif_net.proofs.OneNet.{length_gates, output_named}
use Rattle.blif_net.proofs.Ordered.{ordered_net}
use Rattle.blif_net.proofs.Sound.{buildable}

net_within : (circuit : Circuit) (net : Net) → IsNetOf circuit net → IsBuildable circuit → IsBounded net
net_within circuit net h b =
    let ins : length net.inputs ≡ length circuit.inputs = ap length h.inputs in
    let gates : length net.gates ≡ length h.arranged = length_gates circuit.inputs h.arranged net.gates h.gates in
    let arranged : length h.arranged ≡ length circuit.covers = length_permutation circuit.covers h.arranged h.each_once in
    let outs : length net.outputs ≡ length circuit.outputs = sym (length-map net.outputs (λ (output : Output). output.name)) ∙ ap length h.names in
    let signals : length (circuit.inputs ++ defined_in h.arranged) ≡ length circuit.inputs + length h.arranged =
    length-append circuit.inputs (defined_in h.arranged) ∙ ap (λ n. length circuit.inputs + n) (length-map h.arranged (λ (cover : Cover). cover.name)) in
    record {
      ordered = ordered_net circuit net h;
      inputs = omega (arith, ins, (b.within).inputs);
      signals = omega (arith, ins, gates, arranged, (b.within).signals);
      outputs = omega (arith, outs, b.outputs);
      some = omega (arith, outs, b.some);
      named = λ k d lt.
          let output = get_or net.outputs k d in
          let named = output_named (circuit.inputs ++ defined_in h.arranged) circuit.outputs net.outputs k output h.names h.signals (slice_get-get_or net.outputs k d lt) in
          omega (arith, slice_get_within (circuit.inputs ++ defined_in h.arranged) output.signal output.name named.0, signals, ins, gates);
    }

pub bounded : (text : List ℕ) (net : Net) → IsBlifText text net → IsBounded net
unfolding fault_of
bounded text net h = net_within (circuit_of (joined_lines text)) net h.net_of (buildable (joined_lines text) (words_are_plain text) h.faultless)
