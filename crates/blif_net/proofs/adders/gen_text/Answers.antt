use Rattle.std.proofs.Common.{◌≡◌, ◌*◌, ℕ, List, arith, length, string_bytes, subst, sym}
use Rattle.std.proofs.lemmas.Grind.{common_steps}
use Rattle.cover_nets.specs.declared.net.Net.{Net}
use Rattle.blif_net.specs.Networks.{IsBlifText}
use Rattle.blif_net.specs.GenTexts.{bit_covers, gen_text}
use Rattle.blif_net.proofs.AdderNames.{generated_net}
use Rattle.blif_net.proofs.AdderTexts.{one_more_number}
use Rattle.blif_net.proofs.adders.gen_text.Goals as goal

pub loop-bit-preserved : goal.loop-bit-preserved
loop-bit-preserved c =
    one_more_number bit_covers c.loop-bit.bit (string_bytes c.write.new.self) (string_bytes c.loop-bit.text) (string_bytes c.put_covers.new.text) c.loop-bit.invariant c.in_ok-put_covers.ensures

pub returns-clause-network : goal.returns-clause-network
unfolding gen_text
returns-clause-network c few =
    let text : c.into_bytes.result.items ≡ gen_text c.args.bits = grind (arith, common_steps) in
    subst (λ (t : List ℕ). (net : Net) × IsBlifText t net × (length net.inputs ≡ 2 * c.args.bits)) (sym text) (generated_net c.args.bits few)
