-- A worked text, computed.
use Rattle.std.proofs.Common.{◌≡◌, codes, refl}
use Rattle.std.specs.Fmt.{digits}
use Rattle.blif_net.specs.GenTexts.{carry_cover, complement_cover, gen_text, sum_cover, zeros_cover}

gen_one : gen_text 1 ≡ codes ".model gen\n.inputs a0 b0\n.outputs s0 d0 n0 c1\n.names c0\n.names a0 b0 c0 s0\n001 1\n010 1\n100 1\n111 1\n.names a0 b0 c0 d0\n000 0\n011 0\n101 0\n110 0\n.names s0 n0\n0 1\n.names a0 b0 c0 c1\n11- 1\n1-1 1\n-11 1\n.end\n"
unfolding gen_text sum_cover zeros_cover complement_cover carry_cover digits
gen_one = refl
