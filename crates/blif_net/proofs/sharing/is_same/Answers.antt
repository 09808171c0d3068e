use Rattle.std.proofs.Common.{◌≡◌, List, ap, sym, ◌∙◌}
use Rattle.std.specs.Bool.{Decides}
use Rattle.std.proofs.lemmas.Slice.Eq.{slice_eq-Decides}
use Rattle.cover_nets.specs.declared.net.Cube.{Cube}
use Rattle.cover_nets.specs.declared.net.Literal.{Literal}
use Rattle.cover_nets.specs.contracts.net.Literal.{the_type}
use denote.Enum.Bare.{same_true, sameb, true_same}
use Rattle.blif_net.proofs.sharing.is_same.Goals as goal

literals_decide : (a b : Literal) → Decides (sameb the_type a b) (a ≡ b)
literals_decide a b = (same_true the_type tt a b, true_same the_type a b)

abbrev cube_of : List Literal → Cube
cube_of literals = record { literals = literals }

same_cube : (a b : Cube) → a.literals ≡ b.literals → a ≡ b
same_cube a b e = ap cube_of e

pub returns : goal.returns
returns c h = same_cube c.args.cube.now c.args.other.now (sym c.as_slice.ensures ∙ (slice_eq-Decides literals_decide _ _ _ c.eq.ensures).0 h ∙ c.as_slice-2.ensures)
