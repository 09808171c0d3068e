use Rattle.std.proofs.Common.{◌≡◌, true, map, take}
use Rattle.std.specs.List.{list_all}
use Rattle.blif_net.specs.CoverTexts.{is_literal}
use Rattle.blif_wholes.specs.Networks.{literal_of}
use Rattle.blif_net.proofs.covers.cube.Given as goal

abbrev pub invariant-loop-b : goal.invariant-loop-b
invariant-loop-b l = record {
  literals : l.literals.items ≡ map literal_of (take l.b-index l.word);
  due : list_all is_literal (take l.b-index l.word) ≡ true;
}
