use Rattle.std.proofs.Common.{refl}
use Rattle.held_table.proofs.Openings.{none_linked}
use Rattle.held_table.proofs.opening.link_used.Goals as goal

pub loop-slot-init : goal.loop-slot-init
loop-slot-init c = record {
  heads = refl;
  nexts = refl;
  linked = none_linked c.args.heads.now.items c.args.nexts.now.items c.args.words.now.items c.requires.zero;
}
