use Rattle.std.proofs.Common.{◌≡◌, ◌+◌, length, map, take}
use Rattle.net_reports.specs.RootClasses.{class_among}
use Rattle.net_reports.proofs.Firsts.{AreFirsts}
use Rattle.net_reports.proofs.classes.classes_of.Given as goal

abbrev pub invariant-loop-place : goal.invariant-loop-place
invariant-loop-place l = record {
  long : length l.firsts.items ≡ length l.listing.nodes + 2;
  firsts : AreFirsts l.listing.roots l.place l.firsts.items;
  classes : l.classes.items ≡ map (class_among l.listing.roots) (take l.place l.listing.roots);
}
