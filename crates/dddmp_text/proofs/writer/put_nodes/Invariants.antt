use Rattle.std.proofs.Common.{◌≡◌, ◌++◌, take, string_bytes}
use Rattle.dddmp_text.specs.Written.{node_items}
use Rattle.dddmp_text.proofs.writer.put_nodes.Given as goal

abbrev pub invariant-loop-place : goal.invariant-loop-place
invariant-loop-place l = string_bytes l.text ≡ string_bytes l.initial.text ++ node_items l.dump (take l.place l.dump.nodes)
