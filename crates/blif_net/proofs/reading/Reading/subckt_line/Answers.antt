use Rattle.std.proofs.Common.{map}
use Rattle.blif_net.proofs.Taking.{subckt_taken}
use Rattle.blif_net.proofs.reading.Reading.subckt_line.Goals as goal

pub returns : goal.returns
returns c =
    subckt_taken c.args.self.now c.close.new.self c.add_instance.new.self c.push.new.self c.args.line (map (λ word. word.now) c.args.words.now) c.in_ok-close.ensures c.in_ok-add_instance.ensures.ok c.in_ok-add_instance.ensures.names c.in_ok-push.ensures.items
