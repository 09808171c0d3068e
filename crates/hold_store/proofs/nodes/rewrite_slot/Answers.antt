use Rattle.edge_bits.specs.declared.words.Word.TheVariants.{Inner}
use Rattle.hold_store.proofs.NodeSteps.{rewrite_can, rewrite_content, rewrite_loose, rewrite_named, rewrite_ready, spare_high, still_loose}
use Rattle.hold_store.proofs.nodes.rewrite_slot.Goals as goal

pub loosen-requires-clause-used : goal.loosen-requires-clause-used
loosen-requires-clause-used g c = (Inner c.requires.can.3.node, c.requires.can.3.was)

pub loosen-requires-clause-high : goal.loosen-requires-clause-high
loosen-requires-clause-high g c = spare_high (g.S.Holds.known c.args.seat.now).content c.args.slot c.requires.can.3.spare

pub rewrite_node-requires-clause-loose : goal.rewrite_node-requires-clause-loose
rewrite_node-requires-clause-loose g c = rewrite_loose (g.S.Holds.known c.args.seat.now) (g.S.Holds.known c.loosen.new.seat) c.args.slot c.args.bits c.requires.ready c.loosen.ensures.off c.requires.can

pub rewrite_node-requires-clause-can : goal.rewrite_node-requires-clause-can
rewrite_node-requires-clause-can g c = rewrite_can (g.S.Holds.known c.args.seat.now) (g.S.Holds.known c.loosen.new.seat) c.args.slot c.args.bits c.requires.ready c.loosen.ensures.off c.requires.can

pub put_on-requires-clause-loose : goal.put_on-requires-clause-loose
put_on-requires-clause-loose g c = still_loose (g.S.Holds.known c.args.seat.now) (g.S.Holds.known c.loosen.new.seat) c.args.slot c.args.bits c.requires.ready c.loosen.ensures.off c.requires.can (g.S.Holds.known c.rewrite_node.new.self) c.rewrite_node.ensures.rewritten

pub returns-clause-ready : goal.returns-clause-ready
returns-clause-ready g c = rewrite_ready (g.S.Holds.known c.args.seat.now) (g.S.Holds.known c.loosen.new.seat) c.args.slot c.args.bits c.requires.ready c.loosen.ensures.off c.requires.can (g.S.Holds.known c.rewrite_node.new.self) c.rewrite_node.ensures.rewritten (g.S.Holds.known c.put_on.new.seat) c.put_on.ensures.on

pub returns-clause-named : goal.returns-clause-named
returns-clause-named g c = rewrite_named (g.S.Holds.known c.args.seat.now) (g.S.Holds.known c.loosen.new.seat) c.args.slot c.args.bits c.requires.ready c.loosen.ensures.off c.requires.can (g.S.Holds.known c.rewrite_node.new.self) c.rewrite_node.ensures.rewritten (g.S.Holds.known c.put_on.new.seat) c.put_on.ensures.on

pub returns-clause-rewritten : goal.returns-clause-rewritten
returns-clause-rewritten g c = rewrite_content (g.S.Holds.known c.args.seat.now) (g.S.Holds.known c.loosen.new.seat) c.args.slot c.args.bits c.requires.ready c.loosen.ensures.off c.requires.can (g.S.Holds.known c.rewrite_node.new.self) c.rewrite_node.ensures.rewritten (g.S.Holds.known c.put_on.new.seat) c.put_on.ensures.on
