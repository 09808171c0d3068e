use Rattle.std.proofs.Common.{◌<◌, sym, ap, ◌∙◌, subst}
use Rattle.step_store.specs.Chains.{head_of}
use Rattle.hold_store.proofs.NodeSteps.{store_bits, store_content, store_free, store_heads, store_loose, store_named, store_new_turn, store_ready}
use Rattle.hold_store.proofs.nodes.store_new.Goals as goal

pub store_node-requires-clause-new : goal.store_node-requires-clause-new
store_node-requires-clause-new g c = store_new_turn (g.S.Holds.known c.args.seat.now) c.in-Some.slot c.args.bits c.requires.ready c.in-Some.ensures.some c.requires.new

pub put_on-requires-clause-loose : goal.put_on-requires-clause-loose
put_on-requires-clause-loose g c = store_loose (g.S.Holds.known c.args.seat.now) c.in-Some.slot c.args.bits c.requires.ready c.in-Some.ensures.some c.requires.new (g.S.Holds.known c.store_node.new.self) c.store_node.ensures.stored

pub returns-clause-ready : goal.returns-clause-ready
returns-clause-ready g c = store_ready (g.S.Holds.known c.args.seat.now) c.in-Some.slot c.args.bits c.requires.ready c.in-Some.ensures.some c.requires.new (g.S.Holds.known c.store_node.new.self) c.store_node.ensures.stored (g.S.Holds.known c.put_on.new.seat) c.put_on.ensures.on

pub returns-clause-named : goal.returns-clause-named
returns-clause-named g c = store_named (g.S.Holds.known c.args.seat.now) c.in-Some.slot c.args.bits c.requires.ready c.in-Some.ensures.some c.requires.new (g.S.Holds.known c.store_node.new.self) c.store_node.ensures.stored (g.S.Holds.known c.put_on.new.seat) c.put_on.ensures.on

pub returns-clause-free : goal.returns-clause-free
returns-clause-free g c = store_free (g.S.Holds.known c.args.seat.now) c.in-Some.slot c.args.bits c.requires.ready c.in-Some.ensures.some c.requires.new (g.met.S.Holds.stands c.args.seat.now c.requires.own)

pub returns-clause-stored : goal.returns-clause-stored
returns-clause-stored g c = store_content (g.S.Holds.known c.args.seat.now) c.in-Some.slot c.args.bits c.requires.ready c.in-Some.ensures.some c.requires.new (g.S.Holds.known c.store_node.new.self) c.store_node.ensures.stored (g.S.Holds.known c.put_on.new.seat) c.put_on.ensures.on

pub put_on-requires-clause-head : goal.put_on-requires-clause-head
put_on-requires-clause-head g c =
    let k = g.S.Holds.known c.args.seat.now in
    let heads = store_heads k c.in-Some.slot c.args.bits c.requires.ready c.in-Some.ensures.some c.requires.new (g.S.Holds.known c.store_node.new.self) c.store_node.ensures.stored in
    let bits = store_bits k c.in-Some.slot c.args.bits c.requires.ready c.in-Some.ensures.some c.requires.new (g.S.Holds.known c.store_node.new.self) c.store_node.ensures.stored in
    c.requires.head ∙ ap (λ n. head_of n c.args.bits) (sym heads) ∙ ap (head_of (g.S.Holds.known c.store_node.new.self).heads) (sym bits)

pub put_on-requires-clause-within : goal.put_on-requires-clause-within
put_on-requires-clause-within g c =
    let k = g.S.Holds.known c.args.seat.now in
    subst (λ n. c.args.head < n) (sym (store_heads k c.in-Some.slot c.args.bits c.requires.ready c.in-Some.ensures.some c.requires.new (g.S.Holds.known c.store_node.new.self) c.store_node.ensures.stored)) c.requires.within
