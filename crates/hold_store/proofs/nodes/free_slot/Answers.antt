use Rattle.std.proofs.Common.{◌<◌, sym, subst}
use Rattle.hold_store.specs.Held.{Knowledge}
use Rattle.hold_store.proofs.NodeSteps.{freed_content, freed_counts, freed_named, freed_ready, is_loose, is_next, is_uncounted, is_unpinned, spare_high, then_dead, then_forgotten, then_free, then_loose, then_renewed}
use Rattle.hold_store.proofs.nodes.free_slot.Goals as goal

pub loosen-requires-clause-used : goal.loosen-requires-clause-used
loosen-requires-clause-used g c = c.requires.dead.used

pub loosen-requires-clause-high : goal.loosen-requires-clause-high
loosen-requires-clause-high g c = spare_high (g.S.Holds.known c.args.seat.now).content c.args.slot c.requires.dead.spare

pub load_count-count-requires-clause-within : goal.load_count-count-requires-clause-within
load_count-count-requires-clause-within g c = subst (λ (k : Knowledge). c.args.slot < k.content.limit) (sym c.loosen.ensures.off) ((g.met.S.Holds.stands c.args.seat.now c.requires.own).sound.within c.args.slot c.requires.dead.used)

pub store_generation-requires-clause-loose : goal.store_generation-requires-clause-loose
store_generation-requires-clause-loose g c =
    let n = c.load_count-count.ensures in
    is_loose (g.S.Holds.known c.args.seat.now) (g.S.Holds.known c.loosen.new.seat) (g.S.Holds.known c.load_count-count.new.self) (g.S.Holds.known c.load_count-count.new.self) c.args.slot n.counted.0 c.load_count-count.result c.next_generation.result c.requires.dead
    c.loosen.ensures.off n.counted.1 n.counted.2 n.stays n.generation c.next_generation.ensures.count c.next_generation.ensures.generation

pub store_generation-requires-clause-uncounted : goal.store_generation-requires-clause-uncounted
store_generation-requires-clause-uncounted g c =
    let n = c.load_count-count.ensures in
    is_uncounted (g.S.Holds.known c.args.seat.now) (g.S.Holds.known c.loosen.new.seat) (g.S.Holds.known c.load_count-count.new.self) (g.S.Holds.known c.load_count-count.new.self) c.args.slot n.counted.0 c.load_count-count.result c.next_generation.result c.requires.dead
    c.loosen.ensures.off n.counted.1 n.counted.2 n.stays n.generation c.next_generation.ensures.count c.next_generation.ensures.generation

pub store_generation-requires-clause-unpinned : goal.store_generation-requires-clause-unpinned
store_generation-requires-clause-unpinned g c =
    let n = c.load_count-count.ensures in
    is_unpinned (g.S.Holds.known c.args.seat.now) (g.S.Holds.known c.loosen.new.seat) (g.S.Holds.known c.load_count-count.new.self) (g.S.Holds.known c.load_count-count.new.self) c.args.slot n.counted.0 c.load_count-count.result c.next_generation.result c.requires.dead
    c.loosen.ensures.off n.counted.1 n.counted.2 n.stays n.generation c.next_generation.ensures.count c.next_generation.ensures.generation

pub store_generation-requires-clause-next : goal.store_generation-requires-clause-next
store_generation-requires-clause-next g c =
    let n = c.load_count-count.ensures in
    is_next (g.S.Holds.known c.args.seat.now) (g.S.Holds.known c.loosen.new.seat) (g.S.Holds.known c.load_count-count.new.self) (g.S.Holds.known c.load_count-count.new.self) c.args.slot n.counted.0 c.load_count-count.result c.next_generation.result c.requires.dead
    c.loosen.ensures.off n.counted.1 n.counted.2 n.stays n.generation c.next_generation.ensures.count c.next_generation.ensures.generation

pub free_node-requires-clause-loose : goal.free_node-requires-clause-loose
free_node-requires-clause-loose g c =
    let n = c.load_count-count.ensures in
    then_loose (g.S.Holds.known c.args.seat.now) (g.S.Holds.known c.loosen.new.seat) (g.S.Holds.known c.load_count-count.new.self) (g.S.Holds.known c.store_generation.new.self) c.args.slot n.counted.0 c.load_count-count.result c.next_generation.result c.requires.dead
    c.loosen.ensures.off n.counted.1 n.counted.2 n.stays n.generation c.next_generation.ensures.count c.next_generation.ensures.generation c.store_generation.ensures.renewed

pub free_node-requires-clause-renewed : goal.free_node-requires-clause-renewed
free_node-requires-clause-renewed g c =
    let n = c.load_count-count.ensures in
    then_renewed (g.S.Holds.known c.args.seat.now) (g.S.Holds.known c.loosen.new.seat) (g.S.Holds.known c.load_count-count.new.self) (g.S.Holds.known c.store_generation.new.self) c.args.slot n.counted.0 c.load_count-count.result c.next_generation.result c.requires.dead
    c.loosen.ensures.off n.counted.1 n.counted.2 n.stays n.generation c.next_generation.ensures.count c.next_generation.ensures.generation c.store_generation.ensures.renewed

pub free_node-requires-clause-forgotten : goal.free_node-requires-clause-forgotten
free_node-requires-clause-forgotten g c =
    let n = c.load_count-count.ensures in
    then_forgotten (g.S.Holds.known c.args.seat.now) (g.S.Holds.known c.loosen.new.seat) (g.S.Holds.known c.load_count-count.new.self) (g.S.Holds.known c.store_generation.new.self) c.args.slot n.counted.0 c.load_count-count.result c.next_generation.result c.requires.dead
    c.loosen.ensures.off n.counted.1 n.counted.2 n.stays n.generation c.next_generation.ensures.count c.next_generation.ensures.generation c.store_generation.ensures.renewed c.requires.forgotten

pub free_node-requires-clause-free : goal.free_node-requires-clause-free
free_node-requires-clause-free g c =
    let n = c.load_count-count.ensures in (
      c.requires.ready.free,
      then_free (g.S.Holds.known c.args.seat.now) (g.S.Holds.known c.loosen.new.seat) (g.S.Holds.known c.load_count-count.new.self) (g.S.Holds.known c.store_generation.new.self) c.args.slot n.counted.0 c.load_count-count.result c.next_generation.result c.requires.dead
          c.loosen.ensures.off n.counted.1 n.counted.2 n.stays n.generation c.next_generation.ensures.count c.next_generation.ensures.generation c.store_generation.ensures.renewed c.requires.ready.free c.requires.ready.has_free,
    )

pub free_node-requires-clause-dead : goal.free_node-requires-clause-dead
free_node-requires-clause-dead g c =
    let n = c.load_count-count.ensures in
    then_dead (g.S.Holds.known c.args.seat.now) (g.S.Holds.known c.loosen.new.seat) (g.S.Holds.known c.load_count-count.new.self) (g.S.Holds.known c.store_generation.new.self) c.args.slot n.counted.0 c.load_count-count.result c.next_generation.result c.requires.dead
    c.loosen.ensures.off n.counted.1 n.counted.2 n.stays n.generation c.next_generation.ensures.count c.next_generation.ensures.generation c.store_generation.ensures.renewed

pub returns-clause-ready : goal.returns-clause-ready
returns-clause-ready g c =
    let n = c.load_count-count.ensures in
    freed_ready (g.S.Holds.known c.args.seat.now) (g.S.Holds.known c.loosen.new.seat) (g.S.Holds.known c.load_count-count.new.self) (g.S.Holds.known c.store_generation.new.self) c.args.slot n.counted.0 c.load_count-count.result c.next_generation.result c.requires.dead
    c.loosen.ensures.off n.counted.1 n.counted.2 n.stays n.generation c.next_generation.ensures.count c.next_generation.ensures.generation c.store_generation.ensures.renewed c.requires.ready (g.S.Holds.known c.free_node.new.self) c.free_node.ensures.freed

pub returns-clause-named : goal.returns-clause-named
returns-clause-named g c =
    let n = c.load_count-count.ensures in
    freed_named (g.S.Holds.known c.args.seat.now) (g.S.Holds.known c.loosen.new.seat) (g.S.Holds.known c.load_count-count.new.self) (g.S.Holds.known c.store_generation.new.self) c.args.slot n.counted.0 c.load_count-count.result c.next_generation.result c.requires.dead
    c.loosen.ensures.off n.counted.1 n.counted.2 n.stays n.generation c.next_generation.ensures.count c.next_generation.ensures.generation c.store_generation.ensures.renewed c.requires.ready (g.S.Holds.known c.free_node.new.self) c.free_node.ensures.freed

pub returns-clause-freed : goal.returns-clause-freed
returns-clause-freed g c =
    let n = c.load_count-count.ensures in
    freed_content (g.S.Holds.known c.args.seat.now) (g.S.Holds.known c.loosen.new.seat) (g.S.Holds.known c.load_count-count.new.self) (g.S.Holds.known c.store_generation.new.self) c.args.slot n.counted.0 c.load_count-count.result c.next_generation.result c.requires.dead
    c.loosen.ensures.off n.counted.1 n.counted.2 n.stays n.generation c.next_generation.ensures.count c.next_generation.ensures.generation c.store_generation.ensures.renewed c.requires.ready (g.S.Holds.known c.free_node.new.self) c.free_node.ensures.freed

pub returns-clause-counts : goal.returns-clause-counts
returns-clause-counts g c =
    let n = c.load_count-count.ensures in
    freed_counts (g.S.Holds.known c.args.seat.now) (g.S.Holds.known c.loosen.new.seat) (g.S.Holds.known c.load_count-count.new.self) (g.S.Holds.known c.store_generation.new.self) c.args.slot n.counted.0 c.load_count-count.result c.next_generation.result c.requires.dead
    c.loosen.ensures.off n.counted.1 n.counted.2 n.stays n.generation c.next_generation.ensures.count c.next_generation.ensures.generation c.store_generation.ensures.renewed c.requires.ready (g.S.Holds.known c.free_node.new.self) c.free_node.ensures.freed
