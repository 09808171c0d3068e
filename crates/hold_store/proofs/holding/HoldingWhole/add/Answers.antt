use Rattle.std.proofs.Common.{◌≡◌, ◌⊎◌, ◌<◌, ◌^◌, length, Some, None, refl, ap, sym, ◌∙◌, subst}
use Rattle.edge_bits.specs.Reading.{slots_of}
use Rattle.edge_bits.specs.Words.{unpack_of}
use Rattle.edge_bits.specs.declared.edges.Edge.{Edge}
use Rattle.edge_bits.specs.declared.edges.Kind.{Kind}
use Rattle.edge_bits.specs.declared.words.Node.{Node}
use Rattle.edge_bits.specs.declared.words.Word.TheVariants.{Inner}
use Rattle.held_slots.specs.Linked.{IsLinkedTo, variable_of}
use Rattle.hold_store.specs.Held.{ZeroStays}
use Rattle.hold_store.specs.Noted.{content_of}
use Rattle.hold_store.proofs.Calls as calls
use Rattle.hold_store.proofs.Wholes as wholes
use Rattle.hold_store.proofs.Seeking as seeking
use Rattle.hold_store.proofs.Adding as adding
use Rattle.node_store.specs.Changes.{Added, CanAdd, HasRoomFor}
use Rattle.node_store.specs.Edges.{flip_if}
use Rattle.node_slots.specs.Stores.{is_set}
use Rattle.hold_store.proofs.holding.HoldingWhole.add.Goals as goal

pub returns-in-Some : goal.returns-in-Some
returns-in-Some g c = λ j can.
    let s = c.self.inside in
    let k = g.S.Holds.known s.seat in
    let is = c.self.invariant.3 in
    let stands = g.met.S.Holds.stands s.seat c.self.invariant.0 in
    subst (λ x. CanAdd j (content_of (g.S.Holds.known x.0) x.1 x.2) c.args.var c.args.hi c.args.lo → Added ZeroStays j (content_of (g.S.Holds.known x.0) x.1 x.2) (content_of (g.S.Holds.known x.0) x.1 x.2) c.args.var c.args.hi c.args.lo c.in-Some.child) c.self.view_is
    (λ mine. adding.child_added k.content stands.sound j c.args.var c.args.hi c.args.lo (calls.may_add k s.notes.marks s.sweeping j c.args.var c.args.hi c.args.lo mine) c.in-Some.child c.in-Some.ensures.child (content_of k s.notes.marks s.sweeping) (is_set s.notes.marks) s.sweeping
    (calls.next_becomes k s.words s.notes s.sweeping is k s.notes stands refl refl refl is.noted.linked).after) can

pub node_bits-bits-requires : goal.node_bits-bits-requires
node_bits-bits-requires g c =
    let s = c.self.inside in
    let k = g.S.Holds.known s.seat in
    let is = c.self.invariant.3 in
    let stands = g.met.S.Holds.stands s.seat c.self.invariant.0 in
    let can = subst (λ x. (j : Kind) × CanAdd j (content_of (g.S.Holds.known x.0) x.1 x.2) c.args.var c.args.hi c.args.lo × HasRoomFor j (content_of (g.S.Holds.known x.0) x.1 x.2) c.args.var c.args.hi c.args.lo) (sym c.self.view_is) c.requires in
    let may = calls.may_add k s.notes.marks s.sweeping can.0 c.args.var c.args.hi c.args.lo can.1 in
    let child = c.in_default.ensures.none in
    let lo : Edge = flip_if c.args.hi.complement c.args.lo in
    let node : Node = record { var = c.args.var; hi = c.args.hi.index; lo = lo } in (
      adding.variable_small k.content stands.sound can.0 c.args.var may.can_make.in_range,
      subst (λ i. i < 2 ^ 23) (sym c.index.ensures) (adding.edge_small k.content stands.sound can.0 c.args.hi may.can_make.hi_is),
      subst (λ (x : Edge). x.index < 2 ^ 23) (sym c.flip_if.ensures) (adding.edge_small k.content stands.sound can.0 c.args.lo may.can_make.lo_is),
    )

pub prepare-requires-clause-linked : goal.prepare-requires-clause-linked
prepare-requires-clause-linked g c = subst (λ f. IsLinkedTo f c.self.inside.notes.chain) (sym (seeking.words_read c.self.inside.words c.words.result.now c.words.ensures.words)) c.self.invariant.3.noted.linked

pub prepare-requires-clause-var : goal.prepare-requires-clause-var
prepare-requires-clause-var g c =
    let s = c.self.inside in
    let k = g.S.Holds.known s.seat in
    let is = c.self.invariant.3 in
    let stands = g.met.S.Holds.stands s.seat c.self.invariant.0 in
    let can = subst (λ x. (j : Kind) × CanAdd j (content_of (g.S.Holds.known x.0) x.1 x.2) c.args.var c.args.hi c.args.lo × HasRoomFor j (content_of (g.S.Holds.known x.0) x.1 x.2) c.args.var c.args.hi c.args.lo) (sym c.self.view_is) c.requires in
    let may = calls.may_add k s.notes.marks s.sweeping can.0 c.args.var c.args.hi c.args.lo can.1 in
    let child = c.in_default.ensures.none in
    let lo : Edge = flip_if c.args.hi.complement c.args.lo in
    let node : Node = record { var = c.args.var; hi = c.args.hi.index; lo = lo } in
    adding.variable_small k.content stands.sound can.0 c.args.var may.can_make.in_range

pub place_node-slot-requires-clause-ready : goal.place_node-slot-requires-clause-ready
place_node-slot-requires-clause-ready g c = c.self.invariant.3.ready

pub place_node-slot-requires-clause-can : goal.place_node-slot-requires-clause-can
place_node-slot-requires-clause-can g c =
    let s = c.self.inside in
    let k = g.S.Holds.known s.seat in
    let is = c.self.invariant.3 in
    let stands = g.met.S.Holds.stands s.seat c.self.invariant.0 in
    let can = subst (λ x. (j : Kind) × CanAdd j (content_of (g.S.Holds.known x.0) x.1 x.2) c.args.var c.args.hi c.args.lo × HasRoomFor j (content_of (g.S.Holds.known x.0) x.1 x.2) c.args.var c.args.hi c.args.lo) (sym c.self.view_is) c.requires in
    let may = calls.may_add k s.notes.marks s.sweeping can.0 c.args.var c.args.hi c.args.lo can.1 in
    let child = c.in_default.ensures.none in
    let lo : Edge = flip_if c.args.hi.complement c.args.lo in
    let node : Node = record { var = c.args.var; hi = c.args.hi.index; lo = lo } in
    let reads : unpack_of c.node_bits-bits.result ≡ Some (Inner node) = c.node_bits-bits.ensures ∙ (λ t. Some (Inner (record { var = c.args.var; hi = c.index.ensures t; lo = (c.flip_if.ensures ∙ ap (λ b. flip_if b c.args.lo) c.complement.ensures) t }))) in
    (node, reads, c.level_of_variable-level.ensures, adding.can_place k.content stands.sound can.0 c.args.var c.args.hi c.args.lo may child can.2)

pub set-requires : goal.set-requires
set-requires g c =
    let s = c.self.inside in
    let k = g.S.Holds.known s.seat in
    let is = c.self.invariant.3 in
    let stands = g.met.S.Holds.stands s.seat c.self.invariant.0 in
    let can = subst (λ x. (j : Kind) × CanAdd j (content_of (g.S.Holds.known x.0) x.1 x.2) c.args.var c.args.hi c.args.lo × HasRoomFor j (content_of (g.S.Holds.known x.0) x.1 x.2) c.args.var c.args.hi c.args.lo) (sym c.self.view_is) c.requires in
    let may = calls.may_add k s.notes.marks s.sweeping can.0 c.args.var c.args.hi c.args.lo can.1 in
    let child = c.in_default.ensures.none in
    let lo : Edge = flip_if c.args.hi.complement c.args.lo in
    let node : Node = record { var = c.args.var; hi = c.args.hi.index; lo = lo } in
    let reads : unpack_of c.node_bits-bits.result ≡ Some (Inner node) = c.node_bits-bits.ensures ∙ (λ t. Some (Inner (record { var = c.args.var; hi = c.index.ensures t; lo = (c.flip_if.ensures ∙ ap (λ b. flip_if b c.args.lo) c.complement.ensures) t }))) in
    let placed = c.place_node-slot.ensures.placed node reads in
    subst (λ n. c.place_node-slot.result < n) (sym is.noted.long) (adding.slot_within k.content stands.sound can.0 c.args.var c.args.hi c.args.lo may child c.place_node-slot.result (g.S.Holds.known c.place_node-slot.new.seat).content placed)

pub added-requires : goal.added-requires
added-requires g c =
    let s = c.self.inside in
    let k = g.S.Holds.known s.seat in
    let is = c.self.invariant.3 in
    let stands = g.met.S.Holds.stands s.seat c.self.invariant.0 in
    let can = subst (λ x. (j : Kind) × CanAdd j (content_of (g.S.Holds.known x.0) x.1 x.2) c.args.var c.args.hi c.args.lo × HasRoomFor j (content_of (g.S.Holds.known x.0) x.1 x.2) c.args.var c.args.hi c.args.lo) (sym c.self.view_is) c.requires in
    let may = calls.may_add k s.notes.marks s.sweeping can.0 c.args.var c.args.hi c.args.lo can.1 in
    let child = c.in_default.ensures.none in
    let lo : Edge = flip_if c.args.hi.complement c.args.lo in
    let node : Node = record { var = c.args.var; hi = c.args.hi.index; lo = lo } in
    let reads : unpack_of c.node_bits-bits.result ≡ Some (Inner node) = c.node_bits-bits.ensures ∙ (λ t. Some (Inner (record { var = c.args.var; hi = c.index.ensures t; lo = (c.flip_if.ensures ∙ ap (λ b. flip_if b c.args.lo) c.complement.ensures) t }))) in
    let placed = c.place_node-slot.ensures.placed node reads in
    subst (λ n. c.place_node-slot.result < n) (sym (ap length c.prepare.ensures.marks ∙ is.noted.marks_fit)) (adding.slot_within k.content stands.sound can.0 c.args.var c.args.hi c.args.lo may child c.place_node-slot.result (g.S.Holds.known c.place_node-slot.new.seat).content placed)

pub invariant_of-self : goal.invariant_of-self
invariant_of-self g c =
    let s = c.self.inside in
    let k = g.S.Holds.known s.seat in
    let is = c.self.invariant.3 in
    let stands = g.met.S.Holds.stands s.seat c.self.invariant.0 in
    let can = subst (λ x. (j : Kind) × CanAdd j (content_of (g.S.Holds.known x.0) x.1 x.2) c.args.var c.args.hi c.args.lo × HasRoomFor j (content_of (g.S.Holds.known x.0) x.1 x.2) c.args.var c.args.hi c.args.lo) (sym c.self.view_is) c.requires in
    let may = calls.may_add k s.notes.marks s.sweeping can.0 c.args.var c.args.hi c.args.lo can.1 in
    let child = c.in_default.ensures.none in
    let lo : Edge = flip_if c.args.hi.complement c.args.lo in
    let node : Node = record { var = c.args.var; hi = c.args.hi.index; lo = lo } in
    let reads : unpack_of c.node_bits-bits.result ≡ Some (Inner node) = c.node_bits-bits.ensures ∙ (λ t. Some (Inner (record { var = c.args.var; hi = c.index.ensures t; lo = (c.flip_if.ensures ∙ ap (λ b. flip_if b c.args.lo) c.complement.ensures) t }))) in
    let e = c.place_node-slot.ensures in
    let new = g.S.Holds.known c.place_node-slot.new.seat in
    let placed = e.placed node reads in
    let within = adding.slot_within k.content stands.sound can.0 c.args.var c.args.hi c.args.lo may child c.place_node-slot.result new.content placed in
    let was = adding.slot_was k.content stands.sound can.0 c.args.var c.args.hi c.args.lo may child c.place_node-slot.result new.content placed in
    let linked = c.added.ensures.linked (slots_of s.words) (slots_of c.set.new.self) (subst (λ f. IsLinkedTo f c.prepare.new.self.chain) (seeking.words_read s.words c.words.result.now c.words.ensures.words) c.prepare.ensures.linked)
    (wholes.changed_at k s.words s.notes is.noted c.set.new.self c.place_node-slot.result c.node_bits-bits.result c.set.ensures)
    (subst (λ o. (o ≡ None) ⊎ (variable_of o ≡ Some c.args.var)) (sym (wholes.reads_as k s.words s.notes is.noted c.place_node-slot.result)) was)
    (ap variable_of (wholes.set_there k s.words s.notes is.noted c.set.new.self c.place_node-slot.result c.node_bits-bits.result within c.set.ensures ∙ reads)) in
    let found = calls.found k s.words s.notes s.sweeping is new c.set.new.self c.added.new.self c.place_node-slot.result c.node_bits-bits.result node (g.met.S.Holds.stands c.place_node-slot.new.seat e.own) e.ready e.named within c.set.ensures reads
    (c.added.ensures.marks ∙ c.prepare.ensures.marks) (c.added.ensures.pins ∙ c.prepare.ensures.pins) linked in
    let stored = calls.stored k s.words s.notes s.sweeping is new c.set.new.self c.added.new.self c.place_node-slot.result c.node_bits-bits.result node (g.met.S.Holds.stands c.place_node-slot.new.seat e.own) e.ready e.named within c.set.ensures reads
    (c.added.ensures.marks ∙ c.prepare.ensures.marks) (c.added.ensures.pins ∙ c.prepare.ensures.pins) linked in (
      e.own,
      e.home.0 ∙ c.self.invariant.1,
      e.home.1 ∙ c.self.invariant.2,
      adding.either k.content stands.sound can.0 c.args.var c.args.hi c.args.lo may (is_set s.notes.marks) s.sweeping child c.place_node-slot.result new.content placed (λ same there. (found same there).holding) (λ f same. (stored f same).holding),
    )

pub returns : goal.returns
returns g c = λ j mine.
    let s = c.self.inside in
    let k = g.S.Holds.known s.seat in
    let is = c.self.invariant.3 in
    let stands = g.met.S.Holds.stands s.seat c.self.invariant.0 in
    let can = subst (λ x. (j : Kind) × CanAdd j (content_of (g.S.Holds.known x.0) x.1 x.2) c.args.var c.args.hi c.args.lo × HasRoomFor j (content_of (g.S.Holds.known x.0) x.1 x.2) c.args.var c.args.hi c.args.lo) (sym c.self.view_is) c.requires in
    let may = calls.may_add k s.notes.marks s.sweeping can.0 c.args.var c.args.hi c.args.lo can.1 in
    let child = c.in_default.ensures.none in
    let lo : Edge = flip_if c.args.hi.complement c.args.lo in
    let node : Node = record { var = c.args.var; hi = c.args.hi.index; lo = lo } in
    let reads : unpack_of c.node_bits-bits.result ≡ Some (Inner node) = c.node_bits-bits.ensures ∙ (λ t. Some (Inner (record { var = c.args.var; hi = c.index.ensures t; lo = (c.flip_if.ensures ∙ ap (λ b. flip_if b c.args.lo) c.complement.ensures) t }))) in
    let e = c.place_node-slot.ensures in
    let new = g.S.Holds.known c.place_node-slot.new.seat in
    let placed = e.placed node reads in
    let within = adding.slot_within k.content stands.sound can.0 c.args.var c.args.hi c.args.lo may child c.place_node-slot.result new.content placed in
    let was = adding.slot_was k.content stands.sound can.0 c.args.var c.args.hi c.args.lo may child c.place_node-slot.result new.content placed in
    let linked = c.added.ensures.linked (slots_of s.words) (slots_of c.set.new.self) (subst (λ f. IsLinkedTo f c.prepare.new.self.chain) (seeking.words_read s.words c.words.result.now c.words.ensures.words) c.prepare.ensures.linked)
    (wholes.changed_at k s.words s.notes is.noted c.set.new.self c.place_node-slot.result c.node_bits-bits.result c.set.ensures)
    (subst (λ o. (o ≡ None) ⊎ (variable_of o ≡ Some c.args.var)) (sym (wholes.reads_as k s.words s.notes is.noted c.place_node-slot.result)) was)
    (ap variable_of (wholes.set_there k s.words s.notes is.noted c.set.new.self c.place_node-slot.result c.node_bits-bits.result within c.set.ensures ∙ reads)) in
    let found = calls.found k s.words s.notes s.sweeping is new c.set.new.self c.added.new.self c.place_node-slot.result c.node_bits-bits.result node (g.met.S.Holds.stands c.place_node-slot.new.seat e.own) e.ready e.named within c.set.ensures reads
    (c.added.ensures.marks ∙ c.prepare.ensures.marks) (c.added.ensures.pins ∙ c.prepare.ensures.pins) linked in
    let stored = calls.stored k s.words s.notes s.sweeping is new c.set.new.self c.added.new.self c.place_node-slot.result c.node_bits-bits.result node (g.met.S.Holds.stands c.place_node-slot.new.seat e.own) e.ready e.named within c.set.ensures reads
    (c.added.ensures.marks ∙ c.prepare.ensures.marks) (c.added.ensures.pins ∙ c.prepare.ensures.pins) linked in
    let my = calls.may_add k s.notes.marks s.sweeping j c.args.var c.args.hi c.args.lo (subst (λ x. CanAdd j (content_of (g.S.Holds.known x.0) x.1 x.2) c.args.var c.args.hi c.args.lo) (sym c.self.view_is) mine) in
    let edge : c.new.result ≡ record { index = c.place_node-slot.result; complement = c.args.hi.complement } = c.new.ensures ∙ ap (λ b. record { index = c.place_node-slot.result; complement = b }) c.complement-2.ensures in
    subst (λ x. Added ZeroStays j (content_of (g.S.Holds.known x.0) x.1 x.2) (content_of new c.added.new.self.marks s.sweeping) c.args.var c.args.hi c.args.lo c.new.result) c.self.view_is
    (subst (λ (y : Edge). Added ZeroStays j (content_of k s.notes.marks s.sweeping) (content_of new c.added.new.self.marks s.sweeping) c.args.var c.args.hi c.args.lo y) (sym edge)
    (adding.placed k.content stands.sound j c.args.var c.args.hi c.args.lo my (is_set s.notes.marks) s.sweeping child c.place_node-slot.result new.content (content_of new c.added.new.self.marks s.sweeping) placed (λ same there. (found same there).after) (λ f same. (stored f same).after)))
