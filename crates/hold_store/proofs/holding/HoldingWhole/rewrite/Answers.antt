use Rattle.std.proofs.Common.{◌≡◌, ◌<◌, ◌^◌, get_or, Some, refl, ap, sym, ◌∙◌, subst}
use Rattle.edge_bits.specs.Reading.{plain, slots_of}
use Rattle.edge_bits.specs.Words.{unpack_of}
use Rattle.edge_bits.specs.declared.edges.Kind.{Kind}
use Rattle.edge_bits.specs.declared.words.Node.{Node}
use Rattle.edge_bits.specs.declared.words.Word.TheVariants.{Inner}
use Rattle.held_slots.specs.Linked.{IsLinkedTo, variable_of}
use Rattle.node_store.specs.Changes.{After}
use Rattle.hold_store.specs.Held.{ZeroStays}
use Rattle.hold_store.specs.Noted.{content_of}
use Rattle.hold_store.proofs.Calls as calls
use Rattle.hold_store.proofs.Wholes as wholes
use Rattle.hold_store.proofs.Seeking as seeking
use Rattle.hold_store.proofs.Adding as adding
use Rattle.node_store.specs.Changes.{CanRewrite, rewritten, var_of}
use Rattle.hold_store.proofs.holding.HoldingWhole.rewrite.Goals as goal

pub rewrite_slot-requires-clause-ready : goal.rewrite_slot-requires-clause-ready
rewrite_slot-requires-clause-ready g c = c.self.invariant.3.ready

pub rewrite_slot-requires-clause-can : goal.rewrite_slot-requires-clause-can
rewrite_slot-requires-clause-can g c =
    let s = c.self.inside in
    let k = g.S.Holds.known s.seat in
    let is = c.self.invariant.3 in
    let stands = g.met.S.Holds.stands s.seat c.self.invariant.0 in
    let can = subst (λ x. (j : Kind) × CanRewrite j (content_of (g.S.Holds.known x.0) x.1 x.2) c.args.slot c.args.var c.args.hi c.args.lo) (sym c.self.view_is) c.requires in
    (can.0, record { var = c.args.var; hi = c.args.hi.index; lo = c.args.lo }, c.node_bits-bits.ensures ∙ ap (λ i. Some (Inner (record { var = c.args.var; hi = i; lo = c.args.lo }))) c.index.ensures, calls.may_rewrite k s.notes.marks s.sweeping can.0 c.args.slot c.args.var c.args.hi c.args.lo can.1)

pub node_bits-bits-requires : goal.node_bits-bits-requires
node_bits-bits-requires g c =
    let s = c.self.inside in
    let k = g.S.Holds.known s.seat in
    let is = c.self.invariant.3 in
    let stands = g.met.S.Holds.stands s.seat c.self.invariant.0 in
    let can = subst (λ x. (j : Kind) × CanRewrite j (content_of (g.S.Holds.known x.0) x.1 x.2) c.args.slot c.args.var c.args.hi c.args.lo) (sym c.self.view_is) c.requires in
    (adding.variable_small k.content stands.sound can.0 c.args.var can.1.in_range, subst (λ i. i < 2 ^ 23) (sym c.index.ensures) (adding.edge_small k.content stands.sound can.0 c.args.hi can.1.hi_is), adding.edge_small k.content stands.sound can.0 c.args.lo can.1.lo_is)

pub prepare-requires-clause-linked : goal.prepare-requires-clause-linked
prepare-requires-clause-linked g c = subst (λ f. IsLinkedTo f c.self.inside.notes.chain) (sym (seeking.words_read c.self.inside.words c.words.result.now c.words.ensures.words)) c.self.invariant.3.noted.linked

pub prepare-requires-2-clause-linked : goal.prepare-requires-2-clause-linked
prepare-requires-2-clause-linked g c = subst (λ f. IsLinkedTo f c.prepare.new.self.chain) (seeking.words_read c.self.inside.words c.words.result.now c.words.ensures.words ∙ sym (seeking.words_read c.self.inside.words c.words-2.result.now c.words-2.ensures.words)) c.prepare.ensures.linked

pub invariant_of-self : goal.invariant_of-self
invariant_of-self g c =
    let s = c.self.inside in
    let k = g.S.Holds.known s.seat in
    let is = c.self.invariant.3 in
    let stands = g.met.S.Holds.stands s.seat c.self.invariant.0 in
    let can = subst (λ x. (j : Kind) × CanRewrite j (content_of (g.S.Holds.known x.0) x.1 x.2) c.args.slot c.args.var c.args.hi c.args.lo) (sym c.self.view_is) c.requires in
    let node : Node = record { var = c.args.var; hi = c.args.hi.index; lo = c.args.lo } in
    let reads : unpack_of c.node_bits-bits.result ≡ Some (Inner node) = c.node_bits-bits.ensures ∙ ap (λ i. Some (Inner (record { var = c.args.var; hi = i; lo = c.args.lo }))) c.index.ensures in
    let within = stands.sound.within c.args.slot (Inner can.1.node, can.1.was) in
    let e = c.rewrite_slot.ensures in
    let there : unpack_of (get_or s.words c.args.slot 0) ≡ Some (Inner can.1.node) = wholes.reads_as k s.words s.notes is.noted c.args.slot ∙ can.1.was in
    let was : variable_of (slots_of s.words c.args.slot) ≡ Some c.variable_in-was.result = ap variable_of there ∙ ap Some (sym (c.variable_in-was.ensures.var ∙ ap (λ b. var_of (unpack_of b)) c.word.ensures ∙ ap var_of there)) in
    let linked = c.moved.ensures.linked (slots_of s.words) (slots_of c.set.new.self) (subst (λ f. IsLinkedTo f c.prepare-2.new.self.chain) (seeking.words_read s.words c.words-2.result.now c.words-2.ensures.words) c.prepare-2.ensures.linked)
    (wholes.changed_at k s.words s.notes is.noted c.set.new.self c.args.slot c.node_bits-bits.result c.set.ensures) was
    (ap variable_of (wholes.set_there k s.words s.notes is.noted c.set.new.self c.args.slot c.node_bits-bits.result within c.set.ensures ∙ reads)) in
    let content = e.rewritten node reads in
    let target = rewritten k.content c.args.slot c.args.var (plain c.args.hi.index) c.args.lo in
    let done = calls.writes k s.words s.notes s.sweeping is target (g.S.Holds.known c.rewrite_slot.new.seat) c.set.new.self c.moved.new.self c.args.slot c.node_bits-bits.result (Some (Inner node)) (g.met.S.Holds.stands c.rewrite_slot.new.seat e.own) e.ready e.named
    (calls.same_but target (g.S.Holds.known c.rewrite_slot.new.seat).content content) (calls.same_stays target (g.S.Holds.known c.rewrite_slot.new.seat).content content)
    refl refl refl within c.set.ensures reads (c.moved.ensures.marks ∙ c.prepare-2.ensures.marks ∙ c.prepare.ensures.marks) (c.moved.ensures.pins ∙ c.prepare-2.ensures.pins ∙ c.prepare.ensures.pins) linked in
    (e.own, e.home.0 ∙ c.self.invariant.1, e.home.1 ∙ c.self.invariant.2, done.holding)

pub returns : goal.returns
returns g c =
    let s = c.self.inside in
    let k = g.S.Holds.known s.seat in
    let is = c.self.invariant.3 in
    let stands = g.met.S.Holds.stands s.seat c.self.invariant.0 in
    let can = subst (λ x. (j : Kind) × CanRewrite j (content_of (g.S.Holds.known x.0) x.1 x.2) c.args.slot c.args.var c.args.hi c.args.lo) (sym c.self.view_is) c.requires in
    let node : Node = record { var = c.args.var; hi = c.args.hi.index; lo = c.args.lo } in
    let reads : unpack_of c.node_bits-bits.result ≡ Some (Inner node) = c.node_bits-bits.ensures ∙ ap (λ i. Some (Inner (record { var = c.args.var; hi = i; lo = c.args.lo }))) c.index.ensures in
    let within = stands.sound.within c.args.slot (Inner can.1.node, can.1.was) in
    let e = c.rewrite_slot.ensures in
    let there : unpack_of (get_or s.words c.args.slot 0) ≡ Some (Inner can.1.node) = wholes.reads_as k s.words s.notes is.noted c.args.slot ∙ can.1.was in
    let was : variable_of (slots_of s.words c.args.slot) ≡ Some c.variable_in-was.result = ap variable_of there ∙ ap Some (sym (c.variable_in-was.ensures.var ∙ ap (λ b. var_of (unpack_of b)) c.word.ensures ∙ ap var_of there)) in
    let linked = c.moved.ensures.linked (slots_of s.words) (slots_of c.set.new.self) (subst (λ f. IsLinkedTo f c.prepare-2.new.self.chain) (seeking.words_read s.words c.words-2.result.now c.words-2.ensures.words) c.prepare-2.ensures.linked)
    (wholes.changed_at k s.words s.notes is.noted c.set.new.self c.args.slot c.node_bits-bits.result c.set.ensures) was
    (ap variable_of (wholes.set_there k s.words s.notes is.noted c.set.new.self c.args.slot c.node_bits-bits.result within c.set.ensures ∙ reads)) in
    let content = e.rewritten node reads in
    let target = rewritten k.content c.args.slot c.args.var (plain c.args.hi.index) c.args.lo in
    let done = calls.writes k s.words s.notes s.sweeping is target (g.S.Holds.known c.rewrite_slot.new.seat) c.set.new.self c.moved.new.self c.args.slot c.node_bits-bits.result (Some (Inner node)) (g.met.S.Holds.stands c.rewrite_slot.new.seat e.own) e.ready e.named
    (calls.same_but target (g.S.Holds.known c.rewrite_slot.new.seat).content content) (calls.same_stays target (g.S.Holds.known c.rewrite_slot.new.seat).content content)
    refl refl refl within c.set.ensures reads (c.moved.ensures.marks ∙ c.prepare-2.ensures.marks ∙ c.prepare.ensures.marks) (c.moved.ensures.pins ∙ c.prepare-2.ensures.pins ∙ c.prepare.ensures.pins) linked in
    subst (λ x. After ZeroStays (rewritten (content_of (g.S.Holds.known x.0) x.1 x.2) c.args.slot c.args.var c.args.hi c.args.lo) (content_of (g.S.Holds.known c.rewrite_slot.new.seat) c.moved.new.self.marks s.sweeping)) c.self.view_is done.after
