use Rattle.std.proofs.Common.{◌≡◌, ◌≢◌, ℕ, suc, ◌-◌, inl, inr, true, refl, ap, sym, ◌∙◌, subst, arith}
use Rattle.std.specs.Prelude.{◌%◌, ◌^◌}
use Rattle.std.proofs.lemmas.Bool.{cases_eq}
use Rattle.edge_bits.specs.Reading.{slots_of}
use Rattle.held_slots.specs.Linked.{HasNode, Leads, LeadsThrough}
use Rattle.held_slots.specs.SlotSets.{Members, has}
use Rattle.held_slots.proofs.Leading.{shorter}
use Rattle.held_slots.proofs.Lasting.{never}
use Rattle.held_slots.proofs.Gathering.{ahead_of}
use Rattle.held_slots.proofs.links.gather.Goals as goal
use Rattle.held_slots.proofs.links.gather.Goals.{then-has_node, else-has_node}

pub loop-link-init : goal.loop-link-init
loop-link-init c = record {
  limit = refl;
  members = λ s inside. never (sym inside ∙ c.requires.empty s);
  on = λ from slot e. (let o = from.first.some slot e in (o.1, o.2));
  ahead = λ from s h out. ahead_of (slots_of c.args.words.now) from.chain c.args.set.now.limit c.args.var 0 c.args.link from.first s (omega arith) h;
}

pub insert-requires : goal.insert-requires
insert-requires c =
    let some = c.loop-link-test.true in
    let lt = (c.loop-link.invariant.on c.requires.from (c.loop-link.link - 1) (omega (arith, some))).0 in
    let same = c.loop-link.invariant.limit in
    omega (arith, lt, same)

-- the links from behind this slot on
behind : (c : goal.After-note_of-link) (from : LeadsThrough (slots_of c.args.words.now) c.args.notes.now c.args.set.now.limit c.args.var c.args.link)
    → Leads (slots_of c.args.words.now) from.chain c.args.set.now.limit c.args.var (suc (c.loop-link.link - 1)) (c.note_of-link.result % 2 ^ 24)
behind c from =
    let some = c.loop-link-test.true in
    let o = c.loop-link.invariant.on from (c.loop-link.link - 1) (omega (arith, some)) in
    subst (λ n. Leads (slots_of c.args.words.now) from.chain c.args.set.now.limit c.args.var (suc (c.loop-link.link - 1)) (n % 2 ^ 24)) (sym c.note_of-link.ensures) (from.next (c.loop-link.link - 1) o.0 o.1)

pub loop-link-smaller : goal.loop-link-smaller
loop-link-smaller c =
    let from = c.requires.from in
    shorter (slots_of c.args.words.now) from.chain c.args.set.now.limit c.args.var c.loop-link.link (c.note_of-link.result % 2 ^ 24) (behind c from) (let some = c.loop-link-test.true in omega arith) (let fits = c.loop-link.auto.link-fits in omega arith)

-- the set after this slot was looked at
abbrev IsLookedAt : goal.After-note_of-link → Members → Type 0
IsLookedAt c set = (set.limit ≡ c.loop-link.set.limit) × ((s : ℕ) → has set s ≡ true → HasNode (slots_of c.args.words.now) c.args.var s)
    × (HasNode (slots_of c.args.words.now) c.args.var (c.loop-link.link - 1) → has set (c.loop-link.link - 1) ≡ true) × ((s : ℕ) → s ≢ c.loop-link.link - 1 → has set s ≡ has c.loop-link.set s)

looked_at : (c : goal.After-note_of-link) → IsLookedAt c c.if-has_node.set
looked_at c =
    let word = slots_of c.args.words.now in
    let slot = c.loop-link.link - 1 in
    elim c.if-has_node.branch [
      | then-has_node w ↦ subst (IsLookedAt c) (sym w.set-is) (
        w.insert.ensures.limit,
        λ s inside. elim (cases_eq s slot) [
          | inl e ↦ subst (HasNode word c.args.var) (sym e) (c.has_node.ensures.yes w.if-has_node.true)
          | inr ne ↦ c.loop-link.invariant.members s (sym (w.insert.ensures.others s ne) ∙ inside)
        ],
        λ h. w.insert.ensures.here,
        w.insert.ensures.others,
      )
      | else-has_node w ↦ subst (IsLookedAt c) (sym w.set-is) (refl, c.loop-link.invariant.members, λ h. absurd (c.has_node.ensures.no w.if-has_node.false h), λ s ne. refl)
    ]

pub loop-link-preserved : goal.loop-link-preserved
loop-link-preserved c =
    let slot = c.loop-link.link - 1 in
    let some = c.loop-link-test.true in
    let l = looked_at c in
    record {
      limit = l.0 ∙ c.loop-link.invariant.limit;
      members = l.1;
      on = λ from next e. (let o = (behind c from).some next e in (o.1, o.2));
      ahead = λ from s h out. (
          let ne : s ≢ slot = λ e. never (sym (l.2 (subst (HasNode (slots_of c.args.words.now) c.args.var) e h)) ∙ ap (has c.if-has_node.set) (sym e) ∙ out) in
          let was = (c.loop-link.invariant.ahead from s h (sym (l.3 s ne) ∙ out)).1 in
          ahead_of (slots_of c.args.words.now) from.chain c.args.set.now.limit c.args.var (suc slot) (c.note_of-link.result % 2 ^ 24) (behind c from) s (omega (arith, was, ne, some)) h);
    }
