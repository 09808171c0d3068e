use Rattle.std.proofs.Common.{◌≡◌, ◌+◌, ◌++◌, ◌∷◌, [], List, length, ap, sym, ◌∙◌, subst, append_assoc, arith}
use Rattle.std.specs.Vec.Iter.{into_iter_items}
use Rattle.blif_drafts.specs.declared.drafts.DraftItem.{DraftItem}
use Rattle.blif_drafts.specs.Entries.{AreEntriesBy, AreKnown, IsEntryBy, IsKnownItem, instances_among}
use Rattle.blif_drafts.proofs.Known.{known_at, one_entry, place_within, total_more}
use Rattle.blif_drafts.proofs.entries.entries_in.Goals as goal

pub entry_by-requires-clause-known : goal.entry_by-requires-clause-known
entry_by-requires-clause-known c =
    let callees = c.args.callees.now in
    let calls = c.args.calls.now in
    let joined = c.args.joined.now in
    let front = c.loop-item.yielded in
    let rest = into_iter_items c.next.new.self in
    let inv = c.loop-item.invariant in
    let all : c.args.items ≡ front ++ c.in-Some.item ∷ rest = inv.0 ∙ ap (λ (xs : List DraftItem). front ++ xs) c.in-Some.ensures.steps.0 in
    let place = inv.2 in
    subst (λ n. IsKnownItem callees calls joined n c.in-Some.item) (omega (arith, place)) (known_at callees calls joined front c.in-Some.item rest 0 (subst (AreKnown callees calls joined 0) all c.requires.known))

pub loop-item-preserved : goal.loop-item-preserved
loop-item-preserved c =
    let callees = c.args.callees.now in
    let calls = c.args.calls.now in
    let joined = c.args.joined.now in
    let front = c.loop-item.yielded in
    let item = c.in-Some.item in
    let rest = into_iter_items c.next.new.self in
    let inv = c.loop-item.invariant in
    let steps = c.in-Some.ensures.steps in
    let all : c.args.items ≡ front ++ item ∷ rest = inv.0 ∙ ap (λ (xs : List DraftItem). front ++ xs) steps.0 in
    let place = inv.2 in
    let same : 0 + instances_among front ≡ c.loop-item.place = omega (arith, place) in
    let known : IsKnownItem callees calls joined c.loop-item.place item = subst (λ n. IsKnownItem callees calls joined n item) same (known_at callees calls joined front item rest 0 (subst (AreKnown callees calls joined 0) all c.requires.known)) in
    let step = c.step_of-step.ensures in
    let within = place_within callees calls joined item c.loop-item.place inv.3 known in
    let entry : IsEntryBy callees calls joined (0 + instances_among front) item c.in_ok-entry_by.field-0 = subst (λ n. IsEntryBy callees calls joined n item c.in_ok-entry_by.field-0) (sym same) c.in_ok-entry_by.ensures in (
      all ∙ sym (append_assoc front (item ∷ []) rest),
      (let a = inv.1 in let b = ap length steps.0 in let d = steps.1 in omega (arith, a, b, d)),
      (let more = total_more callees calls joined front item in omega (arith, place, step, more)),
      omega (arith, step, within),
      subst (AreEntriesBy callees calls joined 0 (front ++ item ∷ [])) (sym c.in_ok-push.ensures.ok) (one_entry callees calls joined front c.loop-item.entries item c.in_ok-entry_by.field-0 0 inv.4 entry),
    )
