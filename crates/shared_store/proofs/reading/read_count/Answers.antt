use Rattle.std.proofs.Common.{◌≡◌, ℕ, None, ap, sym, subst, ◌∙◌}
use Rattle.node_slots.specs.Stores.{slots}
use Rattle.seat_guard.specs.Passes.{counts_of, known}
use Rattle.seat_guard.specs.Tallies.{times}
use Rattle.shared_store.specs.Counted.{IsFoundAt}
use Rattle.shared_store.specs.Sharing.{kind_of}
use Rattle.shared_store.proofs.Found.{found-above, found-zero, known-kept, read-above}
use Rattle.shared_store.proofs.Used.{function_used}
use Rattle.shared_store.proofs.reading.read_count.Goals as goal

pub returns-then-found-eq0-clause-found : goal.returns-then-found-eq0-clause-found
returns-then-found-eq0-clause-found c =
    let n = c.count_of-found.ensures.none c.if-found-eq0.true in subst (IsFoundAt c.args.slot (counts_of c.args.pass.now)) (sym n.1.1) (found-zero c.args.slot n.1.0 (counts_of c.args.pass.now))

pub count_in-requires : goal.count_in-requires
count_in-requires c =
    let s = c.count_of-found.ensures.some c.if-found-eq0.false c.requires.fresh.1 in
    let kept = known-kept c.args.shared.now c.args.pass.now.seat.me.0 c.requires.serves s.1 (ap (λ (i : ℕ). times i (counts_of c.args.pass.now).zeros) s.2 ∙ c.requires.fresh.0) (s.3 c.requires.at.1) in
    subst (λ (i : ℕ). slots c.args.shared.now.store i ≡ None → ⊥) s.2 (function_used c.args.shared.now.store c.tell_sound.ensures.sound s.1.edge (kind_of s.1.function, kept.0))

pub returns-else-found-eq0-clause-found : goal.returns-else-found-eq0-clause-found
returns-else-found-eq0-clause-found c =
    let s = c.count_of-found.ensures.some c.if-found-eq0.false c.requires.fresh.1 in subst (IsFoundAt c.args.slot (counts_of c.args.pass.now)) (sym s.4) (found-above c.args.slot s.0 (known c.args.pass.now) s.1 (counts_of c.args.pass.now))

pub returns-else-found-eq0-clause-read : goal.returns-else-found-eq0-clause-read
returns-else-found-eq0-clause-read c =
    let s = c.count_of-found.ensures.some c.if-found-eq0.false c.requires.fresh.1 in
    let kept = known-kept c.args.shared.now c.args.pass.now.seat.me.0 c.requires.serves s.1 (ap (λ (i : ℕ). times i (counts_of c.args.pass.now).zeros) s.2 ∙ c.requires.fresh.0) (s.3 c.requires.at.1) in
    read-above c.args.slot s.0 c.args.shared.now _ (known c.args.pass.now) _ (counts_of c.args.pass.now) _ s.1 c.count_of-found.ensures.own.1 s.4 s.2 kept c.count_in.ensures.rest c.count_in.ensures.here
