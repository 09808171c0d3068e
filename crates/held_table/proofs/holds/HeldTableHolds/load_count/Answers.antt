use Rattle.std.proofs.Common.{◌≡◌, ℕ, ◌+◌, ◌<◌, length, ap, sym, ◌∙◌, arith}
use Rattle.std.specs.Prelude.{slice_index}
use Rattle.std.proofs.lemmas.List.{get_or_read}
use Rattle.handle_count.specs.CountWords.{count_of}
use Rattle.node_slots.specs.Stores.{count_at}
use Rattle.held_table.specs.Tables.{known_of, plain_of, view_of}
use Rattle.held_table.proofs.Counts.{pinned_none, pinned_one, put_back}
use Rattle.held_table.proofs.holds.HeldTableHolds.load_count.Goals as goal

pub returns-then-index-eq1-clause-counted : goal.returns-then-index-eq1-clause-counted
returns-then-index-eq1-clause-counted c =
    let t = c.args.self.now in
    let lt : c.args.slot < length t.counts.items = let a = c.requires.within in let m = c.requires.own.words.as_many in let n = c.requires.own.words.as_many_counts in omega (arith, a, m, n) in
    let read : c.index-word.result.now ≡ slice_index t.counts.items c.args.slot = get_or_read t.counts.items c.args.slot c.index-word.result.now lt c.index-word.ensures 0 in
    let at : c.args.slot < length t.pins.items = let a = c.requires.within in let m = c.requires.own.words.as_many in let n = c.requires.own.words.as_many_pins in omega (arith, a, m, n) in
    let pin : c.index.result.now ≡ slice_index t.pins.items c.args.slot = get_or_read t.pins.items c.args.slot c.index.result.now at c.index.ensures 0 in
    let n : ℕ = count_at (plain_of t) c.args.slot in (
      n,
      sym (ap (λ (f : ℕ → ℕ). record (known_of t) { content = record (view_of t) { count = f } }) (put_back (view_of t).count c.args.slot)),
      c.raise.ensures.count ∙ ap (λ x. x + 1) (ap count_of read) ∙ ap (λ x. n + x) (sym (pinned_one t.pins.items c.args.slot (sym pin ∙ c.if-index-eq1.true))),
    )

pub returns-else-index-eq1-clause-counted : goal.returns-else-index-eq1-clause-counted
returns-else-index-eq1-clause-counted c =
    let t = c.args.self.now in
    let lt : c.args.slot < length t.counts.items = let a = c.requires.within in let m = c.requires.own.words.as_many in let n = c.requires.own.words.as_many_counts in omega (arith, a, m, n) in
    let read : c.index-word.result.now ≡ slice_index t.counts.items c.args.slot = get_or_read t.counts.items c.args.slot c.index-word.result.now lt c.index-word.ensures 0 in
    let at : c.args.slot < length t.pins.items = let a = c.requires.within in let m = c.requires.own.words.as_many in let n = c.requires.own.words.as_many_pins in omega (arith, a, m, n) in
    let pin : c.index.result.now ≡ slice_index t.pins.items c.args.slot = get_or_read t.pins.items c.args.slot c.index.result.now at c.index.ensures 0 in
    let n : ℕ = count_at (plain_of t) c.args.slot in
    let none = pinned_none t.pins.items c.args.slot (λ e. c.if-index-eq1.false (pin ∙ e)) in
    let same : n ≡ n + 0 = omega arith in (
      n,
      sym (ap (λ (f : ℕ → ℕ). record (known_of t) { content = record (view_of t) { count = f } }) (put_back (view_of t).count c.args.slot)),
      ap count_of read ∙ same ∙ ap (λ x. n + x) (sym none),
    )
