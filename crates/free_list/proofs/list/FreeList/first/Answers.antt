use Rattle.std.proofs.Common.{◌≡◌, ◌+◌, ◌-◌, suc, length, ap, sym, ◌∙◌, arith}
use Rattle.std.specs.Prelude.{slice_index}
use Rattle.std.proofs.lemmas.List.{get_or_read}
use Rattle.free_list.specs.FreeSlots.{FreeSlots, free_slots}
use Rattle.free_list.proofs.Stacks.{first_freed, first_next, last_of, no_first, none_of}
use Rattle.free_list.proofs.list.FreeList.first.Goals as goal

pub returns-then-count-gt0-clause-some : goal.returns-then-count-gt0-clause-some
returns-then-count-gt0-clause-some c =
    let l = c.self.inside in
    let many : c.len-count.result ≡ length l.freed.items = c.len-count.ensures ∙ l.freed.ok.0 in
    let some = c.if-count-gt0.true in
    let long : length l.freed.items ≡ suc (c.len-count.result - 1) = omega (arith, many, some) in
    let read : c.index.result.now ≡ slice_index l.freed.items (c.len-count.result - 1) = get_or_read l.freed.items (c.len-count.result - 1) c.index.result.now (omega (arith, many, some)) c.index.ensures 0 in
    let last = last_of l.freed.items (c.len-count.result - 1) c.index.result.now long read in
    (free_slots last.0 l.next l.end, ap (λ (v : FreeSlots). v.slots) (sym c.self.view_is) ∙ first_freed l.freed.items last.0 c.index.result.now l.next l.end last.1)

pub returns-then-self-clause-some : goal.returns-then-self-clause-some
returns-then-self-clause-some c =
    let l = c.self.inside in
    let many : c.len-count.result ≡ length l.freed.items = c.len-count.ensures ∙ l.freed.ok.0 in
    let none = c.if-count-gt0.false in
    (free_slots l.freed.items (l.next + 1) l.end, ap (λ (v : FreeSlots). v.slots) (sym c.self.view_is) ∙ first_next l.freed.items l.next l.end (none_of l.freed.items (omega (arith, many, none))) c.if-self.true)

pub returns-else-self-clause-none : goal.returns-else-self-clause-none
returns-else-self-clause-none c =
    let l = c.self.inside in
    let many : c.len-count.result ≡ length l.freed.items = c.len-count.ensures ∙ l.freed.ok.0 in
    let none = c.if-count-gt0.false in
    let beyond = c.if-self.false in
    ap (λ (v : FreeSlots). v.slots) (sym c.self.view_is) ∙ no_first l.freed.items l.next l.end (none_of l.freed.items (omega (arith, many, none))) (omega (arith, beyond))
