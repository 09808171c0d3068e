use Rattle.std.proofs.Common.{◌≡◌, ◌-◌, suc, length, ◌∙◌, arith}
use Rattle.std.specs.Prelude.{slice_index}
use Rattle.std.proofs.lemmas.List.{get_or_read}
use Rattle.held_table.proofs.Frees.{first_freed, first_next, last_of, no_first, no_last}
use Rattle.held_table.proofs.holds.first_of.Goals as goal

pub returns-then-count-gt0-clause-some : goal.returns-then-count-gt0-clause-some
returns-then-count-gt0-clause-some c =
    let v = c.args.freed.now in
    let many : c.len-count.result ≡ length v.items = c.len-count.ensures ∙ v.ok.0 in
    let some = c.if-count-gt0.true in
    let long : length v.items ≡ suc (c.len-count.result - 1) = omega (arith, many, some) in
    let read : c.index.result.now ≡ slice_index v.items (c.len-count.result - 1) = get_or_read v.items (c.len-count.result - 1) c.index.result.now (omega (arith, many, some)) c.index.ensures 0 in
    let l = last_of v.items (c.len-count.result - 1) c.index.result.now long read in
    first_freed v.items l.0 c.index.result.now c.args.next_free c.args.limit l.1

pub returns-then-next_free-limit-clause-some : goal.returns-then-next_free-limit-clause-some
returns-then-next_free-limit-clause-some c =
    let v = c.args.freed.now in
    let many : c.len-count.result ≡ length v.items = c.len-count.ensures ∙ v.ok.0 in
    let none = c.if-count-gt0.false in
    first_next v.items c.args.next_free c.args.limit (no_last v.items (omega (arith, many, none))) c.if-next_free-limit.true

pub returns-else-next_free-limit-clause-none : goal.returns-else-next_free-limit-clause-none
returns-else-next_free-limit-clause-none c =
    let v = c.args.freed.now in
    let many : c.len-count.result ≡ length v.items = c.len-count.ensures ∙ v.ok.0 in
    let none = c.if-count-gt0.false in
    let beyond = c.if-next_free-limit.false in
    no_first v.items c.args.next_free c.args.limit (no_last v.items (omega (arith, many, none))) (omega (arith, beyond))
