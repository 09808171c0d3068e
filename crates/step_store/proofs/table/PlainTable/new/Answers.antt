use Rattle.std.proofs.Common.{◌≡◌, length, refl, sym, ◌∙◌, arith}
use Rattle.std.proofs.lemmas.List.FromFn.{length-range_with_len}
use Rattle.step_store.proofs.Beginnings.{begins_core}
use Rattle.step_store.proofs.table.PlainTable.new.Goals as goal

pub returns-clause-own : goal.returns-clause-own
returns-clause-own c =
    let many : length c.write_permanent.new.words.items ≡ c.args.limit = c.write_permanent.ensures.length ∙ sym c.in_ok-words.words.ok.0 ∙ c.in_ok-words.ensures.len in
    let many_nexts : length c.link_slots.new.nexts.items ≡ c.args.limit = c.link_slots.ensures.nexts ∙ sym c.in_ok-nexts.nexts.ok.0 ∙ c.in_ok-nexts.ensures.len in
    let heads : length c.link_slots.new.heads.items ≡ c.head_count.result = c.link_slots.ensures.heads ∙ sym c.in_ok-heads.heads.ok.0 ∙ c.in_ok-heads.ensures.len in
    let least = c.head_count.ensures.least in
    let few = c.head_count.ensures.few in
    begins_core _ c.requires.vars c.requires.elements c.requires.least c.requires.most many many_nexts (omega (arith, heads, least)) (omega (arith, heads, few))
    c.write_permanent.ensures.permanent c.write_permanent.ensures.free c.write_permanent.ensures.fits c.link_slots.ensures.chains refl refl refl refl c.in_ok-memo.ensures.empty refl refl

pub returns-clause-sizes : goal.returns-clause-sizes
returns-clause-sizes c = (
  length-range_with_len 0 c.args.vars,
  length-range_with_len 0 c.args.elements,
  c.write_permanent.ensures.length ∙ sym c.in_ok-words.words.ok.0 ∙ c.in_ok-words.ensures.len,
)
