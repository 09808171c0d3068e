use Rattle.std.proofs.Common.{◌≡◌, ◌+◌, ◌<◌, ◌%◌, ◌^◌, length, get_or, ◌∙◌, ap, arith}
use Rattle.std.proofs.lemmas.List.{get_or_read, with_items_is}
use Rattle.level_table.specs.Chains.{AreChains}
use Rattle.level_table.proofs.Chaining.{pushed}
use Rattle.level_table.proofs.chains.Chains.push.Goals as goal
use Rattle.level_table.proofs.chains.Chains.push.Goals.{then-len, else-len}

pub invariant_of-self : goal.invariant_of-self
invariant_of-self c =
    let i = c.if-len.self-inside in
    let chains : AreChains i.hashes.items i.links.items i.heads.items = elim c.if-len.branch [
      | then-len w ↦ (let long : length w.widen.new.links ≡ c.self.inside.links.len = omega (arith, w.widen.auto.links, w.deref_mut.ensures.len) in
          rw (w.self-inside-is, with_items_is c.self.inside.links w.widen.new.links long, ← w.deref.ensures.value) w.widen.ensures)
      | else-len w ↦ rw w.self-inside-is c.self.invariant
    ] in
    let heads = i.heads.items in
    let wide : c.len-3.result ≡ length heads = c.len-3.ensures ∙ i.heads.ok.0 in
    let bound : c.args.hash % length heads < length heads = (let some = chains.bucket in omega arith) in
    let head : c.index.result.now ≡ get_or heads (c.args.hash % length heads) 0 = get_or_read heads (c.args.hash % length heads) c.index.result.now bound (rw wide at c.index.ensures) 0 in
    let long : c.len-4.result ≡ length i.hashes.items + 1 = c.len-4.ensures ∙ c.push_reserved-2.ensures.len ∙ ap (λ k. k + 1) i.hashes.ok.0 in
    let same : length i.hashes.items ≡ length c.self.inside.hashes.items = elim c.if-len.branch [
      | then-len w ↦ rw w.self-inside-is
      | else-len w ↦ rw w.self-inside-is
    ] in
    let few : length i.hashes.items + 1 < 2 ^ 32 = (let v = ap (λ h. length h.hashes) c.self.view_is in let r = c.requires.few in omega arith) in
    rw (c.push_reserved-2.ensures.items, c.push_reserved.ensures.items, head, wide, long) (pushed i.hashes.items i.links.items heads c.args.hash chains few)
