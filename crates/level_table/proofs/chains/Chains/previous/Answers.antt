use Rattle.std.proofs.Common.{◌≡◌, ◌<◌, length, get_or, ap, arith}
use Rattle.std.proofs.lemmas.List.{get_or_read}
use Rattle.level_table.proofs.Chaining.{bucket-within}
use Rattle.level_table.proofs.chains.Chains.previous.Goals as goal

pub returns : goal.returns
returns c =
    let hashes = c.self.inside.hashes.items in
    let links = c.self.inside.links.items in
    let heads = c.self.inside.heads.items in
    let place = c.args.place in
    let chains = c.self.invariant in
    let within : place < length hashes = (let long = ap (λ h. length h.hashes) c.self.view_is in let w = c.requires in omega arith) in
    let within' : place < length links = (let long = chains.as_long in omega arith) in
    let link : c.index.result.now ≡ get_or links place 0 = get_or_read links place c.index.result.now within' c.index.ensures 0 in
    let hash : c.index-2.result.now ≡ get_or hashes place 0 = get_or_read hashes place c.index-2.result.now within c.index-2.ensures 0 in
    let said = rw (c.deref.ensures.value, c.deref-2.ensures.value, hash, link) at c.candidate.ensures in
    rw (← c.self.view_is)
    (said heads place chains (chains.chained.links_are place within' (bucket-within hashes (length heads) place chains.bucket)))
