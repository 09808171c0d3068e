use Rattle.std.proofs.Common.{◌≡◌, ℕ, ◌<◌, ◌%◌, length, get_or, sym, ◌∙◌, subst, arith}
use Rattle.std.proofs.lemmas.Grind.{moves}
use Rattle.std.proofs.lemmas.List.{get_or_read}
use Rattle.level_table.specs.Chains.{bucket_of, IsLatest}
use Rattle.level_table.proofs.chains.Chains.last.Goals as goal

pub returns : goal.returns
returns c =
    let hashes = c.self.inside.hashes.items in
    let heads = c.self.inside.heads.items in
    let chains = c.self.invariant in
    let long : c.len.result ≡ length heads = c.len.ensures ∙ c.self.inside.heads.ok.0 in
    let bucket : ℕ = c.args.hash % length heads in
    let bound : bucket < length heads = (let some = chains.bucket in omega arith) in
    let head : c.index.result.now ≡ get_or heads bucket 0 = get_or_read heads bucket c.index.result.now bound (rw long at c.index.ensures) 0 in
    let said = rw (c.deref.ensures.value, c.deref-2.ensures.value) at c.candidate.ensures in
    rw (← c.self.view_is)
    (said heads (length hashes) chains
    (subst (λ r. IsLatest (bucket_of hashes (length heads)) bucket (length hashes) r) (sym head)
    (subst (λ n. IsLatest (bucket_of hashes (length heads)) bucket n (get_or heads bucket 0)) chains.as_long (chains.chained.heads_are bucket bound))))

pub candidate-requires-clause-within : goal.candidate-requires-clause-within
candidate-requires-clause-within c = grind (arith, moves)
