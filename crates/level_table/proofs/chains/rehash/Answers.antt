use Rattle.std.proofs.Common.{◌≡◌, ℕ, ◌%◌, length, set, sym, ◌∙◌, ap, subst, refl, arith}
use Rattle.std.proofs.lemmas.List.{get_or-set_same, get_or-set_other, length-set}
use Rattle.level_table.specs.Chains.{bucket_of, put, IsChained}
use Rattle.level_table.proofs.Chaining.{put-here, put-other}
use Rattle.level_table.proofs.chains.rehash.Goals as goal

pub returns-clause-chains : goal.returns-clause-chains
returns-clause-chains c =
    let hashes = c.args.hashes.now in let place = c.args.place in
    let chains = c.requires.chains in
    let buckets = length c.args.heads.now in
    let middle = length c.unlink.new.heads in
    let same : middle ≡ buckets = c.unlink.auto.heads in
    let wide : length c.link.new.heads ≡ buckets = c.link.auto.heads ∙ same in
    let at : ℕ → ℕ = bucket_of hashes buckets in
    let after : ℕ → ℕ = bucket_of (set hashes place c.args.hash) buckets in
    let out = c.unlink.ensures at chains.chained refl in
    let into = c.link.ensures (put at place middle) after out (put-here at place middle)
    (λ k ne. ap (λ h. h % buckets) (get_or-set_other hashes place k c.args.hash 0 ne) ∙ sym (put-other at place middle k ne))
    (ap (λ h. h % buckets) (get_or-set_same hashes place c.args.hash 0 c.requires.within) ∙ ap (λ n. c.args.hash % n) (sym same)) in
    record {
      as_long = c.link.auto.links ∙ c.unlink.auto.links ∙ chains.as_long ∙ sym (length-set hashes place c.args.hash);
      few = (let l = length-set hashes place c.args.hash in let f = chains.few in omega arith);
      bucket = (let some = chains.bucket in omega arith);
      chained = subst (λ n. IsChained (bucket_of (set hashes place c.args.hash) n) c.link.new.heads c.link.new.links) (sym wide) into;
    }
