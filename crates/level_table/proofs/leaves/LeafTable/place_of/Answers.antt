use Rattle.std.proofs.Common.{◌≡◌, suc, ◌<◌, w64, of_z, length, get_or, sym, ◌∙◌, ap, subst, arith}
use Rattle.std.proofs.lemmas.Grind.{common_steps}
use Rattle.std.proofs.lemmas.Int.{to_z-of_z}
use Rattle.std.proofs.lemmas.List.{length-map, get_or_read}
use Rattle.level_table.specs.Chains.{link_to}
use Rattle.level_table.specs.Leaves.{hash_of_value, IsOfValue}
use Rattle.level_table.specs.declared.leaves.LeafEntry.{LeafEntry}
use Rattle.level_table.proofs.Keyed.{key_none_on, key_none_first}
use Rattle.level_table.proofs.LeafKeys.{value_of, value-alike}
use Rattle.level_table.proofs.leaves.LeafTable.place_of.Goals as goal

pub loop-candidate-init : goal.loop-candidate-init
loop-candidate-init c =
    let entries = c.self.inside.entries.items in
    let hashes = c.self.inside.chains.hashes in
    let are = c.self.invariant.hashes in
    let long : length hashes ≡ length entries = ap length are ∙ length-map entries (λ (e : LeafEntry). hash_of_value e.value) in
    let round = to_z-of_z w64 c.args.value c.ranges.value in
    let hash : c.mix.result ≡ hash_of_value c.args.value = c.mix.ensures ∙ ap hash_of_value round in
    let last = c.last-candidate.ensures in
    rw round
    (record {
      within = (let w = last.within in omega arith);
      here = λ k e. last.here k e ∙ hash;
      none = key_none_first IsOfValue value_of hash_of_value value-alike hashes entries c.args.value are (length hashes) (link_to c.last-candidate.result) (omega arith) (rw hash at last);
    })

pub loop-candidate-preserved : goal.loop-candidate-preserved
loop-candidate-preserved c =
    let entries = c.self.inside.entries.items in
    let hashes = c.self.inside.chains.hashes in
    let round = to_z-of_z w64 c.args.value c.ranges.value in
    let old = rw round at c.loop-candidate.invariant in
    let place = c.in-Some.place in
    let next = c.previous-candidate.ensures in
    let at : link_to c.loop-candidate.candidate ≡ suc place = ap link_to c.in-Some.is in
    let hash = old.here place at in
    let in' : place < length entries = (let w = old.within in omega arith) in
    let entry = c.index.result.now in
    let other : (d : LeafEntry) → IsOfValue c.args.value (get_or entries place d) → ⊥ = (λ d is.
    let here : IsOfValue c.args.value entry = subst (IsOfValue c.args.value) (sym (get_or_read entries place entry in' c.index.ensures d)) is in
    c.if-index-value.false (ap (of_z w64) here)) in
    rw round
    (record {
      within = (let w = next.within in let v = old.within in omega arith);
      here = λ k e. next.here k e ∙ hash;
      none = key_none_on IsOfValue value_of hash_of_value value-alike hashes entries c.args.value c.self.invariant.hashes place (link_to c.previous-candidate.result) hash next other (λ k d from. old.none k d (omega arith));
    })

pub returns-then-index-value : goal.returns-then-index-value
returns-then-index-value c = grind (arith, common_steps)

pub previous-candidate-requires : goal.previous-candidate-requires
previous-candidate-requires c = grind (arith, common_steps)
