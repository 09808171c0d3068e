use Rattle.std.proofs.Common.{◌≡◌, suc, ◌<◌, length, get_or, sym, ◌∙◌, ap, subst, arith}
use Rattle.std.proofs.lemmas.Grind.{common_steps}
use Rattle.std.proofs.lemmas.List.{length-map, get_or_read}
use Rattle.level_table.specs.Chains.{link_to}
use Rattle.level_table.specs.Tables.{hash_of, IsOf}
use Rattle.level_table.specs.declared.table.Entry.{Entry}
use Rattle.edge_bits.proofs.EdgeLemmas.{words_same}
use Rattle.level_table.proofs.Entries.{same_edge, none_on, none_first}
use Rattle.level_table.proofs.table.LevelTable.place_of.Goals as goal
use Rattle.level_table.proofs.table.LevelTable.place_of.Goals.{else-entry-hi-via-then-entry-hi+else-eq, else-entry-hi-via-else-entry-hi}

pub loop-candidate-init : goal.loop-candidate-init
loop-candidate-init c =
    let entries = c.self.inside.entries.items in
    let hashes = c.self.inside.chains.hashes in
    let are = c.self.invariant.hashes in
    let long : length hashes ≡ length entries = ap length are ∙ length-map entries (λ (e : Entry). hash_of e.hi e.lo) in
    let last = c.last-candidate.ensures in
    record {
      within = (let w = last.within in omega arith);
      here = λ k e. last.here k e ∙ c.mix.ensures;
      none = none_first hashes entries c.args.hi c.args.lo are (length hashes) (link_to c.last-candidate.result) (omega arith) (rw c.mix.ensures at last);
    }

pub loop-candidate-preserved : goal.loop-candidate-preserved
loop-candidate-preserved c =
    let entries = c.self.inside.entries.items in
    let hashes = c.self.inside.chains.hashes in
    let are = c.self.invariant.hashes in
    let old = c.loop-candidate.invariant in
    let place = c.in-Some.place in
    let next = c.previous-candidate.ensures in
    let at : link_to c.loop-candidate.candidate ≡ suc place = ap link_to c.in-Some.is in
    let hash = old.here place at in
    let in' : place < length entries = (let w = old.within in omega arith) in
    let entry = c.index.result.now in
    let other : (d : Entry) → IsOf c.args.hi c.args.lo (get_or entries place d) → ⊥ = (λ d is.
    let here : IsOf c.args.hi c.args.lo entry = subst (IsOf c.args.hi c.args.lo) (sym (get_or_read entries place entry in' c.index.ensures d)) is in
    elim c.else-entry-hi.branch [
      | else-entry-hi-via-then-entry-hi+else-eq w ↦ (let same = w.eq.ensures ∙ words_same entry.lo c.args.lo ∙ same_edge entry.lo c.args.lo here.1 in let differ = w.if-eq.false in cc)
      | else-entry-hi-via-else-entry-hi w ↦ w.if-entry-hi.false here.0
    ]) in
    record {
      within = (let w = next.within in let v = old.within in omega arith);
      here = λ k e. next.here k e ∙ hash;
      none = none_on hashes entries c.args.hi c.args.lo are place (link_to c.previous-candidate.result) hash next other (λ k d from. old.none k d (omega arith));
    }

pub returns-then-eq : goal.returns-then-eq
returns-then-eq c = grind (arith, common_steps)

pub previous-candidate-requires : goal.previous-candidate-requires
previous-candidate-requires c = grind (arith, common_steps)
