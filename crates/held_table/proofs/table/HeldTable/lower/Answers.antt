use Rattle.std.proofs.Common.{◌≡◌, ◌<◌, length, refl, ap, ◌∙◌, arith}
use Rattle.std.specs.Prelude.{slice_index}
use Rattle.std.specs.Vec.{with_item}
use Rattle.std.proofs.lemmas.List.{get_or_read}
use Rattle.handle_count.specs.CountWords.{count_of, generation_of}
use Rattle.node_store.specs.Contents.{Content}
use Rattle.held_table.specs.declared.table.HeldTable.{HeldTable}
use Rattle.held_table.specs.Tables.{known_of}
use Rattle.held_table.proofs.Counts.{lowers}
use Rattle.held_table.proofs.table.HeldTable.lower.Goals as goal

pub returns-clause-own : goal.returns-clause-own
returns-clause-own c =
    let t = c.args.self.now in
    let lt : c.args.slot < t.limit = let a = c.requires.within in let m = c.requires.own.words.as_many in omega (arith, a, m) in
    let inside : c.args.slot < length t.counts.items = let m = c.requires.own.words.as_many_counts in omega (arith, lt, m) in
    let read : c.index-word.result.now ≡ slice_index t.counts.items c.args.slot = get_or_read t.counts.items c.args.slot c.index-word.result.now inside c.index-word.ensures 0 in
    (lowers t _ c.requires.own c.args.slot c.lower.result lt (c.lower.ensures.count ∙ ap count_of read) (c.lower.ensures.generation ∙ ap generation_of read) refl refl).0

pub returns-clause-lowered : goal.returns-clause-lowered
returns-clause-lowered c =
    let t = c.args.self.now in
    let lt : c.args.slot < t.limit = let a = c.requires.within in let m = c.requires.own.words.as_many in omega (arith, a, m) in
    let inside : c.args.slot < length t.counts.items = let m = c.requires.own.words.as_many_counts in omega (arith, lt, m) in
    let read : c.index-word.result.now ≡ slice_index t.counts.items c.args.slot = get_or_read t.counts.items c.args.slot c.index-word.result.now inside c.index-word.ensures 0 in
    let u : HeldTable = record t { counts = with_item t.counts c.args.slot c.lower.result } in
    ap (λ (w : Content). record (known_of t) { content = w }) (lowers t u c.requires.own c.args.slot c.lower.result lt (c.lower.ensures.count ∙ ap count_of read) (c.lower.ensures.generation ∙ ap generation_of read) refl refl).1
