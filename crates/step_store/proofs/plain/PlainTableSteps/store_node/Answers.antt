use Rattle.std.proofs.Common.{◌<◌, length, None, Some, refl, sym, subst, arith}
use Rattle.std.specs.Vec.{with_item}
use Rattle.step_store.specs.declared.table.Core.{Core}
use Rattle.step_store.proofs.Moves.{stored_words, stores}
use Rattle.step_store.proofs.plain.PlainTableSteps.store_node.Goals as goal

pub index_mut-requires : goal.index_mut-requires
index_mut-requires c =
    let t = c.args.self.now.core in
    let d = c.requires.own.slots_taken.taken (record { slot = c.args.slot; bits = c.args.bits }) c.requires.taken in
    let lt : c.args.slot < length t.words.items = let b = d.below in let f = c.requires.own.slots_taken.first in let m = c.requires.own.as_many in omega (arith, b, f, m) in subst (λ n. c.args.slot < n) (sym t.words.ok.0) lt

pub returns-clause-own : goal.returns-clause-own
returns-clause-own c = (stores c.args.self.now.core _ c.requires.own c.args.slot c.args.bits c.requires.taken c.requires.calm refl refl).1

pub returns-clause-grows : goal.returns-clause-grows
returns-clause-grows c =
    let t = c.args.self.now.core in
    let u : Core = record t { words = with_item t.words c.args.slot c.args.bits; taken = None; loose = Some c.args.slot } in
    let d = c.requires.own.slots_taken.taken (record { slot = c.args.slot; bits = c.args.bits }) c.requires.taken in
    let lt : c.args.slot < length t.words.items = let b = d.below in let f = c.requires.own.slots_taken.first in let m = c.requires.own.as_many in omega (arith, b, f, m) in
    let s = (stores t u c.requires.own c.args.slot c.args.bits c.requires.taken c.requires.calm refl refl).0 d.word d.reads in
    record { grown = s.grown; room = refl; words = (stored_words t.words.items c.args.slot c.args.bits d.word lt d.free d.reads).0; heads = refl }

pub returns-clause-noted : goal.returns-clause-noted
returns-clause-noted c =
    let t = c.args.self.now.core in
    let d = c.requires.own.slots_taken.taken (record { slot = c.args.slot; bits = c.args.bits }) c.requires.taken in
    let lt : c.args.slot < length t.words.items = let b = d.below in let f = c.requires.own.slots_taken.first in let m = c.requires.own.as_many in omega (arith, b, f, m) in
    (stored_words t.words.items c.args.slot c.args.bits d.word lt d.free d.reads).1

pub returns-clause-stored : goal.returns-clause-stored
returns-clause-stored c = λ word reads.
    let t = c.args.self.now.core in
    let u : Core = record t { words = with_item t.words c.args.slot c.args.bits; taken = None; loose = Some c.args.slot } in
    ((stores t u c.requires.own c.args.slot c.args.bits c.requires.taken c.requires.calm refl refl).0 word reads).has

pub returns-clause-made : goal.returns-clause-made
returns-clause-made c =
    let t = c.args.self.now.core in
    let u : Core = record t { words = with_item t.words c.args.slot c.args.bits; taken = None; loose = Some c.args.slot } in
    let d = c.requires.own.slots_taken.taken (record { slot = c.args.slot; bits = c.args.bits }) c.requires.taken in
    ((stores t u c.requires.own c.args.slot c.args.bits c.requires.taken c.requires.calm refl refl).0 d.word d.reads).made

pub returns-clause-due : goal.returns-clause-due
returns-clause-due c =
    let t = c.args.self.now.core in
    let u : Core = record t { words = with_item t.words c.args.slot c.args.bits; taken = None; loose = Some c.args.slot } in
    let d = c.requires.own.slots_taken.taken (record { slot = c.args.slot; bits = c.args.bits }) c.requires.taken in
    ((stores t u c.requires.own c.args.slot c.args.bits c.requires.taken c.requires.calm refl refl).0 d.word d.reads).due
