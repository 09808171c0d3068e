use Rattle.std.proofs.Common.{◌<◌, length, Option, Some, refl, ap, sym, subst, arith}
use Rattle.std.specs.Vec.{with_item}
use Rattle.step_store.specs.declared.table.Core.{Core}
use Rattle.step_store.specs.Knowing.{Walk, handed}
use Rattle.step_store.specs.Plain.{hand_of, known_of}
use Rattle.step_store.proofs.Moves.{links, links_chain, links_walk, owner_off}
use Rattle.step_store.proofs.plain.PlainTableSteps.store_next.Goals as goal

pub index_mut-requires : goal.index_mut-requires
index_mut-requires c =
    let t = c.args.self.now.core in
    let o = owner_off t c.requires.own c.args.slot c.requires.owns in
    let lt : c.args.slot < length t.nexts.items = let a = o.1 in let m = c.requires.own.as_many_nexts in omega (arith, a, m) in subst (λ n. c.args.slot < n) (sym t.nexts.ok.0) lt

pub returns-clause-own : goal.returns-clause-own
returns-clause-own c = links c.args.self.now.core _ c.requires.own c.args.slot c.args.link refl refl c.requires.owns

pub returns-clause-stored : goal.returns-clause-stored
returns-clause-stored c =
    let t = c.args.self.now in
    let u : Core = record t.core { nexts = with_item t.core.nexts c.args.slot c.args.link; link = Some (record { slot = c.args.slot; next = c.args.link }) } in
    ap (λ (o : Option Walk). handed (known_of t) (record (hand_of t) { link = Some (record { slot = c.args.slot; next = c.args.link }); walk = o }))
    (links_walk t.core u (links_chain t.core u c.requires.own c.args.slot c.args.link refl refl c.requires.owns) t.chain)
