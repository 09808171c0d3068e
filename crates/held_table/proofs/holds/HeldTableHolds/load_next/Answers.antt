use Rattle.std.proofs.Common.{◌≡◌, ◌<◌, length, ap, sym, subst, ◌∙◌, arith}
use Rattle.std.specs.Prelude.{slice_index}
use Rattle.std.proofs.lemmas.List.{get_or_read}
use Rattle.step_store.specs.Knowing.{Walk}
use Rattle.held_table.proofs.Tables.{next_link, walk_inside, walk_is}
use Rattle.held_table.proofs.holds.HeldTableHolds.load_next.Goals as goal

pub index-requires : goal.index-requires
index-requires c =
    let t = c.args.self.now in
    let lt : c.args.slot < length t.nexts.items = let a = walk_inside t c.requires.own c.args.slot c.requires.on in let m = c.requires.own.words.as_many_nexts in omega (arith, a, m) in
    subst (λ n. c.args.slot < n) (sym t.nexts.ok.0) lt

pub returns-clause-next : goal.returns-clause-next
returns-clause-next c = λ n front behind walk parts.
    let t = c.args.self.now in
    let w = walk_is t t.walk n walk in
    let lt : c.args.slot < length t.nexts.items = let a = walk_inside t c.requires.own c.args.slot c.requires.on in let m = c.requires.own.words.as_many_nexts in omega (arith, a, m) in
    let e : c.index.result.now ≡ slice_index t.nexts.items c.args.slot = get_or_read t.nexts.items c.args.slot c.index.result.now lt c.index.ensures 0 in
    e ∙ next_link t c.requires.own w.0.head c.args.slot front behind (ap (λ (x : Walk). x.rest) (sym w.2) ∙ parts)
