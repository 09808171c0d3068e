use Rattle.std.proofs.Common.{◌≡◌, ◌<◌, length, ap, sym, subst, ◌∙◌}
use Rattle.std.specs.Prelude.{slice_index}
use Rattle.std.proofs.lemmas.List.{get_or_read}
use Rattle.step_store.specs.Knowing.{Walk}
use Rattle.step_store.proofs.Tables.{next_inside, next_link, walk_is}
use Rattle.step_store.proofs.plain.PlainTableSteps.load_next.Goals as goal

pub index-requires : goal.index-requires
index-requires c =
    let t = c.args.self.now in
    let n : c.args.slot < length t.core.nexts.items = next_inside t c.requires.own c.args.slot c.requires.on in
    subst (λ n. c.args.slot < n) (sym t.core.nexts.ok.0) n

pub returns-clause-next : goal.returns-clause-next
returns-clause-next c = λ n front behind walk parts.
    let t = c.args.self.now in
    let w = walk_is t.core t.chain n walk in
    let e : c.index.result.now ≡ slice_index t.core.nexts.items c.args.slot = get_or_read t.core.nexts.items c.args.slot c.index.result.now (next_inside t c.requires.own c.args.slot c.requires.on) c.index.ensures 0 in
    e ∙ next_link t.core c.requires.own w.0.head c.args.slot front behind (ap (λ (x : Walk). x.rest) (sym w.2) ∙ parts)
