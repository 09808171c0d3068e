use Rattle.std.proofs.Common.{◌≡◌, refl, ◌∙◌}
use Rattle.std.specs.Prelude.{slice_index}
use Rattle.std.proofs.lemmas.List.{get_or_read}
use Rattle.step_store.specs.Plain.{chain_in}
use Rattle.step_store.proofs.Tables.{head_chain, head_link}
use Rattle.step_store.proofs.plain.PlainTableSteps.load_head.Goals as goal

pub returns-clause-loaded : goal.returns-clause-loaded
returns-clause-loaded c =
    let t = c.args.self.now.core in
    let e : c.index.result.now ≡ slice_index t.heads.items c.args.head = get_or_read t.heads.items c.args.head c.index.result.now c.requires.within c.index.ensures 0 in
    (chain_in t c.args.head, refl, e ∙ head_link t c.requires.own c.args.head c.requires.within, head_chain t c.requires.own c.args.head c.requires.within)
