use Rattle.std.proofs.Common.{◌≡◌, refl, ◌∙◌}
use Rattle.std.specs.Prelude.{slice_index}
use Rattle.std.proofs.lemmas.List.{get_or_read}
use Rattle.held_table.specs.Tables.{chain_in}
use Rattle.held_table.proofs.Tables.{head_link, whole}
use Rattle.held_table.proofs.holds.HeldTableHolds.load_head.Goals as goal

pub returns-clause-loaded : goal.returns-clause-loaded
returns-clause-loaded c =
    let t = c.args.self.now in
    let e : c.index.result.now ≡ slice_index t.heads.items c.args.head = get_or_read t.heads.items c.args.head c.index.result.now c.requires.within c.index.ensures 0 in
    (chain_in t c.args.head, refl, e ∙ head_link t c.requires.own c.args.head c.requires.within, whole t c.requires.own c.args.head c.args.level c.requires.within)
