use Rattle.std.proofs.Common.{◌<◌, length, refl, sym, subst}
use Rattle.held_table.proofs.Links.{front_inside, unlinks_head}
use Rattle.held_table.proofs.holds.HeldTableHolds.unlink_first.Goals as goal

pub index_mut-requires : goal.index_mut-requires
index_mut-requires c =
    let t = c.args.self.now in
    let f = c.requires.first in
    let lt : c.args.head < length t.heads.items = front_inside t c.requires.own c.args.slot c.args.head f.0 f.1 f.2 f.3 f.4 in
    subst (λ n. c.args.head < n) (sym t.heads.ok.0) lt

pub returns-clause-own : goal.returns-clause-own
returns-clause-own c =
    let f = c.requires.first in
    unlinks_head c.args.self.now c.requires.own c.args.slot c.requires.calm f.0 f.2 _ c.args.head c.args.link f.1 f.3 f.4 (c.requires.link f.0 f.1 f.2 f.4) refl refl
