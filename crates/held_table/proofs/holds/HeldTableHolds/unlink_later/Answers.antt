use Rattle.std.proofs.Common.{◌<◌, [], ◌∷◌, ◌++◌, length, ◌∙◌, refl, sym, subst, arith}
use Rattle.held_table.proofs.Links.{listed_before, one_more, unlinks_next}
use Rattle.held_table.proofs.Tables.{walk_inside}
use Rattle.held_table.proofs.holds.HeldTableHolds.unlink_later.Goals as goal

pub index_mut-requires : goal.index_mut-requires
index_mut-requires c =
    let t = c.args.self.now in
    let l = c.requires.later in
    let lt : c.args.before < length t.nexts.items = (let u = walk_inside t c.requires.own c.args.before (l.0, l.3, listed_before c.args.before c.args.slot l.0.rest l.1 l.2 l.4) in let m = c.requires.own.words.as_many_nexts in omega (arith, u, m)) in
    subst (λ n. c.args.before < n) (sym t.nexts.ok.0) lt

pub returns-clause-own : goal.returns-clause-own
returns-clause-own c =
    let t = c.args.self.now in
    let l = c.requires.later in
    let link = c.requires.link l.0 (l.1 ++ c.args.before ∷ []) l.2 l.3 (l.4 ∙ sym (one_more c.args.before c.args.slot l.1 l.2)) in
    (unlinks_next t c.requires.own c.args.slot c.requires.calm l.0 l.3 _ c.args.before c.args.link l.1 l.2 l.4 link refl refl).1
