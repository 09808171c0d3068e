use Rattle.std.proofs.Common.{inl, inr, arith}
use Rattle.edge_bits.specs.declared.edges.Kind.TheVariants.{Zdd}
use Rattle.node_store.specs.ViewLaws.{Denotes-lasts, Grown-trans, Kept-trans}
use Rattle.node_store.proofs.Running.{Adds-between, IsWork-between, lasting}
use Rattle.cover_isop.specs.Isops.{HasBounds}
use Rattle.cover_isop.specs.IsopLasts.{HasBounds-grown, isop_work-back}
use Rattle.cover_isop.proofs.IsopCalls.{HasLevels-back, Irredundant-later, each-answer, same_cover}
use Rattle.cover_isop.proofs.operations.isop.Goals as goal

pub isop_within-outcome-requires-clause-bounds : goal.isop_within-outcome-requires-clause-bounds
isop_within-outcome-requires-clause-bounds g c =
    let m = Grown-trans c.take_scratch-stack.ensures.kept.grown (Grown-trans c.tell_levels.ensures.kept.grown c.levels-levels.ensures.kept.grown) in
    let d : HasBounds (g.G.Grow.view c.args.store.now) c.args.lower c.args.upper = record { variables = c.requires.variables; literals = c.requires.literals; two = c.requires.bounds } in
    HasBounds-grown m d

pub returns-clause-serves : goal.returns-clause-serves
returns-clause-serves g c =
    let taken = c.take_scratch-stack.ensures in let told = c.tell_levels.ensures in let levels = c.levels-levels.ensures in let given = c.give_scratch.ensures in
    let r = c.isop_within-outcome.ensures.serves in let two = c.requires.bounds in
    let before = Kept-trans taken.kept (Kept-trans told.kept levels.kept) in
    record {
      grown = Grown-trans before.grown (Grown-trans r.grown given.kept.grown);
      room = (let a = taken.room in let b = r.room in let e = given.room in omega (arith, a, b, e));
      answer = lasting _ _ _ (λ e is. Denotes-lasts Zdd given.kept.grown (same_cover before.grown two) is) r.answer;
      overflow = r.overflow;
      work = Adds-between _ _ (λ F is. isop_work-back before.grown F two is) _ _ _ _ before given.kept r.work;
      memory = λ is. elim (r.memory is) [
        | inl short ↦ inl (let a = taken.room in let l = levels.levels in let m = before.grown.elements in omega (arith, short, a, l, m))
        | inr may ↦ inr (before.grown.wants may)
      ];
      full = λ is few. (let a = r.full is in let k = before.fulls in let l = given.kept.fulls in omega (arith, a, k, l));
      due = λ is. IsWork-between _ _ (λ F is. isop_work-back before.grown F two is) _ _ given.kept (r.due is);
    }

pub returns-clause-irredundant : goal.returns-clause-irredundant
returns-clause-irredundant g c =
    let v = g.G.Grow.view c.args.store.now in let w = g.G.Grow.view c.give_scratch.new.self in
    let taken = c.take_scratch-stack.ensures in let told = c.tell_levels.ensures in let levels = c.levels-levels.ensures in let given = c.give_scratch.ensures in
    let r = c.isop_within-outcome.ensures.serves in let two = c.requires.bounds in
    let before = Kept-trans taken.kept (Kept-trans told.kept levels.kept) in
    let has = HasLevels-back (Grown-trans taken.kept.grown told.kept.grown) told.levels in
    each-answer c.isop_within-outcome.result (λ e is. Irredundant-later v w c.args.lower c.args.upper e has c.requires.literals c.requires.ordered (Denotes-lasts Zdd given.kept.grown (same_cover before.grown two) is)) r.answer
