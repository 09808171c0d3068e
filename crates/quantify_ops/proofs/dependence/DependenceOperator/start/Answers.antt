use Rattle.std.proofs.Common.{◌≡◌, Some, refl, ap, sym, ◌∙◌, set, subst, arith}
use Rattle.edge_bits.specs.declared.edges.Kind.TheVariants.{Bdd}
use Rattle.node_store.specs.States.{State, state_of}
use Rattle.node_store.specs.Views.{IsInner, Kept, bdd_at}
use Rattle.node_store.specs.ViewLaws.{Kept-trans, level-grown}
use Rattle.quantify_ops.specs.Supports.{WalkMoves}
use Rattle.quantify_ops.proofs.SupportLaws.{Covers-leaf, marked, node_mark, node_moves, node_waits, opened_later, same_state, then_due, then_less, walk_kept}
use Rattle.quantify_ops.proofs.dependence.DependenceOperator.start.Goals as goal
use Rattle.quantify_ops.proofs.dependence.DependenceOperator.start.Goals.{In-Inner, After-mark}
use Rattle.quantify_ops.proofs.dependence.DependenceOperator.start.Given as given

pub returns-in-Some-clause-next : goal.returns-in-Some-clause-next
returns-in-Some-clause-next g c = let r = c.in-Some.ensures in (c.requires.due.walk.knows r.0 _ r.1).1

pub returns-in_default-open-clause-moved : goal.returns-in_default-open-clause-moved
returns-in_default-open-clause-moved g c = walk_kept c.args.self.now.f (state_of (g.G.Grow.view c.args.store.now) c.args.stack.now) _ c.in_default-open.ensures.kept

pub returns-in_default-open-clause-next : goal.returns-in_default-open-clause-next
returns-in_default-open-clause-next g c = let e = c.in_default-open.ensures in Covers-leaf _ _ _ c.args.task.f _ e.kept.grown c.requires.due.edge (e.opens Bdd c.requires.due.edge)

pub level-level-requires : goal.level-level-requires
level-level-requires g c = (Bdd, (c.in-Inner.ensures.opens Bdd c.requires.due.edge).in_range)

pub mark-requires : goal.mark-requires
mark-requires g c =
    let within = (c.in-Inner.ensures.opens Bdd c.requires.due.edge).within in let level = c.level-level.ensures.level in let vars = c.in-Inner.ensures.kept.grown.vars in let room = c.requires.due.walk.room in omega arith

-- the marked node
module _ (g : given.Over) (c : After-mark g) where
  abbrev first : State
  first = state_of (g.G.Grow.view c.args.store.now) c.args.stack.now

  kept : Kept (g.G.Grow.view c.args.store.now) (g.G.Grow.view c.level-level.new.self)
  kept = Kept-trans c.in-Inner.ensures.kept c.level-level.ensures.kept

  inner : IsInner Bdd (g.G.Grow.view c.level-level.new.self) c.args.task.f (bdd_at (g.G.Grow.view c.args.store.now) c.args.task.f) c.in-Inner.var c.in-Inner.hi c.in-Inner.lo
  inner = opened_later _ _ _ c.args.task.f c.in-Inner.hi c.in-Inner.lo c.in-Inner.var c.in-Inner.ensures.kept.grown c.level-level.ensures.kept.grown c.requires.due.edge (c.in-Inner.ensures.opens Bdd c.requires.due.edge)

  abbrev next : State
  next = record {
    view = g.G.Grow.view c.level-level.new.self;
    answers = c.args.stack.now.answers;
    marks = marked c.args.self.now.f first (g.G.Grow.view c.level-level.new.self) c.in-Inner.var kept.grown c.requires.due.walk
        (node_mark c.args.self.now.f first (g.G.Grow.view c.level-level.new.self) c.args.task c.in-Inner.var c.in-Inner.hi c.in-Inner.lo c.requires.due kept inner);
  }

  same : state_of (g.G.Grow.view c.level-level.new.self) c.mark.new.self ≡ next
  same = same_state _ c.mark.new.self _ _ c.mark.ensures.answers
      (c.mark.ensures.marks ∙ ap (λ l. set c.args.stack.now.marks l (Some c.in-Inner.var)) (c.level-level.ensures.level ∙ sym (level-grown c.level-level.ensures.kept.grown c.in-Inner.var)))

pub returns-clause-moved : goal.returns-clause-moved
returns-clause-moved g c =
    let at = (goal.at.returns-clause-moved g c).After-mark in
    subst (λ s. WalkMoves c.args.self.now.f (first g at) s) (sym (same g at)) (node_moves c.args.self.now.f (first g at) _ c.args.task c.in-Inner.var c.in-Inner.hi c.in-Inner.lo c.requires.due (kept g at) (inner g at))

pub returns-clause-next : goal.returns-clause-next
returns-clause-next g c =
    let at = (goal.at.returns-clause-next g c).After-mark in let lo = c.regular_task in let hi = c.regular_task-2 in
    record {
      waits = record {
        own = refl;
        step = node_waits c.args.self.now.f (first g at) _ c.args.task c.in-Inner.var c.in-Inner.hi c.in-Inner.lo c.requires.due (kept g at) (inner g at) hi.result lo.result hi.ensures lo.ensures _ (same g at);
      };
      due = then_due c.args.self.now.f (first g at) _ c.args.task c.in-Inner.var c.in-Inner.hi c.in-Inner.lo c.requires.due (kept g at) (inner g at) hi.result lo.result hi.ensures lo.ensures _ (same g at);
      less = then_less c.args.self.now.f (first g at) _ c.args.task c.in-Inner.var c.in-Inner.hi c.in-Inner.lo c.requires.due (kept g at) (inner g at) hi.result lo.result hi.ensures lo.ensures _ (same g at);
    }
