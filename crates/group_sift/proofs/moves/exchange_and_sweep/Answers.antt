use Rattle.std.proofs.Common.{sym, ap, ◌∙◌, arith}
use Rattle.function_laws.specs.Sizes.{Orders, in_order}
use Rattle.group_sift.specs.Settled.{measure_at}
use Rattle.group_sift.proofs.Rooms.{widths, room_forward, room_back}
use Rattle.group_sift.proofs.Settling.{settled_size, after_settled, few_more, has_room}
use Rattle.group_sift.proofs.Loosing.{loose_here, level_there, pass_on, passed_settled, passed_order, passed_fewer}
use Rattle.group_sift.proofs.moves.exchange_and_sweep.Goals as goal

pub swap_back_of-requires : goal.swap_back_of-requires
swap_back_of-requires g c =
    record {
      whole = c.requires.1.0.held.half;
      level = c.requires.1.1.0;
      room = has_room g.W.Whole.others g.met.W.Whole.others_both g.met.W.Whole.others_zero c.args.order g.start widths room_forward room_back
          (g.W.Whole.view c.args.w.now) c.requires.1.0 c.args.level c.requires.1.1.0 c.requires.1.1.1;
    }

pub sweep_in-requires : goal.sweep_in-requires
sweep_in-requires g c = record { idle = c.swap_back_of.ensures.sweeping ∙ c.requires.1.0.held.sweeping; whole = c.swap_back_of.ensures.half }

pub free_level-requires : goal.free_level-requires
free_level-requires g c = record {
  level = level_there g.W.Whole.others g.met.W.Whole.others_both g.met.W.Whole.others_zero c.args.order g.start c.args.level (g.W.Whole.view c.args.w.now) (g.W.Whole.view c.swap_back_of.new.w) (g.W.Whole.view c.sweep_in.new.self) c.requires.1.0 c.requires.1.1.0 c.swap_back_of.ensures c.sweep_in.ensures;
  loose = loose_here g.W.Whole.others g.met.W.Whole.others_both g.met.W.Whole.others_zero c.args.order g.start c.args.level (g.W.Whole.view c.args.w.now) (g.W.Whole.view c.swap_back_of.new.w) (g.W.Whole.view c.sweep_in.new.self) c.requires.1.0 c.requires.1.1.0 c.swap_back_of.ensures c.sweep_in.ensures;
}

pub sweep_out-requires : goal.sweep_out-requires
sweep_out-requires g c = pass_on g.W.Whole.others g.met.W.Whole.others_both g.met.W.Whole.others_zero c.args.order g.start c.args.level (g.W.Whole.view c.args.w.now) (g.W.Whole.view c.swap_back_of.new.w) (g.W.Whole.view c.sweep_in.new.self) c.requires.1.0 c.requires.1.1.0 c.swap_back_of.ensures c.sweep_in.ensures (g.W.Whole.view c.free_level.new.w) c.free_level.ensures

pub returns-clause-settled : goal.returns-clause-settled
returns-clause-settled g c =
    after_settled g.W.Whole.others g.met.W.Whole.others_both g.met.W.Whole.others_zero c.args.order g.start (g.W.Whole.view c.sweep_out.new.self) (g.W.Whole.view c.in_use.new.self)
    (passed_settled g.W.Whole.others g.met.W.Whole.others_both g.met.W.Whole.others_zero c.args.order g.start c.args.level (g.W.Whole.view c.args.w.now) (g.W.Whole.view c.swap_back_of.new.w) (g.W.Whole.view c.sweep_in.new.self) c.requires.1.0 c.requires.1.1.0 c.swap_back_of.ensures c.sweep_in.ensures (g.W.Whole.view c.free_level.new.w) (g.W.Whole.view c.sweep_out.new.self) c.free_level.ensures c.sweep_out.ensures) c.in_use.ensures.after

pub returns-clause-exchanged : goal.returns-clause-exchanged
returns-clause-exchanged g c =
    ap (λ (p : Orders). in_order p c.args.order) c.in_use.ensures.after.orders ∙ passed_order g.W.Whole.others g.met.W.Whole.others_both g.met.W.Whole.others_zero c.args.order g.start c.args.level (g.W.Whole.view c.args.w.now) (g.W.Whole.view c.swap_back_of.new.w) (g.W.Whole.view c.sweep_in.new.self) c.requires.1.0 c.requires.1.1.0 c.swap_back_of.ensures c.sweep_in.ensures (g.W.Whole.view c.free_level.new.w) (g.W.Whole.view c.sweep_out.new.self) c.free_level.ensures c.sweep_out.ensures

pub returns-clause-size : goal.returns-clause-size
returns-clause-size g c =
    c.in_use.ensures.in_use
    ∙ settled_size g.W.Whole.others g.met.W.Whole.others_both g.met.W.Whole.others_zero c.args.order g.start (g.W.Whole.view c.sweep_out.new.self) (passed_settled g.W.Whole.others g.met.W.Whole.others_both g.met.W.Whole.others_zero c.args.order g.start c.args.level (g.W.Whole.view c.args.w.now) (g.W.Whole.view c.swap_back_of.new.w) (g.W.Whole.view c.sweep_in.new.self) c.requires.1.0 c.requires.1.1.0 c.swap_back_of.ensures c.sweep_in.ensures (g.W.Whole.view c.free_level.new.w) (g.W.Whole.view c.sweep_out.new.self) c.free_level.ensures c.sweep_out.ensures)
    ∙ ap (λ (p : Orders). (measure_at c.args.order g.start).size_of (in_order p c.args.order)) (sym c.in_use.ensures.after.orders)

pub returns-clause-few : goal.returns-clause-few
returns-clause-few g c =
    let few = few_more g.W.Whole.others g.met.W.Whole.others_both g.met.W.Whole.others_zero c.args.order g.start widths c.args.level (g.W.Whole.view c.args.w.now) (g.W.Whole.view c.swap_back_of.new.w) (g.W.Whole.view c.sweep_out.new.self)
    c.requires.1.0 c.requires.1.1.0 c.swap_back_of.ensures (passed_fewer g.W.Whole.others g.met.W.Whole.others_both g.met.W.Whole.others_zero c.args.order g.start c.args.level (g.W.Whole.view c.args.w.now) (g.W.Whole.view c.swap_back_of.new.w) (g.W.Whole.view c.sweep_in.new.self) c.requires.1.0 c.requires.1.1.0 c.swap_back_of.ensures c.sweep_in.ensures (g.W.Whole.view c.free_level.new.w) (g.W.Whole.view c.sweep_out.new.self) c.free_level.ensures c.sweep_out.ensures) in
    let u = c.in_use.ensures.in_use in
    omega (arith, few, u)
