use Rattle.std.proofs.Common.{ap, rules, ◌∙◌}
use Rattle.dd_session.specs.Sessions.{Managed}
use Rattle.refused_calls.proofs.Rows.{two_pairs}
use Rattle.refused_calls.proofs.calls.compose.Goals as goal

pub make-requires : goal.make-requires
make-requires g c =
    let live = c.are_three.ensures (search rules) in
    let three = ap (λ (m : Managed). m.vars) c.requires.own ∙ c.requires.sizes.0 in
    record {
      own = c.requires.own;
      room = c.has_room.ensures (search rules);
      can = (live.0, (two_pairs c.args.session.now c.args.first c.args.second three live.1 live.2, tt));
    }
