use Rattle.net_builds.proofs.OutputNames.{built_live, built_rising, built_room, undone}
use Rattle.net_builds.proofs.signals.build_all.Goals as goal

pub let_go_rows-requires : goal.let_go_rows-requires
let_go_rows-requires g c =
    let left = c.in-Err.ensures.back.left in
    let net = c.args.net.now in
    let now = g.H.Host.standing c.make_rows.new.session in
    let rows = c.make_rows.new.rows in
    let built = left.builds.built in
    record {
      may = record {
        own = c.in-Err.ensures.back.own;
        room = built_room net c.args.last.now left.next now rows built c.requires.may.bounded;
        live = built_live net c.args.last.now left.next now rows built;
        rising = built_rising net c.args.last.now left.next now rows built;
      };
    }

pub returns-in-Err-clause-undone : goal.returns-in-Err-clause-undone
returns-in-Err-clause-undone g c =
    undone (g.H.Host.tells c.args.host.now) c.args.net.now c.args.last.now (g.H.Host.standing c.args.session.now) (g.H.Host.standing c.make_rows.new.session) (g.H.Host.standing c.let_go_rows.new.session)
    c.make_rows.new.rows c.in-Err.refusal c.in-Err.ensures.back.left c.let_go_rows.ensures.gone
