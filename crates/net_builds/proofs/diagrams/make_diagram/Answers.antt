use Rattle.net_builds.proofs.StackLemmas.{stays_then, turned_none}
use Rattle.net_builds.proofs.diagrams.make_diagram.Goals as goal

pub name_roots-requires-clause-may : goal.name_roots-requires-clause-may
name_roots-requires-clause-may g c =
    let may = c.requires.may in
    let made = c.in_ok-make_lines.ensures in
    record {
      own = made.back.own;
      bounded = may.bounded;
      few = may.few;
      turned_are = turned_none c.args.dump.now (g.H.Host.standing c.make_lines.new.session) c.make_lines.new.made.items c.args.turned.now c.requires.unturned made.back.stack made.lines made.long;
    }

pub returns-clause-back : goal.returns-clause-back
returns-clause-back g c =
    stays_then g.H.Host.has g.H.Host.standing g.H.Host.tells c.args.host.now c.args.session.now c.make_lines.new.session c.name_roots.new.session c.name_roots.new.made.items c.name_roots.result
    c.in_ok-make_lines.ensures.back.works c.name_roots.ensures.back
