use Rattle.std.proofs.Common.{arith}
use Rattle.handle_count.proofs.FreePlaces.{put_in, put_last}
use Rattle.handle_count.proofs.rows.put.Goals as goal

pub returns-in-Some-clause-put : goal.returns-in-Some-clause-put
returns-in-Some-clause-put c = put_in c.args.places.now.items c.args.free.now.items c.pop.new.self.items c.in-Some.place c.args.row c.requires.free c.in-Some.ensures.items

pub returns-in-None-clause-put : goal.returns-in-None-clause-put
returns-in-None-clause-put c =
    put_last c.args.places.now.items c.push_reserved.new.self.items c.args.free.now.items c.pop.new.self.items c.len-place.result c.args.row (omega (arith, c.len-place.ensures)) c.push_reserved.ensures.items
    (omega (arith, c.in-None.ensures.cases.0)) (omega (arith, c.in-None.ensures.cases.1))
