use Rattle.std.proofs.Common.{◌∷◌, []}
use Rattle.std.proofs.lemmas.List.Elements.{All-cons, All-nil}
use Rattle.edge_bits.specs.declared.edges.Kind.TheVariants as kinds
use Rattle.dd_session.specs.Sessions.{IsLiveAs}
use Rattle.session_tests.proofs.Listed.{few_of, writable_of}
use Rattle.session_tests.proofs.listings.list.Goals as goal

pub list-requires-clause-live : goal.list-requires-clause-live
list-requires-clause-live g c =
    let first = c.args.first in
    let second = c.args.second in
    let is_bdd = IsLiveAs kinds.Bdd c.args.session.now in
    All-cons is_bdd first (second ∷ []) c.ready.ensures.first (All-cons is_bdd second [] c.ready.ensures.second (All-nil is_bdd))

pub returns-clause-writable : goal.returns-clause-writable
returns-clause-writable g c = writable_of c.args.session.now c.list.new.self (c.args.first ∷ c.args.second ∷ []) c.list.result c.in-Ok.listing c.in-Ok.is c.list.ensures.told

pub returns-clause-few : goal.returns-clause-few
returns-clause-few g c = few_of c.args.session.now c.list.new.self (c.args.first ∷ c.args.second ∷ []) c.list.result c.in-Ok.listing c.in-Ok.is c.list.ensures.told
