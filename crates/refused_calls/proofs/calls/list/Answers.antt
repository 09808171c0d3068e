use Rattle.std.proofs.Common.{[], ◌∷◌, rules}
use Rattle.std.proofs.lemmas.List.Elements.{All-cons, All-nil}
use Rattle.edge_bits.specs.declared.edges.Kind.TheVariants as kinds
use Rattle.dd_session.specs.Sessions.{IsLiveAs}
use Rattle.refused_calls.proofs.calls.list.Goals as goal

pub list-requires-clause-live : goal.list-requires-clause-live
list-requires-clause-live g c =
    let is_bdd = IsLiveAs kinds.Bdd c.args.session.now in
    let live = c.are_two.ensures (search rules) in
    All-cons is_bdd c.args.f (c.args.g ∷ []) live.0 (All-cons is_bdd c.args.g [] live.1 (All-nil is_bdd))
