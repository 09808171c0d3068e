use Rattle.std.proofs.Common.{◌∙◌, ◌∷◌, [], ap, length, length-append, rules, subst, sym, take}
use Rattle.std.proofs.lemmas.Slice.Zip.{zip_end, zip_turn}
use Rattle.function_laws.specs.Values.{assignment_of}
use Rattle.net_builds.specs.Standings.{IsLive}
use Rattle.net_builds.specs.Tellings.{values_in}
use Rattle.net_builds.proofs.Classed.{all_valued, bits_below, next_turned, next_valued}
use Rattle.net_builds.proofs.TellingLemmas.{asks_none, asks_on, held_asked}
use Rattle.net_builds.proofs.telling.values.Goals as goal

pub class_value-value-requires-clause-held : goal.class_value-value-requires-clause-held
class_value-value-requires-clause-held g c =
    let old = g.H.Host.standing c.args.session.now in
    let now = g.H.Host.standing c.loop-name.session in
    let name = c.in-Some.name.now in
    let turn = zip_turn c.args.names.now c.args.classes.now c.loop-name.yielded c.into_iter-name-iterator.result c.loop-name.name-iterator c.next.new.self c.next.result (search rules) (search rules)
    c.loop-name.yielded_by (c.in-Some.name, c.in-Some.class) c.in-Some.is (search rules) in
    held_asked old now c.loop-name.invariant.asks name (subst (IsLive old) (sym (turn.2 name)) (c.requires.may.held (length c.loop-name.yielded) name turn.0))

pub class_value-value-requires-clause-turned : goal.class_value-value-requires-clause-turned
class_value-value-requires-clause-turned g c =
    let old = g.H.Host.standing c.args.session.now in
    let now = g.H.Host.standing c.loop-name.session in
    let turn = zip_turn c.args.names.now c.args.classes.now c.loop-name.yielded c.into_iter-name-iterator.result c.loop-name.name-iterator c.next.new.self c.next.result (search rules) (search rules)
    c.loop-name.yielded_by (c.in-Some.name, c.in-Some.class) c.in-Some.is (search rules) in
    next_turned old now c.loop-name.invariant.asks c.args.names.now c.args.classes.now (length c.loop-name.yielded) (assignment_of c.args.bits.now) c.in-Some.name.now
    c.in-Some.class.now c.loop-name.values turn.0 turn.1 turn.2 turn.3 c.loop-name.invariant.values c.requires.may.classed (bits_below old c.args.bits.now c.requires.long)
    c.as_slice.result.now c.as_slice.ensures

pub loop-name-preserved : goal.loop-name-preserved
loop-name-preserved g c =
    let old = g.H.Host.standing c.args.session.now in
    let now = g.H.Host.standing c.loop-name.session in
    let names = c.args.names.now in
    let k = assignment_of c.args.bits.now in
    let asks = c.loop-name.invariant.asks in
    let turn = zip_turn names c.args.classes.now c.loop-name.yielded c.into_iter-name-iterator.result c.loop-name.name-iterator c.next.new.self c.next.result (search rules) (search rules)
    c.loop-name.yielded_by (c.in-Some.name, c.in-Some.class) c.in-Some.is (search rules) in
    record {
      own = c.class_value-value.ensures.own;
      asks = asks_on old now (g.H.Host.standing c.class_value-value.new.session) asks c.class_value-value.ensures.asks;
      values = next_valued old now asks names c.args.classes.now (length c.loop-name.yielded) k c.in-Some.name.now c.in-Some.class.now c.loop-name.values turn.0 turn.1 turn.2 turn.3
          c.loop-name.invariant.values c.class_value-value.result c.push.new.self c.class_value-value.ensures.value c.in_ok-push.ensures.ok
          ∙ ap (λ i. values_in old (take i names) k) (sym (length-append c.loop-name.yielded ((c.in-Some.name, c.in-Some.class) ∷ [])));
    }

pub returns-clause-values : goal.returns-clause-values
returns-clause-values g c =
    let old = g.H.Host.standing c.args.session.now in
    let names = c.args.names.now in
    let classes = c.args.classes.now in
    let end = zip_end names classes c.loop-name.yielded c.into_iter-name-iterator.result c.loop-name.name-iterator c.next.new.self c.next.result (search rules) (search rules)
    c.loop-name.yielded_by c.in-None.is (search rules) in
    all_valued old names classes c.requires.may.classed (length c.loop-name.yielded) (assignment_of c.args.bits.now) end c.loop-name.values c.loop-name.invariant.values

pub loop-name-init : goal.loop-name-init
loop-name-init g c = record { own = c.requires.may.own; asks = asks_none (g.H.Host.standing c.args.session.now); values = search rules }

pub returns-in_err-push-clause-asks : goal.returns-in_err-push-clause-asks
returns-in_err-push-clause-asks g c =
    asks_on (g.H.Host.standing c.args.session.now) (g.H.Host.standing c.loop-name.session) (g.H.Host.standing c.class_value-value.new.session) c.loop-name.invariant.asks c.class_value-value.ensures.asks
