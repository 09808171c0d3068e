use Rattle.std.proofs.Common.{◌∙◌, ◌<◌, arith, length, refl, sym}
use Rattle.std.proofs.lemmas.Bool.Decides.{nat_tests}
use Rattle.std.proofs.lemmas.Option.{slice_get_read}
use Rattle.net_builds.proofs.Classed.{differs_unlike}
use Rattle.net_builds.proofs.TellingLemmas.{asks_none}
use Rattle.net_builds.proofs.telling.class_value.Goals as goal

pub returns-in-Some-clause-value : goal.returns-in-Some-clause-value
returns-in-Some-clause-value g c =
    let earlier = c.args.earlier.now in
    let first = c.in-Some.first.now in
    let inside : c.args.class.now.first < length earlier = grind (arith, nat_tests, c.in-Some.ensures.lookup.0) in
    let found = slice_get_read earlier (length earlier) c.args.class.now.first first refl inside c.in-Some.ensures.lookup.1 in
    differs_unlike first c.args.class.now.complement ∙ sym (c.requires.turned first found)

pub returns-in-Some-clause-asks : goal.returns-in-Some-clause-asks
returns-in-Some-clause-asks g c = asks_none (g.H.Host.standing c.args.session.now)
